-- Some bytes at a place of a list of bytes: the place after them, and the bytes themselves.
use Rattle.std.specs.Prelude.{ℕ, ◌+◌, List, [], length, take, drop, ltb}
use Rattle.answer.specs.Answer.{Answer, answered, pick, stop}

-- the place after n bytes at p; 1 where they pass the end
unfoldable pub bytes_after : ℕ → List ℕ → ℕ → Answer ℕ
bytes_after n s p = stop (ltb (length s) (p + n)) 1 (answered (p + n))

-- the n bytes at p; none where they pass the end
unfoldable pub bytes_at : ℕ → List ℕ → ℕ → List ℕ
bytes_at n s p = pick (ltb (length s) (p + n)) [] (take n (drop p s))
