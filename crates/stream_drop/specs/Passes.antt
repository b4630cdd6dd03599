-- What each pass over the records leaves in the lent table and the lent buffer, step by step. proofs/PassLaws.antt and what follows it have that
-- of a fit stream this is specs/Drop.antt.
use Rattle.std.specs.Prelude.{ℕ, zero, suc, ◌+◌, ◌-◌, ◌%◌, Bool, true, false, List, [], ◌∷◌, length, get_or, set, leb, ltb, eqb}
use Rattle.answer.specs.Answer.{pick}
use Rattle.field.specs.Bytes.{bytes}
use Rattle.field.specs.Runs.{bytes_at}
use Rattle.stream_drop.specs.Each.{Held, held_of, raised, laid, done_of}
use Rattle.stream_drop.specs.declared.each.Job.TheVariants as job
use Rattle.stream_drop.specs.declared.passes.Count.{Count}

-- the lengths of payloads, from entry i on
unfoldable pub lengths_in : ℕ → List (List ℕ) → List ℕ → List ℕ
lengths_in i [] t = t
lengths_in i (p ∷ ps) t = lengths_in (i + 1) ps (set t i (length p % 65536))

-- the marks of the roots
abbrev pub rooted : ℕ → ℕ → List ℕ → List ℕ
rooted minimum x t = pick (ltb x minimum) t (raised t (x - minimum))

unfoldable pub roots_in : ℕ → List ℕ → List ℕ → List ℕ
roots_in minimum [] t = t
roots_in minimum (x ∷ xs) t = roots_in minimum xs (rooted minimum x t)

-- the pass down: of i records that end at place e, the last first
abbrev pub visited : ℕ → List ℕ → ℕ → ℕ → Held → Held
visited minimum s e place x = pick (ltb e 65536) x (done_of minimum job.Mark (bytes_at (e % 65536) s place) x)

unfoldable pub down_from : ℕ → List ℕ → ℕ → ℕ → Held → Held
down_from minimum s zero e x = x
down_from minimum s (suc i) e x =
    down_from minimum s i (e - get_or x.table i 0 % 65536 - 2) (visited minimum s (get_or x.table i 0) (e - get_or x.table i 0 % 65536) x)

-- the new numbers, from entry i on: the table, the next number, and the bytes of the links that are kept
pub record Numbered : Type 0 where
  pub table : List ℕ
  pub next : ℕ
  pub bytes : ℕ

abbrev pub numbered_to : List ℕ → Count → Numbered
numbered_to t k = record { table = t; next = k.next; bytes = k.bytes }

unfoldable pub numbered_at : ℕ → Numbered → Numbered
numbered_at i x =
    pick (ltb (get_or x.table i 0) 65536) (record { table = set x.table i 0; next = x.next; bytes = x.bytes })
    (record { table = set x.table i x.next; next = x.next + 1; bytes = x.bytes + 2 + get_or x.table i 0 % 65536 })

unfoldable pub number_from : ℕ → ℕ → Numbered → Numbered
number_from zero i x = x
number_from (suc n) i x = number_from n (i + 1) (numbered_at i x)

-- a payload behind its length, at place q of a buffer
unfoldable pub link_laid : List ℕ → ℕ → List ℕ → List ℕ
link_laid p q b = laid (laid b q (bytes 2 (length p % 65536))) (q + 2) p

-- the pass up, from record i on, which goes to place q if it is kept
abbrev pub place_behind : ℕ → ℕ → List ℕ → ℕ
place_behind q kept p = pick (eqb kept 0) q (q + 2 + length p % 65536)

abbrev pub kept_at : ℕ → Bool → ℕ → List ℕ → Held → Held
kept_at minimum true q p x = done_of minimum (job.Write (q + 2)) p (held_of x.good x.table (link_laid p q x.out))
kept_at minimum false q p x = done_of minimum job.Ask p x

abbrev pub up_at : ℕ → Bool → ℕ → ℕ → List ℕ → Held → Held
up_at minimum writing q kept p x = pick (eqb kept 0) x (kept_at minimum writing q p x)

unfoldable pub up_from : ℕ → Bool → ℕ → ℕ → List (List ℕ) → Held → Held
up_from minimum writing i q [] x = x
up_from minimum writing i q (p ∷ ps) x =
    up_from minimum writing (i + 1) (place_behind q (get_or x.table i 0) p) ps (up_at minimum writing q (get_or x.table i 0) p x)

-- Together --------------------------------------------------------------------------------------------------------------------------------

-- lengths, roots, and the pass down, of n records with these payloads
unfoldable pub marked_in : ℕ → List ℕ → ℕ → List (List ℕ) → List ℕ → List ℕ → List ℕ → Held
marked_in minimum s n ps roots t b = down_from minimum s n (length s) (held_of true (roots_in minimum roots (lengths_in 0 ps t)) b)

-- where the numbers end at or below 0xffff, none has become it, and nothing is asked
unfoldable pub asked_in : ℕ → ℕ → ℕ → List (List ℕ) → Held → Held
asked_in minimum next start ps x = pick (leb next 0xffff) x (up_from minimum false 0 start ps x)

-- the header with another maximum, and the kept records
unfoldable pub written_in : ℕ → ℕ → ℕ → List ℕ → List (List ℕ) → List ℕ → List ℕ → Held
written_in minimum next start s ps t b = up_from minimum true 0 start ps (held_of true t (laid (laid b 0 (bytes_at start s 0)) 12 (bytes 4 next)))
