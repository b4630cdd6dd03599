-- Document 01, "Examples": stream E.
use Rattle.std.specs.Prelude.{ℕ, List, [], ◌∷◌, ◌++◌, replicate}

-- n below 65,536, in four bytes
abbrev pub four : ℕ → ℕ → List ℕ
four low high = low ∷ high ∷ 0 ∷ 0 ∷ []

-- a header of 56 bytes: version 20040203, this size, minimum 4096, maximum 4098, gprec_size 22, all else zero
abbrev pub header_e : List ℕ → List ℕ
header_e size = (0x0b ∷ 0xca ∷ 0x31 ∷ 0x01 ∷ []) ++ (size ++ (four 0x00 0x10 ++ (four 0x02 0x10 ++ (four 22 0 ++ replicate 36 0))))

-- the 78 bytes of E
abbrev pub stream_e : List ℕ
stream_e =
    header_e (four 56 0)
    ++ (0x08 ∷ 0x00 ∷ 0x01 ∷ 0x10 ∷ 0x74 ∷ 0x00 ∷ 0x00 ∷ 0x00 ∷ 0x01 ∷ 0x00 ∷ 0x0a ∷ 0x00 ∷ 0x02 ∷ 0x10 ∷ 0x00 ∷ 0x10 ∷ 0x00 ∷ 0x00 ∷ 0x0c ∷ 0x00 ∷ 0x01 ∷ 0x00 ∷ [])
