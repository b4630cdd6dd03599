-- R-1 of document 02: what writing the fields of a record means, beside what reading them means in record_layout/specs/Fields.antt, and by the
-- same table of layouts.
--
-- Strings and the elements of counted lists are given as parts of a lent text. `given` puts the bytes in place of the part; none where the part
-- passes the end of the text. 17 is for what would not read back.
use Rattle.std.specs.Prelude.{Option, None, Some, ℕ, ◌+◌, ◌^◌, Bool, true, false, List, [], ◌∷◌, ◌++◌, length, leb, ltb, eqb, ℤ, pos, negsuc}
use Rattle.answer.specs.Answer.{Answer, answered, refused, pick, then}
use Rattle.answer.specs.Tables.{among}
use Rattle.field.specs.Bytes.{bytes}
use Rattle.field.specs.Indices.{no_type, no_id}
use Rattle.field_text.specs.Texts.{Part}
use Rattle.field_number.specs.Forms.{shortest, carried}
use Rattle.record_layout.specs.Fields.{Value, number, numeral, absent, many, Field, fixed, type, id, string_reference, optional_type, optional_id, word, gap, numeric, size, string, run, methods, members, when, run_bytes, word_after}
use Rattle.write_layout.specs.Runs.{part_at, no_zero}

-- Values to write -------------------------------------------------------------------------------------------------------------

-- What is many bytes is the bytes themselves, none where the part passed the end. Nobody can give a form: a number is written in the shortest
abbrev pub ToWrite : Type 0
ToWrite = Value (Option (List ℕ)) (Unit {0})

unfoldable pub bytes_in : List ℕ → Part → Option (List ℕ)
bytes_in t x = pick (leb (x.place + x.length) (length t)) (Some (part_at t x.place x.length)) None

-- a value that was read, or that a caller has, with the text that its parts lie in
abbrev pub given : {W : Type 0} → List ℕ → Value Part W → ToWrite
given t (number n) = number n
given t (numeral z f) = numeral z tt
given t absent = absent
given t (many x) = many (bytes_in t x)

abbrev pub given_all : {W : Type 0} → List ℕ → List (Value Part W) → List ToWrite
given_all t [] = []
given_all t (v ∷ vs) = given t v ∷ given_all t vs

-- Bytes or 17 -----------------------------------------------------------------------------------------------------------------

abbrev pub Encoded : Type 0
Encoded = Answer (List ℕ)

abbrev pub bad : Encoded
bad = refused 17 []

-- whether they are bytes; and the bytes, none where they are refused
abbrev pub encodes : Encoded → Bool
encodes (answered bs) = true
encodes (refused n d) = false

abbrev pub encoded_bytes : Encoded → List ℕ
encoded_bytes (answered bs) = bs
encoded_bytes (refused n d) = []

-- the bytes if the test passes
abbrev pub only : Bool → List ℕ → Encoded
only test bs = pick test (answered bs) bad

-- of a value of this kind; any other is 17
abbrev pub of_number : ToWrite → (ℕ → Encoded) → Encoded
of_number (number n) f = f n
of_number (numeral z u) f = bad
of_number absent f = bad
of_number (many x) f = bad

abbrev pub of_numeral : ToWrite → (ℤ → Encoded) → Encoded
of_numeral (number n) f = bad
of_numeral (numeral z u) f = f z
of_numeral absent f = bad
of_numeral (many x) f = bad

abbrev pub of_absent : ToWrite → Encoded → Encoded
of_absent (number n) b = bad
of_absent (numeral z u) b = bad
of_absent absent b = b
of_absent (many x) b = bad

abbrev pub of_many : ToWrite → (List ℕ → Encoded) → Encoded
of_many (number n) f = bad
of_many (numeral z u) f = bad
of_many absent f = bad
of_many (many None) f = bad
of_many (many (Some bs)) f = f bs

-- a number of k bytes
unfoldable pub fixed_bytes : ℕ → ℕ → Encoded
fixed_bytes k n = only (ltb n (256 ^ k)) (bytes k n)

-- an index that may be none, which is written as 0; a present one that reads as none is 17
unfoldable pub optional_bytes : List ℕ → ToWrite → Encoded
optional_bytes nones (number n) = pick (among n nones) bad (fixed_bytes 4 n)
optional_bytes nones (numeral z u) = bad
optional_bytes nones absent = answered (bytes 4 0)
optional_bytes nones (many x) = bad

-- a numeric leaf, in the shortest form; one that may not be negative
unfoldable pub numeric_bytes : ℤ → Encoded
numeric_bytes z = only (carried z) (shortest z)

unfoldable pub size_bytes : ℤ → Encoded
size_bytes (pos n) = numeric_bytes (pos n)
size_bytes (negsuc n) = bad

unfoldable pub string_bytes : List ℕ → Encoded
string_bytes bs = only (no_zero bs) (bs ++ (0 ∷ []))

-- Fields ------------------------------------------------------------------------------------------------------------------------

-- The bytes of a field, where w is the word. The elements of 0x1206 and 0x1203, which reading a record takes unread, are none here: Lists.antt
-- has these records with their elements
unfoldable pub write_field : Field → ℕ → ToWrite → Encoded
write_field (fixed k) w v = of_number v (fixed_bytes k)
write_field type w v = of_number v (fixed_bytes 4)
write_field id w v = of_number v (fixed_bytes 4)
write_field string_reference w v = of_number v (fixed_bytes 4)
write_field optional_type w v = optional_bytes no_type v
write_field optional_id w v = optional_bytes no_id v
write_field (word k good) w v = of_number v (λ n. pick (good n) (fixed_bytes k n) bad)
write_field (gap k) w v = of_absent v (answered (bytes k 0))
write_field numeric w v = of_numeral v numeric_bytes
write_field size w v = of_numeral v size_bytes
write_field string w v = of_many v string_bytes
write_field (run e) w v = of_many v (λ bs. only (eqb (length bs) (run_bytes e w)) bs)
write_field methods w v = of_absent v (answered [])
write_field members w v = of_absent v (answered [])
write_field (when there f) w v = pick (there w) (write_field f w v) (of_absent v (answered []))

-- one after the other
abbrev pub and_also : Encoded → Encoded → Encoded
and_also a b = then a (λ x. then b (λ y. answered (x ++ y)))

-- fields in order, a value for each
unfoldable pub write_fields : List Field → ℕ → List ToWrite → Encoded
write_fields [] w [] = answered []
write_fields [] w (v ∷ vs) = bad
write_fields (f ∷ fs) w [] = bad
write_fields (f ∷ fs) w (v ∷ vs) = and_also (write_field f w v) (write_fields fs (word_after f v w) vs)
