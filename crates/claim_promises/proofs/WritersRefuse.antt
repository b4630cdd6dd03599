-- The numbers that a writer is refused by: 17 for fields, then 18 and 19; and after a refusal the buffer is what it was. Assumes nothing.
use Rattle.std.specs.Prelude.{Option, None, Some}
use Prim.Native.Nat.{ℕ, ◌+◌, ◌^◌}
use mathlib.Core.Bool.{Bool, true, false}
use mathlib.Core.Path.{◌≡◌, refl, sym, ◌∙◌}
use mathlib.Core.List.{List, [], ◌∷◌, ◌++◌}
use native.Mathlib.Omega.{arith}
use lib.ListN.{length}
use lib.Dec.{ltb, eqb}
use lib.IntN.{ℤ, pos, negsuc}
use Rattle.answer.specs.Answer.{Answer, answered, refused, pick}
use Rattle.answer.specs.Tables.{find, among}
use Rattle.answer.specs.Refusals.{listed, in_table, refusals}
use Rattle.field.specs.Bytes.{bytes}
use Rattle.field.specs.Indices.{no_type, no_id}
use Rattle.field_number.specs.Forms.{shortest, carried}
use Rattle.stream_header.specs.declared.Header.{Header}
use Rattle.record_layout.specs.Fields.{number, numeral, absent, many, Field, fixed, type, id, string_reference, optional_type, optional_id, word, gap, numeric, size, string, run, methods, members, when, run_bytes, word_after}
use Rattle.record_layout.specs.Layouts.{Layout, Table, member_leaves, method}
use Rattle.write_layout.specs.Runs.{no_zero}
use Rattle.write_layout.specs.Fields.{ToWrite, Encoded, bad, only, of_number, of_numeral, of_absent, of_many, fixed_bytes, optional_bytes, numeric_bytes, size_bytes, string_bytes, write_field, and_also, write_fields}
use Rattle.write_layout.specs.Records.{written_by, write_leaf, filled, record_bytes, limited, write_record}
use Rattle.write_layout.specs.Lists.{filled_each, member_bytes, ends_list, members_bytes, field_list_bytes, methods_bytes, method_list_bytes}
use Rattle.write_layout.specs.Buffer.{Written, lay, buffer_after, place_after, Writes}
use Rattle.write_pieces.specs.Pieces.{raw, fine, piece_of, pieces_of}
use Rattle.write_pieces.specs.declared.Piece.{Piece}
use Rattle.write_header.specs.Headers.{header_bytes}
use Rattle.claim_promises.specs.ByTable.{fits, gives, refuses, Refuses}
use Rattle.claim_promises.proofs.ByTable.{by-pick, by-stop, by-then, within, wider}

-- Fields: 17

abbrev pub of17 : List ℕ
of17 = 17 ∷ []

pub bad-refuses : Refuses of17 bad
unfolding fits among listed find in_table refusals
bad-refuses = refuses refl

only-refuses : (b : Bool) (bs : List ℕ) → Refuses of17 (only b bs)
only-refuses b bs = by-pick b gives bad-refuses

number-refuses : (v : ToWrite) (f : ℕ → Encoded) → ((n : ℕ) → Refuses of17 (f n)) → Refuses of17 (of_number v f)
number-refuses (number n) f h = h n
number-refuses (numeral z u) f h = bad-refuses
number-refuses absent f h = bad-refuses
number-refuses (many x) f h = bad-refuses

numeral-refuses : (v : ToWrite) (f : ℤ → Encoded) → ((z : ℤ) → Refuses of17 (f z)) → Refuses of17 (of_numeral v f)
numeral-refuses (number n) f h = bad-refuses
numeral-refuses (numeral z u) f h = h z
numeral-refuses absent f h = bad-refuses
numeral-refuses (many x) f h = bad-refuses

absent-refuses : (v : ToWrite) (bs : List ℕ) → Refuses of17 (of_absent v (answered bs))
absent-refuses (number n) bs = bad-refuses
absent-refuses (numeral z u) bs = bad-refuses
absent-refuses absent bs = gives
absent-refuses (many x) bs = bad-refuses

many-refuses : (v : ToWrite) (f : List ℕ → Encoded) → ((bs : List ℕ) → Refuses of17 (f bs)) → Refuses of17 (of_many v f)
many-refuses (number n) f h = bad-refuses
many-refuses (numeral z u) f h = bad-refuses
many-refuses absent f h = bad-refuses
many-refuses (many None) f h = bad-refuses
many-refuses (many (Some bs)) f h = h bs

fixed-refuses : (k n : ℕ) → Refuses of17 (fixed_bytes k n)
unfolding fixed_bytes
fixed-refuses k n = only-refuses (ltb n (256 ^ k)) (bytes k n)

optional-refuses : (nones : List ℕ) (v : ToWrite) → Refuses of17 (optional_bytes nones v)
unfolding optional_bytes
optional-refuses nones (number n) = by-pick (among n nones) bad-refuses (fixed-refuses 4 n)
optional-refuses nones (numeral z u) = bad-refuses
optional-refuses nones absent = gives
optional-refuses nones (many x) = bad-refuses

numeric-refuses : (z : ℤ) → Refuses of17 (numeric_bytes z)
unfolding numeric_bytes
numeric-refuses z = only-refuses (carried z) (shortest z)

size-refuses : (z : ℤ) → Refuses of17 (size_bytes z)
unfolding size_bytes
size-refuses (pos n) = numeric-refuses (pos n)
size-refuses (negsuc n) = bad-refuses

string-refuses : (bs : List ℕ) → Refuses of17 (string_bytes bs)
unfolding string_bytes
string-refuses bs = only-refuses (no_zero bs) (bs ++ (0 ∷ []))

field-refuses : (f : Field) (w : ℕ) (v : ToWrite) → Refuses of17 (write_field f w v)
unfolding write_field
field-refuses (fixed k) w v = number-refuses v (fixed_bytes k) (fixed-refuses k)
field-refuses type w v = number-refuses v (fixed_bytes 4) (fixed-refuses 4)
field-refuses id w v = number-refuses v (fixed_bytes 4) (fixed-refuses 4)
field-refuses string_reference w v = number-refuses v (fixed_bytes 4) (fixed-refuses 4)
field-refuses optional_type w v = optional-refuses no_type v
field-refuses optional_id w v = optional-refuses no_id v
field-refuses (word k good) w v = number-refuses v (λ n. pick (good n) (fixed_bytes k n) bad) (λ n. by-pick (good n) (fixed-refuses k n) bad-refuses)
field-refuses (gap k) w v = absent-refuses v (bytes k 0)
field-refuses numeric w v = numeral-refuses v numeric_bytes numeric-refuses
field-refuses size w v = numeral-refuses v size_bytes size-refuses
field-refuses string w v = many-refuses v string_bytes string-refuses
field-refuses (run e) w v = many-refuses v (λ bs. only (eqb (length bs) (run_bytes e w)) bs) (λ bs. only-refuses (eqb (length bs) (run_bytes e w)) bs)
field-refuses methods w v = absent-refuses v []
field-refuses members w v = absent-refuses v []
field-refuses (when there f) w v = by-pick (there w) (field-refuses f w v) (absent-refuses v [])

also-refuses : {ns : List ℕ} (a b : Encoded) → Refuses ns a → Refuses ns b → Refuses ns (and_also a b)
also-refuses a b p q = by-then p (λ x. by-then q (λ y. gives))

pub fields-refuse : (fs : List Field) (w : ℕ) (vs : List ToWrite) → Refuses of17 (write_fields fs w vs)
unfolding write_fields
fields-refuse [] w [] = gives
fields-refuse [] w (v ∷ vs) = bad-refuses
fields-refuse (f ∷ fs) w [] = bad-refuses
fields-refuse (f ∷ fs) w (v ∷ vs) = also-refuses (write_field f w v) (write_fields fs (word_after f v w) vs) (field-refuses f w v) (fields-refuse fs (word_after f v w) vs)

layout-refuses : (l : Option Layout) (vs : List ToWrite) → Refuses of17 (written_by l vs)
layout-refuses None vs = bad-refuses
layout-refuses (Some fs) vs = fields-refuse fs 0 vs

pub leaf-refuses : (table : Table) (vs : List ToWrite) → Refuses of17 (write_leaf table vs)
unfolding write_leaf
leaf-refuses table [] = bad-refuses
leaf-refuses table (number leaf ∷ vs) = also-refuses (fixed_bytes 2 leaf) (written_by (find leaf table) vs) (fixed-refuses 2 leaf) (layout-refuses (find leaf table) vs)
leaf-refuses table (numeral z u ∷ vs) = bad-refuses
leaf-refuses table (absent ∷ vs) = bad-refuses
leaf-refuses table (many x ∷ vs) = bad-refuses

-- Elements and pieces: 17

filled-refuses : (b : Encoded) → Refuses of17 b → Refuses of17 (filled_each b)
unfolding filled_each
filled-refuses b r = by-then r (λ bs. gives)

members-refuse : (ended : Bool) (vss : List (List ToWrite)) → Refuses of17 (members_bytes ended vss)
unfolding members_bytes member_bytes
members-refuse ended [] = gives
members-refuse true (vs ∷ vss) = bad-refuses
members-refuse false (vs ∷ vss) = also-refuses (member_bytes vs) (members_bytes (ends_list vs) vss) (filled-refuses (write_leaf member_leaves vs) (leaf-refuses member_leaves vs)) (members-refuse (ends_list vs) vss)

methods-refuse : (vss : List (List ToWrite)) → Refuses of17 (methods_bytes vss)
unfolding methods_bytes
methods-refuse [] = gives
methods-refuse (vs ∷ vss) = also-refuses (write_fields method 0 vs) (methods_bytes vss) (fields-refuse method 0 vs) (methods-refuse vss)

-- leaf and elements of a list
abbrev pub fields_in : List (List ToWrite) → Encoded
fields_in vss = and_also (fixed_bytes 2 0x1203) (members_bytes false vss)

abbrev pub methods_in : List (List ToWrite) → Encoded
methods_in vss = and_also (fixed_bytes 2 0x1206) (methods_bytes vss)

pub fields-in-refuse : (vss : List (List ToWrite)) → Refuses of17 (fields_in vss)
fields-in-refuse vss = also-refuses (fixed_bytes 2 0x1203) (members_bytes false vss) (fixed-refuses 2 0x1203) (members-refuse false vss)

pub methods-in-refuse : (vss : List (List ToWrite)) → Refuses of17 (methods_in vss)
methods-in-refuse vss = also-refuses (fixed_bytes 2 0x1206) (methods_bytes vss) (fixed-refuses 2 0x1206) (methods-refuse vss)

pub pieces-refuse : (t : List ℕ) (xs : List Piece) → Refuses of17 (pieces_of t xs)
unfolding pieces_of piece_of
pieces-refuse t [] = gives
pieces-refuse t (x ∷ xs) = also-refuses (piece_of t x) (pieces_of t xs) (only-refuses (fine t x) (raw t x)) (pieces-refuse t xs)

-- A record, or bytes without a length field: 18

abbrev pub of18 : List ℕ
of18 = 17 ∷ 18 ∷ []

pub record-refuses : (b : Encoded) → Refuses of17 b → Refuses of18 (record_bytes b)
unfolding record_bytes fits among listed find in_table refusals within
record-refuses b r = by-then (wider refl r) (λ bs. by-stop (ltb 65535 (length (filled bs))) 18 refl gives)

limited-refuses : (b : Encoded) → Refuses of17 b → Refuses of18 (limited b)
unfolding limited fits among listed find in_table refusals within
limited-refuses b r = by-then (wider refl r) (λ bs. by-stop (ltb 65535 (length bs)) 18 refl gives)

-- At a place of a buffer: 19

abbrev pub of19 : List ℕ
of19 = 17 ∷ 18 ∷ 19 ∷ []

lay-refuses : (b : Encoded) (o : List ℕ) (p : ℕ) → Refuses of18 b → Refuses of19 (lay b o p)
unfolding lay fits among listed find in_table refusals within
lay-refuses b o p r = by-then (wider refl r) (λ bs. by-stop (ltb (length o) (p + length bs)) 19 refl gives)

pub record-laid-refuses : (table : Table) (vs : List ToWrite) (o : List ℕ) (p : ℕ) → Refuses of19 (lay (write_record table vs) o p)
unfolding write_record
record-laid-refuses table vs o p = lay-refuses (record_bytes (write_leaf table vs)) o p (record-refuses (write_leaf table vs) (leaf-refuses table vs))

pub field-list-laid-refuses : (vss : List (List ToWrite)) (o : List ℕ) (p : ℕ) → Refuses of19 (lay (field_list_bytes vss) o p)
unfolding field_list_bytes
field-list-laid-refuses vss o p = lay-refuses (record_bytes (fields_in vss)) o p (record-refuses (fields_in vss) (fields-in-refuse vss))

pub method-list-laid-refuses : (vss : List (List ToWrite)) (o : List ℕ) (p : ℕ) → Refuses of19 (lay (method_list_bytes vss) o p)
unfolding method_list_bytes
method-list-laid-refuses vss o p = lay-refuses (record_bytes (methods_in vss)) o p (record-refuses (methods_in vss) (methods-in-refuse vss))

pub plain-laid-refuses : (t : List ℕ) (xs : List Piece) (o : List ℕ) (p : ℕ) → Refuses of19 (lay (limited (pieces_of t xs)) o p)
plain-laid-refuses t xs o p = lay-refuses (limited (pieces_of t xs)) o p (limited-refuses (pieces_of t xs) (pieces-refuse t xs))

pub filled-laid-refuses : (t : List ℕ) (xs : List Piece) (o : List ℕ) (p : ℕ) → Refuses of19 (lay (limited (filled_each (pieces_of t xs))) o p)
filled-laid-refuses t xs o p =
    lay-refuses (limited (filled_each (pieces_of t xs))) o p
    (limited-refuses (filled_each (pieces_of t xs)) (filled-refuses (pieces_of t xs) (pieces-refuse t xs)))

pub pieces-laid-refuses : (t : List ℕ) (xs : List Piece) (o : List ℕ) (p : ℕ) → Refuses of19 (lay (record_bytes (pieces_of t xs)) o p)
pieces-laid-refuses t xs o p = lay-refuses (record_bytes (pieces_of t xs)) o p (record-refuses (pieces_of t xs) (pieces-refuse t xs))

-- The header: 2 to 5, and 19

abbrev pub of_header : List ℕ
of_header = 2 ∷ 3 ∷ 4 ∷ 5 ∷ 19 ∷ []

pub header-laid-refuses : (h : Header) (o : List ℕ) (p : ℕ) → Refuses of_header (lay (header_bytes h) o p)
unfolding lay header_bytes fits among listed find in_table refusals
header-laid-refuses h o p =
    by-then
    (by-stop (ltb h.header_size 56) 2 refl
    (by-stop (ltb 1024 h.header_size) 3 refl
    (by-stop (ltb h.minimum_index 4096) 4 refl
    (by-stop (ltb h.maximum_index h.minimum_index) 5 refl
    gives))))
    (λ bs. by-stop (ltb (length o) (p + length bs)) 19 refl gives)

-- The buffer, after what was not written

buffer-of : (o : List ℕ) (w : Answer Written) (n : ℕ) (d : List ℕ) → place_after w ≡ refused n d → buffer_after o w ≡ o
buffer-of o (answered x) n d e = let z : ◌≡◌ {A = ℕ} 0 1 = cc in absurd (omega arith)
buffer-of o (refused m x) n d e = refl

pub writes_nothing : (o : List ℕ) (w : Answer Written) (r : Answer ℕ) (o' : List ℕ) (n : ℕ) (d : List ℕ) → Writes o w r o' → r ≡ refused n d → o' ≡ o
writes_nothing o w r o' n d l e = l.left ∙ buffer-of o w n d (sym l.answer ∙ e)
