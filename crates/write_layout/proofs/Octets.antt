-- What is written is bytes, or 17 and nothing else, where the strings and runs given are bytes. Assumes nothing.
use Rattle.std.specs.Prelude.{Option, None, Some}
use Prim.Native.Nat.{ℕ, zero, suc, ◌-◌, ◌^◌}
use native.Mathlib.Omega.{arith}
use mathlib.Core.Bool.{Bool, true, false}
use mathlib.Core.Path.{◌≡◌, refl}
use mathlib.Core.List.{List, [], ◌∷◌, ◌++◌}
use lib.ListN.{length}
use lib.Dec.{ltb, eqb}
use lib.IntN.{ℤ, pos, negsuc}
use Rattle.answer.specs.Answer.{answered, refused, pick}
use Rattle.answer.specs.Tables.{find, among}
use Rattle.field.specs.Bytes.{bytes}
use Rattle.field.specs.Indices.{no_type, no_id}
use Rattle.field.proofs.ByteLaws.{bytes_small}
use Rattle.field_number.specs.Forms.{prefixed, shortest, carried, AllBytes}
use Rattle.record_layout.specs.Fields.{number, numeral, absent, many, Field, fixed, type, id, string_reference, optional_type, optional_id, word, gap, numeric, size, string, run, methods, members, when, run_bytes, word_after}
use Rattle.record_layout.specs.Layouts.{Layout, Table}
use Rattle.write_layout.specs.Runs.{no_zero}
use Rattle.write_layout.specs.Fields.{ToWrite, Encoded, bad, only, of_number, of_numeral, of_absent, of_many, fixed_bytes, optional_bytes, numeric_bytes, size_bytes, string_bytes, write_field, and_also, write_fields}
use Rattle.write_layout.specs.Records.{written_by, write_leaf}
use Rattle.write_layout.specs.RoundTrip.{InBytes, AllInBytes}

pub both_small : (xs ys : List ℕ) → AllBytes xs → AllBytes ys → AllBytes (xs ++ ys)
both_small [] ys f g i = g i
both_small (x ∷ xs) ys f g zero = f 0
both_small (x ∷ xs) ys f g (suc i) = both_small xs ys (λ j. f (suc j)) g i

none-small : AllBytes []
none-small i = omega arith

zero-small : AllBytes (0 ∷ [])
zero-small zero = omega arith
zero-small (suc i) = omega arith

wide-small : (prefix k n : ℕ) → AllBytes (prefixed prefix k n)
wide-small prefix k n = both_small (bytes 2 prefix) (bytes k n) (bytes_small 2 prefix) (bytes_small k n)

four : (a b c : Bool) (w x y z : List ℕ) → AllBytes w → AllBytes x → AllBytes y → AllBytes z → AllBytes (pick a w (pick b x (pick c y z)))
four true b c w x y z f g h i = f
four false true c w x y z f g h i = g
four false false true w x y z f g h i = h
four false false false w x y z f g h i = i

shortest-small : (z : ℤ) → AllBytes (shortest z)
unfolding shortest
shortest-small (pos n) =
    four (ltb n 0x8000) (ltb n (2 ^ 16)) (ltb n (2 ^ 32)) _ _ _ _
    (bytes_small 2 n) (wide-small 0x8002 2 n) (wide-small 0x8004 4 n) (wide-small 0x800a 8 n)
shortest-small (negsuc n) =
    four (ltb n (2 ^ 7)) (ltb n (2 ^ 15)) (ltb n (2 ^ 31)) _ _ _ _
    (wide-small 0x8000 1 (2 ^ 8 - suc n)) (wide-small 0x8001 2 (2 ^ 16 - suc n)) (wide-small 0x8003 4 (2 ^ 32 - suc n)) (wide-small 0x8009 8 (2 ^ 64 - suc n))

-- bytes below 256, or 17
abbrev pub Sound : Encoded → Type 0
Sound (answered bs) = AllBytes bs
Sound (refused n d) = ◌≡◌ {A = Encoded} (refused n d) bad

pick-sound : (c : Bool) (a b : Encoded) → Sound a → Sound b → Sound (pick c a b)
pick-sound true a b x y = x
pick-sound false a b x y = y

only-sound : (c : Bool) (bs : List ℕ) → AllBytes bs → Sound (only c bs)
only-sound c bs h = pick-sound c (answered bs) bad h refl

number-sound : (v : ToWrite) (f : ℕ → Encoded) → ((n : ℕ) → Sound (f n)) → Sound (of_number v f)
number-sound (number n) f h = h n
number-sound (numeral z u) f h = refl
number-sound absent f h = refl
number-sound (many x) f h = refl

numeral-sound : (v : ToWrite) (f : ℤ → Encoded) → ((z : ℤ) → Sound (f z)) → Sound (of_numeral v f)
numeral-sound (number n) f h = refl
numeral-sound (numeral z u) f h = h z
numeral-sound absent f h = refl
numeral-sound (many x) f h = refl

absent-sound : (v : ToWrite) (b : Encoded) → Sound b → Sound (of_absent v b)
absent-sound (number n) b h = refl
absent-sound (numeral z u) b h = refl
absent-sound absent b h = h
absent-sound (many x) b h = refl

many-sound : (v : ToWrite) (f : List ℕ → Encoded) → InBytes v → ((bs : List ℕ) → AllBytes bs → Sound (f bs)) → Sound (of_many v f)
many-sound (number n) f i h = refl
many-sound (numeral z u) f i h = refl
many-sound absent f i h = refl
many-sound (many None) f i h = refl
many-sound (many (Some bs)) f i h = h bs i

fixed-sound : (k n : ℕ) → Sound (fixed_bytes k n)
unfolding fixed_bytes
fixed-sound k n = only-sound (ltb n (256 ^ k)) (bytes k n) (bytes_small k n)

optional-sound : (nones : List ℕ) (v : ToWrite) → Sound (optional_bytes nones v)
unfolding optional_bytes
optional-sound nones (number n) = pick-sound (among n nones) bad (fixed_bytes 4 n) refl (fixed-sound 4 n)
optional-sound nones (numeral z u) = refl
optional-sound nones absent = bytes_small 4 0
optional-sound nones (many x) = refl

numeric-sound : (z : ℤ) → Sound (numeric_bytes z)
unfolding numeric_bytes
numeric-sound z = only-sound (carried z) (shortest z) (shortest-small z)

size-sound : (z : ℤ) → Sound (size_bytes z)
unfolding size_bytes
size-sound (pos n) = numeric-sound (pos n)
size-sound (negsuc n) = refl

string-sound : (bs : List ℕ) → AllBytes bs → Sound (string_bytes bs)
unfolding string_bytes
string-sound bs h = only-sound (no_zero bs) (bs ++ (0 ∷ [])) (both_small bs (0 ∷ []) h zero-small)

field-sound : (f : Field) (w : ℕ) (v : ToWrite) → InBytes v → Sound (write_field f w v)
unfolding write_field
field-sound (fixed k) w v i = number-sound v (fixed_bytes k) (fixed-sound k)
field-sound type w v i = number-sound v (fixed_bytes 4) (fixed-sound 4)
field-sound id w v i = number-sound v (fixed_bytes 4) (fixed-sound 4)
field-sound string_reference w v i = number-sound v (fixed_bytes 4) (fixed-sound 4)
field-sound optional_type w v i = optional-sound no_type v
field-sound optional_id w v i = optional-sound no_id v
field-sound (word k good) w v i = number-sound v (λ n. pick (good n) (fixed_bytes k n) bad) (λ n. pick-sound (good n) (fixed_bytes k n) bad (fixed-sound k n) refl)
field-sound (gap k) w v i = absent-sound v (answered (bytes k 0)) (bytes_small k 0)
field-sound numeric w v i = numeral-sound v numeric_bytes numeric-sound
field-sound size w v i = numeral-sound v size_bytes size-sound
field-sound string w v i = many-sound v string_bytes i string-sound
field-sound (run e) w v i = many-sound v (λ bs. only (eqb (length bs) (run_bytes e w)) bs) i (λ bs h. only-sound (eqb (length bs) (run_bytes e w)) bs h)
field-sound methods w v i = absent-sound v (answered []) none-small
field-sound members w v i = absent-sound v (answered []) none-small
field-sound (when there f) w v i = pick-sound (there w) (write_field f w v) (of_absent v (answered [])) (field-sound f w v i) (absent-sound v (answered []) none-small)

also-sound : (a b : Encoded) → Sound a → Sound b → Sound (and_also a b)
also-sound (answered x) (answered y) f g = both_small x y f g
also-sound (answered x) (refused n d) f g = g
also-sound (refused n d) b f g = f

fields-sound : (fs : List Field) (w : ℕ) (vs : List ToWrite) → AllInBytes vs → Sound (write_fields fs w vs)
unfolding write_fields AllInBytes
fields-sound [] w [] i = none-small
fields-sound [] w (v ∷ vs) i = refl
fields-sound (f ∷ fs) w [] i = refl
fields-sound (f ∷ fs) w (v ∷ vs) i = also-sound (write_field f w v) (write_fields fs (word_after f v w) vs) (field-sound f w v i.0) (fields-sound fs (word_after f v w) vs i.1)

layout-sound : (l : Option Layout) (vs : List ToWrite) → AllInBytes vs → Sound (written_by l vs)
layout-sound None vs i = refl
layout-sound (Some fs) vs i = fields-sound fs 0 vs i

pub leaf-sound : (table : Table) (vs : List ToWrite) → AllInBytes vs → Sound (write_leaf table vs)
unfolding write_leaf AllInBytes
leaf-sound table [] i = refl
leaf-sound table (number leaf ∷ vs) i = also-sound (fixed_bytes 2 leaf) (written_by (find leaf table) vs) (fixed-sound 2 leaf) (layout-sound (find leaf table) vs i.1)
leaf-sound table (numeral z u ∷ vs) i = refl
leaf-sound table (absent ∷ vs) i = refl
leaf-sound table (many x ∷ vs) i = refl
