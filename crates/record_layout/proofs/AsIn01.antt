-- Values, places and refusals of every layout are those of 01, whatever is said of a number's form. Assumes nothing.
use Rattle.std.specs.Prelude.{Option, None, Some}
use Prim.Native.Nat.{ℕ, ◌-◌}
use mathlib.Core.Bool.{Bool, true, false}
use mathlib.Core.Path.{◌≡◌, refl, ap, ◌∙◌}
use mathlib.Core.List.{List, [], ◌∷◌, map}
use lib.IntN.{ℤ, pos}
use Rattle.answer.specs.Answer.{Answer, answered, refused, Read, got, pick, then, and_then}
use Rattle.field.specs.Fields.{fixed_at}
use Rattle.field.specs.Indices.{no_type, no_id, optional_at}
use Rattle.field.specs.Runs.{bytes_after}
use Rattle.field_text.specs.Texts.{Part, string_at}
use Rattle.field_number.specs.Numbers.{numeric_at, size_at}
use Rattle.field_number.specs.Forms.{Form, form_of, Numeral, numeral_by, sized_by}
use Rattle.record_layout.specs.Fields.{Value, Shown, number, numeral, absent, many, or_absent, Field, fixed, type, id, string_reference, optional_type, optional_id, word, gap, numeric, size, string, run, methods, members, when, run_bytes, word_after, read_field_by, read_fields_by, unsaid, plain, AsIn01}

abbrev Bare : Type 0
Bare = Value Part (Unit {0})

-- reading with the forms left out
abbrev bare : Read Shown → Read Bare
bare a = and_then a (λ v q. got (plain v) q)

-- whatever was read, what is made of it is the same but for the forms
made : {A : Type 0} (f : A → ℕ → Read Shown) (g : A → ℕ → Read Bare) → ((x : A) (q : ℕ) → bare (f x q) ≡ g x q)
    → (a : Read A) → bare (and_then a f) ≡ and_then a g
made f g h (answered x) = h x.value x.next
made f g h (refused n d) = refl

made_then : {A : Type 0} (f : A → Read Shown) (g : A → Read Bare) → ((x : A) → bare (f x) ≡ g x)
    → (a : Answer A) → bare (then a f) ≡ then a g
made_then f g h (answered x) = h x
made_then f g h (refused n d) = refl

optional : (o : Option ℕ) (q : ℕ) → bare (got (or_absent o) q) ≡ got (or_absent o) q
optional None q = refl
optional (Some n) q = refl

-- the word after a field is the same too
word_kept : (f : Field) (v : Shown) (w : ℕ) → word_after f v w ≡ word_after f (plain v) w
word_kept (word k good) (number n) w = refl
word_kept (word k good) (numeral z f) w = refl
word_kept (word k good) absent w = refl
word_kept (word k good) (many x) w = refl
word_kept (fixed k) v w = refl
word_kept type v w = refl
word_kept id v w = refl
word_kept string_reference v w = refl
word_kept optional_type v w = refl
word_kept optional_id v w = refl
word_kept (gap k) v w = refl
word_kept numeric v w = refl
word_kept size v w = refl
word_kept string v w = refl
word_kept (run e) v w = refl
word_kept methods v w = refl
word_kept members v w = refl
word_kept (when there f) v w = refl

numeric-in-01 : (w : ℕ) (s : List ℕ) (p : ℕ) → bare (read_field_by form_of numeric w s p) ≡ read_field_by unsaid numeric w s p
unfolding read_field_by numeral_by
numeric-in-01 w s p = go (numeric_at s p)
  where
    go : (a : Read ℤ)
        → bare (and_then (and_then a (λ z q. got {A = Numeral ℤ Form} (record { value = z; form = form_of z (q - p) }) q)) (λ x q. got (numeral x.value x.form) q))
        ≡ and_then (and_then a (λ z q. got {A = Numeral ℤ (Unit {0})} (record { value = z; form = tt }) q)) (λ x q. got (numeral x.value x.form) q)
    go (answered g) = refl
    go (refused n d) = refl

size-in-01 : (w : ℕ) (s : List ℕ) (p : ℕ) → bare (read_field_by form_of size w s p) ≡ read_field_by unsaid size w s p
unfolding read_field_by sized_by
size-in-01 w s p = go (size_at s p)
  where
    go : (a : Read ℕ)
        → bare (and_then (and_then a (λ n q. got {A = Numeral ℕ Form} (record { value = n; form = form_of (pos n) (q - p) }) q)) (λ x q. got (numeral (pos x.value) x.form) q))
        ≡ and_then (and_then a (λ n q. got {A = Numeral ℕ (Unit {0})} (record { value = n; form = tt }) q)) (λ x q. got (numeral (pos x.value) x.form) q)
    go (answered g) = refl
    go (refused n d) = refl

field-in-01 : (f : Field) (w : ℕ) (s : List ℕ) (p : ℕ) → bare (read_field_by form_of f w s p) ≡ read_field_by unsaid f w s p
unfolding read_field_by
field-in-01 (fixed k) w s p = made _ _ (λ n q. refl) (fixed_at k s p)
field-in-01 type w s p = made _ _ (λ n q. refl) (fixed_at 4 s p)
field-in-01 id w s p = made _ _ (λ n q. refl) (fixed_at 4 s p)
field-in-01 string_reference w s p = made _ _ (λ n q. refl) (fixed_at 4 s p)
field-in-01 optional_type w s p = made _ _ optional (optional_at no_type s p)
field-in-01 optional_id w s p = made _ _ optional (optional_at no_id s p)
field-in-01 (word k good) w s p = made _ _ (λ n q. good-or-not (good n) n q) (fixed_at k s p)
  where
    good-or-not : (b : Bool) (n q : ℕ) → bare (pick b (got (number n) q) (refused 12 [])) ≡ pick b (got (number n) q) (refused 12 [])
    good-or-not true n q = refl
    good-or-not false n q = refl
field-in-01 (gap k) w s p = made _ _ (λ n q. refl) (fixed_at k s p)
field-in-01 numeric w s p = numeric-in-01 w s p
field-in-01 size w s p = size-in-01 w s p
field-in-01 string w s p = made _ _ (λ x q. refl) (string_at s p)
field-in-01 (run e) w s p = made_then _ _ (λ q. refl) (bytes_after (run_bytes e w) s p)
field-in-01 methods w s p = refl
field-in-01 members w s p = refl
field-in-01 (when there f) w s p = there-or-not (there w) (field-in-01 f w s p)
  where
    there-or-not : (b : Bool) → bare (read_field_by form_of f w s p) ≡ read_field_by unsaid f w s p
        → bare (pick b (read_field_by form_of f w s p) (got absent p)) ≡ pick b (read_field_by unsaid f w s p) (got absent p)
    there-or-not true h = h
    there-or-not false h = refl

pub as-in-01 : AsIn01
unfolding read_fields_by
as-in-01 [] w s p = refl
as-in-01 (f ∷ fs) w s p = first (read_field_by form_of f w s p) (field-in-01 f w s p) (λ v q. as-in-01 fs (word_after f v w) s q)
  where
    rest : (v : Shown) (a : Read (List Shown)) (b : Read (List Bare)) → and_then a (λ vs q. got (map plain vs) q) ≡ b
        → and_then (and_then a (λ vs e. got (v ∷ vs) e)) (λ vs q. got (map plain vs) q) ≡ and_then b (λ vs e. got (plain v ∷ vs) e)
    rest v (answered g) b h = ap (λ y. and_then y (λ vs e. got (plain v ∷ vs) e)) h
    rest v (refused n d) b h = ap (λ y. and_then y (λ vs e. got (plain v ∷ vs) e)) h

    first : (a : Read Shown) → bare a ≡ read_field_by unsaid f w s p
        → ((v : Shown) (q : ℕ) → and_then (read_fields_by form_of fs (word_after f v w) s q) (λ vs e. got (map plain vs) e) ≡ read_fields_by unsaid fs (word_after f v w) s q)
        → and_then (and_then a (λ v q. and_then (read_fields_by form_of fs (word_after f v w) s q) (λ vs e. got (v ∷ vs) e))) (λ vs q. got (map plain vs) q)
        ≡ and_then (read_field_by unsaid f w s p) (λ v q. and_then (read_fields_by unsaid fs (word_after f v w) s q) (λ vs e. got (v ∷ vs) e))
    first (answered g) h more =
        let one = rest g.value (read_fields_by form_of fs (word_after f g.value w) s g.next) (read_fields_by unsaid fs (word_after f g.value w) s g.next) (more g.value g.next) in
        let two = ap (λ u. and_then (read_fields_by unsaid fs u s g.next) (λ vs e. got (plain g.value ∷ vs) e)) (word_kept f g.value w) in
        one ∙ two ∙ ap (λ y. and_then y (λ v q. and_then (read_fields_by unsaid fs (word_after f v w) s q) (λ vs e. got (v ∷ vs) e))) h
    first (refused n d) h more = ap (λ y. and_then y (λ v q. and_then (read_fields_by unsaid fs (word_after f v w) s q) (λ vs e. got (v ∷ vs) e))) h
