-- What C gets of an attribute word: every field of it at once. No word is refused; what a pointer word may refuse, it refuses field by field.
use Rattle.std.specs.Prelude.{Some, ℕ, List, [], ◌∷◌, ◌≡◌, eqb}
use Rattle.answer.specs.Answer.{Answer, answered, refused}
use Rattle.answer.specs.Tables.{find}
use Rattle.word_attributes.specs.Bits.{bit, bits}
use Rattle.word_attributes.specs.Words.{method_property, introducing}
use Rattle.word_attributes.specs.Pointers.{pointer_kinds, pointer_modes, kind_of, mode_of, to_member_of, reference_of, size_of}
use Rattle.word_attributes.specs.declared.PointerKind.{PointerKind}
use Rattle.word_attributes.specs.declared.PointerMode.{PointerMode}
use Rattle.pane_out.specs.Handed.{handed, mark}

-- packed, constructors, overloaded operators, nested, contains nested types, overloaded assignment, overloaded casting, forward reference, scoped
-- definition, unique name, sealed; then hfa, intrinsic type and mocom
abbrev pub property_fields : ℕ → List ℕ
property_fields w =
    mark (bit 0 w) ∷ mark (bit 1 w) ∷ mark (bit 2 w) ∷ mark (bit 3 w) ∷ mark (bit 4 w) ∷ mark (bit 5 w) ∷ mark (bit 6 w) ∷ mark (bit 7 w)
    ∷ mark (bit 8 w) ∷ mark (bit 9 w) ∷ mark (bit 10 w) ∷ bits 11 12 w ∷ mark (bit 13 w) ∷ bits 14 15 w ∷ []

abbrev pub out_properties : ℕ → ℕ × List ℕ
out_properties w = handed 14 property_fields (answered w)

-- access and method property; static, virtual, pure virtual, introducing virtual
abbrev pub field_fields : ℕ → List ℕ
field_fields w =
    bits 0 1 w ∷ method_property w ∷ mark (eqb (method_property w) 2) ∷ mark (eqb (method_property w) 1) ∷ mark (eqb (method_property w) 5) ∷ mark (introducing w) ∷ []

abbrev pub out_field : ℕ → ℕ × List ℕ
out_field w = handed 6 field_fields (answered w)

-- calling convention; returns a user-defined type in the manner of C++, constructor, constructor with virtual bases
abbrev pub function_fields : ℕ → List ℕ
function_fields w = bits 0 7 w ∷ mark (bit 8 w) ∷ mark (bit 9 w) ∷ mark (bit 10 w) ∷ []

abbrev pub out_function : ℕ → ℕ × List ℕ
out_function w = handed 4 function_fields (answered w)

-- the number of a refusal, 0 for an answer
abbrev pub refusal_in : {A : Type 0} → Answer A → ℕ
refusal_in (answered a) = 0
refusal_in (refused n d) = n

-- a number of an answer, 0 for a refusal
abbrev pub or_zero : {A : Type 0} → (A → ℕ) → Answer A → ℕ
or_zero f (answered a) = f a
or_zero f (refused n d) = 0

-- a good kind, and a good mode, by its number
abbrev pub kind_field : ℕ → ℕ
kind_field w = or_zero (λ k. bits 0 4 w) (kind_of w)

abbrev pub mode_field : ℕ → ℕ
mode_field w = or_zero (λ m. bits 5 7 w) (mode_of w)

-- the kind's refusal and number, the mode's, the size's; points to a member, reference; flat, volatile, const, unaligned, restrict, mocom
abbrev pub pointer_fields : ℕ → List ℕ
pointer_fields w =
    refusal_in (kind_of w) ∷ kind_field w ∷ refusal_in (mode_of w) ∷ mode_field w ∷ refusal_in (size_of w) ∷ or_zero (λ n. n) (size_of w)
    ∷ or_zero mark (to_member_of w) ∷ or_zero mark (reference_of w)
    ∷ mark (bit 8 w) ∷ mark (bit 9 w) ∷ mark (bit 10 w) ∷ mark (bit 11 w) ∷ mark (bit 12 w) ∷ mark (bit 19 w) ∷ []

abbrev pub out_pointer : ℕ → ℕ × List ℕ
out_pointer w = handed 14 pointer_fields (answered w)

pub record KindsNamed : Type 0 where
  -- the number of a kind or a mode names it in 01's list
  pub kind : (w : ℕ) (k : PointerKind) → kind_of w ≡ answered k → find (kind_field w) pointer_kinds ≡ Some k
  pub mode : (w : ℕ) (m : PointerMode) → mode_of w ≡ answered m → find (mode_field w) pointer_modes ≡ Some m
