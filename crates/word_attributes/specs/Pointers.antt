-- Document 01, "Attribute words": what a pointer word answers. To compare: a line of the two lists is an arm of data.rs's `pointer_kind` or
-- `pointer_mode`, in its order; `(0x0c is Ptr64)` is `0x0c => PointerKind::Ptr64`.
use Rattle.std.specs.Prelude.{Option, None, Some, ℕ, Bool, true, false, List, [], ◌∷◌, eqb}
use Rattle.answer.specs.Answer.{Answer, answered, refused, pick, then}
use Rattle.answer.specs.Tables.{Line, ◌is◌, find}
use Rattle.word_attributes.specs.Bits.{bits}
use Rattle.word_attributes.specs.declared.PointerKind.{PointerKind}
use Rattle.word_attributes.specs.declared.PointerKind.TheVariants.{Near16, Far16, Huge16, BaseSeg, BaseVal, BaseSegVal, BaseAddr, BaseSegAddr, BaseType, BaseSelf, Near32, Far32, Ptr64}
use Rattle.word_attributes.specs.declared.PointerMode.{PointerMode}
use Rattle.word_attributes.specs.declared.PointerMode.TheVariants.{Pointer, LValueReference, Member, MemberFunction, RValueReference}

unfoldable pub pointer_kinds : List (Line PointerKind)
pointer_kinds =
    (0x00 is Near16)
    ∷ (0x01 is Far16)
    ∷ (0x02 is Huge16)
    ∷ (0x03 is BaseSeg)
    ∷ (0x04 is BaseVal)
    ∷ (0x05 is BaseSegVal)
    ∷ (0x06 is BaseAddr)
    ∷ (0x07 is BaseSegAddr)
    ∷ (0x08 is BaseType)
    ∷ (0x09 is BaseSelf)
    ∷ (0x0a is Near32)
    ∷ (0x0b is Far32)
    ∷ (0x0c is Ptr64)
    ∷ []

unfoldable pub pointer_modes : List (Line PointerMode)
pointer_modes =
    (0x00 is Pointer)
    ∷ (0x01 is LValueReference)
    ∷ (0x02 is Member)
    ∷ (0x03 is MemberFunction)
    ∷ (0x04 is RValueReference)
    ∷ []

-- a good kind or mode is in its list; a bad one is 12, "pointer word"
abbrev pub good_or_12 : {A : Type 0} → Option A → Answer A
good_or_12 (Some a) = answered a
good_or_12 None = refused 12 []

unfoldable pub kind_of : ℕ → Answer PointerKind
kind_of w = good_or_12 (find (bits 0 4 w) pointer_kinds)

unfoldable pub mode_of : ℕ → Answer PointerMode
mode_of w = good_or_12 (find (bits 5 7 w) pointer_modes)

abbrev pub to_member : PointerMode → Bool
to_member Pointer = false
to_member LValueReference = false
to_member Member = true
to_member MemberFunction = true
to_member RValueReference = false

abbrev pub is_reference : PointerMode → Bool
is_reference Pointer = false
is_reference LValueReference = true
is_reference Member = false
is_reference MemberFunction = false
is_reference RValueReference = true

unfoldable pub to_member_of : ℕ → Answer Bool
to_member_of w = then (mode_of w) (λ m. answered (to_member m))

unfoldable pub reference_of : ℕ → Answer Bool
reference_of w = then (mode_of w) (λ m. answered (is_reference m))

-- "4 for kinds 10 and 11, 8 for kind 12, 0 for the other good kinds"
abbrev pub pointer_kind_size : PointerKind → ℕ
pointer_kind_size Near16 = 0
pointer_kind_size Far16 = 0
pointer_kind_size Huge16 = 0
pointer_kind_size BaseSeg = 0
pointer_kind_size BaseVal = 0
pointer_kind_size BaseSegVal = 0
pointer_kind_size BaseAddr = 0
pointer_kind_size BaseSegAddr = 0
pointer_kind_size BaseType = 0
pointer_kind_size BaseSelf = 0
pointer_kind_size Near32 = 4
pointer_kind_size Far32 = 4
pointer_kind_size Ptr64 = 8

-- "`size` of a pointer is bits 13 to 18; if zero, [by the kind]. Only a zero size needs the kind."
unfoldable pub size_of : ℕ → Answer ℕ
size_of w =
    pick (eqb (bits 13 18 w) 0)
    (then (kind_of w) (λ k. answered (pointer_kind_size k)))
    (answered (bits 13 18 w))
