-- tpi/data.rs 511 to 827: the four attribute words and every method of theirs, with the Rust's masks and shifts. A word is its number; the number
-- behind a line is the Rust's. The kinds and modes of pointers go by the port's names, which are the crate's.
use Rattle.std.specs.Prelude.{ℕ, ◌/◌, ◌^◌, Bool, true, false, List, [], ◌∷◌, ltb, eqb}
use Rattle.std.specs.Int.Bits.{bit_and}
use Rattle.answer.specs.Tables.{Line, ◌is◌}
use Rattle.word_attributes.specs.declared.PointerKind.{PointerKind}
use Rattle.word_attributes.specs.declared.PointerKind.TheVariants.{Near16, Far16, Huge16, BaseSeg, BaseVal, BaseSegVal, BaseAddr, BaseSegAddr, BaseType, BaseSelf, Near32, Far32, Ptr64}
use Rattle.word_attributes.specs.declared.PointerMode.{PointerMode}
use Rattle.word_attributes.specs.declared.PointerMode.TheVariants.{Pointer, LValueReference, Member, MemberFunction, RValueReference}
use Rattle.claim_model.specs.Rust.{Rust, gives, panics, if, not, either_true, match, as_u8, ◌>>=◌}

-- `self.0 & mask != 0`
abbrev pub set : ℕ → ℕ → Bool
set mask w = not (eqb (bit_and w mask) 0)

-- ---- 513: TypeProperties
abbrev pub packed : ℕ → Bool
packed = set 0x0001  -- 516

abbrev pub constructors : ℕ → Bool
constructors = set 0x0002  -- 521

abbrev pub overloaded_operators : ℕ → Bool
overloaded_operators = set 0x0004  -- 526

abbrev pub is_nested_type : ℕ → Bool
is_nested_type = set 0x0008  -- 531

abbrev pub contains_nested_types : ℕ → Bool
contains_nested_types = set 0x0010  -- 536

abbrev pub overloaded_assignment : ℕ → Bool
overloaded_assignment = set 0x0020  -- 541

abbrev pub overloaded_casting : ℕ → Bool
overloaded_casting = set 0x0040  -- 544

abbrev pub forward_reference : ℕ → Bool
forward_reference = set 0x0080  -- 552

abbrev pub scoped_definition : ℕ → Bool
scoped_definition = set 0x0100  -- 556

abbrev pub has_unique_name : ℕ → Bool
has_unique_name = set 0x0200  -- 559

abbrev pub sealed : ℕ → Bool
sealed = set 0x0400  -- 562

abbrev pub intrinsic_type : ℕ → Bool
intrinsic_type = set 0x1000  -- 568

abbrev pub hfa : ℕ → ℕ
hfa w = as_u8 (bit_and w 0x1800 / 2 ^ 11)  -- 565

abbrev pub mocom : ℕ → ℕ
mocom w = as_u8 (bit_and w 0x6000 / 2 ^ 14)  -- 571

-- ---- 600: FieldAttributes
abbrev pub access : ℕ → ℕ
access w = as_u8 (bit_and w 0x0003)  -- 603

abbrev pub method_properties : ℕ → ℕ
method_properties w = as_u8 (bit_and w 0x001c / 2 ^ 2)  -- 607

abbrev pub is_static : ℕ → Bool
is_static w = eqb (method_properties w) 0x02  -- 612

abbrev pub is_virtual : ℕ → Bool
is_virtual w = eqb (method_properties w) 0x01  -- 617

abbrev pub is_pure_virtual : ℕ → Bool
is_pure_virtual w = eqb (method_properties w) 0x05  -- 622

abbrev pub is_intro_virtual : ℕ → Bool
is_intro_virtual w = either_true (eqb (method_properties w) 0x04) (eqb (method_properties w) 0x06)  -- 627

-- ---- 654: FunctionAttributes
abbrev pub calling_convention : ℕ → ℕ
calling_convention w = as_u8 (bit_and w 0xff)  -- 656

abbrev pub cxx_return_udt : ℕ → Bool
cxx_return_udt w = ltb 0 (bit_and w 0x0100)  -- 659

abbrev pub is_constructor : ℕ → Bool
is_constructor w = ltb 0 (bit_and w 0x0200)  -- 662

abbrev pub is_constructor_with_virtual_bases : ℕ → Bool
is_constructor_with_virtual_bases w = ltb 0 (bit_and w 0x0400)  -- 665

-- ---- 735: PointerAttributes
unfoldable pub pointer_kind_arms : List (Line (Rust PointerKind))
pointer_kind_arms =
    (0x00 is gives Near16)  -- 739
    ∷ (0x01 is gives Far16)
    ∷ (0x02 is gives Huge16)
    ∷ (0x03 is gives BaseSeg)
    ∷ (0x04 is gives BaseVal)
    ∷ (0x05 is gives BaseSegVal)
    ∷ (0x06 is gives BaseAddr)
    ∷ (0x07 is gives BaseSegAddr)
    ∷ (0x08 is gives BaseType)
    ∷ (0x09 is gives BaseSelf)
    ∷ (0x0a is gives Near32)
    ∷ (0x0b is gives Far32)
    ∷ (0x0c is gives Ptr64)  -- 751
    ∷ []

unfoldable pub pointer_kind : ℕ → Rust PointerKind
pointer_kind w = match (bit_and w 0x1f) pointer_kind_arms panics  -- 738, 752

unfoldable pub mode_arms : List (Line (Rust PointerMode))
mode_arms =
    (0x00 is gives Pointer)  -- 759
    ∷ (0x01 is gives LValueReference)
    ∷ (0x02 is gives Member)
    ∷ (0x03 is gives MemberFunction)
    ∷ (0x04 is gives RValueReference)  -- 763
    ∷ []

unfoldable pub pointer_mode : ℕ → Rust PointerMode
pointer_mode w = match (bit_and (w / 2 ^ 5) 0x7) mode_arms panics  -- 758, 764

-- 772: PointerMode::Member | PointerMode::MemberFunction
abbrev pub of_member : PointerMode → Bool
of_member Pointer = false
of_member LValueReference = false
of_member Member = true
of_member MemberFunction = true
of_member RValueReference = false

unfoldable pub pointer_to_member : ℕ → Rust Bool
pointer_to_member w = do
  mode ← pointer_mode w  -- 771
  gives (of_member mode)

abbrev pub is_flat_32 : ℕ → Bool
is_flat_32 = set 0x100  -- 778

abbrev pub is_volatile : ℕ → Bool
is_volatile = set 0x200  -- 783

abbrev pub is_const : ℕ → Bool
is_const = set 0x400  -- 788

abbrev pub is_unaligned : ℕ → Bool
is_unaligned = set 0x800  -- 793

abbrev pub is_restrict : ℕ → Bool
is_restrict = set 0x1000  -- 798

abbrev pub is_mocom : ℕ → Bool
is_mocom = set 0x40000  -- 825

-- 805: PointerMode::LValueReference | PointerMode::RValueReference
abbrev pub of_reference : PointerMode → Bool
of_reference Pointer = false
of_reference LValueReference = true
of_reference Member = false
of_reference MemberFunction = false
of_reference RValueReference = true

unfoldable pub pointer_is_reference : ℕ → Rust Bool
pointer_is_reference w = do
  mode ← pointer_mode w  -- 804
  gives (of_reference mode)

-- 817 to 819
abbrev pub size_by_kind : PointerKind → ℕ
size_by_kind Near32 = 4
size_by_kind Far32 = 4
size_by_kind Ptr64 = 8
size_by_kind Near16 = 0
size_by_kind Far16 = 0
size_by_kind Huge16 = 0
size_by_kind BaseSeg = 0
size_by_kind BaseVal = 0
size_by_kind BaseSegVal = 0
size_by_kind BaseAddr = 0
size_by_kind BaseSegAddr = 0
size_by_kind BaseType = 0
size_by_kind BaseSelf = 0

unfoldable pub pointer_size : ℕ → Rust ℕ
pointer_size w = do
  let size = as_u8 (bit_and (w / 2 ^ 13) 0x3f)  -- 811
  if (not (eqb size 0)) (gives size) (do  -- 812
    kind ← pointer_kind w  -- 816
    gives (size_by_kind kind))
