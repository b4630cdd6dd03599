-- Attribute words: every method of the four words, for every word. `self.0 & mask != 0` is a bit and `(self.0 & mask) >> k` a field of bits, each
-- law once over the mask. Where R-2 excepts an answer, the crate's bits are shown, and where they part from the port's. Assumes nothing.
use Rattle.std.specs.Prelude.{Option, None, Some}
use Prim.Native.Nat.{ℕ, zero, suc, ◌+◌, ◌-◌, ◌*◌, ◌/◌, ◌%◌, ◌^◌, ◌≤◌, ◌<◌}
use mathlib.Core.Path.{◌≡◌, refl, sym, ap, ◌∙◌}
use mathlib.Core.List.{[], ◌∷◌, map}
use mathlib.Core.Bool.{Bool, true, false}
use native.Mathlib.Nat.{zero-mul, mod-lt, mod-eq_of_lt, div-one}
use native.Mathlib.Numerals.{one-add}
use native.Mathlib.Omega.{arith}
use lib.Bits.{bit_and, and_mask, and_high}
use lib.Pow.{pow_pos, shl-shr}
use lib.Dec.{ltb, eqb}
use borrow.Author.Tests.{lt-ltb, ne_eqb}
use Rattle.answer.specs.Answer.{Answer, answered, pick, then}
use Rattle.answer.specs.Tables.{find, among}
use Rattle.word_attributes.specs.Bits.{bit, bits}
use Rattle.word_attributes.specs.Words.{method_property, introducing}
use Rattle.word_attributes.specs.Pointers.{pointer_kinds, pointer_modes, good_or_12, kind_of, mode_of, to_member, is_reference, to_member_of, reference_of, pointer_kind_size, size_of}
use Rattle.word_attributes.specs.declared.PointerKind.{PointerKind}
use Rattle.word_attributes.specs.declared.PointerKind.TheVariants.{Near16, Far16, Huge16, BaseSeg, BaseVal, BaseSegVal, BaseAddr, BaseSegAddr, BaseType, BaseSelf, Near32, Far32, Ptr64}
use Rattle.word_attributes.specs.declared.PointerMode.{PointerMode}
use Rattle.word_attributes.specs.declared.PointerMode.TheVariants.{Pointer, LValueReference, Member, MemberFunction, RValueReference}
use Rattle.claim_model.specs.Rust.{Rust, gives, errs, panics, wraps, ◌>>=◌, if, not, either_true, match, as_u8}
use Rattle.claim_model.specs.TpiWords.{set, packed, constructors, overloaded_operators, is_nested_type, contains_nested_types, overloaded_assignment, overloaded_casting, forward_reference, scoped_definition, has_unique_name, sealed, intrinsic_type, hfa, mocom, access, method_properties, is_static, is_virtual, is_pure_virtual, is_intro_virtual, calling_convention, cxx_return_udt, is_constructor, is_constructor_with_virtual_bases, pointer_kind_arms, pointer_kind, mode_arms, pointer_mode, of_member, pointer_to_member, is_flat_32, is_volatile, is_const, is_unaligned, is_restrict, is_mocom, of_reference, pointer_is_reference, size_by_kind, pointer_size}
use Rattle.claim_model.specs.Equal.{Replaced, Excepted}
use Rattle.claim_model.proofs.Agree.{agree}

-- ---- a flag
alone : (k w : ℕ) → bit_and w (2 ^ k) ≡ w / 2 ^ k % 2 * 2 ^ k
alone k w =
    let e : 2 ^ (1 + k) - 2 ^ k ≡ 2 ^ k = ap (λ (n : ℕ). 2 ^ n - 2 ^ k) (one-add k) ∙ twice k in
    ap (bit_and w) (sym e) ∙ and_high w 1 k
  where
    twice : (k : ℕ) → 2 ^ suc k - 2 ^ k ≡ 2 ^ k
    twice k = omega arith

pub above : (k w : ℕ) → ltb 0 (bit_and w (2 ^ k)) ≡ bit k w
above k w = ap (ltb 0) (alone k w) ∙ go (w / 2 ^ k % 2) (mod-lt (w / 2 ^ k) (omega arith))
  where
    go : (x : ℕ) → x < 2 → ltb 0 (x * 2 ^ k) ≡ eqb x 1
    go zero h = ap (ltb 0) (zero-mul (2 ^ k))
    go (suc zero) h = lt-ltb 0 (1 * 2 ^ k) (omega (arith, pow_pos k))
    go (suc (suc x)) h = absurd (omega arith)

pub flag : (k w : ℕ) → set (2 ^ k) w ≡ bit k w
flag k w = above_zero (bit_and w (2 ^ k)) ∙ above k w
  where
    above_zero : (n : ℕ) → not (eqb n 0) ≡ ltb 0 n
    above_zero zero = refl
    above_zero (suc n) =
        let h : 0 < suc n = omega arith in
        rw (ne_eqb (suc n) 0 (λ (e : suc n ≡ 0). omega arith), lt-ltb 0 (suc n) h)

-- ---- a field of j bits, which a u8 holds
small : (n j : ℕ) → 2 ^ j ≤ 256 → as_u8 (n % 2 ^ j) ≡ n % 2 ^ j
small n j h = mod-eq_of_lt (omega (arith, mod-lt n (pow_pos j)))

pub field_of : (j k w : ℕ) → 2 ^ j ≤ 256 → as_u8 (bit_and w (2 ^ (j + k) - 2 ^ k) / 2 ^ k) ≡ w / 2 ^ k % 2 ^ j
field_of j k w h = ap (λ (n : ℕ). as_u8 (n / 2 ^ k)) (and_high w j k) ∙ ap as_u8 (shl-shr (w / 2 ^ k % 2 ^ j) k) ∙ small (w / 2 ^ k) j h

pub low_field : (j w : ℕ) → 2 ^ j ≤ 256 → as_u8 (bit_and w (2 ^ j - 1)) ≡ w % 2 ^ j
low_field j w h = ap as_u8 (and_mask w j) ∙ small w j h

-- ---- an excepted answer
excepted : {A : Type 0} (crate instead port : ℕ → A) (smallest : ℕ) → ((w : ℕ) → crate w ≡ instead w) → ((w : ℕ) → w < smallest → instead w ≡ port w)
    → (instead smallest ≡ port smallest → ⊥) → Excepted crate instead port smallest
excepted crate instead port smallest c b d = record {
  gives_instead = c;
  alike_below = λ w h. c w ∙ b w h;
  differs = λ e. d (sym (c smallest) ∙ e);
}

true-or-false : true ≡ false → ⊥
true-or-false e = let z : ◌≡◌ {A = ℕ} 1 0 = ap number e in omega arith
  where
    number : Bool → ℕ
    number true = 1
    number false = 0

-- ---- TypeProperties
pub properties : (w : ℕ)
    → map (λ (f : ℕ → Bool). f w) (packed ∷ constructors ∷ overloaded_operators ∷ is_nested_type ∷ contains_nested_types ∷ overloaded_assignment ∷ overloaded_casting ∷ forward_reference ∷ scoped_definition ∷ has_unique_name ∷ sealed ∷ [])
    ≡ map (λ k. bit k w) (0 ∷ 1 ∷ 2 ∷ 3 ∷ 4 ∷ 5 ∷ 6 ∷ 7 ∷ 8 ∷ 9 ∷ 10 ∷ [])
properties w = cc (flag 0 w, flag 1 w, flag 2 w, flag 3 w, flag 4 w, flag 5 w, flag 6 w, flag 7 w, flag 8 w, flag 9 w, flag 10 w)

pub intrinsic-is : Excepted intrinsic_type (bit 12) (bit 13) 0x1000
intrinsic-is = excepted intrinsic_type (bit 12) (bit 13) 0x1000 (flag 12) below true-or-false
  where
    below : (w : ℕ) → w < 0x1000 → bit 12 w ≡ bit 13 w
    below w h =
        let e : w / 2 ^ 12 % 2 ≡ w / 2 ^ 13 % 2 = omega arith in
        ap (λ (n : ℕ). eqb n 1) e

pub hfa-is : (w : ℕ) → hfa w ≡ bits 11 12 w
hfa-is w = field_of 2 11 w (omega arith)

-- the mask 0x6000 leaves bits 13 and 14 where they are, and the shift by 14 drops the lower one
pub mocom-is : Excepted mocom (bits 14 14) (bits 14 15) 0x8000
mocom-is = excepted mocom (bits 14 14) (bits 14 15) 0x8000 left (λ w h. omega arith) (λ e. omega arith)
  where
    left : (w : ℕ) → mocom w ≡ bits 14 14 w
    left w =
        let b : bits 13 14 w * 2 ^ 13 / 2 ^ 14 < 256 = omega arith in
        let e : bits 13 14 w * 2 ^ 13 / 2 ^ 14 ≡ bits 14 14 w = omega arith in
        ap (λ (n : ℕ). as_u8 (n / 2 ^ 14)) (and_high w 2 13) ∙ mod-eq_of_lt b ∙ e

-- ---- FieldAttributes
pub access-is : (w : ℕ) → access w ≡ bits 0 1 w
access-is w = low_field 2 w (omega arith) ∙ ap (λ (n : ℕ). n % 4) (sym (div-one w))

pub method-properties-is : (w : ℕ) → method_properties w ≡ method_property w
method-properties-is w = field_of 3 2 w (omega arith)

pub methods : (w : ℕ)
    → map (λ (f : ℕ → Bool). f w) (is_static ∷ is_virtual ∷ is_pure_virtual ∷ is_intro_virtual ∷ [])
    ≡ eqb (method_property w) 2 ∷ eqb (method_property w) 1 ∷ eqb (method_property w) 5 ∷ introducing w ∷ []
unfolding introducing among
methods w = rw (method-properties-is w) (ap (λ (b : Bool). eqb (method_property w) 2 ∷ eqb (method_property w) 1 ∷ eqb (method_property w) 5 ∷ b ∷ []) (either (eqb (method_property w) 4) (eqb (method_property w) 6)))
  where
    either : (a b : Bool) → either_true a b ≡ pick a true (pick b true false)
    either true b = refl
    either false true = refl
    either false false = refl

-- ---- FunctionAttributes
pub calling-convention-is : (w : ℕ) → calling_convention w ≡ bits 0 7 w
calling-convention-is w = low_field 8 w (omega arith) ∙ ap (λ (n : ℕ). n % 256) (sym (div-one w))

pub functions : (w : ℕ)
    → map (λ (f : ℕ → Bool). f w) (cxx_return_udt ∷ is_constructor ∷ is_constructor_with_virtual_bases ∷ []) ≡ map (λ k. bit k w) (8 ∷ 9 ∷ 10 ∷ [])
functions w = cc (above 8 w, above 9 w, above 10 w)

-- ---- PointerAttributes
pub pointers : (w : ℕ)
    → map (λ (f : ℕ → Bool). f w) (is_flat_32 ∷ is_volatile ∷ is_const ∷ is_unaligned ∷ is_restrict ∷ []) ≡ map (λ k. bit k w) (8 ∷ 9 ∷ 10 ∷ 11 ∷ 12 ∷ [])
pointers w = cc (flag 8 w, flag 9 w, flag 10 w, flag 11 w, flag 12 w)

pub is-mocom-is : Excepted is_mocom (bit 18) (bit 19) 0x40000
is-mocom-is = excepted is_mocom (bit 18) (bit 19) 0x40000 (flag 18) below true-or-false
  where
    below : (w : ℕ) → w < 0x40000 → bit 18 w ≡ bit 19 w
    below w h =
        let e : w / 2 ^ 18 % 2 ≡ w / 2 ^ 19 % 2 = omega arith in
        ap (λ (n : ℕ). eqb n 1) e

-- what the port's lists have, in the crate's words
abbrev found : {A : Type 0} → Option A → Rust A
found None = panics
found (Some a) = gives a

good-is : {A : Type 0} (o : Option A) → Replaced (found o) (good_or_12 o)
good-is None = refl
good-is (Some a) = refl

kinds-agree : (b : ℕ) → b < 32 → match b pointer_kind_arms panics ≡ found (find b pointer_kinds)
unfolding match find pointer_kind_arms pointer_kinds
kinds-agree = agree (λ b. match b pointer_kind_arms panics) (λ b. found (find b pointer_kinds)) 32 refl

modes-agree : (b : ℕ) → b < 8 → match b mode_arms panics ≡ found (find b pointer_modes)
unfolding match find mode_arms pointer_modes
modes-agree = agree (λ b. match b mode_arms panics) (λ b. found (find b pointer_modes)) 8 refl

pub kind-is : (w : ℕ) → Replaced (pointer_kind w) (kind_of w)
unfolding pointer_kind kind_of
kind-is w =
    let low : bit_and w 0x1f ≡ w % 32 = and_mask w 5 in
    rw (low, div-one w, kinds-agree (w % 32) (mod-lt w (omega arith))) (good-is (find (w % 32) pointer_kinds))

pub mode-is : (w : ℕ) → Replaced (pointer_mode w) (mode_of w)
unfolding pointer_mode mode_of
mode-is w =
    let low : bit_and (w / 32) 0x7 ≡ w / 32 % 8 = and_mask (w / 32) 3 in
    rw (low, modes-agree (w / 32 % 8) (mod-lt (w / 32) (omega arith))) (good-is (find (w / 32 % 8) pointer_modes))

-- what is worked out from a kind or a mode
worked : {A B : Type 0} (r : Rust A) (a : Answer A) (f g : A → B) → ((x : A) → f x ≡ g x) → Replaced r a → Replaced (◌>>=◌ r λ x. gives (f x)) (then a λ x. answered (g x))
worked (gives v) a f g e q = rw q (ap answered (sym (e v)))
worked (errs x) a f g e q = absurd q
worked panics a f g e q = rw q refl
worked wraps a f g e q = absurd q

pub to-member-is : (w : ℕ) → Replaced (pointer_to_member w) (to_member_of w)
unfolding pointer_to_member to_member_of
to-member-is w = worked (pointer_mode w) (mode_of w) of_member to_member each (mode-is w)
  where
    each : (m : PointerMode) → of_member m ≡ to_member m
    each Pointer = refl
    each LValueReference = refl
    each Member = refl
    each MemberFunction = refl
    each RValueReference = refl

pub reference-is : (w : ℕ) → Replaced (pointer_is_reference w) (reference_of w)
unfolding pointer_is_reference reference_of
reference-is w = worked (pointer_mode w) (mode_of w) of_reference is_reference each (mode-is w)
  where
    each : (m : PointerMode) → of_reference m ≡ is_reference m
    each Pointer = refl
    each LValueReference = refl
    each Member = refl
    each MemberFunction = refl
    each RValueReference = refl

pub size_is : (w : ℕ) → Replaced (pointer_size w) (size_of w)
unfolding pointer_size size_of
size_is w = rw (low_field 6 (w / 8192) (omega arith)) (go (eqb (bits 13 18 w) 0))
  where
    each : (k : PointerKind) → size_by_kind k ≡ pointer_kind_size k
    each Near16 = refl
    each Far16 = refl
    each Huge16 = refl
    each BaseSeg = refl
    each BaseVal = refl
    each BaseSegVal = refl
    each BaseAddr = refl
    each BaseSegAddr = refl
    each BaseType = refl
    each BaseSelf = refl
    each Near32 = refl
    each Far32 = refl
    each Ptr64 = refl

    go : (b : Bool) → Replaced (if (not b) (gives (bits 13 18 w)) (◌>>=◌ (pointer_kind w) λ k. gives (size_by_kind k))) (pick b (then (kind_of w) (λ k. answered (pointer_kind_size k))) (answered (bits 13 18 w)))
    go true = worked (pointer_kind w) (kind_of w) size_by_kind pointer_kind_size each (kind-is w)
    go false = refl
