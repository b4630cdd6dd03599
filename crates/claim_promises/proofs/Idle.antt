-- What ExactlyWhen, RecordsWhen and ListsWhen deny: definitions that refuse everything, by numbers that the table has, as Demand1 would let them. Assumes
-- nothing.
use Rattle.std.specs.Prelude.{Option, None, Some}
use Prim.Native.Nat.{ℕ, ◌/◌, ◌%◌, ◌^◌, ◌≤◌, ◌<◌}
use mathlib.Core.Path.{◌≡◌, refl}
use mathlib.Core.Logic.{◌⊎◌, inl, inr}
use mathlib.Core.List.{List, [], ◌∷◌}
use native.Mathlib.Omega.{arith}
use lib.ListN.{length}
use lib.IntN.{ℤ}
use Rattle.answer.specs.Answer.{Answer, refused, Read}
use Rattle.answer.specs.Tables.{find, among}
use Rattle.answer.specs.Refusals.{listed, in_table, refusals}
use Rattle.word_primitive.specs.Kinds.{kinds}
use Rattle.word_primitive.specs.declared.PrimitiveType.{PrimitiveType}
use Rattle.stream_header.specs.Header.{longest}
use Rattle.stream_header.specs.declared.Header.{Header}
use Rattle.field.specs.Fields.{little_at}
use Rattle.field_number.specs.Numbers.{prefixes}
use Rattle.field_number.specs.Forms.{Form, Numeral}
use Rattle.record_layout.specs.Fields.{Shown}
use Rattle.record_layout.specs.Layouts.{Table}
use Rattle.record_list.specs.Lists.{Step, in_counted}
use Rattle.record_list.specs.declared.ListCursor.{ListCursor}
use Rattle.claim_promises.specs.ByTable.{Refuses, fits, refuses}
use Rattle.claim_promises.specs.Given.{Given}
use Rattle.claim_promises.specs.RecordsWhen.{CutNumber, CutField, AtLeaf}
use Rattle.claim_promises.specs.ListsWhen.{NoElement}

-- every stream is too long; every primitive is not found
abbrev idle_header : List ℕ → Answer Header
idle_header s = refused 16 []

abbrev idle_primitive : ℕ → Answer PrimitiveType
idle_primitive i = refused 8 (0 ∷ [])

-- Demand1's fields `headers` and `primitives` hold of them
header-by-table : (s : List ℕ) → Refuses (16 ∷ 1 ∷ 2 ∷ 3 ∷ 4 ∷ 5 ∷ []) (idle_header s)
unfolding fits among listed in_table refusals
header-by-table s = refuses refl

primitive-by-table : (i : ℕ) → Refuses (8 ∷ []) (idle_primitive i)
unfolding fits among listed in_table refusals
primitive-by-table i = refuses refl

-- ExactlyWhen's `headers-16` and `primitives-8` do not: the empty stream is not too long, and 3 is a primitive
pub no-idle-header : ((s : List ℕ) → Given 16 [] (idle_header s) (longest < length s)) → ⊥
no-idle-header g = let h = (g []).only refl in omega arith

pub no-idle-primitive : ((i : ℕ) → Given 8 (i ∷ []) (idle_primitive i) ((0x1000 ≤ i) ⊎ (8 ≤ i / 2 ^ 8 % 2 ^ 4) ⊎ (find (i % 2 ^ 8) kinds ≡ None))) → ⊥
unfolding find kinds
no-idle-primitive g = go ((g 3).only refl)
  where
    go : (0x1000 ≤ 3) ⊎ (8 ≤ 3 / 2 ^ 8 % 2 ^ 4) ⊎ (find (3 % 2 ^ 8) kinds ≡ None) → ⊥
    go (inl h) = omega arith
    go (inr (inl h)) = omega arith
    go (inr (inr h)) = let z : ◌≡◌ {A = ℕ} 0 1 = cc in omega arith

-- every number passes the end, every record does, every list has ended: within the lists of Demand1's `numbers`, `types` and `steps`
abbrev idle_number : List ℕ → ℕ → Read (Numeral ℤ Form)
idle_number s p = refused 1 []

abbrev idle_record : Table → List ℕ → Answer (List Shown)
idle_record table s = refused 1 []

abbrev idle_step : List ℕ → ListCursor → Answer Step
idle_step s c = refused 15 []

-- RecordsWhen's `numbers-1` and `records-1`, and ListsWhen's `steps-15`: the number 0 is there; a leaf that a table does not have passes no end; and a list
-- of one element has not ended
pub no-idle-number : ((s : List ℕ) (p : ℕ) → Given 1 [] (idle_number s p) (CutNumber s p)) → ⊥
unfolding find prefixes little_at
no-idle-number g = let h : 2 < 2 = (g (0 ∷ 0 ∷ []) 0).only refl in omega arith

pub no-idle-record : ((table : Table) (s : List ℕ) → Given 1 [] (idle_record table s) ((length s < 2) ⊎ AtLeaf CutField table s 0)) → ⊥
unfolding find
no-idle-record g = go ((g [] (0 ∷ 0 ∷ [])).only refl)
  where
    no_line : {A : Type 0} {x : A} → ◌≡◌ {A = Option A} None (Some x) → ⊥
    no_line e = let z : ◌≡◌ {A = ℕ} 0 1 = cc in omega arith

    go : (length {A = ℕ} (0 ∷ 0 ∷ []) < 2) ⊎ AtLeaf CutField [] (0 ∷ 0 ∷ []) 0 → ⊥
    go (inl h) = omega arith
    go (inr x) = no_line x.line

pub no-idle-step : ((s : List ℕ) (c : ListCursor) → Given 15 [] (idle_step s c) (NoElement s c)) → ⊥
no-idle-step g = go ((g [] (in_counted 0x1201 0 1)).only refl)
  where
    go : NoElement [] (in_counted 0x1201 0 1) → ⊥
    go (inl (_, h)) = omega arith
    go (inr (inl (h, _))) = omega arith
    go (inr (inr (h, _))) = omega arith
