-- "Given exactly when" of lists: where one starts, a step from any cursor, and element k. "A counted list is 1 unless four bytes per element are there."
-- "Element k is read after those before it and their padding, the first refusal given, 15 if the list ends first; a leaf without a list is 10."
-- `Given n d a P` (Given.antt): a is refused by n exactly when P, and then with the details d.
use Rattle.std.specs.Prelude.{None, ℕ, suc, ◌+◌, ◌*◌, ◌≤◌, ◌<◌, true, false, ◌≡◌, ◌⊎◌, List, [], ◌∷◌, length, eqb}
use Rattle.answer.specs.Answer.{Answer, answered, refused, pick}
use Rattle.answer.specs.Tables.{find, among}
use Rattle.field.specs.Fields.{little_at}
use Rattle.field_text.specs.Texts.{padding_after}
use Rattle.field.specs.declared.index.Stream.{Stream}
use Rattle.field.specs.declared.index.Stream.TheVariants as stream
use Rattle.record_layout.specs.Layouts.{member_leaves, method}
use Rattle.record_list.specs.Lists.{start_of, Step, step_of, element_by, element_of}
use Rattle.record_list.specs.declared.ListCursor.{ListCursor}
use Rattle.claim_promises.specs.Given.{Given}
use Rattle.claim_promises.specs.ExactlyWhen.{PadsPast, AtEnd}
use Rattle.claim_promises.specs.RecordsWhen.{CutField, BadField, AtField, AtLeaf}

-- ---- words of the conditions, for a cursor c of the record's bytes s

-- the lists that have a count, each element four bytes; and every leaf that has a list
abbrev pub Counted : ListCursor → Type 0
Counted c = among c.leaf (0x1201 ∷ 0x1603 ∷ 0x1604 ∷ []) ≡ true

abbrev pub NoList : ListCursor → Type 0
NoList c = among c.leaf (0x1201 ∷ 0x1206 ∷ 0x1203 ∷ 0x1603 ∷ 0x1604 ∷ []) ≡ false

-- the place of the next member of 0x1203, behind the padding after a member
abbrev pub behind_pads : List ℕ → ListCursor → Answer ℕ
behind_pads s c = pick c.padded (padding_after s c.at) (answered c.at)

abbrev pub place_in : Answer ℕ → ℕ
place_in (answered q) = q
place_in (refused n d) = 0

abbrev pub member_place : List ℕ → ListCursor → ℕ
member_place s c = place_in (behind_pads s c)

abbrev pub Before : List ℕ → Answer ℕ → Type 0
Before s (answered q) = q < length s
Before s (refused n d) = ⊥

-- a member is there to be read: no continuation has ended the list, and a byte is left behind the padding
abbrev pub AtMember : List ℕ → ListCursor → Type 0
AtMember s c = (0 < c.left) × Before s (behind_pads s c)

-- 1: the next element passes the end; of a member, the padding before it too
abbrev pub CutMember : List ℕ → ListCursor → Type 0
CutMember s c =
    ((0 < c.left) × (c.padded ≡ true) × ((length s < c.at) ⊎ PadsPast s c.at))
    ⊎ (AtMember s c × ((length s < member_place s c + 2) ⊎ AtLeaf CutField member_leaves s (member_place s c)))

abbrev pub CutElement : List ℕ → ListCursor → Type 0
CutElement s c =
    (Counted c × (0 < c.left) × (length s < c.at + 4))
    ⊎ ((c.leaf ≡ 0x1206) × (c.at < length s) × AtField CutField method 0 s c.at)
    ⊎ ((c.leaf ≡ 0x1203) × CutMember s c)

-- 10: the next member's leaf is no member's, or the cursor's own leaf is no list's
abbrev pub UnknownMember : List ℕ → ListCursor → Type 0
UnknownMember s c = AtMember s c × (member_place s c + 2 ≤ length s) × (find (little_at 2 s (member_place s c)) member_leaves ≡ None)

abbrev pub leaf_met : List ℕ → ListCursor → ℕ
leaf_met s c = pick (eqb c.leaf 0x1203) (little_at 2 s (member_place s c)) c.leaf

-- 11: a number of the next member is bad
abbrev pub BadElement : List ℕ → ListCursor → Type 0
BadElement s c = (c.leaf ≡ 0x1203) × AtMember s c × AtLeaf BadField member_leaves s (member_place s c)

-- 15: none is left of a counted list; no byte is left of 0x1206 and of 0x1203, behind its padding; or a continuation has ended 0x1203
abbrev pub NoElement : List ℕ → ListCursor → Type 0
NoElement s c =
    (Counted c × (c.left ≡ 0))
    ⊎ ((c.leaf ≡ 0x1206) × (length s ≤ c.at))
    ⊎ ((c.leaf ≡ 0x1203) × ((c.left ≡ 0) ⊎ AtEnd s c))

-- so many steps lead from one cursor to another
pub data StepsLed (s : List ℕ) : ListCursor → ℕ → ListCursor → Type 0 where
  stay : {c : ListCursor} → StepsLed s c 0 c
  step : {c : ListCursor} {j : ℕ} {e : ListCursor} {x : Step} → step_of s c ≡ answered x → StepsLed s x.next j e → StepsLed s c (suc j) e

-- P of a cursor on the way to element k, or of that element's
pub record OnTheWay (P : ListCursor → Type 0) (s : List ℕ) (c : ListCursor) (k : ℕ) : Type 0 where
  pub steps : ℕ
  pub few : steps ≤ k
  pub cursor : ListCursor
  pub led : StepsLed s c steps cursor
  pub so : P cursor

-- and that way starts where the record's list does
pub record FromStart (P : ListCursor → Type 0) (tag : Stream) (s : List ℕ) (k : ℕ) : Type 0 where
  pub first : ListCursor
  pub started : start_of tag s ≡ answered first
  pub way : OnTheWay P s first k

pub record ListsWhen : Type 0 where
  -- the start of a record's list, 1: its leaf passes the end, or its count and four bytes an element do. When it is 10 is said in ExactlyWhen.antt
  pub type_lists_1 : (s : List ℕ) → Given 1 [] (start_of stream.Types s) ((length s < 2) ⊎ ((little_at 2 s 0 ≡ 0x1201) × (length s < 6 + 4 * little_at 4 s 2)))
  pub id_lists_1 : (s : List ℕ) → Given 1 [] (start_of stream.Ids s)
      ((length s < 2)
      ⊎ ((little_at 2 s 0 ≡ 0x1603) × (length s < 4 + 4 * little_at 2 s 2))
      ⊎ ((little_at 2 s 0 ≡ 0x1604) × (length s < 6 + 4 * little_at 4 s 2)))
  -- a step from any cursor
  pub steps_1 : (s : List ℕ) (c : ListCursor) → Given 1 [] (step_of s c) (CutElement s c)
  pub steps_10 : (s : List ℕ) (c : ListCursor) → Given 10 (leaf_met s c ∷ []) (step_of s c) (((c.leaf ≡ 0x1203) × UnknownMember s c) ⊎ NoList c)
  pub steps_11 : (s : List ℕ) (c : ListCursor) → Given 11 [] (step_of s c) (BadElement s c)
  pub steps_15 : (s : List ℕ) (c : ListCursor) → Given 15 [] (step_of s c) (NoElement s c)
  -- element k from any cursor, refused exactly as the first step on the way is that is refused: by any number and with its details; so 1, 11, 15
  pub elements_on_when : (s : List ℕ) (k : ℕ) (c : ListCursor) (n : ℕ) (d : List ℕ) → OnTheWay (λ e. step_of s e ≡ refused n d) s c k → element_by (step_of s) k c ≡ refused n d
  pub elements_on_only : (s : List ℕ) (k : ℕ) (c : ListCursor) (n : ℕ) (d : List ℕ) → element_by (step_of s) k c ≡ refused n d → OnTheWay (λ e. step_of s e ≡ refused n d) s c k
  pub elements_on_1 : (s : List ℕ) (k : ℕ) (c : ListCursor) → Given 1 [] (element_by (step_of s) k c) (OnTheWay (CutElement s) s c k)
  pub elements_on_11 : (s : List ℕ) (k : ℕ) (c : ListCursor) → Given 11 [] (element_by (step_of s) k c) (OnTheWay (BadElement s) s c k)
  pub elements_on_15 : (s : List ℕ) (k : ℕ) (c : ListCursor) → Given 15 [] (element_by (step_of s) k c) (OnTheWay (NoElement s) s c k)
  -- element k of a record: as the start of its list, or a step on the way
  pub elements_start : (tag : Stream) (s : List ℕ) (k n : ℕ) (d : List ℕ) → start_of tag s ≡ refused n d → element_of tag s k ≡ refused n d
  pub elements_when : (tag : Stream) (s : List ℕ) (k n : ℕ) (d : List ℕ) → FromStart (λ e. step_of s e ≡ refused n d) tag s k → element_of tag s k ≡ refused n d
  pub elements_only : (tag : Stream) (s : List ℕ) (k n : ℕ) (d : List ℕ) → element_of tag s k ≡ refused n d
      → (start_of tag s ≡ refused n d) ⊎ FromStart (λ e. step_of s e ≡ refused n d) tag s k
  pub elements_1 : (tag : Stream) (s : List ℕ) (k : ℕ) → Given 1 [] (element_of tag s k) ((start_of tag s ≡ refused 1 []) ⊎ FromStart (CutElement s) tag s k)
  pub elements_11 : (tag : Stream) (s : List ℕ) (k : ℕ) → Given 11 [] (element_of tag s k) (FromStart (BadElement s) tag s k)
  pub elements_15 : (tag : Stream) (s : List ℕ) (k : ℕ) → Given 15 [] (element_of tag s k) (FromStart (NoElement s) tag s k)
