-- R-9 of document 02, sentence by sentence: what a yes says and what a no says, over `next`, the readers and the primitives. Nothing here goes by
-- how the verdict is found.
use Rattle.std.specs.Prelude.{ℕ, suc, ◌-◌, ◌≤◌, ◌<◌, true, ◌≡◌, ◌⊎◌, List, [], ◌∷◌}
use Rattle.answer.specs.Answer.{answered, refused}
use Rattle.field.specs.declared.index.Stream.TheVariants as stream
use Rattle.word_primitive.specs.Primitive.{primitive_of}
use Rattle.stream_header.specs.Header.{header_of}
use Rattle.stream_header.specs.declared.Header.{Header}
use Rattle.stream_item.specs.Iterator.{iter_of, done, yielded, next_of}
use Rattle.stream_item.specs.declared.Item.{Item}
use Rattle.stream_item.specs.declared.iter.ItemIter.{ItemIter}
use Rattle.record_layout.specs.Layouts.{is_answered}
use Rattle.record_reference.specs.References.{Ref, refs_of}
use Rattle.record_reference.specs.Decoded.{Decoded}
use Rattle.stream_fit.specs.Fit.{fit, unfit, payload_of, fit_of}

-- One record -------------------------------------------------------------------------------------------------------------------------

unfoldable pub In : Ref → List Ref → Type 0
In r [] = ⊥
In r (x ∷ xs) = (r ≡ x) ⊎ In r xs

-- "each type reference at or above the minimum is smaller than the index of the record that holds it"
abbrev pub OrderKept : ℕ → ℕ → List Ref → Type 0
OrderKept minimum index rs = (r : Ref) → In r rs → minimum ≤ r.index → r.index < index

-- "each one below 0x1000 is a good primitive"
abbrev pub PrimitivesKept : List Ref → Type 0
PrimitivesKept rs = (r : Ref) → In r rs → r.index < 0x1000 → is_answered (primitive_of r.index) ≡ true

-- "References from 0x1000 up to the minimum are faults"
abbrev pub GapKept : ℕ → List Ref → Type 0
GapKept minimum rs = (r : Ref) → In r rs → 0x1000 ≤ r.index → minimum ≤ r.index

pub record Good (minimum index : ℕ) (payload : List ℕ) : Type 0 where
  -- "every record and every list element decodes"
  pub decodes : Decoded payload
  pub order : (rs : List Ref) → refs_of payload ≡ answered rs → OrderKept minimum index rs
  pub primitives : (rs : List Ref) → refs_of payload ≡ answered rs → PrimitivesKept rs
  pub gap : (rs : List Ref) → refs_of payload ≡ answered rs → GapKept minimum rs

-- "the first rule of this list it breaks": 2 decode, 3 order, 4 primitive, 5 gap
pub data Breaks (minimum index : ℕ) (payload : List ℕ) : ℕ → Type 0 where
  decode : (Decoded payload → ⊥) → Breaks minimum index payload 2
  order : (rs : List Ref) → refs_of payload ≡ answered rs → (OrderKept minimum index rs → ⊥) → Breaks minimum index payload 3
  primitive : (rs : List Ref) → refs_of payload ≡ answered rs → OrderKept minimum index rs → (PrimitivesKept rs → ⊥) → Breaks minimum index payload 4
  gap : (rs : List Ref) → refs_of payload ≡ answered rs → OrderKept minimum index rs → PrimitivesKept rs → (GapKept minimum rs → ⊥) → Breaks minimum index payload 5

-- The stream ---------------------------------------------------------------------------------------------------------------------------

-- the walk by `next` from one cursor comes to another, past so many records
pub data Visits (s : List ℕ) : ItemIter → ℕ → ItemIter → Type 0 where
  stays : {c : ItemIter} → Visits s c 0 c
  goes : {c d e : ItemIter} {i : Item} {n : ℕ} → next_of s c ≡ answered (yielded i d) → Visits s d n e → Visits s c (suc n) e

-- the yes, of a stream with this header whose first cursor is c
pub record Fit (s : List ℕ) (h : Header) (c : ItemIter) : Type 0 where
  -- "a walk that stops by a refusal is a decoding fault"
  pub walks : (n : ℕ) (d : ItemIter) → Visits s c n d → (m : ℕ) (es : List ℕ) → next_of s d ≡ refused m es → ⊥
  pub records : (n : ℕ) (d : ItemIter) → Visits s c n d → (i : Item) (e : ItemIter) → next_of s d ≡ answered (yielded i e) → Good h.minimum_index d.index (payload_of s i)
  -- "record count equals maximum minus minimum with no bytes left"
  pub count : (n : ℕ) (d : ItemIter) → Visits s c n d → next_of s d ≡ answered done → n ≡ h.maximum_index - h.minimum_index

-- every record of the walk with an index below n is good
abbrev pub GoodBelow : List ℕ → Header → ItemIter → ℕ → Type 0
GoodBelow s h c n = (k : ℕ) (x : ItemIter) → Visits s c k x → x.index < n → (i : Item) (e : ItemIter) → next_of s x ≡ answered (yielded i e) → Good h.minimum_index x.index (payload_of s i)

-- "the no names the lowest faulty record and the first rule of this list it breaks. The count fault comes last and names record 0"
pub data Faulty (s : List ℕ) (h : Header) (c : ItemIter) : ℕ → ℕ → Type 0 where
  stopped : (n : ℕ) (d : ItemIter) → Visits s c n d → GoodBelow s h c d.index → (m : ℕ) (es : List ℕ) → next_of s d ≡ refused m es → Faulty s h c d.index 2
  broken : (n : ℕ) (d : ItemIter) → Visits s c n d → GoodBelow s h c d.index → (i : Item) (e : ItemIter) → next_of s d ≡ answered (yielded i e) → {rule : ℕ}
      → Breaks h.minimum_index d.index (payload_of s i) rule → Faulty s h c d.index rule
  counted : (n : ℕ) (d : ItemIter) → Visits s c n d → GoodBelow s h c d.index → next_of s d ≡ answered done
      → (n ≡ h.maximum_index - h.minimum_index → ⊥) → Faulty s h c 0 1

-- The promises -------------------------------------------------------------------------------------------------------------------------

pub record FitSentences : Type 0 where
  -- "The yes holds exactly when all this does"
  pub sound : (s : List ℕ) (h : Header) (c : ItemIter) → header_of s ≡ answered h → iter_of stream.Types s ≡ answered c → fit_of s ≡ answered fit → Fit s h c
  pub complete : (s : List ℕ) (h : Header) (c : ItemIter) → header_of s ≡ answered h → iter_of stream.Types s ≡ answered c → Fit s h c → fit_of s ≡ answered fit
  pub names : (s : List ℕ) (h : Header) (c : ItemIter) (i rule : ℕ) → header_of s ≡ answered h → iter_of stream.Types s ≡ answered c → fit_of s ≡ answered (unfit i rule) → Faulty s h c i rule
  -- "Refusals: the header's own"
  pub refuses : (s : List ℕ) (n : ℕ) (d : List ℕ) → header_of s ≡ refused n d → fit_of s ≡ refused n d
  pub no_other : (s : List ℕ) (n : ℕ) (d : List ℕ) → fit_of s ≡ refused n d → header_of s ≡ refused n d
