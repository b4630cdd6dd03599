-- The outcomes of creation, `update_of`, `max_index_of` and `look_of`, a law for each, in the order of their tests. Assumes nothing.
use Rattle.std.specs.Prelude.{Result}
use Rattle.answer.specs.declared.Refusal.{Refusal}
use Prim.Native.Nat.{ℕ, ◌+◌, ◌-◌, ◌*◌, ◌/◌, ◌%◌, ◌^◌, ◌≤◌, ◌<◌, min}
use mathlib.Core.Path.{◌≡◌, refl, sym, ap, ◌∙◌}
use mathlib.Core.List.{List, [], ◌∷◌}
use mathlib.Core.Bool.{Bool, true, false}
use native.Mathlib.Nat.{min-eq_left, min-eq_right, mul_comm, mul-le-mul_right}
use native.Mathlib.Omega.{arith}
use lib.ListN.{length, get_or, set}
use lib.Dec.{eqb}
use lib.Pow.{pow_pos, pow_mono, shl_exact}
use borrow.Author.Tests.{le-leb, lt-leb, le-ltb, lt-ltb, eq-eqb, ne_eqb}
use Rattle.answer.specs.Answer.{Answer, answered, refused, both, then}
use Rattle.stream_header.specs.Header.{longest, header_of}
use Rattle.stream_header.specs.declared.Header.{Header}
use Rattle.field.specs.Indices.{index_number}
use Rattle.stream_item.specs.Links.{link_of}
use Rattle.field.specs.declared.index.ItemIndex.{ItemIndex}
use Rattle.stream_item.specs.declared.Entry.TheVariants as entry
use Rattle.stream_item.specs.declared.iter.ItemIter.{ItemIter}
use Rattle.stream_finder.specs.Finder.{State, state, block_of, header_records, holding_in, holding, begun_in, begun_by, create_by, due, stored, update_of, Found, max_index_of, landed, look_of, find_of, finder_of, table_after, Fills}
use Rattle.stream_finder.specs.Places.{Ready}
use Rattle.stream_finder.specs.declared.Records.{Records}
use Rattle.stream_finder.specs.declared.ItemFinder.{ItemFinder}
use Rattle.answer.specs.Refusals.{itself, said}

-- ---- creation
module _ (shift : ℕ) (t : List ℕ) (r : Records) where
  pub begun-in-shift : 6 < shift → begun_in shift t r ≡ refused 26 []
  begun-in-shift a = simp (lt-ltb _ _ a)

  pub begun-in-none : shift ≤ 6 → r.maximum ≤ r.minimum → begun_in shift t r ≡ answered (state (holding_in r shift 0) t)
  begun-in-none a b = simp (le-ltb _ _ a, le-ltb _ _ b)

  pub begun-in-full : shift ≤ 6 → r.minimum < r.maximum → length t ≤ 0 → begun_in shift t r ≡ refused 13 []
  begun-in-full a b l = simp (le-ltb _ _ a, lt-ltb _ _ b, le-leb _ _ l)

  pub begun-in-some : shift ≤ 6 → r.minimum < r.maximum → 0 < length t → begun_in shift t r ≡ answered (state (holding_in r shift 1) (set t 0 r.start))
  begun-in-some a b l = simp (le-ltb _ _ a, lt-ltb _ _ b, lt-leb _ _ l)

-- of a header's stream
module _ (shift : ℕ) (t : List ℕ) (h : Header) where
  pub begun-is : begun_by shift t h ≡ begun_in shift t (header_records h)
  unfolding begun_by
  begun-is = refl

  pub begun-shift : 6 < shift → begun_by shift t h ≡ refused 26 []
  begun-shift a = begun-is ∙ begun-in-shift shift t (header_records h) a

  pub begun-none : shift ≤ 6 → h.maximum_index ≤ h.minimum_index → begun_by shift t h ≡ answered (state (holding h shift 0) t)
  begun-none a b = begun-is ∙ begun-in-none shift t (header_records h) a b

  pub begun-full : shift ≤ 6 → h.minimum_index < h.maximum_index → length t ≤ 0 → begun_by shift t h ≡ refused 13 []
  begun-full a b l = begun-is ∙ begun-in-full shift t (header_records h) a b l

  pub begun-some : shift ≤ 6 → h.minimum_index < h.maximum_index → 0 < length t
      → begun_by shift t h ≡ answered (state (holding h shift 1) (set t 0 h.header_size))
  begun-some a b l = begun-is ∙ begun-in-some shift t (header_records h) a b l

pub create-is : (shift : ℕ) (s t : List ℕ) (a : Answer Header) → header_of s ≡ a → create_by shift s t ≡ then a (begun_by shift t)
unfolding create_by
create-is shift s t a e = rw e

-- the contract from the case that holds
pub leaves : (t : List ℕ) (x : Answer State) (r : Result ItemFinder Refusal) (t' : List ℕ) (a : Answer State)
    → x ≡ a → said itself r ≡ finder_of a → t' ≡ table_after t a → Fills t x r t'
leaves t x r t' a e p q = record { answer = p ∙ ap finder_of (sym e); table = q ∙ ap (table_after t) (sym e) }

-- the contract by another name of its answer
pub leaves-as : (t : List ℕ) (x : Answer State) (r : Result ItemFinder Refusal) (t' : List ℕ) (a : Answer State) → x ≡ a → Fills t a r t' → Fills t x r t'
leaves-as t x r t' a e l = leaves t x r t' a e l.answer l.table

-- ---- update
-- nothing before the question of a place to store refuses
pub record Open (σ : State) (c : ItemIter) : Type 0 where
  pub at : c.at ≤ longest
  pub shift : σ.finder.shift ≤ 6
  pub held : σ.finder.held ≤ length σ.table
  pub index : σ.finder.minimum_index ≤ c.index

module _ (σ : State) (c : ItemIter) where
  pub update-long : longest < c.at → update_of σ c ≡ refused 16 []
  unfolding update_of
  update-long h = simp (lt-ltb _ _ h)

  pub update-shift : c.at ≤ longest → 6 < σ.finder.shift → update_of σ c ≡ refused 26 []
  unfolding update_of
  update-shift a h = simp (le-ltb _ _ a, lt-ltb _ _ h)

  pub update-claims : c.at ≤ longest → σ.finder.shift ≤ 6 → length σ.table < σ.finder.held → update_of σ c ≡ refused 13 []
  unfolding update_of
  update-claims a b h = simp (le-ltb _ _ a, le-ltb _ _ b, lt-ltb _ _ h)

  pub update-foreign : c.at ≤ longest → σ.finder.shift ≤ 6 → σ.finder.held ≤ length σ.table → c.index < σ.finder.minimum_index
      → update_of σ c ≡ refused 14 []
  unfolding update_of
  update-foreign a b d h = simp (le-ltb _ _ a, le-ltb _ _ b, le-ltb _ _ d, lt-ltb _ _ h)

  pub update-keeps : Open σ c → due σ.finder c.index ≡ false → update_of σ c ≡ answered σ
  unfolding update_of
  update-keeps o h = simp (le-ltb _ _ o.at, le-ltb _ _ o.shift, le-ltb _ _ o.held, le-ltb _ _ o.index, h)

  pub update-full : Open σ c → due σ.finder c.index ≡ true → length σ.table ≤ σ.finder.held → update_of σ c ≡ refused 13 []
  unfolding update_of
  update-full o h f = simp (le-ltb _ _ o.at, le-ltb _ _ o.shift, le-ltb _ _ o.held, le-ltb _ _ o.index, h, le-leb _ _ f)

  pub update-stores : Open σ c → due σ.finder c.index ≡ true → σ.finder.held < length σ.table → update_of σ c ≡ answered (stored σ c.at)
  unfolding update_of
  update-stores o h f = simp (le-ltb _ _ o.at, le-ltb _ _ o.shift, le-ltb _ _ o.held, le-ltb _ _ o.index, h, lt-leb _ _ f)

-- a place is due, by the block's size b as it is known
module _ (f : ItemFinder) (i b : ℕ) (e : b ≡ block_of f) where
  pub due-yes : (i - f.minimum_index) % b ≡ 0 → (i - f.minimum_index) / b ≡ f.held → due f i ≡ true
  due-yes p q = simp (eq-eqb _ _ (rw e at p), eq-eqb _ _ (rw e at q))

  pub due-rest : ((i - f.minimum_index) % b ≡ 0 → ⊥) → due f i ≡ false
  due-rest p = simp (ne_eqb _ _ (rw e at p))

  both-no : (x : Bool) → both x false ≡ false
  both-no true = refl
  both-no false = refl

  pub due-quotient : ((i - f.minimum_index) / b ≡ f.held → ⊥) → due f i ≡ false
  due-quotient q = simp (ne_eqb _ _ (rw e at q)) (both-no (eqb ((i - f.minimum_index) % block_of f) 0))

-- ---- the highest index
module _ (f : ItemFinder) where
  pub max-shift : 6 < f.shift → max_index_of f ≡ 0
  unfolding max_index_of
  max-shift h = simp (lt-ltb _ _ h)

  pub max_none : f.shift ≤ 6 → f.held ≡ 0 → max_index_of f ≡ 0
  unfolding max_index_of
  max_none a h = simp (le-ltb _ _ a, eq-eqb _ _ h)

  pub max-some : f.shift ≤ 6 → 0 < f.held → max_index_of f ≡ min (block_of f * f.held + f.minimum_index - 1) 4294967295
  unfolding max_index_of
  max-some a h = simp (le-ltb _ _ a, ne_eqb _ _ (λ (q : f.held ≡ 0). omega arith))

  pub max-top : f.shift ≤ 6 → 0 < f.held → block_of f * f.held + f.minimum_index - 1 ≤ 4294967295
      → max_index_of f ≡ block_of f * f.held + f.minimum_index - 1
  max-top a h l = max-some a h ∙ min-eq_left l

  pub max-over : f.shift ≤ 6 → 0 < f.held → 4294967295 ≤ block_of f * f.held + f.minimum_index - 1 → max_index_of f ≡ 4294967295
  max-over a h l = max-some a h ∙ min-eq_right l

-- 2^shift times the places as the code has it: that many places shifted to the left do not wrap
pub record Shifted (held shift x : ℕ) : Type 0 where
  pub is : x ≡ 2 ^ shift * held
  pub low : held ≤ x
  pub high : x ≤ 64 * held

pub shifted : (held shift : ℕ) → held ≤ 4294967295 → shift ≤ 6 → Shifted held shift (held * 2 ^ shift % 18446744073709551616)
shifted held shift l a =
    let e : held * 2 ^ shift % 18446744073709551616 ≡ held * 2 ^ shift = shl_exact 32 shift 64 (omega arith) (omega arith) in
    let low : 1 * held ≤ 2 ^ shift * held = mul-le-mul_right held (pow_pos shift) in
    let high : 2 ^ shift * held ≤ 64 * held = mul-le-mul_right held (pow_mono a) in
    let f : held * 2 ^ shift ≡ 2 ^ shift * held = mul_comm held (2 ^ shift) in
    record { is = e ∙ f; low = omega arith; high = omega arith }

-- ---- find
module _ (s : List ℕ) (σ : State) (i : ItemIndex) (n : ℕ) where
  pub find-long : longest < length s → look_of s σ i n ≡ refused 16 []
  unfolding look_of
  find-long h = simp (lt-ltb _ _ h)

  pub find-shift : length s ≤ longest → 6 < σ.finder.shift → look_of s σ i n ≡ refused 26 []
  unfolding look_of
  find-shift a h = simp (le-ltb _ _ a, lt-ltb _ _ h)

  pub find-claims : length s ≤ longest → σ.finder.shift ≤ 6 → length σ.table < σ.finder.held → look_of s σ i n ≡ refused 13 []
  unfolding look_of
  find-claims a b h = simp (le-ltb _ _ a, le-ltb _ _ b, lt-ltb _ _ h)

  pub find-marker : Ready s σ → n < σ.finder.minimum_index → look_of s σ i n ≡ answered (record { entry = entry.Marker i; passed = 0 })
  unfolding look_of
  find-marker o h = simp (le-ltb _ _ o.short, le-ltb _ _ o.shift, le-ltb _ _ o.held, lt-ltb _ _ h)

  pub find-above : Ready s σ → σ.finder.minimum_index ≤ n → σ.finder.maximum_index < n → look_of s σ i n ≡ refused 8 (n ∷ [])
  unfolding look_of
  find-above o l h = simp (le-ltb _ _ o.short, le-ltb _ _ o.shift, le-ltb _ _ o.held, le-ltb _ _ l, lt-ltb _ _ h)

  pub find-unheld : Ready s σ → σ.finder.minimum_index ≤ n → n ≤ σ.finder.maximum_index
      → σ.finder.held ≤ (n - σ.finder.minimum_index) / block_of σ.finder
      → look_of s σ i n ≡ refused 9 (n ∷ max_index_of σ.finder ∷ [])
  unfolding look_of
  find-unheld o l u h = simp (le-ltb _ _ o.short, le-ltb _ _ o.shift, le-ltb _ _ o.held, le-ltb _ _ l, le-ltb _ _ u, le-leb _ _ h)

  -- k: the links to pass, as the code has them
  pub find-held : (k : ℕ) → k ≡ (n - σ.finder.minimum_index) % block_of σ.finder
      → Ready s σ → σ.finder.minimum_index ≤ n → n ≤ σ.finder.maximum_index
      → (n - σ.finder.minimum_index) / block_of σ.finder < σ.finder.held
      → look_of s σ i n ≡ landed i k (link_of s (get_or σ.table ((n - σ.finder.minimum_index) / block_of σ.finder) 0) k)
  unfolding look_of
  find-held k e o l u h = simp (le-ltb _ _ o.short, le-ltb _ _ o.shift, le-ltb _ _ o.held, le-ltb _ _ l, le-ltb _ _ u, lt-leb _ _ h, ← e)

-- the number as the code has it
pub by_number : (s : List ℕ) (σ : State) (i : ItemIndex) (n : ℕ) (a : Answer Found) → n ≡ index_number i → look_of s σ i n ≡ a → a ≡ find_of s σ i
by_number s σ i n a e h = sym h ∙ ap (look_of s σ i) e
