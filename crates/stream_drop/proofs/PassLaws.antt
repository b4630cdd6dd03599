-- What each pass leaves, a law for each outcome of a turn. Assumes nothing.
use Prim.Native.Nat.{ℕ, zero, suc, ◌+◌, ◌-◌, ◌%◌, ◌≤◌, ◌<◌}
use native.Mathlib.Omega.{arith}
use mathlib.Core.Bool.{Bool, true, false}
use mathlib.Core.List.{List, [], ◌∷◌}
use mathlib.Core.Path.{◌≡◌, refl, ap, ◌∙◌}
use lib.ListN.{length, get_or, set, drop, drop_of_length-le}
use lib.Seq.{drop-cons}
use borrow.Author.Tests.{lt-ltb, le-ltb, eq-eqb, ne_eqb}
use Rattle.answer.specs.Answer.{answered, refused}
use Rattle.field.specs.Bytes.{bytes}
use Rattle.field.specs.Runs.{bytes_at}
use Rattle.field_put.specs.Bytes.{Lays}
use Rattle.stream_item.specs.Iterator.{done, yielded, next_of}
use Rattle.stream_item.specs.declared.Item.{Item}
use Rattle.stream_item.specs.declared.iter.ItemIter.{ItemIter}
use Rattle.stream_fit.specs.Fit.{payload_of}
use Rattle.stream_prune.specs.Links.{payloads_from}
use Rattle.stream_drop.specs.Each.{Held, held_of, raised, laid, done_of}
use Rattle.stream_drop.specs.Passes.{lengths_in, rooted, roots_in, visited, down_from, Numbered, numbered_at, number_from, link_laid, place_behind, up_at, up_from}
use Rattle.stream_drop.specs.declared.each.Job.TheVariants as job
use Rattle.stream_drop.proofs.EachLaws.{laid_by}

-- The payloads of a walk ----------------------------------------------------------------------------------------------------------------

module _ (s : List ℕ) (c : ItemIter) where
  pub payloads-refused : (k n : ℕ) (d : List ℕ) → next_of s c ≡ refused n d → payloads_from k s c ≡ []
  unfolding payloads_from
  payloads-refused zero n d e = refl
  payloads-refused (suc k) n d e = rw e

  pub payloads-done : (k : ℕ) → next_of s c ≡ answered done → payloads_from k s c ≡ []
  unfolding payloads_from
  payloads-done zero e = refl
  payloads-done (suc k) e = rw e

  pub payloads-more : (n k : ℕ) (i : Item) (d : ItemIter) → k < n → answered (yielded i d) ≡ next_of s c → payloads_from (n - k) s c ≡ payload_of s i ∷ payloads_from (n - (k + 1)) s d
  unfolding payloads_from
  payloads-more n k i d l e = let z : n - k ≡ suc (n - (k + 1)) = omega arith in rw (z, ← e)

  pub payloads-out : (k : ℕ) → k ≤ 0 → payloads_from k s c ≡ []
  unfolding payloads_from
  payloads-out zero l = refl
  payloads-out (suc k) l = absurd (omega arith)

-- where the first is known by another name
pub first-is : (ps qs : List (List ℕ)) (p p' : List ℕ) → ps ≡ p ∷ qs → p' ≡ p → ps ≡ p' ∷ qs
first-is ps qs p p' e f = rw f e

-- Lengths -------------------------------------------------------------------------------------------------------------------------------

pub lengths_none : (i : ℕ) (ps : List (List ℕ)) (t : List ℕ) → ps ≡ [] → t ≡ lengths_in i ps t
unfolding lengths_in
lengths_none i ps t e = rw e

pub lengths-turn : (i : ℕ) (ps qs : List (List ℕ)) (p t t' : List ℕ) → ps ≡ p ∷ qs → t' ≡ set t i (length p % 65536) → lengths_in (i + 1) qs t' ≡ lengths_in i ps t
unfolding lengths_in
lengths-turn i ps qs p t t' e f = rw (e, f)

-- Roots ---------------------------------------------------------------------------------------------------------------------------------

pub rooted-below : (minimum x : ℕ) (t : List ℕ) → x < minimum → t ≡ rooted minimum x t
rooted-below minimum x t h = rw (lt-ltb x minimum h)

pub rooted-above : (minimum x : ℕ) (t t' : List ℕ) → minimum ≤ x → t' ≡ raised t (x - minimum) → t' ≡ rooted minimum x t
rooted-above minimum x t t' h e = rw (le-ltb x minimum h) e

pub roots-turn : (minimum j : ℕ) (roots t t' : List ℕ) → j < length roots → t' ≡ rooted minimum (get_or roots j 0) t → roots_in minimum (drop (j + 1) roots) t' ≡ roots_in minimum (drop j roots) t
unfolding roots_in
roots-turn minimum j roots t t' l e = let z : j + 1 ≡ suc j = omega arith in rw (drop-cons roots j 0 l, z, e)

pub roots-end : (minimum j : ℕ) (roots t : List ℕ) → length roots ≤ j → t ≡ roots_in minimum (drop j roots) t
unfolding roots_in
roots-end minimum j roots t l = rw (drop_of_length-le roots {i = j} l)

-- The pass down -------------------------------------------------------------------------------------------------------------------------

pub visited-not : (minimum : ℕ) (s : List ℕ) (e place : ℕ) (x : Held) → e < 65536 → x ≡ visited minimum s e place x
visited-not minimum s e place x h = rw (lt-ltb e 65536 h)

pub visited-marked : (minimum : ℕ) (s : List ℕ) (e place : ℕ) (p : List ℕ) (x x' : Held) → 65536 ≤ e → p ≡ bytes_at (e % 65536) s place → x' ≡ done_of minimum job.Mark p x
    → x' ≡ visited minimum s e place x
visited-marked minimum s e place p x x' h f g = rw (le-ltb e 65536 h, ← f) g

pub down_turn : (minimum : ℕ) (s : List ℕ) (i end e place end' : ℕ) (x x' : Held) → 0 < i → e ≡ get_or x.table (i - 1) 0 → place ≡ end - e % 65536 → end' ≡ place - 2
    → x' ≡ visited minimum s e place x → down_from minimum s (i - 1) end' x' ≡ down_from minimum s i end x
unfolding down_from
down_turn minimum s zero end e place end' x x' l a b d f = absurd (omega arith)
down_turn minimum s (suc i) end e place end' x x' l a b d f =
    let z : suc i - 1 ≡ i = omega arith in
    let a' : e ≡ get_or x.table i 0 = rw z at a in
    rw (z, d, f, b, a')

pub down-end : (minimum : ℕ) (s : List ℕ) (i end : ℕ) (x : Held) → i ≤ 0 → x ≡ down_from minimum s i end x
unfolding down_from
down-end minimum s zero end x l = refl
down-end minimum s (suc i) end x l = absurd (omega arith)

-- Numbers -------------------------------------------------------------------------------------------------------------------------------

module _ (i : ℕ) (x : Numbered) (t' : List ℕ) where
  pub numbered-dropped : get_or x.table i 0 < 65536 → t' ≡ set x.table i 0 → record { table = t'; next = x.next; bytes = x.bytes } ≡ numbered_at i x
  unfolding numbered_at
  numbered-dropped h e = rw (lt-ltb _ _ h, e)

  pub numbered-kept : (e : ℕ) → e ≡ get_or x.table i 0 → 65536 ≤ e → t' ≡ set x.table i x.next
      → record { table = t'; next = x.next + 1; bytes = x.bytes + 2 + e % 65536 } ≡ numbered_at i x
  unfolding numbered_at
  numbered-kept e a h f = let h' : 65536 ≤ get_or x.table i 0 = rw a at h in rw (le-ltb _ _ h', f, a)

pub number-turn : (n i : ℕ) (x x' : Numbered) → i < n → x' ≡ numbered_at i x → number_from (n - (i + 1)) (i + 1) x' ≡ number_from (n - i) i x
unfolding number_from
number-turn n i x x' l e = go (n - i) (omega arith) (omega arith)
  where
    go : (k : ℕ) → 0 < k → n - (i + 1) ≡ k - 1 → number_from (n - (i + 1)) (i + 1) x' ≡ number_from k i x
    go zero h f = absurd (omega arith)
    go (suc k) h f = let z : suc k - 1 ≡ k = omega arith in rw (f, z, e)

pub number-start : (n : ℕ) (x : Numbered) → number_from (n - 0) 0 x ≡ number_from n 0 x
number-start n x = let z : n - 0 ≡ n = omega arith in rw z

pub number-end : (n i : ℕ) (x : Numbered) → n ≤ i → x ≡ number_from (n - i) i x
unfolding number_from
number-end n i x l = let z : n - i ≡ 0 = omega arith in rw z

-- The pass up ---------------------------------------------------------------------------------------------------------------------------

pub linked-by : (p : List ℕ) (q : ℕ) (b b₁ b₂ : List ℕ) (r₁ r₂ : ℕ) → Lays b q (bytes 2 (length p % 65536)) r₁ b₁ → Lays b₁ (q + 2) p r₂ b₂ → b₂ ≡ link_laid p q b
unfolding link_laid
linked-by p q b b₁ b₂ r₁ r₂ h k = laid_by _ _ _ _ _ k ∙ ap (λ (y : List ℕ). laid y (q + 2) p) (laid_by _ _ _ _ _ h)

module _ (minimum : ℕ) (writing : Bool) (q kept : ℕ) (p : List ℕ) (x : Held) where
  pub up-dropped : kept ≡ 0 → x ≡ up_at minimum writing q kept p x
  up-dropped e = rw (eq-eqb kept 0 e)

  pub up-written : (x' : Held) → (kept ≡ 0 → ⊥) → writing ≡ true → (b : List ℕ) → b ≡ link_laid p q x.out → x' ≡ done_of minimum (job.Write (q + 2)) p (held_of x.good x.table b)
      → x' ≡ up_at minimum writing q kept p x
  up-written x' e w b f g = rw (ne_eqb kept 0 e, w, ← f) g

  pub up-asked : (x' : Held) → (kept ≡ 0 → ⊥) → writing ≡ false → x' ≡ done_of minimum job.Ask p x → x' ≡ up_at minimum writing q kept p x
  up-asked x' e w g = rw (ne_eqb kept 0 e, w) g

pub up_turn : (minimum : ℕ) (writing : Bool) (i q kept q' : ℕ) (ps qs : List (List ℕ)) (p : List ℕ) (x x' : Held) → ps ≡ p ∷ qs → kept ≡ get_or x.table i 0 → q' ≡ place_behind q kept p
    → x' ≡ up_at minimum writing q kept p x → up_from minimum writing (i + 1) q' qs x' ≡ up_from minimum writing i q ps x
unfolding up_from
up_turn minimum writing i q kept q' ps qs p x x' a b d e = rw (a, d, e, b)

pub up_none : (minimum : ℕ) (writing : Bool) (i q : ℕ) (ps : List (List ℕ)) (x : Held) → ps ≡ [] → x ≡ up_from minimum writing i q ps x
unfolding up_from
up_none minimum writing i q ps x e = rw e
