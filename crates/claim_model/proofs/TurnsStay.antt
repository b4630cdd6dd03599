-- How far the domain reaches: where eight times one more than the turns, and the minimum, fit a u32, the crate's whole use neither panics nor
-- wraps. Assumes nothing.
use Prim.Native.Nat.{ℕ, zero, suc, ◌+◌, ◌*◌, ◌≤◌, ◌<◌}
use mathlib.Core.Path.{◌≡◌, refl, subst}
use mathlib.Core.List.{List}
use native.Mathlib.Omega.{arith}
use lib.ListN.{length, length-set}
use Rattle.answer.specs.Answer.{Answer, answered, refused, then}
use Rattle.stream_header.specs.Header.{longest, header_of}
use Rattle.stream_header.specs.declared.Header.{Header}
use Rattle.field.specs.Indices.{index_in}
use Rattle.stream_item.specs.Iterator.{Next, done, yielded, next_of}
use Rattle.stream_item.specs.declared.iter.ItemIter.{ItemIter}
use Rattle.stream_item.proofs.NextLaws.{Yields, yields}
use Rattle.stream_finder.specs.Finder.{State, begun_by, update_of, Found, find_of}
use Rattle.claim_model.specs.Rust.{◌>>=◌, gives}
use Rattle.claim_model.specs.ParseBuffer.{if_some}
use Rattle.claim_model.specs.TpiHeader.{parse_information}
use Rattle.claim_model.specs.TpiItems.{iter, finder, next, update, tour, finder_find}
use Rattle.claim_model.specs.Equal.{Same, shown_by}
use Rattle.claim_model.specs.Shown.{information, iter_shown, next_shown, finder_shown, unlinked, Roomy, CanStand}
use Rattle.claim_model.proofs.Compose.{shown-numbered, unlinked-numbered, bind-same, roomy-first, roomy-then}
use Rattle.claim_model.proofs.HeaderEqual.{header}
use Rattle.claim_model.proofs.NextEqual.{number_in, next-same}
use Rattle.claim_model.proofs.CreateEqual.{first, iter-same, create-same}
use Rattle.claim_model.proofs.UpdateEqual.{update_same}
use Rattle.claim_model.proofs.FindEqual.{find-same}
use Rattle.claim_model.specs.Turns.{crate_turns, followed, turns, TurnsSame}
use Rattle.claim_model.proofs.TurnsEqual.{Accepted, accepted, eightfold, created-ind, updated-ind, Stood, stood, standing, once, turns-once}

-- ---- after k turns from the minimum m
pub record Grown (m k : ℕ) (σ : State) : Type 0 where
  pub minimum : σ.finder.minimum_index ≡ m
  pub shift : σ.finder.shift ≡ 3
  pub held : σ.finder.held ≤ 1 + k
  pub claim : σ.finder.held ≤ length σ.table

pub record Onward (m k : ℕ) (c : ItemIter) : Type 0 where
  pub above : m ≤ c.index
  pub upto : c.index ≤ m + k

grown : (m k : ℕ) (σ : State) (d : ItemIter) (τ : State) → d.at ≤ longest → Grown m k σ → update_of σ d ≡ answered τ → Grown m (suc k) τ
grown m k σ d τ a g =
    updated-ind σ d a (omega (arith, g.shift)) g.claim (Grown m (suc k))
    (record { minimum = g.minimum; shift = g.shift; held = omega arith; claim = g.claim })
    (λ h b r. record { minimum = g.minimum; shift = g.shift; held = omega arith; claim = rw length-set (omega arith) })
    τ

onward : (s : List ℕ) (m k : ℕ) (c : ItemIter) (d : ItemIter) → Onward m k c → d.index ≡ c.index + 1 → Onward m (suc k) d
onward s m k c d o e = record { above = omega arith; upto = omega arith }

module _ (s : List ℕ) (m N : ℕ) (fits : m + 8 * (1 + N) < 4294967296) where
  grown-turns : (n k : ℕ) (c : ItemIter) (σ : State) (d : ItemIter) (τ : State) → k + n ≤ N → Grown m k σ → turns s n c σ ≡ answered (d, τ) → Grown m N τ
  unfolding turns
  grown-turns zero k c σ d τ l g e =
      let w : ◌≡◌ {A = ItemIter × State} (c, σ) (d, τ) = cc in
      subst (λ (x : ItemIter × State). Grown m N x.1) w (record { minimum = g.minimum; shift = g.shift; held = omega arith; claim = g.claim })
  grown-turns (suc n) k c σ d τ l g e = step (next_of s c) refl e (λ d₁ τ₁ h q. grown-turns n (suc k) d₁ τ₁ d τ (omega arith) h q)
    where
      moved : (d₁ : ItemIter) → d₁.at ≤ longest → (a : Answer State) → update_of σ d₁ ≡ a → then a (λ τ₁. turns s n d₁ τ₁) ≡ answered (d, τ)
          → ((d₁ : ItemIter) (τ₁ : State) → Grown m (suc k) τ₁ → turns s n d₁ τ₁ ≡ answered (d, τ) → Grown m N τ)
          → Grown m N τ
      moved d₁ b (answered τ₁) u q ih = ih d₁ τ₁ (grown m k σ d₁ τ₁ b g u) q
      moved d₁ b (refused j x) u q ih = let z : ◌≡◌ {A = ℕ} 0 1 = cc in absurd (omega arith)

      step : (a : Answer Next) → next_of s c ≡ a → then a (followed c σ (λ d₁ τ₁. turns s n d₁ τ₁)) ≡ answered (d, τ)
          → ((d₁ : ItemIter) (τ₁ : State) → Grown m (suc k) τ₁ → turns s n d₁ τ₁ ≡ answered (d, τ) → Grown m N τ)
          → Grown m N τ
      step (answered done) u q ih =
          let w : ◌≡◌ {A = ItemIter × State} (c, σ) (d, τ) = cc in
          subst (λ (x : ItemIter × State). Grown m N x.1) w (record { minimum = g.minimum; shift = g.shift; held = omega arith; claim = g.claim })
      step (answered (yielded i d₁)) u q ih =
          moved d₁ (stood s c i d₁ u).at (update_of σ d₁) refl q ih
      step (refused j x) u q ih = let z : ◌≡◌ {A = ℕ} 0 1 = cc in absurd (omega arith)

  tour-same : (n k : ℕ) (c : ItemIter) (σ : State) → k + n ≤ N → CanStand s c → Onward m k c → Grown m k σ → Roomy (turns s n c σ)
      → Same (tour n (iter_shown s c) (finder_shown s σ)) (shown_by (standing s) (turns s n c σ))
  unfolding tour turns
  tour-same zero k c σ l ok o g roomy = record { stays = tt; equal = refl }
  tour-same (suc n) k c σ l ok o g roomy =
      bind-same (next (iter_shown s c)) (next_of s c) (next_shown s c) (λ (typ, it). if_some typ (λ _. ◌>>=◌ (update (finder_shown s σ) it) (λ f. tour n it f)) (gives (it, finder_shown s σ)))
      (followed c σ (λ d τ. turns s n d τ)) (shown_by (standing s)) (shown-numbered (standing s)) (next-same s c ok (omega arith))
      (λ x e. step x e (roomy-then (next_of s c) (followed c σ (λ d τ. turns s n d τ)) x e roomy) (λ d τ. tour-same n (suc k) d τ (omega arith)))
    where
      step : (x : Next) → next_of s c ≡ answered x → Roomy (followed c σ (λ d τ. turns s n d τ) x)
          → ((d : ItemIter) (τ : State) → CanStand s d → Onward m (suc k) d → Grown m (suc k) τ → Roomy (turns s n d τ) → Same (tour n (iter_shown s d) (finder_shown s τ)) (shown_by (standing s) (turns s n d τ)))
          → Same (if_some (next_shown s c x).0 (λ _. ◌>>=◌ (update (finder_shown s σ) (next_shown s c x).1) (λ f. tour n (next_shown s c x).1 f)) (gives ((next_shown s c x).1, finder_shown s σ)))
          (shown_by (standing s) (followed c σ (λ d τ. turns s n d τ) x))
      step done e r ih = record { stays = tt; equal = refl }
      step (yielded i d) e r ih =
          let y : Stood s d = stood s c i d e in
          let v : Yields s c i d = yields s c i d e in
          let p : Onward m (suc k) d = onward s m k c d o v.index in
          bind-same (update (finder_shown s σ) (iter_shown s d)) (update_of σ d) (finder_shown s) (λ f. tour n (iter_shown s d) f)
          (λ τ. turns s n d τ) (shown_by (standing s)) (shown-numbered (standing s))
          (update_same s σ d y.at (omega (arith, g.shift)) g.claim (omega (arith, g.minimum, p.above)) (roomy-first (update_of σ d) (λ τ. turns s n d τ) r))
          λ τ u. ih d τ y.stands p (grown m k σ d τ y.at g u) (roomy-then (update_of σ d) (λ τ. turns s n d τ) τ u r)

-- ---- the whole use
pub turns_same : TurnsSame
unfolding TurnsSame crate_turns once
turns_same tag s t n i ok roomy' far =
    let roomy = subst (λ (a : Answer Found). Roomy a) (turns-once tag s t n i) roomy' in
    rw (turns-once tag s t n i)
    (bind-same (parse_information s) (header_of s) (information s) _ (once tag s t n i) (unlinked s) (unlinked-numbered s) (header s ok.short)
    λ h e.
    let a : Accepted s h = accepted s h ok e in
    let lim : h.minimum_index + 8 * (1 + n) < 4294967296 = far h e in
    let r₁ = roomy-then (header_of s) (once tag s t n i) h e roomy in
    bind-same (finder (information s h)) (begun_by 3 t h) (finder_shown s) _ (λ σ. then (turns s n (first tag h) σ) λ (d, τ). find_of s τ (index_in tag i)) (unlinked s) (unlinked-numbered s)
    (create-same s t h a.counted a.round (roomy-first (begun_by 3 t h) _ r₁))
    λ σ e₂.
    let g : Grown h.minimum_index 0 σ =
    created-ind t h (Grown h.minimum_index 0) (record { minimum = refl; shift = refl; held = omega arith; claim = omega arith })
    (λ r. record { minimum = refl; shift = refl; held = omega arith; claim = rw length-set r }) σ e₂ in
    let r₂ = roomy-then (begun_by 3 t h) (λ σ. then (turns s n (first tag h) σ) λ (d, τ). find_of s τ (index_in tag i)) σ e₂ r₁ in
    let stand : CanStand s (first tag h) = record { short = ok.short; inside = a.inside; index = a.index } in
    bind-same (iter (information s h)) (answered (first tag h)) (iter_shown s) _ (λ c. then (turns s n c σ) λ (d, τ). find_of s τ (index_in tag i)) (unlinked s) (unlinked-numbered s)
    (iter-same tag s h ok.short a.inside)
    λ c e₃.
    let w : first tag h ≡ c = cc in
    subst (λ (x : ItemIter). Same (◌>>=◌ (tour n (iter_shown s x) (finder_shown s σ)) (λ (it, f). finder_find f i)) (unlinked s (then (turns s n x σ) λ (d, τ). find_of s τ (index_in tag i)))) w
    (bind-same (tour n (iter_shown s (first tag h)) (finder_shown s σ)) (turns s n (first tag h) σ) (standing s) (λ (it, f). finder_find f i) (λ (d, τ). find_of s τ (index_in tag i))
    (unlinked s) (unlinked-numbered s)
    (tour-same s h.minimum_index n lim n 0 (first tag h) σ (omega arith) stand (record { above = omega arith; upto = omega arith }) g (roomy-first (turns s n (first tag h) σ) _ r₂))
    λ x e₄. found h lim x (grown-turns s h.minimum_index n lim n 0 (first tag h) σ x.0 x.1 (omega arith) g e₄)))
  where
    found : (h : Header) → h.minimum_index + 8 * (1 + n) < 4294967296 → (x : ItemIter × State) → Grown h.minimum_index n x.1
        → Same (finder_find (finder_shown s x.1) i) (unlinked s (find_of s x.1 (index_in tag i)))
    found h lim x g =
        subst (λ (m : ℕ). Same (finder_find (finder_shown s x.1) m) (unlinked s (find_of s x.1 (index_in tag i)))) (number_in tag i)
        (find-same s x.1 (record { short = ok.short; shift = omega (arith, g.shift); held = g.claim }) (omega (arith, g.held, eightfold x.1 g.shift)) (index_in tag i)
        (omega (arith, g.held, g.minimum, eightfold x.1 g.shift)))
