-- A whole use is equal: its parts are, and each leaves what the next part's equality asks for. Assumes nothing.
use Prim.Native.Nat.{ℕ, zero, suc, ◌+◌, ◌-◌, ◌*◌, ◌/◌, ◌%◌, ◌^◌, ◌≤◌, ◌<◌}
use mathlib.Core.Path.{◌≡◌, refl, ap, subst}
use mathlib.Core.List.{List}
use mathlib.Core.Bool.{Bool, true, false}
use native.Mathlib.Omega.{arith}
use lib.ListN.{length, get_or, set, length-set}
use lib.Dec.{ltb, eqb}
use borrow.Author.Tests.{ltb-false, eqb-true}
use Rattle.answer.specs.Answer.{Answer, answered, refused, pick, stop, both, then}
use Rattle.field.specs.Fields.{little_at}
use Rattle.stream_header.specs.Header.{longest, fields_of, zero_header, header_of}
use Rattle.stream_header.specs.declared.Header.{Header}
use Rattle.field.specs.Indices.{index_in}
use Rattle.stream_item.specs.Iterator.{iter_of, Next, done, yielded, next_of}
use Rattle.field.specs.declared.index.Stream.{Stream}
use Rattle.stream_item.specs.declared.Item.{Item}
use Rattle.stream_item.specs.declared.iter.ItemIter.{ItemIter}
use Rattle.stream_item.proofs.NextLaws.{passed, Yields, yields}
use Rattle.stream_finder.specs.Finder.{State, state, block_of, holding, begun_by, create_by, due, stored, update_of, Found, find_of}
use Rattle.stream_finder.proofs.FinderLaws.{begun-none, begun-full, begun-some, update-foreign, update-keeps, update-full, update-stores}
use Rattle.claim_model.specs.Rust.{gives, ◌>>=◌}
use Rattle.claim_model.specs.ParseBuffer.{if_some}
use Rattle.claim_model.specs.TpiHeader.{parse_information}
use Rattle.claim_model.specs.TpiItems.{ItemIter as CrateIter, ItemFinder as CrateFinder, iter, finder, next, update, tour, finder_find}
use Rattle.claim_model.specs.Equal.{Equal, shown_by}
use Rattle.claim_model.specs.Shown.{information, iter_shown, next_shown, finder_shown, unlinked, Roomy, CanStand}
use Rattle.claim_model.proofs.BufferLaws.{by_order}
use Rattle.claim_model.proofs.Compose.{shown-numbered, unlinked-numbered, bind-equal, roomy-first, roomy-then}
use Rattle.claim_model.proofs.HeaderEqual.{header}
use Rattle.claim_model.proofs.NextEqual.{number_in, next-equal}
use Rattle.claim_model.proofs.CreateEqual.{first, iter-equal, create-equal}
use Rattle.claim_model.proofs.UpdateEqual.{update-equal}
use Rattle.claim_model.proofs.FindEqual.{find-equal}
use Rattle.claim_model.specs.Turns.{crate_turns, followed, turns, port_turns, Lent, TurnsEqual}

-- ---- what an accepted header says
pub record Accepted (s : List ℕ) (h : Header) : Type 0 where
  pub inside : h.header_size ≤ length s
  pub index : h.minimum_index ≤ 4294967295
  pub counted : h.minimum_index ≤ h.maximum_index
  pub round : h.maximum_index - h.minimum_index + 7 < 4294967296
  pub low : 0 < length s → 4096 ≤ h.minimum_index

le-bound : (s : List ℕ) (p : ℕ) → ((i : ℕ) → get_or s i 0 < 256) → little_at 4 s p ≤ 4294967295
unfolding little_at
le-bound s p b = omega (arith, b p, b (p + 1), b (p + 1 + 1), b (p + 1 + 1 + 1))

unempty : {A : Type 0} (b : Bool) (x y : Answer A) (P : Type 0) {z : Answer A} → (b ≡ true → x ≡ y → P) → pick b x z ≡ y → (z ≡ y → P) → P
unempty true x y P f e g = f refl e
unempty false x y P f e g = g e

pub accepted : (s : List ℕ) (h : Header) → Lent s → header_of s ≡ answered h → Accepted s h
unfolding header_of
accepted s h ok e =
    let t1 = passed (ltb longest (length s)) 16 _ _ e in
    unempty (eqb (length s) 0) (answered zero_header) (answered h) (Accepted s h) bare t1.1 full
  where
    bare : eqb (length s) 0 ≡ true → ◌≡◌ {A = Answer Header} (answered zero_header) (answered h) → Accepted s h
    bare z q =
        let n : length s ≡ 0 = eqb-true _ _ z in
        let w : zero_header ≡ h = cc in
        subst (λ (x : Header). Accepted s x) w (record { inside = omega arith; index = omega arith; counted = omega arith; round = omega arith; low = λ g. omega arith })

    full : stop (ltb (length s) 56) 1 (stop (ltb (little_at 4 s 4) 56) 2 (stop (ltb 1024 (little_at 4 s 4)) 3 (stop (ltb (length s) (little_at 4 s 4)) 1
        (stop (ltb (little_at 4 s 8) 4096) 4 (stop (ltb (little_at 4 s 12) (little_at 4 s 8)) 5 (answered (fields_of s))))))) ≡ answered h → Accepted s h
    full q =
        let t2 = passed (ltb (length s) 56) 1 _ _ q in
        let t3 = passed (ltb (little_at 4 s 4) 56) 2 _ _ t2.1 in
        let t4 = passed (ltb 1024 (little_at 4 s 4)) 3 _ _ t3.1 in
        let t5 = passed (ltb (length s) (little_at 4 s 4)) 1 _ _ t4.1 in
        let t6 = passed (ltb (little_at 4 s 8) 4096) 4 _ _ t5.1 in
        let t7 = passed (ltb (little_at 4 s 12) (little_at 4 s 8)) 5 _ _ t6.1 in
        let w : fields_of s ≡ h = cc t7.1 in
        let m : 4096 ≤ little_at 4 s 8 = ltb-false _ _ t6.0 in
        subst (λ (x : Header). Accepted s x) w
        (record {
          inside = ltb-false _ _ t5.0;
          index = le-bound s 8 ok.bytes.bytes;
          counted = ltb-false _ _ t7.0;
          round = omega (arith, le-bound s 12 ok.bytes.bytes);
          low = λ g. m;
        })

-- ---- what a creation and an update leave

-- a finder of shift 3 has blocks of eight
pub eighths : (n : ℕ) (σ : State) → σ.finder.shift ≡ 3 → n / block_of σ.finder ≡ n / 8
eighths n σ e = ap (λ (x : ℕ). n / 2 ^ x) e

pub eightfold : (σ : State) → σ.finder.shift ≡ 3 → σ.finder.held * block_of σ.finder ≡ σ.finder.held * 8
eightfold σ e = ap (λ (x : ℕ). σ.finder.held * 2 ^ x) e

pub record Fit (s : List ℕ) (σ : State) : Type 0 where
  pub shift : σ.finder.shift ≡ 3
  pub held : σ.finder.held ≤ length σ.table
  pub few : σ.finder.held * 8 < 4294967296
  pub low : 0 < length s → 4096 ≤ σ.finder.minimum_index

-- a creation answers with one of two finders
pub created-ind : (t : List ℕ) (h : Header) (P : State → Type 0) → P (state (holding h 3 0) t) → (0 < length t → P (state (holding h 3 1) (set t 0 h.header_size)))
    → (σ : State) → begun_by 3 t h ≡ answered σ → P σ
created-ind t h P p q σ e =
    by_order h.maximum_index h.minimum_index
    (λ c.
    let w : state (holding h 3 0) t ≡ σ = cc (begun-none 3 t h (omega arith) c) in
    subst P w p)
    λ c.
    by_order (length t) 0
    (λ f.
    let y = begun-full 3 t h (omega arith) c f in
    let z : ◌≡◌ {A = ℕ} 0 1 = cc in
    absurd (omega arith))
    λ r.
    let w : state (holding h 3 1) (set t 0 h.header_size) ≡ σ = cc (begun-some 3 t h (omega arith) c r) in
    subst P w (q r)

both-snd : (x y : Bool) → both x y ≡ true → y ≡ true
both-snd true y e = e
both-snd false y e = let z : ◌≡◌ {A = ℕ} 0 1 = cc in absurd (omega arith)

-- an update answers with the finder as it was, or with one place more, whose number is the block's
pub updated-ind : (σ : State) (c : ItemIter) → c.at ≤ longest → σ.finder.shift ≤ 6 → σ.finder.held ≤ length σ.table → (P : State → Type 0) → P σ
    → (σ.finder.minimum_index ≤ c.index → (c.index - σ.finder.minimum_index) / block_of σ.finder ≡ σ.finder.held → σ.finder.held < length σ.table → P (stored σ c.at))
    → (τ : State) → update_of σ c ≡ answered τ → P τ
updated-ind σ c a small f P p q τ e =
    by_order σ.finder.minimum_index c.index (λ h. go h (due σ.finder c.index) refl)
    λ h.
    let y = update-foreign σ c a small f h in
    let z : ◌≡◌ {A = ℕ} 0 1 = cc in
    absurd (omega arith)
  where
    go : σ.finder.minimum_index ≤ c.index → (b : Bool) → due σ.finder c.index ≡ b → P τ
    go h false d =
        let w : σ ≡ τ = cc (update-keeps σ c (record { at = a; shift = small; held = f; index = h }) d) in
        subst P w p
    go h true d =
        by_order (length σ.table) σ.finder.held
        (λ u.
        let y = update-full σ c (record { at = a; shift = small; held = f; index = h }) d u in
        let z : ◌≡◌ {A = ℕ} 0 1 = cc in
        absurd (omega arith))
        λ r.
        let w : stored σ c.at ≡ τ = cc (update-stores σ c (record { at = a; shift = small; held = f; index = h }) d r) in
        let b : (c.index - σ.finder.minimum_index) / block_of σ.finder ≡ σ.finder.held =
        eqb-true _ _ (both-snd (eqb ((c.index - σ.finder.minimum_index) % block_of σ.finder) 0) (eqb ((c.index - σ.finder.minimum_index) / block_of σ.finder) σ.finder.held) d) in
        subst P w (q h b r)

fit-created : (s t : List ℕ) (h : Header) (σ : State) → Accepted s h → begun_by 3 t h ≡ answered σ → Fit s σ
fit-created s t h σ a =
    created-ind t h (Fit s) (record { shift = refl; held = omega arith; few = omega arith; low = a.low })
    (λ r. record { shift = refl; held = rw length-set r; few = omega arith; low = a.low }) σ

fit-updated : (s : List ℕ) (σ : State) (d : ItemIter) (τ : State) → d.at ≤ longest → d.index ≤ 4294967295 → 0 < length s → Fit s σ → update_of σ d ≡ answered τ → Fit s τ
fit-updated s σ d τ a i z f =
    updated-ind σ d a (omega (arith, f.shift)) f.held (Fit s) f
    (λ h b r.
    let m : 4096 ≤ σ.finder.minimum_index = f.low z in
    record {
      shift = f.shift;
      held = rw length-set (omega arith);
      few = omega (arith, eighths (d.index - σ.finder.minimum_index) σ f.shift);
      low = f.low;
    }) τ

-- ---- where a step leaves the iterator
pub record Stood (s : List ℕ) (d : ItemIter) : Type 0 where
  pub stands : CanStand s d
  pub at : d.at ≤ longest
  pub some : 0 < length s

pub stood : (s : List ℕ) (c : ItemIter) (i : Item) (d : ItemIter) → next_of s c ≡ answered (yielded i d) → Stood s d
stood s c i d e =
    let y : Yields s c i d = yields s c i d e in
    record {
      stands = record { short = y.short; inside = y.inside; index = omega arith };
      at = omega arith;
      some = omega arith;
    }

-- ---- the turns
abbrev pub standing : List ℕ → ItemIter × State → CrateIter × CrateFinder
standing s (c, σ) = (iter_shown s c, finder_shown s σ)

module _ (s : List ℕ) where
  fit-turns : (n : ℕ) (c : ItemIter) (σ : State) (d : ItemIter) (τ : State) → Fit s σ → turns s n c σ ≡ answered (d, τ) → Fit s τ
  unfolding turns
  fit-turns zero c σ d τ f e =
      let w : ◌≡◌ {A = ItemIter × State} (c, σ) (d, τ) = cc in
      subst (λ (x : ItemIter × State). Fit s x.1) w f
  fit-turns (suc n) c σ d τ f e = step (next_of s c) refl e (λ d₁ τ₁ g q. fit-turns n d₁ τ₁ d τ g q)
    where
      moved : (d₁ : ItemIter) → Stood s d₁ → (a : Answer State) → update_of σ d₁ ≡ a → then a (λ τ₁. turns s n d₁ τ₁) ≡ answered (d, τ)
          → ((d₁ : ItemIter) (τ₁ : State) → Fit s τ₁ → turns s n d₁ τ₁ ≡ answered (d, τ) → Fit s τ) → Fit s τ
      moved d₁ y (answered τ₁) u q ih = ih d₁ τ₁ (fit-updated s σ d₁ τ₁ y.at y.stands.index y.some f u) q
      moved d₁ y (refused m x) u q ih = let z : ◌≡◌ {A = ℕ} 0 1 = cc in absurd (omega arith)

      step : (a : Answer Next) → next_of s c ≡ a → then a (followed c σ (λ d₁ τ₁. turns s n d₁ τ₁)) ≡ answered (d, τ)
          → ((d₁ : ItemIter) (τ₁ : State) → Fit s τ₁ → turns s n d₁ τ₁ ≡ answered (d, τ) → Fit s τ) → Fit s τ
      step (answered done) u q ih =
          let w : ◌≡◌ {A = ItemIter × State} (c, σ) (d, τ) = cc in
          subst (λ (x : ItemIter × State). Fit s x.1) w f
      step (answered (yielded i d₁)) u q ih = moved d₁ (stood s c i d₁ u) (update_of σ d₁) refl q ih
      step (refused m x) u q ih = let z : ◌≡◌ {A = ℕ} 0 1 = cc in absurd (omega arith)

  pub tour-equal : (n : ℕ) (c : ItemIter) (σ : State) → CanStand s c → Fit s σ → Roomy (turns s n c σ)
      → Equal (tour n (iter_shown s c) (finder_shown s σ)) (shown_by (standing s) (turns s n c σ))
  unfolding tour turns
  tour-equal zero c σ ok f roomy = refl
  tour-equal (suc n) c σ ok f roomy =
      bind-equal (next (iter_shown s c)) (next_of s c) (next_shown s c) (λ (typ, it). if_some typ (λ _. ◌>>=◌ (update (finder_shown s σ) it) (λ g. tour n it g)) (gives (it, finder_shown s σ)))
      (followed c σ (λ d τ. turns s n d τ)) (shown_by (standing s)) (shown-numbered (standing s)) (next-equal s c ok)
      (λ x e. step x e (roomy-then (next_of s c) (followed c σ (λ d τ. turns s n d τ)) x e roomy) (λ d τ. tour-equal n d τ))
    where
      step : (x : Next) → next_of s c ≡ answered x → Roomy (followed c σ (λ d τ. turns s n d τ) x)
          → ((d : ItemIter) (τ : State) → CanStand s d → Fit s τ → Roomy (turns s n d τ) → Equal (tour n (iter_shown s d) (finder_shown s τ)) (shown_by (standing s) (turns s n d τ)))
          → Equal (if_some (next_shown s c x).0 (λ _. ◌>>=◌ (update (finder_shown s σ) (next_shown s c x).1) (λ g. tour n (next_shown s c x).1 g)) (gives ((next_shown s c x).1, finder_shown s σ)))
          (shown_by (standing s) (followed c σ (λ d τ. turns s n d τ) x))
      step done e r ih = refl
      step (yielded i d) e r ih =
          let y : Stood s d = stood s c i d e in
          bind-equal (update (finder_shown s σ) (iter_shown s d)) (update_of σ d) (finder_shown s) (λ g. tour n (iter_shown s d) g)
          (λ τ. turns s n d τ) (shown_by (standing s)) (shown-numbered (standing s))
          (update-equal s σ d y.at (omega (arith, f.shift)) f.held (roomy-first (update_of σ d) (λ τ. turns s n d τ) r))
          λ τ u. ih d τ y.stands (fit-updated s σ d τ y.at y.stands.index y.some f u) (roomy-then (update_of σ d) (λ τ. turns s n d τ) τ u r)

-- ---- the whole use
-- the port's use, its header read once
unfoldable pub once : Stream → List ℕ → List ℕ → ℕ → ℕ → Header → Answer Found
once tag s t n i h = then (begun_by 3 t h) λ σ. then (turns s n (first tag h) σ) λ (d, τ). find_of s τ (index_in tag i)

pub turns-once : (tag : Stream) (s t : List ℕ) (n i : ℕ) → port_turns tag s t n i ≡ then (header_of s) (once tag s t n i)
unfolding port_turns create_by iter_of once
turns-once tag s t n i = go (header_of s)
  where
    go : (a : Answer Header)
        → then (then a (begun_by 3 t)) (λ σ. then (then a (λ h. answered (first tag h))) λ c. then (turns s n c σ) λ (d, τ). find_of s τ (index_in tag i))
        ≡ then a (once tag s t n i)
    go (answered h) = refl
    go (refused m d) = refl

pub turns-equal : TurnsEqual
unfolding TurnsEqual crate_turns once
turns-equal tag s t n i ok roomy' =
    let roomy = subst (λ (a : Answer Found). Roomy a) (turns-once tag s t n i) roomy' in
    rw (turns-once tag s t n i)
    (bind-equal (parse_information s) (header_of s) (information s) _ (once tag s t n i) (unlinked s) (unlinked-numbered s) (header s ok.short).equal
    λ h e.
    let a : Accepted s h = accepted s h ok e in
    let r₁ = roomy-then (header_of s) (once tag s t n i) h e roomy in
    bind-equal (finder (information s h)) (begun_by 3 t h) (finder_shown s) _ (λ σ. then (turns s n (first tag h) σ) λ (d, τ). find_of s τ (index_in tag i)) (unlinked s) (unlinked-numbered s)
    (create-equal s t h (roomy-first (begun_by 3 t h) _ r₁))
    λ σ e₂.
    let f : Fit s σ = fit-created s t h σ a e₂ in
    let r₂ = roomy-then (begun_by 3 t h) (λ σ. then (turns s n (first tag h) σ) λ (d, τ). find_of s τ (index_in tag i)) σ e₂ r₁ in
    let stand : CanStand s (first tag h) = record { short = ok.short; inside = a.inside; index = a.index } in
    bind-equal (iter (information s h)) (answered (first tag h)) (iter_shown s) _ (λ c. then (turns s n c σ) λ (d, τ). find_of s τ (index_in tag i)) (unlinked s) (unlinked-numbered s)
    (iter-equal tag s h ok.short)
    λ c e₃.
    let w : first tag h ≡ c = cc in
    subst (λ (x : ItemIter). Equal (◌>>=◌ (tour n (iter_shown s x) (finder_shown s σ)) (λ (it, g). finder_find g i)) (unlinked s (then (turns s n x σ) λ (d, τ). find_of s τ (index_in tag i)))) w
    (bind-equal (tour n (iter_shown s (first tag h)) (finder_shown s σ)) (turns s n (first tag h) σ) (standing s) (λ (it, g). finder_find g i) (λ (d, τ). find_of s τ (index_in tag i))
    (unlinked s) (unlinked-numbered s)
    (tour-equal s n (first tag h) σ stand f (roomy-first (turns s n (first tag h) σ) _ r₂))
    λ x e₄.
    let g : Fit s x.1 = fit-turns s n (first tag h) σ x.0 x.1 f e₄ in
    subst (λ (m : ℕ). Equal (finder_find (finder_shown s x.1) m) (unlinked s (find_of s x.1 (index_in tag i)))) (number_in tag i)
    (find-equal s x.1 (record { short = ok.short; shift = omega (arith, g.shift); held = g.held }) (omega (arith, eightfold x.1 g.shift, g.few)) (index_in tag i))))
