-- Any use of a stream is equal: each iterator that goes stands where it can, the same ones go in the crate and in the port, the finder's places
-- stay few enough, and each action keeps all that. Assumes nothing.
use Rattle.std.specs.Prelude.{Option, None, Some}
use Prim.Native.Nat.{ℕ, zero, suc, ◌+◌, ◌-◌, ◌*◌, ◌≤◌, ◌<◌}
use mathlib.Core.Path.{◌≡◌, refl, ap, subst}
use mathlib.Core.List.{List, [], ◌∷◌, map}
use native.Mathlib.Omega.{arith}
use lib.ListN.{length, length-set, get_or, set, get_or-map}
use Rattle.answer.specs.Answer.{Answer, answered, refused, then}
use Rattle.stream_header.specs.Header.{longest, header_of}
use Rattle.stream_header.specs.declared.Header.{Header}
use Rattle.field.specs.Indices.{index_in}
use Rattle.stream_item.specs.Iterator.{Next, done, yielded, next_of}
use Rattle.field.specs.declared.index.Stream.{Stream}
use Rattle.stream_item.specs.declared.iter.ItemIter.{ItemIter}
use Rattle.stream_item.proofs.NextLaws.{iter-is}
use Rattle.stream_finder.specs.Finder.{State, begun_by, create_by, update_of, Found, find_of}
use Rattle.claim_model.specs.Rust.{Rust, gives, errs, panics, wraps, ◌>>=◌}
use Rattle.claim_model.specs.ParseBuffer.{if_some}
use Rattle.claim_model.specs.TpiHeader.{parse_information}
use Rattle.claim_model.specs.TpiItems.{Item, ItemIter as CrateIter, iter, finder, next, update, finder_find}
use Rattle.claim_model.specs.Equal.{Equal, shown_by}
use Rattle.claim_model.specs.Shown.{information, iter_shown, next_shown, finder_shown, unlinked, Roomy, CanStand}
use Rattle.claim_model.proofs.Compose.{unlinked-numbered, bind-equal, roomy-first, roomy-then}
use Rattle.claim_model.proofs.HeaderEqual.{header}
use Rattle.claim_model.proofs.NextEqual.{number_in, next-equal}
use Rattle.claim_model.proofs.CreateEqual.{first, iter-equal, create-equal}
use Rattle.claim_model.proofs.UpdateEqual.{update-equal}
use Rattle.claim_model.proofs.FindEqual.{find-equal}
use Rattle.claim_model.specs.Turns.{Lent}
use Rattle.claim_model.proofs.TurnsEqual.{Accepted, accepted, eighths, eightfold, created-ind, updated-ind, Stood, stood}
use Rattle.claim_model.specs.Course.{Action, begins, steps, updates, crate_behind, crate_uses, crate_course, port_behind, port_uses, port_course, CoursesEqual}

-- ---- lists of iterators, none for one that has stopped
abbrev shown_some : {A B : Type 0} → (A → B) → Option A → Option B
shown_some f None = None
shown_some f (Some a) = Some (f a)

set-map : {A B : Type 0} (f : A → B) (l : List A) (k : ℕ) (a : A) → set (map f l) k (f a) ≡ map f (set l k a)
set-map f [] k a = refl
set-map f (x ∷ l) zero a = refl
set-map f (x ∷ l) (suc k) a = ap (λ m. f x ∷ m) (set-map f l k a)

-- P of one that goes
abbrev If : {A : Type 0} → (A → Type 0) → Option A → Type 0
If P None = Unit
If P (Some a) = P a

data All {A : Type 0} (P : A → Type 0) : List (Option A) → Type 0 where
  no_one : All P []
  also : {o : Option A} {l : List (Option A)} → If P o → All P l → All P (o ∷ l)

all-get : {A : Type 0} {P : A → Type 0} {l : List (Option A)} → All P l → (k : ℕ) (a : A) → get_or l k None ≡ Some a → P a
all-get no_one k a e = let z : ◌≡◌ {A = ℕ} 0 1 = cc in absurd (omega arith)
all-get {P = P} (also p ps) zero a e = subst (λ o. If P o) e p
all-get (also p ps) (suc k) a e = all-get ps k a e

all_set : {A : Type 0} {P : A → Type 0} {l : List (Option A)} → All P l → (k : ℕ) (o : Option A) → If P o → All P (set l k o)
all_set no_one k o q = no_one
all_set (also p ps) zero o q = also q ps
all_set (also p ps) (suc k) o q = also p (all_set ps k o q)

-- ---- what every action keeps, m being the minimum index
record Sound (s : List ℕ) (m : ℕ) (c : ItemIter) : Type 0 where
  pub stands : CanStand s c
  pub near : c.index ≤ 4294967287 + m

record Kept (m : ℕ) (σ : State) : Type 0 where
  pub minimum : σ.finder.minimum_index ≡ m
  pub shift : σ.finder.shift ≡ 3
  pub held : σ.finder.held ≤ length σ.table
  pub few : σ.finder.held * 8 < 4294967296

module _ (tag : Stream) (s : List ℕ) (h : Header) (ok : Lent s) (e : header_of s ≡ answered h) (i : ℕ) where
  a : Accepted s h
  a = accepted s h ok e

  sound-first : Sound s h.minimum_index (first tag h)
  sound-first = record { stands = record { short = ok.short; inside = a.inside; index = a.index }; near = omega arith }

  sound-next : (c : ItemIter) → Sound s h.minimum_index c → (x : Answer Next) → next_of s c ≡ x → If (Sound s h.minimum_index) (port_behind c x)
  sound-next c k (answered done) q = k
  sound-next c k (answered (yielded j d)) q =
      let y : Stood s d = stood s c j d q in
      let l : 4096 ≤ h.minimum_index = a.low y.some in
      record { stands = y.stands; near = omega (arith, y.stands.index) }
  sound-next c k (refused n d) q = tt

  kept-update : (σ : State) (c : ItemIter) (τ : State) → Kept h.minimum_index σ → Sound s h.minimum_index c → c.at ≤ longest → update_of σ c ≡ answered τ → Kept h.minimum_index τ
  kept-update σ c τ k n l =
      updated-ind σ c l (omega (arith, k.shift)) k.held (Kept h.minimum_index) k
      (λ g b r. record {
        minimum = k.minimum;
        shift = k.shift;
        held = rw length-set (omega arith);
        few = omega (arith, k.minimum, n.near, eighths (c.index - σ.finder.minimum_index) σ k.shift);
      }) τ

  at-fits : (c : ItemIter) → Sound s h.minimum_index c → c.at ≤ longest
  at-fits c n = omega (arith, n.stands.inside, n.stands.short)

  abbrev shown : Option ItemIter → Option CrateIter
  shown = shown_some (iter_shown s)

  -- a step stops the crate's iterator exactly if it stops the port's; else both go on, at the same place
  step-equal : (c : ItemIter) → CanStand s c → Equal (crate_behind (next (iter_shown s c))) (answered (shown (port_behind c (next_of s c))))
  step-equal c stands = go (next (iter_shown s c)) (next_of s c) (next-equal s c stands)
    where
      behind : (x : Next) → Equal (crate_behind (gives (next_shown s c x))) (answered (shown (port_behind c (answered x))))
      behind done = refl
      behind (yielded j d) = refl

      go : (r : Rust (Option Item × CrateIter)) (x : Answer Next) → Equal r (shown_by (next_shown s c) x) → Equal (crate_behind r) (answered (shown (port_behind c x)))
      go (gives v) (answered x) q =
          let w : next_shown s c x ≡ v = cc in
          subst (λ (y : Option Item × CrateIter). Equal (crate_behind (gives y)) (answered (shown (port_behind c (answered x))))) w (behind x)
      go (gives v) (refused n d) q = let z : ◌≡◌ {A = ℕ} 0 1 = cc in absurd (omega arith)
      go (errs f) (answered x) q = let z : ◌≡◌ {A = ℕ} 0 1 = cc in absurd (omega arith)
      go (errs f) (refused n d) q = refl
      go panics x q = tt
      go wraps x q = tt

  abbrev Uses : List Action → List (Option ItemIter) → State → Type 0
  Uses acts cs σ = Equal (crate_uses (information s h) i acts (map shown cs) (finder_shown s σ)) (unlinked s (port_uses tag s i acts cs σ))

  uses : (acts : List Action) (cs : List (Option ItemIter)) (σ : State) → All (Sound s h.minimum_index) cs → Kept h.minimum_index σ → Roomy (port_uses tag s i acts cs σ) → Uses acts cs σ
  unfolding crate_uses port_uses
  uses [] cs σ n k roomy =
      subst (λ (x : ℕ). Equal (finder_find (finder_shown s σ) x) (unlinked s (find_of s σ (index_in tag i)))) (number_in tag i)
      (find-equal s σ (record { short = ok.short; shift = omega (arith, k.shift); held = k.held }) (omega (arith, eightfold σ k.shift, k.few)) (index_in tag i))
  uses (begins ∷ acts) cs σ n k roomy =
      let r = subst (λ (x : Answer ItemIter). Roomy (then x λ c. port_uses tag s i acts (Some c ∷ cs) σ)) (iter-is tag s h e) roomy in
      rw (iter-is tag s h e)
      (bind-equal (iter (information s h)) (answered (first tag h)) (iter_shown s) (λ it. crate_uses (information s h) i acts (Some it ∷ map shown cs) (finder_shown s σ))
      (λ c. port_uses tag s i acts (Some c ∷ cs) σ) (unlinked s) (unlinked-numbered s) (iter-equal tag s h ok.short)
      λ c q.
      let w : first tag h ≡ c = cc in
      subst (λ (x : ItemIter). Uses acts (Some x ∷ cs) σ) w (uses acts (Some (first tag h) ∷ cs) σ (also sound-first n) k r))
  uses (steps j ∷ acts) cs σ n k roomy = rw (get_or-map shown cs j None) (go (get_or cs j None) refl roomy (λ ds l r. uses acts ds σ l k r))
    where
      go : (o : Option ItemIter) → get_or cs j None ≡ o
          → Roomy (if_some o (λ c. port_uses tag s i acts (set cs j (port_behind c (next_of s c))) σ) (port_uses tag s i acts cs σ))
          → ((ds : List (Option ItemIter)) → All (Sound s h.minimum_index) ds → Roomy (port_uses tag s i acts ds σ) → Uses acts ds σ)
          → Equal (if_some (shown o) (λ it. ◌>>=◌ (crate_behind (next it)) λ b. crate_uses (information s h) i acts (set (map shown cs) j b) (finder_shown s σ)) (crate_uses (information s h) i acts (map shown cs) (finder_shown s σ)))
          (unlinked s (if_some o (λ c. port_uses tag s i acts (set cs j (port_behind c (next_of s c))) σ) (port_uses tag s i acts cs σ)))
      go None q r ih = ih cs n r
      go (Some c) q r ih =
          let f : Sound s h.minimum_index c = all-get n j c q in
          bind-equal (crate_behind (next (iter_shown s c))) (answered (port_behind c (next_of s c))) shown (λ b. crate_uses (information s h) i acts (set (map shown cs) j b) (finder_shown s σ))
          (λ b. port_uses tag s i acts (set cs j b) σ) (unlinked s) (unlinked-numbered s) (step-equal c f.stands)
          λ b u.
          let w : port_behind c (next_of s c) ≡ b = cc in
          rw (set-map shown cs j b)
          (ih (set cs j b) (all_set n j b (subst (λ (o : Option ItemIter). If (Sound s h.minimum_index) o) w (sound-next c f (next_of s c) refl)))
          (subst (λ (o : Option ItemIter). Roomy (port_uses tag s i acts (set cs j o) σ)) w r))
  uses (updates j ∷ acts) cs σ n k roomy = rw (get_or-map shown cs j None) (go (get_or cs j None) refl roomy (λ τ l r. uses acts cs τ n l r))
    where
      go : (o : Option ItemIter) → get_or cs j None ≡ o
          → Roomy (if_some o (λ c. then (update_of σ c) λ τ. port_uses tag s i acts cs τ) (port_uses tag s i acts cs σ))
          → ((τ : State) → Kept h.minimum_index τ → Roomy (port_uses tag s i acts cs τ) → Uses acts cs τ)
          → Equal (if_some (shown o) (λ it. ◌>>=◌ (update (finder_shown s σ) it) λ f. crate_uses (information s h) i acts (map shown cs) f) (crate_uses (information s h) i acts (map shown cs) (finder_shown s σ)))
          (unlinked s (if_some o (λ c. then (update_of σ c) λ τ. port_uses tag s i acts cs τ) (port_uses tag s i acts cs σ)))
      go None q r ih = ih σ k r
      go (Some c) q r ih =
          let f : Sound s h.minimum_index c = all-get n j c q in
          bind-equal (update (finder_shown s σ) (iter_shown s c)) (update_of σ c) (finder_shown s) (λ f. crate_uses (information s h) i acts (map shown cs) f)
          (λ τ. port_uses tag s i acts cs τ) (unlinked s) (unlinked-numbered s)
          (update-equal s σ c (at-fits c f) (omega (arith, k.shift)) k.held (roomy-first (update_of σ c) (λ τ. port_uses tag s i acts cs τ) r))
          λ τ u. ih τ (kept-update σ c τ k f (at-fits c f) u) (roomy-then (update_of σ c) (λ τ. port_uses tag s i acts cs τ) τ u r)

-- ---- the course, its header read once for the finder
course-once : (tag : Stream) (s t : List ℕ) (acts : List Action) (i : ℕ) → port_course tag s t acts i ≡ then (header_of s) (λ h. then (begun_by 3 t h) λ σ. port_uses tag s i acts [] σ)
unfolding port_course create_by
course-once tag s t acts i = go (header_of s)
  where
    go : (a : Answer Header) → then (then a (begun_by 3 t)) (λ σ. port_uses tag s i acts [] σ) ≡ then a (λ h. then (begun_by 3 t h) λ σ. port_uses tag s i acts [] σ)
    go (answered h) = refl
    go (refused n d) = refl

pub course-equal : CoursesEqual
unfolding CoursesEqual crate_course
course-equal tag s t acts i ok roomy' =
    let roomy = subst (λ (x : Answer Found). Roomy x) (course-once tag s t acts i) roomy' in
    rw (course-once tag s t acts i)
    (bind-equal (parse_information s) (header_of s) (information s) _ (λ h. then (begun_by 3 t h) λ σ. port_uses tag s i acts [] σ) (unlinked s) (unlinked-numbered s) (header s ok.short).equal
    λ h e.
    let r = roomy-then (header_of s) (λ h. then (begun_by 3 t h) λ σ. port_uses tag s i acts [] σ) h e roomy in
    bind-equal (finder (information s h)) (begun_by 3 t h) (finder_shown s) _ (λ σ. port_uses tag s i acts [] σ) (unlinked s) (unlinked-numbered s)
    (create-equal s t h (roomy-first (begun_by 3 t h) _ r))
    λ σ u.
    let k : Kept h.minimum_index σ =
    created-ind t h (Kept h.minimum_index) (record { minimum = refl; shift = refl; held = omega arith; few = omega arith })
    (λ r. record { minimum = refl; shift = refl; held = rw length-set r; few = omega arith }) σ u in
    uses tag s h ok e i acts [] σ no_one k (roomy-then (begun_by 3 t h) (λ σ. port_uses tag s i acts [] σ) σ u r))
