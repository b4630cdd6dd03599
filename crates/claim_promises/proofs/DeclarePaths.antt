-- A walk is printed exactly if the type has a declaration, and stops exactly by what a visited type is refused by. Assumes nothing.
use Rattle.std.specs.Prelude.{Result, Ok, Err}
use Prim.Native.Nat.{ℕ, zero, suc, ◌+◌, ◌*◌, ◌<◌}
use native.Mathlib.Omega.{arith}
use mathlib.Core.Logic.{◌⊎◌, inl, inr}
use mathlib.Core.Path.{◌≡◌, refl, ap, sym, ◌∙◌}
use mathlib.Core.List.{List, [], ◌++◌}
use Rattle.answer.specs.declared.Refusal.{Refusal}
use Rattle.field.specs.declared.index.TypeIndex.{TypeIndex}
use Rattle.stream_finder.specs.Finder.{State}
use Rattle.declare_type.specs.Nodes.{node_of, list_of, index_at}
use Rattle.declare_type.specs.declared.node.Node.{Node}
use Rattle.declare_type.specs.declared.node.Node.TheVariants as node
use Rattle.declare_type.specs.Tokens.{text_of}
use Rattle.declare_type.specs.declared.token.Token.TheVariants as token
use Rattle.declare_type.specs.Steps.{step_by, inward_step, around_first}
use Rattle.declare_type.specs.declared.step.Around.{Around}
use Rattle.declare_type.specs.Walk.{Spelled, printed, stopped, onto, fixed_then, rest_of, arguments_of, over_arguments, stepped, walk}
use Rattle.claim_promises.specs.DeclareWhen.{Inside, of_pointer, of_modifier, of_array, Calls, of_procedure, argument_at, IsBase, Prints, base, inward, call, TypeVisits, here, into, argument, returned, Fault, too_deep, its_own, its_lists, Meets, StopsBy, IsPrinted}

-- ---- two walks after each other

onto-stops : (e : Refusal) (l r : List ℕ) (w : Spelled) → StopsBy e w → StopsBy e (onto l r w)
unfolding onto
onto-stops e l r (printed a b) h = h
onto-stops e l r (stopped k x) h = h

onto-stopped : (e : Refusal) (l r : List ℕ) (w : Spelled) → StopsBy e (onto l r w) → StopsBy e w
unfolding onto
onto-stopped e l r (printed a b) h = h
onto-stopped e l r (stopped k x) h = h

onto-prints : (l r : List ℕ) (w : Spelled) → IsPrinted w → IsPrinted (onto l r w)
unfolding onto
onto-prints l r (printed a b) h = h
onto-prints l r (stopped k x) h = h

onto-printed : (l r : List ℕ) (w : Spelled) → IsPrinted (onto l r w) → IsPrinted w
unfolding onto
onto-printed l r (printed a b) h = h
onto-printed l r (stopped k x) h = h

joined-first : (e : Refusal) (v w : Spelled) → StopsBy e v → StopsBy e (fixed_then v w)
unfolding fixed_then
joined-first e (printed a b) w h = absurd h
joined-first e (stopped k x) w h = h

joined-second : (e : Refusal) (v w : Spelled) → IsPrinted v → StopsBy e w → StopsBy e (fixed_then v w)
unfolding fixed_then
joined-second e (printed a b) w p h = onto-stops e [] (a ++ b) w h
joined-second e (stopped k x) w p h = absurd p

joined-stopped : (e : Refusal) (v w : Spelled) → StopsBy e (fixed_then v w) → StopsBy e v ⊎ (IsPrinted v × StopsBy e w)
unfolding fixed_then
joined-stopped e (printed a b) w h = inr (tt, onto-stopped e [] (a ++ b) w h)
joined-stopped e (stopped k x) w h = inl h

joined-prints : (v w : Spelled) → IsPrinted v → IsPrinted w → IsPrinted (fixed_then v w)
unfolding fixed_then
joined-prints (printed a b) w p h = onto-prints [] (a ++ b) w h
joined-prints (stopped k x) w p h = absurd p

joined-printed : (v w : Spelled) → IsPrinted (fixed_then v w) → IsPrinted v × IsPrinted w
unfolding fixed_then
joined-printed (printed a b) w h = (tt, onto-printed [] (a ++ b) w h)
joined-printed (stopped k x) w h = absurd h

-- ---- arguments; f walks one

module _ (f : ℕ → Spelled) (s : List ℕ) where
  first-at : (p : ℕ) → argument_at s p 0 ≡ (index_at s p).0
  first-at p =
      let e : p + 4 * 0 ≡ p = omega arith in
      ap (λ q. (index_at s q).0) e

  later-at : (p k : ℕ) → argument_at s (p + 4) k ≡ argument_at s p (suc k)
  later-at p k =
      let e : p + 4 + 4 * k ≡ p + 4 * suc k = omega arith in
      ap (λ q. (index_at s q).0) e

  -- the first argument and n behind it
  abbrev args : ℕ → ℕ → Spelled
  args p n = fixed_then (f (index_at s p).0) (rest_of f s (p + 4) n)

  args-stops : (e : Refusal) (p n k : ℕ) → k < suc n → ((o : ℕ) → o < k → IsPrinted (f (argument_at s p o))) → StopsBy e (f (argument_at s p k)) → StopsBy e (args p n)
  unfolding rest_of
  args-stops e p n zero b all h = joined-first e (f (index_at s p).0) _ (rw (first-at p) at h)
  args-stops e p zero (suc k) b all h = absurd (omega arith)
  args-stops e p (suc n) (suc k) b all h =
      joined-second e (f (index_at s p).0) (rest_of f s (p + 4) (suc n)) (rw (first-at p) at (all 0 (omega arith)))
      (onto-stops e [] (text_of s token.Comma) (args (p + 4) n)
      (args-stops e (p + 4) n k (omega arith) (λ o c. rw (later-at p o) (all (suc o) (omega arith))) (rw (later-at p k) h)))

  pub record Stopped (e : Refusal) (p n : ℕ) : Type 0 where
    pub k : ℕ
    pub below : k < n
    pub before : (o : ℕ) → o < k → IsPrinted (f (argument_at s p o))
    pub there : StopsBy e (f (argument_at s p k))

  args-stopped : (e : Refusal) (p n : ℕ) → StopsBy e (args p n) → Stopped e p (suc n)
  unfolding rest_of
  args-stopped e p zero h = go (joined-stopped e (f (index_at s p).0) (printed [] []) h) where
    go : StopsBy e (f (index_at s p).0) ⊎ (IsPrinted (f (index_at s p).0) × StopsBy e (printed [] [])) → Stopped e p 1
    go (inl x) = record { k = 0; below = omega arith; before = λ o c. absurd (omega arith); there = rw (first-at p) x }
    go (inr x) = absurd x.1
  args-stopped e p (suc n) h = go (joined-stopped e (f (index_at s p).0) (rest_of f s (p + 4) (suc n)) h) (λ x. args-stopped e (p + 4) n x) where
    more : IsPrinted (f (index_at s p).0) → Stopped e (p + 4) (suc n) → Stopped e p (suc (suc n))
    more y x = record { k = suc x.k; below = omega (arith, x.below); before = earlier; there = rw (sym (later-at p x.k)) x.there } where
      earlier : (o : ℕ) → o < suc x.k → IsPrinted (f (argument_at s p o))
      earlier zero c = rw (first-at p) y
      earlier (suc o) c = rw (sym (later-at p o)) (x.before o (omega arith))

    go : StopsBy e (f (index_at s p).0) ⊎ (IsPrinted (f (index_at s p).0) × StopsBy e (rest_of f s (p + 4) (suc n)))
        → (StopsBy e (args (p + 4) n) → Stopped e (p + 4) (suc n)) → Stopped e p (suc (suc n))
    go (inl x) later = record { k = 0; below = omega arith; before = λ o c. absurd (omega arith); there = rw (first-at p) x }
    go (inr x) later = more x.0 (later (onto-stopped e [] (text_of s token.Comma) (args (p + 4) n) x.1))

  args-prints : (p n : ℕ) → ((o : ℕ) → o < suc n → IsPrinted (f (argument_at s p o))) → IsPrinted (args p n)
  unfolding rest_of
  args-prints p zero all = joined-prints (f (index_at s p).0) (printed [] []) (rw (first-at p) at (all 0 (omega arith))) tt
  args-prints p (suc n) all =
      joined-prints (f (index_at s p).0) (rest_of f s (p + 4) (suc n)) (rw (first-at p) at (all 0 (omega arith)))
      (onto-prints [] (text_of s token.Comma) (args (p + 4) n) (args-prints (p + 4) n (λ o c. rw (later-at p o) (all (suc o) (omega arith)))))

  args-printed : (p n : ℕ) → IsPrinted (args p n) → (o : ℕ) → o < suc n → IsPrinted (f (argument_at s p o))
  unfolding rest_of
  args-printed p n h zero c = rw (first-at p) (joined-printed (f (index_at s p).0) (rest_of f s (p + 4) n) h).0
  args-printed p zero h (suc o) c = absurd (omega arith)
  args-printed p (suc n) h (suc o) c =
      rw (sym (later-at p o))
      (args-printed (p + 4) n (onto-printed [] (text_of s token.Comma) (args (p + 4) n) (joined-printed (f (index_at s p).0) (rest_of f s (p + 4) (suc n)) h).1) o (omega arith))

  -- of a whole list
  pub list-stops : (e : Refusal) (p n k : ℕ) → k < n → ((o : ℕ) → o < k → IsPrinted (f (argument_at s p o))) → StopsBy e (f (argument_at s p k)) → StopsBy e (arguments_of f s p n)
  unfolding arguments_of
  list-stops e p zero k b all h = absurd (omega arith)
  list-stops e p (suc n) k b all h = args-stops e p n k b all h

  pub list-stopped : (e : Refusal) (p n : ℕ) → StopsBy e (arguments_of f s p n) → Stopped e p n
  unfolding arguments_of
  list-stopped e p zero h = absurd h
  list-stopped e p (suc n) h = args-stopped e p n h

  pub list-prints : (p n : ℕ) → ((o : ℕ) → o < n → IsPrinted (f (argument_at s p o))) → IsPrinted (arguments_of f s p n)
  unfolding arguments_of
  list-prints p zero all = tt
  list-prints p (suc n) all = args-prints p n all

  pub list-printed : (p n : ℕ) → IsPrinted (arguments_of f s p n) → (o : ℕ) → o < n → IsPrinted (f (argument_at s p o))
  unfolding arguments_of
  list-printed p zero h o c = absurd (omega arith)
  list-printed p (suc n) h o c = args-printed p n h o c

-- ---- walks

module _ (s : List ℕ) (σ : State) where
  inside-stops : (e : Refusal) (d i j : ℕ) → Inside s σ i j → ((b : Around) → StopsBy e (walk s σ d j b)) → (a : Around) → StopsBy e (walk s σ (suc d) i a)
  unfolding walk inward_step stepped
  inside-stops e d i j (of_pointer h) f a = rw h (onto-stops e _ _ _ (f _))
  inside-stops e d i j (of_modifier h) f a = rw h (onto-stops e _ _ _ (f _))
  inside-stops e d i j (of_array h) f a = rw h (onto-stops e _ _ _ (f _))

  inside-prints : (d i j : ℕ) → Inside s σ i j → ((b : Around) → IsPrinted (walk s σ d j b)) → (a : Around) → IsPrinted (walk s σ (suc d) i a)
  unfolding walk inward_step stepped
  inside-prints d i j (of_pointer h) f a = rw h (onto-prints _ _ _ (f _))
  inside-prints d i j (of_modifier h) f a = rw h (onto-prints _ _ _ (f _))
  inside-prints d i j (of_array h) f a = rw h (onto-prints _ _ _ (f _))

  -- a procedure's arguments
  abbrev args_of : ℕ → ℕ → ℕ → Spelled
  args_of d p n = arguments_of (λ j. walk s σ d j around_first) s p n

  call-first : (e : Refusal) (d i p n j : ℕ) → Calls s σ i p n j → StopsBy e (args_of d p n) → (a : Around) → StopsBy e (walk s σ (suc d) i a)
  unfolding walk inward_step stepped over_arguments
  call-first e d i p n j (of_procedure h m) f a = rw (h, m) (onto-stops e _ _ _ (joined-first e _ _ f))

  call-second : (e : Refusal) (d i p n j : ℕ) → Calls s σ i p n j → IsPrinted (args_of d p n) → ((b : Around) → StopsBy e (walk s σ d j b)) → (a : Around) → StopsBy e (walk s σ (suc d) i a)
  unfolding walk inward_step stepped over_arguments
  call-second e d i p n j (of_procedure h m) f g a = rw (h, m) (onto-stops e _ _ _ (joined-second e _ _ f (onto-stops e _ _ _ (g _))))

  call-prints : (d i p n j : ℕ) → Calls s σ i p n j → IsPrinted (args_of d p n) → ((b : Around) → IsPrinted (walk s σ d j b)) → (a : Around) → IsPrinted (walk s σ (suc d) i a)
  unfolding walk inward_step stepped over_arguments
  call-prints d i p n j (of_procedure h m) f g a = rw (h, m) (onto-prints _ _ _ (joined-prints _ _ f (onto-prints _ _ _ (g _))))

  base-prints : (d i : ℕ) (n : Node) → node_of s σ i ≡ n → IsBase n → (a : Around) → IsPrinted (walk s σ (suc d) i a)
  unfolding walk inward_step stepped
  base-prints d i (node.Primitive k y) h b a = rw h tt
  base-prints d i (node.Named p n) h b a = rw h tt
  base-prints d i (node.Pointer j m q) h b a = absurd b
  base-prints d i (node.Modifier j q) h b a = absurd b
  base-prints d i (node.Array j x) h b a = absurd b
  base-prints d i (node.Procedure j l) h b a = absurd b
  base-prints d i (node.Refused e) h b a = absurd b

  pub printing : (d i : ℕ) → Prints s σ d i → (a : Around) → IsPrinted (walk s σ d i a)
  printing zero i x' a = elim x' [ ]
  printing (suc d) i (base b) a = base-prints d i (node_of s σ i) refl b a
  printing (suc d) i (inward {j = j} h p) a = inside-prints d i j h (λ b. printing d j p b) a
  printing (suc d) i (call {p = p} {n = n} {j = j} h all r) a =
      call-prints d i p n j h (list-prints (λ k. walk s σ d k around_first) s p n (λ o c. printing d (argument_at s p o) (all o c) around_first)) (λ b. printing d j r b) a

  fault-stops : (e : Refusal) (d i : ℕ) → Fault s σ d i e → (a : Around) → StopsBy e (walk s σ d i a)
  unfolding walk inward_step stepped over_arguments
  fault-stops e zero i too_deep a = refl
  fault-stops e (suc d) i (its_own h) a = rw h refl
  fault-stops e (suc d) i (its_lists h m) a = rw (h, m) (onto-stops e _ _ _ (joined-first e _ _ refl))

  pub stopping : (e : Refusal) (d i left at : ℕ) → TypeVisits s σ d i left at → Fault s σ left at e → (a : Around) → StopsBy e (walk s σ d i a)
  stopping e d i left at here f a = fault-stops e d i f a
  stopping e (suc d) i left at (into {j = j} h v) f a = inside-stops e d i j h (λ b. stopping e d j left at v f b) a
  stopping e (suc d) i left at (argument {p = p} {n = n} {j = j} {m = m} h c all v) f a =
      call-first e d i p n j h
      (list-stops (λ k. walk s σ d k around_first) s e p n m c (λ o q. printing d (argument_at s p o) (all o q) around_first) (stopping e d (argument_at s p m) left at v f around_first)) a
  stopping e (suc d) i left at (returned {p = p} {n = n} {j = j} h all v) f a =
      call-second e d i p n j h (list-prints (λ k. walk s σ d k around_first) s p n (λ o q. printing d (argument_at s p o) (all o q) around_first))
      (λ b. stopping e d j left at v f b) a

  -- ---- and back

  module _ (d i : ℕ) (has : (j : ℕ) (b : Around) → IsPrinted (walk s σ d j b) → Prints s σ d j) where
    lists-have : (j l : TypeIndex) (b : Around) (x : Result (ℕ × ℕ) Refusal)
        → node_of s σ i ≡ node.Procedure j l → list_of s σ l.0 ≡ x → IsPrinted (over_arguments (λ k. walk s σ d k around_first) s x) → IsPrinted (walk s σ d j.0 b) → Prints s σ (suc d) i
    unfolding over_arguments
    lists-have j l b (Ok (p, n)) u v y z =
        call (of_procedure u v) (λ o c. has (argument_at s p o) around_first (list-printed (λ k. walk s σ d k around_first) s p n y o c)) (has j.0 b z)
    lists-have j l b (Err e) u v y z = absurd y

    node-has : (n : Node) (a : Around) → node_of s σ i ≡ n → IsPrinted (stepped (λ j b. walk s σ d j b) s σ (step_by n a)) → Prints s σ (suc d) i
    unfolding stepped
    node-has (node.Primitive k y) a u h = base {i = i} (rw u tt)
    node-has (node.Named p n) a u h = base {i = i} (rw u tt)
    node-has (node.Pointer j m q) a u h = inward (of_pointer u) (has j.0 _ (onto-printed _ _ _ h))
    node-has (node.Modifier j q) a u h = inward (of_modifier u) (has j.0 _ (onto-printed _ _ _ h))
    node-has (node.Array j x) a u h = inward (of_array u) (has j.0 _ (onto-printed _ _ _ h))
    node-has (node.Procedure j l) a u h =
        let w = joined-printed _ _ (onto-printed _ _ _ h) in
        lists-have j l _ (list_of s σ l.0) u refl w.0 (onto-printed _ _ _ w.1)
    node-has (node.Refused e) a u h = absurd h

  pub printed-has : (d i : ℕ) (a : Around) → IsPrinted (walk s σ d i a) → Prints s σ d i
  unfolding walk inward_step
  printed-has zero i a h = absurd h
  printed-has (suc d) i a h = node-has d i (λ j b k. printed-has d j b k) (node_of s σ i) a refl h

  meets-into : (e : Refusal) (d i j : ℕ) → Inside s σ i j → Meets s σ d j e → Meets s σ (suc d) i e
  meets-into e d i j h m = record { left = m.left; at = m.at; path = into h m.path; fault = m.fault }

  module _ (e : Refusal) (d i : ℕ) (meets : (j : ℕ) (b : Around) → StopsBy e (walk s σ d j b) → Meets s σ d j e) where
    arguments-meet : (j p n : ℕ) → Calls s σ i p n j → Stopped (λ k. walk s σ d k around_first) s e p n → Meets s σ (suc d) i e
    arguments-meet j p n c x =
        let m : Meets s σ d (argument_at s p x.k) e = meets (argument_at s p x.k) around_first x.there in
        record {
          left = m.left;
          at = m.at;
          path = argument c x.below (λ o q. printed-has d (argument_at s p o) around_first (x.before o q)) m.path;
          fault = m.fault;
        }

    return-meets : (j p n : ℕ) → Calls s σ i p n j → IsPrinted (arguments_of (λ k. walk s σ d k around_first) s p n) → Meets s σ d j e → Meets s σ (suc d) i e
    return-meets j p n c x m = record {
      left = m.left;
      at = m.at;
      path = returned c (λ o q. printed-has d (argument_at s p o) around_first (list-printed (λ k. walk s σ d k around_first) s p n x o q)) m.path;
      fault = m.fault;
    }

    lists-meet : (j l : TypeIndex) (b : Around) (r : List ℕ) (x : Result (ℕ × ℕ) Refusal)
        → node_of s σ i ≡ node.Procedure j l → list_of s σ l.0 ≡ x
        → StopsBy e (over_arguments (λ k. walk s σ d k around_first) s x) ⊎ (IsPrinted (over_arguments (λ k. walk s σ d k around_first) s x) × StopsBy e (onto [] r (walk s σ d j.0 b)))
        → Meets s σ (suc d) i e
    unfolding over_arguments
    lists-meet j l b r (Ok (p, n)) u v (inl y) = arguments-meet j.0 p n (of_procedure u v) (list-stopped (λ k. walk s σ d k around_first) s e p n y)
    lists-meet j l b r (Ok (p, n)) u v (inr y) =
        return-meets j.0 p n (of_procedure u v) y.0 (meets j.0 b (onto-stopped e [] r (walk s σ d j.0 b) y.1))
    lists-meet j l b r (Err x) u v (inl y) = record { left = suc d; at = i; path = here; fault = its_lists u (v ∙ ap Err y) }
    lists-meet j l b r (Err x) u v (inr y) = absurd y.0

    node-meets : (n : Node) (a : Around) → node_of s σ i ≡ n → StopsBy e (stepped (λ j b. walk s σ d j b) s σ (step_by n a)) → Meets s σ (suc d) i e
    unfolding stepped
    node-meets (node.Primitive k y) a u h = absurd h
    node-meets (node.Named p n) a u h = absurd h
    node-meets (node.Pointer j m q) a u h = meets-into e d i j.0 (of_pointer u) (meets j.0 _ (onto-stopped e _ _ _ h))
    node-meets (node.Modifier j q) a u h = meets-into e d i j.0 (of_modifier u) (meets j.0 _ (onto-stopped e _ _ _ h))
    node-meets (node.Array j x) a u h = meets-into e d i j.0 (of_array u) (meets j.0 _ (onto-stopped e _ _ _ h))
    node-meets (node.Procedure j l) a u h = lists-meet j l _ _ (list_of s σ l.0) u refl (joined-stopped e _ _ (onto-stopped e _ _ _ h))
    node-meets (node.Refused x) a u h = record { left = suc d; at = i; path = here; fault = its_own (u ∙ ap node.Refused h) }

  pub stopped-meets : (e : Refusal) (d i : ℕ) (a : Around) → StopsBy e (walk s σ d i a) → Meets s σ d i e
  unfolding walk inward_step
  stopped-meets e zero i a h = record { left = 0; at = i; path = here; fault = rw (sym h) too_deep }
  stopped-meets e (suc d) i a h = node-meets e d i (λ j b k. stopped-meets e d j b k) (node_of s σ i) a refl h
