-- Each outcome of the measuring is one law: what the code knows at a return, and what the definition says there. Assumes nothing.
use Rattle.std.specs.Prelude.{Result, Ok, Err}
use Rattle.stream_finder.specs.Finder.{State}
use Prim.Native.Nat.{ℕ, suc, ◌+◌, ◌-◌, ◌≤◌, ◌<◌}
use native.Mathlib.Omega.{arith}
use mathlib.Core.Path.{◌≡◌, refl, ap, sym, ◌∙◌}
use mathlib.Core.List.{List, []}
use lib.ListN.{length}
use borrow.Author.Tests.{lt-ltb, le-ltb}
use Rattle.field.specs.declared.index.TypeIndex.{TypeIndex}
use Rattle.declare_type.specs.Nodes.{index_at, list_of}
use Rattle.answer.specs.declared.Refusal.{Refusal}
use Rattle.answer.specs.declared.Refusal.TheVariants as refusal
use Rattle.declare_type.specs.declared.step.Around.{Around}
use Rattle.declare_type.specs.declared.token.Token.{Token}
use Rattle.declare_type.specs.declared.token.Token.TheVariants as token
use Rattle.declare_type.specs.declared.step.Step.{Step}
use Rattle.declare_type.specs.declared.step.Step.TheVariants as step
use Rattle.declare_type.specs.Tokens.{text_of}
use Rattle.declare_type.specs.Steps.{around_first, inward_step}
use Rattle.declare_type.specs.Walk.{Spelled, onto, fixed_then, rest_of, arguments_of, over_arguments, stepped, walk, capped}
use Rattle.declare_type.proofs.RoomLaws.{grown, over, within, within-right, joined-fits, joined-refused}

-- a type that may be looked up
pub walk_is : (s : List ℕ) (t : State) (d i : ℕ) (a : Around) (o : Step) → 0 < d → o ≡ inward_step s t i a → walk s t d i a ≡ stepped (λ j b. walk s t (d - 1) j b) s t o
unfolding walk
walk_is s t d i a o h e =
    let f : d ≡ suc (d - 1) = omega arith in
    ap (λ k. walk s t k i a) f ∙ ap (stepped (λ j b. walk s t (d - 1) j b) s t) (sym e)

pub too-deep : (s : List ℕ) (t : State) (d i room : ℕ) (a : Around) → d ≡ 0 → Err refusal.TooDeep ≡ capped room (walk s t d i a)
unfolding walk capped
too-deep s t d i room a e = rw (e, le-ltb room 0 (omega arith))

-- the arguments of list g
abbrev pub args_in : List ℕ → State → ℕ → ℕ → Spelled
args_in s t d g = over_arguments (λ j. walk s t d j around_first) s (list_of s t g)

module _ (s : List ℕ) (t : State) (d i room : ℕ) (a : Around) (h : 0 < d) (o : Step) (e : o ≡ inward_step s t i a) where
  -- the step, in the room
  by : {n : Step} → o ≡ n → capped room (walk s t d i a) ≡ capped room (stepped (λ j b. walk s t (d - 1) j b) s t n)
  by f = ap (capped room) (walk_is s t d i a o h e ∙ ap (stepped (λ j b. walk s t (d - 1) j b) s t) f)

  pub refused-is : (q : Refusal) → o ≡ step.Refused q → Err q ≡ capped room (walk s t d i a)
  unfolding stepped capped
  refused-is q f = rw (by f, le-ltb room 0 (omega arith))

  pub last-over : (p : Token) → o ≡ step.Last p → room < length (text_of s p) → Err refusal.NoRoom ≡ capped room (walk s t d i a)
  unfolding stepped capped
  last-over p f k = rw (by f, lt-ltb room (length (text_of s p) + 0) (omega arith))

  pub last_fits : (p : Token) (n : ℕ) → o ≡ step.Last p → n ≡ length (text_of s p) → n ≤ room → Ok (n, 0) ≡ capped room (walk s t d i a)
  unfolding stepped capped
  last_fits p n f g k = rw (by f, le-ltb room (length (text_of s p) + 0) (omega arith), g)

  module _ (l r : Token) (j : TypeIndex) (b : Around) (f : o ≡ step.Inward l r j b) where
    pub inward-over : room < length (text_of s l) + length (text_of s r) → Err refusal.NoRoom ≡ capped room (walk s t d i a)
    unfolding stepped
    inward-over k = sym (by f ∙ over room (text_of s l) (text_of s r) (walk s t (d - 1) j.0 b) k)

    pub inward-is : (x y : ℕ) (m : Result (ℕ × ℕ) Refusal) → x ≡ length (text_of s l) → y ≡ length (text_of s r) → x + y ≤ room → m ≡ capped (room - x - y) (walk s t (d - 1) j.0 b)
        → grown x y m ≡ capped room (walk s t d i a)
    unfolding stepped
    inward-is x y m ex ey k g = ap (grown x y) g ∙ sym (by f ∙ within room x y (text_of s l) (text_of s r) (walk s t (d - 1) j.0 b) ex ey k)

  module _ (l r z : Token) (g j : TypeIndex) (b : Around) (f : o ≡ step.Call l r z g j b) where
    pub call-over : room < length (text_of s l) + length (text_of s r) → Err refusal.NoRoom ≡ capped room (walk s t d i a)
    unfolding stepped
    call-over k = sym (by f ∙ over room (text_of s l) (text_of s r) _ k)

    module _ (x y : ℕ) (ex : x ≡ length (text_of s l)) (ey : y ≡ length (text_of s r)) (k : x + y ≤ room) where
      inside : capped room (walk s t d i a) ≡ grown x y (capped (room - x - y) (fixed_then (args_in s t (d - 1) g.0) (onto [] (text_of s z) (walk s t (d - 1) j.0 b))))
      unfolding stepped
      inside = by f ∙ within room x y (text_of s l) (text_of s r) _ ex ey k

      pub call-refused : (q : Refusal) → Err q ≡ capped (room - x - y) (args_in s t (d - 1) g.0) → Err q ≡ capped room (walk s t d i a)
      call-refused q c = ap (grown x y) (joined-refused (room - x - y) q (args_in s t (d - 1) g.0) _ c) ∙ sym inside

      module _ (u v : ℕ) (c : (Ok (u, v)) ≡ capped (room - x - y) (args_in s t (d - 1) g.0)) where
        pub call-shut : room - x - y - (u + v) < length (text_of s z) → Err refusal.NoRoom ≡ capped room (walk s t d i a)
        call-shut h₁ =
            sym (inside ∙ ap (grown x y) (joined-fits (room - x - y) u v (args_in s t (d - 1) g.0) _ c ∙ ap (grown 0 (u + v)) (over (room - x - y - (u + v)) [] (text_of s z) (walk s t (d - 1) j.0 b) (omega arith))))

        pub call-is : (k₁ : ℕ) (m : Result (ℕ × ℕ) Refusal) → k₁ ≡ length (text_of s z) → k₁ ≤ room - x - y - (u + v) → m ≡ capped (room - x - y - (u + v) - k₁) (walk s t (d - 1) j.0 b)
            → grown x y (grown 0 (u + v) (grown 0 k₁ m)) ≡ capped room (walk s t d i a)
        call-is k₁ m ez h₁ w =
            sym (inside ∙ ap (grown x y) (joined-fits (room - x - y) u v (args_in s t (d - 1) g.0) _ c
            ∙ ap (grown 0 (u + v)) (within-right (room - x - y - (u + v)) k₁ (text_of s z) (walk s t (d - 1) j.0 b) ez h₁ ∙ ap (grown 0 k₁) (sym w))))

        pub call_fits : (k₁ m n : ℕ) → k₁ ≡ length (text_of s z) → k₁ ≤ room - x - y - (u + v) → Ok (m, n) ≡ capped (room - x - y - (u + v) - k₁) (walk s t (d - 1) j.0 b)
            → Ok (m + x, y + (u + v + (k₁ + n))) ≡ capped room (walk s t d i a)
        call_fits k₁ m n ez h₁ w = let q : m + x ≡ m + 0 + 0 + x = omega arith in rw q (call-is k₁ (Ok (m, n)) ez h₁ w)

-- ---- arguments

twice : (x y : ℕ) (m : Result (ℕ × ℕ) Refusal) → grown 0 x (grown 0 y m) ≡ grown 0 (x + y) m
twice x y (Ok (m, n)) =
    let e : m + 0 + 0 ≡ m + 0 = omega arith in
    let f : x + (y + n) ≡ x + y + n = omega arith in
    rw (e, f)
twice x y (Err e) = refl

module _ (f : ℕ → Spelled) (s : List ℕ) (t : State) (g room : ℕ) (o : Result (ℕ × ℕ) Refusal) (e : o ≡ list_of s t g) where
  pub list-refused : (q : Refusal) → o ≡ Err q → Err q ≡ capped room (over_arguments f s (list_of s t g))
  unfolding over_arguments capped
  list-refused q h = rw (sym e ∙ h, le-ltb room 0 (omega arith))

  module _ (p n : ℕ) (h : o ≡ Ok (p, n)) where
    at : capped room (over_arguments f s (list_of s t g)) ≡ capped room (arguments_of f s p n)
    unfolding over_arguments
    at = rw (sym e ∙ h)

    pub void-over : n ≡ 0 → room < 4 → Err refusal.NoRoom ≡ capped room (over_arguments f s (list_of s t g))
    unfolding arguments_of capped text_of
    void-over z k = rw (at, z, lt-ltb room 4 k)

    pub void-fits : n ≡ 0 → 4 ≤ room → Ok (0, 4) ≡ capped room (over_arguments f s (list_of s t g))
    unfolding arguments_of capped text_of
    void-fits z k = rw (at, z, le-ltb room 4 k)

    some : 0 < n → capped room (over_arguments f s (list_of s t g)) ≡ capped room (fixed_then (f (index_at s p).0) (rest_of f s (p + 4) (n - 1)))
    unfolding arguments_of
    some z =
        let m : n ≡ suc (n - 1) = omega arith in
        at ∙ ap (λ k. capped room (arguments_of f s p k)) m

    pub first-refused : (q : Refusal) → 0 < n → Err q ≡ capped room (f (index_at s p).0) → Err q ≡ capped room (over_arguments f s (list_of s t g))
    first-refused q z k = joined-refused room q (f (index_at s p).0) _ k ∙ sym (some z)

    pub first_fits : (u v : ℕ) → 0 < n → Ok (u, v) ≡ capped room (f (index_at s p).0)
        → capped room (over_arguments f s (list_of s t g)) ≡ grown 0 (u + v) (capped (room - (u + v)) (rest_of f s (p + 4) (n - 1)))
    first_fits u v z k = some z ∙ joined-fits room u v (f (index_at s p).0) _ k

-- the rest of a list, behind `fixed` bytes
module _ (f : ℕ → Spelled) (s : List ℕ) (room fixed at left : ℕ) (w : Result (ℕ × ℕ) Refusal) (i : w ≡ grown 0 fixed (capped (room - fixed) (rest_of f s at left))) where
  pub rest-done : left ≡ 0 → Ok (0, fixed) ≡ w
  unfolding rest_of capped
  rest-done z =
      let e : fixed + 0 ≡ fixed = omega arith in
      rw (i, z, le-ltb (room - fixed) 0 (omega arith), e)

  next : 0 < left → w ≡ grown 0 fixed (capped (room - fixed) (onto [] (text_of s token.Comma) (fixed_then (f (index_at s at).0) (rest_of f s (at + 4) (left - 1)))))
  unfolding rest_of
  next z =
      let m : left ≡ suc (left - 1) = omega arith in
      i ∙ ap (λ k. grown 0 fixed (capped (room - fixed) (rest_of f s at k))) m

  pub rest_over : 0 < left → room - fixed < 2 → Err refusal.NoRoom ≡ w
  unfolding text_of
  rest_over z k = sym (next z ∙ ap (grown 0 fixed) (over (room - fixed) [] (text_of s token.Comma) _ k))

  comma : 0 < left → 2 ≤ room - fixed → w ≡ grown 0 (fixed + 2) (capped (room - fixed - 2) (fixed_then (f (index_at s at).0) (rest_of f s (at + 4) (left - 1))))
  unfolding text_of
  comma z k =
      next z ∙ ap (grown 0 fixed) (within-right (room - fixed) 2 (text_of s token.Comma) (fixed_then (f (index_at s at).0) (rest_of f s (at + 4) (left - 1))) refl k)
      ∙ twice fixed 2 (capped (room - fixed - 2) (fixed_then (f (index_at s at).0) (rest_of f s (at + 4) (left - 1))))

  pub rest-refused : (q : Refusal) → 0 < left → 2 ≤ room - fixed → Err q ≡ capped (room - fixed - 2) (f (index_at s at).0) → Err q ≡ w
  rest-refused q z k h = ap (grown 0 (fixed + 2)) (joined-refused (room - fixed - 2) q (f (index_at s at).0) _ h) ∙ sym (comma z k)

  pub rest_more : (x y : ℕ) → 0 < left → 2 ≤ room - fixed → Ok (x, y) ≡ capped (room - fixed - 2) (f (index_at s at).0)
      → w ≡ grown 0 (fixed + (2 + (x + y))) (capped (room - (fixed + (2 + (x + y)))) (rest_of f s (at + 4) (left - 1)))
  rest_more x y z k h =
      let a : room - fixed - 2 - (x + y) ≡ room - (fixed + (2 + (x + y))) = omega arith in
      let b : fixed + 2 + (x + y) ≡ fixed + (2 + (x + y)) = omega arith in
      comma z k ∙ ap (grown 0 (fixed + 2)) (joined-fits (room - fixed - 2) x y (f (index_at s at).0) _ h) ∙ rw (twice (fixed + 2) (x + y), a, b)
