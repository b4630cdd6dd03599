-- Arguments, written from left to right. Assumes nothing.
use Rattle.std.specs.Prelude.{Result, Ok, Err}
use Rattle.answer.specs.declared.Refusal.{Refusal}
use Rattle.stream_finder.specs.Finder.{State}
use Prim.Native.Nat.{ℕ, zero, suc, ◌+◌, ◌-◌, ◌≤◌, ◌<◌}
use native.Mathlib.Omega.{arith}
use mathlib.Core.Path.{◌≡◌, refl, ap, sym, ◌∙◌, subst}
use mathlib.Core.Bool.{false≢true}
use mathlib.Core.List.{List, [], ◌∷◌, ◌++◌, append-nil, append_assoc}
use lib.ListN.{length, length-append}
use Rattle.declare_type.specs.Nodes.{index_at, list_of}
use Rattle.declare_type.specs.declared.token.Token.TheVariants as token
use Rattle.declare_type.specs.Tokens.{text_of}
use Rattle.declare_type.specs.Walk.{Spelled, printed, stopped, onto, fixed_then, rest_of, arguments_of, over_arguments, whole_text}
use Rattle.field_put.specs.Bytes.{put, Puts, Room}
use Rattle.declare_type.specs.Sides.{left_of, WholeRoom, Rest}
use Rattle.declare_type.proofs.PutLaws.{put-append, length-put, puts-two}

-- ---- arguments have no left side

flat-onto : (b : List ℕ) (w : Spelled) → left_of w ≡ [] → left_of (onto [] b w) ≡ []
unfolding onto
flat-onto b (printed l r) e = append-nil l ∙ e
flat-onto b (stopped k q) e = refl

flat-joined : (v w : Spelled) → left_of w ≡ [] → left_of (fixed_then v w) ≡ []
unfolding fixed_then
flat-joined (printed l r) w e = flat-onto (l ++ r) w e
flat-joined (stopped k q) w e = refl

pub flat-rest : (f : ℕ → Spelled) (s : List ℕ) (p n : ℕ) → left_of (rest_of f s p n) ≡ []
unfolding rest_of
flat-rest f s p zero = refl
flat-rest f s p (suc n) = flat-onto (text_of s token.Comma) (fixed_then (f (index_at s p).0) (rest_of f s (p + 4) n)) (flat-joined (f (index_at s p).0) (rest_of f s (p + 4) n) (flat-rest f s (p + 4) n))

-- ---- the first argument, and the rest

first-room : (v w : Spelled) (at : ℕ) (l : List ℕ) → left_of w ≡ [] → WholeRoom (fixed_then v w) at l → WholeRoom v at l
unfolding fixed_then onto
first-room (printed a b) (printed [] d) at l z h = record { prints = refl; high = omega (arith, h.high, length-append (a ++ b) d) }
first-room (printed a b) (printed (x ∷ c) d) at l z h = absurd (let k : ◌≡◌ {A = ℕ} 0 1 = cc in omega arith)
first-room (printed a b) (stopped k e) at l z h = absurd (false≢true h.prints)
first-room (stopped k e) w at l z h = absurd (false≢true h.prints)

-- nothing of the rest is written yet
first_rest : (v w : Spelled) (at e : ℕ) (l₀ l₁ : List ℕ) → left_of w ≡ [] → WholeRoom (fixed_then v w) at l₀ → Puts l₀ at (whole_text v) e l₁ → Rest w w l₁ e l₁ e
unfolding fixed_then onto
first_rest (printed a b) (printed [] d) at e l₀ l₁ z h p = record {
  prints = refl;
  flat = refl;
  high = omega (arith, h.high, p.next, ap length p.left ∙ length-put (a ++ b) l₀ at, length-append (a ++ b) d);
  same = refl;
  end = refl;
  text = refl;
}
first_rest (printed a b) (printed (x ∷ c) d) at e l₀ l₁ z h p = absurd (let k : ◌≡◌ {A = ℕ} 0 1 = cc in omega arith)
first_rest (printed a b) (stopped k q) at e l₀ l₁ z h p = absurd (false≢true h.prints)
first_rest (stopped k q) w at e l₀ l₁ z h p = absurd (false≢true h.prints)

-- all of it is
first-all :
    (v w : Spelled) (at e r : ℕ) (l₀ l₁ l₂ : List ℕ) → left_of w ≡ [] → WholeRoom (fixed_then v w) at l₀ → Puts l₀ at (whole_text v) e l₁ → Puts l₁ e (whole_text w) r l₂
    → Puts l₀ at (whole_text (fixed_then v w)) r l₂
unfolding fixed_then onto
first-all (printed a b) (printed [] d) at e r l₀ l₁ l₂ z h p q = puts-two l₀ l₁ l₂ at e r (a ++ b) d p q
first-all (printed a b) (printed (x ∷ c) d) at e r l₀ l₁ l₂ z h p q = absurd (let k : ◌≡◌ {A = ℕ} 0 1 = cc in omega arith)
first-all (printed a b) (stopped k j) at e r l₀ l₁ l₂ z h p q = absurd (false≢true h.prints)
first-all (stopped k j) w at e r l₀ l₁ l₂ z h p q = absurd (false≢true h.prints)

-- ---- one more argument, behind a comma c

module _ (c : List ℕ) (all : Spelled) (l l₀ : List ℕ) (e at : ℕ) where
  comma-room : (v w : Spelled) → left_of w ≡ [] → Rest (onto [] c (fixed_then v w)) all l e l₀ at → e + length c ≤ length l
  unfolding fixed_then onto
  comma-room (printed a b) (printed x d) z h = omega (arith, h.high, length-append c ((a ++ b) ++ d))
  comma-room (printed a b) (stopped k q) z h = absurd (false≢true h.prints)
  comma-room (stopped k q) w z h = absurd (false≢true h.prints)

  more_room : (v w : Spelled) (x : ℕ) (l₁ : List ℕ) → left_of w ≡ [] → Rest (onto [] c (fixed_then v w)) all l e l₀ at → Puts l e c x l₁ → WholeRoom v x l₁
  unfolding fixed_then onto
  more_room (printed a b) (printed y d) x l₁ z h p = record {
    prints = refl;
    high = omega (arith, h.high, p.next, ap length p.left ∙ length-put c l e, length-append c ((a ++ b) ++ d), length-append (a ++ b) d);
  }
  more_room (printed a b) (stopped k q) x l₁ z h p = absurd (false≢true h.prints)
  more_room (stopped k q) w x l₁ z h p = absurd (false≢true h.prints)

  more-rest :
      (v w : Spelled) (x y : ℕ) (l₁ l₂ : List ℕ) → left_of w ≡ [] → Rest (onto [] c (fixed_then v w)) all l e l₀ at
      → Puts l e c x l₁ → Puts l₁ x (whole_text v) y l₂ → Rest w all l₂ y l₀ at
  unfolding fixed_then onto
  more-rest (printed a b) (printed [] d) x y l₁ l₂ z h p q =
      let r : Puts l e (c ++ (a ++ b)) y l₂ = puts-two l l₁ l₂ e x y c (a ++ b) p q in
      let len : length (c ++ ((a ++ b) ++ d)) ≡ length (c ++ (a ++ b)) + length d = ap length (sym (append_assoc c (a ++ b) d)) ∙ length-append (c ++ (a ++ b)) d in
      let same : length l₂ ≡ length l = ap length r.left ∙ length-put (c ++ (a ++ b)) l e in
      record {
        prints = refl;
        flat = refl;
        high = omega (arith, h.high, r.next);
        same = same ∙ h.same;
        end = omega (arith, h.end, r.next);
        text =
            ap (λ v. put v y d) r.left
            ∙ ap (λ v. put (put l e (c ++ (a ++ b))) v d) r.next
            ∙ sym (put-append (c ++ (a ++ b)) d l e)
            ∙ ap (put l e) (append_assoc c (a ++ b) d)
            ∙ h.text;
      }
  more-rest (printed a b) (printed (u ∷ g) d) x y l₁ l₂ z h p q = absurd (let k : ◌≡◌ {A = ℕ} 0 1 = cc in omega arith)
  more-rest (printed a b) (stopped k j) x y l₁ l₂ z h p q = absurd (false≢true h.prints)
  more-rest (stopped k j) w x y l₁ l₂ z h p q = absurd (false≢true h.prints)

-- ---- as the code has it

module _ (f : ℕ → Spelled) (s : List ℕ) (t : State) (g at : ℕ) (l₀ : List ℕ) (o : Result (ℕ × ℕ) Refusal) (e : o ≡ list_of s t g) (h : WholeRoom (over_arguments f s (list_of s t g)) at l₀) where
  pub never-refused : {A : Type 0} (q : _) → o ≡ Err q → A
  unfolding over_arguments
  never-refused q z = absurd (false≢true (rw (sym e ∙ z) at h.prints))

  module _ (p n : ℕ) (z : o ≡ Ok (p, n)) where
    none : n ≡ 0 → over_arguments f s (list_of s t g) ≡ printed [] (text_of s token.Void)
    unfolding over_arguments arguments_of
    none k = rw (sym e ∙ z, k)

    pub void-room : n ≡ 0 → Room l₀ at (text_of s token.Void)
    void-room k = record { room = rw (none k) at h.high }

    pub void-puts : (r : ℕ) (l : List ℕ) → n ≡ 0 → Puts l₀ at (text_of s token.Void) r l → Puts l₀ at (whole_text (over_arguments f s (list_of s t g))) r l
    void-puts r l k c = rw (none k) c

    some : 0 < n → over_arguments f s (list_of s t g) ≡ fixed_then (f (index_at s p).0) (rest_of f s (p + 4) (n - 1))
    unfolding over_arguments arguments_of
    some k =
        let m : n ≡ suc (n - 1) = omega arith in
        rw (sym e ∙ z) (ap (arguments_of f s p) m)

    pub argument-room : 0 < n → WholeRoom (f (index_at s p).0) at l₀
    argument-room k = first-room (f (index_at s p).0) (rest_of f s (p + 4) (n - 1)) at l₀ (flat-rest f s (p + 4) (n - 1)) (rw (some k) at h)

    module _ (x : ℕ) (l : List ℕ) (k : 0 < n) (c : Puts l₀ at (whole_text (f (index_at s p).0)) x l) where
      pub argument-rest : Rest (rest_of f s (p + 4) (n - 1)) (rest_of f s (p + 4) (n - 1)) l x l x
      argument-rest = first_rest (f (index_at s p).0) (rest_of f s (p + 4) (n - 1)) at x l₀ l (flat-rest f s (p + 4) (n - 1)) (rw (some k) at h) c

      pub argument-all : (r : ℕ) (m : List ℕ) → Puts l x (whole_text (rest_of f s (p + 4) (n - 1))) r m → Puts l₀ at (whole_text (over_arguments f s (list_of s t g))) r m
      argument-all r m d =
          rw (some k) (first-all (f (index_at s p).0) (rest_of f s (p + 4) (n - 1)) at x r l₀ l m (flat-rest f s (p + 4) (n - 1)) (rw (some k) at h) c d)

module _ (f : ℕ → Spelled) (s : List ℕ) (q left : ℕ) (all : Spelled) (l l₀ : List ℕ) (e at : ℕ) (h : Rest (rest_of f s q left) all l e l₀ at) where
  pub rest_all : left ≡ 0 → Puts l₀ at (whole_text all) e l
  unfolding rest_of put
  rest_all k =
      let r : Rest (printed [] []) all l e l₀ at = rw k at h in
      record { next = omega (arith, r.end); left = r.text }

  again : 0 < left → Rest (onto [] (text_of s token.Comma) (fixed_then (f (index_at s q).0) (rest_of f s (q + 4) (left - 1)))) all l e l₀ at
  unfolding rest_of
  again k =
      let m : left ≡ suc (left - 1) = omega arith in
      subst (λ j. Rest (rest_of f s q j) all l e l₀ at) m h

  pub comma-fits : 0 < left → Room l e (text_of s token.Comma)
  comma-fits k = record { room = comma-room (text_of s token.Comma) all l l₀ e at (f (index_at s q).0) (rest_of f s (q + 4) (left - 1)) (flat-rest f s (q + 4) (left - 1)) (again k) }

  pub next-room : (x : ℕ) (l₁ : List ℕ) → 0 < left → Puts l e (text_of s token.Comma) x l₁ → WholeRoom (f (index_at s q).0) x l₁
  next-room x l₁ k p = more_room (text_of s token.Comma) all l l₀ e at (f (index_at s q).0) (rest_of f s (q + 4) (left - 1)) x l₁ (flat-rest f s (q + 4) (left - 1)) (again k) p

  pub next-rest : (x y : ℕ) (l₁ l₂ : List ℕ) → 0 < left → Puts l e (text_of s token.Comma) x l₁ → Puts l₁ x (whole_text (f (index_at s q).0)) y l₂ → Rest (rest_of f s (q + 4) (left - 1)) all l₂ y l₀ at
  next-rest x y l₁ l₂ k p c =
      more-rest (text_of s token.Comma) all l l₀ e at (f (index_at s q).0) (rest_of f s (q + 4) (left - 1)) x y l₁ l₂ (flat-rest f s (q + 4) (left - 1)) (again k) p c
