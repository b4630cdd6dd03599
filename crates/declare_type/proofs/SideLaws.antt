-- The two sides of a declaration, written token by token from the outside inward. Assumes nothing.
use Prim.Native.Nat.{ℕ, ◌+◌, ◌-◌, ◌≤◌}
use native.Mathlib.Omega.{arith}
use mathlib.Core.Path.{◌≡◌, refl, ap, sym, ◌∙◌}
use mathlib.Core.Bool.{false≢true}
use mathlib.Core.List.{List, [], ◌++◌}
use lib.ListN.{length, length-append}
use Rattle.declare_type.specs.Walk.{Spelled, printed, stopped, onto, fixed_then, whole_text}
use Rattle.field_put.specs.Bytes.{put, Puts}
use Rattle.declare_type.specs.Sides.{SideRoom, Both, WholeRoom}
use Rattle.declare_type.proofs.PutLaws.{put-append, put-comm}

-- ---- a token on each side

module _ (a b : List ℕ) (left right : ℕ) (n : List ℕ) where
  pub room-left : (w : Spelled) → SideRoom (onto a b w) left right n → length a ≤ left
  unfolding onto
  room-left (printed l r) h = omega (arith, h.low, length-append l a)
  room-left (stopped k e) h = absurd (false≢true h.prints)

  pub room-right : (w : Spelled) → SideRoom (onto a b w) left right n → right + length b ≤ length n
  unfolding onto
  room-right (printed l r) h = omega (arith, h.high, length-append b r)
  room-right (stopped k e) h = absurd (false≢true h.prints)

  pub room_in : (w : Spelled) (at e : ℕ) → at ≡ left - length a → e ≡ right + length b → SideRoom (onto a b w) left right n → SideRoom w at e n
  unfolding onto
  room_in (printed l r) at e f g h = record {
    prints = refl;
    low = omega (arith, h.low, length-append l a);
    apart = omega (arith, h.apart);
    high = omega (arith, h.high, length-append b r);
  }
  room_in (stopped k e₁) at e f g h = absurd (false≢true h.prints)

  pub both-in :
      (w : Spelled) (l₀ l₁ l₂ l₃ : List ℕ) (at e x r : ℕ) → at ≡ left - length a → SideRoom (onto a b w) left right n
      → Puts l₀ at a x l₁ → Puts l₁ right b e l₂ → Both w l₂ at e r l₃ → Both (onto a b w) l₀ left right r l₃
  unfolding onto
  both-in (printed l m) l₀ l₁ l₂ l₃ at e x r f h p q z = record {
    end = z.end ∙ omega (arith, q.next, length-append b m);
    after =
        let lo : length l + length a ≤ left = omega (arith, h.low, length-append l a) in
        let i : ℕ = at - length l in
        let j : at - length l + length l ≡ at = omega arith in
        let k : at - length l ≡ left - length (l ++ a) = omega (arith, length-append l a) in
        let c₁ : put (put l₀ (at - length l) l) at a ≡ put (put l₀ at a) (at - length l) l = put-comm l a l₀ (at - length l) at (omega arith) in
        let c₂ : put (put (put l₀ at a) (at - length l) l) right b ≡ put (put (put l₀ at a) right b) (at - length l) l =
        put-comm l b (put l₀ at a) (at - length l) right (omega (arith, h.apart)) in
        let d₁ : put l₀ (left - length (l ++ a)) (l ++ a) ≡ put (put l₀ (at - length l) l) at a =
        ap (λ v. put l₀ v (l ++ a)) (sym k) ∙ put-append l a l₀ (at - length l) ∙ ap (λ v. put (put l₀ (at - length l) l) v a) j in
        let e₂ : l₂ ≡ put (put l₀ at a) right b = q.left ∙ ap (λ v. put v right b) p.left in
        z.after
        ∙ ap (λ v. put (put v (at - length l) l) e m) e₂
        ∙ ap (λ v. put v e m) (sym c₂)
        ∙ ap (λ v. put (put v right b) e m) (sym c₁)
        ∙ ap (λ v. put (put v right b) e m) (sym d₁)
        ∙ ap (λ v. put (put (put l₀ (left - length (l ++ a)) (l ++ a)) right b) v m) q.next
        ∙ sym (put-append b m (put l₀ (left - length (l ++ a)) (l ++ a)) right);
  }
  both-in (stopped k e₁) l₀ l₁ l₂ l₃ at e x r f h p q z = absurd (false≢true h.prints)

-- ---- a text on the right only

module _ (b : List ℕ) (left right : ℕ) (n : List ℕ) where
  pub text-right : (w : Spelled) → SideRoom (onto [] b w) left right n → right + length b ≤ length n
  text-right = room-right [] b left right n

  pub text_in : (w : Spelled) (e : ℕ) → e ≡ right + length b → SideRoom (onto [] b w) left right n → SideRoom w left e n
  text_in w e g h = room_in [] b left right n w left e (omega arith) g h

  pub text-both :
      (w : Spelled) (l₀ l₁ l₂ : List ℕ) (e r : ℕ) → SideRoom (onto [] b w) left right n → Puts l₀ right b e l₁ → Both w l₁ left e r l₂ → Both (onto [] b w) l₀ left right r l₂
  unfolding put
  text-both w l₀ l₁ l₂ e r h p z = both-in [] b left right n w l₀ l₀ l₁ l₂ left e left r (omega arith) h (record { next = omega arith; left = refl }) p z

-- ---- a whole text on the right

module _ (left right : ℕ) (n : List ℕ) where
  pub joined-room : (v w : Spelled) → SideRoom (fixed_then v w) left right n → WholeRoom v right n
  unfolding fixed_then
  joined-room (printed a b) w h = record { prints = refl; high = text-right (a ++ b) left right n w h }
  joined-room (stopped k e) w h = absurd (false≢true h.prints)

  pub joined_in : (v w : Spelled) (e : ℕ) → e ≡ right + length (whole_text v) → SideRoom (fixed_then v w) left right n → SideRoom w left e n
  unfolding fixed_then
  joined_in (printed a b) w e g h = text_in (a ++ b) left right n w e g h
  joined_in (stopped k q) w e g h = absurd (false≢true h.prints)

  pub joined-both :
      (v w : Spelled) (l₀ l₁ l₂ : List ℕ) (e r : ℕ) → SideRoom (fixed_then v w) left right n → Puts l₀ right (whole_text v) e l₁ → Both w l₁ left e r l₂ → Both (fixed_then v w) l₀ left right r l₂
  unfolding fixed_then
  joined-both (printed a b) w l₀ l₁ l₂ e r h p z = text-both (a ++ b) left right n w l₀ l₁ l₂ e r h p z
  joined-both (stopped k q) w l₀ l₁ l₂ e r h p z = absurd (false≢true h.prints)
