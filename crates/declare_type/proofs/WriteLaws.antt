-- Each place of the writing is one law: what the code knows there, and what it asks. Assumes nothing.
use Rattle.std.specs.Prelude.{Ok, Err}
use Rattle.stream_finder.specs.Finder.{State}
use Prim.Native.Nat.{ℕ, ◌+◌, ◌-◌, ◌≤◌, ◌<◌}
use native.Mathlib.Omega.{arith}
use mathlib.Core.Path.{◌≡◌, refl, ap, sym, ◌∙◌}
use mathlib.Core.Bool.{Bool, true, false, false≢true}
use mathlib.Core.List.{List, []}
use lib.ListN.{length, length-append}
use lib.Dec.{ltb}
use borrow.Author.Tests.{le-ltb}
use Rattle.answer.specs.Answer.{pick}
use Rattle.field.specs.declared.index.TypeIndex.{TypeIndex}
use Rattle.answer.specs.declared.Refusal.{Refusal}
use Rattle.answer.specs.declared.Refusal.TheVariants as refusal
use Rattle.declare_type.specs.declared.step.Around.{Around}
use Rattle.declare_type.specs.declared.token.Token.{Token}
use Rattle.declare_type.specs.declared.step.Step.{Step}
use Rattle.declare_type.specs.declared.step.Step.TheVariants as step
use Rattle.declare_type.specs.Tokens.{text_of}
use Rattle.declare_type.specs.Steps.{inward_step}
use Rattle.declare_type.specs.Walk.{Spelled, printed, stopped, onto, fixed_then, stepped, walk, capped, whole_text}
use Rattle.field_put.specs.Bytes.{put, Puts, Room}
use Rattle.declare_type.specs.Sides.{is_printed, left_of, right_of, SideRoom, Both, WholeRoom}
use Rattle.declare_type.proofs.RoomLaws.{Sums, left_sum, right_sum}
use Rattle.declare_type.proofs.WalkLaws.{walk_is, args_in}
use Rattle.declare_type.proofs.PutLaws.{put-append, length-put}
use Rattle.declare_type.proofs.SideLaws.{room-left, room-right, room_in, both-in, text-right, text_in, text-both, joined-room, joined_in, joined-both}

pub room_as : (v w : Spelled) (left right : ℕ) (n : List ℕ) → v ≡ w → SideRoom v left right n → SideRoom w left right n
room_as v w left right n e h = rw e at h

pub both-as : (v w : Spelled) (l m : List ℕ) (left right r : ℕ) → v ≡ w → Both w l left right r m → Both v l left right r m
both-as v w l m left right r e h = rw e h

room-len : (w : Spelled) (left right : ℕ) (l m : List ℕ) → length m ≡ length l → SideRoom w left right l → SideRoom w left right m
room-len w left right l m e h = record { prints = h.prints; low = h.low; apart = h.apart; high = omega (arith, h.high) }

put-length : (l m text : List ℕ) (at x : ℕ) → Puts l at text x m → length m ≡ length l
put-length l m text at x p = ap length p.left ∙ length-put text l at

-- ---- what a walk is

pub deep-eq : (s : List ℕ) (t : State) (d i : ℕ) (a : Around) → d ≡ 0 → walk s t d i a ≡ stopped 0 refusal.TooDeep
unfolding walk
deep-eq s t d i a e = rw e

module _ (s : List ℕ) (t : State) (d i : ℕ) (a : Around) (h : 0 < d) (o : Step) (e : o ≡ inward_step s t i a) where
  is : {n : Step} → o ≡ n → walk s t d i a ≡ stepped (λ j b. walk s t (d - 1) j b) s t n
  is f = walk_is s t d i a o h e ∙ ap (stepped (λ j b. walk s t (d - 1) j b) s t) f

  pub refused-eq : (q : Refusal) → o ≡ step.Refused q → walk s t d i a ≡ stopped 0 q
  unfolding stepped
  refused-eq q f = is f

  pub last-eq : (p : Token) → o ≡ step.Last p → walk s t d i a ≡ printed (text_of s p) []
  unfolding stepped
  last-eq p f = is f

  pub inward-eq : (l r : Token) (j : TypeIndex) (b : Around) → o ≡ step.Inward l r j b → walk s t d i a ≡ onto (text_of s l) (text_of s r) (walk s t (d - 1) j.0 b)
  unfolding stepped
  inward-eq l r j b f = is f

  pub call-eq : (l r z : Token) (g j : TypeIndex) (b : Around) → o ≡ step.Call l r z g j b
      → walk s t d i a ≡ onto (text_of s l) (text_of s r) (fixed_then (args_in s t (d - 1) g.0) (onto [] (text_of s z) (walk s t (d - 1) j.0 b)))
  unfolding stepped
  call-eq l r z g j b f = is f

-- ---- no room is asked for what is not printed

pub no_room : {A : Type 0} (w : Spelled) (k : ℕ) (q : Refusal) (left right : ℕ) (n : List ℕ) → w ≡ stopped k q → SideRoom w left right n → A
no_room w k q left right n e h = absurd (false≢true (rw e at h.prints))

-- ---- the last token

module _ (w : Spelled) (text l : List ℕ) (left right : ℕ) (h : SideRoom w left right l) (e : w ≡ printed text []) where
  pub last-small : length text ≤ left
  last-small = let g : SideRoom (printed text []) left right l = rw e at h in g.low

  pub last_fits : (x : ℕ) → x ≡ length text → Room l (left - x) text
  last_fits x f = let g : SideRoom (printed text []) left right l = rw e at h in record { room = omega (arith, g.low, g.apart, g.high) }

  pub last-both : (x y : ℕ) (m : List ℕ) → x ≡ length text → Puts l (left - x) text y m → Both w l left right right m
  unfolding put
  last-both x y m f p = rw e (record { end = omega arith; after = p.left ∙ ap (λ k. put l (left - k) text) f })

-- ---- a token on each side

module _ (a b : List ℕ) (w : Spelled) (left right : ℕ) (l₀ : List ℕ) (h : SideRoom (onto a b w) left right l₀) where
  pub left-small : length a ≤ left
  left-small = room-left a b left right l₀ w h

  pub left-fits : (x : ℕ) → x ≡ length a → Room l₀ (left - x) a
  left-fits x f = record { room = omega (arith, room-left a b left right l₀ w h, room-right a b left right l₀ w h, h.apart) }

  module _ (x y : ℕ) (l₁ : List ℕ) (f : x ≡ length a) (p : Puts l₀ (left - x) a y l₁) where
    pub right-fits : Room l₁ right b
    right-fits = record { room = omega (arith, room-right a b left right l₀ w h, put-length l₀ l₁ a (left - x) y p) }

    module _ (e : ℕ) (l₂ : List ℕ) (q : Puts l₁ right b e l₂) where
      pub inner_room : SideRoom w (left - x) e l₂
      inner_room =
          let n : length l₂ ≡ length l₀ = put-length l₁ l₂ b right e q ∙ put-length l₀ l₁ a (left - x) y p in
          room-len w (left - x) e l₀ l₂ n (room_in a b left right l₀ w (left - x) e (ap (λ k. left - k) f) q.next h)

      pub inner-both : (r : ℕ) (l₃ : List ℕ) → Both w l₂ (left - x) e r l₃ → Both (onto a b w) l₀ left right r l₃
      inner-both r l₃ z = both-in a b left right l₀ w l₀ l₁ l₂ l₃ (left - x) e y r (ap (λ k. left - k) f) h p q z

-- ---- arguments, and what closes them

module _ (v w : Spelled) (c : List ℕ) (left right : ℕ) (l₀ : List ℕ) (h : SideRoom (fixed_then v (onto [] c w)) left right l₀) where
  pub args-room : WholeRoom v right l₀
  args-room = joined-room left right l₀ v (onto [] c w) h

  module _ (f : ℕ) (l₁ : List ℕ) (p : Puts l₀ right (whole_text v) f l₁) where
    mid : SideRoom (onto [] c w) left f l₀
    mid = joined_in left right l₀ v (onto [] c w) f p.next h

    pub close-fits : Room l₁ f c
    close-fits = record { room = omega (arith, text-right c left f l₀ w mid, put-length l₀ l₁ (whole_text v) right f p) }

    module _ (g : ℕ) (l₂ : List ℕ) (q : Puts l₁ f c g l₂) where
      pub after-room : SideRoom w left g l₂
      after-room =
          let n : length l₂ ≡ length l₀ = put-length l₁ l₂ c f g q ∙ put-length l₀ l₁ (whole_text v) right f p in
          room-len w left g l₀ l₂ n (text_in c left f l₀ w g q.next mid)

      pub after_both : (r : ℕ) (l₃ : List ℕ) → Both w l₂ left g r l₃ → Both (fixed_then v (onto [] c w)) l₀ left right r l₃
      after_both r l₃ z = joined-both left right l₀ v (onto [] c w) l₀ l₁ l₃ f r h p (text-both c left f l₀ w l₁ l₂ l₃ g r mid q z)

-- ---- an argument

pub sides : (room m n : ℕ) (w : Spelled) → Ok (m, n) ≡ capped room w → (is_printed w ≡ true) × (m ≡ length (left_of w)) × (n ≡ length (right_of w))
unfolding capped
sides room m n (printed l r) e = go (ltb room (length l + length r)) e where
  go : (b : Bool) → ◌≡◌ {A = Sums} (Ok (m, n)) (pick b (Err refusal.NoRoom) (Ok (length l, length r))) → (true ≡ true) × (m ≡ length l) × (n ≡ length r)
  go true h = (refl, cc, cc)
  go false h = (refl, ap left_sum h, ap right_sum h)
sides room m n (stopped k q) e = go (ltb room k) e where
  go : (b : Bool) → ◌≡◌ {A = Sums} (Ok (m, n)) (pick b (Err refusal.NoRoom) (Err q)) → (false ≡ true) × (m ≡ 0) × (n ≡ 0)
  go true h = (cc, cc, cc)
  go false h = (cc, cc, cc)

length_whole : (w : Spelled) → length (whole_text w) ≡ length (left_of w) + length (right_of w)
length_whole (printed l r) = length-append l r
length_whole (stopped k q) = refl

module _ (w : Spelled) (at : ℕ) (l : List ℕ) (h : WholeRoom w at l) where
  pub argument-fits : (m n : ℕ) → Ok (m, n) ≡ capped (length l - at) w → at + m ≤ length l
  argument-fits m n e = let s = sides (length l - at) m n w e in omega (arith, h.high, length_whole w, s.1)

  pub argument-sides : (m n : ℕ) → Ok (m, n) ≡ capped (length l - at) w → SideRoom w (at + m) (at + m) l
  argument-sides m n e =
      let s = sides (length l - at) m n w e in
      record {
        prints = s.0;
        low = omega (arith, s.1);
        apart = omega arith;
        high = omega (arith, h.high, length_whole w, s.1);
      }

  pub argument-puts : (m n r : ℕ) (l₁ : List ℕ) → Ok (m, n) ≡ capped (length l - at) w → Both w l (at + m) (at + m) r l₁ → Puts l at (whole_text w) r l₁
  argument-puts m n r l₁ e z = go w h (sides (length l - at) m n w e) z where
    go : (w : Spelled) → WholeRoom w at l → (is_printed w ≡ true) × (m ≡ length (left_of w)) × (n ≡ length (right_of w)) → Both w l (at + m) (at + m) r l₁ → Puts l at (whole_text w) r l₁
    go (printed a b) k s y =
        let i : at + m - length a ≡ at = omega (arith, s.1) in
        let j : at + m ≡ at + length a = omega (arith, s.1) in
        record {
          next = omega (arith, y.end, s.1, length-append a b);
          left = y.after ∙ ap (λ v. put (put l v a) (at + m) b) i ∙ ap (λ v. put (put l at a) v b) j ∙ sym (put-append a b l at);
        }
    go (stopped k₁ q) k s y = absurd (false≢true k.prints)

  pub argument-never : {A : Type 0} (q : Refusal) → Err q ≡ capped (length l - at) w → A
  unfolding capped
  argument-never q e = absurd (go w h e) where
    go : (w : Spelled) → WholeRoom w at l → Err q ≡ capped (length l - at) w → ⊥
    go (printed a b) k e₁ =
        let f : ltb (length l - at) (length a + length b) ≡ false = le-ltb (length l - at) (length a + length b) (omega (arith, k.high, length-append a b)) in
        let g : ◌≡◌ {A = Sums} (Err q) (Ok (length a, length b)) = e₁ ∙ rw f in
        let z : ◌≡◌ {A = ℕ} 0 1 = cc in
        omega arith
    go (stopped k₁ q₁) k e₁ = false≢true k.prints
