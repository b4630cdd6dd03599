-- Laws of links and chains: one link more, splitting, staying inside, one outcome. Assumes nothing.
use Rattle.std.specs.Prelude.{Option, Some, None}
use Prim.Native.Nat.{ℕ, zero, suc, ◌+◌, ◌*◌, ◌-◌, ◌≤◌, ◌<◌}
use mathlib.Core.Path.{◌≡◌, refl, sym, ap, ap₂, ◌∙◌}
use mathlib.Core.List.{List}
use mathlib.Core.Bool.{Bool, true, false}
use native.Mathlib.Nat.{add-zero, add-suc, add-sub_of_le}
use native.Mathlib.Numerals.{add-one}
use native.Mathlib.Omega.{arith}
use lib.ListN.{length}
use lib.Dec.{leb}
use borrow.Author.Tests.{le-leb, lt-leb, leb-true}
use Rattle.answer.specs.Answer.{pick}
use Rattle.field.specs.Fields.{little_at}
use Rattle.stream_item.specs.Links.{link_at, Walk, reached, broke, passing, linked, chain, landing, land, link_of}
use Rattle.stream_item.specs.declared.link.Hit.{Hit}
use Rattle.stream_item.specs.declared.link.Hit.TheVariants.{Landed, Missed}

-- ---- a link, from the lengths and back
pub link-whole : (s : List ℕ) (p : ℕ) → p + 2 + little_at 2 s p ≤ length s → link_at s p ≡ Some (p + 2, little_at 2 s p)
unfolding link_at
link-whole s p h = simp (le-leb _ _ h)

pub link-broken : (s : List ℕ) (p : ℕ) → length s < p + 2 + little_at 2 s p → link_at s p ≡ None
unfolding link_at
link-broken s p h = simp (lt-leb _ _ h)

pub record WholeAt (s : List ℕ) (p a l : ℕ) : Type 0 where
  pub start : a ≡ p + 2
  pub len : l ≡ little_at 2 s p
  pub inside : p + 2 + little_at 2 s p ≤ length s

abbrev payload : Option (ℕ × ℕ) → ℕ × ℕ
payload None = (0, 0)
payload (Some x) = x

pub whole_is : (s : List ℕ) (p a l : ℕ) → link_at s p ≡ Some (a, l) → WholeAt s p a l
unfolding link_at
whole_is s p a l e = go (leb (p + 2 + little_at 2 s p) (length s)) refl e
  where
    go : (b : Bool) → leb (p + 2 + little_at 2 s p) (length s) ≡ b → pick {A = Option (ℕ × ℕ)} b (Some (p + 2, little_at 2 s p)) None ≡ Some (a, l) → WholeAt s p a l
    go true t q = record { start = ap (λ o. (payload o).0) (sym q); len = ap (λ o. (payload o).1) (sym q); inside = leb-true _ _ t }
    go false t q = let z : ◌≡◌ {A = ℕ} 0 1 = cc in absurd (omega arith)

-- ---- a chain, one link more
pub chain-none : (s : List ℕ) (p : ℕ) → chain s p 0 ≡ reached p
unfolding chain
chain-none s p = refl

pub chain-pass : (s : List ℕ) (p i q a l : ℕ) → chain s p i ≡ reached q → link_at s q ≡ Some (a, l) → chain s p (i + 1) ≡ reached (a + l)
unfolding chain
chain-pass s p i q a l e w = rw (add-one, e, w)

pub chain-break : (s : List ℕ) (p i q : ℕ) → chain s p i ≡ reached q → link_at s q ≡ None → chain s p (i + 1) ≡ broke i
unfolding chain
chain-break s p i q e w = rw (add-one, e, w)

-- a broken chain stays broken, at the same link
pub chain-stays : (s : List ℕ) (p j a b : ℕ) → chain s p a ≡ broke j → chain s p (a + b) ≡ broke j
unfolding chain
chain-stays s p j a zero e = rw (add-zero, e)
chain-stays s p j a (suc b) e = rw (add-suc, chain-stays s p j a b e)

-- ---- a chain of a + b links is one of a and then one of b
abbrev pub more : ℕ → Walk → Walk
more a (reached q) = reached q
more a (broke j) = broke (a + j)

abbrev pub and_then : List ℕ → ℕ → ℕ → Walk → Walk
and_then s a b (reached q) = more a (chain s q b)
and_then s a b (broke j) = broke j

more-passing : (a b : ℕ) (k : Option (ℕ × ℕ)) → passing (a + b) k ≡ more a (passing b k)
more-passing a b (Some (c, l)) = refl
more-passing a b None = refl

more-onward : (s : List ℕ) (a b : ℕ) (w : Walk) → linked s (a + b) (more a w) ≡ more a (linked s b w)
more-onward s a b (reached q) = more-passing a b (link_at s q)
more-onward s a b (broke j) = refl

and_then-onward : (s : List ℕ) (a b : ℕ) (w : Walk) → linked s (a + b) (and_then s a b w) ≡ and_then s a (suc b) w
unfolding chain
and_then-onward s a b (reached q) = more-onward s a b (chain s q b)
and_then-onward s a b (broke j) = refl

and_then-zero : (s : List ℕ) (a : ℕ) (w : Walk) → w ≡ and_then s a zero w
unfolding chain
and_then-zero s a (reached q) = refl
and_then-zero s a (broke j) = refl

pub chain-add : (s : List ℕ) (p a b : ℕ) → chain s p (a + b) ≡ and_then s a b (chain s p a)
unfolding chain
chain-add s p a zero = rw add-zero (and_then-zero s a (chain s p a))
chain-add s p a (suc b) = rw (add-suc, chain-add s p a b) (and_then-onward s a b (chain s p a))

-- the part that demand 3 uses: from the place after a links, b more
pub chain-split : (s : List ℕ) (p a b q : ℕ) → chain s p a ≡ reached q → chain s p (a + b) ≡ more a (chain s q b)
chain-split s p a b q e = chain-add s p a b ∙ ap (and_then s a b) e

-- ---- bounds: two bytes a link at least, and never past the end
pub record Bounded (s : List ℕ) (p k q : ℕ) : Type 0 where
  pub up : p + 2 * k ≤ q
  pub inside : p ≤ length s → q ≤ length s

pub chain-bounds : (s : List ℕ) (p k q : ℕ) → chain s p k ≡ reached q → Bounded s p k q
unfolding chain
chain-bounds s p zero q e =
    let h : p ≡ q = cc in
    record { up = omega arith; inside = λ g. omega arith }
chain-bounds s p (suc k) q e = from (chain s p k) refl e (λ r er. chain-bounds s p k r er)
  where
    step : (r : ℕ) → Bounded s p k r → (n : Option (ℕ × ℕ)) → link_at s r ≡ n → passing k n ≡ reached q → Bounded s p (suc k) q
    step r b (Some (a, l)) en e =
        let w : WholeAt s r a l = whole_is s r a l en in
        let h : a + l ≡ q = cc in
        record { up = omega arith; inside = λ g. omega arith }
    step r b None en e = let z : ◌≡◌ {A = ℕ} 0 1 = cc in absurd (omega arith)

    from : (w : Walk) → chain s p k ≡ w → linked s k w ≡ reached q → ((r : ℕ) → chain s p k ≡ reached r → Bounded s p k r) → Bounded s p (suc k) q
    from (reached r) ew e ih = step r (ih r ew) (link_at s r) refl e
    from (broke j) ew e ih = let z : ◌≡◌ {A = ℕ} 0 1 = cc in absurd (omega arith)

-- ---- link k of a chain
pub link_of-landed : (s : List ℕ) (p k q a l : ℕ) → chain s p k ≡ reached q → link_at s q ≡ Some (a, l) → link_of s p k ≡ Landed a l
unfolding link_of
link_of-landed s p k q a l e w = rw (e, w)

pub link_of-missed : (s : List ℕ) (p k q : ℕ) → chain s p k ≡ reached q → link_at s q ≡ None → link_of s p k ≡ Missed k
unfolding link_of
link_of-missed s p k q e w = rw (e, w)

pub link_of-broke : (s : List ℕ) (p k j : ℕ) → chain s p k ≡ broke j → link_of s p k ≡ Missed j
unfolding link_of
link_of-broke s p k j e = rw e

pub link_of-cut : (s : List ℕ) (p i k q : ℕ) → chain s p i ≡ reached q → link_at s q ≡ None → i < k → link_of s p k ≡ Missed i
link_of-cut s p i k q e w h =
    link_of-broke s p k i
    (ap (chain s p) (sym (add-sub_of_le h)) ∙ chain-stays s p i (suc i) (k - suc i) (sym (ap (chain s p) (add-one i)) ∙ chain-break s p i q e w))

-- ---- link a + j of a chain is link j of the chain from where a links lead
abbrev pub more_hit : ℕ → Hit → Hit
more_hit a (Landed b l) = Landed b l
more_hit a (Missed j) = Missed (a + j)

more-landing : (a j : ℕ) (k : Option (ℕ × ℕ)) → landing (a + j) k ≡ more_hit a (landing j k)
more-landing a j (Some (b, l)) = refl
more-landing a j None = refl

more-land : (s : List ℕ) (a j : ℕ) (w : Walk) → land s (a + j) (more a w) ≡ more_hit a (land s j w)
more-land s a j (reached q) = more-landing a j (link_at s q)
more-land s a j (broke i) = refl

pub link_of-split : (s : List ℕ) (p a j q : ℕ) → chain s p a ≡ reached q → link_of s p (a + j) ≡ more_hit a (link_of s q j)
unfolding link_of
link_of-split s p a j q e = ap (land s (a + j)) (chain-split s p a j q e) ∙ more-land s a j (chain s q j)

-- ---- a walk that keeps the place of the payload: one link more, and the link that it came to
module _ (s : List ℕ) (p i q n : ℕ) (e : n ≡ little_at 2 s (q - 2)) (low : 2 ≤ q) where
  pub led_on : chain s p i ≡ reached (q - 2) → q + n ≤ length s → chain s p (i + 1) ≡ reached (q + 2 + n - 2)
  led_on c h =
      chain-pass s p i (q - 2) _ _ c (link-whole s (q - 2) (omega (arith, e))) ∙ ap reached (omega (arith, e))

  pub led-to : chain s p i ≡ reached (q - 2) → q + n ≤ length s → link_of s p i ≡ Landed q n
  led-to c h =
      let a : q - 2 + 2 ≡ q = omega arith in
      link_of-landed s p i (q - 2) q n c (link-whole s (q - 2) (omega (arith, e)) ∙ ap₂ (λ x y. Some (x, y)) a (sym e))
