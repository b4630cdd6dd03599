-- What C gets is one value, so a contract that is an equation with it admits one outcome. Assumes nothing.
use Prim.Native.Nat.{ℕ}
use mathlib.Core.List.{List}
use mathlib.Core.Path.{◌≡◌, sym, ap, ◌∙◌}

pub one_out : (x : ℕ × List ℕ) (r q : ℕ) (m k : List ℕ) → (r, m) ≡ x → (q, k) ≡ x → (r ≡ q) × (m ≡ k)
one_out x r q m k a b = (ap (λ (y : ℕ × List ℕ). y.0) (a ∙ sym b), ap (λ (y : ℕ × List ℕ). y.1) (a ∙ sym b))

-- where a table is lent too: t and u after the call
pub one-out-table : (x : ℕ × List ℕ × List ℕ) (r q : ℕ) (t u m k : List ℕ) → (r, m, t) ≡ x → (q, k, u) ≡ x → (r ≡ q) × (t ≡ u) × (m ≡ k)
one-out-table x r q t u m k a b = (
  ap (λ (y : ℕ × List ℕ × List ℕ). y.0) (a ∙ sym b),
  ap (λ (y : ℕ × List ℕ × List ℕ). y.2) (a ∙ sym b),
  ap (λ (y : ℕ × List ℕ × List ℕ). y.1) (a ∙ sym b),
)

-- where a table and a buffer are lent too: t and u, b and d after the call
pub one-out-both : (x : ℕ × List ℕ × List ℕ × List ℕ) (r q : ℕ) (t u b d m k : List ℕ) → (r, m, t, b) ≡ x → (q, k, u, d) ≡ x → (r ≡ q) × (t ≡ u) × (b ≡ d) × (m ≡ k)
one-out-both x r q t u b d m k a e = (
  ap (λ (y : ℕ × List ℕ × List ℕ × List ℕ). y.0) (a ∙ sym e),
  ap (λ (y : ℕ × List ℕ × List ℕ × List ℕ). y.2) (a ∙ sym e),
  ap (λ (y : ℕ × List ℕ × List ℕ × List ℕ). y.3) (a ∙ sym e),
  ap (λ (y : ℕ × List ℕ × List ℕ × List ℕ). y.1) (a ∙ sym e),
)
