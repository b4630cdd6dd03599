-- Two functions that agree on a computed list of numbers agree below its length: how two tables are compared, whatever their order.
-- Assumes nothing.
use Prim.Native.Nat.{ℕ, zero, suc, ◌+◌, ◌<◌}
use mathlib.Core.Path.{◌≡◌, sym, ap, ◌∙◌}
use mathlib.Core.List.{List, [], ◌∷◌, map}
use native.Mathlib.Nat.{add-zero, add-suc, suc-add, zero-add}
use native.Mathlib.Omega.{arith}
use lib.ListN.{get_or}

abbrev pub counting : ℕ → ℕ → List ℕ
counting k zero = []
counting k (suc n) = k ∷ counting (suc k) n

counting-at : {B : Type 0} (f : ℕ → B) (d : B) (n k i : ℕ) → i < n → get_or (map f (counting k n)) i d ≡ f (k + i)
counting-at f d zero k i h = absurd (omega arith)
counting-at f d (suc n) k zero h = ap f (sym (add-zero k))
counting-at f d (suc n) k (suc i) h = counting-at f d n (suc k) i (omega arith) ∙ ap f (suc-add k i ∙ sym (add-suc k i))

pub agree : {B : Type 0} (f g : ℕ → B) (n : ℕ) → map f (counting 0 n) ≡ map g (counting 0 n) → (i : ℕ) → i < n → f i ≡ g i
agree f g n e i h =
    ap f (sym (zero-add i)) ∙ sym (counting-at f (f 0) n 0 i h) ∙ ap (λ l. get_or l i (f 0)) e ∙ counting-at g (f 0) n 0 i h ∙ ap g (zero-add i)
