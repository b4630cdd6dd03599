-- `stream_finder::rest_of` meets its contract: the lowest bits, as many as the shift, are the rest. Assumes nothing.
use Prim.Native.Nat.{ℕ, ◌-◌, ◌*◌, ◌%◌, ◌^◌, ◌≤◌}
use native.Mathlib.Nat.{mod-eq_of_lt, one-mul}
use native.Mathlib.Omega.{arith}
use mathlib.Core.Path.{◌≡◌, ap, ◌∙◌}
use lib.Pow.{pow_mono}
use lib.Bits.{bit_and, and_mask}
use Rattle.stream_finder.proofs.rest_of.Goals as goal

-- a shift of at most 6 does not wrap
block : (n : ℕ) → n ≤ 6 → 1 * 2 ^ n % 4294967296 ≡ 2 ^ n
block n l =
    let h : 2 ^ n ≤ 64 = pow_mono l in
    mod-eq_of_lt (omega arith) ∙ one-mul _

pub returns : goal.returns
returns c = ap (λ (x : ℕ). bit_and c.args.d (x - 1)) (block c.args.shift c.requires) ∙ and_mask c.args.d c.args.shift
