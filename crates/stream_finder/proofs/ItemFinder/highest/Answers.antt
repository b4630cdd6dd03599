-- `stream_finder::ItemFinder::highest` meets its contract: each return is an outcome of `max_index_of`. Assumes nothing.
use native.Mathlib.Omega.{arith}
use native.Mathlib.Nat.{mul-le-mul_right}
use mathlib.Core.Path.{sym}
use lib.Pow.{pow_pos}
use Rattle.stream_finder.proofs.FinderLaws.{max-over}
use Rattle.stream_finder.proofs.ItemFinder.highest.Goals as goal

pub returns-then-held-gt4294967295 : goal.returns-then-held-gt4294967295
returns-then-held-gt4294967295 c =
    let f = c.args.self in
    sym (max-over _ (omega arith) (omega arith) (omega (arith, mul-le-mul_right f.held (pow_pos f.shift))))
