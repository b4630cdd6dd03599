-- `write_pieces::no_zero` meets its contract: the test of the part, in the words of the definition. Assumes nothing.
use Prim.Native.Nat.{◌+◌}
use mathlib.Core.Path.{refl}
use Rattle.write_layout.proofs.RunLaws.{none_zero, part-is}
use Rattle.write_pieces.proofs.no_zero.Goals as goal

pub returns : goal.returns
returns c =
    let a = c.args in
    rw (c.contains.ensures.value, none_zero, part-is a.text.now a.q a.n (a.q + a.n) refl)
