-- `write_pieces::fields::two_bytes` meets its contract. Assumes nothing.
use native.Mathlib.Omega.{arith}
use mathlib.Core.Path.{refl}
use Rattle.write_pieces.proofs.FitLaws.{half-piece}
use Rattle.write_pieces.proofs.fields.two_bytes.Goals as goal

pub returns : goal.returns
returns c = (refl, λ t. half-piece t _ (omega arith))
