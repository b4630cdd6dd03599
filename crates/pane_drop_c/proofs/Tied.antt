-- Each function has the clauses of the library's function that it calls, all of them and no others. Written by tools/exports.
use Rattle.std.proofs.Common.{◌≡◌, refl}
use base.Logic.{SProp}
use contract.Monad.{Fun}
use prog.Memory.{Memory}
use prog.Routine.{Routine}
use seplogic.Ra.Ura.{Ura}
use types.Logic.{Logic}
use Rattle.pane_drop_c.specs.contracts.pdb_drop
use Rattle.pane_drop.specs.contracts.pdb_drop as pdb_drop'

pub record Tied (M : Type 1) (𝓤 : Ura M) (𝓛 : Logic 𝓤) (mem : Memory → SProp 𝓤) (run : Routine → Fun 𝓤) : Type 2 where
  pub pdb_drop : pdb_drop.clauses 𝓛 mem run ≡ pdb_drop'.clauses 𝓛 mem run

pub tied : (M : Type 1) (𝓤 : Ura M) (𝓛 : Logic 𝓤) (mem : Memory → SProp 𝓤) (run : Routine → Fun 𝓤) → Tied M 𝓤 𝓛 mem run
tied M 𝓤 𝓛 mem run = record {
  pdb_drop = refl;
}
