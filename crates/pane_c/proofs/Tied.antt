-- Each function has the clauses of the library's function that it calls, all of them and no others. Written by tools/exports.
use Rattle.std.proofs.Common.{◌≡◌, refl}
use base.Logic.{SProp}
use contract.Monad.{Fun}
use prog.Memory.{Memory}
use prog.Routine.{Routine}
use seplogic.Ra.Ura.{Ura}
use types.Logic.{Logic}
use Rattle.pane_c.specs.contracts.pdb_header
use Rattle.pane_c.specs.contracts.pdb_next
use Rattle.pane_c.specs.contracts.pdb_update
use Rattle.pane_c.specs.contracts.pdb_find
use Rattle.pane_c.specs.contracts.pdb_primitive
use Rattle.pane.specs.contracts.pdb_header as pdb_header'
use Rattle.pane.specs.contracts.pdb_next as pdb_next'
use Rattle.pane.specs.contracts.pdb_update as pdb_update'
use Rattle.pane.specs.contracts.pdb_find as pdb_find'
use Rattle.pane.specs.contracts.pdb_primitive as pdb_primitive'

pub record Tied (M : Type 1) (𝓤 : Ura M) (𝓛 : Logic 𝓤) (mem : Memory → SProp 𝓤) (run : Routine → Fun 𝓤) : Type 2 where
  pub pdb_header : pdb_header.clauses 𝓛 mem run ≡ pdb_header'.clauses 𝓛 mem run
  pub pdb_next : pdb_next.clauses 𝓛 mem run ≡ pdb_next'.clauses 𝓛 mem run
  pub pdb_update : pdb_update.clauses 𝓛 mem run ≡ pdb_update'.clauses 𝓛 mem run
  pub pdb_find : pdb_find.clauses 𝓛 mem run ≡ pdb_find'.clauses 𝓛 mem run
  pub pdb_primitive : pdb_primitive.clauses 𝓛 mem run ≡ pdb_primitive'.clauses 𝓛 mem run

pub tied : (M : Type 1) (𝓤 : Ura M) (𝓛 : Logic 𝓤) (mem : Memory → SProp 𝓤) (run : Routine → Fun 𝓤) → Tied M 𝓤 𝓛 mem run
tied M 𝓤 𝓛 mem run = record {
  pdb_header = refl;
  pdb_next = refl;
  pdb_update = refl;
  pdb_find = refl;
  pdb_primitive = refl;
}
