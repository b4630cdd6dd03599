-- Each function has the clauses of the library's function that it calls, all of them and no others. Written by tools/exports.
use Rattle.std.proofs.Common.{◌≡◌, refl}
use base.Logic.{SProp}
use contract.Monad.{Fun}
use prog.Memory.{Memory}
use prog.Routine.{Routine}
use seplogic.Ra.Ura.{Ura}
use types.Logic.{Logic}
use Rattle.pane_section_c.specs.contracts.pdb_section_start
use Rattle.pane_section_c.specs.contracts.pdb_section_count
use Rattle.pane_section_c.specs.contracts.pdb_section_create
use Rattle.pane_section_c.specs.contracts.pdb_section_index
use Rattle.pane_section_c.specs.contracts.pdb_section_stream
use Rattle.pane_section_c.specs.contracts.pdb_section_list
use Rattle.pane_section.specs.contracts.pdb_section_start as pdb_section_start'
use Rattle.pane_section.specs.contracts.pdb_section_count as pdb_section_count'
use Rattle.pane_section.specs.contracts.pdb_section_create as pdb_section_create'
use Rattle.pane_section.specs.contracts.pdb_section_index as pdb_section_index'
use Rattle.pane_section.specs.contracts.pdb_section_stream as pdb_section_stream'
use Rattle.pane_section.specs.contracts.pdb_section_list as pdb_section_list'

pub record Tied (M : Type 1) (𝓤 : Ura M) (𝓛 : Logic 𝓤) (mem : Memory → SProp 𝓤) (run : Routine → Fun 𝓤) : Type 2 where
  pub pdb_section_start : pdb_section_start.clauses 𝓛 mem run ≡ pdb_section_start'.clauses 𝓛 mem run
  pub pdb_section_count : pdb_section_count.clauses 𝓛 mem run ≡ pdb_section_count'.clauses 𝓛 mem run
  pub pdb_section_create : pdb_section_create.clauses 𝓛 mem run ≡ pdb_section_create'.clauses 𝓛 mem run
  pub pdb_section_index : pdb_section_index.clauses 𝓛 mem run ≡ pdb_section_index'.clauses 𝓛 mem run
  pub pdb_section_stream : pdb_section_stream.clauses 𝓛 mem run ≡ pdb_section_stream'.clauses 𝓛 mem run
  pub pdb_section_list : pdb_section_list.clauses 𝓛 mem run ≡ pdb_section_list'.clauses 𝓛 mem run

pub tied : (M : Type 1) (𝓤 : Ura M) (𝓛 : Logic 𝓤) (mem : Memory → SProp 𝓤) (run : Routine → Fun 𝓤) → Tied M 𝓤 𝓛 mem run
tied M 𝓤 𝓛 mem run = record {
  pdb_section_start = refl;
  pdb_section_count = refl;
  pdb_section_create = refl;
  pdb_section_index = refl;
  pdb_section_stream = refl;
  pdb_section_list = refl;
}
