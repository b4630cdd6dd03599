-- Each function has the clauses of the library's function that it calls, all of them and no others. Written by tools/exports.
use Rattle.std.proofs.Common.{◌≡◌, refl}
use base.Logic.{SProp}
use contract.Monad.{Fun}
use prog.Memory.{Memory}
use prog.Routine.{Routine}
use seplogic.Ra.Ura.{Ura}
use types.Logic.{Logic}
use Rattle.pane_word_c.specs.contracts.pdb_string
use Rattle.pane_word_c.specs.contracts.pdb_padding
use Rattle.pane_word_c.specs.contracts.pdb_size
use Rattle.pane_word_c.specs.contracts.pdb_number
use Rattle.pane_word_c.specs.contracts.pdb_optional_type
use Rattle.pane_word_c.specs.contracts.pdb_optional_id
use Rattle.pane_word_c.specs.contracts.pdb_is_cross_module
use Rattle.pane_word_c.specs.contracts.pdb_properties
use Rattle.pane_word_c.specs.contracts.pdb_field_attributes
use Rattle.pane_word_c.specs.contracts.pdb_function_attributes
use Rattle.pane_word_c.specs.contracts.pdb_pointer_attributes
use Rattle.pane_word.specs.contracts.pdb_string as pdb_string'
use Rattle.pane_word.specs.contracts.pdb_padding as pdb_padding'
use Rattle.pane_word.specs.contracts.pdb_size as pdb_size'
use Rattle.pane_word.specs.contracts.pdb_number as pdb_number'
use Rattle.pane_word.specs.contracts.pdb_optional_type as pdb_optional_type'
use Rattle.pane_word.specs.contracts.pdb_optional_id as pdb_optional_id'
use Rattle.pane_word.specs.contracts.pdb_is_cross_module as pdb_is_cross_module'
use Rattle.pane_word.specs.contracts.pdb_properties as pdb_properties'
use Rattle.pane_word.specs.contracts.pdb_field_attributes as pdb_field_attributes'
use Rattle.pane_word.specs.contracts.pdb_function_attributes as pdb_function_attributes'
use Rattle.pane_word.specs.contracts.pdb_pointer_attributes as pdb_pointer_attributes'

pub record Tied (M : Type 1) (𝓤 : Ura M) (𝓛 : Logic 𝓤) (mem : Memory → SProp 𝓤) (run : Routine → Fun 𝓤) : Type 2 where
  pub pdb_string : pdb_string.clauses 𝓛 mem run ≡ pdb_string'.clauses 𝓛 mem run
  pub pdb_padding : pdb_padding.clauses 𝓛 mem run ≡ pdb_padding'.clauses 𝓛 mem run
  pub pdb_size : pdb_size.clauses 𝓛 mem run ≡ pdb_size'.clauses 𝓛 mem run
  pub pdb_number : pdb_number.clauses 𝓛 mem run ≡ pdb_number'.clauses 𝓛 mem run
  pub pdb_optional_type : pdb_optional_type.clauses 𝓛 mem run ≡ pdb_optional_type'.clauses 𝓛 mem run
  pub pdb_optional_id : pdb_optional_id.clauses 𝓛 mem run ≡ pdb_optional_id'.clauses 𝓛 mem run
  pub pdb_is_cross_module : pdb_is_cross_module.clauses 𝓛 mem run ≡ pdb_is_cross_module'.clauses 𝓛 mem run
  pub pdb_properties : pdb_properties.clauses 𝓛 mem run ≡ pdb_properties'.clauses 𝓛 mem run
  pub pdb_field_attributes : pdb_field_attributes.clauses 𝓛 mem run ≡ pdb_field_attributes'.clauses 𝓛 mem run
  pub pdb_function_attributes : pdb_function_attributes.clauses 𝓛 mem run ≡ pdb_function_attributes'.clauses 𝓛 mem run
  pub pdb_pointer_attributes : pdb_pointer_attributes.clauses 𝓛 mem run ≡ pdb_pointer_attributes'.clauses 𝓛 mem run

pub tied : (M : Type 1) (𝓤 : Ura M) (𝓛 : Logic 𝓤) (mem : Memory → SProp 𝓤) (run : Routine → Fun 𝓤) → Tied M 𝓤 𝓛 mem run
tied M 𝓤 𝓛 mem run = record {
  pdb_string = refl;
  pdb_padding = refl;
  pdb_size = refl;
  pdb_number = refl;
  pdb_optional_type = refl;
  pdb_optional_id = refl;
  pdb_is_cross_module = refl;
  pdb_properties = refl;
  pdb_field_attributes = refl;
  pdb_function_attributes = refl;
  pdb_pointer_attributes = refl;
}
