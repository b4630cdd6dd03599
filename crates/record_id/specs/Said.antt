-- What an id record says: its leaf, and the values of its layout in the layout's order. To be read against the table id_leaves of
-- record_layout/specs/Layouts.antt.
use Rattle.std.specs.Prelude.{ℕ, ◌*◌, List, [], ◌∷◌}
use Rattle.field_text.specs.Texts.{part}
use Rattle.field.specs.Indices.{id_option}
use Rattle.record_layout.specs.Fields.{number, many, or_absent, Shown}
use Rattle.record_id.specs.declared.UserDefinedTypeSourceFileRef.{UserDefinedTypeSourceFileRef}
use Rattle.record_id.specs.declared.UserDefinedTypeSourceFileRef.TheVariants as file
use Rattle.record_id.specs.declared.IdData.{IdData}
use Rattle.record_id.specs.declared.IdData.TheVariants as id

abbrev pub source_values : ℕ → UserDefinedTypeSourceFileRef → ℕ → List Shown
source_values udt (file.Local f) line = number 0x1606 ∷ number udt ∷ number f.0 ∷ number line ∷ []
source_values udt (file.Remote m f) line = number 0x1607 ∷ number udt ∷ number f.0 ∷ number line ∷ number m ∷ []

abbrev pub id_values : IdData → List Shown
id_values (id.Function r) = number 0x1601 ∷ or_absent (id_option r.scope) ∷ number r.function_type.0 ∷ many (part r.name) ∷ []
id_values (id.MemberFunction r) = number 0x1602 ∷ number r.parent.0 ∷ number r.function_type.0 ∷ many (part r.name) ∷ []
id_values (id.BuildInfo r) = number 0x1603 ∷ number r.count ∷ many (record { place = r.place; length = 4 * r.count }) ∷ []
id_values (id.StringList r) = number 0x1604 ∷ number r.count ∷ many (record { place = r.place; length = 4 * r.count }) ∷ []
id_values (id.String r) = number 0x1605 ∷ or_absent (id_option r.substrings) ∷ many (part r.name) ∷ []
id_values (id.UserDefinedTypeSource r) = source_values r.udt.0 r.source_file r.line
