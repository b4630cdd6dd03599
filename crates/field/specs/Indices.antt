-- Document 01, "Indices and primitives": indices and string references, four bytes each, and optional indices, none at the numbers that 01
-- names.
use Rattle.std.specs.Prelude.{Result, Ok, Err, Option, None, Some, ℕ, List, [], ◌∷◌}
use Rattle.answer.specs.Refusals.{no}
use Rattle.field.specs.declared.index.IdIndex.{IdIndex}
use Rattle.answer.specs.declared.Refusal.{Refusal}
use Rattle.field.specs.declared.index.StringRef.{StringRef}
use Rattle.field.specs.declared.index.TypeIndex.{TypeIndex}
use Rattle.answer.specs.Answer.{Read, got, pick, and_then}
use Rattle.answer.specs.Tables.{among}
use Rattle.field.specs.Fields.{fixed_at}
use Rattle.field.specs.declared.index.Stream.{Stream}
use Rattle.field.specs.declared.index.Stream.TheVariants as stream
use Rattle.field.specs.declared.index.ItemIndex.{ItemIndex}
use Rattle.field.specs.declared.index.ItemIndex.TheVariants as index

-- index n of a stream
abbrev pub index_in : Stream → ℕ → ItemIndex
index_in stream.Types n = index.Types (record { 0 = n })
index_in stream.Ids n = index.Ids (record { 0 = n })

abbrev pub stream_in : ItemIndex → Stream
stream_in (index.Types i) = stream.Types
stream_in (index.Ids i) = stream.Ids

abbrev pub index_number : ItemIndex → ℕ
index_number (index.Types i) = i.0
index_number (index.Ids i) = i.0

-- where an optional type index is none, and where an optional id index is
abbrev pub no_type : List ℕ
no_type = 0 ∷ 0xffff ∷ []

abbrev pub no_id : List ℕ
no_id = 0 ∷ []

-- n, or none where it is one of these
unfoldable pub optional_of : List ℕ → ℕ → Option ℕ
optional_of nones n = pick (among n nones) None (Some n)

-- the optional index at place p
unfoldable pub optional_at : List ℕ → List ℕ → ℕ → Read (Option ℕ)
optional_at nones s p = and_then (fixed_at 4 s p) (λ n q. got (optional_of nones n) q)

-- what the answers say
abbrev pub said_type : Result (TypeIndex × ℕ) Refusal → Read ℕ
said_type (Ok (t, p)) = got t.0 p
said_type (Err e) = no e

abbrev pub said_id : Result (IdIndex × ℕ) Refusal → Read ℕ
said_id (Ok (i, p)) = got i.0 p
said_id (Err e) = no e

abbrev pub said_string_ref : Result (StringRef × ℕ) Refusal → Read ℕ
said_string_ref (Ok (r, p)) = got r.0 p
said_string_ref (Err e) = no e

abbrev pub type_option : Option TypeIndex → Option ℕ
type_option None = None
type_option (Some t) = Some t.0

abbrev pub id_option : Option IdIndex → Option ℕ
id_option None = None
id_option (Some i) = Some i.0
