-- R-13's promise of one payload: what rewriting its references keeps. proofs/Rewritten.antt has it.
use Rattle.std.specs.Prelude.{ℕ, ◌≡◌, List, length, get_or}
use Rattle.answer.specs.Answer.{answered, then}
use Rattle.field_put.specs.Bytes.{Octets}
use Rattle.field.specs.declared.index.Stream.TheVariants as stream
use Rattle.record_layout.specs.Layouts.{type_leaves, record_of}
use Rattle.record_list.specs.Lists.{start_types, element_of}
use Rattle.record_reference.specs.References.{Ref, refs_of}
use Rattle.record_rewrite.specs.Rewrite.{renamed_all, rewrite, Within, Outside, Stand, Stays, Fits, moved_record, moved_element}

-- What is kept of the payload s, whose references are rs, in the payload t: the same record and the same list, each read alike but for the
-- references, and these renumbered
pub record Kept (f : ℕ → ℕ) (s : List ℕ) (rs : List Ref) (t : List ℕ) : Type 0 where
  pub refs : refs_of t ≡ answered (renamed_all f rs)
  pub fields : record_of type_leaves t ≡ then (record_of type_leaves s) (λ vs. answered (moved_record f type_leaves vs))
  pub start : start_types t ≡ start_types s
  pub elements : (k : ℕ) → element_of stream.Types t k ≡ then (element_of stream.Types s k) (λ x. answered (moved_element f x))

-- For every payload that has references, that is, whose record and elements all decode
pub record Rewriting : Type 0 where
  -- they stand in order behind the leaf, inside the payload, and do not overlap
  pub apart : (s : List ℕ) (rs : List Ref) → refs_of s ≡ answered rs → Within 2 rs (length s)
  -- their indices stand there
  pub stand : (s : List ℕ) (rs : List Ref) → refs_of s ≡ answered rs → Stand s rs
  -- rewriting changes no length, and no other byte
  pub as_long : (f : ℕ → ℕ) (s : List ℕ) (rs : List Ref) → length (rewrite f s rs) ≡ length s
  pub others : (f : ℕ → ℕ) (s : List ℕ) (rs : List Ref) (i : ℕ) → Outside i rs → get_or (rewrite f s rs) i 0 ≡ get_or s i 0
  -- and what is read stays but for the references
  pub keeps : (f : ℕ → ℕ) (s : List ℕ) (rs : List Ref) → refs_of s ≡ answered rs → Fits f rs → Kept f s rs (rewrite f s rs)
  -- where no index changes, nothing does: dropping twice
  pub same : (f : ℕ → ℕ) (s : List ℕ) (rs : List Ref) → refs_of s ≡ answered rs → Octets s → Stays f rs → rewrite f s rs ≡ s
  -- what is written is bytes
  pub octets : (f : ℕ → ℕ) (s : List ℕ) (rs : List Ref) → Octets s → Octets (rewrite f s rs)
