-- R-1: a record as it is written: its length, its leaf, its fields, pad bytes.
use Rattle.std.specs.Prelude.{Option, None, Some, ℕ, ◌+◌, ◌-◌, ◌%◌, List, [], ◌∷◌, ◌++◌, length, ltb}
use Rattle.answer.specs.Answer.{answered, stop, then}
use Rattle.answer.specs.Tables.{find}
use Rattle.field.specs.Bytes.{bytes}
use Rattle.record_layout.specs.Fields.{number, numeral, absent, many}
use Rattle.record_layout.specs.Layouts.{Table, Layout}
use Rattle.write_layout.specs.Runs.{pads}
use Rattle.write_layout.specs.Fields.{ToWrite, Encoded, bad, fixed_bytes, and_also, write_fields}

-- 17 for a leaf that the table does not have
abbrev pub written_by : Option Layout → List ToWrite → Encoded
written_by None vs = bad
written_by (Some fs) vs = write_fields fs 0 vs

-- the leaf, and the fields of its layout
abbrev pub leaf_bytes : Table → ToWrite → List ToWrite → Encoded
leaf_bytes table (number leaf) vs = and_also (fixed_bytes 2 leaf) (written_by (find leaf table) vs)
leaf_bytes table (numeral z u) vs = bad
leaf_bytes table absent vs = bad
leaf_bytes table (many x) vs = bad

unfoldable pub write_leaf : Table → List ToWrite → Encoded
write_leaf table [] = bad
write_leaf table (v ∷ vs) = leaf_bytes table v vs

-- how many bytes fill n bytes to a multiple of four
unfoldable pub missing : ℕ → ℕ
missing n = (4 - n % 4) % 4

-- a payload, filled with its length field counted; 18 over 65,535 bytes, pads counted
unfoldable pub filled : List ℕ → List ℕ
filled bs = bs ++ pads (missing (length bs + 2))

abbrev pub whole : List ℕ → Encoded
whole bs = stop (ltb 65535 (length bs)) 18 (answered (bytes 2 (length bs) ++ bs))

unfoldable pub record_bytes : Encoded → Encoded
record_bytes b = then b (λ bs. whole (filled bs))

-- bytes without a length field: 18 likewise
unfoldable pub limited : Encoded → Encoded
limited b = then b (λ bs. stop (ltb 65535 (length bs)) 18 (answered bs))

-- a record of the table, as it stands in a stream
unfoldable pub write_record : Table → List ToWrite → Encoded
write_record table vs = record_bytes (write_leaf table vs)
