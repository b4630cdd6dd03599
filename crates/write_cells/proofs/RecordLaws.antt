-- A record of a leaf and its fields: what each way out of `write_by` has shown. Assumes nothing.
use Prim.Native.Nat.{ℕ, ◌+◌, ◌≤◌, ◌<◌, min}
use native.Mathlib.Omega.{arith}
use mathlib.Core.Bool.{true}
use mathlib.Core.Path.{◌≡◌, refl, ap, ◌∙◌}
use mathlib.Core.List.{List, [], ◌++◌, append_assoc}
use lib.ListN.{length, length-append}
use borrow.Author.Tests.{lt-ltb, eq-eqb, ne_eqb}
use Rattle.answer.specs.Answer.{answered, refused}
use Rattle.field.specs.Bytes.{bytes}
use Rattle.field.proofs.ByteLaws.{length-bytes}
use Rattle.field_put.specs.Bytes.{Puts, Room}
use Rattle.record_cells.specs.Codes.{layout_in, layout_of}
use Rattle.write_layout.specs.Runs.{pads}
use Rattle.write_layout.proofs.RunLaws.{length-pads}
use Rattle.write_layout.specs.Fields.{Encoded, bad, fixed_bytes, and_also, encodes, encoded_bytes}
use Rattle.write_layout.specs.Records.{missing, filled, record_bytes}
use Rattle.write_layout.specs.Buffer.{lay, Writes}
use Rattle.write_pieces.proofs.RecordLaws.{long, short, refuse-long, refuse-small, laid}
use Rattle.write_cells.specs.Cells.{left_bytes, cell_bytes}
use Rattle.write_cells.proofs.LoopLaws.{measure_of, good-is}

-- what measuring has shown
pub measured-bad : (b : Encoded) (n : ℕ) (d : List ℕ) → refused n d ≡ measure_of b 2 → b ≡ refused n d
measured-bad (answered bs) n d e = let z : ◌≡◌ {A = ℕ} 0 1 = cc in absurd (omega arith)
measured-bad (refused m c) n d e = cc

-- good, and n is the length of the fields and of the leaf, held at 65,536
pub record Sized (b : Encoded) (n : ℕ) : Type 0 where
  pub fine : encodes b ≡ true
  pub count : n ≡ min (2 + length (encoded_bytes b)) 65536

pub measured-size : (b : Encoded) (n : ℕ) → answered n ≡ measure_of b 2 → Sized b n
measured-size (answered bs) n e = record { fine = refl; count = cc }
measured-size (refused m d) n e = let z : ◌≡◌ {A = ℕ} 0 1 = cc in absurd (omega arith)

-- a leaf that has no layout
pub no-layout : (leaf layout : ℕ) (t row : List ℕ) → leaf < 65536 → layout ≡ 0 → cell_bytes (layout_in layout) leaf t row ≡ bad
unfolding layout_in fixed_bytes
no-layout leaf layout t row h e = rw (eq-eqb _ _ e, lt-ltb leaf 65536 h)

module _ (leaf layout : ℕ) (t row : List ℕ) (small-leaf : leaf < 65536) (there : layout ≡ 0 → ⊥) where
  abbrev fields : Encoded
  fields = left_bytes 9 layout 0 t row

  abbrev record_is : Encoded
  record_is = cell_bytes (layout_in layout) leaf t row

  by-fields : record_is ≡ and_also (fixed_bytes 2 leaf) fields
  unfolding layout_in layout_of left_bytes
  by-fields = rw (ne_eqb _ _ there)

  with-leaf : and_also (fixed_bytes 2 leaf) fields ≡ and_also (answered (bytes 2 leaf)) fields
  unfolding fixed_bytes
  with-leaf = rw (lt-ltb leaf 65536 small-leaf)

  pub bad-fields : (n : ℕ) (d : List ℕ) → left_bytes 9 layout 0 t row ≡ refused n d → cell_bytes (layout_in layout) leaf t row ≡ refused n d
  bad-fields n d e = by-fields ∙ with-leaf ∙ rw e

  module _ (s : List ℕ) (p n pad : ℕ) (z : Sized (left_bytes 9 layout 0 t row) n) (e : pad ≡ missing (n + 2)) where
    abbrev all : List ℕ
    all = bytes 2 leaf ++ encoded_bytes fields

    are : record_is ≡ answered all
    are = by-fields ∙ with-leaf ∙ ap (and_also (answered (bytes 2 leaf))) (good-is fields z.fine)

    all-length : length all ≡ 2 + length (encoded_bytes fields)
    all-length = length-append (bytes 2 leaf) (encoded_bytes fields) ∙ rw (length-bytes 2 leaf)

    count-is : n ≡ min (length all) 65536
    count-is = rw all-length z.count

    pub over : 65535 < n + pad → Writes s (lay (record_bytes (cell_bytes (layout_in layout) leaf t row)) s p) (refused 18 []) s
    over h = refuse-long _ s p all are (long all n count-is (rw e at h))

    module _ (h : n + pad ≤ 65535) where
      fills : length (filled all) ≡ n + pad
      fills = short all n count-is (rw e at h) ∙ rw e

      same_count : length all ≡ n
      same_count = omega (arith, count-is)

      laid-bytes : bytes 2 (n + pad) ++ (bytes 2 leaf ++ (encoded_bytes fields ++ pads pad)) ≡ bytes 2 (length (filled all)) ++ filled all
      unfolding filled
      laid-bytes = rw (fills, same_count, ← e, append_assoc (bytes 2 leaf) (encoded_bytes fields) (pads pad))

      pub small : length s < p + (n + pad + 2) → Writes s (lay (record_bytes (cell_bytes (layout_in layout) leaf t row)) s p) (refused 19 []) s
      small k = refuse-small _ s p all are (n + pad) fills h k

      module _ (k : p + (n + pad + 2) ≤ length s) where
        pub roomy : Room s p (bytes 2 (n + pad) ++ (bytes 2 leaf ++ (encoded_bytes (left_bytes 9 layout 0 t row) ++ pads pad)))
        roomy =
            let a = length-append (bytes 2 (n + pad)) (bytes 2 leaf ++ (encoded_bytes fields ++ pads pad)) in
            let b = length-append (bytes 2 leaf) (encoded_bytes fields ++ pads pad) in
            let c = length-append (encoded_bytes fields) (pads pad) in
            record { room = omega (arith, a, b, c, length-bytes 2 (n + pad), length-bytes 2 leaf, length-pads pad, same_count, all-length) }

        pub done : (r : ℕ) (s' : List ℕ) → Puts s p (bytes 2 (n + pad) ++ (bytes 2 leaf ++ (encoded_bytes (left_bytes 9 layout 0 t row) ++ pads pad))) r s'
            → Writes s (lay (record_bytes (cell_bytes (layout_in layout) leaf t row)) s p) (answered r) s'
        done r s' w = laid _ s p all are (n + pad) fills h r s' k (rw laid-bytes at w)
