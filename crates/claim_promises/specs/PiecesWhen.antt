-- "Given exactly when" of the pieces that written records and lists are made of: measured; written as they are, filled, and as a record. 17 is given where
-- one of them is not fine, before 18 and 19.
-- `Given n d a P` (Given.antt): a is refused by n exactly when P, and then with the details d.
use Rattle.std.specs.Prelude.{ℕ, ◌+◌, ◌≤◌, ◌<◌, true, false, ◌≡◌, List, [], length}
use Rattle.write_layout.specs.Records.{filled, record_bytes, limited}
use Rattle.write_layout.specs.Lists.{filled_member, filled_each}
use Rattle.write_layout.specs.Buffer.{lay}
use Rattle.write_pieces.specs.Pieces.{pieces_of, fine_all, raw_all}
use Rattle.write_pieces.specs.declared.Piece.{Piece}
use Rattle.claim_promises.specs.Given.{Given}

pub record PiecesWhen : Type 0 where
  pub pieces_17 : (t : List ℕ) (xs : List Piece) → Given 17 [] (pieces_of t xs) (fine_all t xs ≡ false)
  -- as they are
  pub plain_17 : (t : List ℕ) (xs : List Piece) (o : List ℕ) (p : ℕ) → Given 17 [] (lay (limited (pieces_of t xs)) o p) (fine_all t xs ≡ false)
  pub plain_18 : (t : List ℕ) (xs : List Piece) (o : List ℕ) (p : ℕ) → Given 18 [] (lay (limited (pieces_of t xs)) o p) ((fine_all t xs ≡ true) × (65535 < length (raw_all t xs)))
  pub plain_19 : (t : List ℕ) (xs : List Piece) (o : List ℕ) (p : ℕ) → Given 19 [] (lay (limited (pieces_of t xs)) o p)
      ((fine_all t xs ≡ true) × ((length (raw_all t xs) ≤ 65535) × (length o < p + length (raw_all t xs))))
  -- filled to a multiple of four
  pub filled_17 : (t : List ℕ) (xs : List Piece) (o : List ℕ) (p : ℕ) → Given 17 [] (lay (limited (filled_each (pieces_of t xs))) o p) (fine_all t xs ≡ false)
  pub filled_18 : (t : List ℕ) (xs : List Piece) (o : List ℕ) (p : ℕ) → Given 18 [] (lay (limited (filled_each (pieces_of t xs))) o p)
      ((fine_all t xs ≡ true) × (65535 < length (filled_member (raw_all t xs))))
  pub filled_19 : (t : List ℕ) (xs : List Piece) (o : List ℕ) (p : ℕ) → Given 19 [] (lay (limited (filled_each (pieces_of t xs))) o p)
      ((fine_all t xs ≡ true) × ((length (filled_member (raw_all t xs)) ≤ 65535) × (length o < p + length (filled_member (raw_all t xs)))))
  -- as a record, its length field before it
  pub recorded_17 : (t : List ℕ) (xs : List Piece) (o : List ℕ) (p : ℕ) → Given 17 [] (lay (record_bytes (pieces_of t xs)) o p) (fine_all t xs ≡ false)
  pub recorded_18 : (t : List ℕ) (xs : List Piece) (o : List ℕ) (p : ℕ) → Given 18 [] (lay (record_bytes (pieces_of t xs)) o p)
      ((fine_all t xs ≡ true) × (65535 < length (filled (raw_all t xs))))
  pub recorded_19 : (t : List ℕ) (xs : List Piece) (o : List ℕ) (p : ℕ) → Given 19 [] (lay (record_bytes (pieces_of t xs)) o p)
      ((fine_all t xs ≡ true) × ((length (filled (raw_all t xs)) ≤ 65535) × (length o < p + (2 + length (filled (raw_all t xs))))))
