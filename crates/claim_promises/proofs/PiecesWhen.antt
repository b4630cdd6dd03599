-- Pieces are refused by each number exactly when it is said. Assumes nothing.
use Prim.Native.Nat.{ℕ, ◌+◌, ◌≤◌, ◌<◌}
use native.Mathlib.Omega.{arith}
use mathlib.Core.Bool.{Bool, true, false}
use mathlib.Core.Path.{◌≡◌, refl, sym, ◌∙◌}
use mathlib.Core.List.{List, [], ◌++◌}
use lib.ListN.{length}
use lib.Dec.{ltb, eqb}
use borrow.Author.Tests.{ltb-true, ltb-false, lt-ltb, le-ltb}
use Rattle.answer.specs.Answer.{Answer, answered, stop}
use Rattle.field.specs.Bytes.{bytes}
use Rattle.write_layout.specs.Fields.{Encoded, bad, only}
use Rattle.write_layout.specs.Records.{filled, record_bytes, limited}
use Rattle.write_layout.specs.Lists.{filled_member, filled_each}
use Rattle.write_layout.specs.Buffer.{lay}
use Rattle.write_pieces.specs.Pieces.{pieces_of, fine_all, raw_all}
use Rattle.write_pieces.specs.declared.Piece.{Piece}
use Rattle.write_pieces.proofs.PieceLaws.{pieces-fine}
use Rattle.claim_promises.specs.Given.{by, Given}
use Rattle.claim_promises.specs.PiecesWhen.{PiecesWhen}
use Rattle.claim_promises.proofs.Given.{off, at-stop, at-then}

-- bytes of which m count, at most 65,535 of them
abbrev sized : ℕ → List ℕ → Encoded
sized m bs = stop (ltb 65535 m) 18 (answered bs)

module _ (m : ℕ) (bs o : List ℕ) (p : ℕ) where
  laid-17 : by 17 (lay (sized m bs) o p) ≡ true → ⊥
  unfolding lay
  laid-17 = at-then 17 (sized m bs) _ (at-stop 17 (ltb 65535 m) 18 _ (λ _. off) (λ _. off)) (λ x _. at-stop 17 (ltb (length o) (p + length x)) 19 _ (λ _. off) (λ _. off))

  laid-18 : Given 18 [] (lay (sized m bs) o p) (65535 < m)
  unfolding lay
  laid-18 = record {
    when = λ h. rw (lt-ltb _ _ h) refl;
    only = at-then 18 (sized m bs) _ (at-stop 18 (ltb 65535 m) 18 _ (λ b _. ltb-true _ _ b) (λ _. off)) (λ x _. at-stop 18 (ltb (length o) (p + length x)) 19 _ (λ _. off) (λ _. off));
  }

  laid-19 : Given 19 [] (lay (sized m bs) o p) ((m ≤ 65535) × (length o < p + length bs))
  unfolding lay
  laid-19 = record { when = λ (l, h). rw (le-ltb _ _ l, lt-ltb _ _ h) refl; only = go (ltb 65535 m) refl }
    where
      go : (b : Bool) → ltb 65535 m ≡ b → by 19 (lay (stop b 18 (answered bs)) o p) ≡ true → (m ≤ 65535) × (length o < p + length bs)
      go true e x = off x
      go false e x = at-stop 19 (ltb (length o) (p + length bs)) 19 _ (λ b _. (ltb-false _ _ e, ltb-true _ _ b)) (λ _. off) x

-- pieces that are fine have these bytes, and others are 17
module _ (F : Encoded → Encoded) (raw : List ℕ) (m : ℕ) (bs : List ℕ) (fine : F (answered raw) ≡ sized m bs) (not-fine : F bad ≡ bad) (o : List ℕ) (p : ℕ) where
  from-17 : (c : Bool) → Given 17 [] (lay (F (only c raw)) o p) (c ≡ false)
  unfolding lay
  from-17 true = rw fine (record { when = λ e. off (sym e); only = λ x. absurd (laid-17 m bs o p x) })
  from-17 false = rw not-fine (record { when = λ _. refl; only = λ _. refl })

  from : {P : Type 0} (n : ℕ) → eqb 17 n ≡ false → Given n [] (lay (sized m bs) o p) P → (c : Bool) → Given n [] (lay (F (only c raw)) o p) ((c ≡ true) × P)
  unfolding lay
  from n h g true = rw fine (record { when = λ (_, x). g.when x; only = λ x. (refl, g.only x) })
  from n h g false = rw not-fine (record { when = λ (e, _). off e; only = λ x. off (sym h ∙ x) })

module _ (t : List ℕ) (xs : List Piece) where
  pieces-17 : Given 17 [] (pieces_of t xs) (fine_all t xs ≡ false)
  pieces-17 = rw (pieces-fine t xs) (go (fine_all t xs))
    where
      go : (c : Bool) → Given 17 [] (only c (raw_all t xs)) (c ≡ false)
      go true = record { when = λ e. off (sym e); only = off }
      go false = record { when = λ _. refl; only = λ _. refl }

  module _ (o : List ℕ) (p : ℕ) where
    plain-17 : Given 17 [] (lay (limited (pieces_of t xs)) o p) (fine_all t xs ≡ false)
    unfolding limited
    plain-17 = rw (pieces-fine t xs) (from-17 limited (raw_all t xs) (length (raw_all t xs)) (raw_all t xs) refl refl o p (fine_all t xs))

    plain-18 : Given 18 [] (lay (limited (pieces_of t xs)) o p) ((fine_all t xs ≡ true) × (65535 < length (raw_all t xs)))
    unfolding limited
    plain-18 = rw (pieces-fine t xs) (from limited (raw_all t xs) (length (raw_all t xs)) (raw_all t xs) refl refl o p 18 refl (laid-18 (length (raw_all t xs)) (raw_all t xs) o p) (fine_all t xs))

    plain-19 : Given 19 [] (lay (limited (pieces_of t xs)) o p) ((fine_all t xs ≡ true) × ((length (raw_all t xs) ≤ 65535) × (length o < p + length (raw_all t xs))))
    unfolding limited
    plain-19 = rw (pieces-fine t xs) (from limited (raw_all t xs) (length (raw_all t xs)) (raw_all t xs) refl refl o p 19 refl (laid-19 (length (raw_all t xs)) (raw_all t xs) o p) (fine_all t xs))

    filled-17 : Given 17 [] (lay (limited (filled_each (pieces_of t xs))) o p) (fine_all t xs ≡ false)
    unfolding limited filled_each
    filled-17 = rw (pieces-fine t xs)
        (from-17 (λ b. limited (filled_each b)) (raw_all t xs) (length (filled_member (raw_all t xs))) (filled_member (raw_all t xs)) refl refl o p (fine_all t xs))

    filled-18 : Given 18 [] (lay (limited (filled_each (pieces_of t xs))) o p) ((fine_all t xs ≡ true) × (65535 < length (filled_member (raw_all t xs))))
    unfolding limited filled_each
    filled-18 = rw (pieces-fine t xs)
        (from (λ b. limited (filled_each b)) (raw_all t xs) (length (filled_member (raw_all t xs))) (filled_member (raw_all t xs)) refl refl o p 18 refl (laid-18 (length (filled_member (raw_all t xs))) (filled_member (raw_all t xs)) o p) (fine_all t xs))

    filled-19 : Given 19 [] (lay (limited (filled_each (pieces_of t xs))) o p)
        ((fine_all t xs ≡ true) × ((length (filled_member (raw_all t xs)) ≤ 65535) × (length o < p + length (filled_member (raw_all t xs)))))
    unfolding limited filled_each
    filled-19 = rw (pieces-fine t xs)
        (from (λ b. limited (filled_each b)) (raw_all t xs) (length (filled_member (raw_all t xs))) (filled_member (raw_all t xs)) refl refl o p 19 refl (laid-19 (length (filled_member (raw_all t xs))) (filled_member (raw_all t xs)) o p) (fine_all t xs))

    abbrev in_record : List ℕ
    in_record = filled (raw_all t xs)

    -- the length field, and the payload behind it
    abbrev whole_record : List ℕ
    whole_record = bytes 2 (length in_record) ++ in_record

    recorded-17 : Given 17 [] (lay (record_bytes (pieces_of t xs)) o p) (fine_all t xs ≡ false)
    unfolding record_bytes
    recorded-17 = rw (pieces-fine t xs) (from-17 record_bytes (raw_all t xs) (length in_record) whole_record refl refl o p (fine_all t xs))

    recorded-18 : Given 18 [] (lay (record_bytes (pieces_of t xs)) o p) ((fine_all t xs ≡ true) × (65535 < length in_record))
    unfolding record_bytes
    recorded-18 = rw (pieces-fine t xs) (from record_bytes (raw_all t xs) (length in_record) whole_record refl refl o p 18 refl (laid-18 (length in_record) whole_record o p) (fine_all t xs))

    recorded-19 : Given 19 [] (lay (record_bytes (pieces_of t xs)) o p) ((fine_all t xs ≡ true) × ((length in_record ≤ 65535) × (length o < p + (2 + length in_record))))
    unfolding record_bytes bytes
    recorded-19 = rw (pieces-fine t xs) (from record_bytes (raw_all t xs) (length in_record) whole_record refl refl o p 19 refl (longer (laid-19 (length in_record) whole_record o p)) (fine_all t xs))
      where
        two : length whole_record ≡ 2 + length in_record
        two = omega arith

        longer : {A : Type 0} {w : Answer A} → Given 19 [] w ((length in_record ≤ 65535) × (length o < p + length whole_record)) → Given 19 [] w ((length in_record ≤ 65535) × (length o < p + (2 + length in_record)))
        longer g = record { when = λ (l, h). g.when (l, let e = two in omega arith); only = λ x. let y = g.only x in let e = two in let h = y.1 in (y.0, omega arith) }

pub pieces-when : PiecesWhen
pieces-when = record {
  pieces_17 = pieces-17;
  plain_17 = plain-17;
  plain_18 = plain-18;
  plain_19 = plain-19;
  filled_17 = filled-17;
  filled_18 = filled-18;
  filled_19 = filled-19;
  recorded_17 = recorded-17;
  recorded_18 = recorded-18;
  recorded_19 = recorded-19;
}
