-- Laws of a record made of pieces: what each way out of `write_record` has shown. Assumes nothing.
use Prim.Native.Nat.{ℕ, ◌+◌, ◌≤◌, ◌<◌, min}
use native.Mathlib.Omega.{arith}
use mathlib.Core.Bool.{Bool, true, false}
use mathlib.Core.Path.{◌≡◌, refl, ap, ◌∙◌}
use mathlib.Core.List.{List, [], ◌++◌}
use lib.ListN.{length, length-append}
use lib.Dec.{leb}
use borrow.Author.Tests.{lt-ltb, le-ltb, leb-true, leb-false}
use Rattle.answer.specs.Answer.{Answer, answered, refused, then}
use Rattle.field.specs.Bytes.{bytes}
use Rattle.field.proofs.ByteLaws.{length-bytes}
use Rattle.field_put.specs.Bytes.{Puts, Room}
use Rattle.write_layout.specs.Runs.{pads}
use Rattle.write_layout.proofs.RunLaws.{length-pads}
use Rattle.write_layout.specs.Fields.{Encoded, bad, only}
use Rattle.write_layout.specs.Records.{missing, filled, limited, record_bytes}
use Rattle.write_layout.specs.Lists.{filled_member, filled_each}
use Rattle.write_layout.specs.Buffer.{lay, Writes}
use Rattle.write_pieces.specs.declared.Piece.{Piece}
use Rattle.write_pieces.specs.Pieces.{pieces_of, fine_all, raw_all}
use Rattle.write_pieces.proofs.PieceLaws.{pieces-fine}

pub filled-length : (bs : List ℕ) → length (filled bs) ≡ length bs + missing (length bs + 2)
unfolding filled
filled-length bs = length-append bs (pads (missing (length bs + 2))) ∙ ap (λ (k : ℕ). length bs + k) (length-pads (missing (length bs + 2)))

-- what measuring the pieces has shown
module _ (t : List ℕ) (xs : List Piece) where
  -- a refusal of one of them is that of all
  pub measured-bad : (n : ℕ) (d : List ℕ) → refused n d ≡ then (pieces_of t xs) (λ bs. answered (min (length bs) 65536)) → pieces_of t xs ≡ refused n d
  measured-bad n d e = go (pieces_of t xs) e
    where
      go : (b : Encoded) → refused n d ≡ then b (λ bs. answered (min (length bs) 65536)) → b ≡ refused n d
      go (answered bs) f = let z : ◌≡◌ {A = ℕ} 0 1 = cc in absurd (omega arith)
      go (refused m e) f = cc

  -- fine, and n is their length, held at 65,536
  pub record Sized (n : ℕ) : Type 0 where
    pub fine : fine_all t xs ≡ true
    pub held : n ≡ min (length (raw_all t xs)) 65536

  pub measured-size : (n : ℕ) → answered n ≡ then (pieces_of t xs) (λ bs. answered (min (length bs) 65536)) → Sized n
  measured-size n e = go (fine_all t xs) refl (rw (pieces-fine t xs) at e)
    where
      go : (b : Bool) → fine_all t xs ≡ b → answered n ≡ then (only b (raw_all t xs)) (λ bs. answered (min (length bs) 65536)) → Sized n
      go true f g = record { fine = f; held = cc }
      go false f g = let z : ◌≡◌ {A = ℕ} 0 1 = cc in absurd (omega arith)

  pub pieces_are : fine_all t xs ≡ true → pieces_of t xs ≡ answered (raw_all t xs)
  pieces_are e = pieces-fine t xs ∙ rw e

-- 18: the held length decides as the length does
pub long : (bs : List ℕ) (n : ℕ) → n ≡ min (length bs) 65536 → 65535 < n + missing (n + 2) → 65535 < length (filled bs)
long bs n e h = go (leb (length bs) 65535) refl
  where
    go : (b : Bool) → leb (length bs) 65535 ≡ b → 65535 < length (filled bs)
    go true f =
        let g : n ≡ length bs = omega (arith, leb-true (length bs) 65535 f) in
        rw (filled-length bs, ← g) h
    go false f = omega (arith, leb-false (length bs) 65535 f, filled-length bs)

pub short : (bs : List ℕ) (n : ℕ) → n ≡ min (length bs) 65536 → n + missing (n + 2) ≤ 65535 → length (filled bs) ≡ n + missing (n + 2)
short bs n e h =
    let g : length bs ≡ n = omega arith in
    filled-length bs ∙ rw g

-- the ways out
module _ (b : Encoded) (s : List ℕ) (p : ℕ) where
  -- a refusal that is passed on
  pub refuse-by : (n : ℕ) (d : List ℕ) → b ≡ refused n d → (r : Answer ℕ) → r ≡ refused n d → Writes s (lay (record_bytes b) s p) r s
  unfolding lay record_bytes
  refuse-by n d e r f = rw (e, f) (record { answer = refl; left = refl })

  pub refuse-bad : b ≡ bad → Writes s (lay (record_bytes b) s p) (refused 17 []) s
  unfolding lay record_bytes
  refuse-bad e = rw e (record { answer = refl; left = refl })

  module _ (bs : List ℕ) (e : b ≡ answered bs) where
    pub refuse-long : 65535 < length (filled bs) → Writes s (lay (record_bytes b) s p) (refused 18 []) s
    unfolding lay record_bytes
    refuse-long h = rw (e, lt-ltb _ _ h) (record { answer = refl; left = refl })

    module _ (n : ℕ) (l : length (filled bs) ≡ n) (h : n ≤ 65535) where
      whole_length : length (bytes 2 (length (filled bs)) ++ filled bs) ≡ n + 2
      whole_length = omega (arith, length-append (bytes 2 (length (filled bs))) (filled bs), length-bytes 2 (length (filled bs)))

      pub refuse-small : length s < p + (n + 2) → Writes s (lay (record_bytes b) s p) (refused 19 []) s
      unfolding lay record_bytes
      refuse-small k =
          let f : length (filled bs) ≤ 65535 = omega arith in
          let g : length s < p + length (bytes 2 (length (filled bs)) ++ filled bs) = omega (arith, whole_length) in
          rw (e, le-ltb _ _ f, lt-ltb _ _ g) (record { answer = refl; left = refl })

      pub laid : (r : ℕ) (s' : List ℕ) → p + (n + 2) ≤ length s → Puts s p (bytes 2 (length (filled bs)) ++ filled bs) r s' → Writes s (lay (record_bytes b) s p) (answered r) s'
      unfolding lay record_bytes
      laid r s' k w =
          let f : length (filled bs) ≤ 65535 = omega arith in
          let g : p + length (bytes 2 (length (filled bs)) ++ filled bs) ≤ length s = omega (arith, whole_length) in
          rw (e, le-ltb _ _ f, le-ltb _ _ g) (record { answer = ap answered w.next; left = w.left })

-- Without a length field ----------------------------------------------------------------------------------------------------------

module _ (b : Encoded) (s : List ℕ) (p : ℕ) where
  pub limited-bad : (n : ℕ) (d : List ℕ) → b ≡ refused n d → Writes s (lay (limited b) s p) (refused n d) s
  unfolding lay limited
  limited-bad n d e = rw e (record { answer = refl; left = refl })

  module _ (bs : List ℕ) (e : b ≡ answered bs) where
    pub limited-long : 65535 < length bs → Writes s (lay (limited b) s p) (refused 18 []) s
    unfolding lay limited
    limited-long h = rw (e, lt-ltb _ _ h) (record { answer = refl; left = refl })

    pub limited-small : length bs ≤ 65535 → length s < p + length bs → Writes s (lay (limited b) s p) (refused 19 []) s
    unfolding lay limited
    limited-small h k = rw (e, le-ltb _ _ h, lt-ltb _ _ k) (record { answer = refl; left = refl })

    pub limited-laid : (r : ℕ) (s' : List ℕ) → length bs ≤ 65535 → p + length bs ≤ length s → Puts s p bs r s' → Writes s (lay (limited b) s p) (answered r) s'
    unfolding lay limited
    limited-laid r s' h k w = rw (e, le-ltb _ _ h, le-ltb _ _ k) (record { answer = ap answered w.next; left = w.left })

-- a refusal stays one where pad bytes fill what is not refused
pub filled-bad : (b : Encoded) (s : List ℕ) (p n : ℕ) (d : List ℕ) → b ≡ refused n d → Writes s (lay (limited (filled_each b)) s p) (refused n d) s
unfolding filled_each
filled-bad b s p n d e = limited-bad (filled_each b) s p n d (rw e)

-- pieces that were refused, as they are and filled by pad bytes
module _ (t : List ℕ) (xs : List Piece) (s : List ℕ) (p n : ℕ) (d : List ℕ) (e : refused n d ≡ then (pieces_of t xs) (λ bs. answered (min (length bs) 65536))) (r : Answer ℕ) (f : r ≡ refused n d) where
  pub plain-bad : Writes s (lay (limited (pieces_of t xs)) s p) r s
  plain-bad = rw f (limited-bad (pieces_of t xs) s p n d (measured-bad t xs n d e))

  pub filled-refused : Writes s (lay (limited (filled_each (pieces_of t xs))) s p) r s
  filled-refused = rw f (filled-bad (pieces_of t xs) s p n d (measured-bad t xs n d e))

-- pieces as they are, that were measured as n
module _ (t : List ℕ) (xs : List Piece) (s : List ℕ) (p n : ℕ) (z : Sized t xs n) where
  pub plain_over : 65535 < n → Writes s (lay (limited (pieces_of t xs)) s p) (refused 18 []) s
  plain_over h = limited-long _ s p (raw_all t xs) (pieces_are t xs z.fine) (omega (arith, z.held))

  module _ (h : n ≤ 65535) where
    plain-same : length (raw_all t xs) ≡ n
    plain-same = omega (arith, z.held)

    pub plain-small : length s < p + n → Writes s (lay (limited (pieces_of t xs)) s p) (refused 19 []) s
    plain-small k = limited-small _ s p (raw_all t xs) (pieces_are t xs z.fine) (omega (arith, plain-same)) (omega (arith, plain-same))

    pub plain-roomy : p + n ≤ length s → Room s p (raw_all t xs)
    plain-roomy k = record { room = omega (arith, plain-same) }

    pub plain_done : p + n ≤ length s → (r : ℕ) (s' : List ℕ) → Puts s p (raw_all t xs) r s' → Writes s (lay (limited (pieces_of t xs)) s p) (answered r) s'
    plain_done k r s' w = limited-laid _ s p (raw_all t xs) (pieces_are t xs z.fine) r s' (omega (arith, plain-same)) (omega (arith, plain-same)) w

-- pieces filled by pad bytes
pub member-length : (bs : List ℕ) → length (filled_member bs) ≡ length bs + missing (length bs)
unfolding filled_member
member-length bs = length-append bs (pads (missing (length bs))) ∙ ap (λ (k : ℕ). length bs + k) (length-pads (missing (length bs)))

module _ (t : List ℕ) (xs : List Piece) (s : List ℕ) (p n pad : ℕ) (z : Sized t xs n) (e : pad ≡ missing n) where
  filled-are : filled_each (pieces_of t xs) ≡ answered (filled_member (raw_all t xs))
  unfolding filled_each
  filled-are = rw (pieces_are t xs z.fine)

  pub filled-over : 65535 < n + pad → Writes s (lay (limited (filled_each (pieces_of t xs))) s p) (refused 18 []) s
  filled-over h = limited-long _ s p (filled_member (raw_all t xs)) filled-are (go (leb (length (raw_all t xs)) 65535) refl)
    where
      go : (b : Bool) → leb (length (raw_all t xs)) 65535 ≡ b → 65535 < length (filled_member (raw_all t xs))
      go true f =
          let g : length (raw_all t xs) ≡ n = omega (arith, leb-true (length (raw_all t xs)) 65535 f, z.held) in
          rw (member-length (raw_all t xs), g, ← e) h
      go false f = omega (arith, leb-false (length (raw_all t xs)) 65535 f, member-length (raw_all t xs))

  module _ (h : n + pad ≤ 65535) where
    filled-same : length (raw_all t xs) ≡ n
    filled-same = omega (arith, z.held)

    filled_is : raw_all t xs ++ pads pad ≡ filled_member (raw_all t xs)
    unfolding filled_member
    filled_is = rw (filled-same, e)

    filled-length-is : length (filled_member (raw_all t xs)) ≡ n + pad
    filled-length-is = member-length (raw_all t xs) ∙ rw (filled-same, e)

    pub filled-small : length s < p + (n + pad) → Writes s (lay (limited (filled_each (pieces_of t xs))) s p) (refused 19 []) s
    filled-small k = limited-small _ s p (filled_member (raw_all t xs)) filled-are (omega (arith, filled-length-is)) (omega (arith, filled-length-is))

    module _ (k : p + (n + pad) ≤ length s) where
      pub filled-roomy : Room s p (raw_all t xs ++ pads pad)
      filled-roomy = record { room = omega (arith, length-append (raw_all t xs) (pads pad), length-pads pad, filled-same) }

      pub filled-done : (r : ℕ) (s' : List ℕ) → Puts s p (raw_all t xs ++ pads pad) r s' → Writes s (lay (limited (filled_each (pieces_of t xs))) s p) (answered r) s'
      filled-done r s' w =
          limited-laid _ s p (filled_member (raw_all t xs)) filled-are r s' (omega (arith, filled-length-is)) (omega (arith, filled-length-is)) (rw filled_is at w)
