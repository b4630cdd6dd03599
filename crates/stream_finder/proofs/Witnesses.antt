-- The premises of demand 3 and of R-11 are met: stream E walked whole, at the shifts 3, 0 and 6, and a stream of 18 records, a link of one byte, which `next` refuses and `find` passes,
-- and one more. Assumes nothing.
use Prim.Native.Nat.{ℕ, zero, suc, ◌+◌, ◌*◌, ◌≤◌}
use mathlib.Core.Path.{◌≡◌, refl, subst}
use mathlib.Core.List.{List, [], ◌∷◌, ◌++◌}
use native.Mathlib.Omega.{arith}
use lib.ListN.{replicate}
use Rattle.answer.specs.Answer.{Answer, answered, refused}
use Rattle.field.specs.Fields.{little_at}
use Rattle.stream_header.specs.Header.{header_of, fields_of}
use Rattle.stream_header.specs.Examples.{four, stream_e}
use Rattle.field.specs.Indices.{index_in}
use Rattle.stream_item.specs.Links.{link_at, chain, link_of}
use Rattle.stream_item.specs.Iterator.{iter_of, yielded, item_at, next_of}
use Rattle.stream_item.proofs.Examples.{cursor}
use Rattle.field.specs.declared.index.Stream.TheVariants.{Types, Ids}
use Rattle.stream_item.specs.declared.iter.ItemIter.{ItemIter}
use Rattle.stream_finder.specs.Finder.{State, state, begun_by, create_by, update_of, after, max_index_of, Found, find_of}
use Rattle.stream_finder.specs.Demand.{Walked, none, more, Premises, Demand3By, Demand3}
use Rattle.stream_finder.specs.Shared.{Roamed, begun, called, Updated, untouched, by, Serves, SharedBy, Shared}
use Rattle.stream_finder.proofs.Examples.{finder_by, finder_to, found}
use Rattle.stream_finder.proofs.DemandProof.{demand3}
use Rattle.stream_finder.proofs.SharedProof.{shared}

-- ---- stream E, N = 2: one place is enough
pub walked_e : (d : ℕ) → d ≤ 2 → Premises 3 Types stream_e (fields_of stream_e) (0 ∷ []) 2 (state (finder_to 4098 1) (56 ∷ [])) d
unfolding header_of little_at create_by begun_by iter_of next_of update_of
walked_e d h = record {
  accepted = refl;
  counts = omega arith;
  room = omega arith;
  fresh = state (finder_to 4098 1) (56 ∷ []);
  created = refl;
  first = cursor 56 4096;
  begun = refl;
  cursor = cursor 78 4098;
  walked = more (more none refl) refl;
  upto = omega arith;
}

-- the same with a place for each record, and with one place for 64
pub walked_e-0 : (d : ℕ) → d ≤ 2 → Premises 0 Types stream_e (fields_of stream_e) (0 ∷ 0 ∷ 0 ∷ []) 2 (state (finder_by 0 4098 3) (56 ∷ 66 ∷ 78 ∷ [])) d
unfolding header_of little_at create_by begun_by iter_of next_of update_of
walked_e-0 d h = record {
  accepted = refl;
  counts = omega arith;
  room = omega arith;
  fresh = state (finder_by 0 4098 1) (56 ∷ 0 ∷ 0 ∷ []);
  created = refl;
  first = cursor 56 4096;
  begun = refl;
  cursor = cursor 78 4098;
  walked = more (more none refl) refl;
  upto = omega arith;
}

pub walked_e-6 : (d : ℕ) → d ≤ 2 → Premises 6 Types stream_e (fields_of stream_e) (0 ∷ []) 2 (state (finder_by 6 4098 1) (56 ∷ [])) d
unfolding header_of little_at create_by begun_by iter_of next_of update_of
walked_e-6 d h = record {
  accepted = refl;
  counts = omega arith;
  room = omega arith;
  fresh = state (finder_by 6 4098 1) (56 ∷ []);
  created = refl;
  first = cursor 56 4096;
  begun = refl;
  cursor = cursor 78 4098;
  walked = more (more none refl) refl;
  upto = omega arith;
}

-- ---- minimum 4096, maximum 4116; 18 records of two bytes, at 56 to 128; a link of one byte at 128; a record at 131
abbrev records : ℕ → List ℕ
records zero = []
records (suc n) = 2 ∷ 0 ∷ 1 ∷ 0x10 ∷ records n

abbrev pub stream_l : List ℕ
stream_l =
    (0x0b ∷ 0xca ∷ 0x31 ∷ 0x01 ∷ []) ++ (four 56 0 ++ (four 0x00 0x10 ++ (four 0x14 0x10 ++ (four 79 0 ++ (replicate 36 0 ++ (records 18 ++ (1 ∷ 0 ∷ 0xaa ∷ 2 ∷ 0 ∷ 1 ∷ 0x10 ∷ [])))))))

-- the cursor after k records, and the finder with 1, 2 and 3 places
abbrev cursor_l : ℕ → ItemIter
cursor_l k = cursor (56 + 4 * k) (4096 + k)

abbrev one_l : State
one_l = state (finder_to 4116 1) (56 ∷ 0 ∷ 0 ∷ [])

abbrev two_l : State
two_l = state (finder_to 4116 2) (56 ∷ 88 ∷ 0 ∷ [])

abbrev pub three_l : State
three_l = state (finder_to 4116 3) (56 ∷ 88 ∷ 120 ∷ [])

step : (k : ℕ) (σ τ : State) → Walked stream_l (cursor_l 0) one_l k (cursor_l k) σ
    → next_of stream_l (cursor_l k) ≡ answered (yielded (item_at Types (4096 + k) (58 + 4 * k) 2) (cursor_l (suc k)))
    → after σ (update_of σ (cursor_l (suc k))) ≡ τ
    → Walked stream_l (cursor_l 0) one_l (suc k) (cursor_l (suc k)) τ
step k σ τ w e f = subst (λ (ρ : State). Walked stream_l (cursor_l 0) one_l (suc k) (cursor_l (suc k)) ρ) f (more w e)

walked8 : Walked stream_l (cursor_l 0) one_l 8 (cursor_l 8) two_l
unfolding next_of update_of little_at
walked8 =
    step 7 one_l two_l (step 6 one_l one_l (step 5 one_l one_l (step 4 one_l one_l (step 3 one_l one_l (step 2 one_l one_l (step 1 one_l one_l (step 0 one_l one_l
    none refl refl) refl refl) refl refl) refl refl) refl refl) refl refl) refl refl) refl refl

walked16 : Walked stream_l (cursor_l 0) one_l 16 (cursor_l 16) three_l
unfolding next_of update_of little_at
walked16 =
    step 15 two_l three_l (step 14 two_l two_l (step 13 two_l two_l (step 12 two_l two_l (step 11 two_l two_l (step 10 two_l two_l (step 9 two_l two_l (step 8 two_l two_l
    walked8 refl refl) refl refl) refl refl) refl refl) refl refl) refl refl) refl refl) refl refl

walked_l : Walked stream_l (cursor_l 0) one_l 18 (cursor_l 18) three_l
unfolding next_of update_of little_at
walked_l = step 17 three_l three_l (step 16 three_l three_l walked16 refl refl) refl refl

pub premises_l : (d : ℕ) → d ≤ 20 → Premises 3 Types stream_l (fields_of stream_l) (0 ∷ 0 ∷ 0 ∷ []) 18 (three_l) d
unfolding header_of little_at create_by begun_by iter_of
premises_l d h = record {
  accepted = refl;
  counts = omega arith;
  room = omega arith;
  fresh = one_l;
  created = refl;
  first = cursor 56 4096;
  begun = refl;
  cursor = cursor 128 4114;
  walked = walked_l;
  upto = omega arith;
}

-- there `next` refuses by 6
pub refused_l : next_of stream_l (cursor 128 4114) ≡ refused 6 []
unfolding next_of little_at
refused_l = refl

-- and demand 3 says what `find` answers: the link of one byte, the record behind it, and past that 1 with 4 passed
abbrev lookup_l : ℕ → Answer Found
lookup_l d = find_of stream_l (three_l) (index_in Types (4096 + d))

pub finds_l : (lookup_l 18 ≡ found 4114 130 1 2) × (lookup_l 19 ≡ found 4115 133 2 3) × (lookup_l 20 ≡ refused 1 (4 ∷ []))
unfolding Demand3 Demand3By link_of chain link_at little_at
finds_l = (
  demand3 Types stream_l (fields_of stream_l) (0 ∷ 0 ∷ 0 ∷ []) 18 (three_l) 18 (premises_l 18 (omega arith)),
  demand3 Types stream_l (fields_of stream_l) (0 ∷ 0 ∷ 0 ∷ []) 18 (three_l) 19 (premises_l 19 (omega arith)),
  demand3 Types stream_l (fields_of stream_l) (0 ∷ 0 ∷ 0 ∷ []) 18 (three_l) 20 (premises_l 20 (omega arith)),
)

-- ---- R-11: two cursors over stream E with a link of one byte behind its records, a place for each record, and room for two
abbrev pub stream_x : List ℕ
stream_x = stream_e ++ (1 ∷ 0 ∷ 0xaa ∷ [])

abbrev state_x : ℕ → List ℕ → State
state_x held t = state (finder_by 0 4098 held) t

-- the one goes past both records, and its third call is refused by 6
one-0 : Roamed stream_x (cursor 56 4096)
unfolding header_of little_at iter_of
one-0 = begun Types refl

one-1 : Roamed stream_x (cursor 66 4097)
unfolding next_of little_at
one-1 = called one-0

one-2 : Roamed stream_x (cursor 78 4098)
unfolding next_of little_at
one-2 = called one-1

one-3 : Roamed stream_x (cursor 78 4098)
unfolding next_of little_at
one-3 = called one-2

-- the other is of the id side, and follows it
two-0 : Roamed stream_x (record { stream = Ids; at = 56; index = 4096 })
unfolding header_of little_at iter_of
two-0 = begun Ids refl

two-1 : Roamed stream_x (record { stream = Ids; at = 66; index = 4097 })
unfolding next_of little_at
two-1 = called two-0

-- the first stores a place; the other comes late, twice; the first again, where the table is full: 13
pub used_x : Updated stream_x (state_x 1 (56 ∷ 0 ∷ [])) (state_x 2 (56 ∷ 66 ∷ []))
unfolding update_of
used_x = by (by (by (by untouched one-1) two-0) two-1) one-3

pub full_x : update_of (state_x 2 (56 ∷ 66 ∷ [])) (cursor 78 4098) ≡ refused 13 []
unfolding update_of
full_x = refl

-- so what R-11 says holds there: both records are found where they start, and 4098 is not indexed
pub serves_x : Serves Types stream_x (fields_of stream_x) (state_x 2 (56 ∷ 66 ∷ []))
unfolding Shared SharedBy header_of little_at create_by begun_by
serves_x = shared 0 (omega arith) Types stream_x (fields_of stream_x) (0 ∷ 0 ∷ []) (state_x 1 (56 ∷ 0 ∷ [])) (state_x 2 (56 ∷ 66 ∷ [])) refl refl used_x

pub finds_x : (find_of stream_x (state_x 2 (56 ∷ 66 ∷ [])) (index_in Types 4097) ≡ found 4097 68 10 0) × (find_of stream_x (state_x 2 (56 ∷ 66 ∷ [])) (index_in Types 4098) ≡ refused 9 (4098 ∷ 4097 ∷ []))
unfolding link_of chain link_at little_at max_index_of
finds_x = (serves_x.lookups 1 (omega arith), serves_x.lookups 2 (omega arith))
