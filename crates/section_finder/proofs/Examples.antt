-- The records of document 01's stream E as a section: a section that meets the premises of its demand 3, and what lookups give there.
use Rattle.std.specs.Prelude.{Ok, Err}
use Prim.Native.Nat.{ℕ, ◌≤◌}
use mathlib.Core.Path.{◌≡◌, refl}
use mathlib.Core.List.{[], ◌∷◌}
use native.Mathlib.Omega.{arith}
use Rattle.answer.specs.Answer.{answered, refused}
use Rattle.answer.specs.declared.Refusal.TheVariants as refusal
use Rattle.field.specs.Fields.{little_at}
use Rattle.field.specs.Indices.{index_in}
use Rattle.stream_item.specs.Links.{link_of, chain, link_at}
use Rattle.stream_item.specs.Iterator.{next_of}
use Rattle.field.specs.declared.index.Stream.TheVariants.{Types}
use Rattle.stream_finder.specs.Finder.{state, update_of, look_of, find_of, holding_in}
use Rattle.stream_finder.specs.Demand.{none, more}
use Rattle.stream_item.specs.declared.Entry.TheVariants as entry
use Rattle.section_item.specs.Sections.{section_start, walk_by, last_of, count_of}
use Rattle.section_item.proofs.Examples.{section_e}
use Rattle.stream_index.specs.Walk as index
use Rattle.stream_index.specs.Walk.{turn_of}
use Rattle.section_finder.specs.Finders.{section_records, section_create_by, SectionIndexes}
use Rattle.section_finder.specs.Demand.{SectionPremises}

-- a fresh finder of it stores 4 in place 0
pub create_e : section_create_by 3 section_e (0 ∷ 7 ∷ []) ≡ answered (state (holding_in (section_records 2) 3 1) (4 ∷ 7 ∷ []))
unfolding section_create_by count_of section_start last_of walk_by next_of little_at
create_e = refl

-- 26 right before 13; 13 with no table
pub shift_e : section_create_by 7 section_e [] ≡ refused 26 []
unfolding section_create_by count_of section_start last_of walk_by next_of little_at
shift_e = refl

pub full_e : section_create_by 3 section_e [] ≡ refused 13 []
unfolding section_create_by count_of section_start last_of walk_by next_of little_at
full_e = refl

-- 4097 passes 1 link, and its payload starts at 16, 52 below its place in the stream; 4098 gives 1 with 2 passed
pub find_e : find_of section_e (state (holding_in (section_records 2) 3 1) (4 ∷ [])) (index_in Types 4097)
    ≡ answered (record { entry = entry.Record (record { index = index_in Types 4097; place = 16; length = 10 }); passed = 1 })
unfolding look_of link_of chain link_at little_at
find_e = refl

pub behind_e : find_of section_e (state (holding_in (section_records 2) 3 1) (4 ∷ [])) (index_in Types 4098) ≡ refused 1 (2 ∷ [])
unfolding look_of link_of chain link_at little_at
behind_e = refl

-- the premises of demand 3 are met, with both records yielded
pub premises_e : (d : ℕ) → d ≤ 2 → SectionPremises 3 section_e 2 (0 ∷ []) 2 (state (holding_in (section_records 2) 3 1) (4 ∷ [])) d
unfolding section_create_by count_of section_start last_of walk_by next_of update_of little_at
premises_e d l = record {
  accepted = refl;
  counts = omega arith;
  room = omega arith;
  fresh = state (holding_in (section_records 2) 3 1) (4 ∷ []);
  created = refl;
  begun = refl;
  cursor = record { stream = Types; at = 26; index = 4098 };
  walked = more (more none refl) refl;
  upto = l;
}

-- indexed whole: two turns, then the end; one place is stored. Without its signature it is refused, and the table stays
pub index_e : SectionIndexes section_e (0 ∷ []) (Ok (record { finder = holding_in (section_records 2) 3 1; cursor = record { stream = Types; at = 26; index = 4098 }; end = Ok tt })) (4 ∷ [])
unfolding section_create_by count_of section_start last_of walk_by turn_of next_of update_of little_at
index_e = record {
  fresh = state (holding_in (section_records 2) 3 1) (4 ∷ []);
  created = refl;
  walks = record { turns = 2; led = index.more (index.more index.none refl) refl; ended = refl };
}

pub index2 : SectionIndexes (2 ∷ 0 ∷ 0 ∷ 0 ∷ []) (7 ∷ []) (Err refusal.Signature) (7 ∷ [])
unfolding section_create_by count_of section_start little_at
index2 = (refl, refl)
