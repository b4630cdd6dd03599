-- Demand 3, "not indexed" and R-11 of a section: the streams' own proofs, at 4, 4096 and 4096 plus the records. Assumes nothing.
use Prim.Native.Nat.{ℕ, ◌≤◌}
use mathlib.Core.Path.{◌≡◌}
use mathlib.Core.List.{List}
use native.Mathlib.Omega.{arith}
use lib.ListN.{length}
use Rattle.answer.specs.Answer.{answered}
use Rattle.stream_header.specs.Header.{longest}
use Rattle.field.specs.declared.index.Stream.TheVariants.{Types}
use Rattle.stream_finder.specs.Finder.{State, state}
use Rattle.stream_finder.specs.OfRecords.{PremisesIn, Demand3In, NotIndexedIn, SharedIn}
use Rattle.stream_finder.proofs.DemandProof.{demand3-in, not-indexed-in}
use Rattle.stream_finder.proofs.SharedProof.{shared-in}
use Rattle.stream_index.proofs.WalkedWhole.{turns-walked, records-premises}
use Rattle.section_item.specs.Sections.{first, section_start, count_of}
use Rattle.section_item.proofs.SectionLaws.{counted, start_first}
use Rattle.section_finder.specs.Finders.{section_records}
use Rattle.section_finder.specs.Demand.{SectionPremises, SectionDemand3, SectionNotIndexed, SectionShared, SectionIndexed, OfSections}
use Rattle.section_finder.proofs.FinderLaws.{created-in}

-- a section that was counted is not too long
short : (s : List ℕ) (n : ℕ) → count_of s ≡ answered n → length s ≤ longest
short s n e = (counted s n e).begun.short

premises-in : (shift : ℕ) (s : List ℕ) (n : ℕ) (t : List ℕ) (N : ℕ) (τ : State) (d : ℕ) → SectionPremises shift s n t N τ d → PremisesIn shift Types s (section_records n) t N τ d
premises-in shift s n t N τ d p = record {
  short = short s n p.accepted;
  counts = omega (arith, p.counts);
  room = p.room;
  fresh = p.fresh;
  created = created-in shift s t n p.fresh p.accepted p.created;
  cursor = p.cursor;
  walked = p.walked;
  upto = omega (arith, p.upto);
}

section-demand3 : SectionDemand3
unfolding SectionDemand3 Demand3In
section-demand3 shift small s n t N τ d p = demand3-in shift small Types s (section_records n) t N τ d (premises-in shift s n t N τ d p)

section-not-indexed : SectionNotIndexed
unfolding SectionNotIndexed NotIndexedIn
section-not-indexed shift small s n t N τ d p = not-indexed-in shift small Types s (section_records n) t N τ d (premises-in shift s n t N τ d p)

section-shared : SectionShared
unfolding SectionShared SharedIn
section-shared shift small s n t σ τ e c w = shared-in shift small Types s (section_records n) t σ τ (short s n e) (created-in shift s t n σ e c) w

begun : (s : List ℕ) (n : ℕ) → count_of s ≡ answered n → section_start s ≡ answered first
begun s n e = let k = counted s n e in start_first s k.begun.short k.begun.four k.begun.signature

section-indexed : SectionIndexed
unfolding SectionIndexed
section-indexed shift small s t n r t' e l w d u =
    let c = created-in shift s t n w.fresh e w.created in
    let p : PremisesIn shift Types s (section_records n) t w.walks.turns (state r.finder t') d =
    records-premises shift small Types s t (section_records n) w.fresh r t' (short s n e) (omega arith) c w.walks d (omega arith) in
    record {
      accepted = e;
      counts = l;
      room = p.room;
      fresh = w.fresh;
      created = w.created;
      begun = begun s n e;
      cursor = r.cursor;
      walked = turns-walked s first w.fresh w.walks.turns r.cursor (state r.finder t') w.walks.led;
      upto = u;
    }

pub of-sections : OfSections
of-sections = record { demand3 = section-demand3; not_indexed = section-not-indexed; shared = section-shared; indexed = section-indexed }
