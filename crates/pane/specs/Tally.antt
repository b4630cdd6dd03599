-- R-14 of document 02: "the links passed for looking up each of c indices once, upward from the minimum, when all are found: with b = 2^s, q = c/b
-- rounded down and r the rest, exactly q·b(b−1)/2 + r(r−1)/2."
use Rattle.std.specs.Prelude.{ℕ, zero, suc, ◌+◌, ◌-◌, ◌*◌, ◌/◌, ◌%◌, ◌^◌, ◌<◌, Bool, true, false, List, ◌≡◌}
use Rattle.answer.specs.Answer.{Answer, answered, refused}
use Rattle.stream_header.specs.Header.{header_of}
use Rattle.stream_header.specs.declared.Header.{Header}
use Rattle.field.specs.Indices.{index_in}
use Rattle.field.specs.declared.index.Stream.{Stream}
use Rattle.stream_finder.specs.Finder.{State, block_of, create_by, Found, find_of}
use Rattle.stream_finder.specs.Demand.{Premises}
use Rattle.stream_finder.specs.Shared.{Updated}
use Rattle.stream_places.specs.Places.{load_of, load_wide_of}

-- is a lookup answered, and how many links has it passed?
abbrev pub is_found : Answer Found → Bool
is_found (answered a) = true
is_found (refused n d) = false

abbrev pub passed_by : Answer Found → ℕ
passed_by (answered a) = a.passed
passed_by (refused n d) = 0

-- each of the c indices from m upward is found
abbrev pub AllFound : Stream → List ℕ → State → ℕ → ℕ → Type 0
AllFound tag s τ m c = (d : ℕ) → d < c → is_found (find_of s τ (index_in tag (m + d))) ≡ true

-- the links passed for looking up each of them once
unfoldable pub passed_up : Stream → List ℕ → State → ℕ → ℕ → ℕ
passed_up tag s τ m zero = 0
passed_up tag s τ m (suc c) = passed_up tag s τ m c + passed_by (find_of s τ (index_in tag (m + c)))

-- q·b(b−1)/2 + r(r−1)/2
abbrev pub tally : ℕ → ℕ → ℕ
tally b c = c / b * (b * (b - 1) / 2) + c % b * (c % b - 1) / 2

-- of a loader
unfoldable pub LoadedTally : (List ℕ → List ℕ → List ℕ → Answer State) → Type 0
LoadedTally load =
    (tag : Stream) (s f t : List ℕ) (h : Header) (τ : State) (c : ℕ)
    → header_of s ≡ answered h
    → load s f t ≡ answered τ
    → AllFound tag s τ h.minimum_index c
    → passed_up tag s τ h.minimum_index c ≡ tally (block_of τ.finder) c

pub record Tally : Type 0 where
  -- of any finder and any table, however they came about, from the finder's own minimum and by its own shift: "when all are found" is enough. Those below
  -- are cases of it, and so is a section's (crates/claim_promises/specs/Paged.antt)
  pub any : (tag : Stream) (s : List ℕ) (τ : State) (c : ℕ)
      → AllFound tag s τ τ.finder.minimum_index c
      → passed_up tag s τ τ.finder.minimum_index c ≡ tally (block_of τ.finder) c
  -- of demand 3's finder, whatever its shift
  pub walked : (shift : ℕ) (tag : Stream) (s : List ℕ) (h : Header) (t : List ℕ) (N : ℕ) (τ : State) (c : ℕ)
      → Premises shift tag s h t N τ 0
      → AllFound tag s τ h.minimum_index c
      → passed_up tag s τ h.minimum_index c ≡ tally (2 ^ shift) c
  -- of R-11's, which any number of cursors has updated in any order
  pub shared : (shift : ℕ) (tag : Stream) (s : List ℕ) (h : Header) (t : List ℕ) (σ τ : State) (c : ℕ)
      → header_of s ≡ answered h
      → create_by shift s t ≡ answered σ
      → Updated s σ τ
      → AllFound tag s τ h.minimum_index c
      → passed_up tag s τ h.minimum_index c ≡ tally (2 ^ shift) c
  -- of R-3's, whose places were loaded from a file, and of R-10's
  pub loaded : LoadedTally load_of
  pub loaded_wide : LoadedTally load_wide_of
