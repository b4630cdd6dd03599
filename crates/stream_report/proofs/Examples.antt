-- Document 01's stream E, the same cut, and E again: three streams in one report, the second refused midway; and each refusal of an addition.
use Prim.Native.Nat.{ℕ, zero, suc, ◌+◌}
use mathlib.Core.Path.{◌≡◌, refl}
use mathlib.Core.List.{List, [], ◌∷◌}
use lib.ListN.{take}
use Rattle.answer.specs.Answer.{answered, refused, then}
use Rattle.field.specs.Fields.{little_at}
use Rattle.stream_header.specs.Header.{header_of}
use Rattle.stream_header.specs.Examples.{stream_e}
use Rattle.stream_item.specs.Iterator.{iter_of, next_of}
use Rattle.stream_report.specs.Report.{Entry, Report, fresh, tallied, has, run_by, count_run, count_stream, most, passes, too_large, add_of}

abbrev cut_e : List ℕ
cut_e = take 77 stream_e

pub three : then (add_of fresh stream_e) (λ ρ. then (add_of ρ cut_e) (λ σ. add_of σ stream_e))
    ≡ answered (record {
      taken = 3;
      refused = 1;
      headers = 112;
      records = 4;
      bytes = 36;
      largest = record { length = 10; stream = 0; index = 0x1001 };
      entries = record { leaf = 0x1001; records = 2; bytes = 16 } ∷ record { leaf = 0x1002; records = 2; bytes = 20 } ∷ [];
    })
unfolding add_of count_stream count_run run_by tallied has too_large passes iter_of header_of next_of little_at
three = refl

-- so many entries, with leaves from one up
unfoldable pub entries_from : ℕ → ℕ → List Entry
entries_from zero leaf = []
entries_from (suc k) leaf = record { leaf = leaf; records = 1; bytes = 2 } ∷ entries_from k (leaf + 1)

abbrev holding : ℕ → List Entry → Report
holding bytes es = record {
  taken = 0;
  refused = 0;
  headers = 0;
  records = 0;
  bytes = bytes;
  largest = record { length = 0; stream = 0; index = 0 };
  entries = es;
}

-- E has two new leaves where there is room for one; its 18 payload bytes pass 64 bits; and where both are so it is 27
pub no_room : add_of (holding 0 (entries_from 63 0)) stream_e ≡ refused 28 []
unfolding add_of count_stream count_run run_by tallied has too_large passes iter_of header_of next_of little_at entries_from
no_room = refl

pub too_large_lem : add_of (holding most []) stream_e ≡ refused 27 []
unfolding add_of count_stream count_run run_by tallied has too_large passes iter_of header_of next_of little_at
too_large_lem = refl

pub both_so : add_of (holding most (entries_from 63 0)) stream_e ≡ refused 27 []
unfolding add_of count_stream count_run run_by tallied has too_large passes iter_of header_of next_of little_at entries_from
both_so = refl

-- the same stream cut adds to the numbers of streams alone, whatever the table has room for
pub cut-where-full : add_of (holding most (entries_from 64 0)) cut_e ≡ answered (record {
  taken = 1;
  refused = 1;
  headers = 0;
  records = 0;
  bytes = most;
  largest = record { length = 0; stream = 0; index = 0 };
  entries = entries_from 64 0;
})
unfolding add_of count_stream count_run run_by tallied has too_large passes iter_of header_of next_of little_at entries_from
cut-where-full = refl
