-- The totals after a stream, a law for each outcome; and that they are those of the report. Assumes nothing.
use Rattle.std.specs.Prelude.{Result, IsErrAnd, Option, Some, None}
use Rattle.answer.specs.declared.Refusal.{Refusal}
use Prim.Native.Nat.{ℕ, zero, suc, ◌+◌, ◌-◌, ◌*◌, ◌≤◌, ◌<◌}
use mathlib.Core.Path.{◌≡◌, refl, sym, ap, ◌∙◌, subst}
use mathlib.Core.Bool.{Bool, true, false}
use mathlib.Core.List.{List, [], ◌∷◌, ◌++◌}
use mathlib.Core.Logic.{inl, ⊎_elim}
use native.Mathlib.Omega.{arith}
use lib.ListN.{length, get_or, drop}
use lib.Seq.{drop-cons}
use lib.Dec.{ltb}
use borrow.Author.Tests.{lt-ltb, le-ltb, ltb-false}
use Rattle.answer.specs.Answer.{Answer, answered, refused, pick, stop}
use Rattle.field.specs.declared.index.Stream.TheVariants as stream
use Rattle.stream_item.specs.Iterator.{iter_of}
use Rattle.stream_item.specs.declared.iter.ItemIter.{ItemIter}
use Rattle.stream_report.specs.Report.{Entry, Report, count_run, count_stream, add_of, begun, refusing, most, passes, too_large, settled_report, concluded, rows, at_most_64, report_in, totals_of, flat, totals_in, report_table_after, Reports}
use Rattle.stream_report.specs.Held.{Known, Exact, Past, KeptTable, Finished, RunRefuses, Sound, Told, WalkCounts, totals_after, settled_of, refused_of, Fits64}
use Rattle.stream_report.specs.declared.Totals.{Totals}
use Rattle.stream_report.specs.declared.Count.{Count}
use Rattle.stream_report.specs.declared.Walked.{Walked}
use Rattle.stream_report.proofs.TableLaws.{rows-length, passes-small}
use Rattle.answer.specs.Refusals.{no, itself, said}
use Rattle.answer.proofs.Told.{handed}

-- ---- a stream that was refused
module _ (τ : Totals) where
  pub refused-taken : most < τ.taken + 1 → refused_of τ ≡ refused 27 []
  unfolding refused_of
  refused-taken h = rw (lt-ltb _ _ h)

  pub refused-refused : τ.taken + 1 ≤ most → most < τ.refused + 1 → refused_of τ ≡ refused 27 []
  unfolding refused_of
  refused-refused a h = rw (le-ltb _ _ a, lt-ltb _ _ h)

  pub refused-answered : τ.taken + 1 ≤ most → τ.refused + 1 ≤ most → (n : ℕ) → n ≡ at_most_64 τ.rows
      → refused_of τ ≡ answered (record { taken = τ.taken + 1; refused = τ.refused + 1; headers = τ.headers; records = τ.records; bytes = τ.bytes; largest = τ.largest; rows = n })
  unfolding refused_of
  refused-answered a b n e = rw (le-ltb _ _ a, le-ltb _ _ b, e)

-- ---- a table is its rows and the rest
module _ (t : List ℕ) where
  number : (j m : ℕ) → j < length t → m ≡ suc j → drop j t ≡ get_or t j 0 ∷ drop m t
  number j m h e = drop-cons t j 0 h ∙ ap (λ (x : ℕ). get_or t j 0 ∷ drop x t) (sym e)

  pub flat_rows : (k i : ℕ) → 3 * (i + k) ≤ length t → drop (3 * i) t ≡ flat (rows k t i) ++ drop (3 * (i + k)) t
  unfolding flat rows
  flat_rows zero i h = let e : 3 * i ≡ 3 * (i + 0) = omega arith in ap (λ (x : ℕ). drop x t) e
  flat_rows (suc k) i h =
      let e : 3 * (suc i + k) ≡ 3 * (i + suc k) = omega arith in
      number (3 * i) (3 * i + 1) (omega arith) (omega arith)
      ∙ ap (λ (l : List ℕ). get_or t (3 * i) 0 ∷ l) (number (3 * i + 1) (3 * i + 2) (omega arith) (omega arith)
      ∙ ap (λ (l : List ℕ). get_or t (3 * i + 1) 0 ∷ l) (number (3 * i + 2) (3 * suc i) (omega arith) (omega arith)
      ∙ ap (λ (l : List ℕ). get_or t (3 * i + 2) 0 ∷ l) (flat_rows k (suc i) (omega arith)
      ∙ ap (λ (x : ℕ). flat (rows k t (suc i)) ++ drop x t) e)))

  pub whole-table : (k : ℕ) → k ≤ 64 → length t ≡ 192 → t ≡ flat (rows k t 0) ++ drop (3 * k) t
  whole-table k h e =
      let q : 3 * (0 + k) ≡ 3 * k = omega arith in
      flat_rows k 0 (omega arith) ∙ ap (λ (x : ℕ). flat (rows k t 0) ++ drop x t) q

pub few-rows : (n : ℕ) → at_most_64 n ≤ 64
few-rows n = go (ltb 64 n) refl
  where
    go : (b : Bool) → ltb 64 n ≡ b → pick b 64 n ≤ 64
    go true e = omega arith
    go false e = ltb-false _ _ e

-- ---- 27 in a report
last_of : (a b c d e : Bool) → pick a true (pick b true (pick c true (pick d true (pick e true true)))) ≡ true
last_of true b c d e = refl
last_of false true c d e = refl
last_of false false true d e = refl
last_of false false false true e = refl
last_of false false false false true = refl
last_of false false false false false = refl

pub past-large : (ρ : Report) → passes ρ.entries ≡ true → too_large ρ ≡ true
unfolding too_large
past-large ρ h = rw (h, last_of (ltb most ρ.taken) (ltb most ρ.refused) (ltb most ρ.headers) (ltb most ρ.records) (ltb most ρ.bytes))

-- the answer's totals, by the tests
same_tests : (a b c d full : Bool) (ρ : Report) (v : Totals) → totals_of ρ ≡ v
    → stop a 27 (stop b 27 (stop c 27 (stop d 27 (stop full 28 (answered v)))))
    ≡ totals_in (stop (pick a true (pick false true (pick b true (pick c true (pick d true false))))) 27 (stop full 28 (answered ρ)))
same_tests true b c d full ρ v e = refl
same_tests false true c d full ρ v e = refl
same_tests false false true d full ρ v e = refl
same_tests false false false true full ρ v e = refl
same_tests false false false false true ρ v e = refl
same_tests false false false false false ρ v e = ap answered (sym e)

two-tests : (a b : Bool) (ρ : Report) (v : Totals) → totals_of ρ ≡ v
    → stop a 27 (stop b 27 (answered v))
    ≡ totals_in (stop (pick a true (pick b true (pick false true (pick false true (pick false true false))))) 27 (stop false 28 (answered ρ)))
two-tests true b ρ v e = refl
two-tests false true ρ v e = refl
two-tests false false ρ v e = ap answered (sym e)

-- ---- the table after it
after-answered : (a full : Bool) (ρ : Report) (t t' : List ℕ) → t' ≡ report_table_after t (answered ρ) → (v : Totals)
    → totals_in (stop a 27 (stop full 28 (answered ρ))) ≡ answered v → t' ≡ report_table_after t (stop a 27 (stop full 28 (answered ρ)))
after-answered true full ρ t t' h v e = let z : ◌≡◌ {A = ℕ} 0 1 = cc in absurd (omega arith)
after-answered false true ρ t t' h v e = let z : ◌≡◌ {A = ℕ} 0 1 = cc in absurd (omega arith)
after-answered false false ρ t t' h v e = h

after-refused : (a : Answer Report) (t : List ℕ) (n : ℕ) (d : List ℕ) → totals_in a ≡ refused n d → t ≡ report_table_after t a
after-refused (answered ρ) t n d e = let z : ◌≡◌ {A = ℕ} 0 1 = cc in absurd (omega arith)
after-refused (refused m x) t n d e = refl

-- ---- a refused stream
module _ (τ : Totals) (t : List ℕ) (kn : Known t) (h : τ.headers ≤ most) (r : τ.records ≤ most) (b : τ.bytes ≤ most) where
  refused-totals : refused_of τ ≡ totals_in (settled_report (refusing (report_in τ t)) false)
  unfolding refused_of too_large report_in
  refused-totals =
      rw (le-ltb _ _ h, le-ltb _ _ r, le-ltb _ _ b, passes-small t kn (at_most_64 τ.rows) 0)
      (two-tests (ltb most (τ.taken + 1)) (ltb most (τ.refused + 1)) (refusing (report_in τ t)) _
      (ap (λ (n : ℕ). record { taken = τ.taken + 1; refused = τ.refused + 1; headers = τ.headers; records = τ.records; bytes = τ.bytes; largest = τ.largest; rows = n }) (rows-length (at_most_64 τ.rows) 0 t)))

  refused-table : t ≡ report_table_after t (answered (refusing (report_in τ t)))
  unfolding report_in
  refused-table =
      whole-table t (at_most_64 τ.rows) (few-rows τ.rows) kn.size
      ∙ ap (λ (n : ℕ). flat (rows (at_most_64 τ.rows) t 0) ++ drop (3 * n) t) (sym (rows-length (at_most_64 τ.rows) 0 t))

  refused-after : (b : Bool) → t ≡ report_table_after t (stop b 27 (stop false 28 (answered (refusing (report_in τ t)))))
  refused-after true = refl
  refused-after false = refused-table

  pub refusing-reports : (a : Answer Report) → a ≡ settled_report (refusing (report_in τ t)) false → (x : Result Totals Refusal) → said itself x ≡ refused_of τ → Reports t a x t
  refusing-reports a e x s = record { answer = s ∙ refused-totals ∙ ap totals_in (sym e); table = refused-after (too_large (refusing (report_in τ t))) ∙ ap (report_table_after t) (sym e) }

-- ---- a stream that was counted
module _ (τ : Totals) (t : List ℕ) (s : List ℕ) (c : ItemIter) (w : Walked) (t' : List ℕ) (r : τ.refused ≤ most)
    (f : Finished s τ.taken c (begun (report_in τ t) c.at) t w t') where
  own-records : f.counting.report.records ≡ τ.records + (w.cursor.index - c.index)
  unfolding report_in
  own-records = omega (arith, f.records, f.up)

  pub own-fits : 2 * (w.cursor.index - c.index) + c.at ≤ w.cursor.at
  unfolding report_in
  own-fits = omega (arith, f.records, f.bytes, f.more, f.up)

  own-bytes : f.counting.report.bytes ≡ τ.bytes + (w.cursor.at - c.at - 2 * (w.cursor.index - c.index))
  unfolding report_in
  own-bytes = omega (arith, f.records, f.bytes, f.more, f.up)

  own-headers : f.counting.report.headers ≡ τ.headers + c.at
  unfolding report_in
  own-headers = f.headers

  own-taken : f.counting.report.taken ≡ τ.taken + 1
  unfolding report_in
  own-taken = f.taken

  own-refused : f.counting.report.refused ≡ τ.refused
  unfolding report_in
  own-refused = f.refused

  module _ (x : Exact t t' w.count f.counting.report.entries f.counting.full) where
    own-small : passes f.counting.report.entries ≡ false
    own-small = rw (← x.entries) (passes-small t' f.known w.count.rows 0)

    own-rows : length f.counting.report.entries ≡ w.count.rows
    own-rows = ap length (sym x.entries) ∙ rows-length w.count.rows 0 t'

    own-totals : totals_of f.counting.report ≡ totals_after τ c.at (w.cursor.index - c.index) (w.cursor.at - c.at - 2 * (w.cursor.index - c.index)) w.count w.largest
    own-totals = rw (own-taken, own-refused, own-headers, own-records, own-bytes, own-rows, f.largest)

    own-large : too_large f.counting.report
        ≡ pick (ltb most (τ.taken + 1)) true
        (pick false true
        (pick (ltb most (τ.headers + c.at)) true
        (pick (ltb most (τ.records + (w.cursor.index - c.index))) true
        (pick (ltb most (τ.bytes + (w.cursor.at - c.at - 2 * (w.cursor.index - c.index)))) true false))))
    unfolding too_large
    own-large = rw (own-small, own-taken, own-refused, own-headers, own-records, own-bytes, le-ltb _ _ r)

    exact-totals : settled_of τ c.at (w.cursor.index - c.index) (w.cursor.at - c.at - 2 * (w.cursor.index - c.index)) w.count w.largest
        ≡ totals_in (settled_report f.counting.report f.counting.full)
    unfolding settled_of
    exact-totals =
        rw (x.fine, x.said, own-large)
        (same_tests (ltb most (τ.taken + 1)) (ltb most (τ.headers + c.at)) (ltb most (τ.records + (w.cursor.index - c.index)))
        (ltb most (τ.bytes + (w.cursor.at - c.at - 2 * (w.cursor.index - c.index)))) f.counting.full f.counting.report _ own-totals)

    exact-table : t' ≡ report_table_after t (answered f.counting.report)
    exact-table =
        whole-table t' w.count.rows f.few f.known.size
        ∙ ap (λ (l : List ℕ). flat (rows w.count.rows t' 0) ++ l) x.rest
        ∙ ap (λ (l : List Entry). flat l ++ drop (3 * w.count.rows) t) x.entries
        ∙ ap (λ (n : ℕ). flat f.counting.report.entries ++ drop (3 * n) t) (sym own-rows)

  past-totals : Past w.count f.counting.report.entries → (n b : ℕ) → settled_of τ c.at n b w.count w.largest ≡ totals_in (settled_report f.counting.report f.counting.full)
  unfolding settled_of
  past-totals p n b = rw (p.over, past-large f.counting.report p.past)

  pub finished-totals : settled_of τ c.at (w.cursor.index - c.index) (w.cursor.at - c.at - 2 * (w.cursor.index - c.index)) w.count w.largest
      ≡ totals_in (settled_report f.counting.report f.counting.full)
  finished-totals = ⊎_elim exact-totals (λ p. past-totals p _ _) f.kept

  finished-table : (v : Totals) → totals_in (settled_report f.counting.report f.counting.full) ≡ answered v → t' ≡ report_table_after t (settled_report f.counting.report f.counting.full)
  finished-table v e =
      ⊎_elim (λ x. after-answered (too_large f.counting.report) f.counting.full f.counting.report t t' (exact-table x) v e)
      (λ p. let q : ◌≡◌ {A = Answer Totals} (refused 27 []) (answered v) = sym (rw (past-large f.counting.report p.past)) ∙ e in let z : ◌≡◌ {A = ℕ} 0 1 = cc in absurd (omega arith))
      f.kept

  ends_so : concluded (report_in τ t) (count_run s τ.taken c (begun (report_in τ t) c.at)) ≡ settled_report f.counting.report f.counting.full
  ends_so = ap (concluded (report_in τ t)) f.is

  module _ (q : Result Totals Refusal) (n b : ℕ) (en : n ≡ w.cursor.index - c.index) (eb : b ≡ w.cursor.at - c.at - 2 * n) (settles : said itself q ≡ settled_of τ c.at n b w.count w.largest) where
    is-settled : said itself q ≡ totals_in (settled_report f.counting.report f.counting.full)
    is-settled = settles ∙ rw (eb, en) finished-totals

    pub added-reports : (v : Totals) → said itself q ≡ answered v → Reports t (concluded (report_in τ t) (count_run s τ.taken c (begun (report_in τ t) c.at))) q t'
    added-reports v h =
        subst (λ (y : Answer Report). Reports t y q t') (sym ends_so) (record { answer = is-settled; table = finished-table v (sym is-settled ∙ h) })

    pub full-reports : (m : ℕ) (d : List ℕ) → said itself q ≡ refused m d → Reports t (concluded (report_in τ t) (count_run s τ.taken c (begun (report_in τ t) c.at))) q t
    full-reports m d h =
        subst (λ (y : Answer Report). Reports t y q t) (sym ends_so) (record { answer = is-settled; table = after-refused (settled_report f.counting.report f.counting.full) t m d (sym is-settled ∙ h) })

  -- the settlement's refusal, as `?` hands it on
  pub handed-reports : (n b : ℕ) → n ≡ w.cursor.index - c.index → b ≡ w.cursor.at - c.at - 2 * n → (e : Refusal) → no e ≡ settled_of τ c.at n b w.count w.largest → (q : Result Totals Refusal) → IsErrAnd q (λ y. y ≡ e)
      → Reports t (concluded (report_in τ t) (count_run s τ.taken c (begun (report_in τ t) c.at))) q t
  handed-reports n b en eb e settles q h =
      let x : said itself q ≡ no e = ap (said itself) (handed q e h) in
      full-reports q n b en eb (x ∙ settles) _ _ x

-- ---- from the walk's answer
abbrev start : ℕ → Count
start n = record { last = 0; rows = n; full = false; over = false }

pub start-sound : (t : List ℕ) (n : ℕ) → Known t → n ≤ 64 → Sound t (start n)
start-sound t n kn h = record { size = kn.size; few = h; foremost = record { is = λ k l e. absurd (omega arith) } }

module _ (τ : Totals) (t : List ℕ) (s : List ℕ) (c : ItemIter) (n : ℕ) (e : n ≡ at_most_64 τ.rows) (r : Option Walked) (t' : List ℕ) (k : WalkCounts s τ.taken c (start n) τ.largest t r t') where
  start-kept : KeptTable t t (start n) (begun (report_in τ t) c.at).report.entries false
  unfolding report_in
  start-kept = inl (record { fine = refl; entries = ap (λ (m : ℕ). rows m t 0) e; said = refl; rest = refl })

  start-largest : (begun (report_in τ t) c.at).report.largest ≡ τ.largest
  unfolding report_in
  start-largest = refl

  pub walk-done : (w : Walked) → r ≡ Some w → Finished s τ.taken c (begun (report_in τ t) c.at) t w t'
  walk-done w q = subst (λ (x : Option Walked). Told s τ.taken c (begun (report_in τ t) c.at) t x t') q (k.from (begun (report_in τ t) c.at) t start-kept start-largest)

  walk_refused : r ≡ None → RunRefuses s τ.taken c (begun (report_in τ t) c.at)
  walk_refused q = subst (λ (x : Option Walked). Told s τ.taken c (begun (report_in τ t) c.at) t x t') q (k.from (begun (report_in τ t) c.at) t start-kept start-largest)

  pub midway-reports : r ≡ None → Known t → Fits64 τ → (x : Result Totals Refusal) → said itself x ≡ refused_of τ
      → Reports t (concluded (report_in τ t) (count_run s τ.taken c (begun (report_in τ t) c.at))) x t
  midway-reports q kn z x h =
      refusing-reports τ t kn z.headers z.records z.bytes (concluded (report_in τ t) (count_run s τ.taken c (begun (report_in τ t) c.at)))
      (ap (concluded (report_in τ t)) (walk_refused q).is) x h

-- ---- from the header's
module _ (τ : Totals) (t : List ℕ) (s : List ℕ) where
  pub begins : (c : ItemIter) → iter_of stream.Types s ≡ answered c → concluded (report_in τ t) (count_run s τ.taken c (begun (report_in τ t) c.at)) ≡ add_of (report_in τ t) s
  unfolding add_of count_stream report_in
  begins c e = rw e

  pub header-reports : (n : ℕ) (d : List ℕ) → iter_of stream.Types s ≡ refused n d → Known t → Fits64 τ → (x : Result Totals Refusal) → said itself x ≡ refused_of τ → Reports t (add_of (report_in τ t) s) x t
  unfolding add_of count_stream
  header-reports n d e kn z x h = refusing-reports τ t kn z.headers z.records z.bytes (add_of (report_in τ t) s) (rw e) x h
