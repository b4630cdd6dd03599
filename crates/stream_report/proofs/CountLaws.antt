-- The outcomes of counting a record in the table, a law for each. Assumes nothing.
use Prim.Native.Nat.{ℕ, ◌+◌, ◌*◌, ◌≤◌, ◌<◌}
use mathlib.Core.Path.{◌≡◌, refl, sym, ap, ◌∙◌, subst}
use mathlib.Core.Bool.{Bool, true, false}
use mathlib.Core.List.{List}
use mathlib.Core.Logic.{inl, inr, ⊎_elim}
use native.Mathlib.Numerals.{add-one}
use native.Mathlib.Omega.{arith}
use lib.ListN.{length, get_or, drop}
use lib.Seq.{drop-drop}
use borrow.Author.Tests.{lt-ltb, le-ltb}
use Rattle.answer.specs.Answer.{pick}
use Rattle.stream_report.specs.Report.{Entry, tallied, has, room, passes, rows}
use Rattle.stream_report.specs.Held.{First, Foremost, grown_table, new_table, fits_row, Sound, Past, KeptTable, Counts}
use Rattle.stream_report.specs.declared.Count.{Count}
use Rattle.stream_report.proofs.TableLaws.{over-is, grown-other, grown-records, grown-bytes, grown-length, grown-rest, new-other, new-leaf, new-length, new-rest, rows-length, tally-grown, has-row, has-none, tally-new, passes-row, passes-tally}

-- a table that a sum has passed 64 bits in stays one
past-on : (r : Count) (leaf n : ℕ) (es : List Entry) (b : Bool) → r.over ≡ true → passes es ≡ true → Past r (pick b (tallied es leaf n) es)
past-on r leaf n es true o h = record { over = o; past = passes-tally es leaf n h }
past-on r leaf n es false o h = record { over = o; past = h }

-- by whether there is room
kept_by : (t₀ t' : List ℕ) (r : Count) (leaf n : ℕ) (es : List Entry) (full b : Bool) → room es leaf ≡ b
    → KeptTable t₀ t' r (pick b (tallied es leaf n) es) (pick b full true) → KeptTable t₀ t' r (pick (room es leaf) (tallied es leaf n) es) (pick (room es leaf) full true)
kept_by t₀ t' r leaf n es full b e k = subst (λ (x : Bool). KeptTable t₀ t' r (pick x (tallied es leaf n) es) (pick x full true)) (sym e) k

module _ (t : List ℕ) (k : Count) (leaf n row : ℕ) (so : Sound t k) (f : First t k.rows leaf row) where
  -- the leaf has a row
  module _ (h : row < k.rows) where
    room_row : room (rows k.rows t 0) leaf ≡ true
    room_row = rw (has-row t leaf n row f.before (f.at h) (omega (arith, so.size, so.few)) k.rows 0 (omega arith) (omega arith))

    tally-row : tallied (rows k.rows t 0) leaf n ≡ rows k.rows (grown_table t row n) 0
    tally-row = tally-grown t leaf n row f.before (f.at h) (omega (arith, so.size, so.few)) k.rows 0 (omega arith) (omega arith)

    foremost-row : Foremost (grown_table t row n) row
    foremost-row = record {
      is = λ j l e.
          f.before j l (sym (grown-other t row n (3 * j) (λ q. omega arith) (λ q. omega arith)) ∙ e ∙ grown-other t row n (3 * row) (λ q. omega arith) (λ q. omega arith) ∙ f.at h);
    }

    grown-on : (t₀ : List ℕ) (es : List Entry) (full : Bool) → KeptTable t₀ t k es full
        → KeptTable t₀ (grown_table t row n) (record { last = row; rows = k.rows; full = k.full; over = k.over }) (pick (room es leaf) (tallied es leaf n) es) (pick (room es leaf) full true)
    grown-on t₀ es full (inl x) =
        kept_by t₀ (grown_table t row n) (record { last = row; rows = k.rows; full = k.full; over = k.over }) leaf n es full true (rw (← x.entries) room_row)
        (inl (record { fine = x.fine; entries = sym tally-row ∙ ap (λ (l : List Entry). tallied l leaf n) x.entries; said = x.said; rest = grown-rest t row n k.rows h ∙ x.rest }))
    grown-on t₀ es full (inr x) = inr (past-on (record { last = row; rows = k.rows; full = k.full; over = k.over }) leaf n es (room es leaf) x.over x.past)

    pub counts-grown : (u : List ℕ) → u ≡ grown_table t row n → Counts t k leaf n (record { last = row; rows = k.rows; full = k.full; over = k.over }) u
    counts-grown u e =
        subst (λ (v : List ℕ). Counts t k leaf n (record { last = row; rows = k.rows; full = k.full; over = k.over }) v) (sym e)
        (record { sound = record { size = grown-length t row n ∙ so.size; few = so.few; foremost = foremost-row }; on = grown-on })

    -- and a sum passes 64 bits
    module _ (o : fits_row t row n ≡ false) where
      past_row : passes (tallied (rows k.rows t 0) leaf n) ≡ true
      past_row =
          let i : 3 * row + 2 < length t = omega (arith, so.size, so.few) in
          rw tally-row (passes-row (grown_table t row n) row
          (⊎_elim (λ a. inl (rw (grown-records t row n i) a)) (λ b. inr (rw (grown-bytes t row n i) b)) (over-is t row n o)) k.rows 0 (omega arith) (omega arith))

      over-on : (t₀ : List ℕ) (es : List Entry) (full : Bool) → KeptTable t₀ t k es full
          → KeptTable t₀ t (record { last = k.last; rows = k.rows; full = k.full; over = true }) (pick (room es leaf) (tallied es leaf n) es) (pick (room es leaf) full true)
      over-on t₀ es full (inl x) =
          kept_by t₀ t (record { last = k.last; rows = k.rows; full = k.full; over = true }) leaf n es full true (rw (← x.entries) room_row)
          (inr (record { over = refl; past = rw (← x.entries) past_row }))
      over-on t₀ es full (inr x) = inr (past-on (record { last = k.last; rows = k.rows; full = k.full; over = true }) leaf n es (room es leaf) refl x.past)

      pub counts-over : (u : List ℕ) → u ≡ t → Counts t k leaf n (record { last = k.last; rows = k.rows; full = k.full; over = true }) u
      counts-over u e =
          subst (λ (v : List ℕ). Counts t k leaf n (record { last = k.last; rows = k.rows; full = k.full; over = true }) v) (sym e)
          (record { sound = record { size = so.size; few = so.few; foremost = so.foremost }; on = over-on })

  -- it has none
  module _ (h : k.rows ≤ row) where
    none_row : (j : ℕ) → j < k.rows → get_or t (3 * j) 0 ≡ leaf → ⊥
    none_row j l = f.before j (omega arith)

    hasnt : has (rows k.rows t 0) leaf ≡ false
    hasnt = has-none t leaf n k.rows none_row k.rows 0 (omega arith)

    -- and there is room
    module _ (w : k.rows < 64) where
      room-new : room (rows k.rows t 0) leaf ≡ true
      room-new = rw (hasnt, rows-length k.rows 0 t, lt-ltb _ _ w)

      foremost-new : Foremost (new_table t k.rows leaf n) k.rows
      foremost-new = record {
        is = λ j l e.
            none_row j l (sym (new-other t k.rows leaf n (3 * j) (omega arith)) ∙ e ∙ new-leaf t k.rows leaf n (omega (arith, so.size)));
      }

      further : (t₀ : List ℕ) → drop (3 * k.rows) t ≡ drop (3 * k.rows) t₀ → drop (3 * (k.rows + 1)) t ≡ drop (3 * (k.rows + 1)) t₀
      further t₀ e =
          let q : 3 * k.rows + 3 ≡ 3 * (k.rows + 1) = omega arith in
          subst (λ (m : ℕ). drop m t ≡ drop m t₀) q (sym (drop-drop 3 (3 * k.rows) t) ∙ ap (drop 3) e ∙ drop-drop 3 (3 * k.rows) t₀)

      new-on : (t₀ : List ℕ) (es : List Entry) (full : Bool) → KeptTable t₀ t k es full
          → KeptTable t₀ (new_table t k.rows leaf n) (record { last = k.rows; rows = k.rows + 1; full = k.full; over = k.over }) (pick (room es leaf) (tallied es leaf n) es) (pick (room es leaf) full true)
      new-on t₀ es full (inl x) =
          kept_by t₀ (new_table t k.rows leaf n) (record { last = k.rows; rows = k.rows + 1; full = k.full; over = k.over }) leaf n es full true (rw (← x.entries) room-new)
          (inl (record {
            fine = x.fine;
            entries = ap (λ (m : ℕ). rows m (new_table t k.rows leaf n) 0) (add-one k.rows)
                ∙ sym (tally-new t leaf n k.rows none_row (omega (arith, so.size)) k.rows 0 (omega arith))
                ∙ ap (λ (l : List Entry). tallied l leaf n) x.entries;
            said = x.said;
            rest = new-rest t k.rows leaf n (k.rows + 1) (omega arith) ∙ further t₀ x.rest;
          }))
      new-on t₀ es full (inr x) = inr (past-on (record { last = k.rows; rows = k.rows + 1; full = k.full; over = k.over }) leaf n es (room es leaf) x.over x.past)

      pub counts-new : (u : List ℕ) → u ≡ new_table t k.rows leaf n → Counts t k leaf n (record { last = k.rows; rows = k.rows + 1; full = k.full; over = k.over }) u
      counts-new u e =
          subst (λ (v : List ℕ). Counts t k leaf n (record { last = k.rows; rows = k.rows + 1; full = k.full; over = k.over }) v) (sym e)
          (record { sound = record { size = new-length t k.rows leaf n ∙ so.size; few = omega arith; foremost = foremost-new }; on = new-on })

    -- and there is none
    module _ (w : 64 ≤ k.rows) where
      room-none : room (rows k.rows t 0) leaf ≡ false
      room-none = rw (hasnt, rows-length k.rows 0 t, le-ltb _ _ w)

      full-on : (t₀ : List ℕ) (es : List Entry) (full : Bool) → KeptTable t₀ t k es full
          → KeptTable t₀ t (record { last = k.last; rows = k.rows; full = true; over = k.over }) (pick (room es leaf) (tallied es leaf n) es) (pick (room es leaf) full true)
      full-on t₀ es full (inl x) =
          kept_by t₀ t (record { last = k.last; rows = k.rows; full = true; over = k.over }) leaf n es full false (rw (← x.entries) room-none)
          (inl (record { fine = x.fine; entries = x.entries; said = refl; rest = x.rest }))
      full-on t₀ es full (inr x) = inr (past-on (record { last = k.last; rows = k.rows; full = true; over = k.over }) leaf n es (room es leaf) x.over x.past)

      pub counts-full : Counts t k leaf n (record { last = k.last; rows = k.rows; full = true; over = k.over }) t
      counts-full = record { sound = record { size = so.size; few = so.few; foremost = so.foremost }; on = full-on }
