-- `field_text::zero_from` meets its contract. The loop's invariant: what lies before `i` is passed. Assumes nothing.
use Rattle.std.proofs.Common.{sym, ap, ◌∙◌, arith}
use Rattle.field.proofs.FieldLaws.{There, field-got}
use Rattle.field_text.proofs.ZeroLaws.{Marks, passed_then, word-marks}
use Rattle.field_text.proofs.zero_from.Goals as goal
use Rattle.field_text.proofs.zero_from.Goals.{After-marks-m}
use Rattle.answer.specs.Refusals.{itself, said_read}

-- the word that was read, and what its marks say
abbrev Word : After-marks-m → Type 0
Word c =
    let s = c.args.s.now in
    let i = c.loop-i.i in
    There 8 s i c.in-Ok.x c.in-Ok.field-0-1 × Marks s i 8 c.marks-m.result

word : (c : After-marks-m) → Word c
word c =
    let t = field-got 8 _ _ _ _ (sym c.u64_at.ensures ∙ ap (said_read itself) c.in-Ok.is) in
    (t, word-marks _ _ _ _ (λ i. omega (arith, c.shared_slice_known-1.given i)) t.room t.value c.marks-m.ensures)

pub returns-then-m-ne0 : goal.returns-then-m-ne0
returns-then-m-ne0 c =
    let f = (word (goal.at.returns-then-m-ne0 c).After-marks-m).1.first c.if-m-ne0.true in
    record { passed = passed_then _ _ _ c.loop-i.invariant f.passed; there = λ h. f.there }

pub loop-i-preserved : goal.loop-i-preserved
loop-i-preserved c = passed_then _ _ _ c.loop-i.invariant ((word (goal.at.loop-i-preserved c).After-marks-m).1.none c.if-m-ne0.false)
