-- What each answer of this crate says fixes the answer. Assumes nothing.
use Prim.Native.Nat.{ℕ}
use mathlib.Core.List.{List}
use mathlib.Core.Path.{◌≡◌, refl, sym, ◌∙◌}
use Rattle.std.specs.Prelude.{Result}
use Rattle.answer.specs.declared.Refusal.{Refusal}
use Rattle.answer.specs.Answer.{Answer}
use Rattle.answer.specs.Refusals.{itself, said}
use Rattle.answer.proofs.OneOutcome.{one_said, one_answer}
use Rattle.field_text.specs.Texts.{Part}
use Rattle.stream_view.specs.Views.{viewed, said_view}
use Rattle.stream_view.specs.declared.EntryView.{EntryView}

pub one-view : (r q : Result (ℕ × ℕ) Refusal) → said_view r ≡ said_view q → r ≡ q
one-view = one_said viewed (λ a. (a.place, a.length)) (λ x. refl)

-- `view` gives one view: its bytes are these, wherever they lie, and its answer says this
pub one-entry-view : {a : Answer Part} {bytes : List ℕ} (r q : EntryView) → (said_view r.answer ≡ a) × (r.bytes.now ≡ bytes) → (said_view q.answer ≡ a) × (q.bytes.now ≡ bytes) → (r.bytes.now ≡ q.bytes.now) × (r.answer ≡ q.answer)
one-entry-view r q x y = (x.1 ∙ sym y.1, one-view r.answer q.answer (x.0 ∙ sym y.0))

pub one-kind : (r q : Result ℕ Refusal) → said itself r ≡ said itself q → r ≡ q
one-kind = one_answer
