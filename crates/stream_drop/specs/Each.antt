-- What is done at each type reference of a payload, for the three jobs of R-13. What a job changes is held together: the lent table, the lent
-- buffer, and whether no reference so far would read as none.
use Rattle.std.specs.Prelude.{ℕ, zero, suc, ◌+◌, ◌-◌, Bool, false, List, [], ◌∷◌, length, get_or, set, leb, ltb, eqb}
use Rattle.answer.specs.Answer.{Answer, answered, refused, pick, both}
use Rattle.field.specs.Bytes.{bytes}
use Rattle.field_put.specs.Bytes.{put}
use Rattle.record_layout.specs.Fields.{Shown}
use Rattle.record_layout.specs.Layouts.{type_leaves, record_of}
use Rattle.record_list.specs.declared.ListCursor.{ListCursor}
use Rattle.record_list.specs.Lists.{Step, start_types, step_of}
use Rattle.record_reference.specs.References.{Ref, refs_at}
use Rattle.record_reference.specs.Values.{refs_by}
use Rattle.stream_drop.specs.declared.each.Job.{Job}
use Rattle.stream_drop.specs.declared.each.Job.TheVariants as job

pub record Held : Type 0 where
  pub good : Bool
  pub table : List ℕ
  pub out : List ℕ

abbrev pub held_of : Bool → List ℕ → List ℕ → Held
held_of g t b = record { good = g; table = t; out = b }

-- the mark of record d, 65,536 above the length that its entry holds
abbrev pub raised : List ℕ → ℕ → List ℕ
raised t d = pick (ltb (get_or t d 0) 65536) (set t d (get_or t d 0 + 65536)) t

-- bytes at a place of a buffer; nothing where they do not fit
unfoldable pub laid : List ℕ → ℕ → List ℕ → List ℕ
laid b p bs = pick (leb (p + length bs) (length b)) (put b p bs) b

-- would a number read as none?
abbrev pub reads_as_none : Bool → ℕ → Bool
reads_as_none optional n = both optional (eqb n 0xffff)

-- at a reference to record d
abbrev pub done_at : Job → Ref → ℕ → Held → Held
done_at job.Mark r d x = held_of x.good (raised x.table d) x.out
done_at job.Ask r d x = held_of (pick (reads_as_none r.optional (get_or x.table d 0)) false x.good) x.table x.out
done_at (job.Write at) r d x = held_of x.good x.table (laid x.out (at + r.place) (bytes 4 (get_or x.table d 0)))

-- what is below the minimum names no record
unfoldable pub done : ℕ → Job → Ref → Held → Held
done minimum j r x = pick (ltb r.index minimum) x (done_at j r (r.index - minimum) x)

unfoldable pub done_all : ℕ → Job → List Ref → Held → Held
done_all minimum j [] x = x
done_all minimum j (r ∷ rs) x = done_all minimum j rs (done minimum j r x)

-- at those of the elements from the cursor on, at most n of them
abbrev pub if_step : Answer Step → Held → (Step → Held) → Held
if_step (answered y) x f = f y
if_step (refused n d) x f = x

unfoldable pub done_from : ℕ → Job → ℕ → List ℕ → ListCursor → Held → Held
done_from minimum j zero s c x = x
done_from minimum j (suc n) s c x = if_step (step_of s c) x (λ y. done_from minimum j n s y.next (done_all minimum j (refs_at s c) x))

-- at those of a payload
abbrev pub if_read : Answer (List Shown) → Held → (List Shown → Held) → Held
if_read (answered vs) x f = f vs
if_read (refused n d) x f = x

abbrev pub if_list : Answer ListCursor → Held → (ListCursor → Held) → Held
if_list (answered c) x f = f c
if_list (refused n d) x f = x

unfoldable pub done_of : ℕ → Job → List ℕ → Held → Held
done_of minimum j s x =
    if_read (record_of type_leaves s) x (λ vs.
    if_list (start_types s) (done_all minimum j (refs_by type_leaves vs 2) x) (λ c.
    done_from minimum j (length s) s c (done_all minimum j (refs_by type_leaves vs 2) x)))
