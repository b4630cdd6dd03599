-- R-9 of document 02: "Is this database fit to bind?" The verdict on a stream, as one walk by `next`.
use Rattle.stream_fit.specs.declared.Fitness.TheVariants as fitness
use Rattle.stream_fit.specs.declared.Rule.{Rule}
use Rattle.stream_fit.specs.declared.Rule.TheVariants as rule
use Rattle.std.specs.Prelude.{Result, Option, None, Some, ℕ, zero, suc, Bool, true, false, List, [], ◌∷◌, length, leb, ltb, eqb}
use Rattle.stream_fit.specs.declared.Fitness.{Fitness}
use Rattle.answer.specs.declared.Refusal.{Refusal}
use Rattle.answer.specs.Answer.{Answer, answered, refused, pick, both, then}
use Rattle.answer.specs.Refusals.{said}
use Rattle.field.specs.Runs.{bytes_at}
use Rattle.field.specs.declared.index.Stream.TheVariants as stream
use Rattle.word_primitive.specs.Primitive.{primitive_of}
use Rattle.stream_header.specs.Header.{header_of}
use Rattle.stream_item.specs.Iterator.{iter_of, Next, done, yielded, next_of}
use Rattle.stream_item.specs.declared.Item.{Item}
use Rattle.stream_item.specs.declared.iter.ItemIter.{ItemIter}
use Rattle.record_layout.specs.Layouts.{is_answered}
use Rattle.record_reference.specs.References.{Ref, refs_of}

-- yes; or no, with the record and the rule: 1 count, 2 decode, 3 order, 4 primitive, 5 gap
pub data Verdict : Type 0 where
  fit : Verdict
  unfit : ℕ → ℕ → Verdict

-- One record -------------------------------------------------------------------------------------------------------------------------

-- the faults of a reference to n in the record of this index
abbrev pub disorderly : ℕ → ℕ → ℕ → Bool
disorderly minimum index n = both (leb minimum n) (leb index n)

abbrev pub bad_primitive : ℕ → Bool
bad_primitive n = both (ltb n 0x1000) (pick (is_answered (primitive_of n)) false true)

abbrev pub in_gap : ℕ → ℕ → Bool
in_gap minimum n = both (leb 0x1000 n) (ltb n minimum)

-- has one of them this fault?
unfoldable pub some_ref : (ℕ → Bool) → List Ref → Bool
some_ref fault [] = false
some_ref fault (r ∷ rs) = pick (fault r.index) true (some_ref fault rs)

-- the first rule that the record of this index breaks: that of decoding covers the whole record, so that it is before the others
abbrev pub rule_in : ℕ → ℕ → Answer (List Ref) → Option ℕ
rule_in minimum index (refused n d) = Some 2
rule_in minimum index (answered rs) =
    pick (some_ref (disorderly minimum index) rs) (Some 3)
    (pick (some_ref bad_primitive rs) (Some 4)
    (pick (some_ref (in_gap minimum) rs) (Some 5)
    None))

unfoldable pub rule_of : ℕ → ℕ → List ℕ → Option ℕ
rule_of minimum index payload = rule_in minimum index (refs_of payload)

-- The stream --------------------------------------------------------------------------------------------------------------------------

abbrev pub payload_of : List ℕ → Item → List ℕ
payload_of s i = bytes_at i.length s i.place

abbrev pub unless_fault : Option ℕ → ℕ → Verdict → Verdict
unless_fault None index v = v
unless_fault (Some r) index v = unfit index r

-- of the step at the cursor: a refusal is the fault of the record it stopped at; the count comes last and names record 0. Indices go up by one
-- from the minimum, so the count is right exactly if the walk ends at the maximum
abbrev pub judged_by : List ℕ → ℕ → ℕ → ItemIter → (ItemIter → Verdict) → Answer Next → Verdict
judged_by s minimum maximum c rest (refused n d) = unfit c.index 2
judged_by s minimum maximum c rest (answered done) = pick (eqb c.index maximum) fit (unfit 0 1)
judged_by s minimum maximum c rest (answered (yielded i d)) = unless_fault (rule_of minimum c.index (payload_of s i)) c.index (rest d)

-- of the records from the cursor on, at most n steps
unfoldable pub judged : ℕ → List ℕ → ℕ → ℕ → ItemIter → Verdict
judged zero s minimum maximum c = unfit 0 1
judged (suc n) s minimum maximum c = judged_by s minimum maximum c (λ d. judged n s minimum maximum d) (next_of s c)

-- refused as the header is, 16 first; each record takes a byte or more, so that the steps are enough
unfoldable pub fit_of : List ℕ → Answer Verdict
fit_of s =
    then (header_of s) (λ h.
    then (iter_of stream.Types s) (λ c.
    answered (judged (suc (length s)) s h.minimum_index h.maximum_index c)))

-- what the answer says
abbrev pub rule_number : Rule → ℕ
rule_number rule.Count = 1
rule_number rule.Decode = 2
rule_number rule.Order = 3
rule_number rule.Primitive = 4
rule_number rule.Gap = 5

abbrev pub verdict_of : Fitness → Verdict
verdict_of fitness.Fit = fit
verdict_of (fitness.Unfit i r) = unfit i (rule_number r)

abbrev pub said_fit : Result Fitness Refusal → Answer Verdict
said_fit = said verdict_of
