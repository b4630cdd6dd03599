-- R-13's definition, outcome by outcome: what each one asks, and what an answer tells of it; the empty stream. Assumes nothing.
use Rattle.std.specs.Prelude.{Option, None, Some}
use Prim.Native.Nat.{ℕ, suc, ◌≤◌, ◌<◌}
use native.Mathlib.Omega.{arith}
use mathlib.Core.Bool.{Bool, true, false}
use mathlib.Core.Path.{◌≡◌, refl, ap, ◌∙◌}
use mathlib.Core.Logic.{inl, inr}
use mathlib.Core.List.{List, [], ◌∷◌}
use lib.ListN.{length}
use lib.Dec.{ltb}
use borrow.Author.Tests.{lt-ltb, le-ltb, le-leb, lt-leb}
use Rattle.answer.specs.Answer.{Answer, answered, refused, pick}
use Rattle.field.specs.declared.index.Stream.TheVariants as stream
use Rattle.stream_header.specs.Header.{zero_header, header_of}
use Rattle.stream_header.specs.declared.Header.{Header}
use Rattle.stream_item.specs.Iterator.{iter_of, next_of}
use Rattle.stream_item.specs.declared.iter.ItemIter.{ItemIter}
use Rattle.stream_item.proofs.NextLaws.{iter-is}
use Rattle.stream_fit.specs.Fit.{Verdict, fit, unfit, judged, fit_of}
use Rattle.stream_fit.proofs.SentenceLaws.{sentences}
use Rattle.stream_prune.specs.Links.{ComesPast, payloads_from}
use Rattle.stream_prune.specs.Pruned.{numbers, new_stream}
use Rattle.stream_prune.specs.Dropped.{IsIn, mark_all, pass, marks, roots_from, marks_of}
use Rattle.stream_prune.proofs.LinkLaws.{walked_one}
use Rattle.stream_prune.proofs.Walks.{fit-payloads}
use Rattle.stream_prune.proofs.NewStream.{pruning}
use Rattle.stream_drop.specs.Drop.{Outcome, stays, numbers_only, written, unless, unless_above, unless_unfit, first_above, some_read_as_none, dropped_of, drop_of}
use Rattle.stream_drop.specs.Sentences.{FirstAbove, here, later}

-- Roots -----------------------------------------------------------------------------------------------------------------------------------------

pub first-is : (maximum : ℕ) (roots : List ℕ) (x : ℕ) → FirstAbove maximum roots x → first_above maximum roots ≡ Some x
unfolding first_above
first-is maximum roots x (here l) = rw (le-leb _ _ l)
first-is maximum roots x (later {xs = xs} l f) = rw (lt-leb _ _ l) (first-is maximum xs x f)

pub none_above : (maximum : ℕ) (roots : List ℕ) → ((x : ℕ) → IsIn x roots → x < maximum) → first_above maximum roots ≡ None
unfolding first_above
none_above maximum [] h = refl
none_above maximum (x ∷ xs) h = rw (lt-leb _ _ (h x (inl refl))) (none_above maximum xs (λ y i. h y (inr i)))

-- Of a fit stream ---------------------------------------------------------------------------------------------------------------------------------

pub drop-fit : (s : List ℕ) (h : Header) (c : ItemIter) (ps : List (List ℕ)) → header_of s ≡ answered h → iter_of stream.Types s ≡ answered c → fit_of s ≡ answered fit → ComesPast s c ps
    → (roots : List ℕ) (places room : ℕ) → drop_of s roots places room ≡ dropped_of s h ps roots places room
unfolding drop_of
drop-fit s h c ps e i f w roots places room =
    rw (e, i, f) (ap (λ x. dropped_of s h x roots places room) (walked_one s c (payloads_from (suc (length s)) s c) ps (fit-payloads s h c e i f) w))

module _ (s : List ℕ) (h : Header) (ps : List (List ℕ)) (roots : List ℕ) (places room : ℕ) where
  pub root-above : (x : ℕ) → first_above h.maximum_index roots ≡ Some x → dropped_of s h ps roots places room ≡ stays 8 (x ∷ [])
  unfolding dropped_of
  root-above x e = rw e

  module _ (below : first_above h.maximum_index roots ≡ None) where
    pub few-places : places < length ps → dropped_of s h ps roots places room ≡ stays 13 []
    unfolding dropped_of
    few-places l = rw (below, lt-ltb _ _ l)

    module _ (enough : length ps ≤ places) where
      pub reads_none : some_read_as_none h.minimum_index (marks_of h.minimum_index ps roots) 0 ps ≡ true
          → dropped_of s h ps roots places room ≡ numbers_only 30 (numbers h.minimum_index (marks_of h.minimum_index ps roots))
      unfolding dropped_of
      reads_none e = rw (below, le-ltb _ _ enough, e)

      module _ (reads : some_read_as_none h.minimum_index (marks_of h.minimum_index ps roots) 0 ps ≡ false) where
        pub no_room : room < length (new_stream s h (marks_of h.minimum_index ps roots) ps)
            → dropped_of s h ps roots places room ≡ numbers_only 19 (numbers h.minimum_index (marks_of h.minimum_index ps roots))
        unfolding dropped_of
        no_room l = rw (below, le-ltb _ _ enough, reads, lt-ltb _ _ l)

        pub writes : length (new_stream s h (marks_of h.minimum_index ps roots) ps) ≤ room
            → dropped_of s h ps roots places room
            ≡ written (numbers h.minimum_index (marks_of h.minimum_index ps roots)) (new_stream s h (marks_of h.minimum_index ps roots) ps)
        unfolding dropped_of
        writes l = rw (below, le-ltb _ _ enough, reads, le-ltb _ _ l)

-- What an answer tells ----------------------------------------------------------------------------------------------------------------------------

-- it was refused by nothing
record Passed (above : Option ℕ) (few reads full : Bool) (es bs entries new : List ℕ) : Type 0 where
  below : above ≡ None
  enough : few ≡ false
  some : reads ≡ false
  room : full ≡ false
  table : es ≡ entries
  stream : bs ≡ new

passed : (above : Option ℕ) (few reads full : Bool) (es bs entries new : List ℕ)
    → unless_above above (pick few (stays 13 []) (pick reads (numbers_only 30 es) (pick full (numbers_only 19 es) (written es bs)))) ≡ written entries new
    → Passed above few reads full es bs entries new
passed (Some x) few reads full es bs entries new e = let z : ◌≡◌ {A = ℕ} 0 1 = cc in absurd (omega arith)
passed None true reads full es bs entries new e = let z : ◌≡◌ {A = ℕ} 0 1 = cc in absurd (omega arith)
passed None false true full es bs entries new e = let z : ◌≡◌ {A = ℕ} 0 1 = cc in absurd (omega arith)
passed None false false true es bs entries new e = let z : ◌≡◌ {A = ℕ} 0 1 = cc in absurd (omega arith)
passed None false false false es bs entries new e = record { below = refl; enough = refl; some = refl; room = refl; table = cc; stream = cc }

pub record Wrote (s : List ℕ) (h : Header) (ps : List (List ℕ)) (roots entries new : List ℕ) : Type 0 where
  pub below : first_above h.maximum_index roots ≡ None
  pub reads : some_read_as_none h.minimum_index (marks_of h.minimum_index ps roots) 0 ps ≡ false
  pub table : numbers h.minimum_index (marks_of h.minimum_index ps roots) ≡ entries
  pub stream : new_stream s h (marks_of h.minimum_index ps roots) ps ≡ new

pub wrote : (s : List ℕ) (h : Header) (ps : List (List ℕ)) (roots : List ℕ) (places room : ℕ) (entries new : List ℕ) → dropped_of s h ps roots places room ≡ written entries new
    → Wrote s h ps roots entries new
unfolding dropped_of
wrote s h ps roots places room entries new e =
    let t = marks_of h.minimum_index ps roots in
    let bs = new_stream s h t ps in
    let k =
    passed (first_above h.maximum_index roots) (ltb places (length ps)) (some_read_as_none h.minimum_index t 0 ps) (ltb room (length bs)) (numbers h.minimum_index t) bs entries new e in
    record { below = k.below; reads = k.some; table = k.table; stream = k.stream }

pub was-fit : (s : List ℕ) (h : Header) (c : ItemIter) → header_of s ≡ answered h → iter_of stream.Types s ≡ answered c
    → (roots : List ℕ) (places room : ℕ) (entries new : List ℕ) → drop_of s roots places room ≡ written entries new → fit_of s ≡ answered fit
unfolding drop_of
was-fit s h c e i roots places room entries new f = go (fit_of s) (dropped_of s h (payloads_from (suc (length s)) s c) roots places room) (rw (e, i) at f)
  where
    go : (a : Answer Verdict) (o : Outcome) → unless a (λ v. unless_unfit v o) ≡ written entries new → a ≡ answered fit
    go (answered fit) o e = refl
    go (answered (unfit i rule)) o e = let z : ◌≡◌ {A = ℕ} 0 1 = cc in absurd (omega arith)
    go (refused n d) o e = let z : ◌≡◌ {A = ℕ} 0 1 = cc in absurd (omega arith)

-- Refusals before that ----------------------------------------------------------------------------------------------------------------------------

pub header_refused : (s roots : List ℕ) (places room n : ℕ) (d : List ℕ) → header_of s ≡ refused n d → drop_of s roots places room ≡ stays n d
unfolding drop_of
header_refused s roots places room n d e = rw e

pub not-fit : (s roots : List ℕ) (places room i rule : ℕ) → fit_of s ≡ answered (unfit i rule) → drop_of s roots places room ≡ stays 29 []
unfolding drop_of
not-fit s roots places room i rule f = go (header_of s) refl
  where
    go : (a : Answer Header) → header_of s ≡ a → drop_of s roots places room ≡ stays 29 []
    go (refused n d) e = let y = sentences.refuses s n d e in let z : ◌≡◌ {A = ℕ} 0 1 = cc in absurd (omega arith)
    go (answered h) e = rw (e, iter-is stream.Types s h e, f)

-- The empty stream ----------------------------------------------------------------------------------------------------------------------------------

pub empty-header : (h : Header) → header_of [] ≡ answered h → zero_header ≡ h
unfolding header_of
empty-header h e = cc

drop-empty : (roots : List ℕ) (places room : ℕ) → drop_of [] roots places room ≡ dropped_of [] zero_header [] roots places room
unfolding drop_of header_of iter_of next_of fit_of judged payloads_from
drop-empty roots places room = refl

pub nothing_written : (places room : ℕ) → drop_of [] [] places room ≡ written [] []
unfolding dropped_of first_above marks_of marks pass mark_all roots_from numbers some_read_as_none
nothing_written places room =
    let m : 0 ≤ places = omega arith in
    let n : 0 ≤ room = omega arith in
    drop-empty [] places room ∙ rw (le-ltb places 0 m, pruning.empty_stream [], le-ltb room 0 n)

pub nothing-there : (x : ℕ) (xs : List ℕ) (places room : ℕ) → drop_of [] (x ∷ xs) places room ≡ stays 8 (x ∷ [])
nothing-there x xs places room = drop-empty (x ∷ xs) places room ∙ root-above [] zero_header [] (x ∷ xs) places room x (first-is 0 (x ∷ xs) x (here (omega arith)))
