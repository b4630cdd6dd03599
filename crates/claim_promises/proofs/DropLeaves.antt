-- After 30 and 19 the table of `drop` holds old to new: its entries are those of R-13's sentences, which have one outcome for an input. Assumes nothing.
use Rattle.std.specs.Prelude.{Result}
use Rattle.answer.specs.declared.Refusal.{Refusal}
use Prim.Native.Nat.{ℕ, suc, ◌≤◌, ◌<◌}
use native.Mathlib.Omega.{arith}
use mathlib.Core.Bool.{Bool, true, false, false≢true}
use mathlib.Core.Path.{◌≡◌, refl, sym, subst, ◌∙◌}
use mathlib.Core.Logic.{◌⊎◌, inl, inr}
use mathlib.Core.List.{List, [], ◌∷◌}
use lib.ListN.{length}
use lib.Dec.{leb, ltb, eqb}
use borrow.Author.Tests.{eq-eqb, eqb-true, ltb-true, ltb-false, leb-true, leb-false}
use Rattle.answer.specs.Answer.{answered, refused}
use Rattle.answer.specs.Tables.{among}
use Rattle.field.specs.declared.index.Stream.TheVariants as stream
use Rattle.field_put.specs.Bytes.{Octets}
use Rattle.stream_header.specs.Header.{header_of}
use Rattle.stream_header.specs.declared.Header.{Header}
use Rattle.stream_item.specs.Iterator.{iter_of}
use Rattle.stream_item.specs.declared.iter.ItemIter.{ItemIter}
use Rattle.stream_fit.specs.Fit.{Verdict, fit, unfit, judged, fit_of}
use Rattle.stream_prune.specs.Links.{ComesPast}
use Rattle.stream_prune.specs.Dropped.{IsIn}
use Rattle.stream_drop.specs.Drop.{stays, numbers_only, written, drop_of, Drops}
use Rattle.stream_drop.specs.Sentences.{OldToNew, ReadsAsNone, FirstAbove, here, later, When}
use Rattle.stream_drop.proofs.SentenceLaws.{sentences}
use Rattle.claim_promises.specs.Demand1.{HoldsOldToNew}
use Rattle.claim_promises.proofs.DropRefuses.{drops-numbers}
use Rattle.answer.specs.Refusals.{itself, said}

-- ---- outcomes of different kinds differ

stays-numbers : {X : Type 0} (n m : ℕ) (d entries : List ℕ) → stays n d ≡ numbers_only m entries → X
stays-numbers n m d entries e = let z : ◌≡◌ {A = ℕ} 0 1 = cc in absurd (omega arith)

written-numbers : {X : Type 0} (m : ℕ) (entries es new : List ℕ) → written es new ≡ numbers_only m entries → X
written-numbers m entries es new e = let z : ◌≡◌ {A = ℕ} 0 1 = cc in absurd (omega arith)

same_entries : (n m : ℕ) (xs ys : List ℕ) → numbers_only n xs ≡ numbers_only m ys → xs ≡ ys
same_entries n m xs ys e = cc

-- ---- lists that do not differ are the same

same_first : (x y : ℕ) (xs ys : List ℕ) → (x ∷ xs) ≡ (y ∷ ys) → x ≡ y
same_first x y xs ys e = cc

same_or_not : (xs ys : List ℕ) → (xs ≡ ys) ⊎ (xs ≡ ys → ⊥)
same_or_not [] [] = inl refl
same_or_not [] (y ∷ ys) = inr (λ e. let z : ◌≡◌ {A = ℕ} 0 1 = cc in omega arith)
same_or_not (x ∷ xs) [] = inr (λ e. let z : ◌≡◌ {A = ℕ} 0 1 = cc in omega arith)
same_or_not (x ∷ xs) (y ∷ ys) = go (eqb x y) refl (same_or_not xs ys)
  where
    go : (b : Bool) → eqb x y ≡ b → (xs ≡ ys) ⊎ (xs ≡ ys → ⊥) → ((x ∷ xs) ≡ (y ∷ ys)) ⊎ ((x ∷ xs) ≡ (y ∷ ys) → ⊥)
    go true e (inl h) = inl (rw (eqb-true x y e, h))
    go true e (inr h) = inr (λ k. h cc)
    go false e h = inr (λ k. false≢true (sym e ∙ eq-eqb x y (same_first x y xs ys k)))

-- ---- what the outcome says of its input

below_all : (maximum : ℕ) (roots : List ℕ) → ((x : ℕ) → FirstAbove maximum roots x → ⊥) → (x : ℕ) → IsIn x roots → x < maximum
below_all maximum [] never x i = absurd i
below_all maximum (y ∷ ys) never x i = go (leb maximum y) refl (λ l. below_all maximum ys (λ z a. never z (later l a)) x) i
  where
    go : (b : Bool) → leb maximum y ≡ b → (y < maximum → IsIn x ys → x < maximum) → IsIn x (y ∷ ys) → x < maximum
    go true e rest j = absurd (never y (here (leb-true maximum y e)))
    go false e rest (inl q) = rw q (leb-false maximum y e)
    go false e rest (inr j) = rest (leb-false maximum y e) j

fit-answered : (s : List ℕ) (h : Header) (c : ItemIter) → header_of s ≡ answered h → iter_of stream.Types s ≡ answered c
    → fit_of s ≡ answered (judged (suc (length s)) s h.minimum_index h.maximum_index c)
unfolding fit_of
fit-answered s h c e i = rw (e, i)

module _ (s roots : List ℕ) (places room n : ℕ) (entries : List ℕ) (o : drop_of s roots places room ≡ numbers_only n entries) where
  is-fit : (h : Header) (c : ItemIter) → header_of s ≡ answered h → iter_of stream.Types s ≡ answered c → fit_of s ≡ answered fit
  is-fit h c e i = go (judged (suc (length s)) s h.minimum_index h.maximum_index c) (fit-answered s h c e i)
    where
      go : (v : Verdict) → fit_of s ≡ answered v → fit_of s ≡ answered fit
      go fit f = f
      go (unfit k rule) f = stays-numbers 29 n [] entries (sym (sentences.unfit_is_29 s roots places room k rule f) ∙ o)

  module _ (h : Header) (c : ItemIter) (ps : List (List ℕ)) (w : When s roots h c ps) where
    inside : (x : ℕ) → IsIn x roots → x < h.maximum_index
    inside = below_all h.maximum_index roots (λ x a. stays-numbers 8 n (x ∷ []) entries (sym (w.root x places room a) ∙ o))

    enough : length ps ≤ places
    enough = go (ltb places (length ps)) refl
      where
        go : (b : Bool) → ltb places (length ps) ≡ b → length ps ≤ places
        go true e = stays-numbers 13 n [] entries (sym (w.places places room inside (ltb-true places (length ps) e)) ∙ o)
        go false e = ltb-false places (length ps) e

    same : w.entries ≡ entries
    same = go (same_or_not w.entries entries)
      where
        other : (w.entries ≡ entries → ⊥) → ⊥
        other differ = by (ltb room (length w.new)) refl
          where
            never : ReadsAsNone h.minimum_index w.entries ps → ⊥
            never x = differ (same_entries 30 n w.entries entries (sym (w.none places room inside enough x) ∙ o))

            by : (b : Bool) → ltb room (length w.new) ≡ b → ⊥
            by true e = differ (same_entries 19 n w.entries entries (sym (w.room places room inside enough never (ltb-true room (length w.new) e)) ∙ o))
            by false e = written-numbers n entries w.entries w.new (sym (w.answers places room inside enough never (ltb-false room (length w.new) e)) ∙ o)

        go : (w.entries ≡ entries) ⊎ (w.entries ≡ entries → ⊥) → w.entries ≡ entries
        go (inl e) = e
        go (inr differ) = absurd (other differ)

    old-to-new : OldToNew roots h ps entries
    old-to-new = subst (OldToNew roots h ps) same (w.old_to_new inside)

  holds : (h : Header) (c : ItemIter) (ps : List (List ℕ)) → Octets s → header_of s ≡ answered h → iter_of stream.Types s ≡ answered c → ComesPast s c ps → OldToNew roots h ps entries
  holds h c ps b e i w = old-to-new h c ps (sentences.when s roots h c ps b e i (is-fit h c e i) w)

pub drop-leaves : (s roots t b : List ℕ) (r : Result ℕ Refusal) (t' b' : List ℕ) (n : ℕ) (d : List ℕ)
    → Drops t b (drop_of s roots (length t) (length b)) r t' b' → said itself r ≡ refused n d → among n (30 ∷ 19 ∷ []) ≡ true → HoldsOldToNew s roots t t'
drop-leaves s roots t b r t' b' n d l e k =
    let x = drops-numbers s roots t b r t' b' n d l e k in
    record { entries = x.entries; table = x.table; old_to_new = holds s roots (length t) (length b) x.number x.entries x.outcome }
