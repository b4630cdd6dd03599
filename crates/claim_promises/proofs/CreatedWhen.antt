-- The creation of a finder, by its laws. Assumes nothing.
use Prim.Native.Nat.{ℕ, ◌≤◌, ◌<◌}
use native.Mathlib.Omega.{arith}
use mathlib.Core.Bool.{true}
use mathlib.Core.Path.{◌≡◌, refl, ◌∙◌}
use mathlib.Core.List.{List, [], ◌∷◌}
use lib.ListN.{length}
use lib.Dec.{leb, ltb, eqb}
use borrow.Author.Tests.{ltb-true, ltb-false, leb-true}
use Rattle.answer.specs.Tables.{among}
use Rattle.answer.specs.Answer.{answered, refused}
use Rattle.stream_header.specs.Header.{header_of}
use Rattle.stream_header.specs.declared.Header.{Header}
use Rattle.stream_finder.specs.Finder.{header_records, begun_in, create_by}
use Rattle.stream_finder.specs.declared.Records.{Records}
use Rattle.stream_finder.proofs.FinderLaws.{begun-in-shift, begun-in-none, begun-in-full, begun-in-some, begun-is, create-is}
use Rattle.claim_promises.specs.ByTable.{Refuses}
use Rattle.claim_promises.specs.Given.{by, Given, RefusedAs}
use Rattle.claim_promises.specs.CreatedWhen.{CreatedWhen}
use Rattle.claim_promises.proofs.Given.{off, at-stop, at-pick, apart, as_first}
use Rattle.claim_promises.proofs.StreamRefuses.{begun-in-refuses}

module _ (shift : ℕ) (t : List ℕ) (r : Records) where
  ways : {P : Type 0} (n : ℕ) → (6 < shift → eqb 26 n ≡ true → P) → (shift ≤ 6 → r.minimum < r.maximum → length t ≤ 0 → eqb 13 n ≡ true → P)
      → by n (begun_in shift t r) ≡ true → P
  ways n large full =
      at-stop n (ltb 6 shift) 26 _ (λ a. large (ltb-true _ _ a)) (λ a.
      at-pick n (ltb r.minimum r.maximum) _ _ (λ b.
      at-stop n (leb (length t) 0) 13 _ (λ c. full (ltb-false _ _ a) (ltb-true _ _ b) (leb-true _ _ c)) (λ _. off)) (λ _. off))

  pub begins-26 : Given 26 [] (begun_in shift t r) (6 < shift)
  begins-26 = record { when = begun-in-shift shift t r; only = ways 26 (λ a _. a) (λ _ _ _. off) }

  pub begins-13 : Given 13 [] (begun_in shift t r) ((shift ≤ 6) × (r.minimum < r.maximum) × (length t ≡ 0))
  begins-13 = record {
    when = λ (a, b, c). begun-in-full shift t r a b (let w : length t ≤ 0 = omega arith in w);
    only = ways 13 (λ _. off) (λ a b c _. let w : length t ≡ 0 = omega arith in (a, b, w));
  }

creations : (shift : ℕ) (s t : List ℕ) (h : Header) → header_of s ≡ answered h → create_by shift s t ≡ begun_in shift t (header_records h)
creations shift s t h e = create-is shift s t (answered h) e ∙ begun-is shift t h

creations-else : (shift : ℕ) (s t : List ℕ) (h : Header) → header_of s ≡ answered h → Refuses (26 ∷ 13 ∷ []) (create_by shift s t)
creations-else shift s t h e = rw (creations shift s t h e) (begun-in-refuses shift t (header_records h))

creations-own : (shift : ℕ) (s t : List ℕ) → RefusedAs (16 ∷ 1 ∷ 2 ∷ 3 ∷ 4 ∷ 5 ∷ []) (create_by shift s t) (header_of s)
unfolding apart among
creations-own shift s t =
    as_first (16 ∷ 1 ∷ 2 ∷ 3 ∷ 4 ∷ 5 ∷ []) (26 ∷ 13 ∷ []) (create_by shift s t) (header_of s) refl (λ n d e. create-is shift s t (refused n d) e) (creations-else shift s t)

pub created-when : CreatedWhen
created-when = record {
  creations_own = creations-own;
  begins_26 = begins-26;
  begins_13 = begins-13;
  begins_else = begun-in-refuses;
  begins_some = begun-in-some;
  begins_none = begun-in-none;
  creations = creations;
  creations_else = creations-else;
}
