-- The payloads of a fit stream, by their definition: the walk comes past exactly these, they are as many as the header says, and each is good by
-- its index. Assumes nothing.
use Prim.Native.Nat.{ℕ, zero, suc, ◌+◌, ◌-◌, ◌<◌}
use native.Mathlib.Omega.{arith}
use mathlib.Core.Path.{◌≡◌, refl}
use mathlib.Core.List.{List}
use lib.ListN.{length}
use Rattle.answer.specs.Answer.{Answer, answered, refused}
use Rattle.field.specs.declared.index.Stream.TheVariants as stream
use Rattle.stream_header.specs.Header.{header_of}
use Rattle.stream_header.specs.declared.Header.{Header}
use Rattle.stream_item.specs.Iterator.{iter_of, Next, done, yielded, next_of}
use Rattle.stream_item.specs.declared.iter.ItemIter.{ItemIter}
use Rattle.stream_fit.specs.Fit.{fit, fit_of}
use Rattle.stream_fit.specs.Sentences.{Visits, stays, Fit}
use Rattle.stream_fit.proofs.SentenceLaws.{first-index, sentences}
use Rattle.stream_prune.specs.Links.{ComesPast, ends, past, payloads_by, payloads_from, AllGood}
use Rattle.stream_prune.proofs.LinkLaws.{record-onward, visits-more, walked-good, walked-count}

-- enough steps, from any cursor that the walk of a fit stream comes to
payloads-walked : (s : List ℕ) (h : Header) (c : ItemIter) → Fit s h c → (n k : ℕ) (d : ItemIter) → 0 < n → length s < d.at + n → Visits s c k d → ComesPast s d (payloads_from n s d)
unfolding payloads_from
payloads-walked s h c f zero k d l b v = absurd (omega arith)
payloads-walked s h c f (suc n) k d l b v = go (next_of s d) refl (λ x. payloads-walked s h c f n (suc k) x)
  where
    go : (a : Answer Next) → next_of s d ≡ a → ((x : ItemIter) → 0 < n → length s < x.at + n → Visits s c (suc k) x → ComesPast s x (payloads_from n s x))
        → ComesPast s d (payloads_by s (λ x. payloads_from n s x) a)
    go (refused m es) e ih = absurd (f.walks k d v m es e)
    go (answered done) e ih = ends e
    go (answered (yielded i x)) e ih =
        let o = record-onward s d i x e in
        past e refl (ih x (omega (arith, o.on, o.inside)) (omega (arith, o.on)) (visits-more s c k d i x v e))

module _ (s : List ℕ) (h : Header) (c : ItemIter) (header : header_of s ≡ answered h) (iter : iter_of stream.Types s ≡ answered c) (yes : fit_of s ≡ answered fit) where
  is-fit : Fit s h c
  is-fit = sentences.sound s h c header iter yes

  pub fit-payloads : ComesPast s c (payloads_from (suc (length s)) s c)
  fit-payloads = payloads-walked s h c is-fit (suc (length s)) 0 c (omega arith) (omega arith) stays

  -- of any list of payloads that the walk comes past
  module _ (ps : List (List ℕ)) (w : ComesPast s c ps) where
    pub fit_count : length ps ≡ h.maximum_index - h.minimum_index
    fit_count = omega (arith, walked-count s h c is-fit 0 c ps stays w)

    pub fit-good : AllGood h.minimum_index h.minimum_index ps
    fit-good = rw (first-index s h c header iter) at (walked-good s h c is-fit 0 c ps stays w)

  -- of these
  pub payloads-count : length (payloads_from (suc (length s)) s c) ≡ h.maximum_index - h.minimum_index
  payloads-count = fit_count (payloads_from (suc (length s)) s c) fit-payloads

  pub payloads-good : AllGood h.minimum_index h.minimum_index (payloads_from (suc (length s)) s c)
  payloads-good = fit-good (payloads_from (suc (length s)) s c) fit-payloads
