-- A link as the crate reads it, and the links that `find` passes: they are the chain's. Assumes nothing.
use Prim.Native.Nat.{ℕ, zero, suc, ◌+◌, ◌≤◌, ◌<◌}
use mathlib.Core.Path.{◌≡◌, refl, sym, ap, ◌∙◌}
use mathlib.Core.List.{List}
use native.Mathlib.Numerals.{one-add}
use native.Mathlib.Omega.{arith}
use lib.ListN.{length, take as front, drop}
use Rattle.field.specs.Fields.{little_at}
use Rattle.stream_item.specs.Links.{chain, Walk, reached, broke}
use Rattle.stream_item.proofs.LinkLaws.{link-whole, link-broken, chain-none, chain-pass, chain-break, chain-stays, chain-split, more as more_walk}
use Rattle.claim_model.specs.Rust.{Rust, gives, errs, ◌>>=◌, unexpected_eof, usize_top}
use Rattle.claim_model.specs.ParseBuffer.{ParseBuffer, at, parse, take}
use Rattle.claim_model.specs.TpiItems.{skipped}
use Rattle.claim_model.proofs.BufferLaws.{parse-in, parse-out, take_in, take_out, by_order}

-- ---- a link, read
module _ (s : List ℕ) (l : length s < usize_top) (p : ℕ) where
  length_at : p + 2 ≤ length s → parse 2 (at s p) ≡ gives (little_at 2 s p, at s (p + 2))
  length_at h = parse-in s p 2 h

  pub read_whole : {B : Type 0} (f : List ℕ × ParseBuffer → Rust B) → p + 2 + little_at 2 s p ≤ length s
      → ◌>>=◌ (parse 2 (at s p)) (λ (n, b). ◌>>=◌ (take b n) f) ≡ f (front (little_at 2 s p) (drop (p + 2) s), at s (p + 2 + little_at 2 s p))
  read_whole f h = simp (length_at (omega arith), take_in s (p + 2) (little_at 2 s p) l h)

  pub read-broken : {B : Type 0} (f : List ℕ × ParseBuffer → Rust B) → length s < p + 2 + little_at 2 s p
      → ◌>>=◌ (parse 2 (at s p)) (λ (n, b). ◌>>=◌ (take b n) f) ≡ errs unexpected_eof
  read-broken f h =
      by_order (p + 2) (length s)
      (λ g. simp (length_at g, take_out s (p + 2) (little_at 2 s p) g h))
      (λ g. simp (parse-out s p 2 g))

-- ---- the links that `find` passes are the chain's
abbrev pub walked : List ℕ → Walk → Rust ParseBuffer
walked s (reached q) = gives (at s q)
walked s (broke j) = errs unexpected_eof

walked_more : (s : List ℕ) (a : ℕ) (w : Walk) → walked s (more_walk a w) ≡ walked s w
walked_more s a (reached q) = refl
walked_more s a (broke j) = refl

module _ (s : List ℕ) (l : length s < usize_top) where
  pub skipped-chain : (k p : ℕ) → skipped k (at s p) ≡ walked s (chain s p k)
  unfolding skipped
  skipped-chain zero p = sym (ap (walked s) (chain-none s p))
  skipped-chain (suc k) p =
      by_order (p + 2 + little_at 2 s p) (length s)
      (λ h.
      read_whole s l p _ h ∙ skipped-chain k (p + 2 + little_at 2 s p)
      ∙ sym (walked_more s 1 (chain s (p + 2 + little_at 2 s p) k))
      ∙ ap (walked s) (sym (chain-split s p 1 k (p + 2 + little_at 2 s p) (chain-pass s p 0 p (p + 2) (little_at 2 s p) (chain-none s p) (link-whole s p h))) ∙ ap (chain s p) (one-add k)))
      (λ h.
      read-broken s l p _ h
      ∙ ap (walked s) (sym (chain-stays s p 0 1 k (chain-break s p 0 p (chain-none s p) (link-broken s p h))) ∙ ap (chain s p) (one-add k)))
