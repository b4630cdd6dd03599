-- Rewriting the references of a payload keeps all else: the promises of specs/Kept.antt. Assumes nothing.
use Prim.Native.Nat.{ℕ, ◌≤◌}
use native.Mathlib.Omega.{arith}
use mathlib.Core.Path.{◌≡◌, sym, ◌∙◌}
use mathlib.Core.List.{List}
use lib.ListN.{length}
use Rattle.answer.specs.Answer.{answered, got}
use Rattle.record_layout.specs.Fields.{Shown, read_fields}
use Rattle.record_layout.specs.Layouts.{Layout}
use Rattle.record_reference.specs.References.{Ref, refs_fields, refs_of}
use Rattle.record_rewrite.specs.Rewrite.{renamed_all, rewrite, Fits, moved_values}
use Rattle.record_rewrite.specs.Kept.{Kept, Rewriting}
use Rattle.record_rewrite.proofs.Taken.{same-value}
use Rattle.record_rewrite.proofs.Places.{within-sooner, length-rewrite, rewrite-outside, rewrite-moved, rewrite-octets, rewrite-same}
use Rattle.record_rewrite.proofs.Carried.{Carried, fields-carried}
use Rattle.record_rewrite.proofs.Records.{known}

-- one layout, wherever it stands
pub record Rewrites (f : ℕ → ℕ) (fs : Layout) (w : ℕ) (s : List ℕ) (p : ℕ) (vs : List Shown) (rs : List Ref) (e : ℕ) : Type 0 where
  pub values : read_fields fs w (rewrite f s rs) p ≡ got (moved_values f fs vs) e
  pub refs : refs_fields fs w (rewrite f s rs) p ≡ got (renamed_all f rs) e

pub fields-rewritten : (f : ℕ → ℕ) (fs : Layout) (w : ℕ) (s : List ℕ) (p : ℕ) (vs : List Shown) (rs : List Ref) (e : ℕ) → p ≤ length s
    → read_fields fs w s p ≡ got vs e → refs_fields fs w s p ≡ got rs e → Fits f rs → Rewrites f fs w s p vs rs e
fields-rewritten f fs w s p vs rs e l h r fits =
    let o = fields-carried f s fs w p vs e l h in
    let z : o.refs ≡ rs = same-value o.refs rs e e (sym o.are ∙ r) in
    go o.refs z o.carried
  where
    go : (us : List Ref) → us ≡ rs → Carried f s p (moved_values f fs vs) us e (λ t. read_fields fs w t p) (λ t. refs_fields fs w t p) → Rewrites f fs w s p vs rs e
    go us z c =
        let k : Carried f s p (moved_values f fs vs) rs e (λ t. read_fields fs w t p) (λ t. refs_fields fs w t p) = rw z at c in
        let m = rewrite-moved f rs s p e k.within k.inside fits in
        record { values = k.reads (rewrite f s rs) (length-rewrite f s rs) m; refs = k.names (rewrite f s rs) (length-rewrite f s rs) m }

pub rewrite-keeps : (f : ℕ → ℕ) (s : List ℕ) (rs : List Ref) → refs_of s ≡ answered rs → Fits f rs → Kept f s rs (rewrite f s rs)
rewrite-keeps f s rs h fits =
    let k = known f s rs h in
    k.kept (rewrite f s rs) (length-rewrite f s rs) (rewrite-moved f rs s 0 (length s) (within-sooner rs 0 2 (length s) (omega arith) k.within) (omega arith) fits)

pub rewriting : Rewriting
rewriting = record {
  apart = λ s rs h. (known (λ n. n) s rs h).within;
  stand = λ s rs h. (known (λ n. n) s rs h).stands;
  as_long = length-rewrite;
  others = rewrite-outside;
  keeps = rewrite-keeps;
  same = λ f s rs h o k. let a = known f s rs h in rewrite-same f rs s 2 (length s) o a.stands k a.within (omega arith);
  octets = rewrite-octets;
}
