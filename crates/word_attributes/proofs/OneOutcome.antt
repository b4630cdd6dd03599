-- A contract `said.. r ≡ ..` of this crate admits one outcome: each answer is read back from what it says. Assumes nothing.
use Rattle.std.specs.Prelude.{ℕ, Result, Ok, Err, Bool}
use Rattle.word_attributes.specs.declared.PointerKind.{PointerKind}
use Rattle.word_attributes.specs.declared.PointerMode.{PointerMode}
use Rattle.answer.specs.declared.Refusal.{Refusal}
use mathlib.Core.Path.{◌≡◌, refl}
use Rattle.answer.proofs.OneOutcome.{heard, heard-no, one_of}
use Rattle.answer.specs.Refusals.{itself, said}

kind-back : (r : Result PointerKind Refusal) → heard Ok Err (said itself r) ≡ r
kind-back (Ok k) = refl
kind-back (Err e) = heard-no Ok Err e

pub one-kind : (r q : Result PointerKind Refusal) → said itself r ≡ said itself q → r ≡ q
one-kind = one_of (said itself) (heard Ok Err) kind-back

mode-back : (r : Result PointerMode Refusal) → heard Ok Err (said itself r) ≡ r
mode-back (Ok m) = refl
mode-back (Err e) = heard-no Ok Err e

pub one-mode : (r q : Result PointerMode Refusal) → said itself r ≡ said itself q → r ≡ q
one-mode = one_of (said itself) (heard Ok Err) mode-back

flag-back : (r : Result Bool Refusal) → heard Ok Err (said itself r) ≡ r
flag-back (Ok b) = refl
flag-back (Err e) = heard-no Ok Err e

pub one-flag : (r q : Result Bool Refusal) → said itself r ≡ said itself q → r ≡ q
one-flag = one_of (said itself) (heard Ok Err) flag-back

size_back : (r : Result ℕ Refusal) → heard Ok Err (said itself r) ≡ r
size_back (Ok n) = refl
size_back (Err e) = heard-no Ok Err e

pub one_size : (r q : Result ℕ Refusal) → said itself r ≡ said itself q → r ≡ q
one_size = one_of (said itself) (heard Ok Err) size_back
