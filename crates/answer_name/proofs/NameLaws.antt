-- A name is short: it stands in 20 bytes. Assumes nothing.
use Prim.Native.Nat.{◌≤◌}
use native.Mathlib.Omega.{arith}
use lib.ListN.{length}
use Rattle.answer.specs.declared.Refusal.{Refusal}
use Rattle.answer.specs.declared.Refusal.TheVariants as refusal
use Rattle.answer_name.specs.Names.{name_text}

pub name-in-20 : (e : Refusal) → length (name_text e) ≤ 20
unfolding name_text
name-in-20 refusal.Ended = omega arith
name-in-20 (refusal.EndedAfter a) = omega arith
name-in-20 refusal.HeaderSmall = omega arith
name-in-20 refusal.HeaderLarge = omega arith
name-in-20 refusal.MinimumLow = omega arith
name-in-20 refusal.MaximumLow = omega arith
name-in-20 refusal.TooShort = omega arith
name-in-20 refusal.IndicesUsedUp = omega arith
name-in-20 (refusal.NotFound a) = omega arith
name-in-20 (refusal.NotIndexed a b) = omega arith
name-in-20 (refusal.LeafUnknown a) = omega arith
name-in-20 refusal.NumberBad = omega arith
name-in-20 refusal.PointerWord = omega arith
name-in-20 refusal.TableFull = omega arith
name-in-20 refusal.ForeignCursor = omega arith
name-in-20 refusal.NoSuchElement = omega arith
name-in-20 refusal.TooLong = omega arith
name-in-20 refusal.WouldNotReadBack = omega arith
name-in-20 refusal.RecordTooLong = omega arith
name-in-20 refusal.NoRoom = omega arith
name-in-20 refusal.FileWrong = omega arith
name-in-20 refusal.AnotherStream = omega arith
name-in-20 refusal.OffTheChain = omega arith
name-in-20 refusal.TooDeep = omega arith
name-in-20 refusal.LeafNotPrinted = omega arith
name-in-20 refusal.Signature = omega arith
name-in-20 refusal.Shift = omega arith
name-in-20 refusal.TotalTooLarge = omega arith
name-in-20 refusal.LeavesFull = omega arith
name-in-20 refusal.NotFit = omega arith
name-in-20 refusal.ReadsAsNone = omega arith
