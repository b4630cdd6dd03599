-- `word_primitive::indirection_by` meets its contract: each arm's key computes to its line of the list, and what meets no key is not found. Assumes nothing.
use mathlib.Core.Path.{ap}
use Rattle.answer.specs.Tables.{find}
use Rattle.answer.proofs.TableLaws.{missed}
use Rattle.word_primitive.specs.Kinds.{indirections}
use Rattle.word_primitive.specs.Sheet.{indirection_by, or_else}
use Rattle.word_primitive.specs.declared.Indirection.TheVariants.{Direct}
use Rattle.word_primitive.proofs.indirection_by.Goals as goal

pub returns-in-0 : goal.returns-in-0
unfolding indirection_by find indirections
returns-in-0 c = simp c.in-0.is

pub returns-in-1 : goal.returns-in-1
unfolding indirection_by find indirections
returns-in-1 c = simp c.in-1.is

pub returns-in-2 : goal.returns-in-2
unfolding indirection_by find indirections
returns-in-2 c = simp c.in-2.is

pub returns-in-3 : goal.returns-in-3
unfolding indirection_by find indirections
returns-in-3 c = simp c.in-3.is

pub returns-in-4 : goal.returns-in-4
unfolding indirection_by find indirections
returns-in-4 c = simp c.in-4.is

pub returns-in-5 : goal.returns-in-5
unfolding indirection_by find indirections
returns-in-5 c = simp c.in-5.is

pub returns-in-6 : goal.returns-in-6
unfolding indirection_by find indirections
returns-in-6 c = simp c.in-6.is

pub returns-in-7 : goal.returns-in-7
unfolding indirection_by find indirections
returns-in-7 c = simp c.in-7.is

pub returns-in_default : goal.returns-in_default
unfolding indirection_by find indirections
returns-in_default c = ap (or_else Direct) (missed indirections _ c.in_default.in_default-own.rest)
