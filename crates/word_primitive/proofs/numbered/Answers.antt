-- `word_primitive::numbered` meets its contract: the sheet's number stands for 01's answer. Assumes nothing.
use borrow.Author.Rules.{rules}
use Rattle.word_primitive.proofs.SheetLaws.{refuses, answers}
use Rattle.word_primitive.proofs.numbered.Goals as goal

pub returns-then-number : goal.returns-then-number
returns-then-number c = refuses _ _ c.entry-number.ensures (search rules)

pub returns : goal.returns
returns c =
    answers _ _ _ _ c.entry-number.ensures (search rules) c.kind_by-kind.ensures c.indirection_by-indirection.ensures
