-- `word_primitive::entry` meets its contract: each row has at each of its places what the rule says of the index, and past the last row 01 refuses. Assumes nothing.
use Prim.Native.Nat.{◌≤◌, ◌/◌}
use borrow.Author.Rules.{rules}
use borrow.Author.Tests.{le-leb}
use native.Mathlib.Omega.{arith}
use native.Mathlib.Nat.{zero-lt-suc}
use Rattle.answer.specs.Tables.{find}
use Rattle.word_primitive.specs.Kinds.{kinds, indirections}
use Rattle.word_primitive.specs.Primitive.{primitive_of}
use Rattle.word_primitive.specs.Sheet.{sheet_at}
use Rattle.word_primitive.proofs.SheetTable.{in_row, beyond}
use Rattle.word_primitive.proofs.entry.Goals as goal

pub returns-in-0 : goal.returns-in-0
unfolding sheet_at primitive_of find kinds indirections
returns-in-0 c = in_row sheet_at 64 0 _ 0 (zero-lt-suc 63) c.in-0.is

pub returns-in-1 : goal.returns-in-1
unfolding sheet_at primitive_of find kinds indirections
returns-in-1 c = in_row sheet_at 64 1 _ 0 (zero-lt-suc 63) c.in-1.is

pub returns-in-2 : goal.returns-in-2
unfolding sheet_at primitive_of find kinds indirections
returns-in-2 c = in_row sheet_at 64 2 _ 0 (zero-lt-suc 63) c.in-2.is

pub returns-in-3 : goal.returns-in-3
unfolding sheet_at primitive_of find kinds indirections
returns-in-3 c = in_row sheet_at 64 3 _ 0 (zero-lt-suc 63) c.in-3.is

pub returns-in-4 : goal.returns-in-4
unfolding sheet_at primitive_of find kinds indirections
returns-in-4 c = in_row sheet_at 64 4 _ 0 (zero-lt-suc 63) c.in-4.is

pub returns-in-5 : goal.returns-in-5
unfolding sheet_at primitive_of find kinds indirections
returns-in-5 c = in_row sheet_at 64 5 _ 0 (zero-lt-suc 63) c.in-5.is

pub returns-in-6 : goal.returns-in-6
unfolding sheet_at primitive_of find kinds indirections
returns-in-6 c = in_row sheet_at 64 6 _ 0 (zero-lt-suc 63) c.in-6.is

pub returns-in-7 : goal.returns-in-7
unfolding sheet_at primitive_of find kinds indirections
returns-in-7 c = in_row sheet_at 64 7 _ 0 (zero-lt-suc 63) c.in-7.is

pub returns-in-8 : goal.returns-in-8
unfolding sheet_at primitive_of find kinds indirections
returns-in-8 c = in_row sheet_at 64 8 _ 0 (zero-lt-suc 63) c.in-8.is

pub returns-in-9 : goal.returns-in-9
unfolding sheet_at primitive_of find kinds indirections
returns-in-9 c = in_row sheet_at 64 9 _ 0 (zero-lt-suc 63) c.in-9.is

pub returns-in-10 : goal.returns-in-10
unfolding sheet_at primitive_of find kinds indirections
returns-in-10 c = in_row sheet_at 64 10 _ 0 (zero-lt-suc 63) c.in-10.is

pub returns-in-11 : goal.returns-in-11
unfolding sheet_at primitive_of find kinds indirections
returns-in-11 c = in_row sheet_at 64 11 _ 0 (zero-lt-suc 63) c.in-11.is

pub returns-in-12 : goal.returns-in-12
unfolding sheet_at primitive_of find kinds indirections
returns-in-12 c = in_row sheet_at 64 12 _ 0 (zero-lt-suc 63) c.in-12.is

pub returns-in-13 : goal.returns-in-13
unfolding sheet_at primitive_of find kinds indirections
returns-in-13 c = in_row sheet_at 64 13 _ 0 (zero-lt-suc 63) c.in-13.is

pub returns-in-14 : goal.returns-in-14
unfolding sheet_at primitive_of find kinds indirections
returns-in-14 c = in_row sheet_at 64 14 _ 0 (zero-lt-suc 63) c.in-14.is

pub returns-in-15 : goal.returns-in-15
unfolding sheet_at primitive_of find kinds indirections
returns-in-15 c = in_row sheet_at 64 15 _ 0 (zero-lt-suc 63) c.in-15.is

pub returns-in-16 : goal.returns-in-16
unfolding sheet_at primitive_of find kinds indirections
returns-in-16 c = in_row sheet_at 64 16 _ 0 (zero-lt-suc 63) c.in-16.is

pub returns-in-17 : goal.returns-in-17
unfolding sheet_at primitive_of find kinds indirections
returns-in-17 c = in_row sheet_at 64 17 _ 0 (zero-lt-suc 63) c.in-17.is

pub returns-in-18 : goal.returns-in-18
unfolding sheet_at primitive_of find kinds indirections
returns-in-18 c = in_row sheet_at 64 18 _ 0 (zero-lt-suc 63) c.in-18.is

pub returns-in-19 : goal.returns-in-19
unfolding sheet_at primitive_of find kinds indirections
returns-in-19 c = in_row sheet_at 64 19 _ 0 (zero-lt-suc 63) c.in-19.is

pub returns-in-20 : goal.returns-in-20
unfolding sheet_at primitive_of find kinds indirections
returns-in-20 c = in_row sheet_at 64 20 _ 0 (zero-lt-suc 63) c.in-20.is

pub returns-in-21 : goal.returns-in-21
unfolding sheet_at primitive_of find kinds indirections
returns-in-21 c = in_row sheet_at 64 21 _ 0 (zero-lt-suc 63) c.in-21.is

pub returns-in-22 : goal.returns-in-22
unfolding sheet_at primitive_of find kinds indirections
returns-in-22 c = in_row sheet_at 64 22 _ 0 (zero-lt-suc 63) c.in-22.is

pub returns-in-23 : goal.returns-in-23
unfolding sheet_at primitive_of find kinds indirections
returns-in-23 c = in_row sheet_at 64 23 _ 0 (zero-lt-suc 63) c.in-23.is

pub returns-in-24 : goal.returns-in-24
unfolding sheet_at primitive_of find kinds indirections
returns-in-24 c = in_row sheet_at 64 24 _ 0 (zero-lt-suc 63) c.in-24.is

pub returns-in-25 : goal.returns-in-25
unfolding sheet_at primitive_of find kinds indirections
returns-in-25 c = in_row sheet_at 64 25 _ 0 (zero-lt-suc 63) c.in-25.is

pub returns-in-26 : goal.returns-in-26
unfolding sheet_at primitive_of find kinds indirections
returns-in-26 c = in_row sheet_at 64 26 _ 0 (zero-lt-suc 63) c.in-26.is

pub returns-in-27 : goal.returns-in-27
unfolding sheet_at primitive_of find kinds indirections
returns-in-27 c = in_row sheet_at 64 27 _ 0 (zero-lt-suc 63) c.in-27.is

pub returns-in-28 : goal.returns-in-28
unfolding sheet_at primitive_of find kinds indirections
returns-in-28 c = in_row sheet_at 64 28 _ 0 (zero-lt-suc 63) c.in-28.is

pub returns-in-29 : goal.returns-in-29
unfolding sheet_at primitive_of find kinds indirections
returns-in-29 c = in_row sheet_at 64 29 _ 0 (zero-lt-suc 63) c.in-29.is

pub returns-in-30 : goal.returns-in-30
unfolding sheet_at primitive_of find kinds indirections
returns-in-30 c = in_row sheet_at 64 30 _ 0 (zero-lt-suc 63) c.in-30.is

pub returns-in-31 : goal.returns-in-31
unfolding sheet_at primitive_of find kinds indirections
returns-in-31 c = in_row sheet_at 64 31 _ 0 (zero-lt-suc 63) c.in-31.is

pub returns-in-32 : goal.returns-in-32
unfolding sheet_at primitive_of find kinds indirections
returns-in-32 c = in_row sheet_at 64 32 _ 0 (zero-lt-suc 63) c.in-32.is

pub returns-in-33 : goal.returns-in-33
unfolding sheet_at primitive_of find kinds indirections
returns-in-33 c = in_row sheet_at 64 33 _ 0 (zero-lt-suc 63) c.in-33.is

pub returns-in-34 : goal.returns-in-34
unfolding sheet_at primitive_of find kinds indirections
returns-in-34 c = in_row sheet_at 64 34 _ 0 (zero-lt-suc 63) c.in-34.is

pub returns-in-35 : goal.returns-in-35
unfolding sheet_at primitive_of find kinds indirections
returns-in-35 c = in_row sheet_at 64 35 _ 0 (zero-lt-suc 63) c.in-35.is

pub returns-in-36 : goal.returns-in-36
unfolding sheet_at primitive_of find kinds indirections
returns-in-36 c = in_row sheet_at 64 36 _ 0 (zero-lt-suc 63) c.in-36.is

pub returns-in-37 : goal.returns-in-37
unfolding sheet_at primitive_of find kinds indirections
returns-in-37 c = in_row sheet_at 64 37 _ 0 (zero-lt-suc 63) c.in-37.is

pub returns-in-38 : goal.returns-in-38
unfolding sheet_at primitive_of find kinds indirections
returns-in-38 c = in_row sheet_at 64 38 _ 0 (zero-lt-suc 63) c.in-38.is

pub returns-in-39 : goal.returns-in-39
unfolding sheet_at primitive_of find kinds indirections
returns-in-39 c = in_row sheet_at 64 39 _ 0 (zero-lt-suc 63) c.in-39.is

pub returns-in-40 : goal.returns-in-40
unfolding sheet_at primitive_of find kinds indirections
returns-in-40 c = in_row sheet_at 64 40 _ 0 (zero-lt-suc 63) c.in-40.is

pub returns-in-41 : goal.returns-in-41
unfolding sheet_at primitive_of find kinds indirections
returns-in-41 c = in_row sheet_at 64 41 _ 0 (zero-lt-suc 63) c.in-41.is

pub returns-in-42 : goal.returns-in-42
unfolding sheet_at primitive_of find kinds indirections
returns-in-42 c = in_row sheet_at 64 42 _ 0 (zero-lt-suc 63) c.in-42.is

pub returns-in-43 : goal.returns-in-43
unfolding sheet_at primitive_of find kinds indirections
returns-in-43 c = in_row sheet_at 64 43 _ 0 (zero-lt-suc 63) c.in-43.is

pub returns-in-44 : goal.returns-in-44
unfolding sheet_at primitive_of find kinds indirections
returns-in-44 c = in_row sheet_at 64 44 _ 0 (zero-lt-suc 63) c.in-44.is

pub returns-in-45 : goal.returns-in-45
unfolding sheet_at primitive_of find kinds indirections
returns-in-45 c = in_row sheet_at 64 45 _ 0 (zero-lt-suc 63) c.in-45.is

pub returns-in-46 : goal.returns-in-46
unfolding sheet_at primitive_of find kinds indirections
returns-in-46 c = in_row sheet_at 64 46 _ 0 (zero-lt-suc 63) c.in-46.is

pub returns-in-47 : goal.returns-in-47
unfolding sheet_at primitive_of find kinds indirections
returns-in-47 c = in_row sheet_at 64 47 _ 0 (zero-lt-suc 63) c.in-47.is

pub returns-in-48 : goal.returns-in-48
unfolding sheet_at primitive_of find kinds indirections
returns-in-48 c = in_row sheet_at 64 48 _ 0 (zero-lt-suc 63) c.in-48.is

pub returns-in-49 : goal.returns-in-49
unfolding sheet_at primitive_of find kinds indirections
returns-in-49 c = in_row sheet_at 64 49 _ 0 (zero-lt-suc 63) c.in-49.is

pub returns-in-50 : goal.returns-in-50
unfolding sheet_at primitive_of find kinds indirections
returns-in-50 c = in_row sheet_at 64 50 _ 0 (zero-lt-suc 63) c.in-50.is

pub returns-in-51 : goal.returns-in-51
unfolding sheet_at primitive_of find kinds indirections
returns-in-51 c = in_row sheet_at 64 51 _ 0 (zero-lt-suc 63) c.in-51.is

pub returns-in-52 : goal.returns-in-52
unfolding sheet_at primitive_of find kinds indirections
returns-in-52 c = in_row sheet_at 64 52 _ 0 (zero-lt-suc 63) c.in-52.is

pub returns-in-53 : goal.returns-in-53
unfolding sheet_at primitive_of find kinds indirections
returns-in-53 c = in_row sheet_at 64 53 _ 0 (zero-lt-suc 63) c.in-53.is

pub returns-in-54 : goal.returns-in-54
unfolding sheet_at primitive_of find kinds indirections
returns-in-54 c = in_row sheet_at 64 54 _ 0 (zero-lt-suc 63) c.in-54.is

pub returns-in-55 : goal.returns-in-55
unfolding sheet_at primitive_of find kinds indirections
returns-in-55 c = in_row sheet_at 64 55 _ 0 (zero-lt-suc 63) c.in-55.is

pub returns-in-56 : goal.returns-in-56
unfolding sheet_at primitive_of find kinds indirections
returns-in-56 c = in_row sheet_at 64 56 _ 0 (zero-lt-suc 63) c.in-56.is

pub returns-in-57 : goal.returns-in-57
unfolding sheet_at primitive_of find kinds indirections
returns-in-57 c = in_row sheet_at 64 57 _ 0 (zero-lt-suc 63) c.in-57.is

pub returns-in-58 : goal.returns-in-58
unfolding sheet_at primitive_of find kinds indirections
returns-in-58 c = in_row sheet_at 64 58 _ 0 (zero-lt-suc 63) c.in-58.is

pub returns-in-59 : goal.returns-in-59
unfolding sheet_at primitive_of find kinds indirections
returns-in-59 c = in_row sheet_at 64 59 _ 0 (zero-lt-suc 63) c.in-59.is

pub returns-in-60 : goal.returns-in-60
unfolding sheet_at primitive_of find kinds indirections
returns-in-60 c = in_row sheet_at 64 60 _ 0 (zero-lt-suc 63) c.in-60.is

pub returns-in-61 : goal.returns-in-61
unfolding sheet_at primitive_of find kinds indirections
returns-in-61 c = in_row sheet_at 64 61 _ 0 (zero-lt-suc 63) c.in-61.is

pub returns-in-62 : goal.returns-in-62
unfolding sheet_at primitive_of find kinds indirections
returns-in-62 c = in_row sheet_at 64 62 _ 0 (zero-lt-suc 63) c.in-62.is

pub returns-in-63 : goal.returns-in-63
unfolding sheet_at primitive_of find kinds indirections
returns-in-63 c = in_row sheet_at 64 63 _ 0 (zero-lt-suc 63) c.in-63.is

pub returns-in_default : goal.returns-in_default
unfolding sheet_at primitive_of
returns-in_default c =
    let rows : 64 ≤ c.args.index / 64 = beyond (Unit {0}) 0 64 _ c.in_default.in_default-own.rest (search rules) in
    simp (le-leb 0x1000 c.args.index (omega arith))
