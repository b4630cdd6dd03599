-- `word_primitive::kind_by` meets its contract: each arm's key computes to its line of the list, and what meets no key is not found. Assumes nothing.
use mathlib.Core.Path.{ap}
use Rattle.answer.specs.Tables.{find}
use Rattle.answer.proofs.TableLaws.{missed}
use Rattle.word_primitive.specs.Kinds.{kinds}
use Rattle.word_primitive.specs.Sheet.{kind_by, or_else}
use Rattle.word_primitive.specs.declared.PrimitiveKind.TheVariants.{NoType}
use Rattle.word_primitive.proofs.kind_by.Goals as goal

pub returns-in-0 : goal.returns-in-0
unfolding kind_by find kinds
returns-in-0 c = simp c.in-0.is

pub returns-in-3 : goal.returns-in-3
unfolding kind_by find kinds
returns-in-3 c = simp c.in-3.is

pub returns-in-8 : goal.returns-in-8
unfolding kind_by find kinds
returns-in-8 c = simp c.in-8.is

pub returns-in-16 : goal.returns-in-16
unfolding kind_by find kinds
returns-in-16 c = simp c.in-16.is

pub returns-in-32 : goal.returns-in-32
unfolding kind_by find kinds
returns-in-32 c = simp c.in-32.is

pub returns-in-104 : goal.returns-in-104
unfolding kind_by find kinds
returns-in-104 c = simp c.in-104.is

pub returns-in-105 : goal.returns-in-105
unfolding kind_by find kinds
returns-in-105 c = simp c.in-105.is

pub returns-in-112 : goal.returns-in-112
unfolding kind_by find kinds
returns-in-112 c = simp c.in-112.is

pub returns-in-113 : goal.returns-in-113
unfolding kind_by find kinds
returns-in-113 c = simp c.in-113.is

pub returns-in-122 : goal.returns-in-122
unfolding kind_by find kinds
returns-in-122 c = simp c.in-122.is

pub returns-in-123 : goal.returns-in-123
unfolding kind_by find kinds
returns-in-123 c = simp c.in-123.is

pub returns-in-17 : goal.returns-in-17
unfolding kind_by find kinds
returns-in-17 c = simp c.in-17.is

pub returns-in-33 : goal.returns-in-33
unfolding kind_by find kinds
returns-in-33 c = simp c.in-33.is

pub returns-in-114 : goal.returns-in-114
unfolding kind_by find kinds
returns-in-114 c = simp c.in-114.is

pub returns-in-115 : goal.returns-in-115
unfolding kind_by find kinds
returns-in-115 c = simp c.in-115.is

pub returns-in-18 : goal.returns-in-18
unfolding kind_by find kinds
returns-in-18 c = simp c.in-18.is

pub returns-in-34 : goal.returns-in-34
unfolding kind_by find kinds
returns-in-34 c = simp c.in-34.is

pub returns-in-116 : goal.returns-in-116
unfolding kind_by find kinds
returns-in-116 c = simp c.in-116.is

pub returns-in-117 : goal.returns-in-117
unfolding kind_by find kinds
returns-in-117 c = simp c.in-117.is

pub returns-in-19 : goal.returns-in-19
unfolding kind_by find kinds
returns-in-19 c = simp c.in-19.is

pub returns-in-35 : goal.returns-in-35
unfolding kind_by find kinds
returns-in-35 c = simp c.in-35.is

pub returns-in-118 : goal.returns-in-118
unfolding kind_by find kinds
returns-in-118 c = simp c.in-118.is

pub returns-in-119 : goal.returns-in-119
unfolding kind_by find kinds
returns-in-119 c = simp c.in-119.is

pub returns-in-20 : goal.returns-in-20
unfolding kind_by find kinds
returns-in-20 c = simp c.in-20.is

pub returns-in-36 : goal.returns-in-36
unfolding kind_by find kinds
returns-in-36 c = simp c.in-36.is

pub returns-in-120 : goal.returns-in-120
unfolding kind_by find kinds
returns-in-120 c = simp c.in-120.is

pub returns-in-121 : goal.returns-in-121
unfolding kind_by find kinds
returns-in-121 c = simp c.in-121.is

pub returns-in-70 : goal.returns-in-70
unfolding kind_by find kinds
returns-in-70 c = simp c.in-70.is

pub returns-in-64 : goal.returns-in-64
unfolding kind_by find kinds
returns-in-64 c = simp c.in-64.is

pub returns-in-69 : goal.returns-in-69
unfolding kind_by find kinds
returns-in-69 c = simp c.in-69.is

pub returns-in-68 : goal.returns-in-68
unfolding kind_by find kinds
returns-in-68 c = simp c.in-68.is

pub returns-in-65 : goal.returns-in-65
unfolding kind_by find kinds
returns-in-65 c = simp c.in-65.is

pub returns-in-66 : goal.returns-in-66
unfolding kind_by find kinds
returns-in-66 c = simp c.in-66.is

pub returns-in-67 : goal.returns-in-67
unfolding kind_by find kinds
returns-in-67 c = simp c.in-67.is

pub returns-in-80 : goal.returns-in-80
unfolding kind_by find kinds
returns-in-80 c = simp c.in-80.is

pub returns-in-81 : goal.returns-in-81
unfolding kind_by find kinds
returns-in-81 c = simp c.in-81.is

pub returns-in-82 : goal.returns-in-82
unfolding kind_by find kinds
returns-in-82 c = simp c.in-82.is

pub returns-in-83 : goal.returns-in-83
unfolding kind_by find kinds
returns-in-83 c = simp c.in-83.is

pub returns-in-48 : goal.returns-in-48
unfolding kind_by find kinds
returns-in-48 c = simp c.in-48.is

pub returns-in-49 : goal.returns-in-49
unfolding kind_by find kinds
returns-in-49 c = simp c.in-49.is

pub returns-in-50 : goal.returns-in-50
unfolding kind_by find kinds
returns-in-50 c = simp c.in-50.is

pub returns-in-51 : goal.returns-in-51
unfolding kind_by find kinds
returns-in-51 c = simp c.in-51.is

pub returns-in_default : goal.returns-in_default
unfolding kind_by find kinds
returns-in_default c = ap (or_else NoType) (missed kinds _ c.in_default.in_default-own.rest)
