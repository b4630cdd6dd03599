-- Examples of document 01 and of its slips, computed on the definitions that the contracts cite.
use Rattle.std.specs.Prelude.{None, Some}
use mathlib.Core.Path.{◌≡◌, refl}
use Rattle.answer.specs.Tables.{among}
use Rattle.field.specs.Indices.{optional_of, no_type, no_id}

-- 0xffff is no type, and an id
pub none_here : optional_of no_type 0xffff ≡ None
unfolding optional_of among
none_here = refl

pub id-here : optional_of no_id 0xffff ≡ Some 0xffff
unfolding optional_of among
id-here = refl
