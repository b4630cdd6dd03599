-- The records of document 01's stream E as a section: the signature, and the two records. A walk of it counts two; without its signature it is
-- refused, and so is what is shorter.
use mathlib.Core.Path.{◌≡◌, refl}
use mathlib.Core.List.{[], ◌∷◌}
use Prim.Native.Nat.{ℕ}
use mathlib.Core.List.{List}
use Rattle.answer.specs.Answer.{answered, refused}
use Rattle.field.specs.Fields.{little_at}
use Rattle.stream_item.specs.Iterator.{next_of}
use Rattle.section_item.specs.Sections.{first, section_start, walk_by, last_of, count_of}

abbrev pub section_e : List ℕ
section_e =
    4 ∷ 0 ∷ 0 ∷ 0
    ∷ 8 ∷ 0 ∷ 0x01 ∷ 0x10 ∷ 0x74 ∷ 0 ∷ 0 ∷ 0 ∷ 1 ∷ 0
    ∷ 10 ∷ 0 ∷ 0x02 ∷ 0x10 ∷ 0x00 ∷ 0x10 ∷ 0 ∷ 0 ∷ 0x0c ∷ 0 ∷ 1 ∷ 0 ∷ []

pub start_e : section_start section_e ≡ answered first
unfolding section_start little_at
start_e = refl

pub count_e : count_of section_e ≡ answered 2
unfolding count_of section_start last_of walk_by next_of little_at
count_e = refl

-- a signature of 2, three bytes, a record that is cut
pub signature2 : count_of (2 ∷ 0 ∷ 0 ∷ 0 ∷ []) ≡ refused 25 []
unfolding count_of section_start little_at
signature2 = refl

pub three : count_of (4 ∷ 0 ∷ 0 ∷ []) ≡ refused 1 []
unfolding count_of section_start
three = refl

pub cut : count_of (4 ∷ 0 ∷ 0 ∷ 0 ∷ 8 ∷ 0 ∷ 1 ∷ []) ≡ refused 1 []
unfolding count_of section_start last_of walk_by next_of little_at
cut = refl

-- no records at all
pub bare : count_of (4 ∷ 0 ∷ 0 ∷ 0 ∷ []) ≡ answered 0
unfolding count_of section_start last_of walk_by next_of little_at
bare = refl
