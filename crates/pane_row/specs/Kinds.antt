-- What kind of value a field has, and which of its three numbers say it: a slot that keeps those keeps the value.
use Rattle.std.specs.Prelude.{Bool, true, false, [], ◌∷◌}
use Rattle.answer.specs.Answer.{both}
use Rattle.record_layout.specs.Fields.{Field, fixed, type, id, string_reference, optional_type, optional_id, word, gap, numeric, size, string, run, methods, members, when}
use Rattle.record_layout.specs.Layouts.{Layout}
use Rattle.pane_row.specs.Slots.{Slot, off, one, two, sized, three, Slots}

-- never a value; a number; an index that may be none; bytes; bytes that may be absent; a number that may be absent; a numeric leaf that may not be negative, and
-- one that may; none of these, which no table has
pub data Kind : Type 0 where
  nothing plain optional text optional_text present natural integer other : Kind

-- the same where the field may be left out
abbrev pub maybe : Kind → Kind
maybe nothing = nothing
maybe plain = present
maybe optional = optional
maybe text = optional_text
maybe optional_text = optional_text
maybe present = present
maybe natural = other
maybe integer = other
maybe other = other

unfoldable pub slot_kind : Field → Kind
slot_kind (fixed k) = plain
slot_kind type = plain
slot_kind id = plain
slot_kind string_reference = plain
slot_kind optional_type = optional
slot_kind optional_id = optional
slot_kind (word k good) = plain
slot_kind (gap k) = nothing
slot_kind numeric = integer
slot_kind size = natural
slot_kind string = text
slot_kind (run e) = text
slot_kind methods = nothing
slot_kind members = nothing
slot_kind (when there f) = maybe (slot_kind f)

-- which of the three numbers a slot keeps
abbrev pub keeps_first : Slot → Bool
keeps_first off = false
keeps_first (one k) = true
keeps_first (two k) = true
keeps_first (sized k j) = true
keeps_first (three k) = true

abbrev pub keeps_second : Slot → Bool
keeps_second off = false
keeps_second (one k) = false
keeps_second (two k) = true
keeps_second (sized k j) = false
keeps_second (three k) = true

abbrev pub keeps_third : Slot → Bool
keeps_third off = false
keeps_third (one k) = false
keeps_third (two k) = false
keeps_third (sized k j) = true
keeps_third (three k) = true

-- are these enough to say a value of the kind? An index that is there is not 0, and neither is the place of a string
abbrev pub enough : Kind → Bool → Bool → Bool → Bool
enough nothing a b c = true
enough plain a b c = a
enough optional a b c = a
enough text a b c = both a b
enough optional_text a b c = both a b
enough present a b c = both a b
enough natural a b c = both a c
enough integer a b c = both a (both b c)
enough other a b c = false

-- a slot for each field, and each keeps its value
unfoldable pub fitting : Slots → Layout → Bool
fitting [] [] = true
fitting [] (f ∷ fs) = false
fitting (k ∷ ks) [] = false
fitting (k ∷ ks) (f ∷ fs) = both (enough (slot_kind f) (keeps_first k) (keeps_second k) (keeps_third k)) (fitting ks fs)
