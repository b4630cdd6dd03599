-- R-9 and R-13 of document 02: the type references of a type record's payload, over the layout table: place, whether optional, index. One
-- definition for every leaf, list element and member; it refuses exactly where the record or one of its elements is refused, 15 apart.
use Rattle.std.specs.Prelude.{Option, None, Some, ℕ, zero, suc, Bool, true, false, List, [], ◌∷◌, ◌++◌, length, eqb}
use Rattle.answer.specs.Answer.{Answer, answered, refused, Read, Got, got, pick, then, and_then}
use Rattle.answer.specs.Tables.{find}
use Rattle.field.specs.Fields.{fixed_at}
use Rattle.field_text.specs.Texts.{padding_after}
use Rattle.record_layout.specs.Fields.{Shown, number, numeral, absent, many, Field, fixed, type, id, string_reference, optional_type, optional_id, word, gap, numeric, size, string, run, methods, members, when, read_field, word_after}
use Rattle.record_layout.specs.Layouts.{Layout, Table, type_index, type_leaves, member_leaves, method}
use Rattle.record_list.specs.declared.ListCursor.{ListCursor}
use Rattle.record_list.specs.Lists.{Step, start_types, step_of}

pub record Ref : Type 0 where
  pub place : ℕ
  pub optional : Bool
  pub index : ℕ

abbrev pub ref : ℕ → Bool → ℕ → Ref
ref p o i = record { place = p; optional = o; index = i }

-- "An optional index that reads as none is no reference", and a field that is not there is none either
abbrev pub of_value : Bool → ℕ → Shown → List Ref
of_value o p (number n) = ref p o n ∷ []
of_value o p (numeral z f) = []
of_value o p absent = []
of_value o p (many x) = []

-- the references of a field that stands at p and reads as v: T and O have one; the types of 0x1201 are elements, as members and methods are
unfoldable pub refs_field : Field → ℕ → Shown → List Ref
refs_field type p v = of_value false p v
refs_field optional_type p v = of_value true p v
refs_field (when there f) p v = refs_field f p v
refs_field (run e) p v = []
refs_field id p v = []
refs_field string_reference p v = []
refs_field optional_id p v = []
refs_field (fixed k) p v = []
refs_field (word k good) p v = []
refs_field (gap k) p v = []
refs_field numeric p v = []
refs_field size p v = []
refs_field string p v = []
refs_field methods p v = []
refs_field members p v = []

-- of fields in order, and the place after the last; refused as reading them is
unfoldable pub refs_fields : Layout → ℕ → List ℕ → ℕ → Read (List Ref)
refs_fields [] w s p = got [] p
refs_fields (f ∷ fs) w s p =
    and_then (read_field f w s p) (λ v q.
    and_then (refs_fields fs (word_after f v w) s q) (λ rs e.
    got (refs_field f p v ++ rs) e))

abbrev pub by_refs : Option Layout → ℕ → List ℕ → ℕ → Read (List Ref)
by_refs None leaf s p = refused 10 (leaf ∷ [])
by_refs (Some fs) leaf s p = refs_fields fs 0 s p

unfoldable pub refs_leaf : Table → ℕ → List ℕ → ℕ → Read (List Ref)
refs_leaf table leaf s p = by_refs (find leaf table) leaf s p

-- of the record at p, its leaf read first; a member of 0x1203 is one
unfoldable pub refs_record : Table → List ℕ → ℕ → Read (List Ref)
refs_record table s p = and_then (fixed_at 2 s p) (λ leaf q. refs_leaf table leaf s q)

-- Elements ---------------------------------------------------------------------------------------------------------------------

-- what is read, or nothing
abbrev pub or_none : {A : Type 0} → Answer (Got (List A)) → List A
or_none (answered g) = g.value
or_none (refused n d) = []

-- of the element at the cursor, where `step_of` answers; an id names no type
unfoldable pub refs_at : List ℕ → ListCursor → List Ref
refs_at s c =
    pick (eqb c.leaf 0x1201) (or_none (refs_fields (type_index ∷ []) 0 s c.at))
    (pick (eqb c.leaf 0x1206) (or_none (refs_fields method 0 s c.at))
    (pick (eqb c.leaf 0x1203) (or_none (then (pick c.padded (padding_after s c.at) (answered c.at)) (λ q. refs_record member_leaves s q)))
    (pick (eqb c.leaf 0x1603) []
    (or_none (refs_fields (type_index ∷ []) 0 s c.at)))))

-- 15, "there is no such element", ends a list; any other refusal is the record's
abbrev pub if_more : Answer Step → (Step → Answer (List Ref)) → Answer (List Ref)
if_more (answered x) f = f x
if_more (refused n d) f = pick (eqb n 15) (answered []) (refused n d)

-- of the elements from the cursor on, at most n of them
unfoldable pub refs_from : ℕ → List ℕ → ListCursor → Answer (List Ref)
refs_from zero s c = answered []
refs_from (suc n) s c = if_more (step_of s c) (λ x. then (refs_from n s x.next) (λ rs. answered (refs_at s c ++ rs)))

-- The payload -------------------------------------------------------------------------------------------------------------------

-- of the list of a record, where it has one; each element takes a byte or more, so that no list has more elements than the payload bytes
abbrev pub refs_list : List ℕ → Answer ListCursor → Answer (List Ref)
refs_list s (answered c) = refs_from (length s) s c
refs_list s (refused n d) = answered []

-- those of the record's own fields, then those of its elements
unfoldable pub refs_of : List ℕ → Answer (List Ref)
refs_of s =
    and_then (refs_record type_leaves s 0) (λ own e.
    then (refs_list s (start_types s)) (λ rs.
    answered (own ++ rs)))
