-- Document 01, "Layouts": where a list starts, one element at a time, and element k, for the lists of both streams.
use Rattle.std.specs.Prelude.{Option, None, Some, ℕ, zero, suc, ◌-◌, Bool, true, false, List, [], ◌∷◌, length, leb, eqb}
use Rattle.answer.specs.Answer.{Answer, answered, refused, pick, stop, then, and_then}
use Rattle.answer.specs.Tables.{find}
use Rattle.field.specs.Fields.{fixed_at}
use Rattle.field_text.specs.Texts.{padding_after}
use Rattle.field.specs.declared.index.Stream.{Stream}
use Rattle.field.specs.declared.index.Stream.TheVariants as stream
use Rattle.record_layout.specs.Fields.{Field, id, read_fields, Shown}
use Rattle.record_layout.specs.Values.{nth, number_in, string_in}
use Rattle.record_layout.specs.Layouts.{type_index, Layout, Table, type_leaves, id_leaves, member_leaves, method, read_record}
use Rattle.record_member.specs.Said.{member_leaf}
use Rattle.record_list.specs.declared.ListCursor.{ListCursor}

-- an element: a type index, an id index, a method of 0x1206 or a member of 0x1203, with the values of its layout, for a member its leaf first
pub data ElementValues : Type 0 where
  type_element id_element method_element member_element : List Shown → ElementValues

-- an element, and the cursor for the next one
pub record Step : Type 0 where
  pub element : ElementValues
  pub next : ListCursor

abbrev pub step_to : ElementValues → ListCursor → Answer Step
step_to e c = answered (record { element = e; next = c })

-- A place in each kind of list: a counted one with so many left; one that runs to the end; 0x1203 after a member, with 0 left once a
-- continuation has ended it
abbrev pub in_counted : ℕ → ℕ → ℕ → ListCursor
in_counted leaf p left = record { leaf = leaf; at = p; left = left; padded = false }

abbrev pub to_the_end : ℕ → ℕ → ListCursor
to_the_end leaf p = record { leaf = leaf; at = p; left = 1; padded = false }

abbrev pub after_member : ℕ → ℕ → ListCursor
after_member p left = record { leaf = 0x1203; at = p; left = left; padded = true }

-- Where a list starts ---------------------------------------------------------------------------------------------------------

-- A counted list by its layout, `count ∷ run`: where its run starts, with as many elements as its count says. The layout's reading is 1 unless
-- four bytes per element are there
unfoldable pub counted_by : Layout → ℕ → List ℕ → ℕ → Answer ListCursor
counted_by fs leaf s p =
    and_then (read_fields fs 0 s p) (λ vs e.
    answered (in_counted leaf (string_in (nth 1 vs)).place (number_in (nth 0 vs))))

abbrev pub by_line : Option Layout → ℕ → List ℕ → ℕ → Answer ListCursor
by_line None leaf s p = refused 10 (leaf ∷ [])
by_line (Some fs) leaf s p = counted_by fs leaf s p

-- by the leaf's line of the table
unfoldable pub counted_list : Table → ℕ → List ℕ → ℕ → Answer ListCursor
counted_list table leaf s p = by_line (find leaf table) leaf s p

-- the lists of a type record: a leaf without a list is 10
unfoldable pub start_types : List ℕ → Answer ListCursor
start_types s =
    and_then (fixed_at 2 s 0) (λ leaf p.
    pick (eqb leaf 0x1201) (counted_list type_leaves 0x1201 s p)
    (pick (eqb leaf 0x1206) (answered (to_the_end 0x1206 p))
    (pick (eqb leaf 0x1203) (answered (to_the_end 0x1203 p))
    (refused 10 (leaf ∷ [])))))

-- the lists of an id record
unfoldable pub start_ids : List ℕ → Answer ListCursor
start_ids s =
    and_then (fixed_at 2 s 0) (λ leaf p.
    pick (eqb leaf 0x1603) (counted_list id_leaves 0x1603 s p)
    (pick (eqb leaf 0x1604) (counted_list id_leaves 0x1604 s p)
    (refused 10 (leaf ∷ []))))

-- the list of a record of this stream
unfoldable pub start_of : Stream → List ℕ → Answer ListCursor
start_of stream.Types s = start_types s
start_of stream.Ids s = start_ids s

-- One element -------------------------------------------------------------------------------------------------------------------

-- a field each, so many as are left
unfoldable pub counted_step : Field → (List Shown → ElementValues) → ℕ → List ℕ → ℕ → ℕ → Answer Step
counted_step f element leaf s p left =
    stop (eqb left 0) 15
    (and_then (read_fields (f ∷ []) 0 s p) (λ vs e.
    step_to (element vs) (in_counted leaf e (left - 1))))

-- 0x1206 to the end
unfoldable pub method_step : List ℕ → ℕ → Answer Step
method_step s p =
    stop (leb (length s) p) 15
    (and_then (read_fields method 0 s p) (λ vs e.
    step_to (method_element vs) (to_the_end 0x1206 e)))

-- 0x1404 is an element that ends the list
abbrev pub left_after : List Shown → ℕ
left_after vs = pick (eqb (member_leaf vs) 0x1404) 0 1

-- 0x1203 to the end
unfoldable pub member_step : List ℕ → ℕ → Answer Step
member_step s p =
    stop (leb (length s) p) 15
    (and_then (read_record member_leaves s p) (λ vs e.
    step_to (member_element vs) (after_member e (left_after vs))))

-- the padding after a member is skipped before the next one is read
unfoldable pub next_member : List ℕ → ℕ → ℕ → Bool → Answer Step
next_member s p left padded =
    stop (eqb left 0) 15
    (then (pick padded (padding_after s p) (answered p)) (λ q.
    member_step s q))

-- by the cursor's leaf; another leaf is 10
unfoldable pub step_of : List ℕ → ListCursor → Answer Step
step_of s c =
    pick (eqb c.leaf 0x1201) (counted_step type_index type_element 0x1201 s c.at c.left)
    (pick (eqb c.leaf 0x1206) (method_step s c.at)
    (pick (eqb c.leaf 0x1203) (next_member s c.at c.left c.padded)
    (pick (eqb c.leaf 0x1603) (counted_step id id_element 0x1603 s c.at c.left)
    (pick (eqb c.leaf 0x1604) (counted_step type_index type_element 0x1604 s c.at c.left)
    (refused 10 (c.leaf ∷ []))))))

-- Element k --------------------------------------------------------------------------------------------------------------------

-- from a cursor, by steps: element k is read after those before it, the first refusal given
unfoldable pub element_by : (ListCursor → Answer Step) → ℕ → ListCursor → Answer ElementValues
element_by step zero c = then (step c) (λ x. answered x.element)
element_by step (suc k) c = then (step c) (λ x. element_by step k x.next)

-- of the bytes of a record of this stream
unfoldable pub element_of : Stream → List ℕ → ℕ → Answer ElementValues
element_of tag s k = then (start_of tag s) (λ c. element_by (step_of s) k c)
