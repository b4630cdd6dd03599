-- Document 01, "Layouts": the tables. Each line is 01's line; the names of the fields are 01's too.
use Rattle.std.specs.Prelude.{Option, None, Some, ℕ, Bool, true, false, List, [], ◌∷◌}
use Rattle.answer.specs.Answer.{Answer, answered, refused, Read, got, both, and_then}
use Rattle.answer.specs.Tables.{Line, ◌is◌, find}
use Rattle.field.specs.Fields.{fixed_at}
use Rattle.word_attributes.specs.Bits.{bit}
use Rattle.word_attributes.specs.Words.{introducing}
use Rattle.word_attributes.specs.Pointers.{kind_of, mode_of, to_member_of}
use Rattle.record_layout.specs.Fields.{Shown, number, Field, fixed, type, id, string_reference, optional_type, optional_id, word, gap, numeric, size, string, run, types, ids, slots, methods, members, when, read_fields}

-- 01's names of fields --------------------------------------------------------------------------------------------------------

abbrev pub u8 : Field
u8 = fixed 1

abbrev pub u16 : Field
u16 = fixed 2

abbrev pub u32 : Field
u32 = fixed 4

-- T is a type index, O an optional one
abbrev pub type_index : Field
type_index = type

abbrev pub optional_index : Field
optional_index = optional_type

-- N is a numeric leaf, S a string
abbrev pub numeric_leaf : Field
numeric_leaf = size

abbrev pub string_field : Field
string_field = string

abbrev pub always : ℕ → Bool
always w = true

-- A is a u16 of field attributes, F of function attributes
abbrev pub field_word : Field
field_word = word 2 always

abbrev pub function_word : Field
function_word = u16

abbrev pub properties : Field
properties = word 2 always

abbrev pub count16 : Field
count16 = word 2 always

abbrev pub count32 : Field
count32 = word 4 always

-- a second S follows if properties has 0x0200
abbrev pub second_string : Field
second_string = when (bit 9) string_field

-- is there a value; and is it true?
abbrev pub is_answered : {A : Type 0} → Answer A → Bool
is_answered (answered a) = true
is_answered (refused n d) = false

abbrev pub is_true : Answer Bool → Bool
is_true (answered b) = b
is_true (refused n d) = false

-- a 0x1002 record needs kind and mode, right after its word
abbrev pub pointer : Field
pointer = word 4 (λ w. both (is_answered (kind_of w)) (is_answered (mode_of w)))

-- in modes 2 and 3, those of a pointer to member, also O
abbrev pub member_class : Field
member_class = when (λ w. is_true (to_member_of w)) optional_index

-- u32 offset if the method property is 4 or 6
abbrev pub offset : Field
offset = when introducing u32

-- Layouts ----------------------------------------------------------------------------------------------------------------------

abbrev pub Layout : Type 0
Layout = List Field

abbrev pub Table : Type 0
Table = List (Line Layout)

-- class, structure and interface
abbrev pub class : Layout
class = u16 ∷ properties ∷ optional_index ∷ optional_index ∷ optional_index ∷ numeric_leaf ∷ string_field ∷ second_string ∷ []

-- the type reader's leaves
unfoldable pub type_leaves : Table
type_leaves =
    (0x1001 is (type_index ∷ u16 ∷ []))
    ∷ (0x1002 is (type_index ∷ pointer ∷ member_class ∷ []))
    ∷ (0x1008 is (optional_index ∷ function_word ∷ u16 ∷ type_index ∷ []))
    ∷ (0x1009 is (type_index ∷ type_index ∷ optional_index ∷ function_word ∷ u16 ∷ type_index ∷ u32 ∷ []))
    ∷ (0x1205 is (type_index ∷ u8 ∷ u8 ∷ []))
    ∷ (0x1503 is (type_index ∷ type_index ∷ numeric_leaf ∷ string_field ∷ []))
    ∷ (0x1504 is class)
    ∷ (0x1505 is class)
    ∷ (0x1519 is class)
    ∷ (0x1506 is (u16 ∷ properties ∷ type_index ∷ numeric_leaf ∷ string_field ∷ second_string ∷ []))
    ∷ (0x1507 is (u16 ∷ properties ∷ type_index ∷ type_index ∷ string_field ∷ second_string ∷ []))
    ∷ (0x1609 is (properties ∷ gap 2 ∷ optional_index ∷ optional_index ∷ optional_index ∷ u16 ∷ numeric_leaf ∷ string_field ∷ second_string ∷ []))
    ∷ (0x000a is (count16 ∷ run slots ∷ []))
    ∷ (0x1201 is (count32 ∷ run types ∷ []))
    ∷ (0x1206 is (methods ∷ []))
    ∷ (0x1203 is (members ∷ []))
    ∷ []

-- a virtual base class, direct or indirect; a type alone; a type with a name
abbrev pub virtual_base : Layout
virtual_base = field_word ∷ type_index ∷ type_index ∷ numeric_leaf ∷ numeric_leaf ∷ []

abbrev pub alone : Layout
alone = gap 2 ∷ type_index ∷ []

abbrev pub named : Layout
named = field_word ∷ type_index ∷ string_field ∷ []

-- the leaves inside 0x1203
unfoldable pub member_leaves : Table
member_leaves =
    (0x1400 is (field_word ∷ type_index ∷ numeric_leaf ∷ []))
    ∷ (0x1401 is virtual_base)
    ∷ (0x1402 is virtual_base)
    ∷ (0x1404 is alone)
    ∷ (0x1409 is alone)
    ∷ (0x1502 is (field_word ∷ numeric ∷ string_field ∷ []))
    ∷ (0x150d is (field_word ∷ type_index ∷ numeric_leaf ∷ string_field ∷ []))
    ∷ (0x150e is named)
    ∷ (0x150f is (u16 ∷ type_index ∷ string_field ∷ []))
    ∷ (0x1510 is named)
    ∷ (0x1511 is (field_word ∷ type_index ∷ offset ∷ string_field ∷ []))
    ∷ []

-- an element of 0x1206
abbrev pub method : Layout
method = field_word ∷ gap 2 ∷ type_index ∷ offset ∷ []

-- the id reader's leaves
unfoldable pub id_leaves : Table
id_leaves =
    (0x1601 is (optional_id ∷ type_index ∷ string_field ∷ []))
    ∷ (0x1602 is (type_index ∷ type_index ∷ string_field ∷ []))
    ∷ (0x1603 is (count16 ∷ run ids ∷ []))
    ∷ (0x1604 is (count32 ∷ run types ∷ []))
    ∷ (0x1605 is (optional_id ∷ string_field ∷ []))
    ∷ (0x1606 is (type_index ∷ id ∷ u32 ∷ []))
    ∷ (0x1607 is (type_index ∷ string_reference ∷ u32 ∷ u16 ∷ []))
    ∷ []

-- Reading by a table ---------------------------------------------------------------------------------------------------------

abbrev pub by_layout : Option Layout → ℕ → List ℕ → ℕ → Read (List Shown)
by_layout None leaf s p = refused 10 (leaf ∷ [])
by_layout (Some fs) leaf s p = and_then (read_fields fs 0 s p) (λ vs e. got (number leaf ∷ vs) e)

-- the record of this leaf whose fields stand at p: the leaf and the values of its fields; 10 if the table does not have the leaf
unfoldable pub read_leaf : Table → ℕ → List ℕ → ℕ → Read (List Shown)
read_leaf table leaf s p = by_layout (find leaf table) leaf s p

-- the record at p, its leaf read first
unfoldable pub read_record : Table → List ℕ → ℕ → Read (List Shown)
read_record table s p = and_then (fixed_at 2 s p) (λ leaf q. read_leaf table leaf s q)

-- the same without the place after it, which a whole record has no use for
unfoldable pub leaf_of : Table → ℕ → List ℕ → ℕ → Answer (List Shown)
leaf_of table leaf s p = and_then (read_leaf table leaf s p) (λ vs e. answered vs)

-- the record that these bytes are
unfoldable pub record_of : Table → List ℕ → Answer (List Shown)
record_of table s = and_then (fixed_at 2 s 0) (λ leaf p. leaf_of table leaf s p)
