-- R-5 of document 02: what a type index names, as far as its declaration goes; the sizes that array lengths ask for; argument lists.
use Rattle.std.specs.Prelude.{Result, Ok, Err, Option, Some, None, ℕ, zero, suc, ◌+◌, ◌*◌, ◌/◌, ◌%◌, false, List, [], ◌∷◌, ℤ, pos, negsuc, leb, eqb}
use Rattle.answer.specs.declared.Refusal.{Refusal}
use Rattle.answer.specs.Answer.{Answer, answered, refused, Read, pick}
use Rattle.answer.specs.Tables.{among}
use Rattle.answer.specs.declared.Refusal.TheVariants as refusal
use Rattle.field.specs.Fields.{fixed_at}
use Rattle.field.specs.declared.index.TypeIndex.{TypeIndex}
use Rattle.word_attributes.specs.Bits.{bit, bits}
use Rattle.word_attributes.specs.Pointers.{size_of}
use Rattle.record_layout.specs.Fields.{Shown, number, numeral, absent, many}
use Rattle.record_layout.specs.Values.{nth, number_in}
use Rattle.stream_finder.specs.Finder.{State}
use Rattle.declare_spelling.specs.declared.Quals.{Quals}
use Rattle.declare_type.specs.declared.node.Node.{Node}
use Rattle.declare_type.specs.declared.node.Node.TheVariants as node
use Rattle.declare_type.specs.declared.node.Sized.{Sized}
use Rattle.declare_type.specs.declared.node.Sized.TheVariants as sized
use Rattle.declare_spelling.specs.Sizes.{primitive_size}
use Rattle.declare_type.specs.Looked.{Seen, numbered, held, nothing, type_seen, list_seen}

abbrev pub as_type_index : ℕ → TypeIndex
as_type_index i = record { 0 = i }

-- the values of a record: the leaf is the first, then those of its line in record_layout's table; a number, a type index, a size
abbrev pub leaf_in : List Shown → ℕ
leaf_in vs = number_in (nth 0 vs)

abbrev pub num : List Shown → ℕ → ℕ
num vs k = number_in (nth k vs)

abbrev pub type_in : List Shown → ℕ → TypeIndex
type_in vs k = as_type_index (num vs k)

abbrev natural : ℤ → ℕ
natural (pos n) = n
natural (negsuc n) = 0

abbrev size_number : Shown → ℕ
size_number (numeral z f) = natural z
size_number (number n) = 0
size_number absent = 0
size_number (many x) = 0

abbrev pub size_in : List Shown → ℕ → ℕ
size_in vs k = size_number (nth k vs)

-- class, structure, interface
unfoldable pub classes : List ℕ
classes = 0x1504 ∷ 0x1505 ∷ 0x1519 ∷ []

-- ---- sizes, 0 where none is known

abbrev pub answered_or_0 : Answer ℕ → ℕ
answered_or_0 (answered n) = n
answered_or_0 (refused k d) = 0

-- a size, or the type whose size it is: that under a modifier or an enumeration
unfoldable pub sized_in : ℕ → List Shown → Sized
sized_in leaf vs =
    pick (eqb leaf 0x1001) (sized.Through (type_in vs 1))
    (pick (eqb leaf 0x1507) (sized.Through (type_in vs 3))
    (pick (eqb leaf 0x1002) (sized.Known (answered_or_0 (size_of (num vs 2))))
    (pick (eqb leaf 0x1503) (sized.Known (size_in vs 3))
    (pick (eqb leaf 0x1506) (sized.Known (size_in vs 4))
    (pick (eqb leaf 0x1609) (sized.Known (size_in vs 7))
    (pick (among leaf classes) (sized.Known (size_in vs 6))
    (sized.Known 0)))))))

-- "a refused size lookup is no known size"
abbrev pub sized_from : Seen → Sized
sized_from (numbered p) = sized.Known (primitive_size p.kind p.indirection)
sized_from (held p n vs) = sized_in (leaf_in vs) vs
sized_from (nothing e) = sized.Known 0

abbrev pub through : (ℕ → ℕ) → Sized → ℕ
through go (sized.Known n) = n
through go (sized.Through j) = go j.0

-- the size of type i, through at most k modifiers and enumerations
unfoldable pub size_through : List ℕ → State → ℕ → ℕ → ℕ
size_through s σ zero i = through (λ j. 0) (sized_from (type_seen s σ i))
size_through s σ (suc k) i = through (λ j. size_through s σ k j) (sized_from (type_seen s σ i))

-- "the array length is its byte size divided by the element's, and an element without a known nonzero size that divides it prints as empty
-- brackets"
unfoldable pub extent_of : ℕ → ℕ → Option ℕ
extent_of all one = pick (eqb one 0) None (pick (eqb (all % one) 0) (Some (all / one)) None)

-- ---- nodes

-- a record's name: a part of the record, which stands at p and has n bytes, and so of the stream
abbrev pub name_in : ℕ → ℕ → Shown → Node
name_in p n (many x) = pick (leb (x.place + x.length) n) (node.Named (p + x.place) x.length) (node.Refused refusal.Ended)
name_in p n (number k) = node.Refused refusal.Ended
name_in p n (numeral z f) = node.Refused refusal.Ended
name_in p n absent = node.Refused refusal.Ended

-- the qualifiers of a pointer word, and of a modifier's flags
abbrev pub pointer_quals : ℕ → Quals
pointer_quals w = record { constant = bit 10 w; volatile = bit 9 w; unaligned = bit 11 w; restrict = bit 12 w }

abbrev pub modifier_quals : ℕ → Quals
modifier_quals w = record { constant = bit 0 w; volatile = bit 1 w; unaligned = bit 2 w; restrict = false }

-- a record at p of n bytes; "an absent return prints as primitive 0"
unfoldable pub node_in : List ℕ → State → ℕ → ℕ → ℕ → List Shown → Node
node_in s σ p n leaf vs =
    pick (eqb leaf 0x1001) (node.Modifier (type_in vs 1) (modifier_quals (num vs 2)))
    (pick (eqb leaf 0x1002) (node.Pointer (type_in vs 1) (bits 5 7 (num vs 2)) (pointer_quals (num vs 2)))
    (pick (eqb leaf 0x1008) (node.Procedure (type_in vs 1) (type_in vs 4))
    (pick (eqb leaf 0x1503) (node.Array (type_in vs 1) (extent_of (size_in vs 3) (size_through s σ 32 (num vs 1))))
    (pick (eqb leaf 0x1506) (name_in p n (nth 5 vs))
    (pick (eqb leaf 0x1507) (name_in p n (nth 5 vs))
    (pick (eqb leaf 0x1609) (name_in p n (nth 8 vs))
    (pick (among leaf classes) (name_in p n (nth 7 vs))
    (node.Refused refusal.LeafNotPrinted))))))))

abbrev pub node_by : List ℕ → State → Seen → Node
node_by s σ (numbered p) = node.Primitive p.kind p.indirection
node_by s σ (held p n vs) = node_in s σ p n (leaf_in vs) vs
node_by s σ (nothing e) = node.Refused e

unfoldable pub node_of : List ℕ → State → ℕ → Node
node_of s σ i = node_by s σ (type_seen s σ i)

-- ---- argument lists

-- k indices, four bytes each: a part of the record
abbrev pub list_in : ℕ → ℕ → ℕ → Shown → Result (ℕ × ℕ) Refusal
list_in p n k (many x) = pick (leb (x.place + 4 * k) n) (Ok (p + x.place, k)) (Err refusal.Ended)
list_in p n k (number j) = Err refusal.Ended
list_in p n k (numeral z f) = Err refusal.Ended
list_in p n k absent = Err refusal.Ended

abbrev pub list_by : Seen → Result (ℕ × ℕ) Refusal
list_by (numbered p) = Err refusal.LeafNotPrinted
list_by (held p n vs) = pick (eqb (leaf_in vs) 0x1201) (list_in p n (num vs 1) (nth 2 vs)) (Err refusal.LeafNotPrinted)
list_by (nothing e) = Err e

unfoldable pub list_of : List ℕ → State → ℕ → Result (ℕ × ℕ) Refusal
list_of s σ i = list_by (list_seen s σ i)

-- the index of an argument, at place p
abbrev or_zero : Read ℕ → ℕ
or_zero (answered g) = g.value
or_zero (refused n d) = 0

unfoldable pub index_at : List ℕ → ℕ → TypeIndex
index_at s p = as_type_index (or_zero (fixed_at 4 s p))
