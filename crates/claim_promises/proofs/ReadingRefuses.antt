-- The numbers that fields, strings, padding and numeric leaves are refused by; and a layout, by those of its fields. Assumes nothing.
use Rattle.std.specs.Prelude.{Option, None, Some}
use Prim.Native.Nat.{ℕ, zero, suc, ◌+◌}
use mathlib.Core.Bool.{Bool, true, false}
use mathlib.Core.Path.{◌≡◌, refl}
use mathlib.Core.List.{List, [], ◌∷◌}
use lib.ListN.{length, drop}
use lib.Dec.{leb, ltb, eqb}
use lib.IntN.{ℤ, pos, negsuc}
use Rattle.answer.specs.Answer.{Answer, refused, pick, both}
use Rattle.answer.specs.Tables.{◌is◌, find, among}
use Rattle.answer.specs.Refusals.{listed, in_table, refusals}
use Rattle.field.specs.Fields.{fixed_at, signed_at}
use Rattle.field.specs.Indices.{no_type, no_id, optional_at}
use Rattle.field.specs.Runs.{bytes_after}
use Rattle.field_text.specs.Texts.{to_zero, part_or, string_at, counted_string_at, string_of, pad, more, padding_after}
use Rattle.field_number.specs.Numbers.{Wide, signed, unsigned, prefixes, unsigned_at, wide_at, numeric_at, natural, size_at}
use Rattle.field_number.specs.Forms.{numeral_by, numeral_at, sized_by, sized_at}
use Rattle.word_attributes.specs.Pointers.{kind_of, mode_of}
use Rattle.record_layout.specs.Fields.{Field, fixed, type, id, string_reference, optional_type, optional_id, word, gap, numeric, size, string, run, methods, members, when, run_bytes, word_after, read_field, read_fields, read_field_by, read_fields_by}
use Rattle.record_layout.specs.Layouts.{Layout, Table, class as class_layout, is_answered, type_leaves, member_leaves, method, id_leaves, by_layout, read_leaf, read_record, leaf_of, record_of}
use Rattle.claim_promises.specs.ByTable.{fits, gives, refuses, Refuses}
use Rattle.claim_promises.proofs.ByTable.{by-pick, by-stop, by-then, within, wider}

-- Fields, strings, padding: 1

pub fixed-refuses : (k : ℕ) (s : List ℕ) (p : ℕ) → Refuses (1 ∷ []) (fixed_at k s p)
unfolding fixed_at fits among listed find in_table refusals
fixed-refuses k s p = by-pick (leb (p + k) (length s)) gives (refuses refl)

pub signed-refuses : (k : ℕ) (s : List ℕ) (p : ℕ) → Refuses (1 ∷ []) (signed_at k s p)
unfolding signed_at
signed-refuses k s p = by-then (fixed-refuses k s p) (λ g. gives)

pub optional-refuses : (nones s : List ℕ) (p : ℕ) → Refuses (1 ∷ []) (optional_at nones s p)
unfolding optional_at
optional-refuses nones s p = by-then (fixed-refuses 4 s p) (λ g. gives)

part-refuses : (o : Option ℕ) (p : ℕ) → Refuses (1 ∷ []) (part_or o p)
unfolding fits among listed find in_table refusals
part-refuses None p = refuses refl
part-refuses (Some n) p = gives

pub string-refuses : (s : List ℕ) (p : ℕ) → Refuses (1 ∷ []) (string_at s p)
unfolding string_at
string-refuses s p = part-refuses (to_zero (drop p s) 0) p

pub bytes-refuses : (n : ℕ) (s : List ℕ) (p : ℕ) → Refuses (1 ∷ []) (bytes_after n s p)
unfolding bytes_after fits among listed find in_table refusals
bytes-refuses n s p = by-stop (ltb (length s) (p + n)) 1 refl gives

pub counted-refuses : (s : List ℕ) (p : ℕ) → Refuses (1 ∷ []) (counted_string_at s p)
unfolding counted_string_at
counted-refuses s p = by-then (fixed-refuses 1 s p) (λ g. by-then (bytes-refuses g.value s g.next) (λ e. gives))

pub string-of-refuses : (leaf : ℕ) (s : List ℕ) (p : ℕ) → Refuses (1 ∷ []) (string_of leaf s p)
unfolding string_of
string-of-refuses leaf s p = by-pick (leb leaf 0x1500) (counted-refuses s p) (string-refuses s p)

pad-refuses : (bs : List ℕ) (k p : ℕ) → Refuses (1 ∷ []) (pad k p bs)
unfolding pad fits among listed find in_table refusals
pad-refuses [] zero p = gives
pad-refuses [] (suc k) p = refuses refl
pad-refuses (b ∷ bs) zero p = by-pick (leb 0xf0 b) (pad-refuses bs (more b) (p + 1)) gives
pad-refuses (b ∷ bs) (suc k) p = pad-refuses bs k (p + 1)

pub padding-refuses : (s : List ℕ) (p : ℕ) → Refuses (1 ∷ []) (padding_after s p)
unfolding padding_after fits among listed find in_table refusals
padding-refuses s p = by-stop (ltb (length s) p) 1 refl (pad-refuses (drop p s) 0 p)

-- Numeric leaves: 1 and 11

wide-refuses : (o : Option Wide) (s : List ℕ) (p : ℕ) → Refuses (1 ∷ 11 ∷ []) (wide_at o s p)
unfolding fits among listed find in_table refusals unsigned_at within
wide-refuses None s p = refuses refl
wide-refuses (Some (signed k)) s p = wider refl (signed-refuses k s p)
wide-refuses (Some (unsigned k)) s p = by-then (wider refl (fixed-refuses k s p)) (λ g. gives)

numeric-refuses : (s : List ℕ) (p : ℕ) → Refuses (1 ∷ 11 ∷ []) (numeric_at s p)
unfolding numeric_at within among
numeric-refuses s p = by-then (wider refl (fixed-refuses 2 s p)) (λ g. by-pick (ltb g.value 0x8000) gives (wide-refuses (find g.value prefixes) s g.next))

natural-refuses : (z : ℤ) (q : ℕ) → Refuses (1 ∷ 11 ∷ []) (natural z q)
unfolding fits among listed find in_table refusals
natural-refuses (pos n) q = gives
natural-refuses (negsuc n) q = refuses refl

pub numeral-refuses : (s : List ℕ) (p : ℕ) → Refuses (1 ∷ 11 ∷ []) (numeral_at s p)
unfolding numeral_by
numeral-refuses s p = by-then (numeric-refuses s p) (λ g. gives)

pub sized-refuses : (s : List ℕ) (p : ℕ) → Refuses (1 ∷ 11 ∷ []) (sized_at s p)
unfolding sized_by size_at
sized-refuses s p = by-then (by-then (numeric-refuses s p) (λ g. natural-refuses g.value g.next)) (λ g. gives)

-- Layouts: what a field has to have among the numbers, and a layout, all its fields

abbrev pub Takes : List ℕ → Field → Type 0
Takes ns (fixed k) = within (1 ∷ []) ns ≡ true
Takes ns type = within (1 ∷ []) ns ≡ true
Takes ns id = within (1 ∷ []) ns ≡ true
Takes ns string_reference = within (1 ∷ []) ns ≡ true
Takes ns optional_type = within (1 ∷ []) ns ≡ true
Takes ns optional_id = within (1 ∷ []) ns ≡ true
Takes ns (word k good) = (within (1 ∷ []) ns ≡ true) × ((n : ℕ) → pick (good n) true (within (12 ∷ []) ns) ≡ true)
Takes ns (gap k) = within (1 ∷ []) ns ≡ true
Takes ns numeric = within (1 ∷ 11 ∷ []) ns ≡ true
Takes ns size = within (1 ∷ 11 ∷ []) ns ≡ true
Takes ns string = within (1 ∷ []) ns ≡ true
Takes ns (run e) = within (1 ∷ []) ns ≡ true
Takes ns methods = Unit {0}
Takes ns members = Unit {0}
Takes ns (when there f) = Takes ns f

infixr 5 ◌&◌
pub data TakesAll (ns : List ℕ) : List Field → Type 0 where
  no_more : TakesAll ns []
  ◌&◌ : {f : Field} {fs : List Field} → Takes ns f → TakesAll ns fs → TakesAll ns (f ∷ fs)

-- 12 with no details, where the word fails its test
word-refuses : {A : Type 0} {ns : List ℕ} {x : Answer A} (b : Bool) → pick b true (within (12 ∷ []) ns) ≡ true → Refuses ns x → Refuses ns (pick b x (refused 12 []))
unfolding fits among listed find in_table refusals
word-refuses true h r = r
word-refuses false h r = wider h (refuses refl)

field-refuses : (ns : List ℕ) (f : Field) (w : ℕ) (s : List ℕ) (p : ℕ) → Takes ns f → Refuses ns (read_field f w s p)
unfolding read_field_by
field-refuses ns (fixed k) w s p h = by-then (wider h (fixed-refuses k s p)) (λ g. gives)
field-refuses ns type w s p h = by-then (wider h (fixed-refuses 4 s p)) (λ g. gives)
field-refuses ns id w s p h = by-then (wider h (fixed-refuses 4 s p)) (λ g. gives)
field-refuses ns string_reference w s p h = by-then (wider h (fixed-refuses 4 s p)) (λ g. gives)
field-refuses ns optional_type w s p h = by-then (wider h (optional-refuses no_type s p)) (λ g. gives)
field-refuses ns optional_id w s p h = by-then (wider h (optional-refuses no_id s p)) (λ g. gives)
field-refuses ns (word k good) w s p h = by-then (wider h.0 (fixed-refuses k s p)) (λ g. word-refuses (good g.value) (h.1 g.value) gives)
field-refuses ns (gap k) w s p h = by-then (wider h (fixed-refuses k s p)) (λ g. gives)
field-refuses ns numeric w s p h = by-then (wider h (numeral-refuses s p)) (λ g. gives)
field-refuses ns size w s p h = by-then (wider h (sized-refuses s p)) (λ g. gives)
field-refuses ns string w s p h = by-then (wider h (string-refuses s p)) (λ g. gives)
field-refuses ns (run e) w s p h = by-then (wider h (bytes-refuses (run_bytes e w) s p)) (λ g. gives)
field-refuses ns methods w s p h = gives
field-refuses ns members w s p h = gives
field-refuses ns (when there f) w s p h = by-pick (there w) (field-refuses ns f w s p h) gives

pub fields-refuse : (ns : List ℕ) (fs : List Field) (w : ℕ) (s : List ℕ) (p : ℕ) → TakesAll ns fs → Refuses ns (read_fields fs w s p)
unfolding read_fields_by
fields-refuse ns [] w s p no_more = gives
fields-refuse ns (f ∷ fs) w s p (h & hs) =
    by-then (field-refuses ns f w s p h) (λ g.
    by-then (fields-refuse ns fs (word_after f g.value w) s g.next hs) (λ x. gives))

-- Records: a table's leaves, and 10 with any other leaf

infixr 4 ◌and◌
pub data TakesTable (ns : List ℕ) : Table → Type 0 where
  no_other : TakesTable ns []
  ◌and◌ : {leaf : ℕ} {fs : Layout} {ls : Table} → TakesAll ns fs → TakesTable ns ls → TakesTable ns ((leaf is fs) ∷ ls)

abbrev TakesFound : List ℕ → Option Layout → Type 0
TakesFound ns None = Unit {0}
TakesFound ns (Some fs) = TakesAll ns fs

found-takes : (ns : List ℕ) (leaf : ℕ) (table : Table) → TakesTable ns table → TakesFound ns (find leaf table)
unfolding find
found-takes ns leaf [] no_other = tt
found-takes ns leaf ((n is fs) ∷ ls) (h and hs) = go (eqb leaf n) (found-takes ns leaf ls hs)
  where
    go : (b : Bool) → TakesFound ns (find leaf ls) → TakesFound ns (pick b (Some fs) (find leaf ls))
    go true later = h
    go false later = later

layout-refuses : (ns : List ℕ) (o : Option Layout) (leaf : ℕ) (s : List ℕ) (p : ℕ) → within (10 ∷ []) ns ≡ true → TakesFound ns o → Refuses ns (by_layout o leaf s p)
unfolding fits among listed find in_table refusals
layout-refuses ns None leaf s p ten h = wider ten (refuses refl)
layout-refuses ns (Some fs) leaf s p ten h = by-then (fields-refuse ns fs 0 s p h) (λ g. gives)

leaf-refuses : (ns : List ℕ) (table : Table) (leaf : ℕ) (s : List ℕ) (p : ℕ) → within (10 ∷ []) ns ≡ true → TakesTable ns table → Refuses ns (read_leaf table leaf s p)
unfolding read_leaf
leaf-refuses ns table leaf s p ten h = layout-refuses ns (find leaf table) leaf s p ten (found-takes ns leaf table h)

module _ (ns : List ℕ) (table : Table) (one : within (1 ∷ []) ns ≡ true) (ten : within (10 ∷ []) ns ≡ true) (h : TakesTable ns table) where
  pub read-record-refuses : (s : List ℕ) (p : ℕ) → Refuses ns (read_record table s p)
  unfolding read_record
  read-record-refuses s p = by-then (wider one (fixed-refuses 2 s p)) (λ g. leaf-refuses ns table g.value s g.next ten h)

  pub record-refuses : (s : List ℕ) → Refuses ns (record_of table s)
  unfolding record_of leaf_of
  record-refuses s =
      by-then (wider one (fixed-refuses 2 s 0)) (λ g.
      by-then (leaf-refuses ns table g.value s g.next ten h) (λ x. gives))

-- a word that is never refused by 12; and one that may be
abbrev pub Free : Type 0
Free = (◌≡◌ {A = Bool} true true) × (ℕ → ◌≡◌ {A = Bool} true true)

pub free : Free
free = (refl, λ n. refl)

either : (b : Bool) → pick b true true ≡ true
either true = refl
either false = refl

-- the tables of document 01

pub type-takes : TakesTable (1 ∷ 10 ∷ 11 ∷ 12 ∷ []) type_leaves
unfolding type_leaves within among
type-takes =
    (refl & refl & no_more)
    and (refl & pointed & refl & no_more)
    and (refl & refl & refl & refl & no_more)
    and (refl & refl & refl & refl & refl & refl & refl & no_more)
    and (refl & refl & refl & no_more)
    and (refl & refl & refl & refl & no_more)
    and class
    and class
    and class
    and (refl & free & refl & refl & refl & refl & no_more)
    and (refl & free & refl & refl & refl & refl & no_more)
    and (free & refl & refl & refl & refl & refl & refl & refl & refl & no_more)
    and (free & refl & no_more)
    and (free & refl & no_more)
    and (tt & no_more)
    and (tt & no_more)
    and no_other
  where
    pointed : (◌≡◌ {A = Bool} true true) × ((w : ℕ) → pick (both (is_answered (kind_of w)) (is_answered (mode_of w))) true true ≡ true)
    pointed = (refl, λ w. either (both (is_answered (kind_of w)) (is_answered (mode_of w))))

    class : TakesAll (1 ∷ 10 ∷ 11 ∷ 12 ∷ []) class_layout
    class = refl & free & refl & refl & refl & refl & refl & refl & no_more

pub member-takes : TakesTable (1 ∷ 10 ∷ 11 ∷ []) member_leaves
unfolding member_leaves within among
member-takes =
    (free & refl & refl & no_more)
    and (free & refl & refl & refl & refl & no_more)
    and (free & refl & refl & refl & refl & no_more)
    and (refl & refl & no_more)
    and (refl & refl & no_more)
    and (free & refl & refl & no_more)
    and (free & refl & refl & refl & no_more)
    and (free & refl & refl & no_more)
    and (refl & refl & refl & no_more)
    and (free & refl & refl & no_more)
    and (free & refl & refl & refl & no_more)
    and no_other

pub method-takes : TakesAll (1 ∷ []) method
unfolding within among
method-takes = free & refl & refl & refl & no_more

pub id-takes : TakesTable (1 ∷ 10 ∷ []) id_leaves
unfolding id_leaves within among
id-takes =
    (refl & refl & refl & no_more)
    and (refl & refl & refl & no_more)
    and (free & refl & no_more)
    and (free & refl & no_more)
    and (refl & refl & no_more)
    and (refl & refl & refl & no_more)
    and (refl & refl & refl & refl & no_more)
    and no_other
