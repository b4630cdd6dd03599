-- The numbers that headers, iterators, views, finders, walks, lists and entries are refused by. Assumes nothing.
use Rattle.std.specs.Prelude.{Option, None, Some}
use Prim.Native.Nat.{ℕ, zero, suc, ◌+◌, ◌-◌, ◌/◌, ◌%◌, ◌^◌}
use mathlib.Core.Bool.{Bool, true, false}
use mathlib.Core.Path.{◌≡◌, refl}
use mathlib.Core.List.{List, [], ◌∷◌}
use lib.ListN.{length, get_or}
use lib.Dec.{leb, ltb, eqb}
use Rattle.answer.specs.Answer.{Answer, answered, refused, pick, stop, Read, then, and_then}
use Rattle.answer.specs.Tables.{find, among}
use Rattle.answer.specs.Refusals.{listed, in_table, refusals}
use Rattle.field.specs.Fields.{little_at}
use Rattle.word_primitive.specs.Kinds.{kinds, indirections}
use Rattle.word_primitive.specs.Primitive.{known, primitive_of}
use Rattle.word_attributes.specs.Bits.{bits}
use Rattle.word_attributes.specs.Pointers.{pointer_kinds, pointer_modes, good_or_12, kind_of, mode_of, to_member_of, reference_of, size_of}
use Rattle.stream_header.specs.Header.{longest, header_of}
use Rattle.stream_header.specs.declared.Header.{Header}
use Rattle.field.specs.Indices.{index_number}
use Rattle.stream_item.specs.Links.{link_of}
use Rattle.stream_item.specs.Iterator.{iter_of, Next, done, yielded, next_of}
use Rattle.stream_fit.specs.Fit.{fit_of}
use Rattle.stream_view.specs.Views.{part_of, stream_named, short_of, entry_part, view_of, kind_at, entry_kind as kind_in, raw_kind_of}
use Rattle.stream_item.specs.Information.{len_of, is_empty_of}
use Rattle.field.specs.declared.index.Stream.{Stream}
use Rattle.field.specs.declared.index.Stream.TheVariants as stream
use Rattle.field.specs.declared.index.ItemIndex.{ItemIndex}
use Rattle.field.specs.declared.index.ItemIndex.TheVariants as index
use Rattle.stream_item.specs.declared.Entry.{Entry}
use Rattle.stream_item.specs.declared.Entry.TheVariants as entry
use Rattle.stream_item.specs.declared.iter.ItemIter.{ItemIter}
use Rattle.stream_item.specs.declared.link.Hit.{Hit}
use Rattle.stream_item.specs.declared.link.Hit.TheVariants.{Landed, Missed}
use Rattle.stream_finder.specs.declared.Records.{Records}
use Rattle.stream_finder.specs.Finder.{State, block_of, distance, header_records, begun_in, begun_by, create_of, create_by, due, update_of, landed, look_of, find_of}
use Rattle.stream_index.specs.Walk.{updating, turn_of}
use Rattle.record_layout.specs.Fields.{Field, id, run, types, ids, read_fields, Shown}
use Rattle.record_layout.specs.Values.{nth, number_in as count_in, string_in}
use Rattle.record_layout.specs.Layouts.{type_index, count16, count32, Layout, type_leaves, id_leaves, member_leaves, method, read_record, record_of}
use Rattle.record_list.specs.Lists.{ElementValues, type_element, id_element, Step, step_to, in_counted, counted_by, counted_list, start_types, start_ids, start_of, counted_step, method_step, member_step, next_member, step_of, element_by, element_of}
use Rattle.record_list.specs.declared.ListCursor.{ListCursor}
use Rattle.record_parse.specs.Record.{payload_at, numbered_of, type_bytes, id_bytes, type_item, type_marker, item_of, marker_of, entry_of as parsed_of, parse_of}
use Rattle.claim_promises.specs.ByTable.{elsewhere, Refuses, FindRefuses, fits, gives, refuses}
use Rattle.claim_promises.proofs.ByTable.{by-pick, by-stop, by-then, within, wider}
use Rattle.claim_promises.proofs.ReadingRefuses.{fixed-refuses, padding-refuses, TakesAll, no_more, ◌&◌, free, fields-refuse, read-record-refuses, record-refuses, type-takes, member-takes, method-takes, id-takes}

-- Primitives: 8. Pointer words: 12

known-refuses : {A B : Type 0} (i : ℕ) (o : Option A) (f : A → Answer B) → ((a : A) → Refuses (8 ∷ []) (f a)) → Refuses (8 ∷ []) (known i o f)
unfolding fits among listed find in_table refusals
known-refuses i None f h = refuses refl
known-refuses i (Some a) f h = h a

pub primitive-refuses : (i : ℕ) → Refuses (8 ∷ []) (primitive_of i)
unfolding primitive_of fits among listed find in_table refusals
primitive-refuses i =
    by-pick (leb 0x1000 i) (refuses refl)
    (known-refuses i (find (i / 2 ^ 8 % 2 ^ 4) indirections) _ (λ d.
    known-refuses i (find (i % 2 ^ 8) kinds) _ (λ k. gives)))

good-refuses : {A : Type 0} (o : Option A) → Refuses (12 ∷ []) (good_or_12 o)
unfolding fits among listed find in_table refusals
good-refuses None = refuses refl
good-refuses (Some a) = gives

pub kind-refuses : (w : ℕ) → Refuses (12 ∷ []) (kind_of w)
unfolding kind_of
kind-refuses w = good-refuses (find (bits 0 4 w) pointer_kinds)

pub mode-refuses : (w : ℕ) → Refuses (12 ∷ []) (mode_of w)
unfolding mode_of
mode-refuses w = good-refuses (find (bits 5 7 w) pointer_modes)

pub to-member-refuses : (w : ℕ) → Refuses (12 ∷ []) (to_member_of w)
unfolding to_member_of
to-member-refuses w = by-then (mode-refuses w) (λ m. gives)

pub reference-refuses : (w : ℕ) → Refuses (12 ∷ []) (reference_of w)
unfolding reference_of
reference-refuses w = by-then (mode-refuses w) (λ m. gives)

pub pointer-size-refuses : (w : ℕ) → Refuses (12 ∷ []) (size_of w)
unfolding size_of
pointer-size-refuses w = by-pick (eqb (bits 13 18 w) 0) (by-then (kind-refuses w) (λ k. gives)) gives

-- Headers and what is made of them: 16, 1, 2, 3, 4, 5

abbrev pub of_headers : List ℕ
of_headers = 16 ∷ 1 ∷ 2 ∷ 3 ∷ 4 ∷ 5 ∷ []

pub header-refuses : (s : List ℕ) → Refuses of_headers (header_of s)
unfolding header_of fits among listed find in_table refusals
header-refuses s =
    by-stop (ltb longest (length s)) 16 refl
    (by-pick (eqb (length s) 0) gives
    (by-stop (ltb (length s) 56) 1 refl
    (by-stop (ltb (little_at 4 s 4) 56) 2 refl
    (by-stop (ltb 1024 (little_at 4 s 4)) 3 refl
    (by-stop (ltb (length s) (little_at 4 s 4)) 1 refl
    (by-stop (ltb (little_at 4 s 8) 4096) 4 refl
    (by-stop (ltb (little_at 4 s 12) (little_at 4 s 8)) 5 refl
    gives)))))))

pub iter-refuses : (tag : Stream) (s : List ℕ) → Refuses of_headers (iter_of tag s)
unfolding iter_of
iter-refuses tag s = by-then (header-refuses s) (λ h. gives)

pub len-refuses : (s : List ℕ) → Refuses of_headers (len_of s)
unfolding len_of
len-refuses s = by-then (header-refuses s) (λ h. gives)

pub fit-refuses : (s : List ℕ) → Refuses of_headers (fit_of s)
unfolding fit_of
fit-refuses s = by-then (header-refuses s) (λ h. by-then (iter-refuses stream.Types s) (λ c. gives))

pub is-empty-refuses : (s : List ℕ) → Refuses of_headers (is_empty_of s)
unfolding is_empty_of
is-empty-refuses s = by-then (len-refuses s) (λ n. gives)

-- The iterator: 16, 1, 6, 7

pub next-refuses : (s : List ℕ) (c : ItemIter) → Refuses (16 ∷ 1 ∷ 6 ∷ 7 ∷ []) (next_of s c)
unfolding next_of fits among listed find in_table refusals
next-refuses s c =
    by-stop (ltb longest (length s)) 16 refl
    (by-stop (ltb (length s) c.at) 1 refl
    (by-pick (leb (length s) c.at) gives
    (by-stop (ltb (length s) (c.at + 2)) 1 refl
    (by-stop (ltb (little_at 2 s c.at) 2) 6 refl
    (by-stop (ltb (length s) (c.at + 2 + little_at 2 s c.at)) 1 refl
    (by-stop (leb 4294967295 c.index) 7 refl
    gives))))))

-- Views: 16, 1, 8; kinds: 16, 1

short-refuses : {A : Type 0} (ns t p : List ℕ) {a : Answer A} → fits elsewhere ns 16 [] ≡ true → Refuses ns a → Refuses ns (short_of t p a)
short-refuses ns t p h r = by-stop (ltb longest (length t)) 16 h (by-stop (ltb longest (length p)) 16 h r)

entry-refuses : (t p : List ℕ) (e : Entry) → Refuses (16 ∷ 1 ∷ 8 ∷ []) (entry_part t p e)
unfolding part_of fits among listed find in_table refusals
entry-refuses t p (entry.Record i) = by-stop (ltb (length (stream_named t p i.index)) (i.place + i.length)) 1 refl gives
entry-refuses t p (entry.Marker i) = refuses refl

pub view-refuses : (t p : List ℕ) (e : Entry) → Refuses (16 ∷ 1 ∷ 8 ∷ []) (view_of t p e)
unfolding fits among listed find in_table refusals
view-refuses t p e = short-refuses _ t p refl (entry-refuses t p e)

kind-in-refuses : (t p : List ℕ) (e : Entry) → Refuses (16 ∷ 1 ∷ []) (kind_in t p e)
unfolding kind_at fits among listed find in_table refusals
kind-in-refuses t p (entry.Record i) =
    by-stop (ltb (length (stream_named t p i.index)) (i.place + i.length)) 1 refl
    (by-stop (ltb i.length 2) 1 refl
    gives)
kind-in-refuses t p (entry.Marker i) = gives

pub raw-kind-refuses : (t p : List ℕ) (e : Entry) → Refuses (16 ∷ 1 ∷ []) (raw_kind_of t p e)
unfolding fits among listed find in_table refusals
raw-kind-refuses t p e = short-refuses _ t p refl (kind-in-refuses t p e)

-- The finder

abbrev pub of_creation : List ℕ
of_creation = 16 ∷ 1 ∷ 2 ∷ 3 ∷ 4 ∷ 5 ∷ 13 ∷ []

begun-refuses : (t : List ℕ) (h : Header) → Refuses of_creation (begun_by 3 t h)
unfolding begun_by fits among listed find in_table refusals
begun-refuses t h = by-pick (ltb h.minimum_index h.maximum_index) (by-stop (leb (length t) 0) 13 refl gives) gives

pub create-refuses : (s t : List ℕ) → Refuses of_creation (create_of s t)
unfolding create_by within among
create-refuses s t = by-then (wider refl (header-refuses s)) (λ h. begun-refuses t h)

abbrev pub of_creation_by : List ℕ
of_creation_by = 16 ∷ 1 ∷ 2 ∷ 3 ∷ 4 ∷ 5 ∷ 26 ∷ 13 ∷ []

-- of any records
pub begun-in-refuses : (shift : ℕ) (t : List ℕ) (r : Records) → Refuses (26 ∷ 13 ∷ []) (begun_in shift t r)
unfolding fits among listed find in_table refusals
begun-in-refuses shift t r =
    by-stop (ltb 6 shift) 26 refl
    (by-pick (ltb r.minimum r.maximum) (by-stop (leb (length t) 0) 13 refl gives) gives)

begun-by-refuses : (shift : ℕ) (t : List ℕ) (h : Header) → Refuses of_creation_by (begun_by shift t h)
unfolding begun_by within among
begun-by-refuses shift t h = wider refl (begun-in-refuses shift t (header_records h))

pub create-by-refuses : (shift : ℕ) (s t : List ℕ) → Refuses of_creation_by (create_by shift s t)
unfolding create_by within among
create-by-refuses shift s t = by-then (wider refl (header-refuses s)) (λ h. begun-by-refuses shift t h)

pub update-refuses : (σ : State) (c : ItemIter) → Refuses (16 ∷ 26 ∷ 13 ∷ 14 ∷ []) (update_of σ c)
unfolding update_of fits among listed find in_table refusals
update-refuses σ c =
    by-stop (ltb longest c.at) 16 refl
    (by-stop (ltb 6 σ.finder.shift) 26 refl
    (by-stop (ltb (length σ.table) σ.finder.held) 13 refl
    (by-stop (ltb c.index σ.finder.minimum_index) 14 refl
    (by-pick (due σ.finder c.index)
    (by-stop (leb (length σ.table) σ.finder.held) 13 refl gives)
    gives))))

abbrev pub of_find : List ℕ
of_find = 16 ∷ 26 ∷ 13 ∷ 8 ∷ 9 ∷ 1 ∷ []

landed-refuses : (i : ItemIndex) (k : ℕ) (h : Hit) → FindRefuses of_find (landed i k h)
unfolding fits among listed find in_table refusals
landed-refuses i k (Landed p n) = gives
landed-refuses i k (Missed j) = refuses refl

look-refuses : (s : List ℕ) (σ : State) (i : ItemIndex) (n : ℕ) → FindRefuses of_find (look_of s σ i n)
unfolding look_of fits among listed find in_table refusals
look-refuses s σ i n =
    by-stop (ltb longest (length s)) 16 refl
    (by-stop (ltb 6 σ.finder.shift) 26 refl
    (by-stop (ltb (length σ.table) σ.finder.held) 13 refl
    (by-pick (ltb n σ.finder.minimum_index) gives
    (by-pick (ltb σ.finder.maximum_index n) (refuses refl)
    (by-pick (leb σ.finder.held (distance σ.finder n / block_of σ.finder)) (refuses refl)
    (landed-refuses i (distance σ.finder n % block_of σ.finder)
    (link_of s (get_or σ.table (distance σ.finder n / block_of σ.finder) 0) (distance σ.finder n % block_of σ.finder))))))))

pub find-refuses : (s : List ℕ) (σ : State) (i : ItemIndex) → FindRefuses of_find (find_of s σ i)
find-refuses s σ i = look-refuses s σ i (index_number i)

abbrev pub of_turns : List ℕ
of_turns = 16 ∷ 1 ∷ 6 ∷ 7 ∷ 26 ∷ 13 ∷ 14 ∷ []

updating-refuses : (σ : State) (x : Next) → Refuses of_turns (updating σ x)
unfolding within among
updating-refuses σ done = gives
updating-refuses σ (yielded i d) = by-then (wider refl (update-refuses σ d)) (λ τ. gives)

pub turn-refuses : (s : List ℕ) (σ : State) (c : ItemIter) → Refuses of_turns (turn_of s σ c)
unfolding turn_of within among
turn-refuses s σ c = by-then (wider refl (next-refuses s c)) (λ x. updating-refuses σ x)

-- Records

pub type-refuses : (s : List ℕ) → Refuses (1 ∷ 10 ∷ 11 ∷ 12 ∷ []) (record_of type_leaves s)
unfolding within among
type-refuses s = record-refuses _ type_leaves refl refl type-takes s

pub id-refuses : (s : List ℕ) → Refuses (1 ∷ 10 ∷ []) (record_of id_leaves s)
unfolding within among
id-refuses s = record-refuses _ id_leaves refl refl id-takes s

pub member-refuses : (s : List ℕ) (p : ℕ) → Refuses (1 ∷ 10 ∷ 11 ∷ []) (read_record member_leaves s p)
unfolding within among
member-refuses s p = read-record-refuses _ member_leaves refl refl member-takes s p

pub method-refuses : (s : List ℕ) (p : ℕ) → Refuses (1 ∷ []) (read_fields method 0 s p)
method-refuses s p = fields-refuse _ method 0 s p method-takes

-- Lists

counted-by-refuses : (fs : Layout) (leaf : ℕ) (s : List ℕ) (p : ℕ) → TakesAll (1 ∷ 10 ∷ []) fs → Refuses (1 ∷ 10 ∷ []) (counted_by fs leaf s p)
unfolding counted_by
counted-by-refuses fs leaf s p h = by-then (fields-refuse _ fs 0 s p h) (λ g. gives)

pub start-types-refuses : (s : List ℕ) → Refuses (1 ∷ 10 ∷ []) (start_types s)
unfolding start_types counted_list type_leaves fits within among listed find in_table refusals
start-types-refuses s =
    by-then (wider refl (fixed-refuses 2 s 0)) (λ g.
    by-pick (eqb g.value 0x1201) (counted-by-refuses _ 0x1201 s g.next (free & refl & no_more))
    (by-pick (eqb g.value 0x1206) gives
    (by-pick (eqb g.value 0x1203) gives
    (refuses refl))))

pub start-ids-refuses : (s : List ℕ) → Refuses (1 ∷ 10 ∷ []) (start_ids s)
unfolding start_ids counted_list id_leaves fits within among listed find in_table refusals
start-ids-refuses s =
    by-then (wider refl (fixed-refuses 2 s 0)) (λ g.
    by-pick (eqb g.value 0x1603) (counted-by-refuses _ 0x1603 s g.next (free & refl & no_more))
    (by-pick (eqb g.value 0x1604) (counted-by-refuses _ 0x1604 s g.next (free & refl & no_more))
    (refuses refl)))

pub start-refuses : (tag : Stream) (s : List ℕ) → Refuses (1 ∷ 10 ∷ []) (start_of tag s)
unfolding start_of
start-refuses stream.Types s = start-types-refuses s
start-refuses stream.Ids s = start-ids-refuses s

abbrev pub of_id_steps : List ℕ
of_id_steps = 15 ∷ 1 ∷ 10 ∷ []

abbrev pub of_steps : List ℕ
of_steps = 15 ∷ 1 ∷ 10 ∷ 11 ∷ []

counted-step-refuses : (f : Field) (entry : List Shown → ElementValues) (leaf : ℕ) (s : List ℕ) (p left : ℕ) → TakesAll of_id_steps (f ∷ []) → Refuses of_id_steps (counted_step f entry leaf s p left)
unfolding counted_step fits among listed find in_table refusals
counted-step-refuses f entry leaf s p left h = by-stop (eqb left 0) 15 refl (by-then (fields-refuse _ (f ∷ []) 0 s p h) (λ g. gives))

method-step-refuses : (s : List ℕ) (p : ℕ) → Refuses of_steps (method_step s p)
unfolding method_step fits within among listed find in_table refusals
method-step-refuses s p = by-stop (leb (length s) p) 15 refl (by-then (wider refl (method-refuses s p)) (λ g. gives))

member-step-refuses : (s : List ℕ) (p : ℕ) → Refuses of_steps (member_step s p)
unfolding member_step fits within among listed find in_table refusals
member-step-refuses s p = by-stop (leb (length s) p) 15 refl (by-then (wider refl (member-refuses s p)) (λ g. gives))

next-member-refuses : (s : List ℕ) (p left : ℕ) (padded : Bool) → Refuses of_steps (next_member s p left padded)
unfolding next_member fits within among listed find in_table refusals
next-member-refuses s p left padded =
    by-stop (eqb left 0) 15 refl
    (by-then (by-pick padded (wider refl (padding-refuses s p)) gives) (λ q.
    member-step-refuses s q))

pub step-refuses : (s : List ℕ) (c : ListCursor) → Refuses of_steps (step_of s c)
unfolding step_of fits within among listed find in_table refusals
step-refuses s c =
    by-pick (eqb c.leaf 0x1201) (wider refl (counted-step-refuses type_index type_element 0x1201 s c.at c.left (refl & no_more)))
    (by-pick (eqb c.leaf 0x1206) (method-step-refuses s c.at)
    (by-pick (eqb c.leaf 0x1203) (next-member-refuses s c.at c.left c.padded)
    (by-pick (eqb c.leaf 0x1603) (wider refl (counted-step-refuses id id_element 0x1603 s c.at c.left (refl & no_more)))
    (by-pick (eqb c.leaf 0x1604) (wider refl (counted-step-refuses type_index type_element 0x1604 s c.at c.left (refl & no_more)))
    (refuses refl)))))

pub element-by-refuses : (s : List ℕ) (k : ℕ) (c : ListCursor) → Refuses of_steps (element_by (step_of s) k c)
unfolding element_by
element-by-refuses s zero c = by-then (step-refuses s c) (λ x. gives)
element-by-refuses s (suc k) c = by-then (step-refuses s c) (λ x. element-by-refuses s k x.next)

pub element-refuses : (tag : Stream) (s : List ℕ) (k : ℕ) → Refuses of_steps (element_of tag s k)
unfolding element_of within among
element-refuses tag s k = by-then (wider refl (start-refuses tag s)) (λ c. element-by-refuses s k c)

-- The lists of id records have no numeric leaf: never 11. A counted list goes on as the list that it is
data Stays (leaf : ℕ) : Answer Step → Type 0 where
  stays : {e : ElementValues} {p n : ℕ} → Stays leaf (answered (record { element = e; next = in_counted leaf p n }))
  ends : {n : ℕ} {d : List ℕ} → fits elsewhere of_id_steps n d ≡ true → Stays leaf (refused n d)

counted-stays : (f : Field) (element : List Shown → ElementValues) (leaf : ℕ) (s : List ℕ) (p left : ℕ) → TakesAll of_id_steps (f ∷ [])
    → Stays leaf (counted_step f element leaf s p left)
unfolding counted_step fits among listed find in_table refusals
counted-stays f element leaf s p left h = go (eqb left 0) (fields-refuse _ (f ∷ []) 0 s p h)
  where
    read : {a : Read (List Shown)} → Refuses of_id_steps a → Stays leaf (and_then a (λ vs e. step_to (element vs) (in_counted leaf e (left - 1))))
    read gives = stays
    read (refuses q) = ends q

    go : (b : Bool) {a : Read (List Shown)} → Refuses of_id_steps a → Stays leaf (stop b 15 (and_then a (λ vs e. step_to (element vs) (in_counted leaf e (left - 1)))))
    go true r = ends refl
    go false r = read r

-- element k, of a list whose steps are those of a counted list
module _ (s : List ℕ) (f : Field) (element : List Shown → ElementValues) (leaf : ℕ)
    (goes : (p left : ℕ) → step_of s (in_counted leaf p left) ≡ counted_step f element leaf s p left) (h : TakesAll of_id_steps (f ∷ [])) where
  counted-elements-refuse : (k p left : ℕ) → Refuses of_id_steps (element_by (step_of s) k (in_counted leaf p left))
  unfolding element_by
  counted-elements-refuse zero p left = rw (goes p left) (by-then (counted-step-refuses f element leaf s p left h) (λ x. gives))
  counted-elements-refuse (suc k) p left = rw (goes p left) (go_on (counted-elements-refuse k) (counted-stays f element leaf s p left h))
    where
      go_on : ((q n : ℕ) → Refuses of_id_steps (element_by (step_of s) k (in_counted leaf q n)))
          → {a : Answer Step} → Stays leaf a → Refuses of_id_steps (then a (λ x. element_by (step_of s) k x.next))
      go_on later stays = later _ _
      go_on later (ends q) = refuses q

data Started : Answer ListCursor → Type 0 where
  of_ids : {p n : ℕ} → Started (answered (in_counted 0x1603 p n))
  of_types : {p n : ℕ} → Started (answered (in_counted 0x1604 p n))
  nowhere : {n : ℕ} {d : List ℕ} → fits elsewhere of_id_steps n d ≡ true → Started (refused n d)

started : (s : List ℕ) → Started (start_ids s)
unfolding start_ids counted_list counted_by id_leaves fits within among listed find in_table refusals
started s = leaf-read (wider refl (fixed-refuses 2 s 0))
  where
    ids-read : {a : Read (List Shown)} → Refuses of_id_steps a
        → Started (and_then a (λ vs e. answered (in_counted 0x1603 (string_in (nth 1 vs)).place (count_in (nth 0 vs)))))
    ids-read gives = of_ids
    ids-read (refuses q) = nowhere q

    types-read : {a : Read (List Shown)} → Refuses of_id_steps a
        → Started (and_then a (λ vs e. answered (in_counted 0x1604 (string_in (nth 1 vs)).place (count_in (nth 0 vs)))))
    types-read gives = of_types
    types-read (refuses q) = nowhere q

    either-list : (b : Bool) {x y : Answer ListCursor} → Started x → Started y → Started (pick b x y)
    either-list true x y = x
    either-list false x y = y

    by-leaf : (leaf p : ℕ) → Started (pick (eqb leaf 0x1603) (counted_list id_leaves 0x1603 s p) (pick (eqb leaf 0x1604) (counted_list id_leaves 0x1604 s p) (refused 10 (leaf ∷ []))))
    by-leaf leaf p =
        either-list (eqb leaf 0x1603) (ids-read (fields-refuse _ (count16 ∷ run ids ∷ []) 0 s p (free & refl & no_more)))
        (either-list (eqb leaf 0x1604) (types-read (fields-refuse _ (count32 ∷ run types ∷ []) 0 s p (free & refl & no_more)))
        (nowhere refl))

    leaf-read : {a : Read ℕ} → Refuses of_id_steps a
        → Started (and_then a (λ leaf p. pick (eqb leaf 0x1603) (counted_list id_leaves 0x1603 s p) (pick (eqb leaf 0x1604) (counted_list id_leaves 0x1604 s p) (refused 10 (leaf ∷ [])))))
    leaf-read (gives {a = g}) = by-leaf g.value g.next
    leaf-read (refuses q) = nowhere q

pub element-ids-refuses : (s : List ℕ) (k : ℕ) → Refuses of_id_steps (element_of stream.Ids s k)
unfolding element_of start_of step_of within among
element-ids-refuses s k = from (started s)
  where
    from : {a : Answer ListCursor} → Started a → Refuses of_id_steps (then a (λ c. element_by (step_of s) k c))
    from of_ids = counted-elements-refuse s id id_element 0x1603 (λ p left. refl) (refl & no_more) k _ _
    from of_types = counted-elements-refuse s type_index type_element 0x1604 (λ p left. refl) (refl & no_more) k _ _
    from (nowhere q) = refuses q

-- Entries

abbrev pub of_items : List ℕ
of_items = 1 ∷ 8 ∷ 10 ∷ 11 ∷ 12 ∷ []

abbrev pub of_entries : List ℕ
of_entries = 16 ∷ of_items

numbered-refuses : (i : ℕ) → Refuses of_items (numbered_of i)
unfolding within among
numbered-refuses i = by-then (wider refl (primitive-refuses i)) (λ t. gives)

type-bytes-refuses : (s : List ℕ) (p n : ℕ) → Refuses of_items (type_bytes s p n)
unfolding type_bytes fits within among listed find in_table refusals
type-bytes-refuses s p n = by-stop (ltb (length s) (p + n)) 1 refl (by-then (wider refl (type-refuses (payload_at s p n))) (λ vs. gives))

id-bytes-refuses : (s : List ℕ) (p n : ℕ) → Refuses of_items (id_bytes s p n)
unfolding id_bytes fits within among listed find in_table refusals
id-bytes-refuses s p n = by-stop (ltb (length s) (p + n)) 1 refl (by-then (wider refl (id-refuses (payload_at s p n))) (λ vs. gives))

item-refuses : (t s : List ℕ) (i : ItemIndex) (p n : ℕ) → Refuses of_items (item_of t s i p n)
unfolding type_item
item-refuses t s (index.Types i) p n = by-pick (ltb i.0 0x1000) (numbered-refuses i.0) (type-bytes-refuses t p n)
item-refuses t s (index.Ids i) p n = id-bytes-refuses s p n

marker-refuses : (i : ItemIndex) → Refuses of_items (marker_of i)
unfolding type_marker fits among listed find in_table refusals
marker-refuses (index.Types i) = by-pick (ltb i.0 0x1000) (numbered-refuses i.0) (refuses refl)
marker-refuses (index.Ids i) = refuses refl

pub parsed-refuses : (t s : List ℕ) (e : Entry) → Refuses of_items (parsed_of t s e)
parsed-refuses t s (entry.Record i) = item-refuses t s i.index i.place i.length
parsed-refuses t s (entry.Marker i) = marker-refuses i

pub parse-refuses : (t s : List ℕ) (e : Entry) → Refuses of_entries (parse_of t s e)
unfolding parse_of fits within among listed find in_table refusals
parse-refuses t s e = short-refuses _ t s refl (wider refl (parsed-refuses t s e))
