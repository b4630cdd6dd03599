-- What an item says: a type item below 0x1000 is a primitive, every id item is read by its bytes, the marker's too. Assumes nothing.
use Prim.Native.Nat.{ℕ, ◌<◌}
use mathlib.Core.Path.{◌≡◌, refl}
use mathlib.Core.List.{List, [], ◌∷◌}
use native.Mathlib.Omega.{arith}
use lib.ListN.{length, take as front, drop}
use borrow.Author.Tests.{le-ltb, lt-ltb}
use Rattle.answer.specs.Answer.{Answer, answered, refused, then}
use Rattle.field.specs.Fields.{little_at, fixed_at}
use Rattle.field.specs.declared.index.TypeIndex.{TypeIndex}
use Rattle.field.specs.declared.index.IdIndex.{IdIndex}
use Rattle.answer.specs.Tables.{find}
use Rattle.word_primitive.specs.Primitive.{primitive_of}
use Rattle.word_primitive.specs.declared.PrimitiveType.{PrimitiveType as PortPrimitive}
use Rattle.record_layout.specs.Fields.{Shown}
use Rattle.record_layout.specs.Layouts.{id_leaves, read_leaf, leaf_of, record_of}
use Rattle.stream_item.specs.Items.{index_of}
use Rattle.field.specs.declared.index.ItemIndex.TheVariants as index
use Rattle.stream_item.specs.declared.Entry.{Entry}
use Rattle.stream_item.specs.declared.Entry.TheVariants.{Record, Marker}
use Rattle.record_parse.specs.Record.{primitive, id, id_bytes, type_item, type_marker, parse_of}
use Rattle.claim_model.specs.TpiItems.{primitive_type}
use Rattle.claim_model.specs.TpiPrimitive.{type_data_for_primitive}
use Rattle.claim_model.specs.TpiId.{parse_id}
use Rattle.claim_model.specs.Equal.{Same, shown_by}
use Rattle.claim_model.specs.Shown.{entry_shown, primitive_shown, id_shown, LiesIn}
use Rattle.claim_model.specs.EntryShown.{as_id, primitive_parsed}
use Rattle.claim_model.proofs.PrimitiveEqual.{primitive-same}
use Rattle.claim_model.proofs.IdEqual.{id_same}
use Rattle.claim_model.specs.Turns.{Lent}
use Rattle.claim_model.proofs.ItemsEqual.{part_length}

as-id : (b : List ℕ) (a : Answer (List Shown)) → as_id b (then a (λ vs. answered (id vs))) ≡ shown_by (id_shown b) a
as-id b (answered vs) = refl
as-id b (refused n d) = refl

as-primitive : (a : Answer PortPrimitive) → primitive_parsed (then a (λ p. answered (primitive p))) ≡ shown_by primitive_shown a
as-primitive (answered p) = refl
as-primitive (refused n d) = refl

-- the marker's two bytes are a leaf that no reader takes
marker-same : Same (parse_id primitive_type) (refused 10 (0xffff ∷ []))
unfolding record_of fixed_at leaf_of read_leaf find id_leaves little_at
marker-same = id_same primitive_type (omega arith)

-- t and p are the TPI and the IPI stream
module _ (t p : List ℕ) (okt : Lent t) (okp : Lent p) where
  -- mod.rs 549
  pub id-items : (e : Entry) (j : IdIndex) → index_of e ≡ index.Ids j → LiesIn p e → Same (parse_id (entry_shown p e).bytes) (as_id (entry_shown p e).bytes (parse_of t p e))
  unfolding parse_of id_bytes
  id-items (Record r) j e w =
      let n : length (front r.length (drop r.place p)) ≡ r.length = part_length p r.place r.length w in
      rw (le-ltb _ _ okt.short, le-ltb _ _ okp.short, e, le-ltb _ _ w, as-id (front r.length (drop r.place p)) (record_of id_leaves (front r.length (drop r.place p))))
      (id_same (front r.length (drop r.place p)) (omega (arith, okp.short)))
  id-items (Marker i) j e w = rw (le-ltb _ _ okt.short, le-ltb _ _ okp.short, e) marker-same

  -- mod.rs 512, line 513
  pub type-items : (e : Entry) (j : TypeIndex) → index_of e ≡ index.Types j → j.0 < 0x1000 → Same (type_data_for_primitive j.0) (primitive_parsed (parse_of t p e))
  unfolding parse_of type_item type_marker
  type-items (Record r) j e h =
      rw (le-ltb _ _ okt.short, le-ltb _ _ okp.short, e, lt-ltb _ _ h, as-primitive (primitive_of j.0)) (primitive-same j.0 h)
  type-items (Marker i) j e h =
      rw (le-ltb _ _ okt.short, le-ltb _ _ okp.short, e, lt-ltb _ _ h, as-primitive (primitive_of j.0)) (primitive-same j.0 h)
