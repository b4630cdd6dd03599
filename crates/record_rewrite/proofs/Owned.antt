-- The main law of a record by its leaf's layout: a member of 0x1203, and every type record. Assumes nothing.
use Rattle.std.specs.Prelude.{Option, None, Some}
use Prim.Native.Nat.{ℕ, ◌+◌, ◌≤◌}
use mathlib.Core.Path.{◌≡◌, refl}
use mathlib.Core.List.{List, [], ◌∷◌}
use lib.ListN.{length}
use Rattle.answer.specs.Answer.{got, and_then}
use Rattle.answer.specs.Tables.{find}
use Rattle.field.specs.Fields.{fixed_at}
use Rattle.field.proofs.FieldLaws.{field-got}
use Rattle.record_layout.specs.Fields.{Shown, number, read_fields}
use Rattle.record_layout.specs.Layouts.{Layout, Table, by_layout, read_leaf, read_record}
use Rattle.record_member.specs.Said.{member_leaf}
use Rattle.record_reference.specs.References.{by_refs, refs_leaf, refs_record}
use Rattle.record_rewrite.specs.Rewrite.{Within, Moved, moved_by, moved_record}
use Rattle.record_reference.proofs.ValueLaws.{no_answer}
use Rattle.record_rewrite.proofs.Taken.{from, same-value, same_place}
use Rattle.record_rewrite.proofs.Settled.{fixed-settled}
use Rattle.record_rewrite.proofs.Places.{within-sooner, moved-left, moved-right}
use Rattle.record_rewrite.proofs.Carried.{Owned, fields-carried}

module _ (f : ℕ → ℕ) (table : Table) (s : List ℕ) where
  -- the fields behind the leaf
  pub leaf-owned : (leaf p : ℕ) (vs : List Shown) (e : ℕ) → p ≤ length s → read_leaf table leaf s p ≡ got vs e
      → Owned f s 0 p (moved_record f table vs) e (λ t. read_leaf table leaf t p) (λ t. refs_leaf table leaf t p)
  unfolding read_leaf refs_leaf moved_record
  leaf-owned leaf p vs e l h = go (find leaf table) refl h
    where
      with-leaf : (fs : Layout) → find leaf table ≡ Some fs → (us : List Shown) (d : ℕ) → read_fields fs 0 s p ≡ got us d
          → Owned f s 0 p (moved_by f (find leaf table) (number leaf ∷ us)) d (λ t. by_layout (find leaf table) leaf t p) (λ t. by_refs (find leaf table) leaf t p)
      with-leaf fs i us d g =
          let o = fields-carried f s fs 0 p us d l g in
          rw i (record {
            refs = o.refs;
            are = o.are;
            free = o.free;
            carried = record { within = o.carried.within; inside = o.carried.inside; stands = o.carried.stands; reads = λ t l m. rw (o.carried.reads t l m); names = o.carried.names };
          })

      go : (o : Option Layout) → find leaf table ≡ o → by_layout o leaf s p ≡ got vs e
          → Owned f s 0 p (moved_by f (find (member_leaf vs) table) vs) e (λ t. by_layout (find leaf table) leaf t p) (λ t. by_refs (find leaf table) leaf t p)
      go None i g = no_answer g
      go (Some fs) i g =
          let u = from (read_fields fs 0 s p) (λ us d. got (number leaf ∷ us) d) _ g in
          to u.value u.place u.was vs e (same-value (number leaf ∷ u.value) vs u.place e u.gives) (same_place (number leaf ∷ u.value) vs u.place e u.gives)
        where
          to : (us : List Shown) (d : ℕ) → read_fields fs 0 s p ≡ got us d → (vs : List Shown) (e : ℕ) → number leaf ∷ us ≡ vs → d ≡ e
              → Owned f s 0 p (moved_by f (find (member_leaf vs) table) vs) e (λ t. by_layout (find leaf table) leaf t p) (λ t. by_refs (find leaf table) leaf t p)
          to us d h vs e x y = rw (← x, ← y) (with-leaf fs i us d h)

  -- and the leaf before them, which is no reference
  pub record-owned : (p : ℕ) (vs : List Shown) (e : ℕ) → read_record table s p ≡ got vs e
      → Owned f s 2 p (moved_record f table vs) e (λ t. read_record table t p) (λ t. refs_record table t p)
  unfolding read_record refs_record Within Moved
  record-owned p vs e h =
      let u = from (fixed_at 2 s p) (λ leaf q. read_leaf table leaf s q) _ h in
      go u.value u.place u.was u.gives
    where
      go : (leaf q : ℕ) → fixed_at 2 s p ≡ got leaf q → read_leaf table leaf s q ≡ got vs e
          → Owned f s 2 p (moved_record f table vs) e (λ t. and_then (fixed_at 2 t p) (λ leaf q. read_leaf table leaf t q)) (λ t. and_then (fixed_at 2 t p) (λ leaf q. refs_leaf table leaf t q))
      go leaf q i g =
          let a = fixed-settled 2 s p leaf q i in
          let n : q ≡ p + 2 = (field-got 2 s p leaf q i).next in
          let o = leaf-owned leaf q vs e a.inside g in
          let c = o.carried in
          let w : Within p [] q = a.onward in
          record {
            refs = o.refs;
            are = rw (i, o.are);
            free = rw (← n) c.within;
            carried = record {
              within = within-sooner o.refs p q e a.onward c.within;
              inside = c.inside;
              stands = c.stands;
              reads = λ t l m. rw (a.alike t l (moved-left f s t [] o.refs p q e w c.within m), c.reads t l (moved-right f s t [] o.refs p q e w m));
              names = λ t l m. rw (a.alike t l (moved-left f s t [] o.refs p q e w c.within m), c.names t l (moved-right f s t [] o.refs p q e w m));
            };
          }
