-- The elements of the two counted id lists, which the crate gives as a `Vec` and the port's list reader one at a time: element k is the crate's, and
-- 15 where its `Vec` has none. Assumes nothing.
use Rattle.std.specs.Prelude.{Option, None, Some, slice_get}
use Prim.Native.Nat.{ℕ, zero, suc, ◌+◌, ◌-◌, ◌*◌, ◌≤◌}
use mathlib.Core.Path.{◌≡◌, refl}
use mathlib.Core.Bool.{false}
use mathlib.Core.List.{List, [], ◌∷◌}
use native.Mathlib.Omega.{arith}
use lib.ListN.{length}
use lib.Dec.{eqb}
use borrow.Author.Tests.{le-ltb, lt-ltb, ne_eqb}
use Rattle.answer.specs.Answer.{Answer, answered, refused}
use Rattle.answer.specs.Tables.{find}
use Rattle.field.specs.Fields.{little_at}
use Rattle.field.specs.Runs.{bytes_after}
use Rattle.record_layout.specs.Layouts.{id_leaves}
use Rattle.record_layout.specs.Fields.{number, Shown, read_field_by, read_fields_by}
use Rattle.record_list.specs.Lists.{ElementValues, type_element, id_element, in_counted, counted_by, counted_list, start_of, start_ids, counted_step, step_of, element_by, element_of}
use Rattle.field.specs.declared.index.Stream.TheVariants as stream
use Rattle.claim_model.specs.Rust.{gives, ◌>>=◌, match}
use Rattle.claim_model.specs.TpiId.{build_info_id, string_list_id, id_by_leaf, try_from_ctx, parse_id}
use Rattle.claim_model.specs.Equal.{Same}
use Rattle.claim_model.specs.Shown.{elements}
use Rattle.claim_model.specs.EntryShown.{vec_of, as_element}
use Rattle.claim_model.proofs.BufferLaws.{parse-in, parse-out, fixed_in, fixed_out, same, same_end, by_order}
use Rattle.claim_model.proofs.IdEqual.{pushed-in, pushed-out}

-- what the reader gives for an element of a list, or past its end
abbrev chosen : (List Shown → ElementValues) → Option ℕ → Answer ElementValues
chosen entry None = refused 15 []
chosen entry (Some n) = answered (entry (number n ∷ []))

module _ (s : List ℕ) where
  left : (n : ℕ) → eqb (suc n) 0 ≡ false
  left n = ne_eqb (suc n) 0 (λ (e : suc n ≡ 0). omega arith)

  ids_at : (k n p : ℕ) → p + 4 * n ≤ length s → element_by (step_of s) k (in_counted 0x1603 p n) ≡ chosen id_element (slice_get (elements n s p) k)
  unfolding element_by step_of counted_step read_fields_by read_field_by elements
  ids_at zero zero p h = refl
  ids_at (suc k) zero p h = refl
  ids_at zero (suc n) p h = rw (left n, fixed_in s p 4 (omega arith))
  ids_at (suc k) (suc n) p h =
      let e : suc n - 1 ≡ n = omega arith in
      rw (left n, fixed_in s p 4 (omega arith), e) (ids_at k n (p + 4) (omega arith))

  types-at : (k n p : ℕ) → p + 4 * n ≤ length s → element_by (step_of s) k (in_counted 0x1604 p n) ≡ chosen type_element (slice_get (elements n s p) k)
  unfolding element_by step_of counted_step read_fields_by read_field_by elements
  types-at zero zero p h = refl
  types-at (suc k) zero p h = refl
  types-at zero (suc n) p h = rw (left n, fixed_in s p 4 (omega arith))
  types-at (suc k) (suc n) p h =
      let e : suc n - 1 ≡ n = omega arith in
      rw (left n, fixed_in s p 4 (omega arith), e) (types-at k n (p + 4) (omega arith))

  id-chosen : (o : Option ℕ) → Same (gives o) (as_element (chosen id_element o))
  id-chosen None = same _
  id-chosen (Some n) = same _

  type-chosen : (o : Option ℕ) → Same (gives o) (as_element (chosen type_element o))
  type-chosen None = same _
  type-chosen (Some n) = same _

  abbrev Listed : ℕ → Type 0
  Listed k = Same (◌>>=◌ (parse_id s) λ d. gives (slice_get (vec_of d) k)) (as_element (element_of stream.Ids s k))

  pub build-elements : little_at 2 s 0 ≡ 0x1603 → (k : ℕ) → Listed k
  unfolding parse_id try_from_ctx id_by_leaf match build_info_id element_of start_of start_ids counted_list counted_by find id_leaves read_fields_by read_field_by bytes_after
  build-elements leaf k =
      by_order 2 (length s)
      (λ h. rw (parse-in s 0 2 h, fixed_in s 0 2 h, leaf)
      (by_order 4 (length s)
      (λ a. rw (parse-in s 2 2 a, fixed_in s 2 2 a)
      (by_order (4 + 4 * little_at 2 s 2) (length s)
      (λ b. rw (pushed-in s (little_at 2 s 2) [] 4 b, le-ltb _ _ b, ids_at k (little_at 2 s 2) 4 b) (id-chosen (slice_get (elements (little_at 2 s 2) s 4) k)))
      (λ b. rw (pushed-out s (little_at 2 s 2) [] 4 a b, lt-ltb _ _ b) same_end)))
      (λ a. rw (parse-out s 2 2 a, fixed_out s 2 2 a) same_end)))
      (λ h. rw (parse-out s 0 2 h, fixed_out s 0 2 h) same_end)

  pub string-elements : little_at 2 s 0 ≡ 0x1604 → (k : ℕ) → Listed k
  unfolding parse_id try_from_ctx id_by_leaf match string_list_id element_of start_of start_ids counted_list counted_by find id_leaves read_fields_by read_field_by bytes_after
  string-elements leaf k =
      by_order 2 (length s)
      (λ h. rw (parse-in s 0 2 h, fixed_in s 0 2 h, leaf)
      (by_order 6 (length s)
      (λ a. rw (parse-in s 2 4 a, fixed_in s 2 4 a)
      (by_order (6 + 4 * little_at 4 s 2) (length s)
      (λ b. rw (pushed-in s (little_at 4 s 2) [] 6 b, le-ltb _ _ b, types-at k (little_at 4 s 2) 6 b) (type-chosen (slice_get (elements (little_at 4 s 2) s 6) k)))
      (λ b. rw (pushed-out s (little_at 4 s 2) [] 6 a b, lt-ltb _ _ b) same_end)))
      (λ a. rw (parse-out s 2 4 a, fixed_out s 2 4 a) same_end)))
      (λ h. rw (parse-out s 0 2 h, fixed_out s 0 2 h) same_end)
