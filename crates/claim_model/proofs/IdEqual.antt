-- Ids: for all bytes of an id record the crate neither panics nor wraps, and its data is the port's, all seven leaves and every other.
-- Each read of the crate stands beside the port's, and both are there or both are not. Assumes nothing.
use Rattle.std.specs.Prelude.{Result, Ok, Err}
use Rattle.answer.specs.declared.Refusal.{Refusal}
use Prim.Native.Nat.{ℕ, zero, suc, ◌+◌, ◌*◌, ◌≤◌, ◌<◌}
use mathlib.Core.Path.{◌≡◌, refl, sym, ap, ◌∙◌, subst}
use mathlib.Core.List.{List, [], ◌∷◌, ◌++◌, append-nil, append_assoc}
use mathlib.Core.Bool.{Bool, true, false}
use native.Mathlib.Omega.{arith}
use lib.ListN.{length}
use lib.Dec.{eqb}
use borrow.Author.Tests.{le-ltb, lt-ltb, eqb-true}
use Rattle.answer.specs.Answer.{answered}
use Rattle.answer.specs.Tables.{find}
use Rattle.field.specs.Fields.{little_at}
use Rattle.field.specs.Indices.{no_id, optional_of, id_option}
use Rattle.field.specs.Runs.{bytes_after}
use Rattle.record_layout.specs.Fields.{read_field_by, read_fields_by}
use Rattle.record_layout.specs.Layouts.{id_leaves, read_leaf, leaf_of, record_of}
use Rattle.record_layout.proofs.OneOutcome.{option_back}
use Rattle.record_id.specs.Said.{source_values, id_values}
use Rattle.record_id.specs.declared.UserDefinedTypeSourceFileRef.{UserDefinedTypeSourceFileRef}
use Rattle.record_id.specs.declared.UserDefinedTypeSourceFileRef.TheVariants as file
use Rattle.record_id.specs.declared.IdData.{IdData}
use Rattle.record_id.specs.declared.IdData.TheVariants as id
use Rattle.claim_model.specs.Rust.{gives, errs, ◌>>=◌, match, unexpected_eof, usize_top}
use Rattle.claim_model.specs.ParseBuffer.{at}
use Rattle.claim_model.specs.TpiHelpers.{parse_string}
use Rattle.claim_model.specs.TpiId.{user_defined_type_source, function_id, member_function_id, pushed, build_info_id, string_list_id, string_id, source_line, id_by_leaf, try_from_ctx, parse_id}
use Rattle.claim_model.specs.Equal.{Same, shown_by}
use Rattle.claim_model.specs.Shown.{elements, id_shown, file_shown, id_data_shown, id_answer_shown}
use Rattle.claim_model.proofs.BufferLaws.{parse-in, parse-out, fixed_in, fixed_out, same, same_end, by_order}
use Rattle.claim_model.proofs.HelpersEqual.{id-in, id-out, optional-in, optional-out, by-text}
use Rattle.answer.specs.Refusals.{said}

-- ---- "A counted list is 1 unless four bytes per element are there": n reads of four bytes fail exactly where 4 n bytes are not left
module _ (s : List ℕ) where
  pub pushed-in : (n : ℕ) (vec : List ℕ) (p : ℕ) → p + 4 * n ≤ length s → pushed n vec (at s p) ≡ gives (vec ++ elements n s p, at s (p + 4 * n))
  unfolding pushed elements
  pushed-in zero vec p h = let e : p + 4 * 0 ≡ p = omega arith in rw (append-nil vec, e)
  pushed-in (suc n) vec p h =
      let e : p + 4 + 4 * n ≡ p + 4 * suc n = omega arith in
      rw (parse-in s p 4 (omega arith), pushed-in n (vec ++ (little_at 4 s p ∷ [])) (p + 4) (omega arith), e, append_assoc vec (little_at 4 s p ∷ []) (elements n s (p + 4)))

  pub pushed-out : (n : ℕ) (vec : List ℕ) (p : ℕ) → p ≤ length s → length s < p + 4 * n → pushed n vec (at s p) ≡ errs unexpected_eof
  unfolding pushed
  pushed-out zero vec p a h = absurd (omega arith)
  pushed-out (suc n) vec p a h =
      by_order (p + 4) (length s)
      (λ g. rw (parse-in s p 4 g) (pushed-out n (vec ++ (little_at 4 s p ∷ [])) (p + 4) g (omega arith)))
      (λ g. rw (parse-out s p 4 g))

  module _ (l : length s < usize_top) where
    -- the record behind its leaf
    abbrev Alike : ℕ → Type 0
    Alike leaf = Same (◌>>=◌ (◌>>=◌ (id_by_leaf leaf (at s 2)) λ (d, b). gives (d, b.pos)) λ (d, _). gives d) (shown_by (id_shown s) (leaf_of id_leaves leaf s 2))

    function : Alike 0x1601
    unfolding id_by_leaf match function_id parse_string leaf_of read_leaf find id_leaves read_fields_by read_field_by
    function =
        by_order 6 (length s)
        (λ a. rw (id-in s 2 a, optional-in s 2 no_id a)
        (by_order 10 (length s)
        (λ b. rw (parse-in s 6 4 b, fixed_in s 6 4 b)
        (by-text s l 10 b
        (λ n e f. rw (e, f, option_back (optional_of no_id (little_at 4 s 2))) (same _))
        (λ e f. rw (e, f) same_end)))
        (λ b. rw (parse-out s 6 4 b, fixed_out s 6 4 b) same_end)))
        (λ a. rw (id-out s 2 a, optional-out s 2 no_id a) same_end)

    member-function : Alike 0x1602
    unfolding id_by_leaf match member_function_id parse_string leaf_of read_leaf find id_leaves read_fields_by read_field_by
    member-function =
        by_order 6 (length s)
        (λ a. rw (parse-in s 2 4 a, fixed_in s 2 4 a)
        (by_order 10 (length s)
        (λ b. rw (parse-in s 6 4 b, fixed_in s 6 4 b)
        (by-text s l 10 b
        (λ n e f. rw (e, f) (same _))
        (λ e f. rw (e, f) same_end)))
        (λ b. rw (parse-out s 6 4 b, fixed_out s 6 4 b) same_end)))
        (λ a. rw (parse-out s 2 4 a, fixed_out s 2 4 a) same_end)

    build : Alike 0x1603
    unfolding id_by_leaf match build_info_id leaf_of read_leaf find id_leaves read_fields_by read_field_by bytes_after
    build =
        by_order 4 (length s)
        (λ a. rw (parse-in s 2 2 a, fixed_in s 2 2 a)
        (by_order (4 + 4 * little_at 2 s 2) (length s)
        (λ b. rw (pushed-in (little_at 2 s 2) [] 4 b, le-ltb _ _ b) (same _))
        (λ b. rw (pushed-out (little_at 2 s 2) [] 4 a b, lt-ltb _ _ b) same_end)))
        (λ a. rw (parse-out s 2 2 a, fixed_out s 2 2 a) same_end)

    strings : Alike 0x1604
    unfolding id_by_leaf match string_list_id leaf_of read_leaf find id_leaves read_fields_by read_field_by bytes_after
    strings =
        by_order 6 (length s)
        (λ a. rw (parse-in s 2 4 a, fixed_in s 2 4 a)
        (by_order (6 + 4 * little_at 4 s 2) (length s)
        (λ b. rw (pushed-in (little_at 4 s 2) [] 6 b, le-ltb _ _ b) (same _))
        (λ b. rw (pushed-out (little_at 4 s 2) [] 6 a b, lt-ltb _ _ b) same_end)))
        (λ a. rw (parse-out s 2 4 a, fixed_out s 2 4 a) same_end)

    string : Alike 0x1605
    unfolding id_by_leaf match string_id parse_string leaf_of read_leaf find id_leaves read_fields_by read_field_by
    string =
        by_order 6 (length s)
        (λ a. rw (id-in s 2 a, optional-in s 2 no_id a)
        (by-text s l 6 a
        (λ n e f. rw (e, f, option_back (optional_of no_id (little_at 4 s 2))) (same _))
        (λ e f. rw (e, f) same_end)))
        (λ a. rw (id-out s 2 a, optional-out s 2 no_id a) same_end)

    local-source : Alike 0x1606
    unfolding id_by_leaf match source_line leaf_of read_leaf find id_leaves read_fields_by read_field_by
    local-source =
        by_order 6 (length s)
        (λ a. rw (parse-in s 2 4 a, fixed_in s 2 4 a)
        (by_order 10 (length s)
        (λ b. rw (parse-in s 6 4 b, fixed_in s 6 4 b)
        (by_order 14 (length s)
        (λ c. rw (parse-in s 10 4 c, fixed_in s 10 4 c) (same _))
        (λ c. rw (parse-out s 10 4 c, fixed_out s 10 4 c) same_end)))
        (λ b. rw (parse-out s 6 4 b, fixed_out s 6 4 b) same_end)))
        (λ a. rw (parse-out s 2 4 a, fixed_out s 2 4 a) same_end)

    remote-source : Alike 0x1607
    unfolding id_by_leaf match source_line leaf_of read_leaf find id_leaves read_fields_by read_field_by
    remote-source =
        by_order 6 (length s)
        (λ a. rw (parse-in s 2 4 a, fixed_in s 2 4 a)
        (by_order 10 (length s)
        (λ b. rw (parse-in s 6 4 b, fixed_in s 6 4 b)
        (by_order 14 (length s)
        (λ c. rw (parse-in s 10 4 c, fixed_in s 10 4 c)
        (by_order 16 (length s)
        (λ d. rw (parse-in s 14 2 d, fixed_in s 14 2 d) (same _))
        (λ d. rw (parse-out s 14 2 d, fixed_out s 14 2 d) same_end)))
        (λ c. rw (parse-out s 10 4 c, fixed_out s 10 4 c) same_end)))
        (λ b. rw (parse-out s 6 4 b, fixed_out s 6 4 b) same_end)))
        (λ a. rw (parse-out s 2 4 a, fixed_out s 2 4 a) same_end)

    -- any other leaf is 10 with the leaf
    other : (leaf : ℕ) → eqb leaf 0x1601 ≡ false → eqb leaf 0x1602 ≡ false → eqb leaf 0x1603 ≡ false → eqb leaf 0x1604 ≡ false
        → eqb leaf 0x1605 ≡ false → eqb leaf 0x1606 ≡ false → eqb leaf 0x1607 ≡ false → Alike leaf
    unfolding id_by_leaf match leaf_of read_leaf find id_leaves
    other leaf a b c d e f g = rw (a, b, c, d, e, f, g) (record { stays = tt; equal = refl })

    each : (leaf : ℕ) → Alike leaf
    each leaf =
        case 0x1601 function λ a. case 0x1602 member-function λ b. case 0x1603 build λ c. case 0x1604 strings λ d.
        case 0x1605 string λ e. case 0x1606 local-source λ f. case 0x1607 remote-source λ g. other leaf a b c d e f g
      where
        case : (k : ℕ) → Alike k → (eqb leaf k ≡ false → Alike leaf) → Alike leaf
        case k x y = go (eqb leaf k) refl
          where
            go : (t : Bool) → eqb leaf k ≡ t → Alike leaf
            go true e = subst (λ (n : ℕ). Alike n) (sym (eqb-true leaf k e)) x
            go false e = y e

    pub id_same : Same (parse_id s) (shown_by (id_shown s) (record_of id_leaves s))
    unfolding parse_id try_from_ctx record_of
    id_same =
        by_order 2 (length s)
        (λ h. rw (parse-in s 0 2 h, fixed_in s 0 2 h) (each (little_at 2 s 0)))
        (λ h. rw (parse-out s 0 2 h, fixed_out s 0 2 h) same_end)

-- ---- what the port's `id_data` answers, by its contract
module _ (s : List ℕ) where
  source_is : (udt : ℕ) (f : UserDefinedTypeSourceFileRef) (line : ℕ)
      → id_shown s (source_values udt f line) ≡ user_defined_type_source (record { udt = udt; source_file = file_shown f; line = line })
  source_is udt (file.Local f) line = refl
  source_is udt (file.Remote m f) line = refl

  data_is : (d : IdData) → id_shown s (id_values d) ≡ id_data_shown s d
  data_is (id.Function r) = rw (option_back (id_option r.scope))
  data_is (id.MemberFunction r) = refl
  data_is (id.BuildInfo r) = refl
  data_is (id.StringList r) = refl
  data_is (id.String r) = rw (option_back (id_option r.substrings))
  data_is (id.UserDefinedTypeSource r) = source_is r.udt.0 r.source_file r.line

  answer-is : (r : Result IdData Refusal) → shown_by (id_shown s) (said id_values r) ≡ id_answer_shown s r
  answer-is (Ok d) = ap answered (data_is d)
  answer-is (Err e) = refl

  pub id-answers : length s < usize_top → (r : Result IdData Refusal) → said id_values r ≡ record_of id_leaves s → Same (parse_id s) (id_answer_shown s r)
  id-answers l r e = subst (λ a. Same (parse_id s) a) (ap (shown_by (id_shown s)) (sym e) ∙ answer-is r) (id_same s l)
