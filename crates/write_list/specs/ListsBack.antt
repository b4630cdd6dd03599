-- R-1 of the two lists: element k of what was written shows the k-th of the elements given, and behind the last the list ends; where the members stand;
-- what was read, written again; and 17. proofs/ListBack.antt and ListAgain.antt have them.
use Rattle.std.specs.Prelude.{ℕ, zero, suc, ◌+◌, ◌%◌, ◌≤◌, ◌≡◌, List, [], ◌∷◌, ◌++◌, map, length, drop}
use Rattle.answer.specs.Answer.{Answer, answered, refused, got}
use Rattle.field.specs.Bytes.{bytes}
use Rattle.field.specs.Fields.{little_at}
use Rattle.field_number.specs.Forms.{AllBytes}
use Rattle.field.specs.declared.index.Stream.TheVariants as stream
use Rattle.record_layout.specs.Fields.{Shown}
use Rattle.record_layout.specs.Layouts.{member_leaves, read_record}
use Rattle.record_member.specs.Said.{member_values, entry_values}
use Rattle.record_member.specs.declared.Member.{Member}
use Rattle.record_member.specs.declared.MethodListEntry.{MethodListEntry}
use Rattle.record_list.specs.Lists.{ElementValues, method_element, member_element, element_of}
use Rattle.write_layout.specs.Runs.{part_at, pads}
use Rattle.write_layout.specs.Fields.{ToWrite, given_all, bad}
use Rattle.write_layout.specs.Lists.{field_list_bytes, method_list_bytes}
use Rattle.write_layout.specs.RoundTrip.{NoShorter, AllInBytes}
use Rattle.write_list.specs.Rows.{member_rows, method_rows, row_of_member, row_of_method}

-- an element of this kind, read from s, that shows vs
pub record Shows (kind : List Shown → ElementValues) (s : List ℕ) (vs : List ToWrite) (a : Answer ElementValues) : Type 0 where
  pub values : List Shown
  pub element : a ≡ answered (kind values)
  pub same : given_all s values ≡ vs
  pub forms : NoShorter values

-- element k shows the k-th; from the last on it is 15
unfoldable pub ElementIs : (List Shown → ElementValues) → List ℕ → List (List ToWrite) → ℕ → Answer ElementValues → Type 0
ElementIs kind s [] k a = a ≡ refused 15 []
ElementIs kind s (vs ∷ vss) zero a = Shows kind s vs a
ElementIs kind s (vs ∷ vss) (suc k) a = ElementIs kind s vss k a

-- the bytes rs of a list that was written from these elements: one link that ends at a multiple of four from its start
pub record ListBack (kind : List Shown → ElementValues) (vss : List (List ToWrite)) (rs : List ℕ) : Type 0 where
  pub payload : List ℕ
  pub is_link : rs ≡ bytes 2 (length payload) ++ payload
  pub short : length payload ≤ 65535
  pub aligned : length rs % 4 ≡ 0
  pub element : (k : ℕ) → ElementIs kind payload vss k (element_of stream.Types payload k)

-- "Members inside a field list are filled to a multiple of four bytes, length field counted, with pad bytes f3 f2 f1 counting down": in the record rs, its
-- length field first, a member is read at place q, a multiple of four; it shows vs, and behind it stand its pads, up to place r
pub record MemberAt (rs : List ℕ) (q : ℕ) (vs : List ToWrite) (r : ℕ) : Type 0 where
  pub four : q % 4 ≡ 0
  pub values : List Shown
  pub behind : ℕ
  pub read : read_record member_leaves rs q ≡ got values behind
  pub same : given_all rs values ≡ vs
  pub pad : ℕ
  pub few : pad ≤ 3
  pub padded : part_at rs behind pad ≡ pads pad
  pub next : r ≡ behind + pad

-- the members stand so one behind the other from place q on, and with the last the record ends
unfoldable pub InFours : List ℕ → ℕ → List (List ToWrite) → Type 0
InFours rs q [] = q ≡ length rs
InFours rs q (vs ∷ vss) = (r : ℕ) × MemberAt rs q vs r × InFours rs r vss

-- element 0, 1, .. up to the 15 are those of these members or methods
unfoldable pub ElementsAre : {A : Type 0} → (A → ElementValues) → (ℕ → Answer ElementValues) → List A → Type 0
ElementsAre shown element [] = element 0 ≡ refused 15 []
ElementsAre shown element (m ∷ ms) = (element 0 ≡ answered (shown m)) × ElementsAre shown (λ k. element (suc k)) ms

-- what stands behind a record's length
abbrev pub payload_in : List ℕ → List ℕ
payload_in rs = drop 2 rs

pub record ListsReadBack : Type 0 where
  pub fields : (vss : List (List ToWrite)) (rs : List ℕ) → field_list_bytes vss ≡ answered rs → ListBack member_element vss rs
  pub methods : (vss : List (List ToWrite)) (rs : List ℕ) → method_list_bytes vss ≡ answered rs → ListBack method_element vss rs
  -- the first member stands at 4, behind length and leaf
  pub starts : (vss : List (List ToWrite)) (rs : List ℕ) → field_list_bytes vss ≡ answered rs → InFours rs 4 vss
  -- "Reading back gives the fields, and writing those the same bytes": the members that a written list reads as, each made a row, with the list's own bytes
  -- for the text
  pub fields_again : (vss : List (List ToWrite)) (rs : List ℕ) (ms : List Member) → field_list_bytes vss ≡ answered rs
      → ElementsAre (λ m. member_element (member_values m)) (element_of stream.Types (payload_in rs)) ms
      → field_list_bytes (member_rows (payload_in rs) (map row_of_member ms)) ≡ answered rs
  pub methods_again : (vss : List (List ToWrite)) (rs : List ℕ) (ms : List MethodListEntry) → method_list_bytes vss ≡ answered rs
      → ElementsAre (λ m. method_element (entry_values m)) (element_of stream.Types (payload_in rs)) ms
      → method_list_bytes (method_rows (payload_in rs) (map row_of_method ms)) ≡ answered rs

-- 17 ------------------------------------------------------------------------------------------------------------------------------

-- an element of this kind, read from s, that shows vs, in whatever form its numbers stand
pub record ShowsAs (kind : List Shown → ElementValues) (s : List ℕ) (vs : List ToWrite) (a : Answer ElementValues) : Type 0 where
  pub values : List Shown
  pub element : a ≡ answered (kind values)
  pub same : given_all s values ≡ vs

unfoldable pub ElementAs : (List Shown → ElementValues) → List ℕ → List (List ToWrite) → ℕ → Answer ElementValues → Type 0
ElementAs kind s [] k a = a ≡ refused 15 []
ElementAs kind s (vs ∷ vss) zero a = ShowsAs kind s vs a
ElementAs kind s (vs ∷ vss) (suc k) a = ElementAs kind s vss k a

-- some payload with this leaf has these elements: the reader gives them one after the other, and behind the last none
pub record HasElements (leaf : ℕ) (kind : List Shown → ElementValues) (vss : List (List ToWrite)) : Type 0 where
  pub payload : List ℕ
  pub small : AllBytes payload
  pub leaf_is : little_at 2 payload 0 ≡ leaf
  pub element : (k : ℕ) → ElementAs kind payload vss k (element_of stream.Types payload k)

-- the bytes of what is to be written are bytes, as those of every `&[u8]` are
unfoldable pub EachInBytes : List (List ToWrite) → Type 0
EachInBytes [] = Unit {0}
EachInBytes (vs ∷ vss) = AllInBytes vs × EachInBytes vss

-- R-1's 17, "fields that would not read back (.., a member after a continuation, ..)": exactly if no payload has these elements
pub record ListsExactly17 : Type 0 where
  pub fields_refuse : (vss : List (List ToWrite)) → field_list_bytes vss ≡ bad → HasElements 0x1203 member_element vss → ⊥
  pub fields_only : (vss : List (List ToWrite)) → EachInBytes vss → (HasElements 0x1203 member_element vss → ⊥) → field_list_bytes vss ≡ bad
  pub methods_refuse : (vss : List (List ToWrite)) → method_list_bytes vss ≡ bad → HasElements 0x1206 method_element vss → ⊥
  pub methods_only : (vss : List (List ToWrite)) → EachInBytes vss → (HasElements 0x1206 method_element vss → ⊥) → method_list_bytes vss ≡ bad
