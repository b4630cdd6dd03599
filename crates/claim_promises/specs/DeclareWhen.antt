-- R-5 of document 02: when each refusal of a declaration is given. A second reading of the definition `declare_of`, by inequalities and by the path
-- of types that the walk visits.
use Rattle.std.specs.Prelude.{Ok, Err, Option, ℕ, zero, suc, ◌+◌, ◌*◌, ◌≤◌, ◌<◌, ◌≡◌, false, List, [], ◌++◌, length, take, drop}
use Rattle.answer.specs.Answer.{Answer, answered, refused}
use Rattle.answer.specs.Tables.{among}
use Rattle.answer.specs.Refusals.{no, number_of, details_of}
use Rattle.answer.specs.declared.Refusal.{Refusal}
use Rattle.answer.specs.declared.Refusal.TheVariants as refusal
use Rattle.field.specs.Fields.{little_at}
use Rattle.field.specs.declared.index.TypeIndex.{TypeIndex}
use Rattle.field.specs.declared.index.ItemIndex.TheVariants as index
use Rattle.stream_header.specs.Header.{longest}
use Rattle.stream_item.specs.declared.Entry.{Entry}
use Rattle.stream_item.specs.declared.Entry.TheVariants as entry
use Rattle.stream_finder.specs.Finder.{State, Found, find_of}
use Rattle.declare_spelling.specs.declared.Quals.{Quals}
use Rattle.declare_type.specs.Looked.{declared_leaves, list_leaves}
use Rattle.declare_type.specs.Nodes.{node_of, list_of, index_at}
use Rattle.declare_type.specs.declared.node.Node.{Node}
use Rattle.declare_type.specs.declared.node.Node.TheVariants as node
use Rattle.declare_type.specs.Walk.{Spelled, printed, stopped, declaration_of}
use Rattle.declare_type.specs.Declares.{declare_of}
use Rattle.claim_promises.specs.Given.{Given}

-- how many bytes the walk with no limit on room has fixed when it ends, with a text or by a refusal
abbrev pub fixed_by : Spelled → ℕ
fixed_by (printed l r) = length (l ++ r)
fixed_by (stopped k e) = k

-- what that walk answers
abbrev pub unlimited : Spelled → Answer (List ℕ)
unlimited (printed l r) = answered (l ++ r)
unlimited (stopped k e) = no e

-- ---- the path of visited types, from the outside inward

-- type i is a pointer, a modifier or an array, and j is the type inside of it
pub data Inside (s : List ℕ) (σ : State) (i : ℕ) : ℕ → Type 0 where
  of_pointer : {j : TypeIndex} {m : ℕ} {q : Quals} → node_of s σ i ≡ node.Pointer j m q → Inside s σ i j.0
  of_modifier : {j : TypeIndex} {q : Quals} → node_of s σ i ≡ node.Modifier j q → Inside s σ i j.0
  of_array : {j : TypeIndex} {x : Option ℕ} → node_of s σ i ≡ node.Array j x → Inside s σ i j.0

-- type i is a procedure that returns type j, and the indices of its n arguments start at place p
pub data Calls (s : List ℕ) (σ : State) (i : ℕ) : ℕ → ℕ → ℕ → Type 0 where
  of_procedure : {j l : TypeIndex} {p n : ℕ} → node_of s σ i ≡ node.Procedure j l → list_of s σ l.0 ≡ Ok (p, n) → Calls s σ i p n j.0

abbrev pub argument_at : List ℕ → ℕ → ℕ → ℕ
argument_at s p k = (index_at s (p + 4 * k)).0

-- a primitive or a tag
abbrev pub IsBase : Node → Type 0
IsBase (node.Primitive k y) = Unit
IsBase (node.Named p n) = Unit
IsBase (node.Pointer i m q) = ⊥
IsBase (node.Modifier i q) = ⊥
IsBase (node.Array i x) = ⊥
IsBase (node.Procedure i l) = ⊥
IsBase (node.Refused e) = ⊥

-- type i has a declaration, where d types may nest
pub data Prints (s : List ℕ) (σ : State) : ℕ → ℕ → Type 0 where
  base : {d i : ℕ} → IsBase (node_of s σ i) → Prints s σ (suc d) i
  inward : {d i j : ℕ} → Inside s σ i j → Prints s σ d j → Prints s σ (suc d) i
  call : {d i p n j : ℕ} → Calls s σ i p n j → ((k : ℕ) → k < n → Prints s σ d (argument_at s p k)) → Prints s σ d j → Prints s σ (suc d) i

-- The walk from type i with d types left to nest comes to type j with e left. Arguments come from left to right and the return behind them, so
-- that all before it have a declaration.
pub data TypeVisits (s : List ℕ) (σ : State) : ℕ → ℕ → ℕ → ℕ → Type 0 where
  here : {d i : ℕ} → TypeVisits s σ d i d i
  into : {d i j e k : ℕ} → Inside s σ i j → TypeVisits s σ d j e k → TypeVisits s σ (suc d) i e k
  argument : {d i p n j m e k : ℕ}
      → Calls s σ i p n j → m < n → ((o : ℕ) → o < m → Prints s σ d (argument_at s p o)) → TypeVisits s σ d (argument_at s p m) e k → TypeVisits s σ (suc d) i e k
  returned : {d i p n j e k : ℕ}
      → Calls s σ i p n j → ((o : ℕ) → o < n → Prints s σ d (argument_at s p o)) → TypeVisits s σ d j e k → TypeVisits s σ (suc d) i e k

-- ---- what a visited type is refused by

-- "23 deeper than 32 (before its lookup)": no type is left to nest, whatever i is; else what its lookup is refused by, or that of its argument list
pub data Fault (s : List ℕ) (σ : State) : ℕ → ℕ → Refusal → Type 0 where
  too_deep : {i : ℕ} → Fault s σ zero i refusal.TooDeep
  its_own : {d i : ℕ} {e : Refusal} → node_of s σ i ≡ node.Refused e → Fault s σ (suc d) i e
  its_lists : {d i : ℕ} {j l : TypeIndex} {e : Refusal} → node_of s σ i ≡ node.Procedure j l → list_of s σ l.0 ≡ Err e → Fault s σ (suc d) i e

-- the walk from type i meets a type that is refused by e
pub record Meets (s : List ℕ) (σ : State) (d i : ℕ) (e : Refusal) : Type 0 where
  pub left : ℕ
  pub at : ℕ
  pub path : TypeVisits s σ d i left at
  pub fault : Fault s σ left at e

abbrev pub StopsBy : Refusal → Spelled → Type 0
StopsBy e (printed l r) = ⊥
StopsBy e (stopped k x) = x ≡ e

abbrev pub IsPrinted : Spelled → Type 0
IsPrinted (printed l r) = Unit
IsPrinted (stopped k x) = ⊥

-- 23: the walk comes to a type with none left to nest
pub record TooDeep (s : List ℕ) (σ : State) (i : ℕ) : Type 0 where
  pub at : ℕ
  pub path : TypeVisits s σ 32 i 0 at

-- what is found at an index has a leaf, and it is none of these; the marker's is none
abbrev pub EntryOther : List ℕ → List ℕ → Entry → Type 0
EntryOther leaves s (entry.Record m) =
    (m.place + m.length ≤ length s) × (2 ≤ length (take m.length (drop m.place s))) × (among (little_at 2 (take m.length (drop m.place s)) 0) leaves ≡ false)
EntryOther leaves s (entry.Marker m) = Unit

abbrev pub FoundOther : List ℕ → List ℕ → Answer Found → Type 0
FoundOther leaves s (answered f) = EntryOther leaves s f.entry
FoundOther leaves s (refused n d) = ⊥

abbrev pub OtherLeaf : List ℕ → List ℕ → State → ℕ → Type 0
OtherLeaf leaves s σ i = FoundOther leaves s (find_of s σ (index.Types (record { 0 = i })))

-- "24 a leaf that is not printed": type i's is not among those that have a declaration, or that of its argument list is not 0x1201
pub data NotPrinted (s : List ℕ) (σ : State) (i : ℕ) : Type 0 where
  other_leaf : 0x1000 ≤ i → OtherLeaf declared_leaves s σ i → NotPrinted s σ i
  no_list : {j l : TypeIndex} → node_of s σ i ≡ node.Procedure j l → l.0 < 0x1000 → NotPrinted s σ i
  other_list : {j l : TypeIndex} → node_of s σ i ≡ node.Procedure j l → 0x1000 ≤ l.0 → OtherLeaf list_leaves s σ l.0 → NotPrinted s σ i

-- 24: the walk comes to such a type, with one left to nest at least
pub record OtherMet (s : List ℕ) (σ : State) (i : ℕ) : Type 0 where
  pub left : ℕ
  pub at : ℕ
  pub path : TypeVisits s σ 32 i (suc left) at
  pub other : NotPrinted s σ at

-- neither 16 nor 19
abbrev pub HasRoom : List ℕ → State → ℕ → ℕ → Type 0
HasRoom s σ i room = (length s ≤ longest) × (fixed_by (declaration_of s σ i) ≤ room)

-- "The first met is given, and 19 exactly if the bytes that the walk has fixed pass the room before another is met": why a declaration is refused by n with d
pub data Declined (s : List ℕ) (σ : State) (i room : ℕ) : ℕ → List ℕ → Type 0 where
  long : longest < length s → Declined s σ i room 16 []
  full : length s ≤ longest → room < fixed_by (declaration_of s σ i) → Declined s σ i room 19 []
  met : {e : Refusal} → HasRoom s σ i room → Meets s σ 32 i e → Declined s σ i room (number_of e) (details_of e)

pub record DeclareWhen : Type 0 where
  -- each refusal, whatever its number, exactly then
  pub declined : (s : List ℕ) (σ : State) (i room n : ℕ) (d : List ℕ) → Declined s σ i room n d → declare_of s σ i room ≡ refused n d
  pub declined_only : (s : List ℕ) (σ : State) (i room n : ℕ) (d : List ℕ) → declare_of s σ i room ≡ refused n d → Declined s σ i room n d
  -- 16 first of all
  pub too_long : (s : List ℕ) (σ : State) (i room : ℕ) → longest < length s → declare_of s σ i room ≡ refused 16 []
  -- "19 exactly if the bytes that the walk has fixed pass the room before another is met"
  pub no_room : (s : List ℕ) (σ : State) (i room : ℕ) → length s ≤ longest → room < fixed_by (declaration_of s σ i) → declare_of s σ i room ≡ refused 19 []
  pub only_then : (s : List ℕ) (σ : State) (i room : ℕ) → declare_of s σ i room ≡ refused 19 [] → room < fixed_by (declaration_of s σ i)
  -- else "the text equals a definition that prints with no limit on room", and so does a refusal
  pub as_unlimited : (s : List ℕ) (σ : State) (i room : ℕ) → length s ≤ longest → fixed_by (declaration_of s σ i) ≤ room
      → declare_of s σ i room ≡ unlimited (declaration_of s σ i)
  -- that definition prints exactly the types that have a declaration, and is refused exactly by what a visited type is
  pub prints : (s : List ℕ) (σ : State) (i : ℕ) → Prints s σ 32 i → IsPrinted (declaration_of s σ i)
  pub prints_only : (s : List ℕ) (σ : State) (i : ℕ) → IsPrinted (declaration_of s σ i) → Prints s σ 32 i
  pub stops : (s : List ℕ) (σ : State) (i : ℕ) (e : Refusal) → Meets s σ 32 i e → StopsBy e (declaration_of s σ i)
  pub stops_only : (s : List ℕ) (σ : State) (i : ℕ) (e : Refusal) → StopsBy e (declaration_of s σ i) → Meets s σ 32 i e
  -- 23 exactly if a type is visited with none left to nest; 24 exactly if one is visited that is not printed
  pub at_23 : (s : List ℕ) (σ : State) (i room : ℕ) → Given 23 [] (declare_of s σ i room) (HasRoom s σ i room × TooDeep s σ i)
  pub at_24 : (s : List ℕ) (σ : State) (i room : ℕ) → Given 24 [] (declare_of s σ i room) (HasRoom s σ i room × OtherMet s σ i)
  -- what is spelled is one of the five modes of a pointer, and every argument's four bytes are in the stream
  pub five_modes : (s : List ℕ) (σ : State) (i : ℕ) (j : TypeIndex) (m : ℕ) (q : Quals) → node_of s σ i ≡ node.Pointer j m q → m ≤ 4
  pub arguments_there : (s : List ℕ) (σ : State) (i p n : ℕ) → list_of s σ i ≡ Ok (p, n) → p + 4 * n ≤ length s
