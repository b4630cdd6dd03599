-- tpi/id.rs: `IdData` and its reader, all seven leaves. An index is its number: which stream it counts in is a matter of types. The number behind a line is the Rust's; the leaves are those of tpi/constants.rs 165 to 174.
use Rattle.std.specs.Prelude.{Option, ℕ, zero, suc, List, [], ◌∷◌, ◌++◌, eqb}
use Rattle.answer.specs.Tables.{◌is◌}
use Rattle.claim_model.specs.Rust.{Rust, gives, errs, if, match, unimplemented_type_kind, ◌>>=◌}
use Rattle.claim_model.specs.ParseBuffer.{ParseBuffer, from, parse}
use Rattle.claim_model.specs.TpiHelpers.{parse_optional_id_index, parse_string}

-- 109
pub record FunctionId : Type 0 where
  pub scope : Option ℕ
  pub function_type : ℕ
  pub name : List ℕ

-- 122
pub record MemberFunctionId : Type 0 where
  pub parent : ℕ
  pub function_type : ℕ
  pub name : List ℕ

-- 153
pub record StringId : Type 0 where
  pub substrings : Option ℕ
  pub name : List ℕ

-- 162
pub data UserDefinedTypeSourceFileRef : Type 0 where
  local : ℕ → UserDefinedTypeSourceFileRef
  remote : ℕ → ℕ → UserDefinedTypeSourceFileRef

-- 177
pub record UserDefinedTypeSourceId : Type 0 where
  pub udt : ℕ
  pub source_file : UserDefinedTypeSourceFileRef
  pub line : ℕ

-- 26; a `Vec` of indices is their list (135, 144)
pub data IdData : Type 0 where
  function : FunctionId → IdData
  member_function : MemberFunctionId → IdData
  build_info : List ℕ → IdData
  string_list : List ℕ → IdData
  string : StringId → IdData
  user_defined_type_source : UserDefinedTypeSourceId → IdData

-- 51
unfoldable pub function_id : ℕ → ParseBuffer → Rust (IdData × ParseBuffer)
function_id leaf buf = do
  (scope, buf) ← parse_optional_id_index buf  -- 52
  (function_type, buf) ← parse 4 buf  -- 53
  (name, buf) ← parse_string leaf buf  -- 54
  gives (function (record { scope = scope; function_type = function_type; name = name }), buf)

-- 56
unfoldable pub member_function_id : ℕ → ParseBuffer → Rust (IdData × ParseBuffer)
member_function_id leaf buf = do
  (parent, buf) ← parse 4 buf  -- 57
  (function_type, buf) ← parse 4 buf  -- 58
  (name, buf) ← parse_string leaf buf  -- 59
  gives (member_function (record { parent = parent; function_type = function_type; name = name }), buf)

-- 64 and 72: for _ in 0..count { vec.push(buf.parse()?); }
unfoldable pub pushed : ℕ → List ℕ → ParseBuffer → Rust (List ℕ × ParseBuffer)
pushed zero vec buf = gives (vec, buf)
pushed (suc count) vec buf = do
  (index, buf) ← parse 4 buf  -- 65, 73
  pushed count (vec ++ (index ∷ [])) buf

-- 61
unfoldable pub build_info_id : ParseBuffer → Rust (IdData × ParseBuffer)
build_info_id buf = do
  (count, buf) ← parse 2 buf  -- 62
  (arguments, buf) ← pushed count [] buf  -- 63, 64
  gives (build_info arguments, buf)  -- 67

-- 69
unfoldable pub string_list_id : ParseBuffer → Rust (IdData × ParseBuffer)
string_list_id buf = do
  (count, buf) ← parse 4 buf  -- 70
  (substrings, buf) ← pushed count [] buf  -- 71, 72
  gives (string_list substrings, buf)  -- 75

-- 77
unfoldable pub string_id : ℕ → ParseBuffer → Rust (IdData × ParseBuffer)
string_id leaf buf = do
  (substrings, buf) ← parse_optional_id_index buf  -- 78
  (name, buf) ← parse_string leaf buf  -- 79
  gives (string (record { substrings = substrings; name = name }), buf)

-- 81
unfoldable pub source_line : ℕ → ParseBuffer → Rust (IdData × ParseBuffer)
source_line leaf buf = do
  (udt, buf) ← parse 4 buf  -- 82
  (file_id, buf) ← parse 4 buf  -- 83
  (line, buf) ← parse 4 buf  -- 84
  (source_file, buf) ← if (eqb leaf 0x1606) (gives (local file_id, buf)) (do  -- 86, 87
    (module_of, buf) ← parse 2 buf  -- 89
    gives (remote module_of file_id, buf))
  gives (user_defined_type_source (record { udt = udt; source_file = source_file; line = line }), buf)  -- 92

-- 50
unfoldable pub id_by_leaf : ℕ → ParseBuffer → Rust (IdData × ParseBuffer)
id_by_leaf leaf buf =
    match leaf
    ((0x1601 is function_id leaf buf)  -- 51
    ∷ (0x1602 is member_function_id leaf buf)  -- 56
    ∷ (0x1603 is build_info_id buf)  -- 61
    ∷ (0x1604 is string_list_id buf)  -- 69
    ∷ (0x1605 is string_id leaf buf)  -- 77
    ∷ (0x1606 is source_line leaf buf)  -- 81
    ∷ (0x1607 is source_line leaf buf)  -- 81
    ∷ []) (errs (unimplemented_type_kind leaf))  -- 98

-- 46: the data, and the position behind it
unfoldable pub try_from_ctx : List ℕ → Rust (IdData × ℕ)
try_from_ctx this = do
  (leaf, buf) ← parse 2 (from this)  -- 47, 48
  (id_data, buf) ← id_by_leaf leaf buf  -- 50
  gives (id_data, buf.pos)  -- 101

-- mod.rs 550: Item::parse of an id item's bytes
unfoldable pub parse_id : List ℕ → Rust IdData
parse_id bytes = do
  (id_data, _) ← try_from_ctx bytes
  gives id_data
