-- What the port's reader of entries says, and an element of its list reader, as the crate's data.
use Rattle.std.specs.Prelude.{Option, None, Some, ℕ, List, [], eqb}
use Rattle.answer.specs.Answer.{Answer, answered, refused, pick}
use Rattle.record_layout.specs.Values.{nth, number_in}
use Rattle.record_list.specs.Lists.{ElementValues, type_element, id_element, method_element, member_element}
use Rattle.record_parse.specs.Record.{Parsed, primitive, type, id}
use Rattle.claim_model.specs.TpiPrimitive.{PrimitiveType}
use Rattle.claim_model.specs.TpiId.{IdData, function, member_function, build_info, string_list, string, user_defined_type_source}
use Rattle.claim_model.specs.Shown.{primitive_shown, id_shown}

-- what the port's reader of entries says, as the crate's data: an id's, its bytes being b; a primitive's. 0 is no number of 01's table
abbrev pub as_id : List ℕ → Answer Parsed → Answer IdData
as_id b (answered (id vs)) = answered (id_shown b vs)
as_id b (answered (primitive p)) = refused 0 []
as_id b (answered (type vs)) = refused 0 []
as_id b (refused n d) = refused n d

abbrev pub primitive_parsed : Answer Parsed → Answer PrimitiveType
primitive_parsed (answered (primitive p)) = answered (primitive_shown p)
primitive_parsed (answered (type vs)) = refused 0 []
primitive_parsed (answered (id vs)) = refused 0 []
primitive_parsed (refused n d) = refused n d

-- the crate's `Vec` of an id list
abbrev pub vec_of : IdData → List ℕ
vec_of (build_info l) = l
vec_of (string_list l) = l
vec_of (function r) = []
vec_of (member_function r) = []
vec_of (string r) = []
vec_of (user_defined_type_source r) = []

-- an element's number; 15 is `None`
abbrev pub element_number : ElementValues → ℕ
element_number (type_element vs) = number_in (nth 0 vs)
element_number (id_element vs) = number_in (nth 0 vs)
element_number (method_element vs) = number_in (nth 0 vs)
element_number (member_element vs) = number_in (nth 0 vs)

abbrev pub as_element : Answer ElementValues → Answer (Option ℕ)
as_element (answered x) = answered (Some (element_number x))
as_element (refused n d) = pick (eqb n 15) (answered None) (refused n d)
