-- The model runs: stream E of 01 and the smallest inputs around it, in the crate's words and in the port's, each as one statement over its list.
use Rattle.std.specs.Prelude.{None, Some}
use Prim.Native.Nat.{ℕ}
use mathlib.Core.Path.{◌≡◌, refl}
use mathlib.Core.List.{List, [], ◌∷◌, ◌++◌, map}
use lib.ListN.{replicate}
use Rattle.answer.specs.Answer.{answered, refused}
use Rattle.field.specs.Fields.{little_at}
use Rattle.stream_header.specs.Header.{header_of}
use Rattle.stream_header.specs.Examples.{four, stream_e}
use Rattle.field.specs.Indices.{index_in}
use Rattle.stream_item.specs.Links.{link_at, chain, link_of}
use Rattle.stream_item.specs.Iterator.{iter_of, item_at, next_of}
use Rattle.field.specs.declared.index.Stream.TheVariants as stream
use Rattle.stream_item.specs.declared.Entry.TheVariants.{Record, Marker}
use Rattle.stream_finder.specs.Finder.{begun_by, create_by, update_of, max_index_of, Found, look_of}
use Rattle.word_primitive.specs.declared.PrimitiveKind.TheVariants as kind
use Rattle.word_primitive.specs.declared.Indirection.TheVariants as indirection
use Rattle.word_attributes.specs.declared.PointerKind.TheVariants as pointer
use Rattle.claim_model.specs.Rust.{Rust, gives, errs, panics, wraps, match, unexpected_eof, invalid_type_information_header, impossibly_small, unreasonably_large, minimum_low, maximum_low, type_too_short, type_not_found, type_not_indexed, unimplemented_type_kind}
use Rattle.claim_model.specs.ParseBuffer.{at, len, is_empty, parse, peek, take, position, parse_cstring, parse_u8_pascal_string}
use Rattle.claim_model.specs.TpiHeader.{fields, parse_header, parse_information}
use Rattle.claim_model.specs.TpiItems.{Item, iter, new, resolve, max_index, update, skipped, hit, miss, finder_find, next, tour, raw_kind, primitive_type}
use Rattle.claim_model.specs.TpiPrimitive.{indirection_arms, primitive_kind_arms, type_data_for_primitive}
use Rattle.claim_model.specs.TpiWords.{pointer_kind, pointer_size, pointer_kind_arms as pointer_arms}
use Rattle.claim_model.specs.TpiHelpers.{parse_optional_id_index, parse_string, pad_byte, padding_loop, parse_padding}
use Rattle.claim_model.specs.TpiId.{function, member_function, build_info, string_list, string, user_defined_type_source, local, remote, function_id, member_function_id, pushed, build_info_id, string_list_id, string_id, source_line, id_by_leaf, try_from_ctx, parse_id}
use Rattle.claim_model.specs.Turns.{crate_turns, turns, port_turns}
use Rattle.claim_model.specs.Course.{Action, begins, steps, updates, crate_uses, crate_course, port_uses, port_course}

-- the payloads of E's two records
abbrev modifier : List ℕ
modifier = 0x01 ∷ 0x10 ∷ 0x74 ∷ 0 ∷ 0 ∷ 0 ∷ 1 ∷ 0 ∷ []

abbrev pointed : List ℕ
pointed = 0x02 ∷ 0x10 ∷ 0 ∷ 0x10 ∷ 0 ∷ 0 ∷ 0x0c ∷ 0 ∷ 1 ∷ 0 ∷ []

abbrev found : ℕ → List ℕ → Rust Item
found i b = gives (record { index = i; bytes = b })

-- "`find` 4097 in E passes 1 link; 4098 gives 1 with 2 passed; 4099 gives 8; 4095 the marker"
pub crate-finds : map (crate_turns stream_e 2) (4096 ∷ 4097 ∷ 4098 ∷ 4099 ∷ 4095 ∷ [])
    ≡ found 4096 modifier ∷ found 4097 pointed ∷ errs unexpected_eof ∷ errs (type_not_found 4099) ∷ found 4095 primitive_type ∷ []
unfolding crate_turns parse_information parse_header fields iter new resolve max_index update skipped hit miss finder_find next tour len is_empty parse take little_at
crate-finds = refl

abbrev port : ℕ → ℕ → ℕ → ℕ → Found
port i p n k = record { entry = Record (item_at stream.Types i p n); passed = k }

pub port-finds : map (port_turns stream.Types stream_e (0 ∷ []) 2) (4096 ∷ 4097 ∷ 4098 ∷ 4099 ∷ 4095 ∷ [])
    ≡ answered (port 4096 58 8 0)
    ∷ answered (port 4097 68 10 1)
    ∷ refused 1 (2 ∷ [])
    ∷ refused 8 (4099 ∷ [])
    ∷ answered (record { entry = Marker (index_in stream.Types 4095); passed = 0 })
    ∷ []
unfolding port_turns create_by begun_by iter_of header_of turns next_of update_of look_of link_of chain link_at max_index_of little_at
port-finds = refl

-- a header of that size, minimum and maximum, then bytes
abbrev made : List ℕ → List ℕ → List ℕ → List ℕ → List ℕ
made size minimum maximum rest = (0x0b ∷ 0xca ∷ 0x31 ∷ 0x01 ∷ []) ++ size ++ minimum ++ maximum ++ (22 ∷ 0 ∷ 0 ∷ 0 ∷ []) ++ replicate 36 0 ++ rest

-- an index whose block is not held; a length of one; refused headers; a header that is longer than its stream; a record at index 0xffffffff;
-- 55 bytes; no bytes
pub crate-edges : map (λ s. crate_turns s 1 4104)
    (made (four 56 0) (four 0 16) (four 16 16) []
    ∷ made (four 56 0) (four 0 16) (four 16 16) (1 ∷ 0 ∷ 5 ∷ [])
    ∷ made (four 55 0) (four 0 16) (four 16 16) []
    ∷ made (four 1 4) (four 0 16) (four 16 16) []
    ∷ made (four 56 0) (four 255 15) (four 16 16) []
    ∷ made (four 56 0) (four 0 16) (four 255 15) []
    ∷ made (four 57 0) (four 0 16) (four 16 16) []
    ∷ made (four 56 0) (255 ∷ 255 ∷ 255 ∷ 255 ∷ []) (255 ∷ 255 ∷ 255 ∷ 255 ∷ []) (2 ∷ 0 ∷ 0 ∷ 0 ∷ [])
    ∷ replicate 55 0
    ∷ []
    ∷ [])
    ≡ errs (type_not_indexed 4104 4103)
    ∷ errs type_too_short
    ∷ errs (invalid_type_information_header impossibly_small)
    ∷ errs (invalid_type_information_header unreasonably_large)
    ∷ errs (invalid_type_information_header minimum_low)
    ∷ errs (invalid_type_information_header maximum_low)
    ∷ errs unexpected_eof
    ∷ wraps
    ∷ errs unexpected_eof
    ∷ errs (type_not_found 4104)
    ∷ []
unfolding crate_turns parse_information parse_header fields iter new resolve max_index update skipped hit miss finder_find next tour len is_empty parse take little_at
crate-edges = refl

-- "Giving `find` the iterator's length rule: on a chain with a one_byte payload it must still answer"
pub one_byte : crate_turns (made (four 56 0) (four 0 16) (four 16 16) (1 ∷ 0 ∷ 5 ∷ 2 ∷ 0 ∷ 6 ∷ 7 ∷ [])) 0 4097 ≡ found 4097 (6 ∷ 7 ∷ [])
unfolding crate_turns parse_information parse_header fields iter new resolve max_index update skipped hit miss finder_find next tour len is_empty parse take little_at
one_byte = refl

-- two iterators: one steps past both records, the other updates behind the first; and an update by a fresh iterator of the empty stream
pub courses : crate_course stream_e (begins ∷ begins ∷ steps 0 ∷ updates 0 ∷ steps 1 ∷ steps 0 ∷ updates 0 ∷ updates 1 ∷ []) 4097
    ∷ crate_course [] (begins ∷ updates 0 ∷ steps 0 ∷ []) 0
    ∷ crate_course [] [] 0
    ∷ []
    ≡ found 4097 pointed ∷ errs unexpected_eof ∷ errs (type_not_indexed 0 0) ∷ []
unfolding crate_course crate_uses parse_information parse_header fields iter new resolve max_index update skipped hit miss finder_find next len is_empty parse take little_at
courses = refl

abbrev twice : List ℕ → List ℕ
twice b = b ++ b

-- eight records, then a length of one, which `next` refuses and `find` takes
abbrev short_ninth : List ℕ
short_ninth = made (four 56 0) (four 0 16) (four 8 16) (twice (twice (twice (2 ∷ 0 ∷ 6 ∷ 7 ∷ []))) ++ (1 ∷ 0 ∷ 5 ∷ []))

-- iterator k steps n times and updates
abbrev goes : ℕ → ℕ → List Action
goes n k = replicate n (steps k) ++ (updates k ∷ [])

-- after eight steps an update stores the place of 4104; after the ninth, which is refused, it does nothing; and another iterator goes on after
-- that refusal, and its update stores the place
abbrev uses : List (List Action)
uses = (begins ∷ goes 8 0) ∷ (begins ∷ goes 9 0) ∷ (begins ∷ begins ∷ steps 1 ∷ goes 9 0 ++ goes 7 1) ∷ []

pub crate-stops : map (λ acts. crate_course short_ninth acts 4104) uses ≡ found 4104 (5 ∷ []) ∷ errs (type_not_indexed 4104 4103) ∷ found 4104 (5 ∷ []) ∷ []
unfolding crate_course crate_uses parse_information parse_header fields iter new resolve max_index update skipped hit miss finder_find next len is_empty parse take little_at
crate-stops = refl

pub port-stops : map (λ acts. port_course stream.Types short_ninth (0 ∷ 0 ∷ []) acts 4104) uses ≡ answered (port 4104 90 1 0) ∷ refused 9 (4104 ∷ 4103 ∷ []) ∷ answered (port 4104 90 1 0) ∷ []
unfolding port_course port_uses create_by begun_by iter_of header_of next_of update_of look_of link_of chain link_at max_index_of little_at
port-stops = refl

-- "0x0674 is I32 by Near64; 0x0874 and 0x0004 give 8"; 0x1000 is outside the domain
pub primitives : map type_data_for_primitive (0x0674 ∷ 0x0003 ∷ 0x0874 ∷ 0x0004 ∷ 0x1000 ∷ [])
    ≡ gives (record { kind = kind.I32; indirection = Some indirection.Near64 })
    ∷ gives (record { kind = kind.Void; indirection = None })
    ∷ errs (type_not_found 0x0874)
    ∷ errs (type_not_found 0x0004)
    ∷ panics
    ∷ []
unfolding type_data_for_primitive match indirection_arms primitive_kind_arms
primitives = refl

-- "the pointer word 0x0001000c has kind 12, .., size 8; 0x0d is 12"
pub words : map pointer_kind (0x0001000c ∷ 0x0d ∷ []) ≡ gives pointer.Ptr64 ∷ panics ∷ []
unfolding pointer_kind match pointer_arms
words = refl

pub sizes : map pointer_size (0x0001000c ∷ 0x0c ∷ 0x0a ∷ 0x0d ∷ 0x200d ∷ []) ≡ gives 8 ∷ gives 8 ∷ gives 4 ∷ panics ∷ gives 1 ∷ []
unfolding pointer_size pointer_kind match pointer_arms
sizes = refl

-- "padding f3 f2 f1 consumes 3; f0 41 consumes 1; f2 alone gives 1"
pub paddings : map (λ s. parse_padding (at s 0)) ((0xf3 ∷ 0xf2 ∷ 0xf1 ∷ []) ∷ (0xf0 ∷ 0x41 ∷ []) ∷ (0xf2 ∷ []) ∷ [])
    ≡ gives (at (0xf3 ∷ 0xf2 ∷ 0xf1 ∷ []) 3) ∷ gives (at (0xf0 ∷ 0x41 ∷ []) 1) ∷ errs unexpected_eof ∷ []
unfolding parse_padding padding_loop pad_byte len is_empty parse peek take little_at
paddings = refl

-- a string up to its zero byte, and behind its length byte
pub strings : map (λ (leaf : ℕ). parse_string leaf (at (1 ∷ 0x61 ∷ 0 ∷ []) 0)) (0x1501 ∷ 0x1500 ∷ [])
    ≡ gives (1 ∷ 0x61 ∷ [], at (1 ∷ 0x61 ∷ 0 ∷ []) 3) ∷ gives (0x61 ∷ [], at (1 ∷ 0x61 ∷ 0 ∷ []) 2) ∷ []
unfolding parse_string parse_cstring parse_u8_pascal_string position parse take little_at
strings = refl

-- one record of each id leaf, a list that is cut, an unknown leaf, one byte
pub ids : map parse_id
    ((0x01 ∷ 0x16 ∷ 0 ∷ 0 ∷ 0 ∷ 0 ∷ 2 ∷ 16 ∷ 0 ∷ 0 ∷ 0x66 ∷ 0 ∷ [])
    ∷ (0x02 ∷ 0x16 ∷ 1 ∷ 16 ∷ 0 ∷ 0 ∷ 2 ∷ 16 ∷ 0 ∷ 0 ∷ 0x66 ∷ 0 ∷ [])
    ∷ (0x03 ∷ 0x16 ∷ 2 ∷ 0 ∷ 1 ∷ 0 ∷ 0 ∷ 0 ∷ 2 ∷ 0 ∷ 0 ∷ 0 ∷ [])
    ∷ (0x04 ∷ 0x16 ∷ 1 ∷ 0 ∷ 0 ∷ 0 ∷ 3 ∷ 0 ∷ 0 ∷ 0 ∷ [])
    ∷ (0x05 ∷ 0x16 ∷ 0xff ∷ 0xff ∷ 0 ∷ 0 ∷ 0x66 ∷ 0 ∷ [])
    ∷ (0x06 ∷ 0x16 ∷ 1 ∷ 16 ∷ 0 ∷ 0 ∷ 2 ∷ 16 ∷ 0 ∷ 0 ∷ 9 ∷ 0 ∷ 0 ∷ 0 ∷ [])
    ∷ (0x07 ∷ 0x16 ∷ 1 ∷ 16 ∷ 0 ∷ 0 ∷ 5 ∷ 0 ∷ 0 ∷ 0 ∷ 9 ∷ 0 ∷ 0 ∷ 0 ∷ 4 ∷ 0 ∷ [])
    ∷ (0x03 ∷ 0x16 ∷ 2 ∷ 0 ∷ 1 ∷ 0 ∷ 0 ∷ 0 ∷ 2 ∷ 0 ∷ 0 ∷ [])
    ∷ (0x08 ∷ 0x16 ∷ [])
    ∷ (0x01 ∷ [])
    ∷ [])
    ≡ gives (function (record { scope = None; function_type = 4098; name = 0x66 ∷ [] }))
    ∷ gives (member_function (record { parent = 4097; function_type = 4098; name = 0x66 ∷ [] }))
    ∷ gives (build_info (1 ∷ 2 ∷ []))
    ∷ gives (string_list (3 ∷ []))
    ∷ gives (string (record { substrings = Some 0xffff; name = 0x66 ∷ [] }))
    ∷ gives (user_defined_type_source (record { udt = 4097; source_file = local 4098; line = 9 }))
    ∷ gives (user_defined_type_source (record { udt = 4097; source_file = remote 4 5; line = 9 }))
    ∷ errs unexpected_eof
    ∷ errs (unimplemented_type_kind 0x1608)
    ∷ errs unexpected_eof
    ∷ []
unfolding parse_id try_from_ctx id_by_leaf match function_id member_function_id pushed build_info_id string_list_id string_id source_line parse_optional_id_index parse_string parse_cstring position parse little_at
ids = refl

-- the raw kind of an item; below two bytes the crate panics
pub raw-kinds : map (λ b. raw_kind (record { index = 4096; bytes = b })) (modifier ∷ primitive_type ∷ (5 ∷ []) ∷ []) ≡ gives 0x1001 ∷ gives 0xffff ∷ panics ∷ []
unfolding raw_kind
raw-kinds = refl
