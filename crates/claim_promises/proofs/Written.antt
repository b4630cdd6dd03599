-- The premises of `StreamWalks` are met: a header, the two records of document 01's stream E and a field list, written, walk to done. So are those of
-- `OneBuffer`, by the same written into one buffer, and those of `fields-again`, by the members that the list reads as. Assumes nothing.
use Rattle.std.specs.Prelude.{Some}
use Prim.Native.Nat.{ℕ}
use mathlib.Core.Path.{◌≡◌, refl}
use mathlib.Core.List.{List, [], ◌∷◌, ◌++◌, map}
use native.Mathlib.Omega.{arith}
use mathlib.Core.Bool.{false}
use lib.ListN.{replicate, take}
use lib.IntN.{pos, negsuc}
use Rattle.answer.specs.Answer.{answered}
use Rattle.answer.specs.Tables.{find, among}
use Rattle.field.specs.Bytes.{bytes}
use Rattle.field.specs.Fields.{little_at, fixed_at, signed_at}
use Rattle.field_put.specs.Bytes.{put}
use Rattle.field_text.specs.Texts.{to_zero, string_at, pad, padding_after}
use Rattle.field_number.specs.Numbers.{prefixes, numeric_at}
use Rattle.field_number.specs.declared.Number.TheVariants as a_number
use Rattle.field_number.specs.Forms.{shortest, carried, form_of, numeral_by}
use Rattle.word_attributes.specs.Pointers.{kind_of, mode_of, to_member_of, pointer_kinds, pointer_modes}
use Rattle.stream_header.specs.declared.Header.{Header}
use Rattle.stream_item.specs.Iterator.{iter_of}
use Rattle.field.specs.declared.index.Stream.TheVariants.{Types}
use Rattle.record_layout.specs.Fields.{number, numeral, absent, many, read_field_by, read_fields_by}
use Rattle.record_layout.specs.Layouts.{type_leaves, member_leaves, read_leaf, read_record}
use Rattle.record_member.specs.Said.{member_values}
use Rattle.record_member.specs.declared.Member.{Member}
use Rattle.record_member.specs.declared.Member.TheVariants as a
use Rattle.record_list.specs.Lists.{member_element, start_types, start_of, member_step, next_member, step_of, element_by, element_of}
use Rattle.write_layout.specs.Runs.{no_zero, pads, zeros}
use Rattle.write_layout.specs.Buffer.{Written, lay}
use Rattle.write_layout.specs.Fields.{ToWrite, Encoded, fixed_bytes, numeric_bytes, string_bytes, write_field, write_fields}
use Rattle.write_layout.specs.Records.{write_leaf, missing, filled, record_bytes, write_record}
use Rattle.write_layout.specs.Lists.{filled_member, filled_each, member_bytes, ends_list, members_bytes, field_list_bytes}
use Rattle.write_header.specs.Headers.{header_fields, header_bytes, Fits32, Narrow}
use Rattle.write_header.specs.Streams.{WrittenAs, by_table, field_list, AllWritten, in_order, behind_length, start, HasPayloads}
use Rattle.write_header.proofs.StreamWalks.{stream-walks}
use Rattle.write_list.specs.Rows.{member_rows, row_of_member}
use Rattle.write_list.specs.ListsBack.{ElementsAre, payload_in}
use Rattle.write_list.proofs.ListBack.{lists-read-back}
use Rattle.claim_promises.specs.OneBuffer as buffer
use Rattle.claim_promises.specs.OneBuffer.{laid_all, AllWriting, OneBuffer}
use Rattle.claim_promises.proofs.OneBuffer.{one-buffer}

-- E's header, maximum and gprec_size fitted to the three records, and a negative offset
abbrev header_e : Header
header_e = record {
  version = 20040203;
  header_size = 56;
  minimum_index = 4096;
  maximum_index = 4099;
  gprec_size = 48;
  tpi_hash_stream = 0;
  tpi_hash_pad_stream = 0;
  hash_key_size = 0;
  hash_bucket_size = 0;
  hash_values = record { offset = pos 0; size = 0 };
  ti_off = record { offset = pos 0; size = 0 };
  hash_adj = record { offset = negsuc 0; size = 0 };
}

abbrev modifier_e : List ℕ
modifier_e = 10 ∷ 0 ∷ 0x01 ∷ 0x10 ∷ 0x74 ∷ 0 ∷ 0 ∷ 0 ∷ 1 ∷ 0 ∷ 0xf2 ∷ 0xf1 ∷ []

abbrev pointer_e : List ℕ
pointer_e = 10 ∷ 0 ∷ 0x02 ∷ 0x10 ∷ 0 ∷ 0x10 ∷ 0 ∷ 0 ∷ 0x0c ∷ 0 ∷ 1 ∷ 0 ∷ []

-- a field list of an enumerator, -1, and a continuation
abbrev elements_e : List (List ToWrite)
elements_e = (number 0x1502 ∷ number 3 ∷ numeral (negsuc 0) tt ∷ many (Some (0x61 ∷ [])) ∷ []) ∷ (number 0x1404 ∷ absent ∷ number 4096 ∷ []) ∷ []

abbrev fields_e : List ℕ
fields_e = 22 ∷ 0 ∷ 0x03 ∷ 0x12 ∷ 0x02 ∷ 0x15 ∷ 3 ∷ 0 ∷ 0x00 ∷ 0x80 ∷ 0xff ∷ 0x61 ∷ 0 ∷ 0xf3 ∷ 0xf2 ∷ 0xf1 ∷ 0x04 ∷ 0x14 ∷ 0 ∷ 0 ∷ 0 ∷ 0x10 ∷ 0 ∷ 0 ∷ []

abbrev records_e : List (List ℕ)
records_e = modifier_e ∷ pointer_e ∷ fields_e ∷ []

accepted : header_bytes header_e ≡ answered (header_fields header_e)
unfolding header_bytes
accepted = refl

zero-fits : Fits32 (pos 0)
zero-fits = omega arith

below-fits : Fits32 (negsuc 0)
below-fits = omega arith

narrow : Narrow header_e
narrow = record {
  version = omega arith;
  size = omega arith;
  minimum = omega arith;
  maximum = omega arith;
  gprec = omega arith;
  stream = omega arith;
  pad_stream = omega arith;
  key = omega arith;
  bucket = omega arith;
  values_offset = zero-fits;
  values_size = omega arith;
  ti_offset = zero-fits;
  ti_size = omega arith;
  adj_offset = below-fits;
  adj_size = omega arith;
}

modifier-written : WrittenAs modifier_e
unfolding write_record record_bytes write_leaf filled missing pads fixed_bytes write_fields write_field find type_leaves bytes
modifier-written = by_table type_leaves (number 0x1001 ∷ number 116 ∷ number 1 ∷ []) refl

pointer-written : WrittenAs pointer_e
unfolding write_record record_bytes write_leaf filled missing pads fixed_bytes write_fields write_field find type_leaves bytes kind_of mode_of to_member_of pointer_kinds pointer_modes
pointer-written = by_table type_leaves (number 0x1002 ∷ number 4096 ∷ number 65548 ∷ absent ∷ []) refl

fields-are : field_list_bytes elements_e ≡ answered fields_e
unfolding field_list_bytes record_bytes members_bytes member_bytes filled_each filled_member ends_list write_leaf filled missing pads fixed_bytes write_fields write_field find member_leaves bytes numeric_bytes shortest carried string_bytes no_zero
fields-are = refl

fields-written : WrittenAs fields_e
fields-written = field_list elements_e fields-are

-- its three records are its items, and then it is done
pub written-walks : (iter_of Types (header_fields header_e ++ in_order records_e) ≡ answered (start Types header_e))
    × HasPayloads (header_fields header_e ++ in_order records_e) (start Types header_e) (map behind_length records_e)
unfolding AllWritten header_fields in_order bytes zeros
written-walks = stream-walks Types header_e (header_fields header_e) records_e accepted narrow (modifier-written, (pointer-written, (fields-written, tt))) (omega arith) (omega arith)

-- into a buffer of 110 bytes, one after the other: 104 are the stream, and 6 are as they were
abbrev writes_e : List Encoded
writes_e =
    write_record type_leaves (number 0x1001 ∷ number 116 ∷ number 1 ∷ [])
    ∷ write_record type_leaves (number 0x1002 ∷ number 4096 ∷ number 65548 ∷ absent ∷ [])
    ∷ field_list_bytes elements_e
    ∷ []

abbrev buffer_e : Written
buffer_e = record { buffer = (header_fields header_e ++ in_order records_e) ++ replicate 6 7; next = 104 }

laid_e : laid_all (header_bytes header_e ∷ writes_e) (replicate 110 7) 0 ≡ answered buffer_e
unfolding laid_all lay put header_bytes header_fields in_order zeros field_list_bytes write_record record_bytes members_bytes member_bytes filled_each filled_member ends_list write_leaf filled missing pads fixed_bytes write_fields write_field find type_leaves member_leaves bytes numeric_bytes shortest carried string_bytes no_zero kind_of mode_of to_member_of pointer_kinds pointer_modes
laid_e = refl

pub one-buffer-of : buffer.InOneBuffer header_e writes_e (replicate 110 7) buffer_e
unfolding OneBuffer
one-buffer-of = one-buffer header_e writes_e (replicate 110 7) buffer_e laid_e

all-writing : AllWriting writes_e
unfolding AllWriting
all-writing = (buffer.by_table type_leaves _, (buffer.by_table type_leaves _, (buffer.field_list elements_e, tt)))

pub buffer-walks : (iter_of Types (take 104 buffer_e.buffer) ≡ answered (start Types header_e))
    × HasPayloads (take 104 buffer_e.buffer) (start Types header_e) (map behind_length one-buffer-of.records)
buffer-walks = one-buffer-of.walks Types narrow all-writing (omega arith) (omega arith)

-- its field list reads as two members, and these, made rows, are written as the same bytes
abbrev members_e : List Member
members_e =
    a.Enumerate (record {
      attributes = record { 0 = 3 };
      value = record { value = a_number.Negative 0; width = 3; shorter = false };
      name = record { place = 9; length = 1 };
    })
    ∷ a.Continuation (record { 0 = 4096 })
    ∷ []

read_e : ElementsAre (λ m. member_element (member_values m)) (element_of Types (payload_in fields_e)) members_e
unfolding ElementsAre element_of start_of start_types element_by step_of next_member member_step read_record read_leaf find member_leaves read_fields_by read_field_by fixed_at little_at numeral_by numeric_at prefixes signed_at form_of shortest string_at to_zero padding_after pad among bytes
read_e = (refl, (refl, refl))

pub again-e : field_list_bytes (member_rows (payload_in fields_e) (map row_of_member members_e)) ≡ answered fields_e
again-e = lists-read-back.fields_again elements_e fields_e members_e fields-are read_e
