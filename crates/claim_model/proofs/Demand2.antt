-- Demand 2 is met: each field by its theorem. Assumes nothing.
use Rattle.claim_model.proofs.HeaderEqual.{header}
use Rattle.claim_model.proofs.NextEqual.{next-alike}
use Rattle.claim_model.proofs.UpdateEqual.{update-equal}
use Rattle.claim_model.proofs.FindEqual.{max-equal, find-equal}
use Rattle.claim_model.proofs.TurnsEqual.{turns-equal}
use Rattle.claim_model.proofs.TurnsStay.{turns_same}
use Rattle.claim_model.proofs.CourseEqual.{course-equal}
use Rattle.claim_model.proofs.ItemsEqual.{start-same, creation-same, len-same, is-empty-same, item-len-is, item-is-empty-is, raw-kind-equal}
use Rattle.claim_model.proofs.PrimitiveEqual.{primitive-same, primitive-equal}
use Rattle.claim_model.proofs.WordsEqual.{properties, intrinsic-is, hfa-is, mocom-is, access-is, method-properties-is, methods, calling-convention-is, functions, pointers, is-mocom-is, kind-is, mode-is, to-member-is, reference-is, size_is}
use Rattle.claim_model.proofs.HelpersEqual.{optional-type, optional-id, string, padding, cross-module}
use Rattle.claim_model.proofs.IdEqual.{id_same, id-answers}
use Rattle.claim_model.proofs.ListEqual.{build-elements, string-elements}
use Rattle.claim_model.proofs.ParseEqual.{id-items, type-items}
use Rattle.claim_model.specs.Demand2.{Demand2}

pub demand2 : Demand2
demand2 = record {
  headers = header;
  counts = len-same;
  empties = is-empty-same;
  starts = start-same;
  steps = next-alike;
  lengths = item-len-is;
  none_long = item-is-empty-is;
  raw_kinds = raw-kind-equal;
  creations = creation-same;
  updates = update-equal;
  lookups = find-equal;
  highest = max-equal;
  turns = turns-equal;
  reach = turns_same;
  courses = course-equal;
  primitives = primitive-same;
  every_primitive = primitive-equal;
  optional_types = optional-type;
  optional_ids = optional-id;
  cross_modules = cross-module;
  type_flags = properties;
  intrinsic_excepted = intrinsic-is;
  hfas = hfa-is;
  mocom_excepted = mocom-is;
  accesses = access-is;
  method_fields = method-properties-is;
  method_kinds = methods;
  conventions = calling-convention-is;
  function_flags = functions;
  pointer_flags = pointers;
  is_mocom_excepted = is-mocom-is;
  pointer_kinds = kind-is;
  pointer_modes = mode-is;
  members = to-member-is;
  references = reference-is;
  pointer_sizes = size_is;
  strings = string;
  paddings = padding;
  ids = id_same;
  id_data = id-answers;
  type_items = type-items;
  id_items = id-items;
  build_arguments = build-elements;
  substrings = string-elements;
}
