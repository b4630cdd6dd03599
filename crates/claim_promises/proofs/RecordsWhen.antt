-- What reads a record is refused by each number exactly when document 01 says. Assumes nothing.
use Rattle.claim_promises.specs.RecordsWhen.{CutField, BadField, FailingField, RecordsWhen}
use Rattle.claim_promises.proofs.GivenRecords as records

pub records-when : RecordsWhen
records-when = record {
  numbers_1 = records.numbers-1;
  sizes_1 = records.sizes-1;
  strings_by_leaf_1 = records.strings-by-leaf-1;
  fields_1 = records.fields-1;
  fields_11 = records.fields-11;
  fields_12 = records.fields-12;
  layouts_1 = records.layouts-given 1 CutField records.fields-1;
  layouts_11 = records.layouts-given 11 BadField records.fields-11;
  layouts_12 = records.layouts-given 12 FailingField records.fields-12;
  records_1 = records.records-1;
  records_11 = records.records-11;
  records_12 = records.records-12;
  members_1 = records.members-1;
  members_11 = records.members-11;
  members_12 = records.members-12;
}
