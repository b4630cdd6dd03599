pub mod LengthLaws
pub mod RowLaws
pub mod Stands
pub mod FieldsTell
pub mod RowsTellProof
pub mod Used
