pub mod ElementLaws
pub mod ListLaws
pub mod ListBack
pub mod Lists17
pub mod RowLaws
pub mod Used
