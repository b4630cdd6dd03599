pub mod SectionLaws
pub mod Examples
pub mod Used
