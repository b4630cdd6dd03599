pub mod SignLaws
pub mod HeaderLaws
pub mod HeaderBack
pub mod StreamWalks
pub mod Used
