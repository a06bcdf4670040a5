pub mod SiteIn
pub mod JudgeIn
pub mod Stands
pub mod Agree
