pub mod Load
pub mod LoadMeaning
pub mod Filling
