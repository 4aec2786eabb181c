pub mod PromiseLaws
pub mod PaperWording
pub mod Mistakes
