pub mod Bytes
pub mod Decimal
pub mod Phrases
pub mod Sentence
pub mod Meaning
