pub mod DecimalLaws
pub mod PhraseLaws
pub mod SentenceLaws
pub mod TextLaws
