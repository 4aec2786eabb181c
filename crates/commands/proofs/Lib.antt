pub mod DecodeLaw
