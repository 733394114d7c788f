-- What only proofs and inner contracts need: the bounds that keep a signed product inside 64 bits.
pub mod Bounds
