-- What only proofs and inner contracts need: which entries can be read at all.
pub mod Room
pub mod Back
