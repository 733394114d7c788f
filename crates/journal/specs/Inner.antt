-- What only proofs and inner contracts need: whether an entry may follow those before it.
pub mod Follow
pub mod Loops
