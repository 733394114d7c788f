-- What only proofs and inner contracts need: how the loops over a body go about it, and what is counted of a sound journal.
pub mod Profile
pub mod Marks
pub mod Index
pub mod Run
pub mod Plain
pub mod Pass
pub mod Halving
pub mod Judged
pub mod Answered
