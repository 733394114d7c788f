-- What only proofs and inner contracts need: how the loop over a sheet goes about it.
pub mod Turn
