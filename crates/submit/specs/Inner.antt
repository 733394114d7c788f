-- What only proofs and inner contracts need: the decision apart from the writing.
pub mod Decision
