-- What only proofs and inner contracts need: what the decision on a fold answers, flags of reads that may not exist, and the area that is left.
pub mod Decision
pub mod Flags
pub mod Left
