-- What only proofs and inner contracts need: where a day lies among the starts of years and months.
pub mod Placed
