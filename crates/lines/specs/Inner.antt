-- What only inner contracts need: text that is added to what was put.
pub mod Adds
