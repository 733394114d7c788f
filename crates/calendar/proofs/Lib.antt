pub mod Spans
pub mod Years
pub mod Months
pub mod Counting
pub mod Order
pub mod Search
pub mod Dates
pub mod Claim
