pub mod Lent
pub mod Days
pub mod Searched
pub mod Counted
pub mod Back
pub mod Totals
