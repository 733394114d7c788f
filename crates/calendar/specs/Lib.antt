pub mod Year
pub mod Month
pub mod Date
pub mod Claims
pub mod Examples
pub mod Inner
