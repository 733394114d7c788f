pub mod Decimal
pub mod Line
pub mod Put
pub mod Examples
pub mod Inner
