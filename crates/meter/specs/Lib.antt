pub mod Part
pub mod Search
pub mod Withdrawal
pub mod Examples
