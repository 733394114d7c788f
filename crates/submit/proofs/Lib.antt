pub mod Groups
pub mod Ordered
pub mod Stages
pub mod Weighed
