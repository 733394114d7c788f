pub mod Settings
pub mod Detection
pub mod Indicator
pub mod Volume
pub mod Edges
pub mod Examples
