pub mod Journal
pub mod Sound
pub mod Plates
pub mod Examples
pub mod Numbers
pub mod Total
pub mod Inner
