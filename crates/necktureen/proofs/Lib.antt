pub mod Tells
pub mod ToldOver
pub mod Enough
