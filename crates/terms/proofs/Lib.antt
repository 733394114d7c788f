pub mod Below
pub mod Letters
pub mod Profiles
pub mod Refusals
