pub mod Signed
pub mod Negated
pub mod Table
pub mod Laws
