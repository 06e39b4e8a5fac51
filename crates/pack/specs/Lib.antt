pub mod Claims
pub mod Linking
