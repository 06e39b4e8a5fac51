pub mod Naming
pub mod Eight
pub mod Tearing
