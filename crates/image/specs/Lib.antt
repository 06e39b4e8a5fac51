pub mod Images
pub mod Steps
pub mod Bytes
