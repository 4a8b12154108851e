pub mod Entries
pub mod Plans
