pub mod Filtering
pub mod BitLaws
pub mod Members
pub mod Ways
pub mod Positions
pub mod Carrying
pub mod Readings
mod MemberSteps
