pub mod Scan
pub mod Slots
pub mod FollowedEvents
