pub mod CountedEntries
pub mod TrackedWires
pub mod PlannedSwaps
