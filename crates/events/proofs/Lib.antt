pub mod ScanOfEvents
pub mod GatesAndSlots
pub mod GreatestPrecedence
pub mod EntryGates
pub mod ConsecutiveWalks
pub mod CallAncilla
