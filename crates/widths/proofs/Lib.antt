pub mod CountedWidths
pub mod PlacedBodies
pub mod TooWide
