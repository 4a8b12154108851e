pub mod WalkPreconditions
pub mod KnownParts
pub mod WholeStatement
pub mod LeftPart
pub mod RightPart
pub mod NextBody
pub mod ChainsAndBodies
pub mod EmissionOfMain
