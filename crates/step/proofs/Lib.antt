pub mod NumberValues
pub mod ConstantRange
pub mod Removals
pub mod ConditionByStep
pub mod ChosenBranch
