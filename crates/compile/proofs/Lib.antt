pub mod TextAndRoom
pub mod CompileAnswer
