pub mod RefusalOrder
pub mod AcceptanceAndRefusal
