pub mod KeptWidths
