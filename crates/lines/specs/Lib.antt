pub mod ListingRows
