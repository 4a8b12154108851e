pub mod StateOfABlock
