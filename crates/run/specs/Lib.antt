pub mod RunOnWords
