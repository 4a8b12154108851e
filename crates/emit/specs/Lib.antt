pub mod WalkPromises
