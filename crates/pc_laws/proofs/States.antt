-- Laws of the state between two labellings: the first one, augmentations, and falls.
pub mod Opening
pub mod WalkedBack
pub mod Raising
pub mod Falling
pub mod FallExists
