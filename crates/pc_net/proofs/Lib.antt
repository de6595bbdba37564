mod ChainLaws
mod CountLaws
mod DegreeLaws
mod LabelLaws
mod ListingLaws
mod QueueLaws
pub mod RefusalLaws
mod SearchLaws
mod SideLaws
mod SoundLaws
