pub mod LiveLaws
mod RegionLaws
mod SpanLaws
