pub mod PassLaws
pub mod StepLaws
pub mod HoldLaws
pub mod SameLaws
pub mod RowLaws
pub mod FlowLaws
pub mod CloseLaws
pub mod SegmentPass
pub mod DocumentPass
pub mod OrderLaws
pub mod SmallLaws
pub mod CertifiedLaws
pub mod ExactLaws
mod DescentLaws
mod CertificateLaws
mod WalkLaws
pub mod lemmas
