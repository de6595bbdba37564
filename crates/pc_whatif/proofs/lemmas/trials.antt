pub mod KeptLaws
pub mod LaidLaws
pub mod OpenLaws
pub mod RenewLaws
pub mod TimesLaws
pub mod TrialLaws
