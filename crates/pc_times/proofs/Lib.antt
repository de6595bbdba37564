mod GreatestLaws
mod TimesLaws
pub mod EstimateLaws
mod LateLaws
mod PickedLaws
pub mod PickedWalks
mod ForecastLaws
pub mod OneForecastLaws
