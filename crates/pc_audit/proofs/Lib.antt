mod OnceLaws
mod CheckLaws
mod CheckDecided
