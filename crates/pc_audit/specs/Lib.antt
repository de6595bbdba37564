pub mod Certificate
pub mod CheckOutcome
pub mod inside
pub use Rattle.pc_edges.specs.Faults
pub use Rattle.pc_edges.specs.Writes
pub use Rattle.pc_deck.specs.Deck
pub use Rattle.pc_project.specs.Project
