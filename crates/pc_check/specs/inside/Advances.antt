-- What one more line adds to the checker's state.
use Rattle.std.specs.Prelude.{◌≡◌, ℕ, ◌+◌, ◌≤◌, Bool, true, false, List, [], ◌∷◌, ◌++◌, Some, if◌then◌else◌}
use Rattle.pc_model.specs.declared.limits.TheConstants.{MAX_DURATION}
use Rattle.pc_cert.specs.declared.line.CertLine.{CertLine}
use Rattle.pc_cert.specs.declared.line.CertLine.TheVariants.{Step, Crash, Segment, Event, Act, Close}
use Rattle.pc_cert.specs.Grammar.{next}
use Rattle.pc_cert.specs.declared.place.Place.{Place}
use Rattle.pc_crash.specs.Priced.{PricedNetwork}
use Rattle.pc_check.specs.declared.kept.Kept.{Kept}
use Rattle.pc_check.specs.declared.kept.Tally.{Tally}
use Rattle.pc_check.specs.inside.Safe.{IsBegun, AddsAct}
use Rattle.pc_check.specs.Walks.{length_in, stepped}
use Rattle.pc_check.specs.inside.Walks.{sum_of_reached}

-- one more step of the walk that has begun
pub record AddsStep (net : PricedNetwork) (code : List ℕ) (old new : Kept) : Type 0 where
  pub rest : new ≡ record old { normal = new.normal; crash = new.crash }
  pub normal : new.normal ≡ (if old.crash_walk_started then old.normal else stepped net (length_in net false) old.normal code)
  pub crash : new.crash ≡ (if old.crash_walk_started then stepped net (length_in net true) old.crash code else old.crash)
  pub short_normal : sum_of_reached new.normal ≤ sum_of_reached old.normal + (if old.crash_walk_started then 0 else MAX_DURATION)
  pub short_crash : sum_of_reached new.crash ≤ sum_of_reached old.crash + (if old.crash_walk_started then MAX_DURATION else 0)

-- one more event
pub record AddsEvent (time : ℕ) (moves : Bool) (old new : Tally) : Type 0 where
  pub times : new.times.items ≡ old.times.items ++ time ∷ []
  pub moves_too : new.moves.items ≡ old.moves.items ++ moves ∷ []
  pub rest : new ≡ record old { times = new.times; moves = new.moves }

-- the present segment has changed, and nothing else
abbrev pub KeepsAllBut : Kept → Kept → Type 0
KeepsAllBut old new = new ≡ record old { tally = new.tally }

-- what a line adds
abbrev pub AddsToKept : PricedNetwork → CertLine → Kept → Kept → Type 0
AddsToKept net (Step code) old new = AddsStep net code old new
AddsToKept net Crash old new = new ≡ record old { crash_walk_started = true }
AddsToKept net (Segment upper lower cost slope) old new = KeepsAllBut old new × IsBegun upper lower cost slope new.tally
AddsToKept net (Event code time moves) old new = KeepsAllBut old new × AddsEvent time moves old.tally new.tally
AddsToKept net (Act code duration flows) old new = KeepsAllBut old new × AddsAct net old.tally duration flows new.tally
AddsToKept net Close old new = new ≡ record old { segments = old.segments + 1 }
AddsToKept net other old new = new ≡ old

-- the state after the line, with the next line after it
abbrev pub moved_on : Kept → Place → Kept
moved_on kept behind = record kept { place = behind; lines = kept.lines + 1 }

-- a line was added, and the next one comes after it
pub record Advances (net : PricedNetwork) (line : CertLine) (old new : Kept) : Type 0 where
  pub goes : next old.place line ≡ Some new.place
  pub between : Kept
  pub added : AddsToKept net line old between
  pub moved : new ≡ moved_on between new.place
