-- The priced network of a project, from its parts.
use Rattle.std.proofs.Common.{◌≡◌, ℕ, List, length, refl, ap}
use Rattle.pc_model.specs.Network.{Network}
use Rattle.pc_model.specs.declared.PieceRow.{PieceRow}
use Rattle.pc_model.specs.declared.Term.{Term}
use Rattle.pc_model.specs.Cost.{IsPriced}
use Rattle.pc_model.proofs.Costs.PieceLaws.{pieces_fit}
use Rattle.pc_crash.specs.Priced.{PricedNetwork, knees_in}
use Rattle.pc_project.specs.Project.{Project}
use Rattle.pc_project.proofs.SoundLaws.{sound_parts}
use Rattle.pc_deck.specs.Deck.{Deck}
use Rattle.pc_project.specs.Figures.{IsProjectOfDeck}
use Rattle.pc_project.specs.shell.Priced.{priced_in, priced_of}
use Rattle.pc_project.specs.shell.Verdict.{IsProjectOf}

abbrev of_fields : Network → List Term → List PieceRow → List ℕ → List (List ℕ) → List (List ℕ) → PricedNetwork
of_fields a b c d e f = record { network = a; terms = b; pieces = c; project = d; events = e; activities = f }

same_fields : {a b : Network} {c d : List Term} {e f : List PieceRow} {g h : List ℕ} {i j k l : List (List ℕ)} → a ≡ b → c ≡ d → e ≡ f →
    g ≡ h → i ≡ j → k ≡ l → of_fields a c e g i k ≡ of_fields b d f h j l
same_fields p q r s t u = rw (p, q, r, s, t, u) refl

-- a priced network with all that a project says is that of the project
pub priced_is : (net : PricedNetwork) (project : Project) → net.network ≡ project.network → net.terms ≡ project.terms →
    net.pieces ≡ project.pieces → net.project ≡ project.heading.code → net.events ≡ project.events → net.activities ≡ project.activities →
    net ≡ priced_in project
priced_is net project p q r s t u = same_fields p q r s t u

-- the priced network of each accepted deck's project is sound and priced
pub is_priced : (bytes : List ℕ) (project : Project) → IsProjectOf bytes project → IsPriced project.network project.terms (knees_in (priced_in project))
is_priced bytes project is =
    let parts = sound_parts is.deck project is.accepted.makes is.is in
    record {
      range = parts.in_range;
      sound = parts.sound;
      terms_fit = parts.terms;
      knees_fit = pieces_fit project.network project.terms project.pieces parts.terms parts.pieces;
    }

-- and names its activities
pub is_named : (bytes : List ℕ) (project : Project) → IsProjectOf bytes project → length project.activities ≡ length project.network.arcs
is_named bytes project is = (sound_parts is.deck project is.accepted.makes is.is).activity_codes

-- the priced network of a deck's project is that of the deck
pub priced_as : (deck : Deck) (project : Project) → IsProjectOfDeck deck project → priced_in project ≡ priced_of deck
priced_as deck project is = ap priced_in is.lists
