-- The text of a project's deck is a deck of the same project.
use Rattle.std.proofs.Common.{◌≡◌, ◌≤◌, List, ℕ, length, sym, ap, subst, ◌∙◌}
use Rattle.pc_deck.specs.Deck.{Deck}
use Rattle.pc_deck.specs.Limits.{longest_deck}
use Rattle.pc_deck.specs.Read.{IsDeckOf}
use Rattle.pc_deck.specs.Within.{IsWithinLimits}
use Rattle.pc_deck.specs.Text.{deck_text}
use Rattle.pc_deck.proofs.AgainLemmas.{text-again}
use Rattle.pc_deck.proofs.LengthLemmas.{length-deck_text}
use Rattle.pc_deck.proofs.TextLaws.{deck_text-read}
use Rattle.pc_project.specs.Figures.{IsProjectOfDeck}
use Rattle.pc_project.specs.Planned.{IsOfItsDeck}
use Rattle.pc_project.specs.Project.{Project}
use Rattle.pc_project.specs.Makes.{MakesProject}
use Rattle.pc_project.specs.deck_text.Same.{SayTheSame}
use Rattle.pc_project.specs.deck_text.Written.{IsDeckText, IsKeptByText, migrated, written}
use Rattle.pc_project.proofs.lemmas.deck_text.AgainLaws.{makes_again}
use Rattle.pc_project.proofs.lemmas.deck_text.SameLaws.{same_project}
use Rattle.pc_project.proofs.lemmas.deck_text.SettledLaws.{settled_same}

-- what says the same of two decks is said of them the other way round
back : (deck other : Deck) → SayTheSame deck other → SayTheSame other deck
back deck other same = record {
  project = sym same.project;
  as_of = sym same.as_of;
  terms = sym same.terms;
  items = sym same.items;
  events = sym same.events;
  acts = sym same.acts;
  pieces = sym same.pieces;
  accounts = sym same.accounts;
  charges = sym same.charges;
  togos = sym same.togos;
  statuses = sym same.statuses;
  resources = sym same.resources;
  loads = sym same.loads;
}

-- the same project, with the deck that its text is
project_written : (project : Project) → IsProjectOfDeck project.deck project → IsProjectOfDeck (written project.deck) (migrated project)
project_written project is = record {
  lists =
      ap (λ (p : Project). record p { deck = written project.deck }) is.lists
      ∙ same_project project.deck (written project.deck) (settled_same project.deck) project.entries project.states;
  entries = is.entries;
  states = is.states;
}

-- the text of a project's deck
pub text_of_deck : (project : Project) (text : List ℕ) → IsOfItsDeck project → text ≡ deck_text project.deck → IsDeckText project text
text_of_deck project text own is = record {
  is = is;
  short = subst (λ t. length t ≤ longest_deck) (sym is) (length-deck_text project.deck own.within);
  cards = subst (λ t. IsDeckOf t (written project.deck)) (sym is) (deck_text-read project.deck own.within);
  makes = makes_again (written project.deck) project.deck (back project.deck (written project.deck) (settled_same project.deck)) own.makes;
  made = project_written project own.is;
  same = settled_same project.deck;
  again = text-again project.deck ∙ sym is;
}

-- the text of a deck that makes a project
pub kept_by_text : (deck : Deck) → IsWithinLimits deck → MakesProject deck → IsKeptByText deck
kept_by_text deck within makes = record {
  short = length-deck_text deck within;
  cards = deck_text-read deck within;
  makes = makes_again (written deck) deck (back deck (written deck) (settled_same deck)) makes;
  same = settled_same deck;
  made = λ project is.
      let own : project.deck ≡ deck = ap (λ (p : Project). p.deck) is.lists in
      subst (λ (d : Deck). IsProjectOfDeck (written d) (migrated project)) own
      (project_written project (subst (λ (d : Deck). IsProjectOfDeck d project) (sym own) is));
}
