-- What holds of the project of each accepted deck, whatever its limits.
use Rattle.std.proofs.Common.{◌≡◌, ℕ, ◌<◌, length, map, get_or, sym, ap, ◌∙◌, subst, arith}
use Rattle.std.proofs.lemmas.List.{length-map, get_or-map}
use Rattle.pc_accounts.specs.declared.book.AcctRow.{AcctRow}
use Rattle.pc_accounts.specs.Amounts.{item_of}
use Rattle.pc_deck.specs.Deck.{Deck}
use Rattle.pc_model.specs.Network.{IsInRange, IsSound}
use Rattle.pc_model.specs.Pieces.{ArePieces}
use Rattle.pc_model.specs.Schedule.{AreTerms, term_at}
use Rattle.pc_wbs.specs.Climb.{AreInRange, IsLeaf, IsTree}
use Rattle.pc_project.specs.Figures.{IsProjectOfDeck}
use Rattle.pc_project.specs.Project.{Project, account_of, arc_of, row_of, rows_of, term_of}
use Rattle.pc_project.specs.Makes.{MakesProject}
use Rattle.pc_project.specs.Refusal.{HasNoFault}
use Rattle.pc_project.proofs.BranchLaws.{account_on_leaf}
use Rattle.pc_project.proofs.FigureLaws.{account_there, no_account}
use Rattle.pc_project.proofs.FitLaws.{account_item-within, all_fit, network_of-in_range, no_act, rows_of-in_range}
use Rattle.pc_project.proofs.MakesLaws.{no_faults}
use Rattle.pc_project.proofs.PlannedLaws.{pieces_of_deck}

-- the network is sound and the items are a tree; each activity has its code, its term and the pieces of its cost, and each account
-- is on a leaf
pub record HasSoundParts (project : Project) : Type 0 where
  pub in_range : IsInRange project.network
  pub sound : IsSound project.network
  pub terms : AreTerms project.network project.terms
  pub pieces : ArePieces project.terms project.pieces
  pub activity_codes : length project.activities ≡ length project.network.arcs
  pub ranged : AreInRange project.tree
  pub tree : IsTree project.tree
  pub known : (a : ℕ) → a < length project.accounts → item_of project.accounts a < length project.tree
  pub leaves : (a : ℕ) → a < length project.accounts → IsLeaf project.tree (item_of project.accounts a)

parts_of : (deck : Deck) (project : Project) → HasNoFault deck → IsProjectOfDeck deck project → HasSoundParts project
parts_of deck project makes is =
    subst HasSoundParts (sym is.lists) (record {
      in_range = network_of-in_range deck makes.cards;
      sound = makes.sound;
      terms = record {
        one_each = length-map deck.acts term_of ∙ sym (length-map deck.acts (arc_of deck));
        ordered = λ a below.
            let inside : a < length deck.acts = omega (arith, below, length-map deck.acts term_of) in
            let there : term_at (map term_of deck.acts) a
            ≡ term_of (get_or deck.acts a no_act) =
            get_or-map term_of deck.acts a no_act (record { normal = 0; crash = 0; cost = 0; slope = 0 }) inside in
            omega (arith, ap (λ t. t.crash) there, ap (λ t. t.normal) there, (all_fit deck makes.cards a no_act inside).durations);
      };
      pieces = pieces_of_deck deck makes.cards makes.pieces;
      activity_codes = length-map deck.acts (λ act. act.code) ∙ sym (length-map deck.acts (arc_of deck));
      ranged = rows_of-in_range deck makes.cards;
      tree = makes.tree;
      known = λ a below.
          let inside : a < length deck.accounts = omega (arith, below, length-map deck.accounts (account_of deck)) in
          omega (arith, ap (λ (r : AcctRow). r.item) (account_there deck a inside), account_item-within deck makes.cards a no_account inside, length-map deck.items (row_of deck));
      leaves = λ a below.
          let inside : a < length deck.accounts = omega (arith, below, length-map deck.accounts (account_of deck)) in
          subst (IsLeaf (rows_of deck)) (sym (ap (λ (r : AcctRow). r.item) (account_there deck a inside))) (account_on_leaf deck makes.figures.leaves a no_account inside);
    })

pub sound_parts : (deck : Deck) (project : Project) → MakesProject deck → IsProjectOfDeck deck project → HasSoundParts project
sound_parts deck project makes is = parts_of deck project (no_faults deck makes) is
