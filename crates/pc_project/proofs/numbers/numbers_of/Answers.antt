use Rattle.std.proofs.Common.{None, Option, Some, drop, length, sym, ap, subst, arith}
use Rattle.pc_deck.specs.Deck.{Deck}
use Rattle.pc_deck.specs.Kinds.{kinds_of}
use Rattle.std.proofs.lemmas.List.{length-map}
use Rattle.pc_cards.specs.declared.sort.Sort.TheVariants.{Plan}
use Rattle.pc_deck.specs.Misfit.{HasMisfit}
use Rattle.pc_faults.specs.declared.kind.Kind.TheVariants.{Project, Wbs}
use Rattle.pc_faults.specs.inside.First.{IsFirstIn, earliest}
use Rattle.pc_project.specs.Project.{row_of}
use Rattle.pc_deck.specs.Misfit.{HasCardMisfit}
use Rattle.pc_deck.proofs.MisfitLaws.{first_cons, first_of_one}
use Rattle.pc_faults.specs.declared.fault.Fault.{Fault}
use Rattle.pc_project.specs.inside.Numbered.{HasListedFault}
use Rattle.pc_project.proofs.numbers.numbers_of.Goals as goal

-- the first fault of the PROJECT card and of the others
first_of_cards : (deck : Deck) (card found : Option Fault) → IsFirstIn (HasCardMisfit Plan deck Project deck.project) card → IsFirstIn (HasListedFault deck) found →
    IsFirstIn (HasMisfit Plan deck) (earliest card found)
first_of_cards deck card found of_card of_lists =
    first_cons Plan deck Project (drop 1 (kinds_of Plan)) card found (first_of_one (HasCardMisfit Plan deck Project) deck.project card of_card) of_lists

pub returns-in-Ok-None-clause-numbers : goal.returns-in-Ok-None-clause-numbers
returns-in-Ok-None-clause-numbers c =
    let deck = c.args.cards.now in
    let lists = c.in_ok-of_lists.ensures.lists c.in-Ok-None.is-1 in
    record {
      faultless = subst (IsFirstIn (HasMisfit Plan deck)) c.in-Ok-None.is-1 (first_of_cards deck None c.in_ok-of_lists.of_lists c.in-Ok-None.ensures.faultless c.in_ok-of_lists.ensures.first);
      within = c.in_ok-of_lists.ensures.within;
      start = c.in-Ok-None.ensures.start;
      end = c.in-Ok-None.ensures.end;
      lists = record {
        rows = lists.rows;
        placements = lists.placements;
        pieces = lists.pieces;
        loads = lists.loads;
        accounts = lists.accounts;
        charges = lists.charges;
        togos = lists.togos;
        statuses = lists.statuses;
      };
      few = omega (arith, ap length lists.rows, length-map deck.items (row_of deck), (c.in_ok-of_lists.ensures.within Wbs).few);
    }

pub returns-in-Ok-Some-clause-first : goal.returns-in-Ok-Some-clause-first
returns-in-Ok-Some-clause-first c =
    let deck = c.args.cards.now in
    subst (IsFirstIn (HasMisfit Plan deck)) c.in-Ok-Some.is-1 (first_of_cards deck None c.in_ok-of_lists.of_lists c.in-Ok-Some.ensures.faultless c.in_ok-of_lists.ensures.first)

pub returns-in-Err-default-clause-first : goal.returns-in-Err-default-clause-first
returns-in-Err-default-clause-first c =
    let deck = c.args.cards.now in
    subst (IsFirstIn (HasMisfit Plan deck)) (sym c.earlier_of.ensures)
    (first_of_cards deck (Some c.in-Err-default.first) c.in_ok-of_lists.of_lists c.in-Err-default.ensures.first
    c.in_ok-of_lists.ensures.first)
