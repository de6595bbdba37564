-- The plan that is drawn, made of its lists, and its project.
use Rattle.std.proofs.Common.{◌≡◌, ℕ, List, [], ◌∷◌, ◌++◌, length, sym, ap, ◌∙◌, subst}
use Rattle.std.specs.Prelude.{◌↔◌}
use Rattle.pc_model.specs.Cost.{IsLeastCost}
use Rattle.pc_model.specs.Pieces.{knees_of}
use Rattle.pc_model.specs.Schedule.{HasSchedule}
use Rattle.pc_project.specs.declared.placed.AfterRow.{AfterRow}
use Rattle.pc_tasks.specs.network.Tasks.{AreAmong, HasTaskSchedule, IsLeastTaskCost}
use Rattle.pc_cards.specs.declared.sort.Sort.TheVariants.{Tasks}
use Rattle.pc_deck.specs.Deck.{Deck}
use Rattle.pc_deck.specs.Made.{drawn_with}
use Rattle.pc_deck.specs.Within.{IsWithin, IsWithinLimits}
use Rattle.pc_deck.specs.declared.kinds.act.ActCard.{ActCard}
use Rattle.pc_deck.specs.declared.kinds.titled.TitledCard.{TitledCard}
use Rattle.pc_deck.specs.declared.kinds.wbs.ItemCard.{ItemCard}
use Rattle.pc_deck.specs.Misfit.{HasNoMisfit}
use Rattle.pc_project.specs.Figures.{IsProjectOfDeck}
use Rattle.pc_project.specs.Project.{Project, network_of, pieces_in, terms_in}
use Rattle.pc_tasks.specs.Drawn.{arrows_deck, drawn_events, links_item, drawn_links, task_acts}
use Rattle.pc_tasks.specs.Known.{CanBeDrawn}
use Rattle.pc_tasks.specs.Lists.{afters_in, task_pieces, task_terms}
use Rattle.pc_tasks.specs.Text.{KeepsTasks}
use Rattle.pc_tasks.proofs.DrawnLemmas.{afters-among, tasks-terms}
use Rattle.pc_tasks.proofs.KnownLemmas.{can_be_drawn}
use Rattle.pc_tasks.proofs.WithinLemmas.{drawn-within}

-- the plan of these lists
pub made-drawn : (deck : Deck) (items : List ItemCard) (events : List TitledCard) (acts : List ActCard) →
    items ≡ deck.items ++ links_item deck ∷ [] → events ≡ drawn_events deck → acts ≡ task_acts 0 deck.tasks ++ drawn_links deck →
    drawn_with deck items events acts ≡ arrows_deck deck
made-drawn deck items events acts same_items same_events same_acts =
    ap (λ i. drawn_with deck i events acts) same_items
    ∙ (ap (λ e. drawn_with deck (deck.items ++ links_item deck ∷ []) e acts) same_events
    ∙ ap (drawn_with deck (deck.items ++ links_item deck ∷ []) (drawn_events deck)) same_acts)

pub made-within : (deck : Deck) (items : List ItemCard) (events : List TitledCard) (acts : List ActCard) → IsWithin Tasks deck →
    HasNoMisfit Tasks deck → items ≡ deck.items ++ links_item deck ∷ [] → events ≡ drawn_events deck →
    acts ≡ task_acts 0 deck.tasks ++ drawn_links deck → IsWithinLimits (drawn_with deck items events acts)
made-within deck items events acts within none same_items same_events same_acts =
    subst IsWithinLimits (sym (made-drawn deck items events acts same_items same_events same_acts)) (drawn-within deck within (can_be_drawn deck none within))

-- the tasks that rows name are tasks
pub rows-among : (deck : Deck) (rows : List AfterRow) → CanBeDrawn deck → rows ≡ afters_in deck → AreAmong (length deck.tasks) rows
rows-among deck rows can is =
    subst (AreAmong (length deck.tasks)) (sym is) (subst (λ n. AreAmong n (afters_in deck)) (tasks-terms deck can) (afters-among deck can))

-- the project of the plan keeps the tasks
pub keeps_tasks : (deck : Deck) (project : Project) → IsProjectOfDeck (arrows_deck deck) project →
    ((limit : ℕ) → HasTaskSchedule (task_terms deck) (afters_in deck) limit ↔ HasSchedule (network_of (arrows_deck deck)) (terms_in (arrows_deck deck)) limit) →
    ((limit cost : ℕ) → IsLeastTaskCost (task_terms deck) (knees_of (task_terms deck) (task_pieces deck)) (afters_in deck) limit cost
    ↔ IsLeastCost (network_of (arrows_deck deck)) (terms_in (arrows_deck deck))
    (knees_of (terms_in (arrows_deck deck)) (pieces_in (arrows_deck deck))) limit cost) →
    KeepsTasks deck project
keeps_tasks deck project is schedules costs = subst (KeepsTasks deck) (sym is.lists) (record { schedules = schedules; costs = costs })
