use Rattle.std.proofs.Common.{◌≡◌, ◌∙◌, ℕ, List, length, map, sym, ap, subst, arith}
use Rattle.std.proofs.lemmas.List.{length-map}
use Rattle.std.proofs.lemmas.Simd.{map-map}
use Rattle.pc_deck.specs.Deck.{Deck}
use Rattle.pc_model.specs.declared.Arc.{Arc}
use Rattle.pc_model.specs.Network.{IsInRange, IsSound, Network}
use Rattle.pc_faults.specs.declared.kind.Kind.TheVariants.{Act}
use Rattle.pc_net.specs.Refusals.{IsNetError}
use Rattle.pc_project.specs.Project.{arc_of, network_of}
use Rattle.pc_project.specs.Refusal.{of_network}
use Rattle.pc_project.specs.inside.Numbered.{AreNumbersOf}
use Rattle.pc_project.specs.inside.Project.{placement_of}
use Rattle.pc_project.specs.declared.numbers.Numbers.{Numbers}
use Rattle.pc_project.specs.declared.placed.Placement.{Placement}
use Rattle.pc_project.proofs.FitLaws.{network_of-in_range, network_of-is}
use Rattle.pc_project.proofs.network.net_of.Goals as goal

-- the arcs of the placements are those of the cards
arcs_are : (deck : Deck) (arcs : List Arc) (placements : List Placement) → arcs ≡ map (λ placement. placement.arc) placements →
    placements ≡ map (placement_of deck) deck.acts → arcs ≡ map (arc_of deck) deck.acts
arcs_are deck arcs placements is same =
    is ∙ (ap (map (λ placement. placement.arc)) same ∙ map-map (λ placement. placement.arc) (placement_of deck) deck.acts)

-- the network of the numbers is that of the cards
net_is : (deck : Deck) (numbers : Numbers) (events : ℕ) (arcs : List Arc) (placements : List Placement) → AreNumbersOf deck numbers → events ≡ length deck.events
    → arcs ≡ map (λ placement. placement.arc) placements → placements ≡ numbers.placements.items
    → let net : Network = record { events = events; start = numbers.start; end = numbers.end; arcs = arcs } in net ≡ network_of deck
net_is deck numbers events arcs placements known same is read =
    network_of-is deck events numbers.start numbers.end arcs same known.start known.end (arcs_are deck arcs placements is (read ∙ known.lists.placements))

pub build-requires-clause-few_activities : goal.build-requires-clause-few_activities
build-requires-clause-few_activities c =
    let deck = c.args.cards.now in
    let arcs = arcs_are deck c.deref-2.result.now c.deref.result.now (c.deref-2.ensures.value ∙ c.in_ok-arcs.ensures) (c.deref.ensures.value ∙ c.requires.numbers.lists.placements) in
    omega (arith, ap length arcs, length-map deck.acts (arc_of deck), (c.events.ensures.within Act).few)

pub build-requires-clause-in_range : goal.build-requires-clause-in_range
build-requires-clause-in_range c =
    subst IsInRange
    (sym (net_is c.args.cards.now c.args.numbers.now _ c.deref-2.result.now c.deref.result.now c.requires.numbers
    (ap length c.events.ensures.cards) (c.deref-2.ensures.value ∙ c.in_ok-arcs.ensures) c.deref.ensures.value))
    (network_of-in_range c.args.cards.now c.requires.numbers.faultless)

pub returns-in-Ok-clause-network : goal.returns-in-Ok-clause-network
returns-in-Ok-clause-network c =
    c.in-Ok.ensures.network
    ∙ net_is c.args.cards.now c.args.numbers.now _ c.deref-2.result.now c.deref.result.now c.requires.numbers
    (ap length c.events.ensures.cards) (c.deref-2.ensures.value ∙ c.in_ok-arcs.ensures) c.deref.ensures.value

pub returns-in-Ok-clause-sound : goal.returns-in-Ok-clause-sound
returns-in-Ok-clause-sound c =
    subst IsSound
    (net_is c.args.cards.now c.args.numbers.now _ c.deref-2.result.now c.deref.result.now c.requires.numbers
    (ap length c.events.ensures.cards) (c.deref-2.ensures.value ∙ c.in_ok-arcs.ensures) c.deref.ensures.value)
    c.in-Ok.ensures.sound

pub fault_of-requires : goal.fault_of-requires
fault_of-requires c =
    subst (λ net. IsNetError net c.in-Err.error)
    (net_is c.args.cards.now c.args.numbers.now _ c.deref-2.result.now c.deref.result.now c.requires.numbers
    (ap length c.events.ensures.cards) (c.deref-2.ensures.value ∙ c.in_ok-arcs.ensures) c.deref.ensures.value)
    c.in-Err.ensures.refused

pub returns-clause-refused : goal.returns-clause-refused
returns-clause-refused c =
    of_network c.requires.numbers.faultless c.requires.tree c.in-Err.error
    (subst (λ net. IsNetError net c.in-Err.error)
    (net_is c.args.cards.now c.args.numbers.now _ c.deref-2.result.now c.deref.result.now c.requires.numbers
    (ap length c.events.ensures.cards) (c.deref-2.ensures.value ∙ c.in_ok-arcs.ensures) c.deref.ensures.value)
    c.in-Err.ensures.refused)
    c.in_ok-fault_of-in-Err.ensures
