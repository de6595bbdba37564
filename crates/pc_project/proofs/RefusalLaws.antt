-- A deck is not both a project and refused, and each refusal can be told.
use Rattle.std.proofs.Common.{◌≡◌, ◌≢◌, ℕ, List, [], ◌∷◌, refl, sym, ◌∙◌, subst, ap, inl, inr}
use Rattle.std.specs.Prelude.{Result, Ok, Err, IfErr, IsErrAnd}
use Rattle.pc_wbs.specs.declared.error.TreeError.{TreeError}
use Rattle.pc_wbs.specs.declared.error.TreeError.TheVariants as tree
use Rattle.pc_wbs.specs.Climb.{IsTree}
use Rattle.pc_wbs.specs.declared.tree.ItemRow.{ItemRow}
use Rattle.pc_wbs.proofs.ExactLaws.{IsTree-not_refused}
use Rattle.pc_net.specs.declared.refusal.NetError.{NetError}
use Rattle.pc_net.specs.declared.refusal.NetError.TheVariants as net
use Rattle.pc_net.proofs.RefusalLaws.{refused_is_not_sound}
use Rattle.pc_cards.specs.Entry.{Reference}
use Rattle.pc_cards.specs.declared.sort.Sort.{Sort}
use Rattle.pc_cards.specs.declared.sort.Sort.TheVariants.{Plan, Tasks}
use Rattle.pc_deck.specs.declared.kinds.wbs.ItemCard.{ItemCard}
use Rattle.pc_deck.specs.Deck.{Deck}
use Rattle.pc_deck.specs.Target.{IsUnknown}
use Rattle.pc_deck.specs.Act.{durations, same_events}
use Rattle.pc_deck.specs.Durations.{HasDurationFault, crash_above, unordered}
use Rattle.pc_deck.specs.Kinds.{CardOf, entry_of}
use Rattle.pc_deck.specs.Misfit.{HasMisfit, HasNoMisfit, HasUnknown}
use Rattle.pc_deck.specs.inside.Misfit.{names_of}
use Rattle.pc_faults.specs.declared.kind.Kind.{Kind}
use Rattle.pc_faults.specs.declared.kind.Kind.TheVariants as kinds
use Rattle.pc_faults.specs.declared.kind.Kind.TheVariants.{Act, After, Project}
use Rattle.pc_faults.specs.Faults.{unknown_name}
use Rattle.pc_faults.specs.declared.target.Target.{Target}
use Rattle.pc_faults.specs.declared.target.Target.TheVariants.{Event, Item, Account, Activity, Task, Resource}
use Rattle.pc_faults.specs.inside.FaultText.{IsTold}
use Rattle.pc_faults.specs.First.{IsFirstFault}
use Rattle.pc_faults.specs.inside.First.{Refuses}
use Rattle.pc_faults.specs.declared.fault.Fault.{Fault as ADeckFault}
use Rattle.pc_faults.specs.declared.fault.DeckError.{DeckError}
use Rattle.pc_faults.specs.declared.fault.DeckError.TheVariants.{Fault, OutOfMemory}
use Rattle.pc_project.specs.Project.{network_of, rows_of}
use Rattle.pc_project.specs.DisorderFaults.{HasDisorder, HasNoDisorder, of_as_of, of_status}
use Rattle.pc_project.specs.PackageFaults.{HasLeafFault, HasNoLeafFault, IsFirstUnevenFault, of_account, of_act}
use Rattle.pc_project.specs.ToGoFaults.{IsFirstSecondToGo}
use Rattle.pc_project.specs.PieceFaults as piece
use Rattle.pc_project.specs.PieceFaults.{HasPieceFault}
use Rattle.pc_project.specs.TermsFaults.{HasTermsFault, bonus_above}
use Rattle.pc_project.specs.Makes.{MakesProject}
use Rattle.pc_project.specs.Refusal.{IsTreeFault, tree_fault, net_fault, HasNoFault, HasSoundFigures, HasSoundPlan, IsEven, IsRefusedWith}
use Rattle.pc_project.specs.Refusal.{of_cards, of_tree, of_network, of_leaves, of_packages, of_statuses, of_togos, of_pieces, of_terms}
use Rattle.pc_project.proofs.MakesLaws.{no_faults}

-- want of memory is no fault
no_fault : (fault : ADeckFault) → OutOfMemory ≡ Fault fault → ⊥
no_fault fault is = cc

-- a fault of the tree says that the items are none
pub no_tree : (items : List ItemCard) (rows : List ItemRow) (fault : ADeckFault) → IsTree rows → IsTreeFault items rows fault → ⊥
no_tree items rows fault sound at =
    let apart : at.error ≢ tree.OutOfMemory = λ same. no_fault fault (sym (ap (tree_fault items) same) ∙ at.told) in
    apart (IsTree-not_refused rows at.error sound at.refused)

net_has_fault : (deck : Deck) (e : NetError) (fault : ADeckFault) → net_fault deck e ≡ Fault fault → e ≢ net.OutOfMemory
net_has_fault deck e fault is same = no_fault fault (sym (ap (net_fault deck) same) ∙ is)

-- cards in which no phase finds a fault are not refused
faultless_not_refused : (deck : Deck) (fault : ADeckFault) → HasNoFault deck → IsRefusedWith deck fault → ⊥
faultless_not_refused deck fault makes (of_cards first) = makes.cards fault first.holds
faultless_not_refused deck fault makes (of_tree cards at) = no_tree deck.items (rows_of deck) fault makes.tree at
faultless_not_refused deck fault makes (of_network cards items e refused is) =
    refused_is_not_sound (network_of deck) e refused (net_has_fault deck e fault is) makes.sound
faultless_not_refused deck fault makes (of_leaves plan first) = makes.figures.leaves fault first.holds
faultless_not_refused deck fault makes (of_packages plan leaves (item, (first, is))) = makes.figures.even item first.holds
faultless_not_refused deck fault makes (of_statuses plan leaves even first) = makes.figures.ordered fault first.holds
faultless_not_refused deck fault makes (of_togos plan leaves even ordered (k, (first, is))) = makes.figures.once k first.holds
faultless_not_refused deck fault makes (of_pieces plan figures first) = makes.pieces fault first.holds
faultless_not_refused deck fault makes (of_terms plan figures pieces first) = makes.terms fault first.holds

-- nor are cards that make a project
pub makes_not_refused : (deck : Deck) (fault : ADeckFault) → MakesProject deck → IsRefusedWith deck fault → ⊥
makes_not_refused deck fault makes refused = faultless_not_refused deck fault (no_faults deck makes) refused

-- a fault that is this one can be told where this one can
pub told : (fault known : ADeckFault) → fault ≡ known → IsTold known → IsTold fault
told fault known is can = subst IsTold (sym is) can

-- that a card names what is not there can be told
can_tell : (target : Target) (row : ℕ) (code : List ℕ) → IsTold (unknown_name target row code)
can_tell Event row code = refl
can_tell Item row code = refl
can_tell Account row code = refl
can_tell Activity row code = refl
can_tell Task row code = refl
can_tell Resource row code = refl

told_of-unknown : (deck : Deck) (target : Target) (row : ℕ) (code : List ℕ) (fault : ADeckFault) → IsUnknown deck target row code fault → IsTold fault
told_of-unknown deck target row code fault is = told fault _ is.told (can_tell target row code)

told_of-names : (deck : Deck) (row : ℕ) (names : List Reference) (fault : ADeckFault) → HasUnknown deck row names fault → IsTold fault
told_of-names deck row [] fault h = absurd h
told_of-names deck row (named ∷ more) fault (inl is) = told_of-unknown deck named.target row named.code fault is
told_of-names deck row (named ∷ more) fault (inr h) = told_of-names deck row more fault h.1

told_of-durations : (row opt likely pess normal crash : ℕ) (fault : ADeckFault) → HasDurationFault row opt likely pess normal crash fault → IsTold fault
told_of-durations row opt likely pess normal crash fault (unordered not is) = told fault _ is refl
told_of-durations row opt likely pess normal crash fault (crash_above above is) = told fault _ is refl

told_of-plan_flaw : (kind : Kind) (card : CardOf kind) (fault : ADeckFault) → (entry_of kind).flaws Plan card fault → IsTold fault
told_of-plan_flaw Project card fault h = told fault _ h.1 refl
told_of-plan_flaw Act card fault (same_events same is) = told fault _ is refl
told_of-plan_flaw Act card fault (durations h) = told_of-durations _ _ _ _ _ _ fault h
told_of-plan_flaw other card fault h = absurd (let h' = h in h')

told_of-task_flaw : (kind : Kind) (card : CardOf kind) (fault : ADeckFault) → (entry_of kind).flaws Tasks card fault → IsTold fault
told_of-task_flaw Project card fault h = told fault _ h.1 refl
told_of-task_flaw kinds.Task card fault h = told_of-durations _ _ _ _ _ _ fault h
told_of-task_flaw After card fault h = told fault _ h.1 refl
told_of-task_flaw other card fault h = absurd (let h' = h in h')

told_of-flaw : (sort : Sort) (kind : Kind) (card : CardOf kind) (fault : ADeckFault) → (entry_of kind).flaws sort card fault → IsTold fault
told_of-flaw Plan kind card fault h = told_of-plan_flaw kind card fault h
told_of-flaw Tasks kind card fault h = told_of-task_flaw kind card fault h

pub told_of-misfit : (sort : Sort) (deck : Deck) (fault : ADeckFault) → HasMisfit sort deck fault → IsTold fault
told_of-misfit sort deck fault (n, kind, among, at, (k, card, within, is, inl h)) = told_of-names deck ((entry_of kind).row card) (names_of sort kind card) fault h
told_of-misfit sort deck fault (n, kind, among, at, (k, card, within, is, inr h)) = told_of-flaw sort kind card fault h

told_of-leaf : (deck : Deck) (fault : ADeckFault) → HasLeafFault deck fault → IsTold fault
told_of-leaf deck fault (of_act (k, card, within, at, (branch, is))) = told fault _ is refl
told_of-leaf deck fault (of_account (k, card, within, at, (branch, is))) = told fault _ is refl

told_of-uneven : (deck : Deck) (fault : ADeckFault) → IsFirstUnevenFault deck fault → IsTold fault
told_of-uneven deck fault (item, (first, is)) = told fault _ is refl

told_of-disorder : (deck : Deck) (fault : ADeckFault) → HasDisorder deck fault → IsTold fault
told_of-disorder deck fault (of_as_of (card, (there, early, is))) = told fault _ is refl
told_of-disorder deck fault (of_status (k, within, (reason, (first, is)))) = told fault _ is refl

told_of-togo : (deck : Deck) (fault : ADeckFault) → IsFirstSecondToGo deck fault → IsTold fault
told_of-togo deck fault (k, (first, is)) = told fault _ is refl

told_of-piece : (deck : Deck) (fault : ADeckFault) → HasPieceFault deck fault → IsTold fault
told_of-piece deck fault (i, within, piece.one_too_many many is) = told fault _ is refl
told_of-piece deck fault (i, within, piece.not_rising low is) = told fault _ is refl
told_of-piece deck fault (i, within, piece.none_left long is) = told fault _ is refl

told_of-terms : (deck : Deck) (fault : ADeckFault) → HasTermsFault deck fault → IsTold fault
told_of-terms deck fault (bonus_above card there above is) = told fault _ is refl

-- the fault of an answer
fault_of : (known fault : ADeckFault) → Fault known ≡ Fault fault → IsTold known → IsTold fault
fault_of known fault is can = let same : fault ≡ known = cc in subst IsTold (sym same) can

told_of-error : (items : List ItemCard) (e : TreeError) (fault : ADeckFault) → tree_fault items e ≡ Fault fault → IsTold fault
told_of-error items tree.NoTop fault is = fault_of _ fault is refl
told_of-error items (tree.SecondTop item) fault is = fault_of _ fault is refl
told_of-error items (tree.Loop loop) fault is = fault_of _ fault is refl
told_of-error items (tree.TooDeep item level) fault is = fault_of _ fault is refl
told_of-error items tree.OutOfMemory fault is = absurd (no_fault fault is)

pub told_of-tree : (items : List ItemCard) (rows : List ItemRow) (fault : ADeckFault) → IsTreeFault items rows fault → IsTold fault
told_of-tree items rows fault at = told_of-error items at.error fault at.told

told_of-net : (deck : Deck) (e : NetError) (fault : ADeckFault) → net_fault deck e ≡ Fault fault → IsTold fault
told_of-net deck (net.StartEntered arc) fault is = fault_of _ fault is refl
told_of-net deck (net.EndLeft arc) fault is = fault_of _ fault is refl
told_of-net deck (net.Dangling event entered) fault is = fault_of _ fault is refl
told_of-net deck (net.Cycle cycle) fault is = fault_of _ fault is refl
told_of-net deck net.OutOfMemory fault is = absurd (no_fault fault is)

-- the fault with which a deck is refused has a line
pub told_of-refused : (deck : Deck) (fault : ADeckFault) → IsRefusedWith deck fault → IsTold fault
told_of-refused deck fault (of_cards first) = told_of-misfit Plan deck fault first.holds
told_of-refused deck fault (of_tree cards at) = told_of-tree deck.items (rows_of deck) fault at
told_of-refused deck fault (of_network cards items e refused is) = told_of-net deck e fault is
told_of-refused deck fault (of_leaves plan first) = told_of-leaf deck fault first.holds
told_of-refused deck fault (of_packages plan leaves uneven) = told_of-uneven deck fault uneven
told_of-refused deck fault (of_statuses plan leaves even first) = told_of-disorder deck fault first.holds
told_of-refused deck fault (of_togos plan leaves even ordered second) = told_of-togo deck fault second
told_of-refused deck fault (of_pieces plan figures first) = told_of-piece deck fault first.holds
told_of-refused deck fault (of_terms plan figures pieces first) = told_of-terms deck fault first.holds

-- an error that a `?` hands on has what it had
pub handed_on : {T E : Type 0} (P : E → Type 0) (result : Result T E) (error : E) → IsErrAnd result (λ e. e ≡ error) → P error → IfErr result P
handed_on P (Ok value) error is has = tt
handed_on P (Err e) error is has = subst P (sym is) has

-- what a refusal that is told as one of the tree says
pub refused_by_tree : (deck : Deck) (result : DeckError) → HasNoMisfit Plan deck → Refuses (IsTreeFault deck.items (rows_of deck)) result → Refuses (IsRefusedWith deck) result
refused_by_tree deck (Fault fault) cards at = of_tree cards at
refused_by_tree deck OutOfMemory cards at = tt

-- what a fault of leaves, of packages, of statuses and as-of, of amounts to go or of pieces says
pub refused_by_leaves : (deck : Deck) (result : DeckError) → HasSoundPlan deck → Refuses (IsFirstFault (HasLeafFault deck)) result → Refuses (IsRefusedWith deck) result
refused_by_leaves deck (Fault fault) plan first = of_leaves plan first
refused_by_leaves deck OutOfMemory plan first = tt

pub refused_by_packages : (deck : Deck) (result : DeckError) → HasSoundPlan deck → HasNoLeafFault deck → Refuses (IsFirstUnevenFault deck) result → Refuses (IsRefusedWith deck) result
refused_by_packages deck (Fault fault) plan leaves first = of_packages plan leaves first
refused_by_packages deck OutOfMemory plan leaves first = tt

pub refused_by_statuses : (deck : Deck) (result : DeckError) → HasSoundPlan deck → HasNoLeafFault deck → IsEven deck →
    Refuses (IsFirstFault (HasDisorder deck)) result → Refuses (IsRefusedWith deck) result
refused_by_statuses deck (Fault fault) plan leaves even first = of_statuses plan leaves even first
refused_by_statuses deck OutOfMemory plan leaves even first = tt

pub refused_by_togos : (deck : Deck) (result : DeckError) → HasSoundPlan deck → HasNoLeafFault deck → IsEven deck → HasNoDisorder deck →
    Refuses (IsFirstSecondToGo deck) result → Refuses (IsRefusedWith deck) result
refused_by_togos deck (Fault fault) plan leaves even ordered first = of_togos plan leaves even ordered first
refused_by_togos deck OutOfMemory plan leaves even ordered first = tt

pub refused_by_pieces : (deck : Deck) (result : DeckError) → HasSoundPlan deck → HasSoundFigures deck → Refuses (IsFirstFault (HasPieceFault deck)) result → Refuses (IsRefusedWith deck) result
refused_by_pieces deck (Fault fault) plan figures first = of_pieces plan figures first
refused_by_pieces deck OutOfMemory plan figures first = tt
