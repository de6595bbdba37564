-- A deck of a plan that was read is refused with one fault.
use Rattle.std.proofs.Common.{◌≡◌, ◌≢◌, ℕ, ◌==◌, Bool, true, false, List, map, slice_index_or, [], Option, Some, if◌then◌else◌, ◌⊎◌, inl, inr, refl, sym, ap, ◌∙◌, subst}
use Rattle.std.specs.Prelude.{ℤ, slice_index, IsFalse}
use Rattle.std.proofs.lemmas.Bool.{cases_order}
use Rattle.pc_accounts.specs.declared.status.StatusRow.{StatusRow}
use Rattle.pc_accounts.specs.status.Statuses.{IsReason, reason_rank}
use Rattle.pc_accounts.specs.Packages.{IsUneven}
use Rattle.pc_accounts.specs.Second.{IsRepeated}
use Rattle.pc_cards.specs.declared.sort.Sort.TheVariants.{Plan}
use Rattle.pc_deck.specs.Deck.{Deck}
use Rattle.pc_deck.specs.declared.kinds.as_of.AsOfCard.{AsOfCard}
use Rattle.pc_deck.specs.declared.kinds.terms.TermsCard.{TermsCard}
use Rattle.pc_deck.specs.declared.kinds.wbs.ItemCard.{ItemCard}
use Rattle.pc_deck.specs.Misfit.{HasMisfit, HasNoMisfit}
use Rattle.pc_faults.specs.Faults as fault
use Rattle.pc_faults.specs.First.{IsFirstFault}
use Rattle.pc_faults.specs.declared.fault.DeckError.{DeckError}
use Rattle.pc_faults.specs.declared.fault.DeckError.TheVariants as error
use Rattle.pc_faults.specs.declared.fault.Detail.TheVariants.{Name}
use Rattle.pc_faults.specs.declared.fault.Fault.{Fault}
use Rattle.pc_faults.specs.declared.fault.StatusFault.{StatusFault}
use Rattle.pc_faults.specs.declared.fault.StatusFault.TheVariants.{Second, Early, Late, NoStart, FinishFirst}
use Rattle.pc_model.specs.Network.{IsSound, Network}
use Rattle.pc_net.specs.Firmness.{Dangles, EntersStart, IsUnentered, LeavesEnd}
use Rattle.pc_net.specs.Refusals.{IsFirstDangling, IsNetError as IsNetRefusal}
use Rattle.pc_net.specs.Cycles.{LiesOnCycle}
use Rattle.pc_net.specs.declared.refusal.NetError.{NetError}
use Rattle.pc_net.specs.declared.refusal.NetError.TheVariants as net
use Rattle.pc_net.proofs.RefusalLaws.{refused_is_not_sound}
use Rattle.pc_project.specs.DisorderFaults.{HasDisorder, HasNoDisorder, as_of_in, of_as_of, of_status}
use Rattle.pc_project.specs.PackageFaults.{HasLeafFault, HasNoLeafFault, IsFirstUnevenFault, uneven_at}
use Rattle.pc_project.specs.PieceFaults.{HasNoPieceFault, HasPieceFault, HasPieceFaultAt, none_left, not_rising, one_too_many}
use Rattle.pc_project.specs.Project.{accounts_in, network_of, rows_of, statuses_in, togos_in, work_in}
use Rattle.pc_project.specs.Records.{act_records, status_records}
use Rattle.pc_project.specs.Refusal.{HasNoSecondToGo, HasSoundFigures, HasSoundPlan, IsEven, IsRefusedWith, IsTreeFault, net_fault, tree_fault}
use Rattle.pc_project.specs.Refusal.{of_cards, of_leaves, of_network, of_packages, of_pieces, of_statuses, of_terms, of_togos, of_tree}
use Rattle.pc_project.specs.TermsFaults.{HasTermsFault, bonus_above}
use Rattle.pc_project.specs.ToGoFaults.{IsFirstSecondToGo, second_to_go_at}
use Rattle.pc_project.proofs.RefusalLaws.{no_tree}
use Rattle.pc_wbs.specs.Climb.{IsTree}
use Rattle.pc_wbs.specs.declared.error.TreeError.{TreeError}
use Rattle.pc_wbs.specs.declared.error.TreeError.TheVariants as tree
use Rattle.pc_wbs.specs.declared.tree.ItemRow.{ItemRow}
use Rattle.pc_wbs.proofs.ExactLaws.{IsRefusal-same}
use Rattle.pert_cli.proofs.FirstOnceLaws.{AreAlike, AreToldByPlace, alike, by_number, first_number_once, first_once, settled}
use Rattle.pert_cli.proofs.RowsOnceLaws.{HasOwnRows}

-- ---- the reported fault is one

one_told : (f g : Fault) → ◌≡◌ {A = DeckError} (error.Fault f) (error.Fault g) → f ≡ g
one_told f g is = cc

no_memory : (f : Fault) → ◌≡◌ {A = DeckError} error.OutOfMemory (error.Fault f) → ⊥
no_memory f is = cc

-- ---- the tree

tree_apart : (items : List ItemCard) (e : TreeError) (f : Fault) → tree_fault items e ≡ error.Fault f → e ≢ tree.OutOfMemory
tree_apart items e f is same = no_memory f (sym (ap (tree_fault items) same) ∙ is)

pub tree_once : (items : List ItemCard) (rows : List ItemRow) (f g : Fault) → IsTreeFault items rows f → IsTreeFault items rows g → f ≡ g
tree_once items rows f g x y =
    let same = IsRefusal-same rows x.error y.error (tree_apart items x.error f x.told) (tree_apart items y.error g y.told) x.refused y.refused in
    one_told f g (sym x.told ∙ (ap (tree_fault items) same ∙ y.told))

-- ---- the network

-- the network of the deck is refused, with this fault
abbrev IsNetFault : Deck → Fault → Type 0
IsNetFault deck f = (e : NetError) × IsNetRefusal (network_of deck) e × (net_fault deck e ≡ error.Fault f)

one_side : (P : Type 0) (entered other : Bool) → (IsFalse entered → P) → (P → IsFalse entered) → (IsFalse other → P) → (P → IsFalse other) → entered ≡ other
one_side P true true a b c d = refl
one_side P false false a b c d = refl
one_side P true false a b c d = absurd (let no' = b (c refl) in cc)
one_side P false true a b c d = absurd (let no' = d (a refl) in cc)

same_told : (deck : Deck) (e d : NetError) (f g : Fault) → e ≡ d → net_fault deck e ≡ error.Fault f → net_fault deck d ≡ error.Fault g → AreAlike f g
same_told deck e d f g same x y = alike f g (one_told f g (sym x ∙ (ap (net_fault deck) same ∙ y)))

module _ (deck : Deck) where
  abbrev own : Network
  own = network_of deck

  same_dangling : (event other : ℕ) (entered too : Bool) → IsFirstDangling own event entered → IsFirstDangling own other too → event ≡ other → entered ≡ too
  same_dangling event other entered too x y same =
      let moved : IsFirstDangling own event too = subst (λ (e : ℕ). IsFirstDangling own e too) (sym same) y in
      one_side (IsUnentered own event) entered too x.unentered.0 x.unentered.1 moved.unentered.0 moved.unentered.1

  cycles_alike : (cycle other : List ℕ) (f g : Fault) → slice_index cycle 0 ≡ slice_index other 0 → net_fault deck (net.Cycle cycle) ≡ error.Fault f →
      net_fault deck (net.Cycle other) ≡ error.Fault g → AreAlike f g
  cycles_alike cycle other f g same x y =
      let here = one_told _ f x in
      let there = one_told _ g y in
      let number : f.number ≡ 27 = sym (ap (λ (h : Fault). h.number) here) in
      record {
        row = sym (ap (λ (h : Fault). h.row) here) ∙ (ap (λ (a : ℕ). slice_index (act_records deck) a) same ∙ ap (λ (h : Fault). h.row) there);
        number = number ∙ ap (λ (h : Fault). h.number) there;
        all = λ other_number no_more. absurd (other_number number);
      }

  net_alike : (e d : NetError) (f g : Fault) → IsNetRefusal own e → IsNetRefusal own d → net_fault deck e ≡ error.Fault f → net_fault deck d ≡ error.Fault g → AreAlike f g
  net_alike net.OutOfMemory d f g x y is also = absurd (no_memory f is)
  net_alike e net.OutOfMemory f g x y is also = absurd (no_memory g also)
  net_alike (net.StartEntered a) (net.StartEntered b) f g x y is also =
      same_told deck (net.StartEntered a) (net.StartEntered b) f g (ap (λ (n : ℕ). net.StartEntered n) (first_number_once (EntersStart own) a b x y)) is also
  net_alike (net.StartEntered a) (net.EndLeft b) f g x y is also = absurd (y.0 (a, x.holds.0, x.holds.1))
  net_alike (net.StartEntered a) (net.Dangling event entered) f g x y is also = absurd (y.not_entered (a, x.holds.0, x.holds.1))
  net_alike (net.StartEntered a) (net.Cycle cycle) f g x y is also = absurd (y.0.not_entered (a, x.holds.0, x.holds.1))
  net_alike (net.EndLeft a) (net.StartEntered b) f g x y is also = absurd (x.0 (b, y.holds.0, y.holds.1))
  net_alike (net.EndLeft a) (net.EndLeft b) f g x y is also =
      same_told deck (net.EndLeft a) (net.EndLeft b) f g (ap (λ (n : ℕ). net.EndLeft n) (first_number_once (LeavesEnd own) a b x.1 y.1)) is also
  net_alike (net.EndLeft a) (net.Dangling event entered) f g x y is also = absurd (y.not_left (a, x.1.holds.0, x.1.holds.1))
  net_alike (net.EndLeft a) (net.Cycle cycle) f g x y is also = absurd (y.0.not_left (a, x.1.holds.0, x.1.holds.1))
  net_alike (net.Dangling event entered) (net.StartEntered b) f g x y is also = absurd (x.not_entered (b, y.holds.0, y.holds.1))
  net_alike (net.Dangling event entered) (net.EndLeft b) f g x y is also = absurd (x.not_left (b, y.1.holds.0, y.1.holds.1))
  net_alike (net.Dangling event entered) (net.Dangling other too) f g x y is also =
      let same : event ≡ other = first_number_once (Dangles own) event other x.first y.first in
      let side : entered ≡ too = same_dangling event other entered too x y same in
      same_told deck (net.Dangling event entered) (net.Dangling other too) f g
      (ap (λ (n : ℕ). net.Dangling n entered) same ∙ ap (λ (b : Bool). net.Dangling other b) side) is also
  net_alike (net.Dangling event entered) (net.Cycle cycle) f g x y is also = absurd (y.0.none_dangles event x.first.holds.0 x.first.holds.1)
  net_alike (net.Cycle cycle) (net.StartEntered b) f g x y is also = absurd (x.0.not_entered (b, y.holds.0, y.holds.1))
  net_alike (net.Cycle cycle) (net.EndLeft b) f g x y is also = absurd (x.0.not_left (b, y.1.holds.0, y.1.holds.1))
  net_alike (net.Cycle cycle) (net.Dangling event entered) f g x y is also = absurd (x.0.none_dangles event y.first.holds.0 y.first.holds.1)
  net_alike (net.Cycle cycle) (net.Cycle other) f g x y is also =
      cycles_alike cycle other f g (first_number_once (LiesOnCycle own.arcs) (slice_index cycle 0) (slice_index other 0) x.1.first y.1.first) is also

  net_once : (f g : Fault) → IsNetFault deck f → IsNetFault deck g → AreAlike f g
  net_once f g (e, x, is) (d, y, also) = net_alike e d f g x y is also

  no_net : (f : Fault) → IsNetFault deck f → IsSound own → ⊥
  no_net f (e, x, is) sound = refused_is_not_sound own e x (λ same. no_memory f (sym (ap (net_fault deck) same) ∙ is)) sound

  -- ---- packages and amounts to go

  uneven_once : (f g : Fault) → IsFirstUnevenFault deck f → IsFirstUnevenFault deck g → f ≡ g
  uneven_once f g (item, (first, is)) (other, (also, told)) =
      is ∙ (ap (uneven_at deck) (first_number_once (IsUneven (accounts_in deck) (work_in deck)) item other first also) ∙ sym told)

  togo_once : (f g : Fault) → IsFirstSecondToGo deck f → IsFirstSecondToGo deck g → f ≡ g
  togo_once f g (k, (first, is)) (j, (also, told)) =
      is ∙ (ap (second_to_go_at deck) (first_number_once (IsRepeated (togos_in deck)) k j first also) ∙ sym told)

  -- ---- terms

  terms_told : AreToldByPlace (HasTermsFault deck)
  terms_told f g (bonus_above card there above is) (bonus_above other also higher told) row number =
      let same : card ≡ other = one_card card other (sym there ∙ also) in
      is ∙ (ap (λ (c : TermsCard). fault.bonus_above_penalty c.row) same ∙ sym told)
    where
      one_card : (x y : TermsCard) → ◌≡◌ {A = Option TermsCard} (Some x) (Some y) → x ≡ y
      one_card x y h = cc

-- ---- statuses

-- the reason at a place in the order in which they are tried
abbrev reason_at : ℕ → StatusFault
reason_at n = if n == 0 then Second else if n == 1 then Early else if n == 2 then Late else if n == 3 then NoStart else FinishFirst

reason_is : (reason : StatusFault) → reason_at (reason_rank reason) ≡ reason
reason_is Second = refl
reason_is Early = refl
reason_is Late = refl
reason_is NoStart = refl
reason_is FinishFirst = refl

one_reason : (start as_of : ℤ) (statuses : List StatusRow) (k : ℕ) (reason other : StatusFault) → IsReason start as_of statuses k reason → IsReason start as_of statuses k other → reason ≡ other
one_reason start as_of statuses k reason other x y =
    elim (cases_order (reason_rank reason) (reason_rank other)) [
      | inl same ↦ sym (reason_is reason) ∙ (ap reason_at same ∙ reason_is other)
      | inr apart ↦ elim apart [ inl before ↦ absurd (y.first reason before x.holds) | inr behind ↦ absurd (x.first other behind y.holds) ]
    ]

one_date : (x y : AsOfCard) → ◌≡◌ {A = Option AsOfCard} (Some x) (Some y) → x ≡ y
one_date x y h = cc

module _ (deck : Deck) (rows : HasOwnRows deck) where
  disorder_told : AreToldByPlace (HasDisorder deck)
  disorder_told f g (of_as_of (card, (there, early, is))) (of_as_of (other, (also, soon, told))) row number =
      is ∙ (ap (λ (c : AsOfCard). fault.disorder c.row Early) (one_date card other (sym there ∙ also)) ∙ sym told)
  disorder_told f g (of_as_of (card, (there, early, is))) (of_status (k, within, (reason, (first, told)))) row number =
      absurd (rows.as_of card there k within (sym (ap (λ (h : Fault). h.row) is) ∙ (row ∙ ap (λ (h : Fault). h.row) told)))
  disorder_told f g (of_status (k, within, (reason, (first, is)))) (of_as_of (card, (there, early, told))) row number =
      absurd (rows.as_of card there k within (sym (ap (λ (h : Fault). h.row) told) ∙ (sym row ∙ ap (λ (h : Fault). h.row) is)))
  disorder_told f g (of_status (k, within, (reason, (first, is)))) (of_status (j, inside, (other, (also, told)))) row number =
      let same : k ≡ j = rows.statuses k j within inside (sym (ap (λ (h : Fault). h.row) is) ∙ (row ∙ ap (λ (h : Fault). h.row) told)) in
      let moved = subst (λ (i : ℕ). IsReason deck.project.start_day (as_of_in deck) (statuses_in deck) i reason) same first in
      let why : reason ≡ other = one_reason deck.project.start_day (as_of_in deck) (statuses_in deck) j reason other moved also in
      is ∙ (ap (λ (i : ℕ). fault.disorder (slice_index (status_records deck) i) reason) same
      ∙ (ap (λ (r : StatusFault). fault.disorder (slice_index (status_records deck) j) r) why ∙ sym told))

  -- ---- pieces

  -- the details of the faults of the i-th piece, by their numbers
  abbrev flaw_at : ℕ → ℕ → Fault
  flaw_at i n = record {
    row = slice_index (map (λ piece. piece.row) deck.pieces) i;
    number = n;
    detail = Name (slice_index_or (map (λ piece. piece.activity) deck.pieces) i []);
  }

  flaw_told : (i : ℕ) (f known : Fault) → f ≡ known → known ≡ flaw_at i known.number → f ≡ flaw_at i f.number
  flaw_told i f known is at = is ∙ (at ∙ ap (λ (h : Fault). flaw_at i h.number) (sym is))

  flaw_is : (i : ℕ) (f : Fault) → HasPieceFaultAt deck i f → f ≡ flaw_at i f.number
  flaw_is i f (one_too_many many is) = flaw_told i f _ is refl
  flaw_is i f (not_rising low is) = flaw_told i f _ is refl
  flaw_is i f (none_left long is) = flaw_told i f _ is refl

  piece_told : AreToldByPlace (HasPieceFault deck)
  piece_told f g (i, within, x) (j, inside, y) row number =
      let here = flaw_is i f x in
      let there = flaw_is j g y in
      let same : i ≡ j = rows.pieces i j within inside (sym (ap (λ (h : Fault). h.row) here) ∙ (row ∙ ap (λ (h : Fault). h.row) there)) in
      by_number (flaw_at j) f g (here ∙ ap (λ (k : ℕ). flaw_at k f.number) same) there number

  -- ---- phase by phase

  abbrev FromTerms : Fault → Type 0
  FromTerms f = IsFirstFault (HasTermsFault deck) f

  abbrev FromPieces : Fault → Type 0
  FromPieces f = IsFirstFault (HasPieceFault deck) f ⊎ (HasNoPieceFault deck × FromTerms f)

  abbrev FromToGos : Fault → Type 0
  FromToGos f = IsFirstSecondToGo deck f ⊎ (HasNoSecondToGo deck × FromPieces f)

  abbrev FromStatuses : Fault → Type 0
  FromStatuses f = IsFirstFault (HasDisorder deck) f ⊎ (HasNoDisorder deck × FromToGos f)

  abbrev FromPackages : Fault → Type 0
  FromPackages f = IsFirstUnevenFault deck f ⊎ (IsEven deck × FromStatuses f)

  abbrev FromLeaves : Fault → Type 0
  FromLeaves f = IsFirstFault (HasLeafFault deck) f ⊎ (HasNoLeafFault deck × FromPackages f)

  abbrev FromNetwork : Fault → Type 0
  FromNetwork f = IsNetFault deck f ⊎ (IsSound (network_of deck) × FromLeaves f)

  abbrev FromTree : Fault → Type 0
  FromTree f = IsTreeFault deck.items (rows_of deck) f ⊎ (IsTree (rows_of deck) × FromNetwork f)

  abbrev FromCards : Fault → Type 0
  FromCards f = IsFirstFault (HasMisfit Plan deck) f ⊎ (HasNoMisfit Plan deck × FromTree f)

  behind_plan : (f : Fault) → HasSoundPlan deck → FromLeaves f → FromCards f
  behind_plan f plan rest = inr (plan.cards, inr (plan.tree, inr (plan.sound, rest)))

  behind_figures : (f : Fault) → HasSoundPlan deck → HasSoundFigures deck → FromPieces f → FromCards f
  behind_figures f plan figures rest = behind_plan f plan (inr (figures.leaves, inr (figures.even, inr (figures.ordered, inr (figures.once, rest)))))

  phases : (f : Fault) → IsRefusedWith deck f → FromCards f
  phases f (of_cards first) = inl first
  phases f (of_tree cards at) = inr (cards, inl at)
  phases f (of_network cards items e refused is) = inr (cards, inr (items, inl (e, refused, is)))
  phases f (of_leaves plan first) = behind_plan f plan (inl first)
  phases f (of_packages plan leaves first) = behind_plan f plan (inr (leaves, inl first))
  phases f (of_statuses plan leaves even first) = behind_plan f plan (inr (leaves, inr (even, inl first)))
  phases f (of_togos plan leaves even ordered first) = behind_plan f plan (inr (leaves, inr (even, inr (ordered, inl first))))
  phases f (of_pieces plan figures first) = behind_figures f plan figures (inl first)
  phases f (of_terms plan figures pieces first) = behind_figures f plan figures (inr (pieces, first))

  -- no fault of some cards is the first if they have none
  none_of : (Has : Fault → Type 0) (f : Fault) → IsFirstFault Has f → ((g : Fault) → Has g → ⊥) → ⊥
  none_of Has f first none = none f first.holds

  first_alike : (Has : Fault → Type 0) → AreToldByPlace Has → (f g : Fault) → IsFirstFault Has f → IsFirstFault Has g → AreAlike f g
  first_alike Has told f g x y = alike f g (first_once Has told f g x y)

  module _ (misfits : AreToldByPlace (HasMisfit Plan deck)) (leaves : AreToldByPlace (HasLeafFault deck)) where
    from_pieces : (f g : Fault) → FromPieces f → FromPieces g → AreAlike f g
    from_pieces =
        settled (IsFirstFault (HasPieceFault deck)) FromTerms (first_alike (HasPieceFault deck) piece_told) (none_of (HasPieceFault deck))
        (first_alike (HasTermsFault deck) (terms_told deck))

    from_togos : (f g : Fault) → FromToGos f → FromToGos g → AreAlike f g
    from_togos =
        settled (IsFirstSecondToGo deck) FromPieces (λ f g x y. alike f g (togo_once deck f g x y)) (λ f x none. none x.0 x.1.0.holds) from_pieces

    from_statuses : (f g : Fault) → FromStatuses f → FromStatuses g → AreAlike f g
    from_statuses = settled (IsFirstFault (HasDisorder deck)) FromToGos (first_alike (HasDisorder deck) disorder_told) (none_of (HasDisorder deck)) from_togos

    from_packages : (f g : Fault) → FromPackages f → FromPackages g → AreAlike f g
    from_packages =
        settled (IsFirstUnevenFault deck) FromStatuses (λ f g x y. alike f g (uneven_once deck f g x y)) (λ f x even. even x.0 x.1.0.holds) from_statuses

    from_leaves : (f g : Fault) → FromLeaves f → FromLeaves g → AreAlike f g
    from_leaves = settled (IsFirstFault (HasLeafFault deck)) FromPackages (first_alike (HasLeafFault deck) leaves) (none_of (HasLeafFault deck)) from_packages

    from_network : (f g : Fault) → FromNetwork f → FromNetwork g → AreAlike f g
    from_network = settled (IsNetFault deck) FromLeaves (net_once deck) (no_net deck) from_leaves

    from_tree : (f g : Fault) → FromTree f → FromTree g → AreAlike f g
    from_tree =
        settled (IsTreeFault deck.items (rows_of deck)) FromNetwork (λ f g x y. alike f g (tree_once deck.items (rows_of deck) f g x y))
        (λ f x sound. no_tree deck.items (rows_of deck) f sound x) from_network

    from_cards : (f g : Fault) → FromCards f → FromCards g → AreAlike f g
    from_cards = settled (IsFirstFault (HasMisfit Plan deck)) FromTree (first_alike (HasMisfit Plan deck) misfits) (none_of (HasMisfit Plan deck)) from_tree

    -- the refusal of the deck is one fault
    pub refused_alike : (f g : Fault) → IsRefusedWith deck f → IsRefusedWith deck g → AreAlike f g
    refused_alike f g x y = from_cards f g (phases f x) (phases g y)
