-- Decks that say the same make a project alike: each fault of one is, at another record, a fault of the other.
use Rattle.std.proofs.Common.{◌≡◌, ℕ, ℤ, ◌<◌, ◌<ℤ◌, List, [], ◌∷◌, length, get_or, map, Option, Some, None, refl, sym, ap, subst, ◌∙◌, inl, inr, ⊎_elim, arith}
use Rattle.std.specs.Prelude.{IsSome}
use Rattle.std.specs.List.{Any}
use Rattle.std.proofs.lemmas.Int.{ints}
use Rattle.std.proofs.lemmas.List.{get_or-map, get_or_default}
use Rattle.pc_accounts.specs.Packages.{IsUneven}
use Rattle.pc_accounts.specs.Second.{IsRepeated}
use Rattle.pc_model.specs.Network.{IsSound}
use Rattle.pc_model.specs.declared.PieceRow.{PieceRow}
use Rattle.pc_model.specs.declared.Term.{Term}
use Rattle.pc_accounts.specs.status.Statuses.{IsReason}
use Rattle.pc_wbs.specs.Climb.{IsLeaf, IsTree}
use Rattle.pc_faults.specs.declared.fault.Fault.{Fault}
use Rattle.pc_faults.specs.declared.kind.Kind.{Kind}
use Rattle.pc_faults.specs.declared.kind.Kind.TheVariants.{Project, Wbs, Act, Piece, Acct, Charge, ToGo, Status, Load}
use Rattle.pc_cards.specs.declared.sort.Sort.TheVariants.{Plan}
use Rattle.pc_deck.specs.declared.kinds.acct.AcctCard.{AcctCard}
use Rattle.pc_deck.specs.declared.kinds.act.ActCard.{ActCard}
use Rattle.pc_deck.specs.declared.kinds.as_of.AsOfCard.{AsOfCard}
use Rattle.pc_deck.specs.declared.kinds.load.LoadCard.{LoadCard}
use Rattle.pc_deck.specs.declared.kinds.money.MoneyCard.{MoneyCard}
use Rattle.pc_deck.specs.declared.kinds.piece.PieceCard.{PieceCard}
use Rattle.pc_deck.specs.declared.kinds.status.StatusCard.{StatusCard}
use Rattle.pc_deck.specs.declared.kinds.terms.TermsCard.{TermsCard}
use Rattle.pc_deck.specs.declared.kinds.wbs.ItemCard.{ItemCard}
use Rattle.pc_deck.specs.Act as act
use Rattle.pc_deck.specs.Act.{HasActFlaw}
use Rattle.pc_deck.specs.Deck.{Deck, item_codes, list_of, named_among, number_among}
use Rattle.pc_deck.specs.Durations.{crash_above, unordered}
use Rattle.pc_deck.specs.Kinds.{CardOf, entry_of}
use Rattle.pc_deck.specs.Project.{HasProjectFlaw}
use Rattle.pc_deck.specs.Wbs.{names_parent}
use Rattle.pc_deck.specs.declared.kinds.project.ProjectCard.{ProjectCard}
use Rattle.pc_deck.specs.Target.{target_codes}
use Rattle.pc_deck.specs.Misfit.{HasCardMisfit, HasMisfit, HasUnknown}
use Rattle.pc_deck.specs.inside.Misfit.{HasFaultOf, names_of}
use Rattle.pc_cards.specs.Entry.{Reference}
use Rattle.pc_project.specs.DisorderFaults.{HasDisorder, IsDisorderAt, IsEarlyAsOf, as_of_in, of_as_of, of_status}
use Rattle.pc_project.specs.PackageFaults.{HasLeafFault, StandsOnBranch, of_account, of_act}
use Rattle.pc_project.specs.PieceFaults.{HasFlaw, HasFlawAt, HasPieceFault, none_left, not_rising, one_too_many}
use Rattle.pc_project.specs.Project.{accounts_in, as_of_day, pieces_in, rows_of, statuses_in, terms_in, time_terms_of, work_in}
use Rattle.pc_project.specs.Makes.{MakesProject}
use Rattle.pc_project.specs.Refusal.{HasNoFault, HasNoSecondToGo, HasSoundFigures, IsEven}
use Rattle.pc_project.specs.TermsFaults.{HasTermsFault, bonus_above}
use Rattle.pc_model.specs.declared.TimeTerms.{TimeTerms}
use Rattle.pc_project.specs.deck_text.Same.{SayTheSame, account_said, act_said, item_said, load_said, money_said, piece_said, project_said, status_said}
use Rattle.pc_project.proofs.lemmas.deck_text.SameLaws.{length_said, same_accounts, same_accounts_in, same_acts, same_events, same_item_number, same_items, same_network}
use Rattle.pc_project.proofs.lemmas.deck_text.SameLaws.{same_pieces, same_resources, same_rows, same_start_day, same_statuses, same_terms, same_togos, same_work}
use Rattle.pc_project.proofs.MakesLaws.{makes_project, no_faults}

-- what holds of some element of one list holds of the element at that place of the other, where a function makes them one
Any-said : {X : Type 0} (said : X → X) (P Q : X → Type 0) (xs ys : List X) → map said xs ≡ map said ys → ((x y : X) → said x ≡ said y → P x → Q y) → Any P xs → Any Q ys
Any-said said P Q xs ys same over (k, x, within, at, holds) =
    let inside : k < length ys = omega (arith, within, length_said said xs ys same) in
    let there : said x ≡ said (get_or ys k x) =
    ap said (sym at) ∙ sym (get_or-map said xs k x (said x) within) ∙ ap (λ zs. get_or zs k (said x)) same ∙ get_or-map said ys k x (said x) inside in
    (k, get_or ys k x, inside, get_or_default ys k (get_or ys k x) x inside, over x (get_or ys k x) there holds)

-- some fault of a kind
abbrev Some-fault : (Fault → Type 0) → Type 0
Some-fault Has = (fault : Fault) × Has fault

-- a fault of some element is some fault
Any-fault : {X : Type 0} (Has : X → Fault → Type 0) (xs : List X) → Any (λ x. Some-fault (Has x)) xs → (fault : Fault) × Any (λ x. Has x fault) xs
Any-fault Has xs (k, x, within, at, (fault, holds)) = (fault, (k, x, within, at, holds))

-- the lists of the first deck are those of the second
module _ (a b : Deck) (same : SayTheSame a b) where
  -- the decks find the same by these names
  abbrev AgreeOn : List Reference → Type 0
  AgreeOn [] = Unit {0}
  AgreeOn (named ∷ more) = (named_among (target_codes a named.target) ≡ named_among (target_codes b named.target)) × AgreeOn more

  agree_on_parent : (parent : Option (List ℕ)) → AgreeOn (names_parent parent)
  agree_on_parent None = tt
  agree_on_parent (Some code) = (same_items a b same, tt)

  -- a name that is unknown in one deck is unknown in the other
  names_again : (names : List Reference) → AgreeOn names → (row other : ℕ) (fault : Fault) → HasUnknown a row names fault → Some-fault (HasUnknown b other names)
  names_again [] agree row other fault h = absurd h
  names_again (named ∷ more) agree row other fault (inl is) = (_, inl (record { missing = (λ i. sym agree.0 i named.code) ∙ is.missing; told = refl }))
  names_again (named ∷ more) agree row other fault (inr h) =
      let (told, there) = names_again more agree.1 row other fault h.1 in
      (told, inr (subst IsSome (λ i. agree.0 i named.code) h.0, there))

  -- cards of a kind that name the same and are wrong by themselves alike
  alike : (kind : Kind) (x y : CardOf kind) → names_of Plan kind x ≡ names_of Plan kind y → AgreeOn (names_of Plan kind y) →
      ((fault : Fault) → (entry_of kind).flaws Plan x fault → Some-fault ((entry_of kind).flaws Plan y)) → Some-fault (HasCardMisfit Plan a kind x) → Some-fault (HasCardMisfit Plan b kind y)
  alike kind x y is agree flawed (fault, inl h) =
      let (told, there) = names_again (names_of Plan kind y) agree ((entry_of kind).row x) ((entry_of kind).row y) fault (subst (λ names. HasUnknown a ((entry_of kind).row x) names fault) is h) in
      (told, inl there)
  alike kind x y is agree flawed (fault, inr h) = let (told, there) = flawed fault h in (told, inr there)

  project_flaw : (x y : ProjectCard) → project_said x ≡ project_said y → (fault : Fault) → HasProjectFlaw x fault → Some-fault (HasProjectFlaw y)
  project_flaw x y said fault (one, is) = (_, (sym (ap (λ card. card.start) said) ∙ one ∙ ap (λ card. card.end) said, refl))

  act_flaw : (x y : ActCard) → act_said x ≡ act_said y → (fault : Fault) → HasActFlaw x fault → Some-fault (HasActFlaw y)
  act_flaw x y said fault (act.same_events one is) = (_, act.same_events (sym (ap (λ card. card.from) said) ∙ one ∙ ap (λ card. card.to) said) refl)
  act_flaw x y said fault (act.durations (unordered not is)) = (
    _,
    act.durations (unordered (λ o. not (record {
      optimistic = omega (arith, o.optimistic, ap (λ card. card.opt) said, ap (λ card. card.likely) said);
      pessimistic = omega (arith, o.pessimistic, ap (λ card. card.likely) said, ap (λ card. card.pess) said);
    })) refl),
  )
  act_flaw x y said fault (act.durations (crash_above above is)) =
      (_, act.durations (crash_above (omega (arith, above, ap (λ card. card.normal) said, ap (λ card. card.crash) said)) refl))

  -- a fault of some card of one list is one of the card at its place in the other
  list_fault : {X : Type 0} (said : X → X) (Has Other : X → Fault → Type 0) (xs ys : List X) → map said xs ≡ map said ys →
      ((x y : X) → said x ≡ said y → Some-fault (Has x) → Some-fault (Other y)) → (fault : Fault) → Any (λ x. Has x fault) xs → (told : Fault) × Any (λ y. Other y told) ys
  list_fault said Has Other xs ys one over fault any =
      Any-fault Other ys (Any-said said (λ x. Has x fault) (λ y. Some-fault (Other y)) xs ys one (λ x y is h. over x y is (fault, h)) any)

  -- the cards of a kind
  kind_fault : (kind : Kind) (said : CardOf kind → CardOf kind) → map said (list_of a kind) ≡ map said (list_of b kind) →
      ((x y : CardOf kind) → said x ≡ said y → names_of Plan kind x ≡ names_of Plan kind y) → ((y : CardOf kind) → AgreeOn (names_of Plan kind y)) →
      ((x y : CardOf kind) → said x ≡ said y → (fault : Fault) → (entry_of kind).flaws Plan x fault → Some-fault ((entry_of kind).flaws Plan y)) →
      (fault : Fault) → HasFaultOf Plan a kind fault → Some-fault (HasFaultOf Plan b kind)
  kind_fault kind said one names agree flawed fault any =
      list_fault said (HasCardMisfit Plan a kind) (HasCardMisfit Plan b kind) (list_of a kind) (list_of b kind) one
      (λ x y is h. alike kind x y (names x y is) (agree y) (flawed x y is) h) fault any

  none_by_itself : {X : Type 0} (said : X → X) (Other : X → Fault → Type 0) (x y : X) → said x ≡ said y → (fault : Fault) → ⊥ → Some-fault (Other y)
  none_by_itself said Other x y is fault h = absurd h

  fault_of : (kind : Kind) (fault : Fault) → HasFaultOf Plan a kind fault → Some-fault (HasFaultOf Plan b kind)
  fault_of Project fault any =
      kind_fault Project project_said (ap (λ card. card ∷ []) same.project) (λ x y is. ap (names_of Plan Project) is) (λ y. (same_events a b same, (same_events a b same, tt))) project_flaw fault any
  fault_of Wbs fault any =
      kind_fault Wbs item_said same.items (λ x y is. ap (names_of Plan Wbs) is) (λ y. agree_on_parent y.parent) (none_by_itself item_said ((entry_of Wbs).flaws Plan)) fault any
  fault_of Act fault any =
      kind_fault Act act_said same.acts (λ x y is. ap (names_of Plan Act) is) (λ y. (same_events a b same, (same_events a b same, (same_items a b same, tt)))) act_flaw fault any
  fault_of Piece fault any =
      kind_fault Piece piece_said same.pieces (λ x y is. ap (names_of Plan Piece) is) (λ y. (same_acts a b same, tt)) (none_by_itself piece_said ((entry_of Piece).flaws Plan)) fault any
  fault_of Acct fault any =
      kind_fault Acct account_said same.accounts (λ x y is. ap (names_of Plan Acct) is) (λ y. (same_items a b same, tt)) (none_by_itself account_said ((entry_of Acct).flaws Plan)) fault any
  fault_of Charge fault any =
      kind_fault Charge money_said same.charges (λ x y is. ap (names_of Plan Charge) is) (λ y. (same_accounts a b same, tt)) (none_by_itself money_said ((entry_of Charge).flaws Plan)) fault any
  fault_of ToGo fault any =
      kind_fault ToGo money_said same.togos (λ x y is. ap (names_of Plan ToGo) is) (λ y. (same_accounts a b same, tt)) (none_by_itself money_said ((entry_of ToGo).flaws Plan)) fault any
  fault_of Status fault any =
      kind_fault Status status_said same.statuses (λ x y is. ap (names_of Plan Status) is) (λ y. (same_acts a b same, tt)) (none_by_itself status_said ((entry_of Status).flaws Plan)) fault any
  fault_of Load fault any =
      kind_fault Load load_said same.loads (λ x y is. ap (names_of Plan Load) is) (λ y. (same_acts a b same, (same_resources a b same, tt)))
      (none_by_itself load_said ((entry_of Load).flaws Plan)) fault any
  fault_of other fault (k, card, within, at, h) = absurd (⊎_elim (λ x. x) (λ x. x) h)

  misfit : (fault : Fault) → HasMisfit Plan a fault → Some-fault (HasMisfit Plan b)
  misfit fault (n, kind, among, at, any) = let (told, there) = fault_of kind fault any in (told, (n, kind, among, at, there))

  -- what is on an item with items below it
  on_branch : (c d : List ℕ) (row other : ℕ) → c ≡ d → (fault : Fault) → StandsOnBranch a row c fault → Some-fault (StandsOnBranch b other d)
  on_branch c d row other is fault (branch, told) = (
    _,
    (
      λ leaf. branch (subst (IsLeaf (rows_of a)) (sym ((λ i. same_item_number a b same i c) ∙ ap (number_among (item_codes b)) is))
          (subst (λ rows. IsLeaf rows (number_among (item_codes b) d)) (sym (same_rows a b same)) leaf)),
      refl,
    ),
  )

  leaf_fault : (fault : Fault) → HasLeafFault a fault → Some-fault (HasLeafFault b)
  leaf_fault fault (of_act any) =
      let (told, there) = list_fault act_said (λ act. StandsOnBranch a act.row act.item) (λ act. StandsOnBranch b act.row act.item) a.acts b.acts same.acts
      (λ x y said h. on_branch x.item y.item x.row y.row (ap (λ card. card.item) said) h.0 h.1) fault any in
      (told, of_act there)
  leaf_fault fault (of_account any) =
      let (told, there) = list_fault account_said (λ card. StandsOnBranch a card.row card.item) (λ card. StandsOnBranch b card.row card.item) a.accounts b.accounts same.accounts
      (λ x y said h. on_branch x.item y.item x.row y.row (ap (λ card. card.item) said) h.0 h.1) fault any in
      (told, of_account there)

  -- a status in disorder
  status_disorder : (k : ℕ) (fault : Fault) → IsDisorderAt a k fault → Some-fault (IsDisorderAt b k)
  status_disorder k fault (reason, (is, told)) = (
    _,
    (
      reason,
      (
        subst (λ start. IsReason start (as_of_in b) (statuses_in b) k reason) (same_start_day a b same)
            (subst (λ day. IsReason a.project.start_day day (statuses_in b) k reason) same.as_of
            (subst (λ statuses. IsReason a.project.start_day (as_of_in a) statuses k reason) (same_statuses a b same) is)),
        refl,
      ),
    ),
  )

  -- an as-of before the start
  early : (card : AsOfCard) (day : ℤ) (there : Option AsOfCard) → b.as_of ≡ there → day ≡ as_of_day b.project.start_day there → card.day ≡ day → card.day <ℤ b.project.start_day →
      (other : AsOfCard) × (b.as_of ≡ Some other) × (other.day <ℤ b.project.start_day)
  early card day None at is was before = absurd (omega (arith, ints, is, was, before))
  early card day (Some other) at is was before = (other, at, omega (arith, ints, is, was, before))

  early_as_of : (fault : Fault) → IsEarlyAsOf a fault → Some-fault (IsEarlyAsOf b)
  early_as_of fault (card, (at, before, told)) =
      let day : as_of_day a.project.start_day (Some card) ≡ as_of_in b = ap (as_of_day a.project.start_day) (sym at) ∙ same.as_of in
      let (other, there, early_there) = early card card.day b.as_of refl day refl (subst (λ start. card.day <ℤ start) (same_start_day a b same) before) in
      (_, (other, (there, early_there, refl)))

  disorder_there : (fault : Fault) → HasDisorder a fault → Some-fault (HasDisorder b)
  disorder_there fault (of_as_of h) = let (told, there) = early_as_of fault h in (told, of_as_of there)
  disorder_there fault (of_status (k, within, at)) =
      let (told, there) = status_disorder k fault at in
      (told, of_status (k, omega (arith, within, length_said status_said a.statuses b.statuses same.statuses), there))

  -- the faults of pieces
  flaw_at : (term : Term) (count slope units : ℕ) (piece : PieceRow) (row other : ℕ) (code name : List ℕ) (fault : Fault) →
      HasFlaw term count slope units piece row code fault → Some-fault (HasFlaw term count slope units piece other name)
  flaw_at term count slope units piece row other code name fault (one_too_many many is) = (_, one_too_many many refl)
  flaw_at term count slope units piece row other code name fault (not_rising low is) = (_, not_rising low refl)
  flaw_at term count slope units piece row other code name fault (none_left long is) = (_, none_left long refl)

  flawed : (i row other : ℕ) (code name : List ℕ) (fault : Fault) → HasFlawAt (terms_in a) (pieces_in a) i row code fault → Some-fault (HasFlawAt (terms_in b) (pieces_in b) i other name)
  flawed i row other code name fault h =
      flaw_at _ _ _ _ _ row other code name fault
      (subst (λ terms. HasFlawAt terms (pieces_in b) i row code fault) (same_terms a b same)
      (subst (λ pieces. HasFlawAt (terms_in a) pieces i row code fault) (same_pieces a b same) h))

  piece_there : (fault : Fault) → HasPieceFault a fault → Some-fault (HasPieceFault b)
  piece_there fault (i, within, h) =
      let (told, there) = flawed i _ _ _ _ fault h in
      (told, (i, omega (arith, within, length_said piece_said a.pieces b.pieces same.pieces), there))

  -- a bonus above the penalty
  bonus_there : (card : TermsCard) (there : Option TermsCard) → b.terms ≡ there → time_terms_of (Some card) ≡ time_terms_of there → card.penalty < card.bonus → Some-fault (HasTermsFault b)
  bonus_there card None at is above = absurd (omega (arith, above, ap (λ (t : TimeTerms). t.penalty) is, ap (λ (t : TimeTerms). t.bonus) is))
  bonus_there card (Some other) at is above =
      (_, bonus_above other at (omega (arith, above, ap (λ (t : TimeTerms). t.penalty) is, ap (λ (t : TimeTerms). t.bonus) is)) refl)

  terms_there : (fault : Fault) → HasTermsFault a fault → Some-fault (HasTermsFault b)
  terms_there fault (bonus_above card at above told) = bonus_there card b.terms refl (ap time_terms_of (sym at) ∙ same.terms) above

  -- what has no fault in the second deck has none in the first
  none_of : {A B : Fault → Type 0} → ((fault : Fault) → A fault → Some-fault B) → ((fault : Fault) → B fault → ⊥) → (fault : Fault) → A fault → ⊥
  none_of over none fault h = let (told, there) = over fault h in none told there

  even_back : IsEven b → IsEven a
  even_back even item uneven =
      even item (subst (λ work. IsUneven (accounts_in b) work item) (same_work a b same) (subst (λ accounts. IsUneven accounts (work_in a) item) (same_accounts_in a b same) uneven))

  once_back : HasNoSecondToGo b → HasNoSecondToGo a
  once_back once k repeated = once k (subst (λ togos. IsRepeated togos k) (same_togos a b same) repeated)

  figures_back : HasSoundFigures b → HasSoundFigures a
  figures_back sound = record {
    leaves = none_of leaf_fault sound.leaves;
    even = even_back sound.even;
    ordered = none_of disorder_there sound.ordered;
    once = once_back sound.once;
  }

  faultless_again : HasNoFault b → HasNoFault a
  faultless_again makes = record {
    cards = none_of misfit makes.cards;
    tree = subst IsTree (sym (same_rows a b same)) makes.tree;
    sound = subst IsSound (sym (same_network a b same)) makes.sound;
    figures = figures_back makes.figures;
    pieces = none_of piece_there makes.pieces;
    terms = none_of terms_there makes.terms;
  }

  -- where the second deck makes a project the first one does
  pub makes_again : MakesProject b → MakesProject a
  makes_again makes = makes_project a (faultless_again (no_faults b makes))
