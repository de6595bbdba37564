-- The cards so far and the draft that was made of them: each list of the draft has what the cards of its kind spell.
use Rattle.std.proofs.Common.{◌≡◌, ℕ, Bool, true, false, not, ◌&&◌, ◌||◌, nat_lt, List, [], ◌∷◌, ◌++◌, length, map, Option}
use Rattle.std.proofs.Common.{Some, None, is_none, if◌then◌else◌, bytes_eq, Ok, refl, sym, ap, ◌∙◌, subst, append-nil}
use Rattle.std.proofs.lemmas.List.{map-append}
use Rattle.std.proofs.lemmas.List.Elements.{filter-append}
use Rattle.std.specs.Prelude.{option_to_list}
use Rattle.pc_model.specs.Codes.{text_at}
use Rattle.pc_faults.specs.Kinds.{word_of}
use Rattle.pc_faults.specs.declared.kind.Kind.{Kind}
use Rattle.pc_faults.specs.declared.kind.Kind.TheVariants.{Project, End}
use Rattle.pc_deck.specs.Kinds.{CardOf, card_of, is_same, stands_once, held_in}
use Rattle.pc_deck.specs.inside.Kinds.{is_end, is_project}
use Rattle.pc_cards.specs.Cards.{Numbered}
use Rattle.pc_cards.specs.declared.sort.Sort.{Sort}
use Rattle.pc_cards.specs.Named.{HeldBy, listed_by}
use Rattle.pc_cards.specs.inside.Named.{more_if}
use Rattle.pc_deck.specs.Project.{project_card}
use Rattle.pc_deck.specs.inside.Judged.{judge}
use Rattle.pc_deck.specs.inside.Reading.{no_cards, with_card, own_codes_among, codes_in, count_in, list_so_far, seen_in}
use Rattle.pc_deck.specs.Refusal.{of_kind, are_none}
use Rattle.pc_deck.specs.Says.{spelled}
use Rattle.pc_deck.specs.declared.kinds.project.ProjectCard.{ProjectCard}
use Rattle.pc_deck.specs.declared.draft.Draft.{Draft}
use Rattle.pc_deck.proofs.JudgeLemmas.{IsFaultless, faultless}
use Rattle.pc_deck.proofs.KindLemmas.{word_of-kind, same_is, same-project, same-end, project_is}

-- the cards of a kind among those before and one more
of_kind-more : (other kind : Kind) (before : List Numbered) (card : Numbered) → text_at card.1 0 ≡ word_of kind →
    of_kind other (before ++ card ∷ []) ≡ of_kind other before ++ (if is_same kind other then card ∷ [] else [])
of_kind-more other kind before card is =
    filter-append (λ (c : Numbered). bytes_eq (text_at c.1 0) (word_of other)) before (card ∷ [])
    ∙ ap (λ (field : List ℕ). of_kind other before ++ (if bytes_eq field (word_of other) then card ∷ [] else [])) is

-- one more, or not
abbrev pub one_if : {X : Type 0} → Bool → X → List X
one_if true x = x ∷ []
one_if false x = []

mapped : {X : Type 0} (f : ℕ → List (List ℕ) → X) (test : Bool) (card : Numbered) → map (λ (c : Numbered). f c.0 c.1) (if test then card ∷ [] else []) ≡ one_if test (f card.0 card.1)
mapped f true card = refl
mapped f false card = refl

-- what the cards of a kind spell with one more card
spelled-more : (other kind : Kind) (before : List Numbered) (card : Numbered) → text_at card.1 0 ≡ word_of kind →
    spelled other (before ++ card ∷ []) ≡ spelled other before ++ one_if (is_same kind other) (card_of other card.0 card.1)
spelled-more other kind before card is =
    ap (map (λ (c : Numbered). card_of other c.0 c.1)) (of_kind-more other kind before card is)
    ∙ (map-append (λ (c : Numbered). card_of other c.0 c.1) _ _ ∙ ap (λ xs. spelled other before ++ xs) (mapped (card_of other) (is_same kind other) card))

pub unchanged : {X : Type 0} (xs : List X) → xs ≡ xs ++ []
unchanged xs = sym (append-nil xs)

-- a card of a kind that occurs once is the only one
only_one : {X : Type 0} (old : Option X) (x : X) → (true && nat_lt 0 (length (option_to_list old))) ≡ false → x ∷ [] ≡ option_to_list old ++ x ∷ []
only_one None x once = refl
only_one (Some y) x once = absurd (let once' = once in cc)

-- a list with one more card, or without
listed-more : (test once : Bool) (C : Type 0) (held : HeldBy once C) (card : C) →
    (test ≡ true → (once && nat_lt 0 (length (listed_by once C held))) ≡ false) →
    listed_by once C (more_if test once C held card) ≡ listed_by once C held ++ one_if test card
listed-more false once C held card single = unchanged (listed_by once C held)
listed-more true false C held card single = refl
listed-more true true C held card single = only_one held card (single refl)

first_more : {X : Type 0} (test : Bool) (old : Option X) (x : X) → (test ≡ true → (true && nat_lt 0 (length (option_to_list old))) ≡ false) →
    option_to_list (if test then Some x else old) ≡ option_to_list old ++ one_if test x
first_more false old x single = unchanged (option_to_list old)
first_more true old x single = only_one old x (single refl)

last_more : (test ended : Bool) → ended ≡ false → ◌≡◌ {A = List (Unit {0})} (if (test || ended) then tt ∷ [] else []) ((if ended then tt ∷ [] else []) ++ one_if test tt)
last_more true false not_yet = refl
last_more false false not_yet = refl
last_more test true not_yet = absurd (let not_yet' = not_yet in cc)

-- how many cards of a kind there are, and their codes
pub count-is : (draft : Draft) (kind : Kind) → count_in draft kind ≡ length (list_so_far draft kind)
count-is draft Project = refl
count-is draft other = refl

pub codes-are : (draft : Draft) (kind : Kind) → codes_in draft kind ≡ own_codes_among kind (list_so_far draft kind)
codes-are draft Project = refl
codes-are draft other = refl

-- what one more card without a fault adds to the list of each kind
module _ (draft : Draft) (row : ℕ) (fields : List (List ℕ)) (kind : Kind) (known : IsFaultless (seen_in draft) row fields kind) where
  single : (other : Kind) → kind ≡ other → (stands_once other && nat_lt 0 (count_in draft other)) ≡ false
  single other is = subst (λ (k : Kind). (stands_once k && nat_lt 0 (count_in draft k)) ≡ false) is known.once

  pub list-more : (other : Kind) → list_so_far (with_card draft kind row fields) other ≡ list_so_far draft other ++ one_if (is_same kind other) (card_of other row fields)
  list-more Project =
      first_more (is_project kind) draft.project (project_card row fields) (λ is. single Project (project_is kind is))
      ∙ ap (λ (test : Bool). option_to_list draft.project ++ one_if test (project_card row fields)) (same-project kind)
  list-more End =
      last_more (is_end kind) draft.has_ended known.before_end
      ∙ ap (λ (test : Bool). list_so_far draft End ++ one_if test tt) (same-end kind)
  list-more other =
      listed-more (is_same kind other) (stands_once other) (CardOf other) (held_in draft.lists other) (card_of other row fields) (λ is. single other (same_is kind other is))

-- the first card is PROJECT
not_first : (first : Bool) → (first && true) ≡ false → first ≡ false
not_first true h = h
not_first false h = refl

pub still_first : (test : Bool) (old : Option ProjectCard) (project : ProjectCard) → (is_none old && not test) ≡ false → is_none (if test then Some project else old) ≡ false
still_first true old project placed = refl
still_first false old project placed = not_first (is_none old) placed

some_more : (before : List Numbered) (card : Numbered) → are_none (before ++ card ∷ []) ≡ false
some_more [] card = refl
some_more (first ∷ rest) card = refl

-- the cards so far say this draft
pub record IsSoFar (cards : List Numbered) (draft : Draft) : Type 0 where
  pub first : are_none cards ≡ is_none draft.project
  pub lists : (kind : Kind) → spelled kind cards ≡ list_so_far draft kind

-- there is none of any kind at first
pub nothing : (sort : Sort) (kind : Kind) → list_so_far (no_cards sort) kind ≡ []
nothing sort Project = refl
nothing sort other = refl

-- no cards say the empty draft
pub so_far-none : (sort : Sort) → IsSoFar [] (no_cards sort)
so_far-none sort = record { first = refl; lists = λ kind. sym (nothing sort kind) }

-- one more card
pub so_far-more : (before : List Numbered) (draft : Draft) (kind : Kind) (card : Numbered) → IsSoFar before draft →
    judge (seen_in draft) card.0 card.1 ≡ Ok kind → IsSoFar (before ++ card ∷ []) (with_card draft kind card.0 card.1)
so_far-more before draft kind card old judged =
    let known = faultless (seen_in draft) card.0 card.1 kind judged in
    let word = word_of-kind draft.sort (text_at card.1 0) kind known.named in
    record {
      first = some_more before card ∙ sym (still_first (is_project kind) draft.project (project_card card.0 card.1) known.placed);
      lists = λ other.
          spelled-more other kind before card word
          ∙ (ap (λ (xs : List (CardOf other)). xs ++ one_if (is_same kind other) (card_of other card.0 card.1)) (old.lists other)
          ∙ sym (list-more draft card.0 card.1 kind known other));
    }
