-- A card that is written is read as the same card, in another record.
use Rattle.std.proofs.Common.{◌≡◌, ℕ, ◌<◌, nat_lt, true, false, List, [], ◌∷◌, ◌++◌, take, get_or, codes, Option, Some, None, All, if◌then◌else◌, Bool, refl, sym, ap, ◌∙◌, subst, arith, zero, suc}
use Rattle.std.specs.Str.{IsUtf8}
use Rattle.std.specs.List.{list_all}
use Rattle.std.proofs.lemmas.Str.{IsUtf8-nil}
use Rattle.std.proofs.lemmas.Bool.{and_parts}
use Rattle.std.proofs.lemmas.Bool.Decides.{nat_tests}
use Rattle.std.specs.Prelude.{option_to_list}
use Rattle.pc_records.proofs.Utf8Facts.{join_ascii}
use Rattle.std.proofs.lemmas.List.Elements.{All-append, All-cons, All-head, All-nil, All-replicate, All-tail}
use Rattle.pc_model.specs.Codes.{text_at}
use Rattle.pc_faults.specs.Kinds.{word_of}
use Rattle.pc_faults.specs.declared.kind.Kind.{Kind}
use Rattle.pc_faults.specs.declared.kind.Kind.TheVariants.{Project, AsOf, Terms}
use Rattle.pc_cards.specs.declared.sort.Sort.TheVariants.{Plan}
use Rattle.pc_cards.specs.Forms.{AllFit, Slot, field_numbered, is_whole}
use Rattle.pc_cards.proofs.SpellingLemmas.{all_respelled, all_respelled-same, fields_of}
use Rattle.pc_deck.specs.Deck.{Deck, list_of}
use Rattle.pc_deck.specs.WrittenKinds.{written_of}
use Rattle.pc_deck.specs.Kinds.{CardOf, card_of, least_width_of, slots_of, width_of}
use Rattle.pc_deck.specs.inside.Kinds.{is_project}
use Rattle.pc_deck.specs.Project.{project_card, project_kind}
use Rattle.pc_deck.specs.Text.{record_of, says_nothing, settled, settled_as_of, settled_terms}
use Rattle.pc_deck.specs.Within.{IsFit, IsWithinLimits}
use Rattle.pc_deck.specs.declared.kinds.as_of.AsOfCard.{AsOfCard}
use Rattle.pc_deck.specs.declared.kinds.project.ProjectCard.{ProjectCard}
use Rattle.pc_deck.specs.declared.kinds.terms.TermsCard.{TermsCard}

-- what is written of a card is what is written of its fields
written-is : (kind : Kind) → is_project kind ≡ false → (row : ℕ) (fields : List (List ℕ)) → (written_of kind).written (card_of kind row fields) ≡ all_respelled (slots_of Plan kind) fields
written-is Project h row fields = absurd (let h' = h in cc)
written-is other h row fields = refl

-- these fields after a word are the same card
again : (kind : Kind) (word : List ℕ) (row other : ℕ) (fields : List (List ℕ)) →
    card_of kind other (word ∷ fields_of (slots_of Plan kind) fields) ≡ (written_of kind).at_row other (card_of kind row fields)
again Project word row other fields = refl
again kind word row other fields = refl

-- they are what they must be
fit_again : (kind : Kind) (word : List ℕ) (fields : List (List ℕ)) → AllFit (slots_of Plan kind) fields → AllFit (slots_of Plan kind) (word ∷ fields_of (slots_of Plan kind) fields)
fit_again Project word fields fit = fit
fit_again kind word fields fit = fit

whole_again : (kind : Kind) (word : List ℕ) (fields : List (List ℕ)) → is_whole (least_width_of kind) (width_of kind) (word ∷ fields_of (slots_of Plan kind) fields) ≡ true
whole_again Project word fields = refl
whole_again kind word fields = refl

-- the record of a card has the fields of its kind, is text, and spells the card, whatever its number
pub record IsWritten (kind : Kind) (card : CardOf kind) : Type 0 where
  pub whole : is_whole (least_width_of kind) (width_of kind) (record_of kind card) ≡ true
  pub fit : AllFit (slots_of Plan kind) (record_of kind card)
  pub text : All IsUtf8 (record_of kind card)
  pub reads : (row : ℕ) → card_of kind row (record_of kind card) ≡ (written_of kind).at_row row card

-- a field of a card of text is text
pub field-text : (fields : List (List ℕ)) (i : ℕ) → All IsUtf8 fields → IsUtf8 (text_at fields i)
field-text [] i all = IsUtf8-nil
field-text (field ∷ fields) zero all = All-head IsUtf8 field fields all
field-text (field ∷ fields) (suc i) all = field-text fields i (All-tail IsUtf8 field fields all)

fields-text : (slots : List Slot) (fields : List (List ℕ)) → All IsUtf8 fields → All IsUtf8 (fields_of slots fields)
fields-text [] fields all = All-nil IsUtf8
fields-text (slot ∷ slots) fields all =
    All-cons IsUtf8 (field_numbered fields slot.0) (fields_of slots fields) (field-text fields _ all) (fields-text slots fields all)

-- bytes of ASCII are text
ascii-text : (bytes : List ℕ) → list_all (λ b. nat_lt b 128) bytes ≡ true → IsUtf8 bytes
ascii-text [] all = IsUtf8-nil
ascii-text (b ∷ rest) all =
    let parts = and_parts (nat_lt b 128) (list_all (λ c. nat_lt c 128) rest) all in join_ascii b rest (below b parts.0) (ascii-text rest parts.1)
  where
    below : (n : ℕ) → nat_lt n 128 ≡ true → n < 128
    below n h = grind (arith, nat_tests)

word-text : (kind : Kind) → IsUtf8 (word_of kind)
word-text Project = ascii-text (word_of Project) refl
word-text kind = ascii-text (word_of kind) refl

-- where the values of fields are written as these
spelled : (kind : Kind) (card : CardOf kind) (row : ℕ) (fields : List (List ℕ)) → card ≡ card_of kind row fields → (written_of kind).written card ≡ all_respelled (slots_of Plan kind) fields
    → AllFit (slots_of Plan kind) fields → All IsUtf8 fields → IsWritten kind card
spelled kind card row fields is values fit text =
    let same : record_of kind card ≡ word_of kind ∷ fields_of (slots_of Plan kind) fields = ap (λ rest. word_of kind ∷ rest) (values ∙ all_respelled-same (slots_of Plan kind) fields fit) in
    record {
      whole = subst (λ r. is_whole (least_width_of kind) (width_of kind) r ≡ true) (sym same) (whole_again kind (word_of kind) fields);
      fit = subst (AllFit (slots_of Plan kind)) (sym same) (fit_again kind (word_of kind) fields fit);
      text = subst (All IsUtf8) (sym same) (All-cons IsUtf8 (word_of kind) (fields_of (slots_of Plan kind) fields) (word-text kind) (fields-text (slots_of Plan kind) fields text));
      reads = λ other. ap (card_of kind other) same ∙ (again kind (word_of kind) row other fields ∙ ap ((written_of kind).at_row other) (sym is));
    }

-- a card that is fit, but for PROJECT, whose version may be left out
fit-written : (kind : Kind) → is_project kind ≡ false → (card : CardOf kind) → IsFit Plan kind card → IsWritten kind card
fit-written kind no_project card (row, fields, is, fit, text) =
    spelled kind card row fields is (ap (written_of kind).written is ∙ written-is kind no_project row fields) fit text

fit-all : (kind : Kind) → is_project kind ≡ false → (cards : List (CardOf kind)) → All (IsFit Plan kind) cards → All (IsWritten kind) cards
fit-all kind no_project cards all = λ k d below. fit-written kind no_project (get_or cards k d) (all k d below)

-- the fields of a PROJECT card of version 2
abbrev second_fields : List (List ℕ) → List (List ℕ)
second_fields fields =
    [] ∷ text_at fields 1 ∷ text_at fields 2 ∷ text_at fields 3 ∷ text_at fields 4 ∷ text_at fields 5 ∷ text_at fields 6 ∷ text_at fields 7 ∷ codes "2" ∷ []

module _ (project : ProjectCard) (row : ℕ) (fields : List (List ℕ)) (is : project ≡ project_card row fields) (fit : AllFit (project_kind.slots Plan) fields) (text : All IsUtf8 fields) where
  second-is : record project { version = 2 } ≡ project_card row (second_fields fields)
  second-is = ap (λ (p : ProjectCard). record p { version = 2 }) is

  second-fit : AllFit (project_kind.slots Plan) (second_fields fields)
  second-fit = (fit.0, (fit.1.0, (fit.1.1.0, (fit.1.1.1.0, (fit.1.1.1.1.0, (fit.1.1.1.1.1.0, (fit.1.1.1.1.1.1.0, ((refl, refl), tt))))))))

  second-text : All IsUtf8 (second_fields fields)
  second-text =
      let front = fields_of (take 7 (project_kind.slots Plan)) fields in
      All-cons IsUtf8 [] (front ++ codes "2" ∷ []) IsUtf8-nil
      (All-append IsUtf8 front (codes "2" ∷ []) (fields-text (take 7 (project_kind.slots Plan)) fields text) (All-replicate IsUtf8 1 (codes "2") (ascii-text (codes "2") refl)))

-- the PROJECT card of version 2
project-fit : (project : ProjectCard) → IsFit Plan Project project → IsFit Plan Project (record project { version = 2 })
project-fit project (row, fields, is, fit, text) =
    (row, second_fields fields, second-is project row fields is fit text, second-fit project row fields is fit text, second-text project row fields is fit text)

project-written : (project : ProjectCard) → IsFit Plan Project project → IsWritten Project (record project { version = 2 })
project-written project (row, fields, is, fit, text) =
    spelled Project (record project { version = 2 }) row (second_fields fields) (second-is project row fields is fit text) (ap (written_of Project).written (second-is project row fields is fit text))
    (second-fit project row fields is fit text) (second-text project row fields is fit text)

-- the ASOF card of the first day
first_day-fit : (project : ProjectCard) → IsFit Plan Project project → IsFit Plan AsOf (record { row = 0; day = project.start_day })
first_day-fit project (row, fields, is, fit, text) = (
  0,
  [] ∷ text_at fields 4 ∷ [],
  ap (λ (p : ProjectCard). record { row = 0; day = p.start_day }) is,
  (fit.1.1.1.0, tt),
  All-cons IsUtf8 [] (text_at fields 4 ∷ []) IsUtf8-nil (All-replicate IsUtf8 1 (text_at fields 4) (field-text fields 4 text)),
)

settled-as_of : (project : ProjectCard) (card : Option AsOfCard) → IsFit Plan Project project → All (IsFit Plan AsOf) (option_to_list card) → IsFit Plan AsOf (settled_as_of card project.start_day)
settled-as_of project None fit all = first_day-fit project fit
settled-as_of project (Some card) fit all = All-head (IsFit Plan AsOf) card [] all

settled-terms : (terms : Option TermsCard) → All (IsFit Plan Terms) (option_to_list terms) → All (IsFit Plan Terms) (option_to_list (settled_terms terms))
settled-terms None all = all
settled-terms (Some terms) all = by (says_nothing terms)
  where
    by : (test : Bool) → All (IsFit Plan Terms) (option_to_list (if test then None else Some terms))
    by true = All-nil (IsFit Plan Terms)
    by false = all

module _ (deck : Deck) (limits : IsWithinLimits deck) where
  project_fit : IsFit Plan Project deck.project
  project_fit = All-head (IsFit Plan Project) deck.project [] (limits Project).fit

  -- the cards of the settled deck are fit
  fit-settled : (kind : Kind) → All (IsFit Plan kind) (list_of (settled deck) kind)
  fit-settled Project = All-replicate (IsFit Plan Project) 1 (settled deck).project (project-fit deck.project project_fit)
  fit-settled AsOf = All-replicate (IsFit Plan AsOf) 1 (settled_as_of deck.as_of deck.project.start_day) (settled-as_of deck.project deck.as_of project_fit (limits AsOf).fit)
  fit-settled Terms = settled-terms deck.terms (limits Terms).fit
  fit-settled kind = (limits kind).fit

  -- so that deck is within the limits too
  pub settled-within : IsWithinLimits (settled deck)
  settled-within Project = record { few = tt; fit = fit-settled Project; differ = λ coded. absurd (let coded' = coded in cc) }
  settled-within AsOf = record { few = tt; fit = fit-settled AsOf; differ = λ coded. absurd (let coded' = coded in cc) }
  settled-within Terms = record { few = tt; fit = fit-settled Terms; differ = λ coded. absurd (let coded' = coded in cc) }
  settled-within kind = limits kind

  -- its cards are written as what spells them
  pub written-settled : (kind : Kind) → All (IsWritten kind) (list_of (settled deck) kind)
  written-settled Project = All-replicate (IsWritten Project) 1 (settled deck).project (project-written deck.project project_fit)
  written-settled kind = fit-all kind refl (list_of (settled deck) kind) (fit-settled kind)
