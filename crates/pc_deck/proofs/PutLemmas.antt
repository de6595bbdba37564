-- A text of records grows by the records of one kind after the other.
use Rattle.std.proofs.Common.{◌≡◌, ℕ, List, [], ◌∷◌, ◌++◌, map, sym, ap, ◌∙◌, append-nil, append_assoc}
use Rattle.std.specs.Prelude.{flat_map}
use Rattle.std.proofs.lemmas.List.Concat.{flat_map-append}
use Rattle.pc_records.specs.Text.{record_text, records_text}
use Rattle.pc_faults.specs.Kinds.{word_of}
use Rattle.pc_faults.specs.declared.kind.Kind.{Kind}
use Rattle.pc_faults.specs.declared.kind.Kind.TheVariants.{Project, AsOf, Terms, Wbs, Event, Act, Piece, Acct, Charge, ToGo, Status, Res, Load, End}
use Rattle.pc_deck.specs.Deck.{Deck}
use Rattle.pc_deck.specs.Text.{deck_text, records_of, settled}
use Rattle.pc_deck.specs.inside.Text.{lead_text, lists_text}

-- nothing more
pub put-none : (text : List ℕ) → text ≡ text ++ records_text []
put-none text = sym (append-nil text)

-- the records of these cards, and then others
pub put-some : {C : Type 0} (row : C → List (List ℕ)) (got cards : List C) (old new end : List ℕ) (more : List (List (List ℕ))) → got ≡ cards
    → new ≡ old ++ records_text (map row got) → end ≡ new ++ records_text more → end ≡ old ++ records_text (map row cards ++ more)
put-some row got cards old new end more same is then =
    then
    ∙ (ap (λ text. text ++ records_text more) (is ∙ ap (λ these. old ++ records_text (map row these)) same)
    ∙ (append_assoc old (records_text (map row cards)) (records_text more)
    ∙ ap (λ text. old ++ text) (sym (flat_map-append record_text (map row cards) more))))

-- the text of a deck in three parts
pub whole_text : (deck : Deck) → deck_text deck ≡ lead_text deck ++ (lists_text deck ++ record_text (word_of End ∷ []))
whole_text deck =
    apart lead (lists ++ End ∷ [])
    ∙ ap (λ text. lead_text deck ++ text) (apart lists (End ∷ []) ∙ ap (λ text. lists_text deck ++ text) (append-nil (record_text (word_of End ∷ []))))
  where
    lead : List Kind
    lead = Project ∷ AsOf ∷ Terms ∷ []

    lists : List Kind
    lists = Wbs ∷ Event ∷ Act ∷ Piece ∷ Acct ∷ Charge ∷ ToGo ∷ Status ∷ Res ∷ Load ∷ []

    apart : (some more : List Kind) →
        records_text (flat_map (records_of (settled deck)) (some ++ more))
        ≡ records_text (flat_map (records_of (settled deck)) some) ++ records_text (flat_map (records_of (settled deck)) more)
    apart some more =
        ap records_text (flat_map-append (records_of (settled deck)) some more)
        ∙ flat_map-append record_text (flat_map (records_of (settled deck)) some) (flat_map (records_of (settled deck)) more)
