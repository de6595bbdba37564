-- What counts of the cards so far is what counts of the draft that they say.
use Rattle.std.proofs.Common.{◌≡◌, ℕ, Bool, true, false, not, List, [], ◌∷◌, length, map, Option, Some, None, if◌then◌else◌, refl, sym, ap, ◌∙◌}
use Rattle.std.proofs.lemmas.List.{length-map}
use Rattle.std.specs.Prelude.{option_to_list}
use Rattle.pc_model.specs.Codes.{text_at}
use Rattle.pc_faults.specs.declared.kind.Kind.{Kind}
use Rattle.pc_faults.specs.declared.kind.Kind.TheVariants.{Project, End}
use Rattle.pc_cards.specs.Cards.{Numbered}
use Rattle.pc_deck.specs.Project.{project_card}
use Rattle.pc_deck.specs.Kinds.{card_of, entry_of, has_code_of_its_own}
use Rattle.pc_deck.specs.inside.Reading.{count_in, codes_in, list_so_far, seen_in, project_version}
use Rattle.pc_deck.specs.Refusal.{of_kind, own_codes, are_none, seen_among, version_said}
use Rattle.pc_deck.specs.declared.kinds.project.ProjectCard.{ProjectCard}
use Rattle.pc_deck.specs.declared.draft.Draft.{Draft}
use Rattle.pc_deck.proofs.KindLemmas.{own_code}
use Rattle.pc_deck.proofs.SoFarLemmas.{IsSoFar, codes-are, count-is}

pub twice_mapped : {X Y Z : Type 0} (f : X → Y) (g : Y → Z) (h : X → Z) (xs : List X) → ((x : X) → g (f x) ≡ h x) → map h xs ≡ map g (map f xs)
twice_mapped f g h [] same = refl
twice_mapped f g h (x ∷ xs) same = ap (λ y. y ∷ map h xs) (sym (same x)) ∙ ap (λ ys. g (f x) ∷ ys) (twice_mapped f g h xs same)

-- the version of the first of some projects
abbrev version_first : List ProjectCard → ℕ
version_first [] = 1
version_first (project ∷ projects) = project.version

said_first : (cards : List Numbered) → version_said cards ≡ version_first (map (λ (c : Numbered). project_card c.0 c.1) cards)
said_first [] = refl
said_first (card ∷ cards) = refl

first_of : (project : Option ProjectCard) → version_first (option_to_list project) ≡ project_version project
first_of None = refl
first_of (Some project) = refl

some_ends : (ends : List Numbered) (ended : Bool) → length ends ≡ length {A = Unit {0}} (if ended then tt ∷ [] else []) → not (are_none ends) ≡ ended
some_ends [] false h = refl
some_ends [] true h = absurd (let h' = h in cc)
some_ends (card ∷ cards) true h = refl
some_ends (card ∷ cards) false h = absurd (let h' = h in cc)

-- the same counts, whether of the cards or of their draft
pub seen : (cards : List Numbered) (draft : Draft) → IsSoFar cards draft → seen_among draft.sort cards ≡ seen_in draft
seen cards draft says =
    λ i. record {
      sort = draft.sort;
      is_first = says.first i;
      version = version i;
      count = λ kind. count kind i;
      codes = λ kind. codes kind i;
      has_ended = some_ends (of_kind End cards) draft.has_ended (count End) i;
    }
  where
    version : version_said (of_kind Project cards) ≡ project_version draft.project
    version = said_first (of_kind Project cards) ∙ (ap version_first (says.lists Project) ∙ first_of draft.project)

    -- as many cards as they spell
    count : (kind : Kind) → length (of_kind kind cards) ≡ count_in draft kind
    count kind = sym (length-map (of_kind kind cards) (λ (c : Numbered). card_of kind c.0 c.1)) ∙ (ap length (says.lists kind) ∙ sym (count-is draft kind))

    -- the codes that they spell
    codes_by : (kind : Kind) (coded : Bool) → has_code_of_its_own kind ≡ coded →
        (if coded then map (λ (c : Numbered). text_at c.1 1) (of_kind kind cards) else [])
        ≡ (if coded then map (entry_of kind).code (list_so_far draft kind) else [])
    codes_by kind true is =
        twice_mapped (λ (c : Numbered). card_of kind c.0 c.1) (entry_of kind).code (λ (c : Numbered). text_at c.1 1) (of_kind kind cards) (λ c. own_code kind is c.0 c.1)
        ∙ ap (map (entry_of kind).code) (says.lists kind)
    codes_by kind false is = refl

    codes : (kind : Kind) → own_codes kind cards ≡ codes_in draft kind
    codes kind = codes_by kind (has_code_of_its_own kind) refl ∙ sym (codes-are draft kind)
