-- The parts of the deck one after the other.
use Rattle.std.proofs.Common.{◌≡◌, ℕ, List, [], ◌++◌, ap, ◌∙◌}
use Rattle.pc_curve.specs.bench.Deck.{activities_text, all_costs, bench_deck_text, end_text, events_text, item_line, project_line}
use Rattle.pc_curve.specs.bench.Recipe.{bench_last_event}

-- the deck with a last event and a budget
abbrev with_parts : ℕ → ℕ → ℕ → List ℕ
with_parts n last costs = (((project_line last ++ item_line) ++ events_text last) ++ activities_text n) ++ end_text costs

pub whole-deck : (n last costs : ℕ) (none one two three four all : List ℕ) → last ≡ bench_last_event n → costs ≡ all_costs n → none ≡ []
    → one ≡ none ++ project_line last → two ≡ one ++ item_line → three ≡ two ++ events_text last → four ≡ three ++ activities_text n
    → all ≡ four ++ end_text costs → all ≡ bench_deck_text n
whole-deck n last costs none one two three four all last_is costs_are empty first second third fourth fifth =
    let to_one : one ≡ project_line last = first ∙ ap (λ text. text ++ project_line last) empty in
    let to_two : two ≡ project_line last ++ item_line = second ∙ ap (λ text. text ++ item_line) to_one in
    let to_three : three ≡ (project_line last ++ item_line) ++ events_text last = third ∙ ap (λ text. text ++ events_text last) to_two in
    let to_four : four ≡ ((project_line last ++ item_line) ++ events_text last) ++ activities_text n =
    fourth ∙ ap (λ text. text ++ activities_text n) to_three in
    fifth ∙ (ap (λ text. text ++ end_text costs) to_four ∙ (ap (λ e. with_parts n e costs) last_is ∙ ap (with_parts n (bench_last_event n)) costs_are))
