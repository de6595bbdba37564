-- What the activities that are drawn may last and cost.
use Rattle.std.proofs.Common.{◌≡◌, ℕ, ◌+◌, List, [], ◌∷◌, ◌++◌, length, map, refl, sym, ◌∙◌, ap, arith}
use Rattle.std.specs.Prelude.{replicate}
use Rattle.std.proofs.lemmas.List.{length-append, length-map, map-append, replicate-append-replicate}
use Rattle.pc_project.specs.declared.placed.AfterRow.{AfterRow}
use Rattle.pc_tasks.specs.network.Arrows.{after_arc, arrow_terms, first_arc, firsts, last_arc, lasts, links, no_term}
use Rattle.pc_deck.specs.declared.kinds.act.ActCard.{ActCard}
use Rattle.pc_project.specs.Project.{term_of, terms_in}
use Rattle.pc_deck.specs.declared.kinds.task.TaskCard.{TaskCard}
use Rattle.pc_deck.specs.Deck.{Deck}
use Rattle.pc_tasks.specs.Drawn.{after_links, arrows_deck, first_link, last_link, drawn_links, task_acts}
use Rattle.pc_tasks.specs.Lists.{afters_in, task_term, task_terms}

of_tasks : (i : ℕ) (tasks : List TaskCard) → map term_of (task_acts i tasks) ≡ map task_term tasks
of_tasks i [] = refl
of_tasks i (task ∷ tasks) = ap (λ rest. task_term task ∷ rest) (of_tasks (i + 1) tasks)

of_links : (f : ℕ → ActCard) → ((i : ℕ) → term_of (f i) ≡ no_term) → (xs : List ℕ) → map term_of (map f xs) ≡ replicate (length xs) no_term
of_links f none [] = refl
of_links f none (i ∷ xs) = ap (λ first. first ∷ map term_of (map f xs)) (none i) ∙ ap (λ rest. no_term ∷ rest) (of_links f none xs)

of_afters : (j : ℕ) (rows : List AfterRow) → map term_of (after_links j rows) ≡ replicate (length rows) no_term
of_afters j [] = refl
of_afters j (row ∷ rows) = ap (λ rest. no_term ∷ rest) (of_afters (j + 1) rows)

module _ (deck : Deck) where
  abbrev n : ℕ
  n = length deck.tasks

  abbrev rows : List AfterRow
  rows = afters_in deck

  length-links : length (links n rows) ≡ length rows + (length (firsts n rows) + length (lasts n rows))
  length-links =
      omega (
        arith,
        length-append (map after_arc rows) (map first_arc (firsts n rows) ++ map (last_arc n) (lasts n rows)),
        length-map rows after_arc,
        length-append (map first_arc (firsts n rows)) (map (last_arc n) (lasts n rows)),
        length-map (firsts n rows) first_arc,
        length-map (lasts n rows) (last_arc n),
      )

  of_all_links : map term_of (drawn_links deck) ≡ replicate (length (links n rows)) no_term
  of_all_links =
      map-append term_of (after_links 0 rows) (map (first_link deck) (firsts n rows) ++ map (last_link deck) (lasts n rows))
      ∙ (ap (λ front. front ++ map term_of (map (first_link deck) (firsts n rows) ++ map (last_link deck) (lasts n rows))) (of_afters 0 rows)
      ∙ (ap (λ back. replicate (length rows) no_term ++ back)
      (map-append term_of (map (first_link deck) (firsts n rows)) (map (last_link deck) (lasts n rows))
      ∙ (ap (λ front. front ++ map term_of (map (last_link deck) (lasts n rows))) (of_links (first_link deck) (λ i. refl) (firsts n rows))
      ∙ (ap (λ back. replicate (length (firsts n rows)) no_term ++ back) (of_links (last_link deck) (λ i. refl) (lasts n rows))
      ∙ replicate-append-replicate (length (firsts n rows)) (length (lasts n rows)) no_term)))
      ∙ (replicate-append-replicate (length rows) (length (firsts n rows) + length (lasts n rows)) no_term
      ∙ ap (λ many. replicate many no_term) (sym length-links))))

  -- those of the tasks, and nothing for the links
  pub terms-are : terms_in (arrows_deck deck) ≡ arrow_terms (task_terms deck) rows
  terms-are =
      map-append term_of (task_acts 0 deck.tasks) (drawn_links deck)
      ∙ (ap (λ front. front ++ map term_of (drawn_links deck)) (of_tasks 0 deck.tasks)
      ∙ (ap (λ back. task_terms deck ++ back) of_all_links
      ∙ ap (λ many. task_terms deck ++ replicate (length (links many rows)) no_term) (sym (length-map deck.tasks task_term))))
