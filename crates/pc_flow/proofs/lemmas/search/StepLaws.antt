-- The steps of a search: both ends of their activities have labels.
use Rattle.std.proofs.Common.{ℕ, ◌<◌, inl, inr, ap, arith}
use Rattle.std.proofs.lemmas.Bool.{cases_lt}
use Rattle.pc_model.specs.Walk.{from_of, to_of}
use Rattle.pc_crash.specs.Priced.{PricedNetwork}
use Rattle.pc_flow.specs.board.Sheets.{Sheet, rank_of}
use Rattle.pc_flow.specs.inside.board.Sheets.{step_of, against_of}
use Rattle.pc_flow.specs.inside.board.Labelling.{HasStep}
use Rattle.pc_flow.specs.inside.search.Searches.{IsSearch}

module _ (net : PricedNetwork) (s : Sheet) (search : IsSearch net s) (f : ℕ) (known : f < s.events) (has : HasStep s f) where
  pub step-from_labelled : 0 < rank_of s (from_of net.network.arcs (step_of s f))
  step-from_labelled =
      elim (cases_lt 0 (against_of s f)) [
        | inl some ↦ omega (arith, ap (rank_of s) (search.joined.against_from f known has some), has)
        | inr none ↦ omega (arith, ap (rank_of s) (search.joined.along_from f known has (omega arith)), search.back.labelled f known has)
      ]

  pub step-to_labelled : 0 < rank_of s (to_of net.network.arcs (step_of s f))
  step-to_labelled =
      elim (cases_lt 0 (against_of s f)) [
        | inl some ↦ omega (arith, ap (rank_of s) (search.joined.against_to f known has some), search.back.labelled f known has)
        | inr none ↦ omega (arith, ap (rank_of s) (search.joined.along_to f known has (omega arith)), has)
      ]
