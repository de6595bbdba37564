-- Projects and periods.
use Rattle.std.proofs.Common.{◌≡◌, ℕ, List, ap, ◌∙◌, sym, arith}
use Rattle.pc_model.proofs.Walks.WalkLaws.{greatest_unique}
use Rattle.pc_project.specs.Project.{Project}
use Rattle.pc_load.specs.Loading.{ArePeriods, IsLoading, Loading, periods_for}
use Rattle.pc_load.specs.LoadText.{load_text}
use Rattle.pert_cli.specs.declared.forms.Form.TheVariants.{Load}
use Rattle.pert_cli.specs.Handing.{IsReply}

-- a project takes one number of periods
one_count : (project : Project) (days have other : ℕ) → ArePeriods project days have → ArePeriods project days other → have ≡ other
one_count project days have other is also =
    is.are ∙ (ap (periods_for days) (greatest_unique _ is.end also.end is.early also.early) ∙ sym also.are)

-- the text of a loading answers `load`
pub load_reply : (project : Project) (days : ℕ) (loading : Loading) (text : List ℕ) → IsLoading project days loading → text ≡ load_text project loading → IsReply (Load days) project text
load_reply project days loading text is told = record {
  right = record { loading = loading; are = is; told = told };
  fits = λ fault long.
      let same = one_count project days is.periods long.have is.are long.too_many.are in
      let few = is.few in
      let more = long.too_many.more in
      omega arith;
}
