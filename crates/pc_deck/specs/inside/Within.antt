-- What holds of every deck that was read.
-- Here is what no clause of a top call and no law reaches.
use Rattle.std.specs.Prelude.{◌≡◌, true, [], is_none}
use Rattle.pc_faults.specs.declared.kind.Kind.{Kind}
use Rattle.pc_deck.specs.inside.Reading.{list_so_far, project_version}
use Rattle.pc_deck.specs.declared.draft.Draft.{Draft}
use Rattle.pc_deck.specs.Within.{IsListWithin}

-- the same of the cards so far, by the version of the deck; there are none before the PROJECT card
pub record IsDraftWithin (draft : Draft) : Type 0 where
  pub empty : is_none draft.project ≡ true → (kind : Kind) → list_so_far draft kind ≡ []
  pub lists : (kind : Kind) → IsListWithin draft.sort kind (project_version draft.project) (list_so_far draft kind)
