-- Rows of a small deck's report of event times, as they are printed.
use Rattle.std.proofs.Common.{◌≡◌, [], ◌∷◌, ◌++◌, pos, codes, refl}
use Rattle.std.specs.Fmt.{digits}
use Rattle.pc_edges.specs.page.Cells.{head_row}
use Rattle.pc_reports.specs.TimesText.{event_layout, event_cells, activity_layout, activity_cells}

-- the words above the events
pub head_of_events : head_row event_layout ≡ codes "EVENT                      TE           TL        SLACK DATE" ++ 10 ∷ []
head_of_events = refl

-- an event that is reached after 24 sixths of a day and must be by then
pub row_of_event : event_cells (codes "M") 24 (pos 24) (codes "2024-01-05") ≡ codes "M                          24           24            0 2024-01-05" ++ 10 ∷ []
unfolding digits
row_of_event = refl

-- the words above the activities
pub head_of_activities : head_row activity_layout ≡ codes "ACTIVITY             EXPECTED         VARIANCE        SLACK" ++ 10 ∷ []
head_of_activities = refl

-- an activity that is expected to take 42 sixths of a day, and can wait 18
pub row_of_activity : activity_cells (codes "C") 42 0 (pos 18) ≡ codes "C                          42                0           18" ++ 10 ∷ []
unfolding digits
row_of_activity = refl
