-- What the fields of a priced network say of one activity, and that they are made well.
use Rattle.std.proofs.Common.{◌≡◌, ℕ, ◌<◌, List, length, map, get_or, sym, ◌∙◌, ap, subst, arith}
use Rattle.std.proofs.lemmas.List.{get_or_read, length-map, take_all}
use Rattle.pc_model.specs.declared.Arc.{Arc}
use Rattle.pc_model.specs.declared.Knee.{Knee}
use Rattle.pc_model.specs.declared.PieceRow.{PieceRow}
use Rattle.pc_model.specs.declared.Term.{Term}
use Rattle.pc_crash.specs.declared.crash_net.CrashNet.TheInside.{Inside}
use Rattle.pc_crash.specs.declared.price_table.PriceRow.{PriceRow}
use Rattle.pc_crash.specs.inside.CrashNets.{priced_network, IsWholeInside}
use Rattle.pc_crash.specs.inside.KneeLists.{AreKneesOf}
use Rattle.pc_crash.specs.inside.Laid.{AreLaid, IsPriceRowOf, knees_of_row}
use Rattle.pc_crash.specs.Priced.{PricedNetwork, knees_in}
use Rattle.pc_crash.proofs.KneeListLaws.{AreKneesOf-knee_list}

-- there is a row for each activity
pub rows-each : (s : Inside) → IsWholeInside s → length s.layout.rows.items ≡ length s.net.now.arcs
rows-each s is = sym (length-map s.layout.rows.items (λ row. row.term)) ∙ is.whole.terms.one_each

-- the row of an activity as it is read
pub row-read : (s : Inside) (a : ℕ) (row : PriceRow) → IsWholeInside s → a < length s.net.now.arcs → row ≡ get_or s.layout.rows.items a row →
    IsPriceRowOf s.net.now.arcs (priced_network s).terms s.pieces.items s.layout.knees.items a row
row-read s a row is inside read =
    let here : a < length s.layout.rows.items = omega (arith, rows-each s is) in
    subst (IsPriceRowOf s.net.now.arcs (priced_network s).terms s.pieces.items s.layout.knees.items a)
    (sym (get_or_read s.layout.rows.items a row here read (record { arc = record { from = 0; to = 0 }; term = record { normal = 0; crash = 0; cost = 0; slope = 0 }; first = 0; count = 0 })))
    (is.laid.each a here)

-- an activity's row names two events of the network
pub ends-within : (s : Inside) (net : PricedNetwork) (view : priced_network s ≡ net) (is : IsWholeInside s) (a : ℕ) → a < length net.network.arcs →
    (row : PriceRow) → row ≡ get_or s.layout.rows.items a row → (row.arc.to < net.network.events) × (row.arc.from < net.network.events)
ends-within s net view is a known row read =
    let inside : a < length s.net.now.arcs = omega (arith, ap (λ (n : PricedNetwork). length n.network.arcs) view) in
    let found = row-read s a row is inside read in
    let events = ap (λ (n : PricedNetwork). n.network.events) view in
    let ranges = is.whole.in_range in
    (omega (arith, ap (λ (arc : Arc). arc.to) found.arc, ranges.to_in a inside), omega (arith, ap (λ (arc : Arc). arc.from) found.arc, ranges.from_in a inside))

-- the knees of a row are those of its activity
pub knees-read : (s : Inside) (a : ℕ) (row : PriceRow) →
    IsPriceRowOf s.net.now.arcs (priced_network s).terms s.pieces.items s.layout.knees.items a row →
    AreKneesOf (knees_in (priced_network s)) a (knees_of_row s.layout.knees.items row)
knees-read s a row is = subst (AreKneesOf (knees_in (priced_network s)) a) (sym is.part) (AreKneesOf-knee_list (priced_network s).terms s.pieces.items a)

-- what holds once an activity's row was read
pub record IsRead (s : Inside) (a : ℕ) (row : PriceRow) : Type 0 where
  pub known : a < length (priced_network s).terms
  pub is : IsPriceRowOf s.net.now.arcs (priced_network s).terms s.pieces.items s.layout.knees.items a row
  pub knees : AreKneesOf (knees_in (priced_network s)) a (knees_of_row s.layout.knees.items row)

pub activity-read : (s : Inside) (a : ℕ) (row : PriceRow) → IsWholeInside s → a < length s.net.now.arcs → row ≡ get_or s.layout.rows.items a row → IsRead s a row
activity-read s a row is known read =
    let found = row-read s a row is known read in
    record { known = omega (arith, known, is.whole.terms.one_each); is = found; knees = knees-read s a row found }

-- the terms that are laid out are those given
pub terms-laid : (arcs : List Arc) (terms : List Term) (pieces : List PieceRow) (rows : List PriceRow) (knees : List Knee) →
    AreLaid arcs terms pieces (length terms) rows knees → map (λ row. row.term) rows ≡ terms
terms-laid arcs terms pieces rows knees laid = laid.same_terms ∙ take_all (length terms) terms (omega arith)
