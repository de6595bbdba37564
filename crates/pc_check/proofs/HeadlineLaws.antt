-- A certified text prints a cheapest schedule for every length of the range.
use Rattle.std.proofs.Common.{◌≡◌, ℕ, List, length}
use Rattle.pc_model.specs.Cost.{IsPriced}
use Rattle.pc_crash.specs.Priced.{PricedNetwork, knees_in}
use Rattle.pc_check.specs.Headline.{PrintsWholeCurve}
use Rattle.pc_check.specs.Texts.{IsCertified}
use Rattle.pc_check.proofs.GoodLines.{curve_of}

pub prints_whole_curve : (net : PricedNetwork) (text : List ℕ) (segments : ℕ) → IsPriced net.network net.terms (knees_in net) →
    length net.activities ≡ length net.network.arcs → IsCertified net text segments → PrintsWholeCurve net text
prints_whole_curve net text segments priced named certified =
    let curve = curve_of net certified.lines priced named (record { whole = certified.whole.led.order; none = certified.none }) in
    record {
      lines = certified.lines;
      whole = certified.whole;
      longest = curve.high;
      shortest = curve.low;
      all_normal = curve.longest;
      all_crash = curve.shortest;
      joined = curve.covering.front.joined;
      read = curve.read;
    }
