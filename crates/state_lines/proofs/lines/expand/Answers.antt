use Rattle.std.proofs.Common.{◌≡◌, ◌-◌, ◌++◌, ◌∙◌, List, map, ap, arith}
use Rattle.std.specs.Prelude.{reverse}
use Rattle.std.proofs.lemmas.Result.{IfOk-from_err}
use Rattle.state_lines.specs.Below.{cell_below}
use Rattle.state_lines.specs.Sights.{seen_shape}
use Rattle.run_ends.specs.Spots.{Grows, HasValues, IsNumbered, numbered_place, place_of, places_in, size_of}
use Rattle.state_lines.specs.Walks.{AreSpots, IsExpanded, Pending, all_pending, pending_at, pending_below}
use Rattle.state_lines.proofs.BelowLemmas.{below_is, pending_is}
use Rattle.state_lines.proofs.TextLemmas.{always_ok, on_ok}
use Rattle.state_lines.proofs.WalkLemmas.{dues_wider}
use Rattle.state_lines.proofs.lines.expand.Goals as goal

pub returns-in_err-home : goal.returns-in_err-home
returns-in_err-home c =
    let old = c.args.entered.now in
    let new = c.home.new.self in
    let due = c.args.due.now in
    let all = c.args.all.now.items in
    let r = c.from_residual.result in
    let err = c.from_residual.ensures.0 in
    record {
      numbered = IfOk-from_err r (λ u. IsNumbered new) err;
      grows = IfOk-from_err r (λ u. Grows old new) err;
      spots = IfOk-from_err r (λ u. AreSpots (size_of old) all → AreSpots (size_of new) all) err;
      below = λ a values sees. IfOk-from_err r (λ u. HasValues a new × IsExpanded a due old new all all) err;
    }

pub returns-clause-numbered : goal.returns-clause-numbered
returns-clause-numbered c = always_ok c.push_below.result c.in_ok-home.ensures.numbered

pub returns-clause-grows : goal.returns-clause-grows
returns-clause-grows c = always_ok c.push_below.result c.in_ok-home.ensures.grows

pub returns-clause-spots : goal.returns-clause-spots
returns-clause-spots c = on_ok c.push_below.result (λ e h. e (dues_wider c.args.entered.now c.home.new.self c.in_ok-home.ensures.grows c.args.all.now.items h)) c.push_below.ensures.spots

pub returns-clause-below : goal.returns-clause-below
returns-clause-below c = λ a values sees.
    let due = c.args.due.now in
    let new = c.home.new.self in
    let p = place_of c.args.entered.now due.spot in
    let at = numbered_place (places_in new) c.in_ok-home.home in
    let there = c.in_ok-home.ensures.home a values sees.value in
    let below : map (pending_at (due.depth - 1)) (cell_below due.path at (seen_shape c.args.sight.seen)) ≡ pending_below due.depth a due.path p =
    ap (map (pending_at (due.depth - 1))) (below_is a due.path p at (seen_shape c.args.sight.seen) sees.read there.1) ∙ pending_is a due.path p due.depth (omega arith) in
    on_ok c.push_below.result (λ e. (there.0, e ∙ ap (λ (xs : List Pending). all_pending new c.args.all.now.items ++ reverse xs) below)) c.push_below.ensures.pending
