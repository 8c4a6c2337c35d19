use Rattle.std.proofs.Common.{◌∙◌, ◌∷◌, ◌++◌, [], refl, sym, ap}
use Rattle.std.specs.Prelude.{codes}
use Rattle.asp_model.specs.Store.{CellShape}
use Rattle.def_paths.specs.Places.{found}
use Rattle.def_paths.specs.StateLines.{state_line, what_text}
use Rattle.run_ends.specs.Spots.{place_of, places_in}
use Rattle.state_lines.specs.States.{side_in}
use Rattle.state_lines.specs.Walks.{shown_in, shown_with}
use Rattle.state_lines.proofs.ShowLemmas.{plain_shown, same_shown}
use Rattle.state_lines.proofs.SightLemmas.{found_compound, found_seen}
use Rattle.state_lines.proofs.TextLemmas.{always_ok, on_ok}
use Rattle.state_lines.proofs.WalkLemmas.{path_found, plain_done}
use Rattle.state_lines.proofs.lines.show.Goals as goal

pub returns-then-not-is_compound-clause-walk : goal.returns-then-not-is_compound-clause-walk
returns-then-not-is_compound-clause-walk c =
    let h = c.requires.walk in
    always_ok c.push_line.result (record { numbered = h.numbered; values = h.values; paths = h.paths; due = h.due })

pub returns-then-not-is_compound-clause-shown : goal.returns-then-not-is_compound-clause-shown
returns-then-not-is_compound-clause-shown c =
    let s = c.args.state.now in
    let old = c.args.walk.now in
    let due = c.args.due in
    let p = place_of old.entered due.spot in
    let seen = c.look_at-sight.result.seen in
    let sees = c.look_at-sight.ensures.sees p (c.at.ensures.at (side_in s) c.requires.walk.values) in
    let plain = found_compound s p seen sees.read ∙ sym c.if-not-is_compound.ensures.compound in
    let line = ap (λ (x : CellShape). old.lines.items ++ state_line due.path (what_text x) ∷ []) (found_seen s p seen sees.read) in
    on_ok c.push_line.result (λ e. plain_done s old due (record { entered = old.entered; paths = old.paths; due = old.due; lines = c.push_line.new.lines }) (what_text (found (side_in s) p)) refl
    (ap (shown_with (places_in old.entered) old.paths.entries) (e ∙ line))
    (plain_shown (side_in s) due.depth due.path p (shown_in old) plain)) c.push_line.ensures

pub returns-in-Some-clause-walk : goal.returns-in-Some-clause-walk
returns-in-Some-clause-walk c =
    let h = c.requires.walk in
    always_ok c.push_same.result (record { numbered = h.numbered; values = h.values; paths = h.paths; due = h.due })

pub returns-in-Some-clause-shown : goal.returns-in-Some-clause-shown
returns-in-Some-clause-shown c =
    let s = c.args.state.now in
    let old = c.args.walk.now in
    let due = c.args.due in
    let p = place_of old.entered due.spot in
    let first = c.in-Some.first.now in
    let sees = c.look_at-sight.ensures.sees p (c.at.ensures.at (side_in s) c.requires.walk.values) in
    let compound = found_compound s p c.look_at-sight.result.seen sees.read ∙ sym c.if-not-is_compound.ensures.compound in
    let seen = path_found old.entered c.requires.walk.numbered due.spot c.requires.spot old.paths.entries c.requires.walk.paths ∙ sym c.in-Some.ensures.value in
    on_ok c.push_same.result (λ e. plain_done s old due (record { entered = old.entered; paths = old.paths; due = old.due; lines = c.push_same.new.lines }) (codes "same " ++ first) refl
    (ap (shown_with (places_in old.entered) old.paths.entries) e)
    (same_shown (side_in s) due.depth due.path p (shown_in old) first compound seen)) c.push_same.ensures
