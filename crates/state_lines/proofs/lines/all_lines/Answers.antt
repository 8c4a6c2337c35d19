use Rattle.std.proofs.Common.{◌∙◌, ap}
use Rattle.def_paths.specs.StateLines.{Shown}
use Rattle.state_lines.proofs.WalkLemmas.{begun_shown, begun_walk}
use Rattle.state_lines.proofs.lines.all_lines.Goals as goal

pub show_all-shown-requires : goal.show_all-shown-requires
show_all-shown-requires c =
    let w = c.begun-walk.ensures in
    record { walk = begun_walk c.args.state.now c.args.depth c.begun-walk.result w.numbered w.none w.paths (w.due ∙ c.in_ok-due.ensures.due) }

pub returns : goal.returns
returns c =
    let w = c.begun-walk.ensures in
    record { lines = c.lines_of-lines.ensures ∙ c.in_ok-shown.ensures.lines ∙ ap (λ (x : Shown). x.lines) (begun_shown c.args.state.now c.args.depth c.begun-walk.result w.paths (w.due ∙ c.in_ok-due.ensures.due) w.lines) }
