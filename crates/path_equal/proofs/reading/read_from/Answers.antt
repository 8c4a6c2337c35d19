use Rattle.std.proofs.Common.{Option, Some, ◌∙◌, ap, arith}
use Rattle.asp_model.specs.Store.{CellShape}
use Rattle.def_paths.specs.Places.{Place, found_at}
use Rattle.path_equal.specs.Reading.{found_of}
use Rattle.state_lines.specs.States.{side_in}
use Rattle.path_equal.proofs.ReadLemmas.{leads_all}
use Rattle.state_lines.proofs.SightLemmas.{found_seen}
use Rattle.path_equal.proofs.reading.read_from.Goals as goal

pub returns : goal.returns
returns c =
    let s = c.args.state.now in
    let q = c.loop-label.invariant.0 in
    let sees = c.look_at-2.ensures.sees q c.loop-label.invariant.1 in
    record {
      found = c.found_as.ensures.found
          ∙ ap (λ (x : CellShape). found_of (Some x)) (found_seen s q c.look_at-2.result.seen sees.read)
          ∙ ap (λ (o : Option Place). found_of (found_at (side_in s) o)) (leads_all (side_in s) c.args.path.now q c.loop-label.label-index (omega arith) ∙ c.loop-label.invariant.2);
    }
