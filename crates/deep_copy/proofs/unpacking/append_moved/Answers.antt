use Rattle.std.proofs.Common.{◌≤◌, ◌<◌, ◌∙◌, length, arith}
use Rattle.code_table.specs.Cells.{coded}
use Rattle.code_table.specs.Moves.{move_of}
use Rattle.deep_copy.proofs.GraftLemmas.{all_appended, none_appended, one_appended}
use Rattle.deep_copy.proofs.unpacking.append_moved.Goals as goal

pub loop-at-init : goal.loop-at-init
loop-at-init c = record {
  first = c.len-before.ensures;
  within = omega arith;
  so_far = none_appended (move_of c.args.moves.now) c.args.store.now.cells c.args.cells.now.items c.args.from;
}

pub loop-at-preserved : goal.loop-at-preserved
loop-at-preserved c =
    let lt : c.loop-at.at < length c.args.cells.now.items = omega arith in
    record {
      first = c.loop-at.invariant.first;
      within = omega (arith, c.loop-at.invariant.within);
      so_far = c.in_default.ensures.cells ∙ one_appended (move_of c.args.moves.now) c.args.store.now.cells c.args.cells.now.items c.args.from c.loop-at.at c.loop-at.store.cells (coded c.view.result) c.loop-at.invariant.within lt c.loop-at.invariant.so_far c.view.ensures.view;
    }

pub returns-clause-cells : goal.returns-clause-cells
returns-clause-cells c =
    let past : length c.args.cells.now.items ≤ c.loop-at.at = omega arith in
    c.loop-at.invariant.so_far ∙ all_appended (move_of c.args.moves.now) c.args.store.now.cells c.args.cells.now.items c.args.from c.loop-at.at past
