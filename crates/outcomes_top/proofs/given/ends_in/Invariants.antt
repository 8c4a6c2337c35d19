use Rattle.std.proofs.Common.{◌≡◌, ◌≤◌, map, take}
use Rattle.asp_model.specs.Shapes.{tree_of}
use Rattle.asp_top.specs.Seen.{outside_between}
use Rattle.outcome_search.specs.Ends.{AreReplayableEnds, run_logs}
use Rattle.outcomes_words.specs.Shapes.{texts_behind}
use Rattle.outcomes_top.specs.Given.{ShowEnds}
use Rattle.outcomes_top.specs.Surveys.{ReadsAll}
use Rattle.outcomes_top.proofs.given.ends_in.Given as goal

abbrev pub invariant-loop-number : goal.invariant-loop-number
invariant-loop-number g l = record {
  ends : AreReplayableEnds (tree_of l.program.program.root) (map run_logs l.ends.items);
  shown : ShowEnds (outside_between g.S.Source.told l.fn.source l.source) 0 (tree_of l.program.program.root) (texts_behind (take l.number l.names)) (map run_logs l.ends.items);
  read : ReadsAll (outside_between g.S.Source.told l.fn.source l.source) (texts_behind (take l.number l.names));
  same : (g.S.Source.told l.source).content ≡ (g.S.Source.told l.fn.source).content;
  later : (g.S.Source.told l.fn.source).faults ≤ (g.S.Source.told l.source).faults;
}
