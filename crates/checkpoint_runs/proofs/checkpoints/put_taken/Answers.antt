use Rattle.std.proofs.Common.{List, subst, sym}
use Rattle.asp_model.specs.Names.{Name}
use Rattle.asp_core.specs.Frozen.{AreFrozenIn}
use Rattle.code_table.specs.declared.code.Node.{Node}
use Rattle.checkpoint_runs.specs.Saved.{AddsLines, activity_lines}
use Rattle.checkpoint_runs.proofs.checkpoints.put_taken.Goals as goal

pub returns : goal.returns
returns c = record {
  adds = λ x h.
      let activities = c.args.frozen.activities.items in
      let are = subst (λ (code : List Node). AreFrozenIn code x.configuration activities) (sym c.deref.ensures) h.activities in
      subst (λ (ns : List Name). AddsLines c.args.pieces.now.items (activity_lines x.configuration ns) c.put_activities.new.pieces.items) h.names
      (c.in_ok-put_activities.ensures.adds x.configuration are);
}
