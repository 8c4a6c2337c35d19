use Rattle.std.proofs.Common.{◌∙◌}
use Rattle.std.specs.BTreeMap.{get}
use Rattle.request_queue.specs.Notes.{label_order}
use Rattle.request_queue.proofs.NoteLemmas.{forgotten}
use Rattle.request_queue.proofs.notes.Notes.forget.Goals as goal

pub returns-then-is_last : goal.returns-then-is_last
returns-then-is_last c = record {
  forgotten = λ m j. forgotten c.args.label.now (get label_order c.is_last.new.self.numbers) (get label_order c.remove.new.self) (c.is_last.ensures.none c.if-is_last.true) c.remove.ensures.updates.0 m j ∙ c.is_last.ensures.forgotten m j;
}
