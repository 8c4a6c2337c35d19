use Rattle.std.proofs.Common.{◌∙◌}
use Rattle.indexmap.specs.IndexMap.{get}
use Rattle.object_store.specs.Index.{is_same}
use Rattle.object_store.proofs.IndexLemmas.{forgotten}
use Rattle.object_store.proofs.index.Index.remove.Goals as goal

pub returns-then-take_out : goal.returns-then-take_out
returns-then-take_out c = record {
  places = λ f. forgotten c.args.future.now (get is_same c.take_out.new.self.held) (get is_same c.swap_remove.new.self) (c.take_out.ensures.none c.if-take_out.true) c.swap_remove.ensures.updates.0 f ∙ c.take_out.ensures.places f;
}
