use Rattle.syntax_terms.specs.Shapes.{part_shape, kind_shape, open_shape, stack}
use Rattle.syntax_grammar.proofs.Shallow.{finished_few}
use Rattle.syntax_states.proofs.closing.close.Goals as goal

pub closing_round-requires : goal.closing_round-requires
closing_round-requires c = record {
  few = finished_few (kind_shape c.in_ok-over.over.kind) (part_shape c.in_ok-over.over.value) (stack c.finish.new.state.outer.items) (part_shape c.args.part) (open_shape c.args.state.now.inner) (stack c.args.state.now.outer.items) c.in_ok-over.ensures c.requires.few;
}
