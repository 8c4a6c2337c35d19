use Rattle.std.proofs.Common.{◌∙◌, sym, ap}
use Rattle.asp_model.specs.History.{Need}
use Rattle.asp_model.specs.Shapes.{future_shape}
use Rattle.law_chases.proofs.FutureLemmas.{some_is}
use Rattle.asp_core.proofs.deliveries.need_of.Goals as goal

pub returns : goal.returns
returns c = record {
  need = λ n named. ap (λ m. Need (future_shape c.args.needed.future) m c.args.needed.loc) (c.in_ok-to.ensures.name ∙ some_is (sym c.name.ensures.name ∙ named));
}
