use Rattle.std.proofs.Common.{◌∙◌, ap, sym}
use Rattle.asp_model.specs.Names.{same_name}
use Rattle.law_chases.proofs.FutureLemmas.{true_false}
use Rattle.law_steps.proofs.NameLemmas.{name_itself}
use Rattle.replay_offers.proofs.entries.polled.Goals as goal

pub returns-else-eq : goal.returns-else-eq
returns-else-eq c = record {
  polled = λ e. true_false (same_name c.args.to.now c.args.name.now) (ap (same_name c.args.to.now) (sym e) ∙ name_itself c.args.to.now) (sym c.eq.ensures ∙ c.if-eq.false);
}
