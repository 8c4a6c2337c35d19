use Rattle.std.proofs.Common.{◌∙◌, sym, subst}
use Rattle.core_state.specs.Verdicts.{GoesOn}
use Rattle.core_state.proofs.VerdictLemmas.{away_on, none_away, ready_on}
use Rattle.core_state.proofs.verdicts.goes_on.Goals as goal

pub returns-then-is_any_out : goal.returns-then-is_any_out
returns-then-is_any_out c = record { goes_on = λ h code s core. away_on h code c.args.state.now s core (sym c.is_any_out.ensures.out ∙ c.if-is_any_out.true) }

pub returns-in-None : goal.returns-in-None
returns-in-None c = record {
  goes_on = λ h code s core.
      subst (GoesOn s) (sym c.is_some.ensures)
      (ready_on h code c.args.state.now s core c.next_ready.result (c.next_ready.ensures.next h code s core)
      (none_away h code c.args.state.now s core (sym c.is_any_out.ensures.out ∙ c.if-is_any_out.false)) c.in-None.ensures.first);
}
