use Rattle.std.proofs.Common.{◌∙◌}
use Rattle.core_state.proofs.NextLemmas.{none_needed}
use Rattle.asp_core.proofs.DeliverLemmas.{due_told, needy_owed}
use Rattle.asp_core.proofs.deliveries.owes_nothing.Goals as goal

pub returns-in-Some : goal.returns-in-Some
returns-in-Some g c = record { nothing = λ h code s st. needy_owed h code s c.args.state.now c.args.edges.now.holders st c.in-Some.field-0 c.in-Some.ensures.first }

pub returns-in-None : goal.returns-in-None
returns-in-None g c = record {
  nothing = λ h code s st.
      let x = c.args.state.now in
      let none = none_needed h code x s st.core c.in-None.ensures.first in
      due_told h code s x c.args.edges.now.holders st c.next_due.result none c.next_due.ensures.due ∙ c.is_none.ensures;
}
