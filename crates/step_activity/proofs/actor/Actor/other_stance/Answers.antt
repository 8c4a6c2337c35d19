use Rattle.std.proofs.Common.{Bool, Some, None, ap, ◌∙◌}
use Rattle.asp_model.specs.Names.{FutureShape}
use Rattle.asp_model.specs.Chase.{Chase, chase}
use Rattle.asp_model.specs.Shapes.{future_shape}
use Rattle.future_table.specs.Values.{values_of}
use Rattle.step_activity.specs.declared.actor.Actor.{Actor}
use Rattle.step_activity.specs.declared.held.Held.{Held}
use Rattle.step_parts.specs.declared.outlook.Outlook.{Outlook}
use Rattle.step_activity.specs.Actors.{code_of}
use Rattle.step_activity.specs.Stances.{free_stance}
use Rattle.step_activity.proofs.PassingLemmas.{at_first, clear_told}
use Rattle.step_activity.proofs.StanceLemmas.{own_held, stance_free, stance_held}
use Rattle.step_activity.proofs.actor.Actor.other_stance.Goals as goal

pub returns-in-Some : goal.returns-in-Some
returns-in-Some c = record {
  stance = λ a rs n h.
      let x : Actor = c.args.self.now in
      let chases : FutureShape → Chase = chase (values_of c.args.futures.now) in
      let at = c.requires.stands a h.activity in
      let y : Held = c.in-Some.held in
      let held = own_held x a h.activity c.store.result.now c.store.ensures.store c.args.redex at.redex at.is c.strict_of.result c.strict_of.ensures.strict (Some y) x.clear (clear_told a x.clear c.args.redex at h.clear) (λ k. c.in-Some.ensures.held k) in
      c.held_stance.ensures.stance ∙ stance_held chases rs n a at.contexts at.redex at.splits y.place (future_shape y.future.now) held.0 held.1;
}

pub returns-in_ok-looked-in-None : goal.returns-in_ok-looked-in-None
returns-in_ok-looked-in-None c = record {
  stance = λ a rs n h.
      let x : Actor = c.args.self.now in
      let chases : FutureShape → Chase = chase (values_of c.args.futures.now) in
      let at = c.requires.stands a h.activity in
      let o : Outlook = c.in_ok-looked-in-None.looked.outlook in
      let none = own_held x a h.activity c.store.result.now c.store.ensures.store c.args.redex at.redex at.is c.strict_of.result c.strict_of.ensures.strict None x.clear (clear_told a x.clear c.args.redex at h.clear) (λ k. c.in-None.ensures.held k) in
      c.free_stance.ensures.stance ∙ ap (λ (b : Bool). free_stance b o) c.asks_others.ensures
      ∙ stance_free chases rs n a at.contexts at.redex at.splits none (code_of x) x.activity.state.store.cells h.activity.state.store c.args.redex at.is o (c.in_ok-looked-in-None.ensures.outlook a rs n h);
}

pub at_redex-requires-clause-passed : goal.at_redex-requires-clause-passed
at_redex-requires-clause-passed c = at_first c.args.self.now (chase (values_of c.args.futures.now)) c.requires.closed
