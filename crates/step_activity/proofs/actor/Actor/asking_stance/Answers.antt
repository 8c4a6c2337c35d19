use Rattle.std.proofs.Common.{◌∙◌, map, sym, subst}
use Rattle.asp_model.specs.Chase.{Chase, chase}
use Rattle.asp_model.specs.Contraction.{Creates, Polls, Sends, Serves, contract}
use Rattle.asp_model.specs.Intent.{labels_served, oldest_match}
use Rattle.asp_model.specs.Names.{FutureShape}
use Rattle.asp_model.specs.Store.{cell}
use Rattle.future_table.specs.Values.{values_of}
use Rattle.serve_rules.specs.Labels.{label_text}
use Rattle.step_activity.specs.declared.asked.Asked.{Asked}
use Rattle.step_activity.specs.Asking.{IsAsked, asked_shape, lent_text}
use Rattle.step_activity.proofs.StanceLemmas.{match_goes, match_rests, stance_asks}
use Rattle.step_activity.proofs.actor.Actor.asking_stance.Goals as goal

pub returns-in-Creates : goal.returns-in-Creates
returns-in-Creates c = record {
  stance = λ a rs n h.
      let chases : FutureShape → Chase = chase (values_of c.args.futures.now) in
      let at = c.requires.stands a h.activity in
      let is = subst (λ (k : Asked). IsAsked (asked_shape k) (contract a.store at.redex)) c.in-Creates.is (c.asks.ensures.asked a at.contexts at.redex h.activity at.splits) in
      sym (stance_asks chases rs n a at.contexts at.redex at.splits (Creates c.in-Creates._object (lent_text c.in-Creates._service)) is);
}

pub returns-in-Sends : goal.returns-in-Sends
returns-in-Sends c = record {
  stance = λ a rs n h.
      let chases : FutureShape → Chase = chase (values_of c.args.futures.now) in
      let at = c.requires.stands a h.activity in
      let is = subst (λ (k : Asked). IsAsked (asked_shape k) (contract a.store at.redex)) c.in-Sends.is (c.asks.ensures.asked a at.contexts at.redex h.activity at.splits) in
      sym (stance_asks chases rs n a at.contexts at.redex at.splits (Sends c.in-Sends._to.now c.in-Sends._label.now.text c.in-Sends._arguments.now) is);
}

pub returns-in-Some : goal.returns-in-Some
returns-in-Some c = record {
  stance = λ a rs n h.
      let chases : FutureShape → Chase = chase (values_of c.args.futures.now) in
      let at = c.requires.stands a h.activity in
      let texts = map label_text c.in-Serves.labels.now in
      let wanted = labels_served texts (cell a.store a.active) in
      let is = subst (λ (k : Asked). IsAsked (asked_shape k) (contract a.store at.redex)) c.in-Serves.is (c.asks.ensures.asked a at.contexts at.redex h.activity at.splits) in
      match_goes a at.contexts c.in-Some._number (oldest_match wanted a.served 0 rs) (sym c.in-Some.is ∙ c.in_ok-_number-in-Serves.ensures.oldest a rs h)
      ∙ sym (stance_asks chases rs n a at.contexts at.redex at.splits (Serves texts) is);
}

pub returns-in-None : goal.returns-in-None
returns-in-None c = record {
  stance = λ a rs n h.
      let chases : FutureShape → Chase = chase (values_of c.args.futures.now) in
      let at = c.requires.stands a h.activity in
      let texts = map label_text c.in-Serves.labels.now in
      let wanted = labels_served texts (cell a.store a.active) in
      let is = subst (λ (k : Asked). IsAsked (asked_shape k) (contract a.store at.redex)) c.in-Serves.is (c.asks.ensures.asked a at.contexts at.redex h.activity at.splits) in
      match_rests a at.contexts (oldest_match wanted a.served 0 rs) (sym c.in-None.is ∙ c.in_ok-_number-in-Serves.ensures.oldest a rs h)
      ∙ sym (stance_asks chases rs n a at.contexts at.redex at.splits (Serves texts) is);
}

pub returns-in-Polls : goal.returns-in-Polls
returns-in-Polls c = record {
  stance = λ a rs n h.
      let chases : FutureShape → Chase = chase (values_of c.args.futures.now) in
      let at = c.requires.stands a h.activity in
      let is = subst (λ (k : Asked). IsAsked (asked_shape k) (contract a.store at.redex)) c.in-Polls.is (c.asks.ensures.asked a at.contexts at.redex h.activity at.splits) in
      sym (stance_asks chases rs n a at.contexts at.redex at.splits (Polls (map label_text c.in-Polls._labels.now)) is);
}
