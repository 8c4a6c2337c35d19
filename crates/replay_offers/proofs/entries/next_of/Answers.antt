use Rattle.std.proofs.Common.{◌≡◌, ◌∙◌, None, sym, ap, subst, ⊎_elim}
use Rattle.std.specs.Prelude.{IfOk}
use Rattle.asp_model.specs.Configuration.{From, ReceptionShape}
use Rattle.asp_model.specs.Step.{intent_in}
use Rattle.law_chases.proofs.FutureLemmas.{some_is}
use Rattle.replay_parts.proofs.RosterLemmas.{number_named, number_within}
use Rattle.step_activity.specs.Outlook.{IsOutlook}
use Rattle.step_parts.specs.declared.outlook.Outlook.TheVariants as outlook
use Rattle.replay_offers.specs.Entries.{IsEntry}
use Rattle.replay_offers.proofs.EntryLemmas.{outlook_log, outlook_logs_nothing, outlook_polls, outlook_sends}
use Rattle.replay_offers.proofs.entries.next_of.Goals as goal

pub name-name-requires : goal.name-name-requires
name-name-requires c = record { within = number_within c.args.population.now.roster c.requires.known.0 c.args.number c.requires.known.1 }

pub returns-in-Sends : goal.returns-in-Sends
returns-in-Sends c = record {
  next = λ k n entry pop is intends.
      let name : c.name-name.result.now ≡ n = some_is (sym c.name-name.ensures.name ∙ number_named c.args.population.now.roster n c.args.number is) in
      let o : IsOutlook n (intent_in k n) (outlook.Sends c.in-Sends.target) = subst (IsOutlook n (intent_in k n)) c.in-Sends.is (c.in_ok-target.ensures.outlook k n pop is) in
      let s = outlook_sends k n c.args.to.now entry c.in-Sends.target o intends in
      subst (λ (e : ReceptionShape). IfOk c.sent.result (IsEntry e)) (ap From name ∙ s.1) (c.sent.ensures.sent s.0);
}

pub returns-in-Polls : goal.returns-in-Polls
returns-in-Polls c = record {
  next = λ k n entry pop is intends.
      let name : c.name-name.result.now ≡ n = some_is (sym c.name-name.ensures.name ∙ number_named c.args.population.now.roster n c.args.number is) in
      let o : IsOutlook n (intent_in k n) outlook.Polls = subst (IsOutlook n (intent_in k n)) c.in-Polls.is (c.in_ok-target.ensures.outlook k n pop is) in
      let s = outlook_polls k n c.args.to.now entry o intends in
      subst (λ (e : ReceptionShape). IsEntry e c.polled.result) s.1 (c.polled.ensures.polled (s.0 ∙ sym name));
}

pub returns-in-Steps : goal.returns-in-Steps
returns-in-Steps c = record {
  next = λ k n entry pop is intends.
      let quiet : outlook_log n c.in_ok-target.field-0 ≡ None = ⊎_elim
      (λ e. ap (outlook_log n) e)
      (⊎_elim (λ e. ap (outlook_log n) e.1)
      (⊎_elim (λ e. ap (outlook_log n) e.1) (⊎_elim (λ e. ap (outlook_log n) e) (λ e. ap (outlook_log n) e))))
      c.in-Steps.is in
      outlook_logs_nothing k n c.args.to.now entry c.in_ok-target.field-0 (c.in_ok-target.ensures.outlook k n pop is) quiet intends;
}
