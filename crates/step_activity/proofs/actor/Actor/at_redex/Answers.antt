use Rattle.std.proofs.Common.{◌≡◌, ℕ, List, Option, map, sym, ap, ◌∙◌, subst}
use Rattle.std.specs.Arc.{arc_value}
use Rattle.asp_model.specs.Chase.{Chase, Values, chase}
use Rattle.asp_model.specs.Intent.{Intent, labels_served, oldest_match, redex_ready, serves}
use Rattle.asp_model.specs.Names.{FutureShape, Text}
use Rattle.asp_model.specs.Store.{cell}
use Rattle.asp_model.specs.Shapes.{fault_shape, future_shape}
use Rattle.future_table.specs.Values.{values_of}
use Rattle.serve_rules.specs.Labels.{label_text}
use Rattle.step_reads.specs.declared.prospect.Prospect.{Prospect}
use Rattle.step_reads.specs.Prospects as prospects
use Rattle.step_reads.specs.Prospects.{Asks, Awaits, Goes, GoesTo, Still, Stops, comes_to, prospect_shape}
use Rattle.step_activity.specs.declared.actor.Actor.{Actor}
use Rattle.step_parts.specs.declared.outlook.Outlook.TheVariants as outlook
use Rattle.step_activity.specs.Actors.{code_of}
use Rattle.step_activity.specs.Found.{IsFound}
use Rattle.step_activity.specs.Outlook.{IsOutlook}
use Rattle.step_activity.proofs.MatchLemmas.{is_found}
use Rattle.step_activity.proofs.OutlookLemmas.{By, asks, awaits, by_own, comes, goes, goes_to, outlook_at, polls, serve_intent, serve_wanted, still, stops}
use Rattle.step_activity.proofs.PassingLemmas.{passed_before, passed_now}
use Rattle.step_activity.proofs.actor.Actor.at_redex.Goals as goal

pub prospect_from-reading-requires-clause-passed : goal.prospect_from-reading-requires-clause-passed
prospect_from-reading-requires-clause-passed c =
    let x : Actor = c.args.self.now in
    let chases : FutureShape → Chase = chase (values_of c.args.futures.now) in
    let code : c.deref.result.now ≡ code_of x = c.deref.ensures ∙ ap arc_value c.code-code.ensures.code in
    let h = c.requires.passed in
    let a = h.activity in
    passed_before x chases a c.args.redex (c.requires.stands a h.stands.activity) h.stands.activity c.deref.result.now c.store.result.now code c.store.ensures.store c.args.from h.passed

pub returns-in-Goes : goal.returns-in-Goes
returns-in-Goes c =
    let x : Actor = c.args.self.now in
    let values : Values = values_of c.args.futures.now in
    let chases : FutureShape → Chase = chase values in
    let code : c.deref.result.now ≡ code_of x = c.deref.ensures ∙ ap arc_value c.code-code.ensures.code in
    let told = subst (λ (q : Prospect). By values c.args.redex (prospect_shape q) c.deref.result.now c.store.result.now) c.in-Goes.is c.prospect_from-reading.ensures.prospect in
    let by = by_own values c.args.redex Goes c.deref.result.now (code_of x) c.store.result.now x.activity.state.store code c.store.ensures.store told in
    record {
      outlook = λ a rs n h.
          let at = c.requires.stands a h.activity in
          outlook_at x values c.args.redex c.requires.stands Goes c.requires.closed by a rs n h.activity (λ (i : Intent). IsOutlook n i outlook.Steps) (goes rs n a at.contexts at.redex (redex_ready chases a.store at.redex));
      passed = λ a rs h. passed_now x chases a c.args.redex (c.requires.stands a h.activity) h.activity c.deref.result.now c.store.result.now code c.store.ensures.store c.prospect_from-reading.result.passed c.prospect_from-reading.ensures.passed;
      found = λ a rs h. tt;
    }

pub returns-in-GoesTo : goal.returns-in-GoesTo
returns-in-GoesTo c =
    let x : Actor = c.args.self.now in
    let values : Values = values_of c.args.futures.now in
    let chases : FutureShape → Chase = chase values in
    let code : c.deref.result.now ≡ code_of x = c.deref.ensures ∙ ap arc_value c.code-code.ensures.code in
    let told = subst (λ (q : Prospect). By values c.args.redex (prospect_shape q) c.deref.result.now c.store.result.now) c.in-GoesTo.is c.prospect_from-reading.ensures.prospect in
    let by = by_own values c.args.redex (GoesTo c.in-GoesTo.name.now) c.deref.result.now (code_of x) c.store.result.now x.activity.state.store code c.store.ensures.store told in
    record {
      outlook = λ a rs n h.
          let at = c.requires.stands a h.activity in
          outlook_at x values c.args.redex c.requires.stands (GoesTo c.in-GoesTo.name.now) c.requires.closed by a rs n h.activity (λ (i : Intent). IsOutlook n i (outlook.Sends c.in-GoesTo.name)) (goes_to rs n a at.contexts c.in-GoesTo.name at.redex (redex_ready chases a.store at.redex));
      passed = λ a rs h. passed_now x chases a c.args.redex (c.requires.stands a h.activity) h.activity c.deref.result.now c.store.result.now code c.store.ensures.store c.prospect_from-reading.result.passed c.prospect_from-reading.ensures.passed;
      found = λ a rs h. tt;
    }

pub returns-in-Stops : goal.returns-in-Stops
returns-in-Stops c =
    let x : Actor = c.args.self.now in
    let values : Values = values_of c.args.futures.now in
    let chases : FutureShape → Chase = chase values in
    let code : c.deref.result.now ≡ code_of x = c.deref.ensures ∙ ap arc_value c.code-code.ensures.code in
    let told = subst (λ (q : Prospect). By values c.args.redex (prospect_shape q) c.deref.result.now c.store.result.now) c.in-Stops.is c.prospect_from-reading.ensures.prospect in
    let by = by_own values c.args.redex (Stops (fault_shape c.in-Stops.fault)) c.deref.result.now (code_of x) c.store.result.now x.activity.state.store code c.store.ensures.store told in
    record {
      outlook = λ a rs n h.
          let at = c.requires.stands a h.activity in
          outlook_at x values c.args.redex c.requires.stands (Stops (fault_shape c.in-Stops.fault)) c.requires.closed by a rs n h.activity (λ (i : Intent). IsOutlook n i (outlook.Faulted c.in-Stops.fault)) (stops rs n a at.contexts c.in-Stops.fault at.redex (redex_ready chases a.store at.redex));
      passed = λ a rs h. passed_now x chases a c.args.redex (c.requires.stands a h.activity) h.activity c.deref.result.now c.store.result.now code c.store.ensures.store c.prospect_from-reading.result.passed c.prospect_from-reading.ensures.passed;
      found = λ a rs h. tt;
    }

pub returns-in-Awaits : goal.returns-in-Awaits
returns-in-Awaits c =
    let x : Actor = c.args.self.now in
    let values : Values = values_of c.args.futures.now in
    let chases : FutureShape → Chase = chase values in
    let code : c.deref.result.now ≡ code_of x = c.deref.ensures ∙ ap arc_value c.code-code.ensures.code in
    let told = subst (λ (q : Prospect). By values c.args.redex (prospect_shape q) c.deref.result.now c.store.result.now) c.in-Awaits.is c.prospect_from-reading.ensures.prospect in
    let by = by_own values c.args.redex (Awaits (future_shape c.in-Awaits.future.now)) c.deref.result.now (code_of x) c.store.result.now x.activity.state.store code c.store.ensures.store told in
    record {
      outlook = λ a rs n h.
          let at = c.requires.stands a h.activity in
          outlook_at x values c.args.redex c.requires.stands (Awaits (future_shape c.in-Awaits.future.now)) c.requires.closed by a rs n h.activity (λ (i : Intent). IsOutlook n i (outlook.Awaits c.in-Awaits.future)) (awaits rs n a at.contexts c.in-Awaits.future at.redex (redex_ready chases a.store at.redex));
      passed = λ a rs h. passed_now x chases a c.args.redex (c.requires.stands a h.activity) h.activity c.deref.result.now c.store.result.now code c.store.ensures.store c.prospect_from-reading.result.passed c.prospect_from-reading.ensures.passed;
      found = λ a rs h. tt;
    }

pub returns-in-Polls : goal.returns-in-Polls
returns-in-Polls c =
    let x : Actor = c.args.self.now in
    let values : Values = values_of c.args.futures.now in
    let chases : FutureShape → Chase = chase values in
    let code : c.deref.result.now ≡ code_of x = c.deref.ensures ∙ ap arc_value c.code-code.ensures.code in
    let told = subst (λ (q : Prospect). By values c.args.redex (prospect_shape q) c.deref.result.now c.store.result.now) c.in-Polls.is c.prospect_from-reading.ensures.prospect in
    let by = by_own values c.args.redex prospects.Polls c.deref.result.now (code_of x) c.store.result.now x.activity.state.store code c.store.ensures.store told in
    record {
      outlook = λ a rs n h.
          let at = c.requires.stands a h.activity in
          outlook_at x values c.args.redex c.requires.stands prospects.Polls c.requires.closed by a rs n h.activity (λ (i : Intent). IsOutlook n i outlook.Polls) (polls rs n a at.contexts at.redex (redex_ready chases a.store at.redex));
      passed = λ a rs h. passed_now x chases a c.args.redex (c.requires.stands a h.activity) h.activity c.deref.result.now c.store.result.now code c.store.ensures.store c.prospect_from-reading.result.passed c.prospect_from-reading.ensures.passed;
      found = λ a rs h. tt;
    }

pub returns-in-Still : goal.returns-in-Still
returns-in-Still c =
    let x : Actor = c.args.self.now in
    let values : Values = values_of c.args.futures.now in
    let chases : FutureShape → Chase = chase values in
    let code : c.deref.result.now ≡ code_of x = c.deref.ensures ∙ ap arc_value c.code-code.ensures.code in
    let told = subst (λ (q : Prospect). By values c.args.redex (prospect_shape q) c.deref.result.now c.store.result.now) c.in-Still.is c.prospect_from-reading.ensures.prospect in
    let by = by_own values c.args.redex Still c.deref.result.now (code_of x) c.store.result.now x.activity.state.store code c.store.ensures.store told in
    record {
      outlook = λ a rs n h.
          let at = c.requires.stands a h.activity in
          outlook_at x values c.args.redex c.requires.stands Still c.requires.closed by a rs n h.activity (λ (i : Intent). IsOutlook n i outlook.Done) (still rs n a at.contexts at.redex (redex_ready chases a.store at.redex));
      passed = λ a rs h. passed_now x chases a c.args.redex (c.requires.stands a h.activity) h.activity c.deref.result.now c.store.result.now code c.store.ensures.store c.prospect_from-reading.result.passed c.prospect_from-reading.ensures.passed;
      found = λ a rs h. tt;
    }

pub returns-in_ok-found-in-Asks : goal.returns-in_ok-found-in-Asks
returns-in_ok-found-in-Asks c =
    let x : Actor = c.args.self.now in
    let values : Values = values_of c.args.futures.now in
    let chases : FutureShape → Chase = chase values in
    let code : c.deref.result.now ≡ code_of x = c.deref.ensures ∙ ap arc_value c.code-code.ensures.code in
    let told = subst (λ (q : Prospect). By values c.args.redex (prospect_shape q) c.deref.result.now c.store.result.now) c.in-Asks.is c.prospect_from-reading.ensures.prospect in
    let by = by_own values c.args.redex Asks c.deref.result.now (code_of x) c.store.result.now x.activity.state.store code c.store.ensures.store told in
    let found : Option ℕ = c.in_ok-found-in-Asks.found in
    let written = map label_text c.served_labels.result.now in
    record {
      outlook = λ a rs n h.
          let at = c.requires.stands a h.activity in
          let Q : Intent → Type 0 = λ i. IsOutlook n i c.at_serve.result in
          let wanted = labels_served written (cell a.store a.active) in
          let served : Q (serves a at.contexts (oldest_match wanted a.served 0 rs)) = c.at_serve.ensures.outlook n a at.contexts (oldest_match wanted a.served 0 rs) (c.in_ok-found-in-Asks.ensures.oldest a rs h) in
          outlook_at x values c.args.redex c.requires.stands Asks c.requires.closed by a rs n h.activity Q
          (λ e. subst Q (sym (serve_intent x values c.args.redex c.requires.stands a rs n h.activity written c.served_labels.ensures.labels (asks at.redex (redex_ready chases a.store at.redex) e))) served);
      passed = λ a rs h. passed_now x chases a c.args.redex (c.requires.stands a h.activity) h.activity c.deref.result.now c.store.result.now code c.store.ensures.store c.prospect_from-reading.result.passed c.prospect_from-reading.ensures.passed;
      found = λ a rs h.
          let at = c.requires.stands a h.activity in
          let e : Asks ≡ comes_to (redex_ready chases a.store at.redex) at.redex = comes x values c.args.redex c.requires.stands Asks c.requires.closed by a h.activity in
          let wanted = serve_wanted x values c.args.redex c.requires.stands a h.activity written c.served_labels.ensures.labels (asks at.redex (redex_ready chases a.store at.redex) e) in
          subst (λ (ls : List Text). IsFound ls a rs found) (sym wanted) (is_found (labels_served written (cell a.store a.active)) a rs found (c.in_ok-found-in-Asks.ensures.oldest a rs h));
    }
