use Rattle.std.proofs.Common.{[], ◌∷◌, ◌∙◌, ap, sym, subst}
use Rattle.explain.specs.EventRuns.{all_events}
use Rattle.asp_model.specs.Shapes.{counts_shape, lists_shape, outcome_shape, tree_of}
use Rattle.explain.specs.EventRuns.{IsShown}
use Rattle.explain.specs.EventsHeard.{wish_note}
use Rattle.explain.proofs.HeardLemmas.{same_wish}
use Rattle.explain.proofs.events.events_of.Goals as goal

pub returns-clause-outcome : goal.returns-clause-outcome
returns-clause-outcome c = ap outcome_shape c.into_outcome-outcome.ensures.outcome ∙ c.in_ok-end.ensures.outcome

pub returns-clause-events : goal.returns-clause-events
returns-clause-events c =
    let program = tree_of c.args.program.now.program.root in
    let lists = lists_shape c.args.lists.now in
    let counts = counts_shape c.args.counts.now in
    let l = c.replay_noting.new.notes in
    let told = c.in_ok-end.ensures.told (wish_note c.args.wish ∷ []) c.new-listener.ensures.none in
    let same = same_wish c.args.wish l.page.wish told.2.wish in
    record {
      names = told.0;
      whole = told.1;
      shown = subst (λ w. IsShown w l.page.all (all_events program lists counts told.0) l.page.events.items) (sym same)
          (record { events = told.2.page.events; all = told.2.page.all });
    }
