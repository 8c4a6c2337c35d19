use Rattle.std.proofs.Common.{ℕ, Option, alloc_error, ap, sym, subst, ◌∙◌}
use Rattle.std.specs.Option.{option_map}
use Rattle.std.proofs.lemmas.Bool.{true≢false}
use Rattle.asp_model.specs.Shapes.{delivery_shape}
use Rattle.asp_core.specs.Calls.{owed_next}
use Rattle.asp_core.specs.Cores.{IsHome, IsRun, history_of}
use Rattle.asp_core.specs.Plans.{StayByPlan}
use Rattle.core_state.specs.Lending.{IsNextReady}
use Rattle.asp_core.specs.Chosen.{StaysChosen}
use Rattle.asp_core.specs.Stopping.{StaysStopped}
use Rattle.asp_core.proofs.OutAfterLemmas.{comes_delivered, home_still}
use Rattle.asp_core.proofs.OverLemmas.{owed_may, owed_run}
use Rattle.asp_core.proofs.finishing.advance.Goals as goal

pub deliver-requires-clause-may : goal.deliver-requires-clause-may
deliver-requires-clause-may g c = owed_may c.args.core.now c.next_owed.new.self c.in_ok-delivery.field-0 c.in-Some.delivery c.in-Some.is c.in_ok-delivery.ensures.same c.in_ok-delivery.ensures.may

pub returns-in-Some-clause-by_plan : goal.returns-in-Some-clause-by_plan
returns-in-Some-clause-by_plan g c =
    subst (λ q. StayByPlan g.P.UpdatePolicy.answer g.P.UpdatePolicy.asked q c.deliver.new.self.edges) (ap (λ x. x.edges) c.in_ok-delivery.ensures.same) c.in_ok-deliver.ensures.by_plan

pub returns-in_ok-work-in-Some-next_ready-clause-by_plan : goal.returns-in_ok-work-in-Some-next_ready-clause-by_plan
returns-in_ok-work-in-Some-next_ready-clause-by_plan g c =
    subst (λ q. StayByPlan g.P.UpdatePolicy.answer g.P.UpdatePolicy.asked q c.work.new.core.edges) (ap (λ x. x.edges) c.in_ok-delivery.ensures.same) c.in_ok-work-in-Some-next_ready.ensures.by_plan

pub returns-in-None-clause-by_plan : goal.returns-in-None-clause-by_plan
returns-in-None-clause-by_plan g c =
    subst (λ q. StayByPlan g.P.UpdatePolicy.answer g.P.UpdatePolicy.asked q c.next_owed.new.self.edges) (ap (λ x. x.edges) c.in_ok-delivery.ensures.same) (λ plan policies is. is)

pub returns-in-Some-clause-home : goal.returns-in-Some-clause-home
returns-in-Some-clause-home g c =
    let owed = c.in_ok-delivery.ensures in
    let f = owed_run c.args.core.now c.requires.kept c.in_ok-delivery.field-0 alloc_error owed.spent in
    let run = subst (λ x. IsRun x f.0) (sym owed.same) f.1 in
    home_still c.next_owed.new.self c.deliver.new.self (comes_delivered c.next_owed.new.self c.deliver.new.self f.0 _ run (c.in_ok-deliver.ensures.delivered f.0 run).entered)
    (subst IsHome (sym owed.same) c.requires.home)

pub returns-in-Some-clause-still : goal.returns-in-Some-clause-still
returns-in-Some-clause-still g c = λ more. absurd (true≢false more)

pub work-requires-clause-ready : goal.work-requires-clause-ready
work-requires-clause-ready g c =
    let owed = c.in_ok-delivery.ensures in
    let f = owed_run c.args.core.now c.requires.kept c.in_ok-delivery.field-0 alloc_error owed.spent in
    let run = subst (λ x. IsRun x f.0) (sym owed.same) f.1 in
    (f.0, run, (subst (λ (o : Option ℕ). IsNextReady f.0 o) c.in-Some-next_ready.is (c.next_ready.ensures.next f.0 run)).0)

pub work-requires-clause-home : goal.work-requires-clause-home
work-requires-clause-home g c = subst IsHome (sym c.in_ok-delivery.ensures.same) c.requires.home

pub returns-in_ok-work-in-Some-next_ready-clause-still : goal.returns-in_ok-work-in-Some-next_ready-clause-still
returns-in_ok-work-in-Some-next_ready-clause-still g c = λ more. absurd (true≢false more)

pub returns-in-None-clause-home : goal.returns-in-None-clause-home
returns-in-None-clause-home g c = subst IsHome (sym c.in_ok-delivery.ensures.same) c.requires.home

pub returns-in-None-clause-still : goal.returns-in-None-clause-still
returns-in-None-clause-still g c = λ more.
    let owed = c.in_ok-delivery.ensures in
    let f = owed_run c.args.core.now c.requires.kept c.in_ok-delivery.field-0 alloc_error owed.spent in
    let run = subst (λ x. IsRun x f.0) (sym owed.same) f.1 in record {
      run = f.0;
      is = run;
      owed = λ s is.
          ap (λ x. owed_next x s) owed.same ∙ sym (owed.next s (subst (λ x. IsRun x s) owed.same is)) ∙ ap (option_map delivery_shape) c.in_default.is;
      ready = λ s is. subst (λ (o : Option ℕ). IsNextReady s o) c.in-None.is (c.next_ready.ensures.next s is);
    }

-- Along which edges, and that each lease had stopped

pub returns-in-Some-clause-chosen : goal.returns-in-Some-clause-chosen
returns-in-Some-clause-chosen g c =
    let owed = c.in_ok-delivery.ensures in
    let f = owed_run c.args.core.now c.requires.kept c.in_ok-delivery.field-0 alloc_error owed.spent in
    let run = subst (λ x. IsRun x f.0) (sym owed.same) f.1 in
    let next = ap (λ x. owed_next x f.0) owed.same ∙ sym (owed.next f.0 f.1) ∙ ap (option_map delivery_shape) c.in-Some.is in
    subst (λ x. StaysChosen x c.deliver.new.self) owed.same (c.in_ok-deliver.ensures.chosen f.0 run next)

pub returns-in-Some-clause-stopped : goal.returns-in-Some-clause-stopped
returns-in-Some-clause-stopped g c =
    subst (λ x. StaysStopped (history_of x) (history_of c.deliver.new.self)) c.in_ok-delivery.ensures.same c.in_ok-deliver.ensures.stopped

pub returns-in_ok-work-in-Some-next_ready-clause-chosen : goal.returns-in_ok-work-in-Some-next_ready-clause-chosen
returns-in_ok-work-in-Some-next_ready-clause-chosen g c =
    subst (λ x. StaysChosen x c.work.new.core) c.in_ok-delivery.ensures.same c.in_ok-work-in-Some-next_ready.ensures.chosen

pub returns-in_ok-work-in-Some-next_ready-clause-stopped : goal.returns-in_ok-work-in-Some-next_ready-clause-stopped
returns-in_ok-work-in-Some-next_ready-clause-stopped g c =
    subst (λ x. StaysStopped (history_of x) (history_of c.work.new.core)) c.in_ok-delivery.ensures.same c.in_ok-work-in-Some-next_ready.ensures.stopped

pub returns-in-None-clause-chosen : goal.returns-in-None-clause-chosen
returns-in-None-clause-chosen g c = subst (λ x. StaysChosen x c.next_owed.new.self) c.in_ok-delivery.ensures.same (λ is. is)

pub returns-in-None-clause-stopped : goal.returns-in-None-clause-stopped
returns-in-None-clause-stopped g c = subst (λ x. StaysStopped (history_of x) (history_of c.next_owed.new.self)) c.in_ok-delivery.ensures.same (λ is. is)
