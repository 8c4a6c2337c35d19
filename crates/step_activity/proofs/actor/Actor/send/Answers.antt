use Rattle.std.proofs.Common.{◌≡◌, suc, Some, refl, sym, ap, ◌∙◌, subst}
use Rattle.asp_model.specs.Configuration as model
use Rattle.asp_model.specs.Configuration.{From, RequestShape}
use Rattle.asp_model.specs.Names.{FutureShape}
use Rattle.asp_model.specs.Shapes.{future_shape}
use Rattle.asp_model.specs.Store.{Future}
use Rattle.code_table.specs.declared.future.Future.{Future as Held}
use Rattle.code_table.specs.Cells.{held_future}
use Rattle.activity_step.specs.Activities.{StandsFor, with_new_cell}
use Rattle.step_activity.specs.declared.actor.Actor.{Actor}
use Rattle.step_activity.proofs.ClearLemmas.{first_clear}
use Rattle.step_activity.proofs.StandLemmas.{queue_to}
use Rattle.step_activity.proofs.actor.Actor.send.Goals as goal

pub returns-clause-done : goal.returns-clause-done
returns-clause-done c = λ a rs cs r places h e is.
    let x : Actor = c.args.self.now in
    let y = c.sent.new.self in
    let n = c.args.name.now in
    let z : Actor = record x { activity = y; sends = c.in_ok-number.number; clear = 0 } in
    let counted : c.in_ok-number.number ≡ suc a.sends = c.in_ok-number.ensures ∙ ap suc h.sends in
    let named : held_future c.in_ok-future.future ≡ record { by = n; index = suc a.sends } = c.in_ok-future.ensures.name ∙ (λ i. record { by = n; index = counted i }) in
    let copied : held_future c.in_ok-answer.answer ≡ record { by = n; index = suc a.sends } = ap (λ (f : Held). future_shape f.name) c.in_ok-answer.ensures ∙ named in
    let b : model.Activity = with_new_cell cs (Future (record { by = n; index = suc a.sends })) a in
    let for : StandsFor y b = subst (λ (f : FutureShape). StandsFor y (with_new_cell cs (Future f) a)) named (c.in_ok-sent.ensures.becomes a cs r h.activity e) in (
      record {
        activity = record { state = for.state; present = for.present; active = for.active; count = for.count };
        sends = counted;
        creations = h.creations;
        queue = queue_to x z a.served rs (record { pending = refl; arrived = refl; code = c.in_ok-sent.ensures.code }) h.queue;
        clear = first_clear b;
      },
      ((λ i. Some (c.args.to, record { label = c.args.label.text; sender = sym c.in_ok-sender.ensures.name i; future = sym copied i; arguments = sym is i })), refl, refl, (λ i. Some (c.args.to, From (sym c.in_ok-sender.ensures.name i)))),
    )
