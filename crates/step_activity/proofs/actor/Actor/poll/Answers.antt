use Rattle.std.proofs.Common.{◌∙◌, ◌∷◌, [], Bool, is_some, map, refl, ap, subst}
use Rattle.std.proofs.lemmas.List.{map-append}
use Rattle.asp_model.specs.Configuration as model
use Rattle.asp_model.specs.Shapes.{reception_shape}
use Rattle.asp_model.specs.declared.outcome.Reception.TheVariants as reception
use Rattle.activity_step.specs.Activities.{StandsFor}
use Rattle.activity_step.specs.Standings.{polled}
use Rattle.step_activity.specs.declared.actor.Actor.{Actor}
use Rattle.step_activity.proofs.ClearLemmas.{first_clear}
use Rattle.step_activity.proofs.StandLemmas.{queue_to}
use Rattle.step_activity.proofs.actor.Actor.poll.Goals as goal

pub returns-clause-done : goal.returns-clause-done
returns-clause-done c = λ a rs cs r found n h e answer.
    let x : Actor = c.args.self.now in
    let y = c.polled.new.self in
    let z : Actor = record x { activity = y; log = c.push_reception.new.log; clear = 0 } in
    let own : Bool → model.Activity = λ b. polled cs b a in
    let for : StandsFor y (own (is_some found)) = subst (λ (b : Bool). StandsFor y (own b)) answer (c.in_ok-polled.ensures.becomes a cs r h.activity e) in (
      record {
        activity = record { state = for.state; present = for.present; active = for.active; count = for.count };
        sends = h.sends;
        creations = h.creations;
        queue = queue_to x z a.served rs (record { pending = refl; arrived = refl; code = c.in_ok-polled.ensures.code }) h.queue;
        clear = first_clear (own (is_some found));
      },
      (refl, refl, refl, refl),
    )

pub returns-clause-log : goal.returns-clause-log
returns-clause-log c =
    let x : Actor = c.args.self.now in
    ap (map reception_shape) c.in_ok-push_reception.ensures.items ∙ map-append reception_shape x.log.items (reception.Poll ∷ [])
