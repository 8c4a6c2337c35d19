use Rattle.std.proofs.Common.{◌≡◌, ◌∷◌, [], suc, refl, sym, ap, ◌∙◌, subst}
use Rattle.asp_model.specs.Configuration.{begun}
use Rattle.asp_model.specs.Intent.{start_term}
use Rattle.asp_model.specs.Names.{Name, created_name}
use Rattle.asp_model.specs.Parcel.{ParcelShape, parcel_of, unpack}
use Rattle.asp_model.specs.Store.{Reference}
use Rattle.activity_step.specs.Activities.{StandsFor, with_new_cell}
use Rattle.code_table.specs.Shapes.{parcel_shape}
use Rattle.step_activity.specs.declared.actor.Actor.{Actor}
use Rattle.step_activity.specs.Actors.{Stands, log_in}
use Rattle.step_activity.specs.Asking.{service_text}
use Rattle.step_activity.proofs.ClearLemmas.{first_clear}
use Rattle.step_activity.proofs.StandLemmas.{queue_to}
use Rattle.step_activity.proofs.actor.Actor.create.Goals as goal

pub returns-clause-done : goal.returns-clause-done
returns-clause-done c = λ a rs cs r h e.
    let x : Actor = c.args.self.now in
    let y = c.created-2.new.self in
    let n = c.args.name.now in
    let z : Actor = record x { activity = y; creations = c.in_ok-number.number; clear = 0 } in
    let counted : c.in_ok-number.number ≡ suc a.creations = c.in_ok-number.ensures ∙ ap suc h.creations in
    let name : c.in_ok-created.created ≡ created_name n (suc a.creations) = c.in_ok-created.ensures.name ∙ ap (created_name n) counted in
    let for : StandsFor y (with_new_cell cs (Reference (created_name n (suc a.creations))) a) = subst (λ (m : Name). StandsFor y (with_new_cell cs (Reference m) a)) (c.in_ok-copy.ensures.name ∙ name) (c.in_ok-created-2.ensures.becomes a cs r h.activity e) in
    let begins = subst (λ (p : ParcelShape). Stands (c.begin.result) (begun (start_term (service_text c.args.service) 0) (unpack [] p)) []) (c.in_ok-parcel.ensures.parcel a h.activity) (c.begin.ensures.stands (begun (start_term (service_text c.args.service) 0) (unpack [] (parcel_shape c.in_ok-parcel.parcel))) c.in-Ok.ensures.stands refl refl refl) in
    let empty = ap log_in c.in-Ok-new.ensures.ok ∙ c.begin.ensures.log in
    let boxed = subst (λ (x : Actor). Stands x (begun (start_term (service_text c.args.service) 0) (unpack [] (parcel_of a.store (c.args.object ∷ [])))) []) (sym c.in-Ok-new.ensures.ok) begins in (
      record {
        activity = record { state = for.state; present = for.present; active = for.active; count = for.count };
        sends = h.sends;
        creations = counted;
        queue = queue_to x z a.served rs (record { pending = refl; arrived = refl; code = c.in_ok-created-2.ensures.code }) h.queue;
        clear = first_clear (with_new_cell cs (Reference (created_name n (suc a.creations))) a);
      },
      (refl, (sym name, boxed, empty), refl, refl),
    )
