use Rattle.std.proofs.Common.{◌≡◌, List, ℕ, Option, map, refl, sym, ap, ◌∙◌, subst}
use Rattle.std.specs.Arc.{arc_value}
use Rattle.std.specs.Option.{option_map}
use Rattle.asp_model.specs.Configuration as model
use Rattle.asp_model.specs.Configuration.{RequestShape, label_of}
use Rattle.asp_model.specs.Intent.{Numbered, serves}
use Rattle.law_steps.specs.Closed.{IsClosedParcel}
use Rattle.law_chases.proofs.FutureLemmas.{some_is}
use Rattle.code_table.specs.declared.code.Node.{Node}
use Rattle.code_table.specs.Shapes.{parcel_shape}
use Rattle.request_queue.specs.declared.request.Request.{Request}
use Rattle.request_queue.specs.Pending.{but}
use Rattle.request_queue.specs.Requests.{request_shape}
use Rattle.activity_step.specs.Activities.{StandsFor}
use Rattle.activity_step.specs.Standings.{serving}
use Rattle.step_activity.specs.declared.actor.Actor.{Actor}
use Rattle.step_activity.specs.declared.act.Given.TheVariants as given
use Rattle.step_activity.specs.Actors.{IsClosedFor, code_of}
use Rattle.step_activity.specs.Effects.{IsDoneBy}
use Rattle.step_activity.proofs.ClearLemmas.{first_clear}
use Rattle.step_activity.proofs.MatchLemmas.{Entries, IsMatched, all_kept, entries_served, matched, numbered, taken_is}
use Rattle.step_activity.proofs.StandLemmas.{AreCoded, waiting_closed}
use Rattle.step_activity.proofs.actor.Actor.serve.Goals as goal

pub serves-requires-clause-closed : goal.serves-requires-clause-closed
serves-requires-clause-closed c =
    let x : Actor = c.args.self.now in
    taken_is (λ (r : Request). IsClosedParcel (parcel_shape r.arguments)) c.args.number x.queue.pending c.take-label.result (waiting_closed x c.requires.closed) c.take-label.ensures.taken

pub serves-requires-clause-code : goal.serves-requires-clause-code
serves-requires-clause-code c =
    let x : Actor = c.args.self.now in
    let h : IsClosedFor x = c.requires.closed in
    taken_is (λ (r : Request). arc_value r.arguments.code ≡ code_of x) c.args.number x.queue.pending c.take-label.result h.stands.queue.coded c.take-label.ensures.taken

pub returns-clause-done : goal.returns-clause-done
returns-clause-done c = λ a rs cs r labels name h e found.
    let x : Actor = c.args.self.now in
    let n : ℕ = c.args.number in
    let es : Entries = x.queue.pending in
    let y = c.serves.new.self in
    let request : Request = c.take-label.result in
    let q = h.queue in
    let z : Actor = record x { activity = y; queue = c.take-label.new.self; clear = 0 } in
    let m : IsMatched es labels a.served rs n = matched es labels a.served rs n q.pending found in
    let is : request_shape request ≡ m.request = some_is (sym (ap (λ (o : Option Request). option_map request_shape o) c.take-label.ensures.taken) ∙ m.there) in
    let by : RequestShape → model.Activity = λ s. serving cs s.label s.future s.arguments a in
    let for : StandsFor y (by m.request) = subst (λ (s : RequestShape). StandsFor y (by s)) is (c.in_ok-serves.ensures.serves a cs r h.activity e) in
    let code = c.in_ok-serves.ensures.code in
    let others : c.take-label.new.self.pending ≡ but n es = c.take-label.ensures.others in
    subst (λ (o : Option Numbered). IsDoneBy name (serves a cs o) rs z given.Nothing) (sym m.match) (
      record {
        activity = record { state = for.state; present = for.present; active = for.active; count = for.count };
        sends = h.sends;
        creations = h.creations;
        queue = record {
          pending = ap (map numbered) others ∙ entries_served es n a.served rs q.pending;
          arrived = c.take-label.ensures.arrived ∙ q.arrived;
          below = (m.below, q.below);
          coded = subst (λ (k : List Node). AreCoded k c.take-label.new.self.pending) (sym code) (subst (AreCoded (code_of x)) (sym others) (all_kept _ _ es q.coded));
        };
        clear = first_clear (by m.request);
      },
      (refl, refl, refl, refl),
    )
