use Rattle.std.proofs.Common.{◌≡◌, ◌∷◌, ◌++◌, ◌+◌, [], ℕ, length, map, sym, ap, ◌∙◌, subst, arith, length-append}
use Rattle.std.proofs.lemmas.List.{map-append}
use Rattle.asp_model.specs.Configuration.{From}
use Rattle.asp_model.specs.Names.{Name}
use Rattle.asp_model.specs.Shapes.{reception_shape}
use Rattle.asp_model.specs.declared.outcome.Reception.TheVariants as reception
use Rattle.request_queue.specs.Requests.{request_shape}
use Rattle.step_activity.specs.declared.actor.Actor.{Actor}
use Rattle.step_activity.specs.Actors.{code_of}
use Rattle.step_activity.proofs.MatchLemmas.{Entries, all_more, below_one_more, entries_more, numbered}
use Rattle.step_activity.proofs.StandLemmas.{AreCoded}
use Rattle.step_activity.proofs.actor.Actor.receive.Goals as goal

pub returns-clause-stands : goal.returns-clause-stands
returns-clause-stands c = λ a rs h.
    let x : Actor = c.args.self.now in
    let r = c.args.request in
    let q = h.queue in
    let n : ℕ = x.queue.arrived in
    let es : Entries = x.queue.pending in
    let pending : c.push.new.self.pending ≡ es ++ (n, r) ∷ [] = c.in_ok-push.ensures.pending in
    let arrived : c.push.new.self.arrived ≡ n + 1 = c.in_ok-push.ensures.arrived in
    let size : length (rs ++ request_shape r ∷ []) ≡ length rs + 1 = length-append rs (request_shape r ∷ []) in
    record {
      activity = h.activity;
      sends = h.sends;
      creations = h.creations;
      queue = record {
        pending = ap (map numbered) pending ∙ entries_more es n r a.served rs q.pending q.below q.arrived;
        arrived = omega (arith, arrived, q.arrived, size);
        below = below_one_more a.served rs (request_shape r) q.below;
        coded = subst (AreCoded (code_of x)) (sym pending) (all_more _ es (n, r) q.coded c.requires.code);
      };
      clear = h.clear;
    }

pub returns-clause-log : goal.returns-clause-log
returns-clause-log c =
    let x : Actor = c.args.self.now in
    let sender : c.in_ok-sender.sender ≡ c.args.request.sender = c.in_ok-sender.ensures.name in
    ap (map reception_shape) c.in_ok-push_reception.ensures.items ∙ map-append reception_shape x.log.items (reception.From c.in_ok-sender.sender ∷ [])
    ∙ ap (λ (n : Name). map reception_shape x.log.items ++ From n ∷ []) sender
