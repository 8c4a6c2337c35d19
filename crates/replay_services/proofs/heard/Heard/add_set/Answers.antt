use Rattle.std.proofs.Common.{◌∙◌, ◌∷◌, ◌++◌, [], List, map, ap, refl}
use Rattle.std.proofs.lemmas.List.{map-append}
use Rattle.asp_model.specs.Names.{Text}
use Rattle.asp_model.specs.Shapes.{labels_shape}
use Rattle.serve_rules.specs.Wanted.{wanted_labels}
use Rattle.replay_services.specs.Listeners.{heard_shape}
use Rattle.replay_services.proofs.ListenerLemmas.{added}
use Rattle.replay_services.proofs.heard.Heard.add_set.Goals as goal

pub returns-in_ok-push : goal.returns-in_ok-push
returns-in_ok-push c =
    let old = c.args.self.now in
    added (wanted_labels c.args.wanted) (heard_shape old) (heard_shape (record { arrivals = old.arrivals; polled = old.polled; sets = c.push.new.self })) refl refl
    (ap (map labels_shape) c.in_ok-push.ensures.items ∙ map-append labels_shape old.sets.items (c.in_ok-copy.field-0 ∷ [])
    ∙ ap (λ (t : List Text). map labels_shape old.sets.items ++ t ∷ []) c.in_ok-copy.ensures.labels)
