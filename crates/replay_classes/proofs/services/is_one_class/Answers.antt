use Rattle.std.proofs.Common.{◌≡◌, List, map, subst, arith}
use Rattle.asp_model.specs.Names.{Text}
use Rattle.asp_model.specs.declared.word.Label.{Label}
use Rattle.end_search.specs.Found.{AreAll}
use Rattle.serve_rules.specs.Labels.{label_text}
use Rattle.replay_classes.specs.Classes.{class_in}
use Rattle.replay_classes.proofs.SendingLemmas.{take_whole}
use Rattle.replay_classes.proofs.ServiceLemmas.{one_class_by}
use Rattle.replay_classes.proofs.services.is_one_class.Goals as goal

pub returns : goal.returns
returns c =
    let ls : List Label = c.args.labels.now in
    let K = class_in c.args.classes.now in
    record { one = λ t. one_class_by K c.class_of-class.result (map label_text ls) (subst (λ (xs : List Label). AreAll (λ (x : Text). K x ≡ c.class_of-class.result) (map label_text xs)) (take_whole ls c.loop-label.label-index (λ lt. omega (arith, lt, c.loop-label-test.false))) c.loop-label.invariant) }
