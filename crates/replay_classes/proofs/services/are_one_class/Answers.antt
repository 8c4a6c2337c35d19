use Rattle.std.proofs.Common.{List, map, subst, arith}
use Rattle.asp_model.specs.declared.services.Labels.{Labels}
use Rattle.asp_model.specs.Shapes.{labels_shape}
use Rattle.end_search.specs.Found.{AreAll}
use Rattle.law_classes.specs.Alike.{AreOneClass}
use Rattle.replay_classes.specs.Classes.{class_in}
use Rattle.replay_classes.proofs.SendingLemmas.{take_whole}
use Rattle.replay_classes.proofs.ServiceLemmas.{all_contained}
use Rattle.replay_classes.proofs.services.are_one_class.Goals as goal

pub returns : goal.returns
returns c =
    let sets : List Labels = c.args.sets.now in
    let K = class_in c.args.classes.now in
    record { one = λ labels t h. all_contained (AreOneClass K) (map labels_shape sets) labels (subst (λ (xs : List Labels). AreAll (AreOneClass K) (map labels_shape xs)) (take_whole sets c.loop-set.set-index (λ lt. omega (arith, lt, c.loop-set-test.false))) c.loop-set.invariant) h }
