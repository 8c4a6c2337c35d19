use Rattle.std.proofs.Common.{◌≡◌, ◌++◌, [], ℕ, map, take}
use Rattle.std.specs.Prelude.{cond}
use Rattle.asp_model.specs.Names.{Name, same_name}
use Rattle.asp_model.specs.Shapes.{arrival_shape}
use Rattle.replay_classes.specs.Classes.{class_in}
use Rattle.replay_classes.specs.Sendings.{logs_from}
use Rattle.replay_classes.proofs.ServiceLemmas.{came_all}
use Rattle.replay_classes.proofs.services.add_arrivals.Given as goal

abbrev pub invariant-loop-arrival : goal.invariant-loop-arrival
invariant-loop-arrival l = (q : Name) (κ : ℕ) → logs_from l.sendings.items q κ
    ≡ logs_from l.initial.sendings.items q κ ++ cond (same_name q l.entry.name) (came_all (class_in l.classes) κ (map arrival_shape (take l.arrival-index l.arrival-items))) []
