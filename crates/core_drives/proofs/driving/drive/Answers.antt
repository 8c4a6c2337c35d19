use Rattle.std.proofs.Common.{map}
use Rattle.asp_model.specs.Shapes.{tree_of}
use Rattle.core_drives.specs.declared.drivers.Driver.{Driver}
use Rattle.core_drives.specs.Steps.{nobody, step_shape}
use Rattle.core_drives.proofs.BeginLemmas.{driven_by, driving_begun, nobody_ran}
use Rattle.core_drives.proofs.driving.drive.Goals as goal

pub take-requires : goal.take-requires
take-requires g c =
    let x : Driver _ = record { core = c.in_ok-core.core; leases = c.new-leases.result } in
    record { driving = driving_begun (tree_of c.args.program.now.program.root) c.args.budget x c.in_ok-core.ensures.begun c.new-leases.ensures.empty }

pub returns-in-Ok-clause-driven : goal.returns-in-Ok-clause-driven
returns-in-Ok-clause-driven g c =
    let x : Driver _ = record { core = c.in_ok-core.core; leases = c.new-leases.result } in
    driven_by (tree_of c.args.program.now.program.root) c.args.budget (map step_shape c.args.steps.now) x c.take.new.self c.in_ok-core.ensures.history (c.in-Ok.ensures.leads nobody (nobody_ran (tree_of c.args.program.now.program.root) c.args.budget x)) c.in-Ok.ensures.driving

pub returns-in-Ok-clause-by_plan : goal.returns-in-Ok-clause-by_plan
returns-in-Ok-clause-by_plan g c = c.in-Ok.ensures.by_plan c.args.plan c.args.policies c.in_ok-core.ensures.by_plan
