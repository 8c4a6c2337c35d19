use Rattle.std.proofs.Common.{◌∙◌, sym}
use Rattle.asp_model.specs.History.{Delivered}
use Rattle.asp_model.specs.Shapes.{delivery_shape}
use Rattle.code_compiler.proofs.NodeLemmas.{then_ok}
use Rattle.asp_core.specs.Calls.{HasGoneOn}
use Rattle.asp_core.specs.Cores.{history_of}
use Rattle.core_drives.specs.Driving.{HaveRun, IsDriving}
use Rattle.core_drives.specs.Steps.{Delivers, IsStepped, ran_after}
use Rattle.core_drives.proofs.DriveLemmas.{delivery_entered, delivery_left, driving_on}
use Rattle.core_drives.proofs.RunLemmas.{ran_received}
use Rattle.core_drives.proofs.drivers.Driver.deliver.Goals as goal

pub may_deliver-requires : goal.may_deliver-requires
may_deliver-requires g c = record { kept = λ fresh. (c.requires.driving.run, c.requires.driving.is) }

pub deliver-requires : goal.deliver-requires
deliver-requires g c = record {
  kept = λ fresh. (c.requires.driving.run, c.requires.driving.is);
  may = λ s is. sym (c.may_deliver.ensures.may s is) ∙ c.if-may_deliver.true;
}

pub returns-then-may_deliver-clause-driving : goal.returns-then-may_deliver-clause-driving
returns-then-may_deliver-clause-driving g c =
    let x = c.args.self.now in
    let y = c.deliver.new.self in
    let d = c.requires.driving in
    let e = delivery_shape c.args.delivery.now in
    then_ok c.deliver.result (HasGoneOn x.core (Delivered e) y) (IsDriving (record x { core = y })) (c.deliver.ensures.delivered d.run d.is) (driving_on x d y e c.deliver.ensures.code)

pub returns-then-may_deliver-clause-stepped : goal.returns-then-may_deliver-clause-stepped
returns-then-may_deliver-clause-stepped g c = λ ran.
    let x = c.args.self.now in
    let y = c.deliver.new.self in
    let d = c.requires.driving in
    let e = delivery_shape c.args.delivery.now in
    then_ok c.deliver.result (HasGoneOn x.core (Delivered e) y) (IsStepped (Delivers e) ran (history_of x.core) (history_of y)) (c.deliver.ensures.delivered d.run d.is)
    (λ on. delivery_entered x.core y d.run e d.is (sym (c.may_deliver.ensures.may d.run d.is) ∙ c.if-may_deliver.true) on.entered ran)

pub returns-else-may_deliver-clause-stepped : goal.returns-else-may_deliver-clause-stepped
returns-else-may_deliver-clause-stepped g c = λ ran.
    let x = c.args.self.now in
    let d = c.requires.driving in
    delivery_left x.core d.run (delivery_shape c.args.delivery.now) d.is (sym (c.may_deliver.ensures.may d.run d.is) ∙ c.if-may_deliver.false) ran

pub returns-else-may_deliver-clause-by_plan : goal.returns-else-may_deliver-clause-by_plan
returns-else-may_deliver-clause-by_plan g c = λ plan policies is. is

pub returns-then-may_deliver-clause-ran : goal.returns-then-may_deliver-clause-ran
returns-then-may_deliver-clause-ran g c = λ ran have.
    let x = c.args.self.now in
    let y = c.deliver.new.self in
    let d = c.requires.driving in
    let e = delivery_shape c.args.delivery.now in
    then_ok c.deliver.result (HasGoneOn x.core (Delivered e) y) (HaveRun (ran_after (Delivers e) ran) (record x { core = y })) (c.deliver.ensures.delivered d.run d.is)
    (λ on. ran_received x d ran have e y on.entered c.deliver.ensures.code)

pub returns-else-may_deliver-clause-ran : goal.returns-else-may_deliver-clause-ran
returns-else-may_deliver-clause-ran g c = λ ran have j l so got. have j l so got
