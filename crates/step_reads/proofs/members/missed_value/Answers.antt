use Rattle.std.proofs.Common.{sym, ap, ◌∙◌, subst}
use Rattle.asp_model.specs.Names.{FutureShape}
use Rattle.asp_model.specs.Chase.{Chase, chase}
use Rattle.asp_model.specs.Shapes.{future_shape}
use Rattle.code_table.specs.Shapes.{parcel_shape}
use Rattle.future_table.specs.Values.{values_of}
use Rattle.step_reads.specs.Passed.{value_passed}
use Rattle.step_reads.specs.Sights.{value_missed}
use Rattle.step_reads.proofs.ChaseLemmas.{value_held, value_is}
use Rattle.step_reads.proofs.members.missed_value.Goals as goal

pub missed_in-requires : goal.missed_in-requires
missed_in-requires c =
    let values = values_of c.args.futures.now in
    let chases : FutureShape → Chase = chase values in
    let is = value_is values (future_shape c.args.future.now) (future_shape c.in-Value.name.now) c.in-Value.ensures.chase (parcel_shape c.in-Some.value.now) c.in-Some.ensures.value in
    record { passed = subst (λ (x : Chase). value_passed chases x c.args.from) is c.requires.passed }

pub returns-in-Some : goal.returns-in-Some
returns-in-Some c =
    let values = values_of c.args.futures.now in
    let chases : FutureShape → Chase = chase values in
    let is = value_is values (future_shape c.args.future.now) (future_shape c.in-Value.name.now) c.in-Value.ensures.chase (parcel_shape c.in-Some.value.now) c.in-Some.ensures.value in
    record {
      missed = c.missed_in.ensures.missed ∙ sym (ap (value_missed chases) is);
      passed = subst (λ (x : Chase). value_passed chases x c.missed_in.result.passed) (sym is) c.missed_in.ensures.passed;
    }

pub returns-in-None : goal.returns-in-None
returns-in-None c = value_held (values_of c.args.futures.now) (future_shape c.args.future.now) (future_shape c.in-Value.name.now) c.in-Value.ensures.chase c.in-None.ensures.value
