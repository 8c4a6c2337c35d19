use Rattle.std.proofs.Common.{refl}
use Rattle.step_machine.specs.Standing.{view_of}
use Rattle.step_machine.proofs.RowLemmas.{rests}
use Rattle.activity_step.proofs.state.State.stop_place.Goals as goal

pub returns-then-is_alone : goal.returns-then-is_alone
returns-then-is_alone c = record {
  stop = λ k t vs s ls h at.
      let alone = c.if-is_alone.ensures.alone refl in
      record { splits = rests k (view_of c.args.self.now.machine) c.args.place t vs h.machine at alone; alone = alone; kept = h };
}
