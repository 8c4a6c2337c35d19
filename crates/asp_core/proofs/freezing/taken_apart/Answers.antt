use Rattle.std.proofs.Common.{refl}
use Rattle.std.specs.Arc.{arc_value}
use Rattle.asp_core.proofs.FrozenLemmas.{apart_still, stands_in}
use Rattle.asp_core.proofs.freezing.taken_apart.Goals as goal

pub settled-activities-requires-clause-apart : goal.settled-activities-requires-clause-apart
settled-activities-requires-clause-apart c = let r = c.requires.still in apart_still r.0 r.1 c.args.state r.2 r.3

pub returns-in-Ok : goal.returns-in-Ok
returns-in-Ok c = record {
  frozen = λ h s still homes.
      stands_in h (arc_value c.args.code) c.args.state s still (record { code = c.args.code; homes = c.args.homes; futures = c.args.state.futures; activities = c.in-Ok.activities }) refl refl homes c.in-Ok.ensures.settled;
}
