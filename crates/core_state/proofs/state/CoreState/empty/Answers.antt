use Rattle.std.proofs.Common.{refl}
use Rattle.core_state.proofs.state.CoreState.empty.Goals as goal

pub returns : goal.returns
returns c = record {
  empty = record {
    kept = c.new.ensures.kept;
    names = c.new.ensures.names;
    seats = c.new.ensures.seats;
    rests = c.new-2.ensures.rest;
    futures = c.new-3.ensures.values;
    entries = c.new-4.ensures.entries;
    left = refl;
    bursts = refl;
  };
}
