use Rattle.std.proofs.Common.{◌∙◌, refl}
use Rattle.law_chases.proofs.FutureLemmas.{no_some}
use Rattle.core_thaws.proofs.states.empty.Goals as goal

pub returns-in-Ok : goal.returns-in-Ok
returns-in-Ok c = record {
  empty = record {
    kept = c.new-seats.ensures.kept;
    names = c.new-seats.ensures.names;
    seats = c.new-seats.ensures.seats;
    ranked = λ k e b rs at. no_some at;
    rests = λ k le. c.new-ranks.ensures.rest k;
    futures = refl;
    entries = c.reserve.ensures.entries ∙ c.new-journal.ensures.entries;
    left = refl;
    bursts = refl;
    room = c.in-Ok.ensures.room;
  };
}
