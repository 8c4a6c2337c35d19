use Rattle.std.proofs.Common.{refl}
use Rattle.trace_text.proofs.laws.refused_traces.Goals as goal

pub returns : goal.returns
returns c = record {
  refused = record {
    empty = refl;
    title = refl;
    no_end = refl;
    two_ends = refl;
    no_feed = refl;
    more = refl;
    return = refl;
    zero = refl;
    number = refl;
    place = refl;
    turned = refl;
    spaces = refl;
  };
}
