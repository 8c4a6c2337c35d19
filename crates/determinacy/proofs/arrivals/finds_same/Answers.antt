use Rattle.std.proofs.Common.{map}
use Rattle.determinacy.specs.Walks.{label_text}
use Rattle.determinacy.proofs.WalkLemmas.{one_left}
use Rattle.determinacy.proofs.arrivals.finds_same.Goals as goal

pub returns-in-Some-next_among : goal.returns-in-Some-next_among
returns-in-Some-next_among c = one_left (map label_text c.args.labels.now) c.args.arrivals.now c.args.others.now c.loop-place.place c.loop-place.from c.in-Some-next_among.field-0 _ c.loop-place-test.false c.in-Some-next_among.ensures.found c.loop-place.invariant.1
