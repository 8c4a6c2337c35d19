use Rattle.std.proofs.Common.{◌∙◌, sym, ap, arith}
use Rattle.path_equal.specs.Searches.{searched}
use Rattle.path_equal.proofs.SearchLemmas.{found_stays, found_there, left_behind}
use Rattle.path_equal.proofs.search.past.Goals as goal

pub returns-in-Found : goal.returns-in-Found
returns-in-Found c = record { searched = sym (ap (searched c.args.places.now) c.in-Found.is ∙ found_stays c.args.places.now c.in-Found.place) }

pub returns-then-left-places : goal.returns-then-left-places
returns-then-left-places c = record { searched = sym (ap (searched c.args.places.now) c.in-Left.is ∙ found_there c.args.places.now c.in-Left.left c.if-left-places.true) }

pub returns-else-left-places : goal.returns-else-left-places
returns-else-left-places c = record { searched = sym (ap (searched c.args.places.now) c.in-Left.is ∙ left_behind c.args.places.now c.in-Left.left (omega (arith, c.if-left-places.false))) }
