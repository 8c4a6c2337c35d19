use Rattle.std.proofs.Common.{◌≡◌, drop, map}
use Rattle.std.specs.List.{list_all}
use Rattle.asp_model.specs.Shapes.{arrival_shape, labels_shape}
use Rattle.law_services.specs.Told.{finds_same}
use Rattle.determinacy.proofs.arrivals.all_find_same.Given as goal

abbrev pub invariant-loop-place : goal.invariant-loop-place
invariant-loop-place l = list_all (finds_same (map arrival_shape l.entry.arrivals.items.items) (map arrival_shape l.others)) (map labels_shape (drop l.place l.entry.sets.items.items))
    ≡ list_all (finds_same (map arrival_shape l.entry.arrivals.items.items) (map arrival_shape l.others)) (map labels_shape l.entry.sets.items.items)
