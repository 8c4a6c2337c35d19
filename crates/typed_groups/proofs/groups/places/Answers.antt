use Rattle.std.proofs.Common.{◌≡◌, ◌∙◌, map, take, ap}
use Rattle.std.proofs.lemmas.List.{take_all}
use Rattle.asp_model.specs.Term.{loc, trees}
use Rattle.typed_groups.proofs.GroupLemmas.{locs_are}
use Rattle.typed_groups.proofs.groups.places.Goals as goal

pub returns : goal.returns
returns c =
    let all : take c.loop-place.place-index c.args.places.now ≡ c.args.places.now = take_all c.loop-place.place-index c.args.places.now c.loop-place-test.false in
    ap trees c.loop-place.invariant ∙ ap (λ ns. trees (map loc ns)) all ∙ locs_are c.args.places.now
