use Rattle.std.proofs.Common.{arith}
use Rattle.object_store.proofs.PartLemmas.{cell_there, cells_same, placed_again, set_again, when_false, when_true}
use Rattle.object_store.proofs.parts.set_in.Goals as goal

pub index-requires : goal.index-requires
index-requires c = omega (arith, c.part_at-number.ensures.part.within, c.args.parts.now.ok.0)

pub set_place-requires : goal.set_place-requires
set_place-requires c =
    let there = cell_there c.args.parts.now.items c.args.at c.part_at-number.result c.index.result.now c.index_mut.result.now c.requires.placed c.requires.within c.part_at-number.ensures.part c.index.ensures c.index_mut.ensures.value in
    record { within = there.0 }

pub returns-clause-set : goal.returns-clause-set
returns-clause-set c =
    when_true c.set_place.result
    (set_again c.args.parts.now.items c.args.at c.part_at-number.result c.args.index c.args.to c.index.result.now c.index_mut.result.now c.set_place.new.self c.requires.placed c.requires.within c.part_at-number.ensures.part c.index.ensures c.index_mut.ensures.value)
    c.set_place.ensures.set

pub returns-clause-same : goal.returns-clause-same
returns-clause-same c =
    when_false c.set_place.result
    (cells_same c.args.parts.now.items c.part_at-number.result c.index_mut.result.now c.set_place.new.self c.part_at-number.ensures.part.within c.index_mut.ensures.value)
    c.set_place.ensures.same

pub returns-clause-placed : goal.returns-clause-placed
returns-clause-placed c =
    placed_again c.args.parts.now.items c.part_at-number.result c.index_mut.result.now c.set_place.new.self c.requires.placed c.part_at-number.ensures.part.within c.index_mut.ensures.value c.set_place.ensures.start c.set_place.ensures.size
