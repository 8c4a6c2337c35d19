use Rattle.std.proofs.Common.{◌∙◌, arith}
use Rattle.object_store.proofs.PartLemmas.{cell_there, part_begun}
use Rattle.object_store.proofs.parts.view_in.Goals as goal

pub index-requires : goal.index-requires
index-requires c = omega (arith, c.part_at-number.ensures.part.within, c.args.parts.now.ok.0)

pub index-requires-2 : goal.index-requires-2
index-requires-2 c = omega (arith, c.part_at-number.ensures.part.within, c.args.parts.now.ok.0)

pub overflow_sub-at : goal.overflow_sub-at
overflow_sub-at c = part_begun c.args.parts.now.items c.args.at c.part_at-number.result c.index.result.now c.part_at-number.ensures.part c.index.ensures

pub view-requires : goal.view-requires
view-requires c =
    let there = cell_there c.args.parts.now.items c.args.at c.part_at-number.result c.index.result.now c.index-2.result.now c.requires.placed c.requires.within c.part_at-number.ensures.part c.index.ensures c.index-2.ensures in
    record { within = there.0 }

pub returns : goal.returns
returns c =
    let there = cell_there c.args.parts.now.items c.args.at c.part_at-number.result c.index.result.now c.index-2.result.now c.requires.placed c.requires.within c.part_at-number.ensures.part c.index.ensures c.index-2.ensures in
    record { view = c.view.ensures.view ∙ there.1 }
