use Rattle.std.proofs.Common.{◌*◌, ◌^◌, ◌%◌}
use Rattle.core_sets.proofs.MarkLemmas.{begun_tree, small_power}
use Rattle.core_sets.proofs.marks.Marks.empty.Goals as goal

pub returns-clause-tree : goal.returns-clause-tree
returns-clause-tree c = begun_tree _ ((2 * 2 ^ c.args.height) % 18446744073709551616) (c.in_ok-vec.ensures.items_if_clones_equal (λ y e. e)) (small_power c.args.height c.requires.low)
