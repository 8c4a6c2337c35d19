use Rattle.std.proofs.Common.{◌+◌, length}
use Rattle.asp_model.specs.Parcel.{visit_order}
use Rattle.code_table.specs.Shapes.{store_of}
use Rattle.deep_copy.proofs.VisitLemmas.{Going, left}
use Rattle.deep_copy.proofs.visiting.visit_order.Given as goal

abbrev pub invariant-loop-place : goal.invariant-loop-place
invariant-loop-place l = Going (store_of l.code l.store.cells) l.stack.items l.seen.keys (visit_order (store_of l.code l.store.cells) l.roots)

abbrev pub decreases-loop-place : goal.decreases-loop-place
decreases-loop-place l = length l.stack.items + left (store_of l.code l.store.cells) (length (store_of l.code l.store.cells)) l.seen.keys
