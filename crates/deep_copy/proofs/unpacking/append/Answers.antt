use Rattle.std.proofs.Common.{◌≤◌, ◌++◌, ◌∙◌, drop, length, map, sym, ap, subst}
use Rattle.code_table.specs.Cells.{CodedStore, moved_coded}
use Rattle.code_table.specs.Moves.{shift_of}
use Rattle.deep_copy.proofs.unpacking.append.Goals as goal

pub attach-requires : goal.attach-requires
attach-requires c = record {
  within = subst (λ (s : CodedStore). c.args.from ≤ length s) (sym c.in-Some.ensures.cells) c.requires.within;
  plain = c.in-Some.ensures.plain;
}

pub returns-in_ok-attach-in-Some-clause-cells : goal.returns-in_ok-attach-in-Some-clause-cells
returns-in_ok-attach-in-Some-clause-cells c =
    c.in_ok-attach-in-Some.ensures.cells ∙ ap (λ (s : CodedStore). c.args.store.now.cells ++ map (moved_coded (shift_of c.args.shift)) (drop c.args.from s)) c.in-Some.ensures.cells
