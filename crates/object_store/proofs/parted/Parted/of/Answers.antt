use Rattle.std.proofs.Common.{◌++◌, List, length, sym, ap, subst, arith}
use Rattle.object_store.specs.declared.parts.Part.{Part}
use Rattle.object_store.specs.Parts.{ArePlaced, parts_cells}
use Rattle.object_store.proofs.parted.Parted.of.Goals as goal

pub invariant_of-result : goal.invariant_of-result
invariant_of-result c = record {
  placed = subst (ArePlaced 0) (sym c.new.ensures.items) tt;
  first = sym (ap (λ (ps : List Part). length (parts_cells ps)) c.new.ensures.items);
  bound = omega arith;
}

pub returns-clause-items : goal.returns-clause-items
returns-clause-items c = ap (λ (ps : List Part). parts_cells ps ++ c.args.columns.items) c.new.ensures.items
