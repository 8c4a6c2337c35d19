use Rattle.std.proofs.Common.{rules, ◌≡◌, None, sym, subst}
use Rattle.std.specs.BTreeMap.{get}
use Rattle.asp_model.specs.Names.{Name, name_cmp}
use Rattle.explain.proofs.PlaceLemmas.{known_same}
use Rattle.explain.proofs.differences.places.Places.know.Goals as goal

pub returns-in_ok-insert-clause-same : goal.returns-in_ok-insert-clause-same
returns-in_ok-insert-clause-same c =
    let old = c.args.self.now.counts in
    let none : get name_cmp old c.args.name.now ≡ None = search rules in
    known_same c.in_ok-name.name old c.insert.new.self (subst (λ (k : Name). get name_cmp old k ≡ None) (sym c.in_ok-name.ensures.name) none) c.in_ok-insert.ensures.updates.0
