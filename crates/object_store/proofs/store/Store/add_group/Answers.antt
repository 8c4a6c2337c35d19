use Rattle.std.proofs.Common.{refl, sym, subst, arith}
use Rattle.code_table.specs.Cells.{CodedCell, Group}
use Rattle.object_store.specs.Finder.{IsFitting}
use Rattle.object_store.proofs.StoredLemmas.{fitting_unheld}
use Rattle.object_store.proofs.store.Store.add_group.Goals as goal

pub invariant_of-self-2 : goal.invariant_of-self-2
invariant_of-self-2 c =
    let s = c.self.inside.cells.items in
    let x : CodedCell = Group c.args.members.now in
    let now = c.fit_one.new.self in
    let fits = c.in_ok-fit_one.ensures.fits c.self.invariant.fitting in
    record {
      fitting = subst (IsFitting now) (sym c.in_ok-push_group.ensures.items) (fitting_unheld now s x (λ f. refl) fits);
      room = omega (arith, c.push_group.ensures.free, c.self.invariant.room);
    }

pub invariant_of-self-in_err-push_group : goal.invariant_of-self-in_err-push_group
invariant_of-self-in_err-push_group c =
    let fits = c.in_ok-fit_one.ensures.fits c.self.invariant.fitting in
    record {
      fitting = subst (IsFitting c.fit_one.new.self) (sym c.in_err-push_group.ensures.err) fits;
      room = omega (arith, c.in_err-push_group.ensures.kept, c.self.invariant.room);
    }
