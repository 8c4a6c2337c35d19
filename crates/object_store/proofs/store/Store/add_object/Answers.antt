use Rattle.std.proofs.Common.{refl, sym, subst, arith}
use Rattle.code_table.specs.Cells.{CodedCell, CodedStore, Object}
use Rattle.object_store.specs.Finder.{IsFitting}
use Rattle.object_store.proofs.StoredLemmas.{fitting_unheld}
use Rattle.object_store.proofs.store.Store.add_object.Goals as goal

pub invariant_of-self-then-at_hand-gt0 : goal.invariant_of-self-then-at_hand-gt0
invariant_of-self-then-at_hand-gt0 c =
    let s : CodedStore = c.self.inside.cells.items in
    let x : CodedCell = Object c.args.class c.args.places.now in
    let now = c.fit_one.new.self in
    let fits = c.in_ok-fit_one.ensures.fits c.self.invariant.fitting in
    record {
      fitting = subst (IsFitting now) (sym c.in_ok-push_object_near.ensures.items) (fitting_unheld now s x (λ f. refl) fits);
      room = omega (arith, c.push_object_near.ensures.free, c.self.invariant.room);
    }
