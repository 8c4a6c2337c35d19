use Rattle.std.proofs.Common.{sym, subst, arith}
use Rattle.object_store.specs.Finder.{IsFitting}
use Rattle.object_store.proofs.StoredLemmas.{fitting_object}
use Rattle.object_store.proofs.store.Store.set_place.Goals as goal

pub invariant_of-self : goal.invariant_of-self
invariant_of-self c = record {
  fitting = subst (IsFitting c.self.inside.finder) (sym c.in_err-set_place.ensures.err) c.self.invariant.fitting;
  room = omega (arith, c.set_place.ensures.free, c.self.invariant.room);
}

pub invariant_of-self-2 : goal.invariant_of-self-2
invariant_of-self-2 c =
    let s = c.self.inside.cells.items in
    record {
      fitting = fitting_object c.self.inside.finder s c.set_place.new.self.items c.args.loc c.args.index c.args.to c.in_ok-set_place.ensures.items c.self.invariant.fitting;
      room = omega (arith, c.set_place.ensures.free, c.self.invariant.room);
    }
