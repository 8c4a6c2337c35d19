use Rattle.std.proofs.Common.{sym, subst, ap, arith}
use Rattle.object_store.specs.Finder.{IsFitting}
use Rattle.object_store.specs.StockView.{StockView}
use Rattle.object_store.proofs.StoredLemmas.{fitting_object}
use Rattle.object_store.proofs.store.Store.set_near.Goals as goal

pub invariant_of-self : goal.invariant_of-self
invariant_of-self c =
    let s = c.self.inside.cells.items in
    record {
      fitting = fitting_object c.self.inside.finder s c.set_near.new.self.items c.args.loc c.args.index c.args.to (c.set_near.ensures.items c.if-set_near.true) c.self.invariant.fitting;
      room = omega (arith, c.set_near.ensures.free, c.self.invariant.room);
    }
