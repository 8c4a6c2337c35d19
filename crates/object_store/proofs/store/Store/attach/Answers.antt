use Rattle.std.proofs.Common.{drop, map, sym, subst, arith}
use Rattle.std.specs.Arc.{arc_value}
use Rattle.code_table.specs.Cells.{CodedStore, moved_coded}
use Rattle.code_table.specs.Moves.{shift_of}
use Rattle.object_store.specs.Finder.{IsFitting}
use Rattle.object_store.proofs.HoldersLemmas.{attached_plain}
use Rattle.object_store.proofs.StoredLemmas.{fitting_plain}
use Rattle.object_store.proofs.store.Store.attach.Goals as goal

pub invariant_of-self-in_err-attach : goal.invariant_of-self-in_err-attach
invariant_of-self-in_err-attach c =
    let fits = c.in_ok-fit.ensures c.self.invariant.fitting in
    record {
      fitting = subst (IsFitting c.fit.new.self) (sym c.in_err-attach.ensures.err) fits;
      room = omega (arith, c.in_err-attach.ensures.free, c.self.invariant.room);
    }

pub invariant_of-self-2 : goal.invariant_of-self-2
invariant_of-self-2 c =
    let s : CodedStore = c.self.inside.cells.items in
    let now = c.fit.new.self in
    let all : CodedStore = (arc_value c.args.shared.now).items in
    let f = shift_of c.args.shift in
    let fits = c.in_ok-fit.ensures c.self.invariant.fitting in
    let new : CodedStore = map (moved_coded f) (drop c.args.from all) in
    record {
      fitting = subst (IsFitting now) (sym c.in_ok-attach.ensures.items) (fitting_plain now s new (attached_plain f c.args.from all c.requires.plain) fits);
      room = omega arith;
    }
