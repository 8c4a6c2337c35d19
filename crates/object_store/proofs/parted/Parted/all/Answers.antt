use Rattle.std.proofs.Common.{◌≡◌, ◌<◌, length, arith}
use Rattle.code_table.specs.Cells.{CodedStore, coded}
use Rattle.object_store.proofs.PartLemmas.{copied_all, copied_more}
use Rattle.object_store.proofs.parted.Parted.all.Goals as goal

pub loop-at-preserved : goal.loop-at-preserved
loop-at-preserved c =
    let s : CodedStore = c.args.self.now.items in
    let lt : c.loop-at.at < length s = omega (arith, c.loop-at-test.true, c.loop-at.invariant.count) in
    record {
      within = omega (arith, c.loop-at-test.true);
      count = c.loop-at.invariant.count;
      so_far = copied_more s c.loop-at.columns.items c.push_moved.new.self.items c.loop-at.at (coded c.view.result) lt c.loop-at.invariant.so_far c.view.ensures.view c.in_ok-push_moved.ensures.items;
      free = omega (arith, c.loop-at.invariant.free, c.push_moved.ensures.free, c.loop-at-test.true);
    }

pub returns-clause-items : goal.returns-clause-items
returns-clause-items c =
    let e : c.loop-at.at ≡ length c.args.self.now.items = omega (arith, c.loop-at-test.false, c.loop-at.invariant.within, c.loop-at.invariant.count) in
    copied_all c.args.self.now.items c.loop-at.columns.items c.loop-at.at e c.loop-at.invariant.so_far

pub returns-clause-free : goal.returns-clause-free
returns-clause-free c = omega (arith, c.loop-at.invariant.free)
