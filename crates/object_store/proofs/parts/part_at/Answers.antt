use Rattle.std.proofs.Common.{◌≡◌, ◌<◌, suc, get_or, length, subst, arith}
use Rattle.object_store.specs.Parts.{parts_cells}
use Rattle.object_store.proofs.PartLemmas.{first_part}
use Rattle.object_store.proofs.parts.part_at.Goals as goal

pub loop-high-init : goal.loop-high-init
loop-high-init c =
    let some : 0 < length (parts_cells c.args.parts.now.items) = omega (arith, c.requires.within) in
    let first = first_part c.args.parts.now.items c.requires.placed some in
    record {
      order = omega (arith, first.0, c.len-high.ensures, c.args.parts.now.ok.0);
      within = omega (arith, c.len-high.ensures, c.args.parts.now.ok.0);
      begun = λ d. omega (arith, first.1 d);
      ended = λ d lt. absurd (omega (arith, lt, c.len-high.ensures, c.args.parts.now.ok.0));
    }

pub returns : goal.returns
returns c =
    let next : c.loop-high.high ≡ suc c.loop-high.low = omega (arith, c.loop-high.invariant.order, c.loop-high-test.false) in
    record {
      part = record {
        within = omega (arith, c.loop-high.invariant.order, c.loop-high.invariant.within);
        begun = c.loop-high.invariant.begun;
        ended = λ d. subst (λ n. n < length c.args.parts.now.items → c.args.at < (get_or c.args.parts.now.items n d).start) next (c.loop-high.invariant.ended d);
      };
    }
