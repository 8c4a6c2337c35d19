use Rattle.std.proofs.Common.{◌≡◌, ◌<◌, ◌∙◌, get_or, length, sym, arith}
use Rattle.code_table.specs.Places.{placed}
use Rattle.code_table.proofs.PlacesLemmas.{agree_from, differ_from}
use Rattle.code_table.proofs.places.Places.is_same.Goals as goal

pub returns-then-one-two : goal.returns-then-one-two
returns-then-one-two c =
    let ns = placed c.args.self.now in
    let ms = placed c.args.other.now in
    let k = c.loop-at.at in
    let lt : k < length ns = omega (arith, c.len-in-loop-at.ensures, c.loop-at-test.true) in
    let le : k < length ms = omega (arith, lt, c.loop-at.invariant.long) in
    sym (differ_from ns ms k lt le (λ e. omega (arith, e, c.at-one.ensures.place 0, c.at-two.ensures.place 0, c.if-one-two.true)))
    ∙ c.loop-at.invariant.so_far

pub loop-at-preserved : goal.loop-at-preserved
loop-at-preserved c =
    let ns = placed c.args.self.now in
    let ms = placed c.args.other.now in
    let k = c.loop-at.at in
    let lt : k < length ns = omega (arith, c.len-in-loop-at.ensures, c.loop-at-test.true) in
    let le : k < length ms = omega (arith, lt, c.loop-at.invariant.long) in
    let same : get_or ns k 0 ≡ get_or ms k 0 = omega (arith, c.at-one.ensures.place 0, c.at-two.ensures.place 0, c.if-one-two.false) in
    record {
      long = c.loop-at.invariant.long;
      so_far = sym (agree_from ns ms k lt le same) ∙ c.loop-at.invariant.so_far;
    }
