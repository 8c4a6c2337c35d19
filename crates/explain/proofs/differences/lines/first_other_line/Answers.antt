use Rattle.std.proofs.Common.{◌≡◌, ◌<◌, ◌∙◌, true, false, arith, length, map, subst, sym, take}
use Rattle.asp_model.specs.Shapes.{line_shape}
use Rattle.explain.proofs.SameLemmas.{apart_at, same_before, short_either}
use Rattle.explain.proofs.differences.lines.first_other_line.Goals as goal

pub returns-then-not-is_same_line : goal.returns-then-not-is_same_line
returns-then-not-is_same_line c =
    let xs = c.args.lines.now in
    let ys = c.args.others.now in
    let hx : c.loop-i.i < length xs = omega (arith, c.loop-i-test.true, c.min-both.ensures) in
    let hy : c.loop-i.i < length ys = omega (arith, c.loop-i-test.true, c.min-both.ensures) in (
      same_before line_shape xs ys c.loop-i.i c.loop-i.invariant,
      apart_at line_shape xs ys c.loop-i.i c.index-lines-i.result c.index-others-i.result c.index-lines-i.is c.index-others-i.is hx hy
          (λ e. let no_way : true ≡ false = sym (c.is_same_line.ensures.1 e) ∙ c.if-not-is_same_line.true in absurd cc),
    )

pub returns-else-lines-others : goal.returns-else-lines-others
returns-else-lines-others c =
    let xs = c.args.lines.now in
    let ys = c.args.others.now in
    let at : c.loop-i.i ≡ c.min-both.result = omega (arith, c.loop-i-test.false, c.loop-i.auto.i-end) in (
      same_before line_shape xs ys c.min-both.result (subst (λ k. map line_shape (take k xs) ≡ map line_shape (take k ys)) at c.loop-i.invariant),
      short_either line_shape xs ys c.min-both.result c.min-both.ensures c.if-lines-others.false,
    )
