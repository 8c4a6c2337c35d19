use Rattle.std.proofs.Common.{◌≤◌, ◌<◌, ◌++◌, [], length, map, refl, take, subst, arith, rules}
use Rattle.std.proofs.lemmas.List.{take_all}
use Rattle.asp_model.specs.Shapes.{line_shape}
use Rattle.replay_parts.specs.Notes.{Printed, noted_as}
use Rattle.replay_parts.proofs.NoteLemmas.{lines_noted, told_lines, told_quiet}
use Rattle.replay_parts.proofs.TellLemmas.{lines_more, lines_told}
use Rattle.replay_parts.proofs.telling.tell_lines.Goals as goal

pub returns-then-not-hears_lines : goal.returns-then-not-hears_lines
returns-then-not-hears_lines g c = record {
  told = λ xs t. told_lines (g.N.Notes.tells c.args.notes.now) (c.hears_lines.ensures.deaf (search rules)) xs (lines_told c.args.by.now c.args.count c.args.lines.now) (lines_noted c.args.by.now c.args.count (map line_shape c.args.lines.now)) t;
}

pub loop-line-init : goal.loop-line-init
loop-line-init g c = λ xs t. told_quiet (g.N.Notes.tells c.args.notes.now) xs [] refl t

pub loop-line-preserved : goal.loop-line-preserved
loop-line-preserved g c = λ xs t.
    let n = c.args.by.now in
    let k = c.args.count in
    let ls = c.args.lines.now in
    let i = c.loop-line.line-index in
    let x = c.line-item.result in
    lines_more (g.N.Notes.tells c.note.new.self) xs n k ls i x (omega (arith, c.loop-line-test.true)) c.line-item.is
    (c.in_ok-note.ensures.told (xs ++ lines_told n k (take i ls)) (noted_as n k (Printed (line_shape x))) (c.loop-line.invariant xs t) (record { by = refl; count = refl; event = refl }))

pub returns : goal.returns
returns g c = record {
  told = λ xs t.
      let ls = c.args.lines.now in
      let i = c.loop-line.line-index in
      let past : length ls ≤ i = omega (arith, c.loop-line-test.false) in
      subst (λ ys. g.N.Notes.tells c.loop-line.notes (xs ++ lines_told c.args.by.now c.args.count ys)) (take_all i ls past) (c.loop-line.invariant xs t);
}
