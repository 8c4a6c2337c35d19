use Rattle.std.proofs.Common.{[], ap}
use Rattle.asp_model.specs.Replay.{replay}
use Rattle.asp_model.specs.Shapes.{counts_shape, lists_shape, tree_of}
use Rattle.replay_parts.specs.Notes.{replay_notes}
use Rattle.run_waits.proofs.BookLemmas.{books_end}
use Rattle.run_waits.proofs.EndLemmas.{end_told}
use Rattle.run_waits.proofs.explained.explain_run.Goals as goal

pub returns-in-Ok-clause-explained : goal.returns-in-Ok-clause-explained
returns-in-Ok-clause-explained c =
    let program = tree_of c.args.program.now.program.root in
    let lists = lists_shape c.args.lists.now in
    let counts = counts_shape c.args.counts.now in
    let last = replay program lists counts in
    let end = c.in_ok-end.end in
    let r = c.replay_noting.new.notes.receipts in
    let noted = c.in_ok-end.ensures.told [] c.new-kept.ensures.none in
    let told = end_told program lists counts end.outcome.activities.items end.futures r (ap (λ o. o.activities) c.in_ok-end.ensures.outcome) c.in_ok-end.ensures.end.futures (noted.0, noted.1, noted.2.0) in
    record {
      told = told;
      size = c.in-Ok.ensures.size;
      waits = c.in-Ok.ensures.waits last told;
      circles = c.in-Ok.ensures.circles;
      ends = c.in-Ok.ensures.ends;
    }

pub returns-in-Ok-clause-books : goal.returns-in-Ok-clause-books
returns-in-Ok-clause-books c =
    let lists = lists_shape c.args.lists.now in
    let counts = counts_shape c.args.counts.now in
    let noted = c.in_ok-end.ensures.told [] c.new-kept.ensures.none in
    books_end c.replay_noting.new.notes.books (replay_notes (tree_of c.args.program.now.program.root) lists counts) (replay (tree_of c.args.program.now.program.root) lists counts) noted.0 noted.2.1
