use Rattle.std.proofs.Common.{ap, sym, ◌∙◌}
use Rattle.std.specs.Option.{option_map}
use Rattle.asp_model.specs.ReportLines.{reception_in}
use Rattle.asp_model.specs.Shapes.{reception_shape}
use Rattle.sender_log.proofs.LastLemmas.{last_pushed, found_more}
use Rattle.sender_log.proofs.lines.receptions_in.Goals as goal

pub loop-word-preserved : goal.loop-word-preserved
loop-word-preserved c =
    let log = c.loop-word.log.items in
    let more = c.push.new.self.items in
    let read = sym c.in_ok-reception.ensures ∙ ap (option_map reception_shape) c.in-Some.is in (
      c.loop-word.invariant.0 ∙ found_more (reception_in c.args.polls) c.args.words.now c.loop-word.word-index _ log more c.in-Some.reception c.loop-word-test.true read c.in_ok-push-in-Some.ensures.items,
      last_pushed log more c.in-Some.reception c.in_ok-push-in-Some.ensures.items ∙ sym read,
    )
