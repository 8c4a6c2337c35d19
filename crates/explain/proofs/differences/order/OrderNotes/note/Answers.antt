use Rattle.std.proofs.Common.{sym}
use Rattle.std.proofs.lemmas.List.{append-nil}
use Rattle.std.proofs.lemmas.Result.{on_ok_weaker}
use Rattle.replay_parts.specs.declared.notes.Event.TheVariants as event
use Rattle.explain.proofs.OrderLemmas.{note_kept}
use Rattle.explain.proofs.differences.order.OrderNotes.note.Goals as goal

pub returns-in-Sent : goal.returns-in-Sent
returns-in-Sent c = record {
  told = λ xs x tells n. on_ok_weaker c.add_request.result (λ more. note_kept c.args.self.now c.add_request.new.self c.args.note x xs (event.Sent c.in-Sent.to c.in-Sent.label c.in-Sent.field-2) n c.in-Sent.is tells more) c.add_request.ensures;
}

pub returns-in-Polled : goal.returns-in-Polled
returns-in-Polled c = record {
  told = λ xs x tells n. on_ok_weaker c.add_poll.result (λ more. note_kept c.args.self.now c.add_poll.new.self c.args.note x xs event.Polled n c.in-Polled.is tells more) c.add_poll.ensures;
}

pub returns-in-Served : goal.returns-in-Served
returns-in-Served c = record {
  told = λ xs x tells n. note_kept c.args.self.now c.args.self.now c.args.note x xs (event.Served c.in-Served.field-0) n c.in-Served.is tells (sym (append-nil _));
}

pub returns-in-Made : goal.returns-in-Made
returns-in-Made c = record {
  told = λ xs x tells n. note_kept c.args.self.now c.args.self.now c.args.note x xs (event.Made c.in-Made.field-0) n c.in-Made.is tells (sym (append-nil _));
}

pub returns-in-Answered : goal.returns-in-Answered
returns-in-Answered c = record {
  told = λ xs x tells n. note_kept c.args.self.now c.args.self.now c.args.note x xs (event.Answered c.in-Answered.field-0) n c.in-Answered.is tells (sym (append-nil _));
}

pub returns-in-Printed : goal.returns-in-Printed
returns-in-Printed c = record {
  told = λ xs x tells n. note_kept c.args.self.now c.args.self.now c.args.note x xs (event.Printed c.in-Printed.field-0) n c.in-Printed.is tells (sym (append-nil _));
}

pub returns-in-Standing : goal.returns-in-Standing
returns-in-Standing c = record {
  told = λ xs x tells n. note_kept c.args.self.now c.args.self.now c.args.note x xs (event.Standing c.in-Standing.field-0) n c.in-Standing.is tells (sym (append-nil _));
}

pub returns-in-Faulted : goal.returns-in-Faulted
returns-in-Faulted c = record {
  told = λ xs x tells n. note_kept c.args.self.now c.args.self.now c.args.note x xs (event.Faulted c.in-Faulted.field-0) n c.in-Faulted.is tells (sym (append-nil _));
}
