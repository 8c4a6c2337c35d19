use Rattle.std.proofs.lemmas.Result.{on_ok_weaker}
use Rattle.replay_parts.specs.declared.notes.Event.TheVariants as event
use Rattle.run_waits.proofs.ListenLemmas.{other_kept, sent_kept}
use Rattle.run_waits.proofs.receipts.ReceiptsNotes.note.Goals as goal

pub returns-in-Sent : goal.returns-in-Sent
returns-in-Sent c = record {
  told = λ xs x tells n. on_ok_weaker c.add_target.result (λ sent. sent_kept c.args.note x n xs c.args.self.now c.add_target.new.self tells c.in-Sent.to c.in-Sent.label c.in-Sent.future c.in-Sent.is sent) c.add_target.ensures.sent;
}

pub returns-in-Served : goal.returns-in-Served
returns-in-Served c = record {
  told = λ xs x tells n. other_kept c.args.note x n xs c.args.self.now tells (event.Served c.in-Served.field-0) c.in-Served.is (λ no. no);
}

pub returns-in-Made : goal.returns-in-Made
returns-in-Made c = record {
  told = λ xs x tells n. other_kept c.args.note x n xs c.args.self.now tells (event.Made c.in-Made.field-0) c.in-Made.is (λ no. no);
}

pub returns-in-Answered : goal.returns-in-Answered
returns-in-Answered c = record {
  told = λ xs x tells n. other_kept c.args.note x n xs c.args.self.now tells (event.Answered c.in-Answered.field-0) c.in-Answered.is (λ no. no);
}

pub returns-in-Standing : goal.returns-in-Standing
returns-in-Standing c = record {
  told = λ xs x tells n. other_kept c.args.note x n xs c.args.self.now tells (event.Standing c.in-Standing.field-0) c.in-Standing.is (λ no. no);
}

pub returns-in-Polled : goal.returns-in-Polled
returns-in-Polled c = record {
  told = λ xs x tells n. other_kept c.args.note x n xs c.args.self.now tells event.Polled c.in-Polled.is (λ no. no);
}

pub returns-in-Printed : goal.returns-in-Printed
returns-in-Printed c = record {
  told = λ xs x tells n. other_kept c.args.note x n xs c.args.self.now tells (event.Printed c.in-Printed.field-0) c.in-Printed.is (λ no. no);
}

pub returns-in-Faulted : goal.returns-in-Faulted
returns-in-Faulted c = record {
  told = λ xs x tells n. other_kept c.args.note x n xs c.args.self.now tells (event.Faulted c.in-Faulted.field-0) c.in-Faulted.is (λ no. no);
}
