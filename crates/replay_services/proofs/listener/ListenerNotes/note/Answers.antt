use Rattle.std.proofs.lemmas.Result.{on_ok_weaker}
use Rattle.replay_services.proofs.ListenerLemmas.{noted_answered, noted_faulted, noted_made, noted_polled, noted_printed, noted_sent, noted_served, noted_standing}
use Rattle.replay_services.proofs.listener.ListenerNotes.note.Goals as goal

pub returns-in-Sent : goal.returns-in-Sent
returns-in-Sent c = record {
  told = λ xs x tells n. on_ok_weaker c.add_arrival.result (λ change. noted_sent c.args.self.now c.add_arrival.new.self xs x c.args.note n c.in-Sent.to c.in-Sent.label c.in-Sent.field-2 c.in-Sent.is change tells) c.add_arrival.ensures;
}

pub returns-in-Served : goal.returns-in-Served
returns-in-Served c = record {
  told = λ xs x tells n. on_ok_weaker c.add_set.result (λ change. noted_served c.args.self.now c.add_set.new.self xs x c.args.note n c.in-Served.wanted c.in-Served.is change tells) c.add_set.ensures;
}

pub returns-in-Standing : goal.returns-in-Standing
returns-in-Standing c = record {
  told = λ xs x tells n. on_ok_weaker c.add_set-in-Standing.result (λ change. noted_standing c.args.self.now c.add_set-in-Standing.new.self xs x c.args.note n c.in-Standing.wanted c.in-Standing.is change tells) c.add_set-in-Standing.ensures;
}

pub returns-in-Polled : goal.returns-in-Polled
returns-in-Polled c = record {
  told = λ xs x tells n. on_ok_weaker c.add_poll.result (λ change. noted_polled c.args.self.now c.add_poll.new.self xs x c.args.note n c.in-Polled.is change tells) c.add_poll.ensures;
}

pub returns-in-Made : goal.returns-in-Made
returns-in-Made c = record {
  told = λ xs x tells n. noted_made c.args.self.now xs x c.args.note n c.in-Made.field-0 c.in-Made.is tells;
}

pub returns-in-Answered : goal.returns-in-Answered
returns-in-Answered c = record {
  told = λ xs x tells n. noted_answered c.args.self.now xs x c.args.note n c.in-Answered.field-0 c.in-Answered.is tells;
}

pub returns-in-Printed : goal.returns-in-Printed
returns-in-Printed c = record {
  told = λ xs x tells n. noted_printed c.args.self.now xs x c.args.note n c.in-Printed.field-0 c.in-Printed.is tells;
}

pub returns-in-Faulted : goal.returns-in-Faulted
returns-in-Faulted c = record {
  told = λ xs x tells n. noted_faulted c.args.self.now xs x c.args.note n c.in-Faulted.field-0 c.in-Faulted.is tells;
}
