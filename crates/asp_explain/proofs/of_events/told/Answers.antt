use Rattle.asp_explain.proofs.of_events.told.Goals as goal

pub returns-clause-told : goal.returns-clause-told
returns-clause-told c = record { run = c.in_ok-run.run'; seen = c.in_ok-run.ensures.seen; status_is = c.answer_with.ensures.status }
