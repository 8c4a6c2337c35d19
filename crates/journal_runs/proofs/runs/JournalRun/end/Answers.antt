use Rattle.journal_runs.proofs.RunFacts.{is_reached}
use Rattle.journal_runs.proofs.runs.JournalRun.end.Goals as goal

pub end-requires : goal.end-requires
end-requires c =
    let r = c.requires.run in
    record { reached = (r.0, r.3.configuration, is_reached c.args.self r.0 r.1 r.2 r.3 r.4) }

pub returns : goal.returns
returns c = record {
  end = λ program budget entries s r. c.end.ensures.end program s.configuration (is_reached c.args.self program budget entries s r);
  outcome = λ program budget entries s r. c.end.ensures.outcome program s.configuration (is_reached c.args.self program budget entries s r);
}
