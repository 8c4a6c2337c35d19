use Rattle.std.proofs.Common.{◌≡◌, sym, subst}
use Rattle.def_journals.specs.Journals.{RunShape}
use Rattle.law_traces.specs.Standings.{standing_of}
use Rattle.journal_runs.specs.Runs.{IsStanding}
use Rattle.trace_check.proofs.CheckLemmas.{checked_end, open_stop, out_open, unfinished_open}
use Rattle.trace_check.proofs.check.finish.Goals as goal

pub end-requires : goal.end-requires
end-requires c =
    let r = c.requires.run in
    record { run = (r.0, r.1, r.2, r.3, c.in_ok-standing.ensures.same r.0 r.1 r.2 r.3 r.4) }

pub returns-in_ok-end-in-Ended-clause-checked : goal.returns-in_ok-end-in-Ended-clause-checked
returns-in_ok-end-in-Ended-clause-checked c = λ program budget entries s r.
    let same = c.in_ok-standing.ensures.same program budget entries s r in
    let end = c.in_ok-end-in-Ended in
    checked_end _ program budget entries s r (subst (IsStanding (standing_of s)) c.in-Ended.is (c.in_ok-standing.ensures.standing program budget entries s r)) end.field-0
    (end.ensures.end program budget entries s same) (end.ensures.outcome program budget entries s same)

pub returns-in-Out-clause-stop : goal.returns-in-Out-clause-stop
returns-in-Out-clause-stop c = λ program budget entries s r.
    open_stop _ program budget entries s r (out_open (standing_of s) _ (subst (IsStanding (standing_of s)) c.in-Out.is (c.in_ok-standing.ensures.standing program budget entries s r)))

pub returns-in-Unfinished-clause-stop : goal.returns-in-Unfinished-clause-stop
returns-in-Unfinished-clause-stop c = λ program budget entries s r.
    open_stop _ program budget entries s r (unfinished_open (standing_of s) (subst (IsStanding (standing_of s)) c.in-Unfinished.is (c.in_ok-standing.ensures.standing program budget entries s r)))
