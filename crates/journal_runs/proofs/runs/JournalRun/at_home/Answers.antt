use Rattle.std.proofs.Common.{◌≡◌, ◌<◌, ◌∙◌, true, false, rules, sym, arith}
use Rattle.journal_runs.proofs.StandingLemmas.{stands_spent, stands_still, stands_unfinished}
use Rattle.journal_runs.proofs.runs.JournalRun.at_home.Goals as goal

pub returns-then-self-eq0 : goal.returns-then-self-eq0
returns-then-self-eq0 c = record {
  standing = λ program budget entries s r. stands_spent c.args.self.now program budget entries s r c.requires.home (search rules);
  same = λ program budget entries s r. r;
}

pub returns-then-runs : goal.returns-then-runs
returns-then-runs c = record {
  standing = λ program budget entries s r.
      let yes : c.in_ok-runs.runs ≡ true = search rules in
      stands_unfinished c.args.self.now program budget entries s r c.requires.home (omega (arith, c.if-self-eq0.false)) (sym (c.in_ok-runs.ensures.runs program budget entries s r) ∙ yes);
  same = λ program budget entries s r. c.in_ok-runs.ensures.same program budget entries s r;
}

pub returns : goal.returns
returns c = record {
  standing = λ program budget entries s r.
      let no : c.in_ok-runs.runs ≡ false = search rules in
      stands_still c.args.self.now program budget entries s r c.requires.home (sym (c.in_ok-runs.ensures.runs program budget entries s r) ∙ no);
  same = λ program budget entries s r. c.in_ok-runs.ensures.same program budget entries s r;
}
