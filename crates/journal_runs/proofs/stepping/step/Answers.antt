use Rattle.std.proofs.Common.{◌≡◌, true, false, rules, subst}
use Rattle.replay_parts.proofs.ResultLemmas.{if_ok}
use Rattle.journal_runs.specs.Stepping.{IsActed, IsStepped, MayFollow}
use Rattle.journal_runs.proofs.StepLemmas.{acted_stepped}
use Rattle.journal_runs.proofs.stepping.step.Goals as goal

pub take-requires : goal.take-requires
take-requires c =
    let r = c.requires.reducing in
    let yes : c.may_follow-may.result ≡ true = search rules in
    let may = subst (MayFollow r.1 r.2 c.args.more) yes (c.may_follow-may.ensures.may r.1 r.2 (c.in_ok-next.ensures.next r.0 r.1 r.2 r.3)) in
    record { acting = (r.0, r.1, r.2, r.3, may.0) }

pub returns-then-not-may : goal.returns-then-not-may
returns-then-not-may c = record {
  stepped = λ program k n r.
      let no : c.may_follow-may.result ≡ false = search rules in
      subst (MayFollow k n c.args.more) no (c.may_follow-may.ensures.may k n (c.in_ok-next.ensures.next program k n r));
}

pub returns : goal.returns
returns c = record {
  stepped = λ program k n r.
      let yes : c.may_follow-may.result ≡ true = search rules in
      let may = subst (MayFollow k n c.args.more) yes (c.may_follow-may.ensures.may k n (c.in_ok-next.ensures.next program k n r)) in
      let e = may.0 in
      if_ok c.take.result (IsActed c.take.new.population program c.args.population.now.roster k c.args.number n e.0 c.args.more) (IsStepped c.take.new.population program c.args.population.now.roster k c.args.number n c.args.more)
      (λ b h. acted_stepped c.args.population.now program k c.args.number n r e.0 e.1 c.take.new.population c.args.more b may.1 h) (c.take.ensures.acted program k n e.0 r e.1);
}
