use Rattle.std.proofs.Common.{◌≡◌, ◌∙◌, ap, sym}
use Rattle.def_journals.specs.Journals.{number_of}
use Rattle.replay_parts.proofs.ResultLemmas.{any_way}
use Rattle.journal_runs.proofs.lends.settled_runs.Goals as goal

pub can_step-requires-clause-closed : goal.can_step-requires-clause-closed
can_step-requires-clause-closed c =
    let r = c.requires.closed in
    let n = c.requires.known in
    (r.0, record { closed = r.1.closed; population = c.in_ok-settle.ensures.same r.0 n.0 r.1.population n.1 })

pub can_step-requires-clause-known : goal.can_step-requires-clause-known
can_step-requires-clause-known c = let n = c.requires.known in (n.0, ap (number_of n.0) c.in_ok-settle.ensures.roster ∙ n.1)

pub returns : goal.returns
returns c = record {
  runs = λ k n h has. c.can_step.ensures.runs k n (c.in_ok-settle.ensures.same k n h has) (ap (number_of n) c.in_ok-settle.ensures.roster ∙ has);
  same = λ k h. let n = c.requires.known in any_way c.can_step.result _ (c.in_ok-settle.ensures.same k n.0 h n.1);
  roster = any_way c.can_step.result _ c.in_ok-settle.ensures.roster;
}
