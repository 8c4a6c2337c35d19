use Rattle.std.proofs.Common.{◌≡◌, rules, sym, ap, ◌∙◌}
use Rattle.law_steps.proofs.NameLemmas.{is_there}
use Rattle.std.specs.FinMap.{find}
use Rattle.asp_model.specs.Names.{name_cmp}
use Rattle.step_parts.specs.Stances.{stance_shape}
use Rattle.journal_runs.proofs.StepLemmas.{acting_if, next_goes, next_needs, next_rests, reducing_closed, reducing_there, resting_if}
use Rattle.journal_runs.proofs.stepping.next_of.Goals as goal

pub stance-requires-clause-closed : goal.stance-requires-clause-closed
stance-requires-clause-closed c = let r = c.requires.reducing in reducing_closed c.args.population.now r.0 r.1 c.args.number r.2 r.3

pub stance-requires-clause-known : goal.stance-requires-clause-known
stance-requires-clause-known c = let r = c.requires.reducing in (r.2, r.3.named)

pub can_step-requires-clause-closed : goal.can_step-requires-clause-closed
can_step-requires-clause-closed c = let r = c.requires.reducing in reducing_closed c.args.population.now r.0 r.1 c.args.number r.2 r.3

pub can_step-requires-clause-known : goal.can_step-requires-clause-known
can_step-requires-clause-known c = let r = c.requires.reducing in (r.2, r.3.named)

pub returns-in-Contracts : goal.returns-in-Contracts
returns-in-Contracts c = record {
  next = λ program k n r.
      let a = is_there (find name_cmp n k.activities) (reducing_there c.args.population.now program k c.args.number n r) in
      next_goes k n a.0 a.1 _ (sym (ap stance_shape c.in-Contracts.is) ∙ c.in_ok-stance.ensures.stance k a.0 n r.reached.population r.named a.1);
}

pub returns-in-Communicates : goal.returns-in-Communicates
returns-in-Communicates c = record {
  next = λ program k n r.
      let a = is_there (find name_cmp n k.activities) (reducing_there c.args.population.now program k c.args.number n r) in
      next_goes k n a.0 a.1 _ (sym (ap stance_shape c.in-Communicates.is) ∙ c.in_ok-stance.ensures.stance k a.0 n r.reached.population r.named a.1);
}

pub returns-else-not-steps : goal.returns-else-not-steps
returns-else-not-steps c = record {
  next = λ program k n r.
      let a = is_there (find name_cmp n k.activities) (reducing_there c.args.population.now program k c.args.number n r) in (
        next_needs k n a.0 a.1 _ _ (sym (ap stance_shape c.in-Needs.is) ∙ c.in_ok-stance.ensures.stance k a.0 n r.reached.population r.named a.1),
        acting_if k n (sym (c.in_ok-steps-in-Needs.ensures.runs k n r.reached.population r.named) ∙ search rules),
      );
}

pub returns-then-not-steps : goal.returns-then-not-steps
returns-then-not-steps c = record {
  next = λ program k n r. resting_if k n (sym (c.in_ok-steps-in-Needs.ensures.runs k n r.reached.population r.named) ∙ search rules);
}

pub returns-in-Awaits : goal.returns-in-Awaits
returns-in-Awaits c = record {
  next = λ program k n r.
      let a = is_there (find name_cmp n k.activities) (reducing_there c.args.population.now program k c.args.number n r) in
      next_rests k n a.0 a.1 _ (sym (ap stance_shape c.in-Awaits.is) ∙ c.in_ok-stance.ensures.stance k a.0 n r.reached.population r.named a.1);
}

pub returns-in-Faulted : goal.returns-in-Faulted
returns-in-Faulted c = record {
  next = λ program k n r.
      let a = is_there (find name_cmp n k.activities) (reducing_there c.args.population.now program k c.args.number n r) in
      next_rests k n a.0 a.1 _ (sym (ap stance_shape c.in-Faulted.is) ∙ c.in_ok-stance.ensures.stance k a.0 n r.reached.population r.named a.1);
}

pub returns-in-Serving : goal.returns-in-Serving
returns-in-Serving c = record {
  next = λ program k n r.
      let a = is_there (find name_cmp n k.activities) (reducing_there c.args.population.now program k c.args.number n r) in
      next_rests k n a.0 a.1 _ (sym (ap stance_shape c.in-Serving.is) ∙ c.in_ok-stance.ensures.stance k a.0 n r.reached.population r.named a.1);
}

pub returns-in-Done : goal.returns-in-Done
returns-in-Done c = record {
  next = λ program k n r.
      let a = is_there (find name_cmp n k.activities) (reducing_there c.args.population.now program k c.args.number n r) in
      next_rests k n a.0 a.1 _ (sym (ap stance_shape c.in-Done.is) ∙ c.in_ok-stance.ensures.stance k a.0 n r.reached.population r.named a.1);
}
