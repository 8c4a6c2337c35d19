use Rattle.std.proofs.Common.{◌≡◌, ◌<◌, ◌≤◌, ◌∙◌, ℕ, Option, Some, None, is_some, true, false, rules, refl, sym, ap, subst, ⊎_elim, arith}
use Rattle.std.proofs.lemmas.Bool.{cases_lt}
use Rattle.law_chases.proofs.FutureLemmas.{none_true}
use Rattle.journal_runs.specs.Runs.{grant_at}
use Rattle.journal_runs.proofs.GrantLemmas.{grant_past}
use Rattle.journal_runs.proofs.standing.first_out.Goals as goal

is_none : (o : Option ℕ) → is_some o ≡ false → o ≡ None
is_none None h = refl
is_none (Some x) h = none_true (sym h)

pub loop-number-init : goal.loop-number-init
loop-number-init c = λ j lt. absurd (omega (arith, lt))

pub returns-then-out : goal.returns-then-out
returns-then-out c = record {
  first =
      let yes : c.is_some-out.result ≡ true = search rules in
      (sym (c.is_some-out.ensures ∙ ap is_some c.grant_of.ensures.grant) ∙ yes, c.loop-number.invariant);
}

pub loop-number-preserved : goal.loop-number-preserved
loop-number-preserved c = λ j lt.
    let no : c.is_some-out.result ≡ false = search rules in
    let here : grant_at c.args.grants.now c.loop-number.number ≡ None = is_none _ (sym (c.is_some-out.ensures ∙ ap is_some c.grant_of.ensures.grant) ∙ no) in
    ⊎_elim (λ less. c.loop-number.invariant j less) (λ le. let same : j ≡ c.loop-number.number = omega (arith, le, lt) in ap (grant_at c.args.grants.now) same ∙ here) (cases_lt j c.loop-number.number)

pub returns : goal.returns
returns c = record {
  first = λ j. ⊎_elim (λ less. c.loop-number.invariant j less) (λ le. grant_past c.args.grants.now j (omega (arith, le, c.loop-number-test.false))) (cases_lt j c.loop-number.number);
}
