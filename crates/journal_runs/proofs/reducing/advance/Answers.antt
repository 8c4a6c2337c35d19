use Rattle.std.proofs.Common.{◌≡◌, ◌<◌, ◌≤◌, ◌+◌, ◌-◌, ◌^◌, ℕ, Some, None, true, false, nat_lt, suc, rules, refl, sym, ap, subst, ◌∙◌, ⊎_elim, inl, inr, arith}
use Rattle.std.proofs.lemmas.Bool.{le-leb, leb-true}
use Rattle.asp_model.specs.Configuration.{Configuration}
use Rattle.asp_model.specs.Names.{Name}
use Rattle.asp_model.specs.Term.{Tree}
use Rattle.def_journals.specs.Communications.{communicates_next}
use Rattle.def_journals.specs.Journals.{reduced}
use Rattle.law_core.specs.Commits.{with_activity}
use Rattle.replay_population.specs.declared.population.Population.{Population}
use Rattle.replay_population.specs.Population.{IsRunIn}
use Rattle.journal_runs.specs.Reducing.{IsAdvanced, IsOnTheWay}
use Rattle.journal_runs.specs.Stepping.{IsReducing, IsStepped}
use Rattle.journal_runs.proofs.ReduceLemmas.{HasRunTo, has_run, run_all, run_reducing, run_refused, run_step, taken_within}
use Rattle.journal_runs.proofs.StepLemmas.{reducing_sound, reducing_there}
use Rattle.journal_runs.proofs.reducing.advance.Goals as goal

module _ (p q : Population) (program : Tree) (k : Configuration) (number : ℕ) (n : Name) (r : IsReducing p program k number n) (reductions count taken : ℕ) (ran : IsRunIn q k n reductions count taken) (names : q.roster ≡ p.roster) where
  abbrev h : HasRunTo q k n taken
  h = has_run q k n reductions count taken (reducing_sound p program k number n r) (reducing_there p program k number n r) ran

  abbrev then : Configuration
  then = with_activity n h.end k

  abbrev t : IsReducing q program then number n
  t = run_reducing p q program k number n r taken h names

  whole : taken + (reductions - taken) ≡ reductions
  whole = let le = taken_within q k n reductions count taken ran in omega (arith, le)

  ended : 0 < reductions → reductions - taken ≡ 0 → IsAdvanced q program p.roster k number n reductions (Some 0)
  ended some none =
      let all : taken ≡ reductions = omega (arith, whole, none) in
      (subst (λ j. IsOnTheWay q program p.roster k number n j 0) all (run_all p q program k number n r taken h names), some)

  stepped : (u : Population) (left : ℕ) → left ≡ reductions - taken → 0 < left → IsStepped u program q.roster then number n (nat_lt 1 left) true → IsAdvanced u program p.roster k number n reductions (Some (left - 1))
  stepped u left is some x =
      let sum : taken + left ≡ reductions = omega (arith, whole, is) in
      let one : left ≡ suc (left - 1) = omega (arith, some) in
      let quiet : 0 < left - 1 → communicates_next then n ≡ false = λ lt. x.3 (le-leb 2 left (omega (arith, lt))) in
      (subst (λ j. IsOnTheWay u program p.roster k number n j (left - 1)) sum (run_step p q program k number n r taken h names left u x.0 one x.1 quiet x.2.reducing x.2.names), omega (arith, is, some))

  refused : (u : Population) (left : ℕ) → left ≡ reductions - taken → 0 < left → IsStepped u program q.roster then number n (nat_lt 1 left) false → reduced reductions n k ≡ None
  refused u left is some x =
      let sum : taken + left ≡ reductions = omega (arith, whole, is) in
      let one : left ≡ suc (left - 1) = omega (arith, some) in
      ap (λ j. reduced j n k) (sym sum) ∙ run_refused p q program k number n r taken h names left one (⊎_elim (λ rests. inl rests) (λ asks. inr (leb-true 2 left asks.0, asks.1)) x)

pub step-requires : goal.step-requires
step-requires c =
    let r = c.requires.reducing in
    let ran = c.in_ok-taken.ensures.runs r.1 r.2 r.3.reached.population r.3.named in
    record { reducing = (r.0, then c.args.population.now c.run.new.self r.0 r.1 c.args.number r.2 r.3 c.args.reductions _ c.in_ok-taken.taken ran c.in_ok-taken.ensures.roster, r.2, t c.args.population.now c.run.new.self r.0 r.1 c.args.number r.2 r.3 c.args.reductions _ c.in_ok-taken.taken ran c.in_ok-taken.ensures.roster) }

pub overflow_sub-left : goal.overflow_sub-left
overflow_sub-left c =
    let r = c.requires.reducing in
    taken_within c.run.new.self r.1 r.2 c.args.reductions _ c.in_ok-taken.taken (c.in_ok-taken.ensures.runs r.1 r.2 r.3.reached.population r.3.named)

pub returns-then-left-eq0 : goal.returns-then-left-eq0
returns-then-left-eq0 c = record {
  advanced = λ program k n r.
      let none : c.args.reductions - c.in_ok-taken.taken ≡ 0 = search rules in
      ended c.args.population.now c.run.new.self program k c.args.number n r c.args.reductions _ c.in_ok-taken.taken (c.in_ok-taken.ensures.runs k n r.reached.population r.named) c.in_ok-taken.ensures.roster c.requires.some none;
}

pub returns-then-not-stepped : goal.returns-then-not-stepped
returns-then-not-stepped c = record {
  advanced = λ program k n r.
      let p : Population = c.args.population.now in
      let q : Population = c.run.new.self in
      let ran = c.in_ok-taken.ensures.runs k n r.reached.population r.named in
      let no : c.in_ok-stepped.stepped ≡ false = search rules in
      let some : 0 < c.args.reductions - c.in_ok-taken.taken = omega (arith, c.if-left-eq0.false) in
      refused p q program k c.args.number n r c.args.reductions _ c.in_ok-taken.taken ran c.in_ok-taken.ensures.roster c.step.new.population (c.args.reductions - c.in_ok-taken.taken) refl some
      (subst (IsStepped c.step.new.population program q.roster (then p q program k c.args.number n r c.args.reductions _ c.in_ok-taken.taken ran c.in_ok-taken.ensures.roster) c.args.number n (nat_lt 1 (c.args.reductions - c.in_ok-taken.taken))) no
      (c.in_ok-stepped.ensures.stepped program (then p q program k c.args.number n r c.args.reductions _ c.in_ok-taken.taken ran c.in_ok-taken.ensures.roster) n (t p q program k c.args.number n r c.args.reductions _ c.in_ok-taken.taken ran c.in_ok-taken.ensures.roster)));
}

pub returns : goal.returns
returns c = record {
  advanced = λ program k n r.
      let p : Population = c.args.population.now in
      let q : Population = c.run.new.self in
      let ran = c.in_ok-taken.ensures.runs k n r.reached.population r.named in
      let yes : c.in_ok-stepped.stepped ≡ true = search rules in
      let some : 0 < c.args.reductions - c.in_ok-taken.taken = omega (arith, c.if-left-eq0.false) in
      stepped p q program k c.args.number n r c.args.reductions _ c.in_ok-taken.taken ran c.in_ok-taken.ensures.roster c.step.new.population (c.args.reductions - c.in_ok-taken.taken) refl some
      (subst (IsStepped c.step.new.population program q.roster (then p q program k c.args.number n r c.args.reductions _ c.in_ok-taken.taken ran c.in_ok-taken.ensures.roster) c.args.number n (nat_lt 1 (c.args.reductions - c.in_ok-taken.taken))) yes
      (c.in_ok-stepped.ensures.stepped program (then p q program k c.args.number n r c.args.reductions _ c.in_ok-taken.taken ran c.in_ok-taken.ensures.roster) n (t p q program k c.args.number n r c.args.reductions _ c.in_ok-taken.taken ran c.in_ok-taken.ensures.roster)));
}
