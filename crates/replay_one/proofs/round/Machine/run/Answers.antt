use Rattle.std.proofs.Common.{◌≡◌, ◌+◌, ◌-◌, ◌++◌, [], zero, refl, sym, subst, ap, ◌∙◌, arith}
use Rattle.asp_model.specs.Replay.{steps_from}
use Rattle.replay_parts.specs.Bounds.{count_within, lists_within}
use Rattle.replay_population.specs.Reached.{IsReachedPopulation}
use Rattle.replay_one.specs.Round.{IsStepped, seen_in}
use Rattle.replay_one.specs.Told.{AreToldInStep, notes_by}
use Rattle.replay_one.proofs.NoteLemmas.{none_noted, told_all, told_more}
use Rattle.replay_parts.proofs.NoteLemmas.{told_quiet}
use Rattle.replay_one.proofs.RunLemmas.{has_ended, noted_on, reached_population}
use Rattle.replay_one.proofs.round.Machine.run.Goals as goal

pub step-requires-clause-running : goal.step-requires-clause-running
step-requires-clause-running g c =
    let r = c.requires.running in
    let i = c.loop-left.invariant.1 r.0 r.1 r.2 in
    (r.0, i.0, i.1)

pub returns-in_default : goal.returns-in_default
returns-in_default g c = record {
  runs = λ program k h.
      let b = c.args.bounds.now in
      let i = c.loop-left.invariant.1 program k h in
      let s = subst (λ o. IsStepped b program i.0 c.loop-left.left o c.step.new.self) c.in_default.is (c.in_ok-taken.ensures.steps program i.0 i.1) in
      let end = sym (has_ended c.loop-left.left (lists_within b) (count_within b) i.0 s.0) ∙ i.2 in
      subst (IsReachedPopulation c.step.new.self.population program) end (record { bare = i.1.bare; reached = i.1.reached; population = s.1 });
  told = λ program k xs h t.
      let b = c.args.bounds.now in
      let i = c.loop-left.invariant.1 program k h in
      let s = subst (λ o. IsStepped b program i.0 c.loop-left.left o c.step.new.self) c.in_default.is (c.in_ok-taken.ensures.steps program i.0 i.1) in
      let so = i.3 xs t in
      let told = subst (AreToldInStep (g.N.Notes.tells c.step.new.notes) (xs ++ so.0) b i.0) c.in_default.is (c.in_ok-taken.ensures.told program i.0 (xs ++ so.0) i.1 so.1) in
      told_all (g.N.Notes.tells c.step.new.notes) xs so.0 (notes_by b c.loop-left.left i.0) (notes_by b c.args.total k) (none_noted (lists_within b) (count_within b) c.loop-left.left i.0 s.0) so.2 told;
  order = c.in_ok-taken.ensures.order;
}

pub overflow_sub-left : goal.overflow_sub-left
overflow_sub-left g c =
    let r = c.requires.running in
    let i = c.loop-left.invariant.1 r.0 r.1 r.2 in
    (subst (λ o. IsStepped c.args.bounds.now r.0 i.0 c.loop-left.left o c.step.new.self) c.in-Some.is (c.in_ok-taken.ensures.steps r.0 i.0 i.1)).within

pub loop-left-smaller : goal.loop-left-smaller
loop-left-smaller g c =
    let r = c.requires.running in
    let i = c.loop-left.invariant.1 r.0 r.1 r.2 in
    let s = subst (λ o. IsStepped c.args.bounds.now r.0 i.0 c.loop-left.left o c.step.new.self) c.in-Some.is (c.in_ok-taken.ensures.steps r.0 i.0 i.1) in
    omega (arith, s.some, s.within)

pub loop-left-preserved : goal.loop-left-preserved
loop-left-preserved g c = (
  c.in_ok-taken.ensures.order,
  λ program k h.
      let b = c.args.bounds.now in
      let i = c.loop-left.invariant.1 program k h in
      let left = c.loop-left.left in
      let taken = c.in-Some.taken in
      let s = subst (λ o. IsStepped b program i.0 left o c.step.new.self) c.in-Some.is (c.in_ok-taken.ensures.steps program i.0 i.1) in
      let whole : taken + (left - taken) ≡ left = omega (arith, s.within) in (
        s.then,
        s.run,
        sym (s.leads (left - taken)) ∙ ap (λ j. steps_from j (lists_within b) (count_within b) i.0) whole ∙ i.2,
        (λ xs t.
            let so = i.3 xs t in
            let told = subst (AreToldInStep (g.N.Notes.tells c.step.new.notes) (xs ++ so.0) b i.0) c.in-Some.is (c.in_ok-taken.ensures.told program i.0 (xs ++ so.0) i.1 so.1) in
            told_more (g.N.Notes.tells c.step.new.notes) xs so.0 (notes_by b taken i.0) (notes_by b (left - taken) s.then) (notes_by b c.args.total k)
            (ap (λ ys. so.0 ++ ys) (sym (noted_on b i.0 s.then taken (left - taken) s.leads) ∙ ap (λ j. notes_by b j i.0) whole) ∙ so.2) told),
      ),
)

pub returns : goal.returns
returns g c = record {
  runs = λ program k h.
      let b = c.args.bounds.now in
      let i = c.loop-left.invariant.1 program k h in
      let none : c.loop-left.left ≡ zero = omega (arith, c.loop-left-test.false) in
      let end = ap (λ j. steps_from j (lists_within b) (count_within b) i.0) (sym none) ∙ i.2 in
      subst (IsReachedPopulation c.loop-left.self.population program) end (reached_population b c.loop-left.self.population (seen_in c.loop-left.self) program i.0 i.1);
  told = λ program k xs h t.
      let b = c.args.bounds.now in
      let i = c.loop-left.invariant.1 program k h in
      let none : c.loop-left.left ≡ zero = omega (arith, c.loop-left-test.false) in
      let so = i.3 xs t in
      told_all (g.N.Notes.tells c.loop-left.notes) xs so.0 (notes_by b c.loop-left.left i.0) (notes_by b c.args.total k) (ap (λ j. notes_by b j i.0) none) so.2 so.1;
  order = c.loop-left.invariant.0;
}

pub loop-left-init : goal.loop-left-init
loop-left-init g c = (c.requires.order, λ program k h. (k, h, refl, (λ xs t. ([], told_quiet (g.N.Notes.tells c.args.notes.now) xs [] refl t, refl))))
