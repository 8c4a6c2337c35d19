use Rattle.std.proofs.Common.{◌≡◌, ◌≤◌, ◌+◌, ◌∙◌, ℕ, Some, length, slice_get, sym, ap, subst, arith}
use Rattle.std.proofs.IntoIterSteps.{All-taken}
use Rattle.std.proofs.lemmas.Result.{IfOk-weaker}
use Rattle.asp_model.specs.Names.{Name}
use Rattle.def_journals.specs.Journals.{number_of}
use Rattle.replay_population.specs.Population.{unboxed}
use Rattle.replay_parts.specs.Roster.{IsRoster}
use Rattle.replay_population.specs.declared.population.Population.{Population}
use Rattle.replay_population.proofs.PopulationLemmas.{AreTaken, Named, all_taken, none_more, one_more, paired_in}
use Rattle.replay_population.proofs.population.Population.take_all.Goals as goal
use Rattle.replay_population.proofs.population.Population.take_all.Goals.{in-Some+in_ok-name+in_ok-push, in_default}

pub returns-clause-all : goal.returns-clause-all
returns-clause-all c =
    let past : length c.args.self.now.roster ≤ c.loop-number.number = omega (arith, c.loop-number-test.false, c.len-number-end.ensures.len) in
    let xs : Named = c.loop-number.named.items in
    IfOk-weaker c.from_iter.result _ _ (λ m h n.
    let all : h.1 ≡ xs = All-taken h.0 h.1 ((h.3.2 tt).0, (h.3.0, h.3.1, (h.3.2 tt).1)) ∙ h.2.0 in
    ap unboxed (h.4.0 n ∙ ap (λ (ys : Named). paired_in ys n) all) ∙ all_taken c.args.self.now c.loop-number.self xs c.loop-number.number c.loop-number.invariant past n) c.from_iter.ensures.ran

-- the name of a number
name_of : (p q r : Population) (k : ℕ) (n m : Name) → IsRoster p.roster → q ≡ record p { activities = q.activities } → r ≡ record q { activities = r.activities } → slice_get r.roster k ≡ Some m → n ≡ m → number_of n p.roster ≡ Some k
name_of p q r k n m sound same next at is = sound.numbers k n (ap (λ (x : Population). slice_get x.roster k) (sym (next ∙ ap (λ (x : Population). record x { activities = r.activities }) same)) ∙ at ∙ ap Some (sym is))

pub loop-number-preserved : goal.loop-number-preserved
loop-number-preserved c =
    let p : Population = c.args.self.now in
    let q : Population = c.loop-number.self in
    let r : Population = c.take.new.self in
    let t : Named = c.loop-number.named.items in
    let i = c.loop-number.number in
    let was = c.loop-number.invariant in
    let set = c.take.ensures.set in
    let sound = c.len-number-end.ensures.sound in
    elim c.match-take.branch [
      | in-Some+in_ok-name+in_ok-push w ↦
          let n : Name = w.in_ok-name.name in
          let has = name_of p q r i n w.name.result.now sound was.same set.same w.name.ensures.name w.in_ok-name.ensures.name in
          subst (λ (u : Named). AreTaken p r u (i + 1)) (sym (ap (λ v. v.items) w.named-is ∙ w.in_ok-push.ensures.items)) (one_more p q r t i n w.in-Some.actor was w.in-Some.ensures.taken set has)
      | in_default w ↦ subst (λ (u : Named). AreTaken p r u (i + 1)) (sym (ap (λ v. v.items) w.named-is)) (none_more p q r t i c.take.result was c.take.ensures.taken w.in_default.is set)
    ]
