use Rattle.std.proofs.Common.{◌≡◌, ◌≤◌, ◌<◌, ◌∙◌, ◌++◌, [], ℕ, rules, List, Some, length, slice_get, get_or, refl, ap, subst, take, arith}
use Rattle.std.proofs.lemmas.List.{take_all}
use Rattle.std.proofs.lemmas.Option.{slice_get-get_or}
use Rattle.asp_model.specs.Names.{Name, main_name}
use Rattle.def_journals.specs.Journals.{number_of}
use Rattle.replay_population.specs.declared.population.Population.{Population}
use Rattle.replay_parts.specs.Notes.{places_in}
use Rattle.replay_parts.proofs.NoteLemmas.{told_quiet}
use Rattle.replay_one.proofs.TellLemmas.{names_there, told_next}
use Rattle.replay_one.proofs.telling.tell_places.Goals as goal

pub returns-then-not-listens-clause-told : goal.returns-then-not-listens-clause-told
returns-then-not-listens-clause-told g c = λ xs program k h t.
    let p : Population = c.args.population.now in
    (p.roster, names_there p k h.population, c.listens.ensures.deaf (search rules) xs (xs ++ places_in k p.roster) t)

pub loop-number-init : goal.loop-number-init
loop-number-init g c = (c.requires.closed, refl, (λ k h. h), (λ xs k h t. told_quiet (g.N.Notes.tells c.args.notes.now) xs [] refl t))

-- the name of a number below the length
named : (ns : List Name) (i : ℕ) → i < length ns → slice_get ns i ≡ Some (get_or ns i main_name)
named ns i lt = slice_get-get_or ns i main_name lt

pub tell_place-requires-clause-known : goal.tell_place-requires-clause-known
tell_place-requires-clause-known g c =
    let p : Population = c.args.population.now in
    let i = c.loop-number.number in
    let lt : i < length p.roster = omega (arith, c.loop-number-test.true, c.len-number-end.ensures.len) in
    let n : Name = get_or p.roster i main_name in
    (n, ap (number_of n) c.loop-number.invariant.1 ∙ c.len-number-end.ensures.sound.numbers i n (named p.roster i lt))

pub loop-number-preserved : goal.loop-number-preserved
loop-number-preserved g c =
    let p : Population = c.args.population.now in
    let i = c.loop-number.number in
    let was = c.loop-number.invariant in
    let r = was.0 in
    let lt : i < length p.roster = omega (arith, c.loop-number-test.true, c.len-number-end.ensures.len) in
    let n : Name = get_or p.roster i main_name in
    let is = named p.roster i lt in
    let next = c.in_ok-tell_place.ensures in (
      (r.0, record { closed = r.1.closed; population = next.population r.0 r.1.population }),
      next.roster ∙ was.1,
      (λ k h. next.population k (was.2 k h)),
      (λ xs k h t. told_next (g.N.Notes.tells c.tell_place.new.notes) xs k p.roster i n is (next.told (xs ++ places_in k (take i p.roster)) k n (was.2 k h) (ap (number_of n) was.1 ∙ c.len-number-end.ensures.sound.numbers i n is) (was.3 xs k h t))),
    )

pub returns-clause-told : goal.returns-clause-told
returns-clause-told g c = λ xs program k h t.
    let p : Population = c.args.population.now in
    let i = c.loop-number.number in
    let past : length p.roster ≤ i = omega (arith, c.loop-number-test.false, c.len-number-end.ensures.len) in
    (p.roster, names_there p k h.population, subst (λ ms. g.N.Notes.tells c.loop-number.notes (xs ++ places_in k ms)) (take_all i p.roster past) (c.loop-number.invariant.3 xs k h.population t))
