use Rattle.std.proofs.Common.{◌≡◌, ◌∙◌, length, get_or, ◌<◌, ◌≤◌, ℕ, Option, Some, None, refl, sym, ap, subst, arith}
use Rattle.std.proofs.lemmas.Option.{slice_get-get_or, slice_get_past}
use Rattle.std.specs.Global.{Box}
use Rattle.law_chases.proofs.FutureLemmas.{some_is}
use Rattle.future_table.specs.Values.{AreOfCode}
use Rattle.step_activity.specs.declared.actor.Actor.{Actor}
use Rattle.step_activity.specs.Actors.{IsClosedFor, code_of}
use Rattle.step_activity.specs.Found.{IsFoundFor}
use Rattle.replay_population.specs.declared.population.Population.{Population}
use Rattle.replay_population.specs.Population.{seat_at, seated}
use Rattle.replay_parts.proofs.RosterLemmas.{number_named, number_within}
use Rattle.replay_population.proofs.PopulationLemmas.{acted, actor_closed, found_at, nobody_acts, seat_set, values_closed, values_coded}
use Rattle.replay_population.proofs.population.Population.act_found.Goals as goal

-- who stands in the seat
seat : (p : Population) (k : ℕ) (o d : Option (Box Actor)) → o ≡ get_or p.activities.items k d → k < length p.activities.items → (b : Option (Box Actor)) → o ≡ b → seat_at p.activities.items k ≡ seated (Some b)
seat p k o d e lt b is = ap seated (slice_get-get_or p.activities.items k d lt ∙ ap Some (sym e ∙ is))

pub name-name-requires : goal.name-name-requires
name-name-requires c = let n = c.requires.known in record { within = number_within c.args.self.now.roster n.0 c.args.number n.1 }

pub act_found-requires-clause-closed : goal.act_found-requires-clause-closed
act_found-requires-clause-closed c =
    let p : Population = c.args.self.now in
    let r = c.requires.closed in
    let n = c.requires.known in
    let lt : c.args.number < length p.activities.items = omega (arith, c.if-place-len.false, c.len.ensures) in
    let at = seat p c.args.number c.index_mut.result.now c.index_mut.result.now c.index_mut.ensures.value lt (Some c.in-Some.actor) c.in-Some.is in
    subst IsClosedFor (sym c.as_mut.ensures.value) (actor_closed p r.0 n.0 c.in-Some.actor.value r.1 (found_at p n.0 c.args.number n.1 ∙ at))

pub act_found-requires-clause-values : goal.act_found-requires-clause-values
act_found-requires-clause-values c = let r = c.requires.closed in values_closed c.args.self.now r.0 r.1

pub act_found-requires-clause-code : goal.act_found-requires-clause-code
act_found-requires-clause-code c =
    let p : Population = c.args.self.now in
    let r = c.requires.closed in
    let n = c.requires.known in
    let lt : c.args.number < length p.activities.items = omega (arith, c.if-place-len.false, c.len.ensures) in
    let at = seat p c.args.number c.index_mut.result.now c.index_mut.result.now c.index_mut.ensures.value lt (Some c.in-Some.actor) c.in-Some.is in
    subst (λ x. AreOfCode (code_of x) p.futures) (sym c.as_mut.ensures.value) (values_coded p r.0 n.0 c.in-Some.actor.value r.1.population (found_at p n.0 c.args.number n.1 ∙ at))

pub act_found-requires-clause-found : goal.act_found-requires-clause-found
act_found-requires-clause-found c =
    let p : Population = c.args.self.now in
    let lt : c.args.number < length p.activities.items = omega (arith, c.if-place-len.false, c.len.ensures) in
    let at = seat p c.args.number c.index_mut.result.now c.index_mut.result.now c.index_mut.ensures.value lt (Some c.in-Some.actor) c.in-Some.is in
    subst (λ x. IsFoundFor x c.args.found) (sym c.as_mut.ensures.value) (c.requires.found c.in-Some.actor.value at)

pub returns-then-place-len-clause-acts : goal.returns-then-place-len-clause-acts
returns-then-place-len-clause-acts c = λ k e n h has intends.
    let p : Population = c.args.self.now in
    let past : length p.activities.items ≤ c.args.number = omega (arith, c.if-place-len.true, c.len.ensures) in
    nobody_acts p k n e h (found_at p n c.args.number has ∙ ap seated (slice_get_past p.activities.items c.args.number past)) intends

pub returns-in-None-clause-acts : goal.returns-in-None-clause-acts
returns-in-None-clause-acts c = λ k e n h has intends.
    let p : Population = c.args.self.now in
    let lt : c.args.number < length p.activities.items = omega (arith, c.if-place-len.false, c.len.ensures) in
    let at = seat p c.args.number c.index_mut.result.now c.index_mut.result.now c.index_mut.ensures.value lt None c.in-None.is in
    nobody_acts p k n e h (found_at p n c.args.number has ∙ at) intends

pub returns-in-Some-clause-acts : goal.returns-in-Some-clause-acts
returns-in-Some-clause-acts c = λ k e n h has intends.
    let p : Population = c.args.self.now in
    let x : Actor = c.as_mut.result.now in
    let new : Actor = c.act_found.new.self in
    let y : Box Actor = record c.in-Some.actor { value = new } in
    let lt : c.args.number < length p.activities.items = omega (arith, c.if-place-len.false, c.len.ensures) in
    let there = seat p c.args.number c.index_mut.result.now c.index_mut.result.now c.index_mut.ensures.value lt (Some c.in-Some.actor) c.in-Some.is in
    let here : seat_at p.activities.items c.args.number ≡ Some x = there ∙ ap Some (sym c.as_mut.ensures.value) in
    let name : c.name-name.result.now ≡ n = some_is (sym c.name-name.ensures.name ∙ number_named p.roster n c.args.number has) in
    acted c.act_found.result p _ k e n c.name-name.result.now c.args.number x new h has intends here (seat_set p _ c.args.number y lt refl refl) name c.act_found.ensures.acts c.act_found.ensures.log c.act_found.ensures.given c.act_found.ensures.code
