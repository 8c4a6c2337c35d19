use Rattle.std.proofs.Common.{◌≡◌, ◌∙◌, ◌++◌, OnOk, Some, sym, ap, subst}
use Rattle.asp_model.specs.Names.{Name}
use Rattle.asp_model.specs.Shapes.{status_shape}
use Rattle.def_journals.specs.Journals.{number_of}
use Rattle.law_steps.specs.Waking.{labels_wanted}
use Rattle.law_chases.proofs.FutureLemmas.{some_is}
use Rattle.replay_population.specs.declared.population.Population.{Population}
use Rattle.replay_population.proofs.PopulationLemmas.{absent_there, found_at, found_stands}
use Rattle.replay_parts.proofs.ResultLemmas.{any_way, on_ok}
use Rattle.replay_parts.proofs.RosterLemmas.{number_named, number_within}
use Rattle.replay_parts.specs.Notes.{faulted_by, place_of, places_by}
use Rattle.replay_parts.proofs.NoteLemmas.{told_quiet}
use Rattle.replay_one.proofs.TellLemmas.{place_none, told_place}
use Rattle.replay_one.proofs.telling.tell_place.Goals as goal

pub returns-in_default-clause-told : goal.returns-in_default-clause-told
returns-in_default-clause-told g c = λ xs k n pop has t.
    let p : Population = c.args.population.now in
    told_quiet (g.N.Notes.tells c.args.notes.now) xs (place_of k n) (place_none k n (absent_there p k n pop (found_at p n c.args.number has ∙ sym c.in_default.ensures.value))) t

pub name-by-requires : goal.name-by-requires
name-by-requires g c =
    let n = c.requires.known in
    record { within = number_within c.settle.new.self.roster n.0 c.args.number (ap (number_of n.0) c.in_ok-settle.ensures.roster ∙ n.1) }

pub wanted-requires-clause-closed : goal.wanted-requires-clause-closed
wanted-requires-clause-closed g c =
    let r = c.requires.closed in
    let n = c.requires.known in
    (r.0, record { closed = r.1.closed; population = c.in_ok-settle.ensures.same r.0 n.0 r.1.population n.1 })

pub returns-clause-told : goal.returns-clause-told
returns-clause-told g c = λ xs k n pop has t.
    let p : Population = c.args.population.now in
    let q : Population = c.settle.new.self in
    let s = found_stands p k n c.in-Some._actor.now pop (found_at p n c.args.number has ∙ sym c.in-Some.ensures.value) in
    let now : number_of n q.roster ≡ Some c.args.number = ap (number_of n) c.in_ok-settle.ensures.roster ∙ has in
    let settled = c.in_ok-settle.ensures.same k n pop has in
    let m : Name = c.name-by.result.now in
    let name : m ≡ n = some_is (sym c.name-by.ensures.name ∙ number_named q.roster n c.args.number now) in
    let count = c.count-count.ensures.count k s.0 n settled now s.1 in
    let wanted = c.in_ok-wanted.ensures.wanted k s.0 n settled now s.1 in
    let status = c.in_ok-status.ensures.status k n settled now in
    let ys = xs ++ places_by m s.0 (labels_wanted s.0) in
    let served = c.in_ok-tell_serve.ensures.told xs s.0 t count wanted in
    let told = c.tell_fault.ensures.told ys s.0 served count in
    on_ok c.tell_fault.result _ _ (told_place (g.N.Notes.tells c.tell_fault.new.notes) xs k n s.0 (status_shape c.in_ok-status.status) s.1 status)
    (subst (λ (w : Name). OnOk c.tell_fault.result (g.N.Notes.tells c.tell_fault.new.notes ((xs ++ places_by w s.0 (labels_wanted s.0)) ++ faulted_by w s.0 (status_shape c.in_ok-status.status)))) name told)

pub status-requires-clause-closed : goal.status-requires-clause-closed
status-requires-clause-closed g c =
    let r = c.requires.closed in
    let n = c.requires.known in
    (r.0, record { closed = r.1.closed; population = c.in_ok-settle.ensures.same r.0 n.0 r.1.population n.1 })

pub returns-clause-population : goal.returns-clause-population
returns-clause-population g c = λ k pop. let n = c.requires.known in any_way c.tell_fault.result _ (c.in_ok-settle.ensures.same k n.0 pop n.1)
