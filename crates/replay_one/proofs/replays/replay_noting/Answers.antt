use Rattle.std.proofs.Common.{◌≡◌, ◌≤◌, ◌∙◌, ◌++◌, ℕ, List, Some, None, map, sym, ap, subst}
use Rattle.std.specs.Global.{Vec}
use Rattle.asp_model.specs.declared.limits.TheConstants.{MOST_REDUCTIONS}
use Rattle.asp_model.specs.declared.outcome.Reception.{Reception}
use Rattle.asp_model.specs.Names.{Name}
use Rattle.asp_model.specs.Term.{Tree}
use Rattle.asp_model.specs.Configuration.{start}
use Rattle.asp_model.specs.Outcome.{outcome_of}
use Rattle.asp_model.specs.Replay.{CountsShape, IsLeastDiverging, count_in, replay, steps_from, total}
use Rattle.asp_model.specs.Shapes.{outcome_shape, tree_of}
use Rattle.law_schedules.specs.Divergence.{AreInOrder, divergence_of}
use Rattle.law_schedules.proofs.DivergenceLemmas.{diverges_where_first, fits_where_none_differs}
use Rattle.replay_parts.specs.Rows.{list_shape}
use Rattle.asp_model.specs.Step.{ListsShape}
use Rattle.replay_parts.specs.Listening.{AreToldPlaces}
use Rattle.replay_parts.specs.Notes.{NoteShape, notes_from, replay_notes}
use Rattle.replay_one.proofs.DifferenceLemmas.{divergence_is, in_order, names_of_lists}
use Rattle.replay_parts.proofs.DifferenceLemmas.{difference_in}
use Rattle.replay_one.proofs.replays.replay_noting.Goals as goal

pub sum_of-sum-requires : goal.sum_of-sum-requires
sum_of-sum-requires g c = record { within = subst (λ (cs : CountsShape). total cs ≤ MOST_REDUCTIONS) (sym c.deref.ensures.value) c.requires.replayable.within }

pub run_within-requires : goal.run_within-requires
run_within-requires g c =
    let ls : List (Name × Vec Reception) = c.args.lists.now.entries.items in
    let cs : CountsShape = c.args.counts.now.entries.items in
    let r = c.requires.replayable.ordered in
    record { ascending = (in_order ls (map list_shape ls) (sym (names_of_lists ls)) r.ascending, in_order cs (map list_shape ls) (sym r.names) r.ascending, sym (names_of_lists ls) ∙ r.names) }

pub returns-in-None-clause-fits : goal.returns-in-None-clause-fits
returns-in-None-clause-fits g c =
    let ls : List (Name × Vec Reception) = c.args.lists.now.entries.items in
    let cs : CountsShape = c.args.counts.now.entries.items in
    let t : Tree = tree_of c.args.program.now.program.root in
    let sum : c.sum_of-sum.result ≡ total cs = c.sum_of-sum.ensures ∙ ap total c.deref.ensures.value in
    let outcome : outcome_shape c.in_ok-end.end.outcome ≡ outcome_of (replay t (map list_shape ls) cs) = c.in_ok-end.ensures.outcome ∙ (λ i. outcome_of (steps_from (sum i) (Some (map list_shape ls)) (count_in cs) (start t))) in
    let order : AreInOrder (map list_shape ls) cs = c.requires.replayable.ordered in
    let differs : difference_in c.deref-2.result.now c.deref-3.result.now c.deref-4.result.now ≡ difference_in c.in_ok-end.end.outcome.activities.items ls cs = λ i. difference_in (c.deref-2.ensures.value i) (c.deref-3.ensures.value i) (c.deref-4.ensures.value i) in
    let none : divergence_of t (map list_shape ls) cs ≡ None = divergence_is t c.in_ok-end.end.outcome ls cs outcome ∙ sym (c.in-None.ensures ∙ differs) in
    fits_where_none_differs t (map list_shape ls) cs order none

pub returns-in_ok-copy-in-Some-clause-diverged : goal.returns-in_ok-copy-in-Some-clause-diverged
returns-in_ok-copy-in-Some-clause-diverged g c =
    let ls : List (Name × Vec Reception) = c.args.lists.now.entries.items in
    let cs : CountsShape = c.args.counts.now.entries.items in
    let t : Tree = tree_of c.args.program.now.program.root in
    let sum : c.sum_of-sum.result ≡ total cs = c.sum_of-sum.ensures ∙ ap total c.deref.ensures.value in
    let outcome : outcome_shape c.in_ok-end.end.outcome ≡ outcome_of (replay t (map list_shape ls) cs) = c.in_ok-end.ensures.outcome ∙ (λ i. outcome_of (steps_from (sum i) (Some (map list_shape ls)) (count_in cs) (start t))) in
    let order : AreInOrder (map list_shape ls) cs = c.requires.replayable.ordered in
    let differs : difference_in c.deref-2.result.now c.deref-3.result.now c.deref-4.result.now ≡ difference_in c.in_ok-end.end.outcome.activities.items ls cs = λ i. difference_in (c.deref-2.ensures.value i) (c.deref-3.ensures.value i) (c.deref-4.ensures.value i) in
    let some : divergence_of t (map list_shape ls) cs ≡ Some c.in-Some.name.now = divergence_is t c.in_ok-end.end.outcome ls cs outcome ∙ sym (c.in-Some.ensures ∙ differs) in
    let d = diverges_where_first t (map list_shape ls) cs c.in-Some.name.now order some in
    (subst (IsLeastDiverging t (map list_shape ls) cs) (sym c.in_ok-copy-in-Some.ensures.name) d.0, d.1)

told_so : (tells : List NoteShape → Type 0) (xs : List NoteShape) (t : Tree) (ls : ListsShape) (cs : CountsShape) (sum : ℕ) → sum ≡ total cs
    → AreToldPlaces tells (xs ++ notes_from sum (Some ls) (count_in cs) (start t)) (steps_from sum (Some ls) (count_in cs) (start t)) → AreToldPlaces tells (xs ++ replay_notes t ls cs) (replay t ls cs)
told_so tells xs t ls cs sum same told = subst (λ (k : ℕ). AreToldPlaces tells (xs ++ notes_from k (Some ls) (count_in cs) (start t)) (steps_from k (Some ls) (count_in cs) (start t))) same told

pub returns-in-None-clause-told : goal.returns-in-None-clause-told
returns-in-None-clause-told g c = λ xs t.
    let ls : List (Name × Vec Reception) = c.args.lists.now.entries.items in
    let cs : CountsShape = c.args.counts.now.entries.items in
    told_so (g.N.Notes.tells c.run_within.new.notes) xs (tree_of c.args.program.now.program.root) (map list_shape ls) cs c.sum_of-sum.result (c.sum_of-sum.ensures ∙ ap total c.deref.ensures.value) (c.in_ok-end.ensures.told xs t)
