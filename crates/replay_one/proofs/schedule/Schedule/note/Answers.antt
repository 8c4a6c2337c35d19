use Rattle.std.proofs.Common.{◌≡◌, ◌∙◌, ◌++◌, ◌∷◌, [], ℕ, List, Option, None, Some, ap, refl, sym}
use Rattle.std.specs.Global.{Vec}
use Rattle.std.specs.BTreeMap.{get_by}
use Rattle.asp_model.specs.Names.{Name}
use Rattle.asp_model.specs.Shapes.{future_shape}
use Rattle.def_journals.specs.Journals.{number_of}
use Rattle.replay_one.specs.Schedule.{IsNoted, seen}
use Rattle.replay_one.specs.declared.schedule.Schedule.{Schedule}
use Rattle.replay_one.proofs.ScheduleLemmas.{future_order, noted_more, numbers_or_none}
use Rattle.replay_one.proofs.schedule.Schedule.note.Goals as goal
use Rattle.replay_one.proofs.schedule.Schedule.note.Goals.{in-Some, in-None}

pub returns : goal.returns
returns c =
    let old : Schedule = c.args.self.now in
    let mid : Schedule = record old { awaiting = c.remove.new.self } in
    let numbers : Vec ℕ = c.push.new.self in
    let new : Schedule = record old { awaiting = c.insert.new.self } in
    let pushed : numbers.items ≡ c.match-remove.numbers.items ++ c.args.number ∷ [] = c.in_ok-push.ensures.items in
    let done : (o : Option (Vec ℕ)) → o ≡ get_by (future_order c.args.future) old.awaiting → c.match-remove.numbers.items ≡ numbers_or_none o → (ns : List Name) (n : Name) → number_of n ns ≡ Some c.args.number → IsNoted (seen ns old) (future_shape c.args.future) n (seen ns new) = λ o was is ns n has. noted_more ns old mid new c.args.future n c.args.number o numbers has was c.remove.ensures.updates c.in_ok-insert.ensures.updates (pushed ∙ ap (λ (xs : List ℕ). xs ++ c.args.number ∷ []) is) refl in
    record {
      noted = elim c.match-remove.branch [
        | in-Some w ↦ done (Some w.in-Some.numbers) (sym w.in-Some.is ∙ c.remove.ensures.value) (ap (λ (v : Vec ℕ). v.items) w.numbers-is)
        | in-None w ↦ done None (sym w.in-None.is ∙ c.remove.ensures.value) (ap (λ (v : Vec ℕ). v.items) w.numbers-is ∙ w.new-numbers.ensures.items)
      ];
      ready = refl;
    }
