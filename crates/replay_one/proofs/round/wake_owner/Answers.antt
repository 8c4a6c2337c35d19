use Rattle.std.proofs.Common.{◌≡◌, ◌∙◌, ℕ, Some, None, List, slice_get, sym, ap, subst}
use Rattle.asp_model.specs.Shapes.{reception_shape}
use Rattle.asp_model.specs.Configuration.{ReceptionShape}
use Rattle.asp_model.specs.Names.{Name}
use Rattle.def_journals.specs.Journals.{number_of}
use Rattle.law_chases.proofs.FutureLemmas.{none_true, some_is}
use Rattle.law_schedules.specs.Schedules.{IsOf}
use Rattle.replay_parts.proofs.RosterLemmas.{number_named, number_within}
use Rattle.replay_one.specs.Schedule.{if_number, sends_at}
use Rattle.replay_one.proofs.LookLemmas.{of_one}
use Rattle.replay_one.proofs.round.wake_owner.Goals as goal

-- whose the reception is
owner_is : (ns : List Name) (n m owner q : Name) (to : ℕ) → slice_get ns to ≡ Some m → number_of n ns ≡ Some to → (x : ReceptionShape) → IsOf owner m x → IsOf q n x → owner ≡ q
owner_is ns n m owner q to at has x mine theirs =
    let same : n ≡ m = some_is (sym (number_named ns n to has) ∙ at) in
    of_one owner q m x mine (subst (λ (w : Name). IsOf q w x) same theirs)

pub wake_sender-requires : goal.wake_sender-requires
wake_sender-requires c = record { known = number_within c.args.roster.now c.owner_of.result.now c.in-Some.number (sym c.in-Some.ensures.number) }

pub returns-in-Some-clause-owner : goal.returns-in-Some-clause-owner
returns-in-Some-clause-owner c = λ n q has theirs sends.
    let ns : List Name = c.args.roster.now in
    let same = owner_is ns n c.name.result.now c.owner_of.result.now q c.args.to c.name.ensures.name has (reception_shape c.args.reception.now) c.owner_of.ensures theirs in
    let number : number_of q ns ≡ Some c.in-Some.number = ap (λ (m : Name). number_of m ns) (sym same) ∙ sym c.in-Some.ensures.number in
    c.wake_sender.ensures.ready q n number has sends

pub returns-in-None-clause-owner : goal.returns-in-None-clause-owner
returns-in-None-clause-owner c = λ n q has theirs sends.
    let ns : List Name = c.args.roster.now in
    let same = owner_is ns n c.name.result.now c.owner_of.result.now q c.args.to c.name.ensures.name has (reception_shape c.args.reception.now) c.owner_of.ensures theirs in
    let none : number_of q ns ≡ None = ap (λ (m : Name). number_of m ns) (sym same) ∙ sym c.in-None.ensures.number in
    absurd (none_true (sym (ap (λ o. if_number o (λ k. sends_at c.args.schedule.now.watches.items k (number_of n ns))) none) ∙ sends))
