-- A delivery where a value is needed.
use Rattle.std.proofs.Common.{◌≡◌, ◌<◌, Bool, true, false, Option, Some, None, ℕ, length, sym, ap, ◌∙◌}
use Rattle.asp_model.specs.Chase.{chase}
use Rattle.asp_model.specs.Configuration.{Activity}
use Rattle.asp_model.specs.History.{Need}
use Rattle.asp_model.specs.Names.{FutureShape, Name}
use Rattle.asp_model.specs.Parcel.{ParcelShape, unpack_at}
use Rattle.asp_model.specs.Store.{Store, cell}
use Rattle.def_journals.specs.Deliveries.{at_place, value_needed, value_of}
use Rattle.def_journals.specs.Journals.{RunShape}
use Rattle.law_steps.specs.Reached.{HasValue, Makes, Needs}
use Rattle.law_chases.proofs.ChaseLemmas.{chase_finds}
use Rattle.law_steps.proofs.ClosedLaws.{in_store}
use Rattle.law_steps.proofs.DeliveryLemmas.{NeedDone, need_done}
use Rattle.law_chases.proofs.FutureLemmas.{future_itself, some_is}
use Rattle.law_journals.specs.Entered.{with_store_of}
use Rattle.law_journals.specs.Numbered.{AreNumbered}
use Rattle.law_journals.proofs.EntryLemmas.{needs_are_entered}
use Rattle.law_core.proofs.ReceiverLemmas.{needs_keep_rank}
use Rattle.core_state.specs.declared.state.CoreState.{CoreState}
use Rattle.core_state.specs.Deliveries.{IsNeeded, IsSomeNeed}
use Rattle.core_state.proofs.ReceivingLemmas.{Owes, Receives}

module _ (s : RunShape) (numbered : AreNumbered s) (k place : ℕ) (f : FutureShape) (need : IsNeeded s k place f) where
  abbrev n : Name
  n = need.name

  abbrev b : Activity
  b = need.activity

  abbrev store_then : Store
  store_then = unpack_at b.store place need.value

  abbrev t : RunShape
  t = with_store_of s n b store_then

  pub made : Makes (Needs f n place) s.configuration t.configuration
  made =
      ap (λ (o : Option Activity). elim o [ None ↦ None | Some a ↦ at_place s.configuration n place a (value_needed (chase s.configuration.futures) f (cell a.store place)) ]) need.here.there
      ∙ ap (λ (o : Option ParcelShape). at_place s.configuration n place b o) need.needed

  done : NeedDone s.configuration f n place t.configuration
  done = need_done s.configuration f n place t.configuration made

  receiver : b ≡ done.receiver
  receiver = some_is (sym need.here.there ∙ done.at)

  same_value : need.value ≡ done.value
  same_value = some_is (
      sym need.needed
      ∙ ap (λ (a : Activity). value_needed (chase s.configuration.futures) f (cell a.store place)) receiver
      ∙ ap (value_needed (chase s.configuration.futures) f) done.holds
      ∙ ap (value_of f) done.chased
      ∙ ap (λ (is : Bool). elim is [ true ↦ Some done.value | false ↦ None ]) (future_itself f)
      )

  pub has_value : HasValue s.configuration f need.value
  has_value = (chase_finds s.configuration.futures done.held f done.value done.chased).0 ∙ ap Some (sym same_value)

  -- the place is in the store
  within : place < length b.store
  within = in_store b.store place done.held (ap (λ (a : Activity). cell a.store place) receiver ∙ done.holds)

  abbrev need_receives : Receives s k f (Need f n place)
  need_receives = record {
    name = n;
    activity = b;
    here = need.here;
    value = need.value;
    has_value = has_value;
    store = store_then;
    goes = needs_are_entered s k f n place b need.value numbered need.here need.needed;
    move = Needs f n place;
    made = made;
    keeps = λ whole not. needs_keep_rank s.configuration t.configuration f n place whole made not;
  }

-- what a call sees: some history of its core has the need
module _ (x : CoreState) (k place : ℕ) (f : FutureShape) (need : IsSomeNeed x k place f) where
  abbrev pub owed_need : Owes x k f
  owed_need = record {
    history = need.0;
    code = need.1;
    s = need.2;
    core = need.3;
    d = Need f need.4.name place;
    r = need_receives need.2 need.3.numbered k place f need.4;
  }

  pub place_within : place < length need.4.activity.store
  place_within = within need.2 need.3.numbered k place f need.4
