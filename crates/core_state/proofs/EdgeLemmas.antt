-- A delivery along an edge.
use Rattle.std.proofs.Common.{Option, Some, None, ℕ, ap, ◌∙◌}
use Rattle.std.specs.FinMap.{find}
use Rattle.asp_model.specs.Configuration.{Activity}
use Rattle.asp_model.specs.History.{Edge}
use Rattle.asp_model.specs.Names.{FutureShape, Name, future_cmp}
use Rattle.asp_model.specs.Parcel.{ParcelShape}
use Rattle.asp_model.specs.Store.{Store}
use Rattle.def_journals.specs.Deliveries.{at_holders, holders_from, unpack_each}
use Rattle.def_journals.specs.Journals.{RunShape}
use Rattle.law_steps.specs.Reached.{Edges, Makes}
use Rattle.law_journals.specs.Entered.{with_store_of}
use Rattle.law_journals.specs.Numbered.{AreNumbered}
use Rattle.law_journals.proofs.EntryLemmas.{edges_are_entered}
use Rattle.law_core.proofs.ReceiverLemmas.{deliveries_keep_rank}
use Rattle.core_state.specs.declared.state.CoreState.{CoreState}
use Rattle.core_state.specs.Deliveries.{IsPassed, IsSomePassed}
use Rattle.core_state.proofs.ReceivingLemmas.{Owes, Receives}

module _ (s : RunShape) (numbered : AreNumbered s) (k : ℕ) (f : FutureShape) (from : Name) (passed : IsPassed s k f from) where
  abbrev n : Name
  n = passed.name

  abbrev b : Activity
  b = passed.activity

  abbrev store_then : Store
  store_then = unpack_each b.store (holders_from 0 f b.store) passed.value

  abbrev t : RunShape
  t = with_store_of s n b store_then

  pub made : Makes (Edges f n) s.configuration t.configuration
  made =
      ap (λ (o : Option Activity). elim o [ None ↦ None | Some a ↦ at_holders s.configuration f n a (find future_cmp f s.configuration.futures) ]) passed.here.there
      ∙ ap (λ (o : Option ParcelShape). at_holders s.configuration f n b o) passed.filled

  abbrev edge_receives : Receives s k f (Edge f from n)
  edge_receives = record {
    name = n;
    activity = b;
    here = passed.here;
    value = passed.value;
    has_value = passed.filled;
    store = store_then;
    goes = edges_are_entered s k f from n b passed.value numbered passed.here passed.sender passed.filled;
    move = Edges f n;
    made = made;
    keeps = λ whole not. deliveries_keep_rank s.configuration t.configuration f n whole made not;
  }

-- what a call sees: some history of its core allows it
module _ (x : CoreState) (k : ℕ) (f : FutureShape) (from : Name) (passed : IsSomePassed x k f from) where
  abbrev pub owed_edge : Owes x k f
  owed_edge = record {
    history = passed.0;
    code = passed.1;
    s = passed.2;
    core = passed.3;
    d = Edge f from passed.4.name;
    r = edge_receives passed.2 passed.3.numbered k f from passed.4;
  }
