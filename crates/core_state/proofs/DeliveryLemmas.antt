-- A core to one of whose activities a value was delivered.
use Rattle.std.proofs.Common.{◌≡◌, ◌≢◌, ◌≤◌, ◌<◌, ◌++◌, ◌∷◌, [], ℕ, List, Option, Some, None, length, slice_get, refl, sym, ap, subst, ◌∙◌, arith}
use Rattle.asp_model.specs.Configuration.{Activity, log_of, requests_of}
use Rattle.asp_model.specs.History.{Delivered, DeliveryShape, EntryShape, HistoryShape, with_entry}
use Rattle.asp_model.specs.Names.{Name, name_cmp}
use Rattle.asp_model.specs.Step.{name_at}
use Rattle.asp_model.specs.Store.{Store}
use Rattle.core_state.proofs.KeptLemmas.{numbered_then, whole_then}
use Rattle.def_journals.specs.Journals.{RunShape, entered, grant_of}
use Rattle.law_chases.proofs.MapLemmas as Maps
use Rattle.law_steps.proofs.NameLemmas.{name_same, name_total}
use Rattle.law_chases.proofs.FutureLemmas.{some_is}
use Rattle.law_journals.specs.Entered.{IsIn, with_store_of}
use Rattle.law_journals.specs.Leases.{bursts_in}
use Rattle.law_journals.proofs.BurstLemmas.{bursts_are_counted, leases_last}
use Rattle.law_journals.proofs.GrowingLemmas.{entries_go_on}
use Rattle.code_table.specs.declared.code.Node.{Node}
use Rattle.future_table.specs.Values.{AreOfCode, values_of}
use Rattle.request_queue.specs.declared.request.Request.{Request}
use Rattle.core_ranks.specs.Ranks.{IsRanked, OthersStay, RankShape}
use Rattle.core_seats.specs.Seats.{AreSeats, In, Out, SeatShape, names_in, seat_at, seats_in, with_seat}
use Rattle.core_state.specs.Journal.{entries_in, room}
use Rattle.step_activity.specs.declared.actor.Actor.{Actor}
use Rattle.step_activity.specs.Actors.{Stands, code_of, log_in}
use Rattle.law_core.specs.Ranked.{rank_in}
use Rattle.law_core.specs.Runs.{rank_named, rank_of_number, rank_unless_out}
use Rattle.law_core.proofs.RankLemmas.{writes_keep_ranks}
use Rattle.core_state.specs.declared.state.CoreState.{CoreState}
use Rattle.core_state.specs.Cores.{IsCore, IsHere, IsSeated}
use Rattle.core_seats.proofs.SeatLemmas.{length_set}
use Rattle.core_state.proofs.ComeBackLemmas.{count_few}
use Rattle.core_state.proofs.ListLemmas.{got_other, got_set, number_case}

none_more : (entries : List EntryShape) (d : DeliveryShape) → bursts_in (entries ++ Delivered d ∷ []) ≡ bursts_in entries
none_more entries d = omega (arith, (bursts_are_counted entries).0 (Delivered d))

-- so much was changed
pub record Delivers (x y : CoreState) (k : ℕ) (d : DeliveryShape) (a : Actor) (rank : RankShape) : Type 0 where
  pub seats : seats_in y.seats ≡ with_seat (seats_in x.seats) k (In a)
  pub names : names_in y.seats ≡ names_in x.seats
  pub kept : AreSeats y.seats
  pub here : IsRanked y.ranks k rank
  pub others : OthersStay k x.ranks y.ranks
  pub futures : y.futures ≡ x.futures
  pub entries : entries_in y.journal ≡ entries_in x.journal ++ Delivered d ∷ []
  pub room : length (seats_in x.seats) ≤ room y.journal
  pub left : y.left ≡ x.left
  pub bursts : y.bursts ≡ x.bursts

module _ (h : HistoryShape) (code : List Node) (x y : CoreState) (s : RunShape) (core : IsCore h code x s) (k : ℕ) (n : Name) (b : Activity) (here : IsIn s k n b) (store : Store) (d : DeliveryShape) (goes : entered (Delivered d) s ≡ Some (with_store_of s n b store)) (a : Actor) where
  abbrev t : RunShape
  t = with_store_of s n b store

  abbrev filled : Activity
  filled = record b { store = store }

  abbrev now : HistoryShape
  now = with_entry h (Delivered d)

  other_name : (j : ℕ) (m : Name) → j ≢ k → name_at s.names j ≡ Some m → m ≢ n
  other_name j m apart is same = apart (core.numbered.apart j k n (is ∙ ap Some same) here.named)

  -- Ranks

  own_rank : rank_of_number t k ≡ rank_in t.configuration n
  own_rank = ap (rank_named t k) here.named ∙ ap (rank_unless_out t n) here.free

  others_rank : (j : ℕ) → j ≢ k → rank_of_number t j ≡ rank_of_number s j
  others_rank j apart = by (name_at s.names j) refl
    where
      by_grant : (m : Name) → m ≢ n → (o : Option ℕ) → rank_unless_out t m o ≡ rank_unless_out s m o
      by_grant m other None = writes_keep_ranks s.configuration n m filled other
      by_grant m other (Some g) = refl

      by : (o : Option Name) → name_at s.names j ≡ o → rank_named t j o ≡ rank_named s j o
      by None is = refl
      by (Some m) is = by_grant m (other_name j m apart is) (grant_of j s.out)

  -- Seats

  others_seated : (j : ℕ) (m : Name) → m ≢ n → (o : Option (SeatShape Actor Request)) → IsSeated h code s j m o → IsSeated now code t j m o
  others_seated j m other (Some (In z)) seated = record {
    free = seated.free;
    activity = seated.activity;
    there = Maps.find_other name_cmp name_total name_same m n filled s.configuration.activities other ∙ seated.there;
    stands = seated.stands;
    logged = seated.logged;
    coded = seated.coded;
  }
  others_seated j m other (Some (Out came)) seated = record {
    burst = seated.burst;
    run = seated.run;
    lent = leases_last h (Delivered d) j seated.burst seated.run refl seated.lent;
    named = seated.named;
    requests = seated.requests;
    logged = seated.logged;
    coded = seated.coded;
  }
  others_seated j m other None seated = seated

  module _ (stands : Stands a filled (requests_of s.configuration n)) (coded : code_of a ≡ code) (logged : log_in a ≡ log_of s.configuration n) (rank : RankShape) (is : rank ≡ rank_in t.configuration n) (within : k < length (seats_in x.seats)) (c : Delivers x y k d a rank) where
    here_now : (m : Name) → name_at s.names k ≡ Some m → IsHere code t k m a
    here_now m named = subst (λ m. IsHere code t k m a) (some_is (sym here.named ∙ named)) (record {
      free = here.free;
      activity = filled;
      there = Maps.find_same name_cmp name_total name_same n filled s.configuration.activities;
      stands = stands;
      logged = logged;
      coded = coded;
    })

    seat_k : seat_at y.seats k ≡ Some (In a)
    seat_k = ap (λ seats. slice_get seats k) c.seats ∙ got_set (seats_in x.seats) k (In a) within

    seat_j : (j : ℕ) → j ≢ k → seat_at y.seats j ≡ seat_at x.seats j
    seat_j j apart = ap (λ seats. slice_get seats j) c.seats ∙ got_other (seats_in x.seats) k j (In a) apart

    all_seated : (j : ℕ) (m : Name) → name_at s.names j ≡ Some m → IsSeated now code t j m (seat_at y.seats j)
    all_seated j m named = number_case j k
        (λ same. subst (λ i. IsSeated now code t i m (seat_at y.seats i)) (sym same) (subst (IsSeated now code t k m) (sym seat_k) (here_now m (ap (name_at s.names) (sym same) ∙ named))))
        (λ apart. subst (IsSeated now code t j m) (sym (seat_j j apart)) (others_seated j m (other_name j m apart named) (seat_at x.seats j) (core.populated.seats j m named)))

    pub delivered_core : IsCore now code y t
    delivered_core = record {
      first = core.first;
      whole = whole_then (Delivered d) s t goes core.whole;
      numbered = numbered_then (Delivered d) s t goes core.whole.sound core.numbered;
      small = core.small;
      run = entries_go_on h (Delivered d) s core.run ∙ goes;
      entries = c.entries ∙ ap (λ es. es ++ Delivered d ∷ []) core.entries;
      populated = record {
        kept = c.kept;
        names = c.names ∙ core.populated.names;
        seats = all_seated;
        named_out = core.populated.named_out;
        futures = ap values_of c.futures ∙ core.populated.futures;
        values = subst (AreOfCode code) (sym c.futures) core.populated.values;
      };
      ranks = λ j. number_case j k
          (λ same. subst (λ i. IsRanked y.ranks i (rank_of_number t i)) (sym same) (subst (IsRanked y.ranks k) (is ∙ sym own_rank) c.here))
          (λ apart. subst (IsRanked y.ranks j) (sym (others_rank j apart)) (c.others j (rank_of_number s j) apart (core.ranks j)));
      left = c.left ∙ core.left;
      bursts = c.bursts ∙ core.bursts ∙ sym (none_more h.entries d);
      room = omega (arith, count_few (seats_in y.seats), ap length c.seats, length_set (seats_in x.seats) k (In a), c.room);
    }
