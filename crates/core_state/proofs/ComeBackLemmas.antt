-- A core whose lease has come back.
use Rattle.std.proofs.Common.{◌≡◌, ◌≢◌, ◌-◌, ◌+◌, ◌<◌, ◌≤◌, ◌^◌, ◌++◌, ◌∷◌, [], ℕ, Bool, false, List, Option, Some, None, length, map, slice_get, refl, sym, ap, subst, ◌∙◌, arith}
use Rattle.std.proofs.lemmas.List.{append-nil, append_assoc, map-append}
use Rattle.std.specs.List.{AllByRecursion}
use Rattle.asp_model.specs.Chase.{Values, chase}
use Rattle.asp_model.specs.Configuration.{Activity, Configuration, RequestShape, log_of, requests_of}
use Rattle.asp_model.specs.History.{HistoryShape, Committed, with_entry}
use Rattle.asp_model.specs.Intent as intents
use Rattle.asp_model.specs.Intent.{Acts, Intent, intent}
use Rattle.asp_model.specs.Names.{Name, FutureShape, name_cmp}
use Rattle.law_journals.specs.Budgets.{granted_in, most_in, spent_in}
use Rattle.core_state.proofs.KeptLemmas.{numbered_then, whole_then}
use Rattle.law_journals.specs.Leases.{receptions_of}
use Rattle.def_journals.specs.Communications.{is_communication}
use Rattle.def_journals.specs.Journals.{RunShape, entered, run_of}
use Rattle.def_journals.specs.Owed.{need_of}
use Rattle.law_journals.proofs.BudgetLemmas.{budgets_are_kept}
use Rattle.law_steps.specs.Closed.{IsClosed}
use Rattle.law_chases.proofs.MapLemmas as Maps
use Rattle.law_steps.proofs.NameLemmas.{name_total, name_same}
use Rattle.law_journals.proofs.BurstLemmas.{bursts_are_counted}
use Rattle.law_journals.proofs.GrowingLemmas.{entries_go_on}
use Rattle.law_core.specs.Commits.{returned, with_activity}
use Rattle.law_core.proofs.CommitLemmas.{runs_are_commits}
use Rattle.code_table.specs.declared.code.Node.{Node}
use Rattle.future_table.specs.Values.{AreOfCode, values_of}
use Rattle.step_reads.specs.Values.{AreClosedValues}
use Rattle.request_queue.specs.declared.request.Request.{Request}
use Rattle.request_queue.specs.Requests.{request_shape}
use Rattle.core_ranks.specs.Ranks.{Rests, IsRanked, OthersStay, RankShape}
use Rattle.core_seats.specs.Seats.{AreSeats, In, Out, SeatShape, names_in, seat_at, seats_in, with_seat}
use Rattle.core_state.specs.Journal.{entries_in, room}
use Rattle.step_activity.specs.declared.actor.Actor.{Actor}
use Rattle.step_activity.specs.Actors.{IsClosedFor, Stands, code_of, log_in}
use Rattle.step_activity.specs.Stances as stances
use Rattle.law_core.specs.Ranked.{rank_by, rank_in, rank_of, rank_unless}
use Rattle.law_core.specs.Runs.{rank_of_number}
use Rattle.core_state.specs.declared.lease.Lease.{Lease}
use Rattle.core_state.specs.declared.state.CoreState.{CoreState}
use Rattle.core_state.specs.Leases.{IsLease}
use Rattle.core_state.specs.Returning.{IsReturning, IsRunCommitted, rank_stance}
use Rattle.core_state.specs.Cores.{IsCore, IsPopulated, IsSeated, count_in}
use Rattle.core_seats.proofs.SeatLemmas.{length_set}
use Rattle.core_state.proofs.ListLemmas.{got_other, got_set, got_within, number_case}
use Rattle.core_state.proofs.PopulateLemmas.{comes_back}
use Rattle.core_state.proofs.ReturnLemmas.{box, has_run, logged, requests}
use Rattle.core_state.proofs.ReturnRankLemmas.{own_rank, run_ranks}

-- no more are in than there are
pub count_few : {X R : Type 0} (seats : List (SeatShape X R)) → count_in seats ≤ length seats
count_few [] = omega arith
count_few (In x ∷ seats) = omega (arith, count_few seats)
count_few (Out came ∷ seats) = omega (arith, count_few seats)

-- so much was changed
pub record Returns (x y : CoreState) (k r rest : ℕ) (a : Actor) (rank : RankShape) : Type 0 where
  pub seats : seats_in y.seats ≡ with_seat (seats_in x.seats) k (In a)
  pub names : names_in y.seats ≡ names_in x.seats
  pub kept : AreSeats y.seats
  pub here : IsRanked y.ranks k rank
  pub others : OthersStay k x.ranks y.ranks
  pub futures : y.futures ≡ x.futures
  pub entries : entries_in y.journal ≡ entries_in x.journal ++ Committed k r ∷ []
  pub room : room x.journal ≤ room y.journal + 1
  pub left : x.left + rest < 2 ^ 64 → y.left ≡ x.left + rest
  pub bursts : y.bursts ≡ x.bursts

module _ (h : HistoryShape) (code : List Node) (x y : CoreState) (s : RunShape) (k : ℕ) (n : Name) (grant taken : ℕ) (a : Actor) (r : IsReturning h code x s k n grant taken a) where
  abbrev d : Configuration
  d = with_activity n r.end s.configuration

  abbrev now : HistoryShape
  now = with_entry h (Committed k taken)

  abbrev t : RunShape
  t = returned s k (grant - taken) d []

  goes : entered (Committed k taken) s ≡ Some t
  goes = runs_are_commits s k grant n taken r.end r.has_run r.within

  runs : run_of now ≡ Some t
  runs = entries_go_on h (Committed k taken) s r.run ∙ goes

  still_small : s.left + (grant - taken) < 2 ^ 64
  still_small =
      let kept : spent_in d + (t.left + granted_in t.out) ≡ most_in h = budgets_are_kept now t r.first.sound runs in
      omega (arith, kept, r.small)

  pub run_back : (rank : RankShape) → rank ≡ rank_in d n → Returns x y k taken (grant - taken) a rank → IsRunCommitted h code s k n grant taken r.end y
  run_back rank is c = record {
    first = r.first;
    whole = whole_then (Committed k taken) s t goes r.whole;
    numbered = numbered_then (Committed k taken) s t goes r.whole.sound r.numbered;
    small = r.small;
    run = runs;
    entries = c.entries ∙ ap (λ es. es ++ Committed k taken ∷ []) r.entries;
    populated = subst (IsPopulated now code y) same_run (comes_back h code x y s k r.populated r.numbered n r.has_run.named a r.end s.configuration.logs (λ m apart. refl) taken (s.left + (grant - taken))
        (got_within (seats_in x.seats) k (Out []) r.away) c.seats c.names c.kept c.futures r.stands r.coded r.logged);
    ranks = λ j. number_case j k
        (λ same. subst (λ i. IsRanked y.ranks i (rank_of_number t i)) (sym same) (subst (IsRanked y.ranks k) (is ∙ sym (own_rank s r.numbered k n r.has_run.named d [] (s.left + (grant - taken)))) c.here))
        (λ apart. subst (IsRanked y.ranks j) (sym (run_ranks s r.numbered k n r.has_run.named r.end (s.left + (grant - taken)) j apart)) (c.others j (rank_of_number s j) apart (r.ranks j)));
    left = c.left (subst (λ l. l + (grant - taken) < 2 ^ 64) (sym r.left) still_small) ∙ ap (λ l. l + (grant - taken)) r.left;
    bursts = omega (arith, c.bursts, r.bursts, (bursts_are_counted h.entries).0 (Committed k taken));
    room = omega (arith, count_few (seats_in y.seats), ap length c.seats, length_set (seats_in x.seats) k (In a), r.room, c.room);
  }
    where
      same_run : record { configuration = d; names = s.names; left = s.left + (grant - taken); out = t.out } ≡ t
      same_run = ap (λ ns. record { configuration = d; names = ns; left = s.left + (grant - taken); out = t.out }) (sym (append-nil s.names))

-- What the calls see

-- the rank of one that was written
pub rank_written : (c : Configuration) (n : Name) (b : Activity) → rank_in (with_activity n b c) n ≡ rank_of c.futures (requests_of c n) n b
rank_written c n b = ap (λ (o : Option Activity). elim o [ None ↦ Rests | Some a ↦ rank_of c.futures (requests_of c n) n a ]) (Maps.find_same name_cmp name_total name_same n b c.activities)

-- where one stands, as its rank
stance_rank_by : (values : Values) (o : Option (FutureShape × ℕ)) (b : Bool) (p : Intent) → rank_stance values (elim o [ Some x ↦ stances.Needs x.0 x.1 | None ↦ stances.stance_by b p ]) ≡ rank_unless o (rank_by values p)
stance_rank_by values (Some x) b p = refl
stance_rank_by values None b (Acts e) = refl
stance_rank_by values None b (intents.Rests status) = refl

pub stance_rank : (values : Values) (rs : List RequestShape) (n : Name) (a : Activity) → rank_stance values (stances.stance_of (chase values) rs n a) ≡ rank_of values rs n a
stance_rank values rs n a = stance_rank_by values (need_of (chase values) a) (is_communication (chase values) a) (intent (chase values) rs n a)

module _ (h : HistoryShape) (code : List Node) (x : CoreState) (s : RunShape) (k : ℕ) (n : Name) (grant taken : ℕ) (a : Actor) (r : IsReturning h code x s k n grant taken a) where
  closed_then : IsClosed (with_activity n r.end s.configuration)
  closed_then = (whole_then (Committed k taken) s (returned s k (grant - taken) (with_activity n r.end s.configuration) []) (goes h code x x s k n grant taken a r) r.whole).closed

  pub back_closed : IsClosedFor a
  back_closed = record {
    activity = r.end;
    received = requests_of s.configuration n;
    stands = r.stands;
    closed = closed_then.activities n r.end (Maps.find_same name_cmp name_total name_same n r.end s.configuration.activities);
    arguments = closed_then.arguments n;
  }

  pub back_values : AreClosedValues (values_of x.futures)
  back_values = subst AreClosedValues (sym r.populated.futures) closed_then.values

-- A box is emptied

pub all_at : {A : Type 0} (P : A → Type 0) (xs ys : List A) (y : A) → AllByRecursion P (xs ++ y ∷ ys) → P y
all_at P [] ys y h = h.0
all_at P (x ∷ xs) ys y h = all_at P xs ys y h.1

pub one_more_came : (rs : List RequestShape) (before : List Request) (r : Request) → (rs ++ map request_shape before) ++ request_shape r ∷ [] ≡ rs ++ map request_shape (before ++ r ∷ [])
one_more_came rs before r = append_assoc rs (map request_shape before) (request_shape r ∷ []) ∙ ap (λ qs. rs ++ qs) (sym (map-append request_shape before (r ∷ [])))

-- A lease is taken back

-- so much was changed
pub record TakesBack (x y : CoreState) (k : ℕ) : Type 0 where
  pub seats : seats_in y.seats ≡ with_seat (seats_in x.seats) k (Out [])
  pub names : names_in y.seats ≡ names_in x.seats
  pub kept : AreSeats y.seats
  pub ranks : y.ranks ≡ x.ranks
  pub futures : y.futures ≡ x.futures
  pub entries : entries_in y.journal ≡ entries_in x.journal
  pub room : length (seats_in x.seats) + 3 ≤ room y.journal
  pub left : y.left ≡ x.left
  pub bursts : y.bursts ≡ x.bursts

module _ (h : HistoryShape) (code : List Node) (x : CoreState) (s : RunShape) (core : IsCore h code x s) (l : Lease) (lease : IsLease h code l) where
  pub lease_known : l.number < length (seats_in x.seats)
  lease_known = got_within (seats_in x.seats) l.number (Out (box h code x s core l lease).0) (box h code x s core l lease).1

  module _ (fresh : l.spent ≡ false) (y : CoreState) (c : TakesBack x y l.number) (a : Actor) where
    seat_j : (j : ℕ) → j ≢ l.number → seat_at y.seats j ≡ seat_at x.seats j
    seat_j j apart = ap (λ seats. slice_get seats j) c.seats ∙ got_other (seats_in x.seats) l.number j (Out []) apart

    pub taken_back : Stands a (lease.done fresh).end (requests_of lease.run.configuration lease.name ++ map request_shape (box h code x s core l lease).0) → code_of a ≡ code
        → log_in a ≡ log_of lease.run.configuration lease.name ++ receptions_of (map request_shape (box h code x s core l lease).0)
        → IsReturning h code y s l.number lease.name l.grant l.taken a
    taken_back stands coded logs = record {
      first = core.first;
      whole = core.whole;
      numbered = core.numbered;
      small = core.small;
      run = core.run;
      entries = c.entries ∙ core.entries;
      populated = record {
        kept = c.kept;
        names = c.names ∙ core.populated.names;
        seats = λ j m apart named. subst (IsSeated h code s j m) (sym (seat_j j apart)) (core.populated.seats j m named);
        named_out = core.populated.named_out;
        futures = ap values_of c.futures ∙ core.populated.futures;
        values = subst (AreOfCode code) (sym c.futures) core.populated.values;
      };
      away = ap (λ seats. slice_get seats l.number) c.seats ∙ got_set (seats_in x.seats) l.number (Out []) lease_known;
      ranks = λ j. subst (λ ranks. IsRanked ranks j (rank_of_number s j)) (sym c.ranks) (core.ranks j);
      left = c.left ∙ core.left;
      bursts = c.bursts ∙ core.bursts;
      room = omega (arith, c.room, ap length c.seats, length_set (seats_in x.seats) l.number (Out []));
      end = (lease.done fresh).end;
      has_run = has_run h code x s core l lease fresh;
      within = lease.within;
      stands = subst (Stands a (lease.done fresh).end) (sym (requests h code x s core l lease)) stands;
      coded = coded;
      logged = logs ∙ sym (logged h code x s core l lease);
    }
