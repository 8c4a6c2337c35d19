-- A core with one activity lent.
use Rattle.std.proofs.Common.{◌≡◌, ◌≢◌, ◌-◌, ◌+◌, ◌<◌, ◌≤◌, ◌&&◌, ◌++◌, ◌∷◌, [], ℕ, suc, Bool, true, false, min, not, List, Option, Some, None, is_none, length, length-append, ◌^◌, nat_lt, slice_get, refl, sym, ap, subst, ◌∙◌, arith}
use Rattle.std.proofs.lemmas.Bool.{and_parts, lt-ltb, ltb-true}
use Rattle.std.proofs.lemmas.List.{append-nil}
use Rattle.asp_model.specs.Configuration.{log_of, requests_of}
use Rattle.asp_model.specs.History.{EntryShape, HistoryShape, Lent, with_entry}
use Rattle.asp_model.specs.Names.{Name}
use Rattle.asp_model.specs.Status.{is_running, status_of}
use Rattle.asp_model.specs.Step.{name_at}
use Rattle.asp_model.specs.declared.limits.TheConstants.{MOST_GRANTED}
use Rattle.def_journals.specs.Journals.{RunShape, grant_of, granted, may_lend, run_of}
use Rattle.def_journals.specs.Owed.{need_to}
use Rattle.law_chases.proofs.FutureLemmas.{no_some, none_true}
use Rattle.law_journals.specs.Entered.{with_lease}
use Rattle.law_journals.specs.Leases.{IsLentAt, bursts_in}
use Rattle.law_journals.proofs.BurstLemmas.{bursts_are_counted, leases_begin, leases_last}
use Rattle.law_journals.proofs.EntryLemmas.{lends_are_entered}
use Rattle.law_journals.proofs.GrowingLemmas.{entries_go_on}
use Rattle.law_journals.proofs.LeaseLemmas.{leases_stay}
use Rattle.code_table.specs.declared.code.Node.{Node}
use Rattle.future_table.specs.Values.{AreOfCode, values_of}
use Rattle.request_queue.specs.declared.request.Request.{Request}
use Rattle.core_ranks.specs.Numbers.{IsFirst, has_number}
use Rattle.core_ranks.specs.Ranks.{Goes, IsRanked, OthersStay, RankShape, Rests, goes, rested}
use Rattle.core_seats.specs.Seats.{AreSeats, In, IsTaken, Out, SeatShape, names_in, seat_at, seats_in, with_seat}
use Rattle.core_state.specs.Journal.{entries_in, room}
use Rattle.activity_step.specs.Local.{LocalRun}
use Rattle.step_activity.specs.declared.actor.Actor.{Actor}
use Rattle.step_activity.specs.Actors.{Stands, code_of, log_in}
use Rattle.law_core.specs.Runs.{is_ready, may_go, rank_of_number}
use Rattle.law_core.proofs.RunLemmas.{lends_keep_ranks, ranks_tell_ready}
use Rattle.core_state.specs.declared.lease.Lease.{Lease}
use Rattle.core_state.specs.declared.state.CoreState.{CoreState}
use Rattle.core_state.specs.Cores.{IsAway, IsCore, IsHere, IsSeated, count_in}
use Rattle.core_state.specs.Lending.{IsNewLease, IsNextReady}
use Rattle.core_state.proofs.ListLemmas.{got_other, got_set, got_within, number_case, numbers_apart, one_less}

-- Who is ready

pub record Readies (s : RunShape) (k : ℕ) (n : Name) : Type 0 where
  pub named : name_at s.names k ≡ Some n
  pub free : grant_of k s.out ≡ None
  pub running : is_running (status_of s.configuration n) ≡ true
  pub left : 0 < s.left

no_grant : (o : Option ℕ) → is_none o ≡ true → o ≡ None
no_grant None h = refl
no_grant (Some g) h = none_true h

some_left : (left : ℕ) → nat_lt 0 left ≡ true → 0 < left
some_left left h = ltb-true 0 left h

readies_by : (s : RunShape) (k : ℕ) (o : Option Name) → name_at s.names k ≡ o → may_go s k o ≡ true → (n : Name) × Readies s k n
readies_by s k None is h = none_true h
readies_by s k (Some n) is h =
    let may = (and_parts (may_lend s k n) (is_none (need_to s.configuration n)) h).0 in
    let both = and_parts (is_none (grant_of k s.out) && is_running (status_of s.configuration n)) (nat_lt 0 s.left) may in
    let free = and_parts (is_none (grant_of k s.out)) (is_running (status_of s.configuration n)) both.0 in
    (n, record { named = is; free = no_grant (grant_of k s.out) free.0; running = free.1; left = some_left s.left both.1 })

pub readies : (s : RunShape) (k : ℕ) → is_ready s k ≡ true → (n : Name) × Readies s k n
readies s k h = readies_by s k (name_at s.names k) refl h

module _ (h : HistoryShape) (code : List Node) (x : CoreState) (s : RunShape) (core : IsCore h code x s) where
  -- who is out has a grant
  away_out : (k : ℕ) (n : Name) (came : List Request) → IsAway h code s k n came → grant_of k s.out ≢ None
  away_out k n came away e = no_some (sym e ∙ (leases_stay h k away.burst n away.run s core.first away.lent away.named core.run).out)

  here_by : (k : ℕ) (n : Name) (o : Option (SeatShape Actor Request)) → seat_at x.seats k ≡ o → grant_of k s.out ≡ None → IsSeated h code s k n o
      → (a : Actor) × (seat_at x.seats k ≡ Some (In a)) × IsHere code s k n a
  here_by k n (Some (In a)) is free seated = (a, is, seated)
  here_by k n (Some (Out came)) is free seated = absurd (away_out k n came seated free)
  here_by k n None is free seated = absurd seated

  -- who is not out is in
  pub is_here : (k : ℕ) (n : Name) → name_at s.names k ≡ Some n → grant_of k s.out ≡ None → (a : Actor) × (seat_at x.seats k ≡ Some (In a)) × IsHere code s k n a
  is_here k n named free = here_by k n (seat_at x.seats k) refl free (core.populated.seats k n named)

-- so much was changed
pub record Lends (x y : CoreState) (k : ℕ) : Type 0 where
  pub seats : seats_in y.seats ≡ with_seat (seats_in x.seats) k (Out [])
  pub names : names_in y.seats ≡ names_in x.seats
  pub kept : AreSeats y.seats
  pub here : (r : RankShape) → IsRanked x.ranks k r → IsRanked y.ranks k (rested r)
  pub others : OthersStay k x.ranks y.ranks
  pub futures : y.futures ≡ x.futures
  pub entries : entries_in y.journal ≡ entries_in x.journal ++ Lent k ∷ []
  pub room : room x.journal ≤ room y.journal + 1
  pub left : y.left ≡ x.left - min MOST_GRANTED x.left
  pub bursts : y.bursts ≡ x.bursts + 1

rested_goes : (r : RankShape) → goes r ≡ true → rested r ≡ Rests
rested_goes Goes e = refl
rested_goes r e = by r e
  where
    by : (r : RankShape) → goes r ≡ true → rested r ≡ Rests
    by Goes e = refl
    by r e = none_true e

module _ (h : HistoryShape) (code : List Node) (x y : CoreState) (s : RunShape) (core : IsCore h code x s) (k : ℕ) (ready : is_ready s k ≡ true) where
  abbrev n : Name
  n = (readies s k ready).0

  abbrev able : Readies s k n
  able = (readies s k ready).1

  abbrev here : (a : Actor) × (seat_at x.seats k ≡ Some (In a)) × IsHere code s k n a
  here = is_here h code x s core k n able.named able.free

  abbrev t : RunShape
  t = with_lease s k

  abbrev now : HistoryShape
  now = with_entry h (Lent k)

  runs : run_of (with_entry h (Lent k)) ≡ Some t
  runs =
      entries_go_on h (Lent k) s core.run
      ∙ lends_are_entered s k n here.2.activity (record { named = able.named; free = able.free; there = here.2.there }) able.running able.left

  module _ (c : Lends x y k) where
    seat_k : seat_at y.seats k ≡ Some (Out [])
    seat_k = ap (λ seats. slice_get seats k) c.seats ∙ got_set (seats_in x.seats) k (Out []) (got_within (seats_in x.seats) k (In here.0) here.1)

    seat_j : (j : ℕ) → j ≢ k → seat_at y.seats j ≡ seat_at x.seats j
    seat_j j apart = ap (λ seats. slice_get seats j) c.seats ∙ got_other (seats_in x.seats) k j (Out []) apart

    away_now : (m : Name) → name_at s.names k ≡ Some m → IsAway now code t k m []
    away_now m named = record {
      burst = suc (bursts_in h.entries);
      run = s;
      lent = leases_begin h k s core.run;
      named = named;
      requests = sym (append-nil (requests_of s.configuration m));
      logged = sym (append-nil (log_of s.configuration m));
      coded = tt;
    }

    others_seated : (j : ℕ) (m : Name) → j ≢ k → (o : Option (SeatShape Actor Request)) → IsSeated h code s j m o → IsSeated now code t j m o
    others_seated j m apart (Some (In a)) seated = record {
      free = ap (λ b. elim b [ true ↦ Some (granted s) | false ↦ grant_of j s.out ]) (numbers_apart j k apart) ∙ seated.free;
      activity = seated.activity;
      there = seated.there;
      stands = seated.stands;
      logged = seated.logged;
      coded = seated.coded;
    }
    others_seated j m apart (Some (Out came)) seated = record {
      burst = seated.burst;
      run = seated.run;
      lent = leases_last h (Lent k) j seated.burst seated.run (ap (λ b. not b && true) (numbers_apart j k apart)) seated.lent;
      named = seated.named;
      requests = seated.requests;
      logged = seated.logged;
      coded = seated.coded;
    }
    others_seated j m apart None seated = seated

    all_seated : (j : ℕ) (m : Name) → name_at s.names j ≡ Some m → IsSeated now code t j m (seat_at y.seats j)
    all_seated j m named = number_case j k
        (λ same. subst (λ i. IsSeated now code t i m (seat_at y.seats i)) (sym same) (subst (IsSeated now code t k m) (sym seat_k) (away_now m (ap (name_at s.names) (sym same) ∙ named))))
        (λ apart. subst (IsSeated now code t j m) (sym (seat_j j apart)) (others_seated j m apart (seat_at x.seats j) (core.populated.seats j m named)))

    goes_k : goes (rank_of_number s k) ≡ true
    goes_k = (and_parts (goes (rank_of_number s k)) (nat_lt 0 s.left) (sym (ranks_tell_ready s k) ∙ ready)).0

    all_ranked : (j : ℕ) → IsRanked y.ranks j (rank_of_number t j)
    all_ranked j = number_case j k
        (λ same. subst (λ i. IsRanked y.ranks i (rank_of_number t i)) (sym same)
        (subst (IsRanked y.ranks k) (rested_goes (rank_of_number s k) goes_k ∙ sym (lends_keep_ranks s k).0) (c.here (rank_of_number s k) (core.ranks k))))
        (λ apart. subst (IsRanked y.ranks j) (sym ((lends_keep_ranks s k).1 j apart)) (c.others j (rank_of_number s j) apart (core.ranks j)))

    -- the core stands for the run with the lend
    pub lends : IsCore now code y t
    lends = record {
      first = core.first;
      whole = core.whole;
      numbered = record { apart = core.numbered.apart; there = core.numbered.there; numbered = core.numbered.numbered };
      small = core.small;
      run = runs;
      entries = c.entries ∙ ap (λ es. es ++ Lent k ∷ []) core.entries;
      populated = record {
        kept = c.kept;
        names = c.names ∙ core.populated.names;
        seats = all_seated;
        named_out = λ j none.
            let apart : j ≢ k = λ same. no_some (sym none ∙ ap (name_at s.names) same ∙ able.named) in
            ap (λ b. elim b [ true ↦ Some (granted s) | false ↦ grant_of j s.out ]) (numbers_apart j k apart) ∙ core.populated.named_out j none;
        futures = ap values_of c.futures ∙ core.populated.futures;
        values = subst (AreOfCode code) (sym c.futures) core.populated.values;
      };
      ranks = all_ranked;
      left = c.left ∙ ap (λ l. l - min MOST_GRANTED l) core.left;
      bursts = omega (arith, c.bursts, core.bursts, (bursts_are_counted h.entries).0 (Lent k));
      room = omega (arith, c.room, core.room, one_less (seats_in x.seats) k here.0 [] here.1, ap count_in c.seats);
    }

  -- and the lease is one of it
  pub is_lease : (l : Lease) → l.number ≡ k → l.burst ≡ x.bursts + 1 → l.grant ≡ min MOST_GRANTED x.left → l.taken ≡ 0 → l.spent ≡ false → l.actor.value ≡ here.0 → IsNewLease now code k l
  is_lease l number burst grant taken fresh actor =
      let count : bursts_in now.entries ≡ bursts_in h.entries + 1 = (bursts_are_counted h.entries).0 (Lent k) in
      let first : suc (bursts_in h.entries) ≡ l.burst = omega (arith, burst, core.bursts) in
      record {
        lease = record {
          run = s;
          lent = subst (λ i. IsLentAt now i l.burst s) (sym number) (subst (λ b. IsLentAt now k b s) first (leases_begin h k s core.run));
          name = n;
          named = ap (name_at s.names) number ∙ able.named;
          activity = here.2.activity;
          there = here.2.there;
          grant = grant ∙ ap (min MOST_GRANTED) core.left;
          within = omega (arith, taken);
          done = λ spent. record {
            end = here.2.activity;
            run = subst (λ r. LocalRun r here.2.activity here.2.activity) (sym taken) refl;
            stands = subst (λ a. Stands a here.2.activity (requests_of s.configuration n)) (sym actor) here.2.stands;
            coded = ap code_of actor ∙ here.2.coded;
            logged = ap log_in actor ∙ here.2.logged;
          };
        };
        number = number;
        burst = omega (arith, burst, core.bursts, count);
        taken = taken;
        fresh = fresh;
      }

-- What the calls see

module _ (h : HistoryShape) (code : List Node) (x : CoreState) (s : RunShape) (core : IsCore h code x s) where
  -- by whether it may step
  pub ready_going : (k : ℕ) → is_ready s k ≡ (has_number k x.ranks.going.keys && nat_lt 0 x.left)
  ready_going k =
      ranks_tell_ready s k
      ∙ ap (λ b. b && nat_lt 0 s.left) (sym (core.ranks k).going)
      ∙ ap (λ l. has_number k x.ranks.going.keys && nat_lt 0 l) (sym core.left)

  pub none_left : (k : ℕ) → x.left ≡ 0 → is_ready s k ≡ false
  none_left k none = ready_going k ∙ ap (λ l. has_number k x.ranks.going.keys && nat_lt 0 l) none ∙ and_false (has_number k x.ranks.going.keys)
    where
      and_false : (b : Bool) → (b && false) ≡ false
      and_false true = refl
      and_false false = refl

  pub not_going : (k : ℕ) → has_number k x.ranks.going.keys ≡ false → is_ready s k ≡ false
  not_going k none = ready_going k ∙ ap (λ b. b && nat_lt 0 x.left) none

  pub going : (k : ℕ) → 0 < x.left → has_number k x.ranks.going.keys ≡ true → is_ready s k ≡ true
  going k some goes = ready_going k ∙ ap (λ b. b && nat_lt 0 x.left) goes ∙ lt-ltb 0 x.left some

  module _ (k : ℕ) (ready : is_ready s k ≡ true) where
    abbrev ready_here : (a : Actor) × (seat_at x.seats k ≡ Some (In a)) × IsHere code s k (readies s k ready).0 a
    ready_here = is_here h code x s core k (readies s k ready).0 (readies s k ready).1.named (readies s k ready).1.free

    -- it is in, so it is taken
    pub taken_here : (o : Option Actor) → IsTaken (seat_at x.seats k) o → o ≡ Some ready_here.0
    taken_here o taken = subst (λ seat. IsTaken seat o) ready_here.1 taken

    pub has_room : 0 < room x.journal
    has_room = omega (arith, core.room, one_less (seats_in x.seats) k ready_here.0 [] ready_here.1)

  -- and one lease more can be counted
  pub few_bursts : (entries : List EntryShape) (count : ℕ) (k : ℕ) → entries ≡ entries_in x.journal ++ Lent k ∷ [] → count ≡ length entries → count < 2 ^ 64 → x.bursts + 1 < 2 ^ 64
  few_bursts entries count k is counted small =
      omega (arith, core.bursts, (bursts_are_counted h.entries).1, ap length core.entries, ap length is, length-append (entries_in x.journal) (Lent k ∷ []), counted, small)

-- Who is next

module _ (h : HistoryShape) (code : List Node) (x : CoreState) (s : RunShape) (core : IsCore h code x s) (some : 0 < x.left) where
  pub next_by : (o : Option ℕ) → IsFirst x.ranks.going.keys o → IsNextReady s o
  next_by None first = λ k. not_going h code x s core k (first k)
  next_by (Some k) first = (
    going h code x s core k some first.0,
    λ j ready. first.1 j (and_parts (has_number j x.ranks.going.keys) (nat_lt 0 x.left) (sym (ready_going h code x s core j) ∙ ready)).0,
  )
