-- A lease comes back with its whole grant, and goes out again.
use Rattle.std.proofs.Common.{◌≡◌, ◌≢◌, ◌-◌, ◌+◌, ◌*◌, ◌<◌, ◌≤◌, ◌^◌, ◌==◌, ◌&&◌, ◌++◌, ◌∷◌, [], ℕ, suc, true, false, min, not, List, Option, Some, None, length, length-append, map, slice_get, refl, sym, ap, subst, ◌∙◌, arith}
use Rattle.std.proofs.lemmas.List.{append-nil}
use Rattle.asp_model.specs.Configuration.{Activity, RequestShape, log_of, requests_of}
use Rattle.asp_model.specs.History.{Committed, EntryShape, HistoryShape, Lent, with_entry}
use Rattle.asp_model.specs.Names.{Name, name_cmp}
use Rattle.asp_model.specs.Step.{name_at}
use Rattle.asp_model.specs.declared.limits.TheConstants.{MOST_GRANTED}
use Rattle.def_journals.specs.Journals.{RunShape, grant_of, granted, out_but, run_of}
use Rattle.law_chases.proofs.FutureLemmas.{no_some, none_true, some_is}
use Rattle.law_chases.proofs.MapLemmas as Maps
use Rattle.law_steps.proofs.NameLemmas.{name_total, name_same}
use Rattle.law_journals.specs.Leases.{IsLentAt, bursts_in, receptions_of}
use Rattle.law_journals.specs.Numbered.{AreNumbered}
use Rattle.law_journals.proofs.BurstLemmas.{bursts_are_counted, leases_begin, leases_last}
use Rattle.law_journals.proofs.GrowingLemmas.{entries_go_on}
use Rattle.law_journals.proofs.LeaseLemmas.{grant_but}
use Rattle.law_paths.specs.Whole.{IsWhole}
use Rattle.law_core.specs.Commits.{HasRun, with_activity}
use Rattle.law_core.specs.Runs.{rank_named, rank_of_number, rank_unless_out}
use Rattle.law_core.proofs.RunLemmas.{lends_keep_ranks}
use Rattle.law_renewals.specs.Renewals.{IsRenewed, renewed, used_up}
use Rattle.law_renewals.proofs.RenewalLemmas.{renewals_are_lawful}
use Rattle.code_table.specs.declared.code.Node.{Node}
use Rattle.future_table.specs.Values.{AreOfCode, values_of}
use Rattle.request_queue.specs.declared.request.Request.{Request}
use Rattle.request_queue.specs.Requests.{request_shape}
use Rattle.core_ranks.specs.Ranks.{IsRanked, Rests}
use Rattle.core_seats.specs.Seats.{AreSeats, In, IsOut, Out, SeatShape, names_in, seat_at, seats_in, with_seat}
use Rattle.core_seats.proofs.SeatLemmas.{length_set}
use Rattle.activity_step.specs.declared.advance.Advance.{Advance}
use Rattle.activity_step.specs.declared.advance.Advance.TheVariants as advance
use Rattle.activity_step.specs.Activities.{IsUsed}
use Rattle.activity_step.specs.Local.{LocalRun}
use Rattle.step_activity.specs.declared.actor.Actor.{Actor}
use Rattle.step_activity.specs.Actors.{Stands, code_of, log_in}
use Rattle.core_state.specs.Journal.{entries_in, room}
use Rattle.core_state.specs.declared.lease.Lease.{Lease}
use Rattle.core_state.specs.declared.state.CoreState.{CoreState}
use Rattle.core_state.specs.Leases.{IsLease}
use Rattle.core_state.specs.Cores.{IsAway, IsCore, IsSeated, count_in}
use Rattle.core_state.proofs.ComeBackLemmas.{count_few}
use Rattle.core_state.proofs.KeptLemmas.{numbered_then, whole_then}
use Rattle.core_state.proofs.ListLemmas.{got_other, got_set, got_within, number_case, numbers_apart}
use Rattle.core_state.proofs.PopulateLemmas.{no_grant_but}
use Rattle.core_state.proofs.ReturnLemmas as Return
use Rattle.core_state.proofs.ReturnRankLemmas.{run_ranks}
use Rattle.long_leases.specs.declared.long_lease.LongLease.{LongLease}
use Rattle.long_leases.specs.LongLeases.{HasEnded, IsLongLease, most_of}
use Rattle.long_leases.specs.Renewing.{IsRenewedBy, with_renewal}

-- so much was changed of a core
pub record Renews (x y : CoreState) (k grant : ℕ) : Type 0 where
  pub seats : seats_in y.seats ≡ with_seat (seats_in x.seats) k (Out [])
  pub names : names_in y.seats ≡ names_in x.seats
  pub kept : AreSeats y.seats
  pub ranks : y.ranks ≡ x.ranks
  pub futures : y.futures ≡ x.futures
  pub entries : entries_in y.journal ≡ (entries_in x.journal ++ Committed k grant ∷ []) ++ Lent k ∷ []
  pub room : length (seats_in x.seats) ≤ room y.journal
  pub left : y.left ≡ x.left - MOST_GRANTED
  pub bursts : y.bursts ≡ x.bursts + 1

-- and so much of a lease: its activity received what was in its box
pub record Receives (x : CoreState) (l new : LongLease) : Type 0 where
  pub came : List Request
  pub was : IsOut (seat_at x.seats l.lease.number) came
  pub stands : (a : Activity) (rs : List RequestShape) → Stands l.lease.actor.value a rs
      → Stands new.lease.actor.value a (rs ++ map request_shape came)
  pub coded : code_of new.lease.actor.value ≡ code_of l.lease.actor.value
  pub logged : log_in new.lease.actor.value ≡ log_in l.lease.actor.value ++ receptions_of (map request_shape came)
  pub number : new.lease.number ≡ l.lease.number
  pub burst : new.lease.burst ≡ x.bursts + 1
  pub grant : new.lease.grant ≡ MOST_GRANTED
  pub taken : new.lease.taken ≡ l.lease.taken - l.lease.grant
  pub rounds : suc new.rounds ≡ l.rounds
  pub fresh : new.lease.spent ≡ false

-- who took more than its grant has a grant that may follow
pub rounds_left : (h : HistoryShape) (code : List Node) (l : LongLease) → IsLongLease h code l → l.lease.grant < l.lease.taken → 0 < l.rounds
rounds_left h code l lease beyond = omega (arith, beyond, lease.within)

-- for which budget is left
pub grant_left : (h : HistoryShape) (code : List Node) (l : LongLease) (left : ℕ) → IsLongLease h code l → l.lease.grant < l.lease.taken → l.rounds * MOST_GRANTED ≤ left → MOST_GRANTED ≤ left
grant_left h code l left lease beyond reserved = let some = rounds_left h code l lease beyond in omega (arith, some, reserved)

-- one lease more can be counted
pub few_bursts : (h : HistoryShape) (code : List Node) (x : CoreState) (s : RunShape) (core : IsCore h code x s) (entries : List EntryShape) (count k grant : ℕ)
    → entries ≡ (entries_in x.journal ++ Committed k grant ∷ []) ++ Lent k ∷ [] → count ≡ length entries → count < 2 ^ 64 → x.bursts + 1 < 2 ^ 64
few_bursts h code x s core entries count k grant is counted small =
    omega (arith, core.bursts, (bursts_are_counted h.entries).1, ap length core.entries, ap length is, length-append (entries_in x.journal ++ Committed k grant ∷ []) (Lent k ∷ []), length-append (entries_in x.journal) (Committed k grant ∷ []), counted, small)

module _ (h : HistoryShape) (code : List Node) (x : CoreState) (s : RunShape) (core : IsCore h code x s) (l : LongLease) (lease : IsLongLease h code l) where
  abbrev k : ℕ
  k = l.lease.number

  abbrev grant : ℕ
  grant = l.lease.grant

  abbrev taken : ℕ
  taken = l.lease.taken

  abbrev n : Name
  n = lease.name

  -- as if it had taken nothing it is a lease: so what is known of leases is known of it
  abbrev pub bare : Lease
  bare = record l.lease { taken = 0; spent = true }

  abbrev pub is_bare : IsLease h code bare
  is_bare = record {
    run = lease.run;
    lent = lease.lent;
    name = lease.name;
    named = lease.named;
    activity = lease.activity;
    there = lease.there;
    grant = lease.grant;
    within = omega arith;
    done = λ e. none_true (sym e);
  }

  named : name_at s.names k ≡ Some n
  named = (Return.out h code x s core bare is_bare).named

  grants : grant_of k s.out ≡ Some grant
  grants = Return.grants h code x s core bare is_bare

  pub known : k < length (seats_in x.seats)
  known = let b = Return.box h code x s core bare is_bare in got_within (seats_in x.seats) k (Out b.0) b.1

  module _ (fresh : l.lease.spent ≡ false) (beyond : grant < taken) (reserved : l.rounds * MOST_GRANTED ≤ x.left) where
    abbrev end : Activity
    end = (lease.done fresh).end

    enough : MOST_GRANTED ≤ s.left
    enough = let some = rounds_left h code l lease beyond in omega (arith, some, reserved, core.left)

    pub ran : HasRun s k grant n taken end
    ran = record {
      sound = core.whole.sound;
      named = named;
      out = grants;
      activity = lease.activity;
      there = Return.there h code x s core bare is_bare;
      run = (lease.done fresh).run;
    }

    some_left : 0 < s.left
    some_left = omega (arith, enough)

    pub renewal : IsRenewed s k grant n taken lease.activity end
    unfolding ran
    renewal = renewals_are_lawful s k grant n taken end ran beyond some_left

    abbrev s1 : RunShape
    s1 = used_up s k n renewal.here

    abbrev s2 : RunShape
    s2 = renewed s k n renewal.here

    abbrev h1 : HistoryShape
    h1 = with_entry h (Committed k grant)

    abbrev h2 : HistoryShape
    h2 = with_renewal h k grant

    run1 : run_of h1 ≡ Some s1
    run1 = entries_go_on h (Committed k grant) s core.run ∙ renewal.committed

    run2 : run_of h2 ≡ Some s2
    run2 = entries_go_on h1 (Lent k) s1 run1 ∙ renewal.lent

    whole1 : IsWhole s1.configuration
    whole1 = whole_then (Committed k grant) s s1 renewal.committed core.whole

    numbered1 : AreNumbered s1
    numbered1 = numbered_then (Committed k grant) s s1 renewal.committed core.whole.sound core.numbered

    -- Ranks stay

    rank_k : rank_of_number s2 k ≡ rank_of_number s k
    rank_k = (lends_keep_ranks s1 k).0 ∙ sym (ap (rank_named s k) named ∙ ap (rank_unless_out s n) grants)

    rank_j : (j : ℕ) → j ≢ k → rank_of_number s2 j ≡ rank_of_number s j
    rank_j j apart =
        (lends_keep_ranks s1 k).1 j apart
        ∙ ap (λ ns. rank_of_number (record { configuration = s1.configuration; names = ns; left = s.left; out = out_but k s.out }) j) (sym (append-nil s.names))
        ∙ run_ranks s core.numbered k n named renewal.here s.left j apart

    same_rank : (j : ℕ) → rank_of_number s2 j ≡ rank_of_number s j
    same_rank j = number_case j k
        (λ same. subst (λ i. rank_of_number s2 i ≡ rank_of_number s i) (sym same) rank_k)
        (λ apart. rank_j j apart)

    module _ (y : CoreState) (c : Renews x y k grant) where
      seat_k : seat_at y.seats k ≡ Some (Out [])
      seat_k = ap (λ seats. slice_get seats k) c.seats ∙ got_set (seats_in x.seats) k (Out []) known

      seat_j : (j : ℕ) → j ≢ k → seat_at y.seats j ≡ seat_at x.seats j
      seat_j j apart = ap (λ seats. slice_get seats j) c.seats ∙ got_other (seats_in x.seats) k j (Out []) apart

      grant_j : (j : ℕ) → j ≢ k → grant_of j s2.out ≡ grant_of j (out_but k s.out)
      grant_j j apart = ap (λ b. elim b [ true ↦ Some (granted s1) | false ↦ grant_of j (out_but k s.out) ]) (numbers_apart j k apart)

      -- who is out has an empty box
      away_now : (m : Name) → name_at s.names k ≡ Some m → IsAway h2 code s2 k m []
      away_now m is = record {
        burst = suc (bursts_in h1.entries);
        run = s1;
        lent = leases_begin h1 k s1 run1;
        named = is;
        requests = sym (append-nil (requests_of s.configuration m));
        logged = sym (append-nil (log_of s.configuration m));
        coded = tt;
      }

      others_seated : (j : ℕ) (m : Name) → j ≢ k → m ≢ n → (o : Option (SeatShape Actor Request)) → IsSeated h code s j m o → IsSeated h2 code s2 j m o
      others_seated j m apart other (Some (In a)) seated = record {
        free = grant_j j apart ∙ grant_but j k s.out (numbers_apart j k apart) ∙ seated.free;
        activity = seated.activity;
        there = Maps.find_other name_cmp name_total name_same m n renewal.here s.configuration.activities other ∙ seated.there;
        stands = seated.stands;
        logged = seated.logged;
        coded = seated.coded;
      }
      others_seated j m apart other (Some (Out came)) seated =
          let away : (not (j == k) && true) ≡ true = ap (λ b. not b && true) (numbers_apart j k apart) in
          record {
            burst = seated.burst;
            run = seated.run;
            lent = leases_last h1 (Lent k) j seated.burst seated.run away (leases_last h (Committed k grant) j seated.burst seated.run away seated.lent);
            named = seated.named;
            requests = seated.requests;
            logged = seated.logged;
            coded = seated.coded;
          }
      others_seated j m apart other None seated = seated

      all_seated : (j : ℕ) (m : Name) → name_at s.names j ≡ Some m → IsSeated h2 code s2 j m (seat_at y.seats j)
      all_seated j m is = number_case j k
          (λ same. subst (λ i. IsSeated h2 code s2 i m (seat_at y.seats i)) (sym same) (subst (IsSeated h2 code s2 k m) (sym seat_k) (away_now m (ap (name_at s.names) (sym same) ∙ is))))
          (λ apart.
          let other : m ≢ n = λ e. apart (core.numbered.apart j k n (is ∙ ap Some e) named) in
          subst (IsSeated h2 code s2 j m) (sym (seat_j j apart)) (others_seated j m apart other (seat_at x.seats j) (core.populated.seats j m is)))

      pub renewed_core : IsCore h2 code y s2
      renewed_core = record {
        first = core.first;
        whole = whole_then (Lent k) s1 s2 renewal.lent whole1;
        numbered = numbered_then (Lent k) s1 s2 renewal.lent whole1.sound numbered1;
        small = core.small;
        run = run2;
        entries = c.entries ∙ ap (λ es. (es ++ Committed k grant ∷ []) ++ Lent k ∷ []) core.entries;
        populated = record {
          kept = c.kept;
          names = c.names ∙ core.populated.names;
          seats = all_seated;
          named_out = λ j none.
              let apart : j ≢ k = λ same. no_some (sym none ∙ ap (name_at s.names) same ∙ named) in
              grant_j j apart ∙ no_grant_but j k s.out (core.populated.named_out j none);
          futures = ap values_of c.futures ∙ core.populated.futures;
          values = subst (AreOfCode code) (sym c.futures) core.populated.values;
        };
        ranks = λ j. subst (IsRanked y.ranks j) (sym (same_rank j)) (subst (λ r. IsRanked r j (rank_of_number s j)) (sym c.ranks) (core.ranks j));
        left = omega (arith, c.left, core.left, enough);
        bursts = omega (arith, c.bursts, core.bursts, (bursts_are_counted h.entries).0 (Committed k grant), (bursts_are_counted h1.entries).0 (Lent k));
        room = omega (arith, c.room, count_few (seats_in y.seats), ap length c.seats, length_set (seats_in x.seats) k (Out []));
      }

    module _ (new : LongLease) (r : Receives x l new) where
      came_so : r.came ≡ (Return.box h code x s core bare is_bare).0
      came_so = subst (λ seat. IsOut seat r.came) (Return.box h code x s core bare is_bare).1 r.was

      requests : requests_of lease.run.configuration n ++ map request_shape r.came ≡ requests_of s.configuration n
      requests = ap (λ came. requests_of lease.run.configuration n ++ map request_shape came) came_so ∙ sym (Return.requests h code x s core bare is_bare)

      logs : log_of lease.run.configuration n ++ receptions_of (map request_shape r.came) ≡ log_of s.configuration n
      logs = ap (λ came. log_of lease.run.configuration n ++ receptions_of (map request_shape came)) came_so ∙ sym (Return.logged h code x s core bare is_bare)

      burst_now : suc (bursts_in h1.entries) ≡ new.lease.burst
      burst_now = omega (arith, r.burst, core.bursts, (bursts_are_counted h.entries).0 (Committed k grant))

      goes_on : LocalRun (taken - grant) renewal.here end
      goes_on = subst (λ a. LocalRun (taken - grant) a end) renewal.from renewal.goes_on.run

      pub renewed_lease : IsLongLease h2 code new
      renewed_lease = record {
        run = s1;
        lent = subst (λ i. IsLentAt h2 i new.lease.burst s1) (sym r.number) (subst (λ b. IsLentAt h2 k b s1) burst_now (leases_begin h1 k s1 run1));
        name = n;
        named = ap (name_at s.names) r.number ∙ named;
        activity = renewal.here;
        there = renewal.back.there;
        grant = omega (arith, r.grant, enough);
        within = omega (arith, r.taken, r.grant, r.rounds, lease.within);
        done = λ e. record {
          end = end;
          run = subst (λ j. LocalRun j renewal.here end) (sym r.taken) goes_on;
          stands = subst (Stands new.lease.actor.value end) requests (r.stands end (requests_of lease.run.configuration n) (lease.done fresh).stands);
          coded = r.coded ∙ (lease.done fresh).coded;
          logged = r.logged ∙ ap (λ xs. xs ++ receptions_of (map request_shape r.came)) (lease.done fresh).logged ∙ logs;
        };
      }

-- all that it may take is used still
used_then : (l new : LongLease) → suc new.rounds ≡ l.rounds → new.lease.grant ≡ MOST_GRANTED → new.lease.taken ≡ l.lease.taken - l.lease.grant
    → (a : Advance) → IsUsed l.lease.taken (most_of l) a → IsUsed new.lease.taken (most_of new) a
used_then l new rounds grant taken advance.Reduces used = omega (arith, rounds, grant, taken, used)
used_then l new rounds grant taken (advance.Rests p) used = tt
used_then l new rounds grant taken (advance.Faults f) used = tt
used_then l new rounds grant taken (advance.Needs p) used = tt
used_then l new rounds grant taken (advance.Creates p) used = tt
used_then l new rounds grant taken advance.Sends used = tt
used_then l new rounds grant taken advance.Serves used = tt
used_then l new rounds grant taken advance.Polls used = tt

module _ (h : HistoryShape) (code : List Node) (x : CoreState) (s : RunShape) (core : IsCore h code x s) (l : LongLease) (beyond : l.lease.grant < l.lease.taken) (reserved : l.rounds * MOST_GRANTED ≤ x.left) (new : LongLease) (r : Receives x l new) where
  -- it has ended where it had
  ended_then : HasEnded h code l → HasEnded (with_renewal h l.lease.number l.lease.grant) code new
  unfolding renewed_lease
  ended_then e = record {
    lease = renewed_lease h code x s core l e.lease e.fresh beyond reserved new r;
    fresh = r.fresh;
    advance = e.advance;
    stop = e.stop;
    used = used_then l new r.rounds r.grant r.taken e.advance e.used;
  }

  pub renewed_by : (lease : IsLongLease h code l) → l.lease.spent ≡ false → (y : CoreState) → Renews x y l.lease.number l.lease.grant → IsRenewedBy h code s l lease y new
  unfolding ran
  renewed_by lease fresh y c = record {
    end = (lease.done fresh).end;
    has_run = ran h code x s core l lease fresh beyond reserved;
    from = refl;
    renewal = renewal h code x s core l lease fresh beyond reserved;
    core = renewed_core h code x s core l lease fresh beyond reserved y c;
    lease = renewed_lease h code x s core l lease fresh beyond reserved new r;
    number = r.number;
    taken = r.taken;
    rounds = r.rounds;
    ended = ended_then;
  }
