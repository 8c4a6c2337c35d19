-- The verdict by what a core keeps.
use Rattle.std.proofs.Common.{◌≡◌, ◌≢◌, ◌⊎◌, ◌<◌, ◌==◌, ◌&&◌, ◌||◌, ◌∷◌, [], inl, inr, ℕ, zero, suc, Bool, true, false, cond, List, Option, Some, None, is_none, is_some, length, map, nat_lt, slice_get, refl, sym, ap, subst, ◌∙◌, arith}
use Rattle.std.proofs.lemmas.Bool.{and_parts, lt-ltb, ltb-true}
use Rattle.std.specs.List.{list_any}
use Rattle.std.specs.FinMap.{find}
use Rattle.asp_model.specs.Configuration.{Activity, Configuration}
use Rattle.asp_model.specs.History.{ChoiceShape, DeliveryShape, HistoryShape}
use Rattle.asp_model.specs.Names.{Name, name_cmp}
use Rattle.asp_model.specs.Intent.{StatusShape}
use Rattle.asp_model.specs.Status.{Blocked, Budget, End, VerdictShape, is_awaiting, is_running, status_of, statuses_of, verdict_of}
use Rattle.asp_model.specs.Step.{name_at}
use Rattle.def_journals.specs.Edges.{HoldersShape}
use Rattle.def_journals.specs.Journals.{RunShape, grant_of}
use Rattle.def_journals.specs.Owed.{first_edge, first_need, is_any, need_to, next_owed, or_else, verdict_told}
use Rattle.law_steps.proofs.EntryLemmas.{In, entry_found, found_entry}
use Rattle.law_steps.proofs.NameLemmas.{is_there}
use Rattle.law_chases.proofs.FutureLemmas.{no_some, none_true, true_false}
use Rattle.law_steps.specs.Reached.{IsThere}
use Rattle.law_steps.specs.Sound.{IsSound}
use Rattle.law_journals.specs.Numbered.{AreNumbered}
use Rattle.law_journals.proofs.LeaseLemmas.{leases_stay}
use Rattle.core_ranks.specs.Numbers.{has_number}
use Rattle.core_ranks.specs.Ranks.{IsAwaitTold, RankShape, Rests, awaits, goes, has_need}
use Rattle.core_seats.specs.Seats.{In as Here, Out, SeatShape, count_out, names_in, seat_at, seats_in}
use Rattle.core_seats.proofs.SeatLemmas.{none_out}
use Rattle.law_core.specs.Ranked.{rank_in}
use Rattle.law_core.specs.Runs.{is_ready, rank_named, rank_of_number, rank_unless_out}
use Rattle.law_core.proofs.RankLemmas.{ranks_tell}
use Rattle.law_core.proofs.OwedLemmas.{edges_are_next, in_named, no_first, nothing_owed}
use Rattle.law_core.proofs.VerdictLemmas.{verdicts_are_held, verdicts_are_told}
use Rattle.code_table.specs.declared.code.Node.{Node}
use Rattle.request_queue.specs.declared.request.Request.{Request}
use Rattle.step_activity.specs.declared.actor.Actor.{Actor}
use Rattle.core_state.specs.declared.state.CoreState.{CoreState}
use Rattle.core_state.specs.Cores.{IsAway, IsCore, IsSeated}
use Rattle.core_state.specs.Lending.{IsNextReady}
use Rattle.core_state.proofs.ListLemmas.{got_within, name_within}
use Rattle.core_state.specs.Verdicts.{GoesOn, IsStill, IsVerdictOf}

-- Who is out

number_itself : (k : ℕ) → (k == k) ≡ true
number_itself k = grind arith

-- a number of the list has a grant
head_granted : (x : ℕ × ℕ) (xs : List (ℕ × ℕ)) → grant_of x.0 (x ∷ xs) ≡ Some x.1
head_granted x xs = ap {A = Bool} (λ b. elim b [ true ↦ Some x.1 | false ↦ grant_of x.0 xs ]) (number_itself x.0)

none_granted : (out : List (ℕ × ℕ)) → ((k : ℕ) → grant_of k out ≡ None) → out ≡ []
none_granted [] h = refl
none_granted (x ∷ xs) h = no_some (sym (h x.0) ∙ head_granted x xs)

some_granted : (out : List (ℕ × ℕ)) (k : ℕ) → grant_of k out ≢ None → is_any out ≡ true
some_granted [] k h = absurd (h refl)
some_granted (x ∷ xs) k h = refl

-- a seat that counts
first_out : {X R : Type 0} (xs : List (SeatShape X R)) → 0 < count_out xs → (k : ℕ) × (came : List R) × (slice_get xs k ≡ Some (Out came))
first_out [] h = absurd (omega (arith, h))
first_out (Here x ∷ xs) h = let r = first_out xs (omega (arith, h)) in (suc r.0, r.1, r.2)
first_out (Out came ∷ xs) h = (0, came, refl)

module _ (h : HistoryShape) (code : List Node) (x : CoreState) (s : RunShape) (core : IsCore h code x s) where
  numbered : AreNumbered s
  numbered = core.numbered

  sound : IsSound s.configuration
  sound = core.whole.sound

  free_by : count_out (seats_in x.seats) ≡ 0 → (k : ℕ) (o : Option Name) → name_at s.names k ≡ o → grant_of k s.out ≡ None
  free_by none k None named = core.populated.named_out k named
  free_by none k (Some n) named = seated (seat_at x.seats k) refl (core.populated.seats k n named)
    where
      seated : (o : Option (SeatShape Actor Request)) → seat_at x.seats k ≡ o → IsSeated h code s k n o → grant_of k s.out ≡ None
      seated (Some (Here a)) is here = here.free
      seated (Some (Out came)) is away = absurd (none_out (seats_in x.seats) none k came is)
      seated None is not = absurd not

  pub none_away : nat_lt 0 (count_out (seats_in x.seats)) ≡ false → s.out ≡ []
  none_away none = none_granted s.out (λ k. free_by (zero_of (count_out (seats_in x.seats)) none) k (name_at s.names k) refl)
    where
      zero_of : (n : ℕ) → nat_lt 0 n ≡ false → n ≡ 0
      zero_of zero e = refl
      zero_of (suc n) e = absurd (true_false (nat_lt 0 (suc n)) (lt-ltb 0 (suc n) (omega arith)) e)

  away_granted : (k : ℕ) (came : List Request) → seat_at x.seats k ≡ Some (Out came) → grant_of k s.out ≢ None
  away_granted k came is none =
      let within : k < length (names_in x.seats) = subst (λ n. k < n) (sym core.populated.kept.same) (got_within (seats_in x.seats) k (Out came) is) in
      let n = name_within (names_in x.seats) k within in
      let named : name_at s.names k ≡ Some n.0 = ap (λ ns. name_at ns k) (sym core.populated.names) ∙ n.1 in
      let away : IsAway h code s k n.0 came = subst (λ o. IsSeated h code s k n.0 o) is (core.populated.seats k n.0 named) in
      no_some (sym none ∙ (leases_stay h k away.burst n.0 away.run s core.first away.lent away.named core.run).out)

  pub some_away : nat_lt 0 (count_out (seats_in x.seats)) ≡ true → is_any s.out ≡ true
  some_away some =
      let r = first_out (seats_in x.seats) (ltb-true 0 (count_out (seats_in x.seats)) some) in
      some_granted s.out r.0 (away_granted r.0 r.1 r.2)

-- Who a rank tells of

module _ (told : RankShape → Bool) (quiet : told Rests ≡ false) (s : RunShape) where
  -- the activity of a number that is in
  record IsTold (k : ℕ) : Type 0 where
    pub name : Name
    pub named : name_at s.names k ≡ Some name
    pub free : grant_of k s.out ≡ None
    pub told_in : told (rank_in s.configuration name) ≡ true

  by_grant : (k : ℕ) (n : Name) → name_at s.names k ≡ Some n → (o : Option ℕ) → grant_of k s.out ≡ o → told (rank_unless_out s n o) ≡ true → IsTold k
  by_grant k n named None free is = record { name = n; named = named; free = free; told_in = is }
  by_grant k n named (Some grant) free is = absurd (true_false (told Rests) is quiet)

  by_name : (k : ℕ) (o : Option Name) → name_at s.names k ≡ o → told (rank_named s k o) ≡ true → IsTold k
  by_name k None named is = absurd (true_false (told Rests) is quiet)
  by_name k (Some n) named is = by_grant k n named (grant_of k s.out) refl is

  who_is_told : (k : ℕ) → told (rank_of_number s k) ≡ true → IsTold k
  who_is_told k is = by_name k (name_at s.names k) refl is

is_none_of : {A : Type 0} (o : Option A) → is_some o ≡ false → is_none o ≡ true
is_none_of None e = refl
is_none_of (Some x) e = none_true (sym e)

none_of : {A : Type 0} (o : Option A) → is_some o ≡ false → o ≡ None
none_of None e = refl
none_of (Some x) e = none_true (sym e)

nothing_due : (s : RunShape) (holders : HoldersShape) (answers : List ChoiceShape) → next_owed s holders answers ≡ None → first_edge s holders holders.edges answers ≡ None
nothing_due s holders answers none = by (first_need s s.names) (first_edge s holders holders.edges answers) none
  where
    by : (o p : Option DeliveryShape) → or_else o p ≡ None → p ≡ None
    by None p e = e
    by (Some d) p e = no_some (sym e)

-- Statuses of a configuration, by a test

module _ (test : StatusShape → Bool) (c : Configuration) where
  any_in : (es : List (Name × Activity)) (x : Name × Activity) → In x es → test (status_of c x.0) ≡ true → list_any test (map (λ x. status_of c x.0) es) ≡ true
  any_in [] x i h = absurd i
  any_in (e ∷ es) x (inl p) h = ap (λ b. b || list_any test (map (λ x. status_of c x.0) es)) (ap (λ z. test (status_of c z.0)) (sym p) ∙ h)
  any_in (e ∷ es) x (inr i) h = or_right (test (status_of c e.0)) (list_any test (map (λ x. status_of c x.0) es)) (any_in es x i h)
    where
      or_right : (a b : Bool) → b ≡ true → (a || b) ≡ true
      or_right true b e = refl
      or_right false b e = e

  none_in : (es : List (Name × Activity)) → ((x : Name × Activity) → In x es → test (status_of c x.0) ≡ false) → list_any test (map (λ x. status_of c x.0) es) ≡ false
  none_in [] h = refl
  none_in (e ∷ es) h = ap (λ b. b || list_any test (map (λ x. status_of c x.0) es)) (h e (inl refl)) ∙ none_in es (λ x i. h x (inr i))

and_true : (a b : Bool) → b ≡ true → (a && b) ≡ a
and_true a true e = both a
  where
    both : (a : Bool) → (a && true) ≡ a
    both true = refl
    both false = refl
and_true a false e = none_true e

module _ (h : HistoryShape) (code : List Node) (x : CoreState) (s : RunShape) (core : IsCore h code x s) where
  abbrev c : Configuration
  c = s.configuration

  -- Where a rank tells a status

  module _ (test : StatusShape → Bool) (told : RankShape → Bool) (quiet : told Rests ≡ false) (tells : (n : Name) → told (rank_in c n) ≡ (test (status_of c n) && is_none (need_to c n))) where
    some_told : (k : ℕ) → told (rank_of_number s k) ≡ true → list_any test (statuses_of c) ≡ true
    some_told k is =
        let w = who_is_told told quiet s k is in
        let a = is_there (find name_cmp w.name c.activities) ((numbered h code x s core).there k w.name w.named) in
        let e = found_entry c.activities w.name a.0 a.1 in
        let status : test (status_of c w.name) ≡ true = (and_parts (test (status_of c w.name)) (is_none (need_to c w.name)) (sym (tells w.name) ∙ w.told_in)).0 in
        any_in test c c.activities e.0 e.1 (ap (λ n. test (status_of c n)) e.2 ∙ status)

    none_told : IsStill s → ((k : ℕ) → told (rank_of_number s k) ≡ false) → list_any test (statuses_of c) ≡ false
    none_told still none = none_in test c c.activities each
      where
        each : (y : Name × Activity) → In y c.activities → test (status_of c y.0) ≡ false
        each y i =
            let there : IsThere c y.0 = ap is_some (entry_found c.activities y core.whole.sound.ordered.activities i) in
            let k = (numbered h code x s core).numbered y.0 there in
            let rank : rank_of_number s k.0 ≡ rank_in c y.0 = ap (rank_named s k.0) k.1 ∙ ap (λ out. rank_unless_out s y.0 (grant_of k.0 out)) still.back in
            let lacks : is_none (need_to c y.0) ≡ true = is_none_of (need_to c y.0) (sym (ranks_tell c y.0).needy ∙ ap has_need (sym rank) ∙ still.needy k.0) in
            sym (and_true (test (status_of c y.0)) (is_none (need_to c y.0)) lacks) ∙ sym (tells y.0) ∙ ap told (sym rank) ∙ none k.0

  abbrev runs : Bool
  runs = list_any is_running (statuses_of c)

  abbrev waits : Bool
  waits = list_any is_awaiting (statuses_of c)

  -- The verdict at rest

  budget_told : (k : ℕ) → has_number k x.ranks.going.keys ≡ true → verdict_of c ≡ Budget
  budget_told k going = ap (λ b. cond b Budget (cond waits Blocked End)) (some_told is_running goes refl (λ n. (ranks_tell c n).going) k (sym (core.ranks k).going ∙ going))

  module _ (still : IsStill s) (none : (k : ℕ) → has_number k x.ranks.going.keys ≡ false) where
    still_not : runs ≡ false
    still_not = none_told is_running goes refl (λ n. (ranks_tell c n).going) still (λ k. sym (core.ranks k).going ∙ none k)

    blocked_told : IsAwaitTold x.ranks true → verdict_of c ≡ Blocked
    blocked_told some =
        let awaited : waits ≡ true = some_told is_awaiting awaits refl (λ n. (ranks_tell c n).awaiting) some.0 (some.1 (rank_of_number s some.0) (core.ranks some.0)) in
        (λ i. cond (still_not i) Budget (cond (awaited i) Blocked End))

    end_told : IsAwaitTold x.ranks false → verdict_of c ≡ End
    end_told nobody =
        let awaited : waits ≡ false = none_told is_awaiting awaits refl (λ n. (ranks_tell c n).awaiting) still (λ k. nobody k (rank_of_number s k) (core.ranks k)) in
        (λ i. cond (still_not i) Budget (cond (awaited i) Blocked End))

  pub rest_told : IsStill s → (v : VerdictShape) → IsVerdictOf x.ranks v → verdict_of c ≡ v
  rest_told still Budget told = budget_told told.0 told.1
  rest_told still Blocked told = blocked_told still told.0 told.1
  rest_told still End told = end_told still told.0 told.1

  -- Whether somebody goes on

  pub ready_on : (o : Option ℕ) → IsNextReady s o → s.out ≡ [] → ((k : ℕ) → has_number k x.ranks.needy.keys ≡ false) → GoesOn s (is_some o)
  ready_on None next back none = record { back = back; needy = λ k. sym (core.ranks k).needy ∙ none k; ready = next }
  ready_on (Some k) next back none = inr (inr (k, next.0))

  pub needs_on : (k : ℕ) → has_number k x.ranks.needy.keys ≡ true → GoesOn s true
  needs_on k needy = inr (inl (k, sym (core.ranks k).needy ∙ needy))

  pub away_on : nat_lt 0 (count_out (seats_in x.seats)) ≡ true → GoesOn s true
  away_on away = inl (some_away h code x s core away)

  -- What is told

  module _ (holders : HoldersShape) (answers : List ChoiceShape) where
    abbrev owed : Bool
    owed = is_some (next_owed s holders answers)

    pub due_told : is_some (first_edge s holders holders.edges answers) ≡ true → verdict_told s holders answers ≡ None
    due_told due = verdicts_are_held s holders answers (sound h code x s core) (inr (inl (by owed refl)))
      where
        by : (b : Bool) → owed ≡ b → owed ≡ true
        by true e = e
        by false e = absurd (true_false (is_some (first_edge s holders holders.edges answers)) due (ap is_some (nothing_due s holders answers (none_of (next_owed s holders answers) e))))

    need_owed : (k : ℕ) → has_need (rank_of_number s k) ≡ true → owed ≡ true
    need_owed k has = by owed refl
      where
        w : IsTold has_need refl s k
        w = who_is_told has_need refl s k has

        by : (b : Bool) → owed ≡ b → owed ≡ true
        by true e = e
        by false e = absurd (true_false (is_some (need_to c w.name)) (sym (ranks_tell c w.name).needy ∙ w.told_in) (ap is_some (no_first s s.names (nothing_owed s holders answers (none_of (next_owed s holders answers) e)) k w.name w.named (in_named s (numbered h code x s core) k w.name w.named ∙ ap is_none w.free))))

    pub goes_told : GoesOn s true → verdict_told s holders answers ≡ None
    goes_told on = verdicts_are_held s holders answers (sound h code x s core) (by on)
      where
        by : GoesOn s true → (is_any s.out ≡ true) ⊎ ((owed ≡ true) ⊎ ((k : ℕ) × (is_ready s k ≡ true)))
        by (inl out) = inl out
        by (inr (inl need)) = inr (inl (need_owed need.0 need.1))
        by (inr (inr ready)) = inr (inr ready)

    pub still_told : IsStill s → is_some (first_edge s holders holders.edges answers) ≡ false → verdict_told s holders answers ≡ Some (verdict_of c)
    still_told still due = verdicts_are_told s holders answers (sound h code x s core) (numbered h code x s core) (record {
      back = still.back;
      owed = edges_are_next s holders answers (numbered h code x s core) still.needy ∙ none_of (first_edge s holders holders.edges answers) due;
      ready = still.ready;
    })
