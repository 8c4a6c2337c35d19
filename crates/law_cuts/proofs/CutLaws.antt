-- Least cuts: they are there, there is one, and a search on demand finds it.
use Rattle.std.specs.Prelude.{◌≡◌, ◌≤◌, suc, true, false, cond, List, [], ◌∷◌, ◌++◌, Option, Some, None}
use Rattle.std.proofs.Common.{refl, sym, ap, subst, ◌∙◌, arith, inl, inr, ⊎_elim, ◌⊎◌}
use Rattle.std.proofs.lemmas.List.{append-nil}
use Rattle.asp_model.specs.Names.{Name, main_name, same_name}
use Rattle.asp_model.specs.Term.{Tree}
use Rattle.asp_model.specs.Store.{Object}
use Rattle.asp_model.specs.Configuration.{Configuration, begun, start, log_of}
use Rattle.asp_model.specs.Step.{ListsShape, step}
use Rattle.asp_model.specs.Replay.{CountsShape, lists_of, counts_of, count_in, log_in, replay, Fits}
use Rattle.law_steps.specs.Systems.{System, count}
use Rattle.law_steps.specs.Reached.{IsReached, RunsTo, Steps}
use Rattle.law_chases.proofs.FutureLemmas.{no_some, some_is}
use Rattle.law_steps.proofs.NameLemmas.{name_case}
use Rattle.law_steps.proofs.SystemCounts.{run_both, count_both, hit_same, hit_other}
use Rattle.law_steps.proofs.SystemJoins.{one_end}
use Rattle.law_steps.proofs.FactLemmas.{face}
use Rattle.law_steps.proofs.SoundLemmas.{at_name}
use Rattle.law_steps.proofs.DiamondLemmas.{listed_commute}
use Rattle.law_steps.proofs.ReachedLemmas.{start_is_reached, moves_go_on, runs_go_on, start_right, reached_right, reached_sound}
use Rattle.law_steps.proofs.ListLemmas.{IsPrefix, senders_own, count_own}
use Rattle.law_steps.proofs.FlowLemmas.{StepOf, machine, Within, listed_run, counts_run}
use Rattle.law_steps.proofs.MergeLemmas.{prefix_of_test, test_of_prefix}
use Rattle.law_steps.proofs.JoinLemmas.{grown_run}
use Rattle.law_steps.proofs.JoinLaws.{listed_runs_stay_within}
use Rattle.law_steps.proofs.ReplayLemmas.{replays_are_runs, runs_replay}
use Rattle.law_steps.specs.Linked.{Each}
use Rattle.law_waits.specs.Courses.{GoesThrough}
use Rattle.law_families.specs.Families.{RunLogs, AreBeginnings}
use Rattle.law_families.proofs.CutLemmas.{free_run}
use Rattle.law_cuts.specs.Wants.{wanted}
use Rattle.law_cuts.specs.Cuts.{IsCut, CutsAreFound, CutsAreOne}
use Rattle.law_cuts.specs.Searches.{made, Goal, ComesThere, IsOnWay, StartIsOnWay, GoalIsNeeded, NeededSteps, WantedAreNeeded, WantsEnd, WayEnds}
use Rattle.law_cuts.proofs.DemandLemmas.{Able, Demand, rest_after, until, finds, wants_first, wanted_before, place_of, least_many}
use Rattle.law_cuts.proofs.WantLemmas.{wants_stay}

-- Runs under logs, from configurations that are reached

abbrev reached_machine : Tree → ListsShape → System
reached_machine program lists = record {
  State = Configuration;
  Label = Name;
  Good = IsReached program;
  Step = StepOf lists;
  alike = name_case;
  keeps = λ n c d r h. moves_go_on program c d (Steps (Some lists) n) r h;
  one = λ n c d e h k. some_is (sym h ∙ k);
  commutes = λ n m c d e r apart h k. listed_commute lists c d e n m (reached_sound program c r) apart h k;
}

none_where : (o : Option Configuration) → ((d : Configuration) → o ≡ Some d → ⊥) → o ≡ None
none_where None h = refl
none_where (Some d) h = absurd (h d refl)

able_or : (o : Option Configuration) → ((d : Configuration) × (o ≡ Some d)) ⊎ (((d : Configuration) × (o ≡ Some d)) → ⊥)
able_or None = inr (λ x. no_some x.1)
able_or (Some d) = inl (d, refl)

demand : (program : Tree) (lists : ListsShape) → Demand (reached_machine program lists)
demand program lists = record {
  wanted = wanted lists;
  able = λ c n. able_or (step (Some lists) c n);
  waits = λ c d n m r rests h apart other.
      let x = wants_stay program lists c d n m r (none_where (step (Some lists) c n) (λ e p. rests (e, p))) h apart other in
      (λ able. no_some (sym x.0 ∙ able.1), x.1);
}

start_made : (program : Tree) (q : Name) → (at_name (start program) q).reductions ≡ 0
start_made program q = elim (same_name q main_name) as (λ b. (face (cond b (Some (begun program (Object [] [] ∷ []))) None)).reductions ≡ 0) [ true ↦ refl | false ↦ refl ]

module _ (program : Tree) (lists : ListsShape) where
  abbrev y : System
  y = reached_machine program lists

  same_count : (q : Name) (ns : List Name) → count y q ns ≡ count (machine lists) q ns
  same_count q [] = refl
  same_count q (n ∷ ns) = omega (arith, same_count q ns)

  -- who steps in a run has as many reductions
  made_run : (ns : List Name) (c : Configuration) → RunsTo (Some lists) (start program) ns c → (q : Name) → made c q ≡ count y q ns
  made_run ns c run q = omega (arith, count_own c q, counts_run lists ns (start program) c (start_right program) run q, start_made program q, same_count q ns)

  reached_by : (ns : List Name) (c : Configuration) → RunsTo (Some lists) (start program) ns c → IsReached program c
  reached_by ns c run = runs_go_on program (Some lists) ns (start program) c (start_is_reached program) run

  own_log : (ns : List Name) (c : Configuration) → RunsTo (Some lists) (start program) ns c → (m : Name) → log_in (lists_of c) m ≡ log_of c m
  own_log ns c run m = senders_own c (reached_right program c (reached_by ns c run)).tidy m

  -- the run of a cut, under the logs
  record CutRun (cut : RunLogs) : Type 0 where
    pub names : List Name
    pub end : Configuration
    pub run : RunsTo (Some lists) (start program) names end
    pub logs : lists_of end ≡ cut.0
    pub counts : counts_of end ≡ cut.1

  run_of_cut : (cut : RunLogs) → IsCut program lists cut → CutRun cut
  run_of_cut cut is =
      let end = replay program cut.0 cut.1 in
      let r = replays_are_runs program cut.0 cut.1 in
      let free = free_run cut.0 r.0 (start program) end r.1 in
      let own : (m : Name) → log_in (lists_of end) m ≡ log_of end m = λ m. senders_own end (reached_right program end (runs_go_on program (Some cut.0) r.0 (start program) end (start_is_reached program) r.1)).tidy m in
      let within : Within end lists = λ m. subst (λ l. IsPrefix l (log_in lists m)) (sym (ap (λ ls. log_in ls m) is.fits.used_up) ∙ own m) (prefix_of_test (log_in cut.0 m) (log_in lists m) (is.front m)) in
      record { names = r.0; end = end; run = (listed_run lists r.0 (start program) end (start_right program) free within).0; logs = is.fits.used_up; counts = is.fits.reached }

  -- where one run has no more of each, the logs of the other begin with its logs
  logs_begin : (ns ms : List Name) (c d : Configuration) → RunsTo (Some lists) (start program) ns c → RunsTo (Some lists) (start program) ms d → ((q : Name) → made c q ≤ made d q) → AreBeginnings (lists_of c) (lists_of d)
  logs_begin ns ms c d run other le m =
      let v = rest_after y ns ms (start program) c d (start_is_reached program) run other (λ q. omega (arith, made_run ns c run q, made_run ms d other q, le q)) in
      let p = grown_run (Some lists) v.names c d v.run m in
      test_of_prefix (log_in (lists_of c) m) (log_in (lists_of d) m) (p.0, ap (λ l. l ++ p.0) (own_log ns c run m) ∙ p.1 ∙ sym (own_log ms d other m))

-- The search

pub start_is_on_way : StartIsOnWay
start_is_on_way g = record {
  names = [];
  run = refl;
  below = λ ms d there q. omega (arith, made_run g.program g.lists [] (start g.program) refl q);
}

pub goal_is_needed : GoalIsNeeded
goal_is_needed g c less ms d there = omega (arith, less, there.1)

pub needed_steps : NeededSteps
needed_steps g c d n way needed h =
    let m = reached_machine g.program g.lists in
    let run = run_both m way.names (n ∷ []) (start g.program) c d way.run (d, h, refl) in
    record {
      names = way.names ++ n ∷ [];
      run = run;
      below = λ ms e there q.
          let now = made_run g.program g.lists (way.names ++ n ∷ []) d run q in
          let was = made_run g.program g.lists way.names c way.run q in
          let both = count_both m q way.names (n ∷ []) in
          ⊎_elim
          (λ p.
          let a : made c q ≡ made c n = ap (made c) p in
          let b : made e q ≡ made e n = ap (made e) p in
          omega (arith, needed ms e there, a, b, now, was, both, hit_same m q n p))
          (λ a. omega (arith, way.below ms e there q, now, was, both, hit_other m q n a))
          (name_case q n);
    }

pub wanted_are_needed : WantedAreNeeded
unfolding demand
wanted_are_needed g c end n names way needed there rests =
    let m = reached_machine g.program g.lists in
    let w = demand g.program g.lists in
    let r = reached_by g.program g.lists way.names c way.run in
    let not : Able m c n → ⊥ = λ able. no_some (sym rests ∙ able.1) in
    let was = made_run g.program g.lists way.names c way.run in
    let left : (ms : List Name) (d : Configuration) (is : ComesThere g ms d) (q : Name) → count m q way.names ≤ count m q ms = λ ms d is q. omega (arith, was q, made_run g.program g.lists ms d is.0 q, way.below ms d is q) in
    let v = rest_after m way.names names (start g.program) c end (start_is_reached g.program) way.run there.0 (left names end there) in
    let one : 1 ≤ count m n v.names = omega (arith, v.counts n, was n, made_run g.program g.lists names end there.0 n, needed names end there) in
    let u = until m v.names c end n v.run one in
    let z = finds m w u.front c u.state n r not u.run u.none u.able in (
      z.who,
      z.wants,
      λ ms d is.
          let x = rest_after m way.names ms (start g.program) c d (start_is_reached g.program) way.run is.0 (left ms d is) in
          let more : 1 ≤ count m n x.names = omega (arith, x.counts n, was n, made_run g.program g.lists ms d is.0 n, needed ms d is) in
          let first = wants_first m w x.names c d n z.who r not x.run more z.wants in
          omega (arith, first, x.counts z.who, was z.who, made_run g.program g.lists ms d is.0 z.who),
    )

-- along wants, each of whom steps before the one that wants it in a run
chain_falls : (program : Tree) (lists : ListsShape) (c d : Configuration) (ms : List Name) (n m : Name) (ns : List Name) → IsReached program c → RunsTo (Some lists) c ms d → 1 ≤ count (reached_machine program lists) n ms
    → Each (λ q. step (Some lists) c q ≡ None) (n ∷ ns) → GoesThrough (wanted lists c) n ns m → suc (place_of (reached_machine program lists) (demand program lists) m ms) ≤ place_of (reached_machine program lists) (demand program lists) n ms
unfolding demand
chain_falls program lists c d ms n m [] r run one rest goes = wanted_before (reached_machine program lists) (demand program lists) ms c d n m r (λ able. no_some (sym rest.0 ∙ able.1)) run one goes
chain_falls program lists c d ms n m (k ∷ ns) r run one rest goes =
    let not : Able (reached_machine program lists) c n → ⊥ = λ able. no_some (sym rest.0 ∙ able.1) in
    let first = wants_first (reached_machine program lists) (demand program lists) ms c d n k r not run one goes.0 in
    omega (arith, wanted_before (reached_machine program lists) (demand program lists) ms c d n k r not run one goes.0, chain_falls program lists c d ms k m ns r run first rest.1 goes.1)

pub wants_end : WantsEnd
wants_end g c end names first others way there needed rest goes =
    let m = reached_machine g.program g.lists in
    let was = made_run g.program g.lists way.names c way.run in
    let now = made_run g.program g.lists names end there.0 in
    let v = rest_after m way.names names (start g.program) c end (start_is_reached g.program) way.run there.0 (λ q. omega (arith, was q, now q, way.below names end there q)) in
    let one : 1 ≤ count m first v.names = omega (arith, v.counts first, was first, now first, needed names end there) in
    absurd (omega (arith, chain_falls g.program g.lists c end v.names first first others (reached_by g.program g.lists way.names c way.run) v.run one rest goes))

pub way_ends : WayEnds
way_ends g c way has = record {
  is = record {
    fits = (runs_replay g.program way.names c (free_run g.lists way.names (start g.program) c way.run)).0;
    front = λ m. listed_runs_stay_within g.program g.lists way.names c way.run m;
  };
  reaches = has;
  least = λ other is reaches.
      let r = run_of_cut g.program g.lists other is in
      let same : (q : Name) → made r.end q ≡ count_in other.1 q = λ q. ap (λ k. count_in k q) r.counts in
      let le : (q : Name) → made c q ≤ made r.end q = way.below r.names r.end (r.run, omega (arith, reaches, same g.name)) in
      (subst (AreBeginnings (lists_of c)) r.logs (logs_begin g.program g.lists way.names r.names c r.end way.run r.run le), λ q. omega (arith, le q, same q));
}

-- The laws

itself : (program : Tree) (lists : ListsShape) (counts : CountsShape) → Fits program lists counts → IsCut program lists (lists, counts)
itself program lists counts fits = record { fits = fits; front = λ m. test_of_prefix (log_in lists m) (log_in lists m) ([], append-nil (log_in lists m)) }

pub cuts_are_found : CutsAreFound
cuts_are_found program lists counts n k fits reached =
    let m = reached_machine program lists in
    let g : Goal = record { program = program; lists = lists; name = n; count = k } in
    let is = itself program lists counts fits in
    let r = run_of_cut program lists (lists, counts) is in
    let same : made r.end n ≡ count_in counts n = ap (λ z. count_in z n) r.counts in
    let l = least_many m (demand program lists) k r.names (start program) r.end n (start_is_reached program) r.run (omega (arith, reached, same, made_run program lists r.names r.end r.run n)) in
    let way : IsOnWay g l.end = record {
      names = l.names;
      run = l.run;
      below = λ ms d there q. omega (arith, made_run program lists l.names l.end l.run q, made_run program lists ms d there.0 q, l.least ms d there.0 (omega (arith, there.1, made_run program lists ms d there.0 n)) q);
    } in
    let cut = way_ends g l.end way (omega (arith, l.has, made_run program lists l.names l.end l.run n)) in
    ((lists_of l.end, counts_of l.end), cut, cut.least (lists, counts) is reached)

pub cuts_are_one : CutsAreOne
cuts_are_one program lists n k cut other a b =
    let m = reached_machine program lists in
    let x = run_of_cut program lists cut a.is in
    let z = run_of_cut program lists other b.is in
    let more = (a.least other b.is b.reaches).1 in
    let less = (b.least cut a.is a.reaches).1 in
    let end : x.end ≡ z.end = one_end m x.names z.names (start program) x.end z.end (start_is_reached program) x.run z.run (λ q.
    let p : made x.end q ≡ count_in cut.1 q = ap (λ u. count_in u q) x.counts in
    let r : made z.end q ≡ count_in other.1 q = ap (λ u. count_in u q) z.counts in
    omega (arith, p, r, more q, less q, made_run program lists x.names x.end x.run q, made_run program lists z.names z.end z.run q)) in
    let logs : cut.0 ≡ other.0 = sym x.logs ∙ ap lists_of end ∙ z.logs in
    let counts : cut.1 ≡ other.1 = sym x.counts ∙ ap counts_of end ∙ z.counts in
    λ i. (logs i, counts i)
