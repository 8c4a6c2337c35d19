-- One turn of a search, and when it ends.
use Rattle.std.proofs.Common.{◌≡◌, ◌<◌, ◌≤◌, ◌+◌, ◌*◌, ℕ, suc, Bool, true, false, List, [], ◌∷◌, ◌++◌, Option, Some, None, T, length, map, reverse, slice_get, refl, sym, ap, subst, ◌∙◌, arith, inl, inr, ⊎_elim, length-append}
use Rattle.std.proofs.Math.Dec.{leb}
use Rattle.std.proofs.lemmas.Bool.{leb-false, leb-true}
use Rattle.std.proofs.lemmas.List.{reverse-append}
use Rattle.std.specs.Global.{Vec}
use Rattle.std.specs.FinMap.{find, is_sorted, put}
use Rattle.std.specs.FinMap.Entries.{is_sorted-put, same_entries}
use Rattle.asp_model.specs.Names.{Name, name_cmp}
use Rattle.asp_model.specs.Term.{Tree}
use Rattle.asp_model.specs.Chase.{chase}
use Rattle.asp_model.specs.Configuration.{Activity, Configuration, ReceptionShape, log_of, requests_of, start}
use Rattle.asp_model.specs.Intent.{Acts, Done, Effect, Rests, intent}
use Rattle.asp_model.specs.Step.{ListsShape, intent_in, step}
use Rattle.asp_model.specs.Replay.{CountsShape, count_in, counts_of, replay, total}
use Rattle.asp_model.specs.Shapes.{lists_shape}
use Rattle.asp_model.specs.declared.outcome.Lists.{Lists}
use Rattle.def_journals.specs.Journals.{number_of}
use Rattle.law_chases.proofs.FutureLemmas.{no_some}
use Rattle.law_chases.proofs.MapLemmas.{find_same, find_other}
use Rattle.law_steps.specs.Reached.{IsAt, IsReached, RunsTo}
use Rattle.law_steps.proofs.EntryLemmas.{In, found_entry}
use Rattle.law_steps.proofs.FactLemmas.{face}
use Rattle.law_steps.proofs.ListLemmas.{count_own}
use Rattle.law_steps.proofs.NameLemmas.{name_total, name_same, name_case}
use Rattle.law_steps.proofs.NamesLaws.{entries_ascend}
use Rattle.law_steps.proofs.ReplayLemmas.{replays_are_runs}
use Rattle.law_steps.proofs.SoundLemmas.{at_name}
use Rattle.law_steps.proofs.StepLemmas.{takes_step}
use Rattle.law_steps.proofs.SystemCounts.{run_both}
use Rattle.law_steps.proofs.FlowLemmas.{machine}
use Rattle.law_cuts.specs.Searches.{ComesThere, Goal, IsNeeded, IsOnWay, made}
use Rattle.law_cuts.specs.Wants.{wanted}
use Rattle.law_cuts.proofs.CutLaws.{needed_steps, start_is_on_way, wanted_are_needed}
use Rattle.activity_step.specs.Local.{LocalRun}
use Rattle.replay_one.proofs.DifferenceLemmas.{names_of_lists}
use Rattle.replay_one.proofs.LocalLemmas.{local_intends}
use Rattle.replay_parts.proofs.RosterLemmas.{leads_both, number_named}
use Rattle.replay_population.specs.Population.{IsPopulation, IsRunIn, with_activity}
use Rattle.replay_population.specs.Reached.{IsReachedPopulation}
use Rattle.replay_parts.specs.Roster.{IsRoster, Leads}
use Rattle.replay_population.specs.declared.population.Population.{Population}
use Rattle.run_waits.specs.Targets.{AreTold}
use Rattle.run_waits.specs.declared.receipts.Receipts.{Receipts}
use Rattle.run_waits.specs.Chains.{IsChainUnder}
use Rattle.run_waits.specs.Entries.{names_in}
use Rattle.run_waits.specs.Turns.{IsWanted}
use Rattle.run_waits.specs.Searches.{AreNumbered, IsFound, IsSearched, IsSearching, IsSought, IsStart, IsStepped, goal_of}
use Rattle.run_waits.specs.declared.cuts.search.Search.{Search}
use Rattle.run_waits.proofs.ChainLemmas.{made_own, made_run, reached_by, stack_few, told_on_way, top_apart, top_needed, under_after}

-- Names by their numbers

pub numbered_leads : (ns ms : List Name) (xs : List Name) (ks : List ℕ) → IsRoster ms → Leads ns ms → AreNumbered ns xs ks → AreNumbered ms xs ks
numbered_leads ns ms [] [] r l h = tt
numbered_leads ns ms [] (k ∷ ks) r l h = absurd h
numbered_leads ns ms (x ∷ xs) [] r l h = absurd h
numbered_leads ns ms (x ∷ xs) (k ∷ ks) r l h = (r.numbers k x (l k x (number_named ns x k h.0)), numbered_leads ns ms xs ks r l h.1)

named_last : {X : Type 0} (xs : List X) (x : X) → reverse (xs ++ x ∷ []) ≡ x ∷ reverse xs
named_last xs x = reverse-append xs (x ∷ [])

pub no_items : {X : Type 0} (xs : List X) → length xs ≡ 0 → xs ≡ []
no_items [] e = refl
no_items (x ∷ xs) e = absurd (omega (arith, e))

in_names : {X : Type 0} (es : List (Name × X)) (x : Name × X) → In x es → (k : ℕ) × (slice_get (map (λ y. y.0) es) k ≡ Some x.0)
in_names [] x i = absurd i
in_names (e ∷ es) x (inl h) = (0, ap (λ y. Some y.0) (sym h))
in_names (e ∷ es) x (inr i) = let r = in_names es x i in (suc r.0, r.1)

logs_named : (f : Name × Activity → List ReceptionShape) (es : List (Name × Activity)) → map (λ y. y.0) (map {B = Name × List ReceptionShape} (λ x. (x.0, f x)) es) ≡ map (λ y. y.0) es
logs_named f [] = refl
logs_named f (e ∷ es) = ap (λ l. e.0 ∷ l) (logs_named f es)

-- who has no number has no log
pub no_log_of : (lists : Lists) (ns : List Name) (n : Name) → IsRoster ns → Leads (names_in lists) ns → number_of n ns ≡ None → find name_cmp n (lists_shape lists) ≡ None
no_log_of lists ns n r leads none = by (find name_cmp n (lists_shape lists)) refl
  where
    by : (o : Option (List ReceptionShape)) → find name_cmp n (lists_shape lists) ≡ o → find name_cmp n (lists_shape lists) ≡ None
    by None is = is
    by (Some l) is =
        let x = found_entry (lists_shape lists) n l is in
        let k = in_names (lists_shape lists) x.0 x.1 in
        let at : slice_get (names_in lists) k.0 ≡ Some n = ap (λ (m : List Name). slice_get m k.0) (sym (names_of_lists lists.entries.items)) ∙ k.1 ∙ ap Some x.2 in
        no_some (sym none ∙ r.numbers k.0 n (leads k.0 n at))

-- who made a reduction is there
there_by : (c : Configuration) (q : Name) (k : ℕ) → suc k ≤ made c q → (a : Activity) × IsAt c q a
there_by c q k le = by (find name_cmp q c.activities) refl
  where
    by : (o : Option Activity) → find name_cmp q c.activities ≡ o → (a : Activity) × IsAt c q a
    by (Some a) is = (a, is)
    by None is =
        let none : (at_name c q).reductions ≡ 0 = ap (λ o. (face o).reductions) is in
        absurd (omega (arith, le, none, count_own c q))

-- Steps of a population

module _ (program : Tree) (c : Configuration) (n : Name) (reached : IsReached program c) where
  ascend : T (is_sorted name_cmp c.activities)
  ascend = (entries_ascend program c reached).activities

  written_itself : (a : Activity) → IsAt c n a → with_activity n a c ≡ c
  written_itself a is =
      let es = c.activities in
      let R = name_cmp in
      let o = name_total in
      ap (λ es. record c { activities = es }) (same_entries R o name_same (put R n a es) es (is_sorted-put R o n a es ascend) ascend
      (λ q. ⊎_elim
      (λ p. ap (λ k. find R k (put R n a es)) p ∙ find_same R o name_same n a es ∙ sym is ∙ ap (λ k. find R k es) (sym p))
      (λ apart. find_other R o name_same q n a es apart)
      (name_case q n)))

  -- it took no contraction
  pub run_none : (p : Population) (most count k : ℕ) → k ≡ 0 → IsRunIn p c n most count k → IsPopulation p c
  run_none p most count k zero (inr h) = h.1
  run_none p most count k zero (inl h) =
      let same : h.activity ≡ h.end = subst (λ j. LocalRun j h.activity h.end) zero h.run in
      subst (IsPopulation p) (ap (λ a. with_activity n a c) (sym same) ∙ written_itself h.activity h.there) h.population

  -- it took one
  pub run_one : (lists : ListsShape) (p : Population) (count k : ℕ) → 0 < k → IsRunIn p c n 1 count k → (d : Configuration) × (step (Some lists) c n ≡ Some d) × IsPopulation p d
  run_one lists p count k some (inr h) = absurd (omega (arith, some, h.0))
  run_one lists p count k some (inl h) =
      let one : k ≡ 1 = omega (arith, some, h.within) in
      let r = subst (λ j. LocalRun j h.activity h.end) one h.run in
      let e : Effect = record { own = r.0; sent = None; logged = None; made = None; filled = None } in
      let intends : intent_in c n ≡ Acts e =
      ap (λ (q : Option Activity). elim q [ None ↦ Rests Done | Some a ↦ intent (chase c.futures) (requests_of c n) n a ]) h.there
      ∙ local_intends (chase c.futures) (requests_of c n) n h.activity r.0 r.1 in
      let d : Configuration = with_activity n r.0 c in
      (d, takes_step (Some lists) c n e (record { intends = intends; may = refl }), subst (λ b. IsPopulation p (with_activity n b c)) (sym r.2) h.population)

-- Turns

module _ (g : Goal) (counts : CountsShape) (receipts : Receipts) (h : IsSought g counts receipts) where
  abbrev end : Configuration
  end = replay g.program g.lists counts

  way_there : (names : List Name) × RunsTo (Some g.lists) (start g.program) names end
  way_there = replays_are_runs g.program g.lists counts

  end_made : (q : Name) → made end q ≡ count_in counts q
  end_made q = ap (λ k. count_in k q) h.fits.reached

  comes : ComesThere g way_there.0 end
  comes = (way_there.1, omega (arith, h.there, end_made g.name))

  pub told_at : (c : Configuration) → IsOnWay g c → AreTold c receipts
  told_at c way = told_on_way g way_there.0 end c receipts comes way h.told

  -- who is needed has a number
  number_there : (lists : Lists) (ns : List Name) (m : Name) → g.lists ≡ lists_shape lists → IsRoster ns → Leads (names_in lists) ns → 1 ≤ made end m → (k : ℕ) × (number_of m ns ≡ Some k)
  number_there lists ns m same r leads one =
      let a = there_by end m 0 one in
      let x = found_entry end.activities m a.0 a.1 in
      let k = in_names end.activities x.0 x.1 in
      let names : map (λ (y : Name × Activity). y.0) end.activities ≡ names_in lists =
      sym (logs_named (λ y. log_of end y.0) end.activities)
      ∙ ap (λ (ls : ListsShape). map (λ (y : Name × List ReceptionShape). y.0) ls) (h.fits.used_up ∙ same)
      ∙ names_of_lists lists.entries.items in
      let at : slice_get (names_in lists) k.0 ≡ Some m = ap (λ (l : List Name). slice_get l k.0) (sym names) ∙ k.1 ∙ ap Some x.2 in
      (k.0, r.numbers k.0 m (leads k.0 m at))

  module _ (lists : Lists) (s : Search) (turns : ℕ) (w : IsSearching g lists s turns) where
    abbrev c : Configuration
    c = w.point

    reached : IsReached g.program c
    reached = reached_by g w.at.way.names c w.at.way.run

    needed : IsNeeded g c w.top
    needed = top_needed g way_there.0 end comes c w.at.way w.less w.top w.below w.chain

    pub reached_point : IsReachedPopulation s.population g.program c
    reached_point = record { bare = w.at.bare; reached = reached; population = w.at.population }

    -- whom it had come to steps
    pub stepped : (q : Population) (d : Configuration) → step (Some g.lists) c w.top ≡ Some d → IsPopulation q d → Leads s.population.roster q.roster → IsStepped g lists (record s { population = q }) turns
    stepped q d st pop leads =
        let way : IsOnWay g d = record {
          names = w.at.way.names ++ w.top ∷ [];
          run = run_both (machine g.lists) w.at.way.names (w.top ∷ []) (start g.program) c d w.at.way.run (d, st, refl);
          below = (needed_steps g c d w.top w.at.way needed st).below;
        } in
        let more : length way.names ≡ length w.at.way.names + 1 = length-append w.at.way.names (w.top ∷ []) in
        let there = there_by d w.top (made c w.top) (omega (arith, made_own g c d w.top reached st)) in
        record {
          point = d;
          at = record { bare = w.at.bare; way = way; population = pop; numbered = leads_both (names_in lists) s.population.roster q.roster w.at.numbered leads };
          top = w.top;
          below = w.below;
          activity = there.0;
          there = there.1;
          chain = under_after g c d w.top reached st w.below w.chain (top_apart g way_there.0 end comes c w.at.way w.less w.top w.below w.chain) w.less;
          named = numbered_leads s.population.roster q.roster (w.top ∷ w.below) (s.top ∷ reverse s.below.items) pop.roster leads w.named;
          few = omega (arith, w.few, more);
        }

    -- whom it had come to cannot step, and needs another
    pub wants_one : (ns : List Name) (o : Option ℕ) → g.lists ≡ lists_shape lists → IsRoster ns → Leads (names_in lists) ns → (step (Some g.lists) c w.top ≡ None) × IsWanted (wanted g.lists c w.top) ns o
        → (m : Name) × (wanted g.lists c w.top ≡ Some m) × ((k : ℕ) × (o ≡ Some k) × (number_of m ns ≡ Some k))
    wants_one ns o same r leads t =
        let v = wanted_are_needed g c end w.top way_there.0 w.at.way needed comes t.0 in
        let le : suc (made c v.0) ≤ made end v.0 = v.2 way_there.0 end comes in
        let k = number_there lists ns v.0 same r leads (omega (arith, le)) in
        (v.0, v.1, (k.0, t.1 v.0 v.1 ∙ k.1, k.1))

    pub pushed : (q : Population) (t : Search) (number : ℕ) → IsPopulation q c → q.roster ≡ s.population.roster → g.lists ≡ lists_shape lists → (step (Some g.lists) c w.top ≡ None) × IsWanted (wanted g.lists c w.top) q.roster (Some number)
        → t.population ≡ q → t.top ≡ number → t.below.items ≡ s.below.items ++ s.top ∷ [] → IsSearching g lists t (suc turns)
    pushed q t number pop names same u p top below =
        let leads : Leads (names_in lists) q.roster = subst (Leads (names_in lists)) (sym names) w.at.numbered in
        let x = wants_one q.roster (Some number) same pop.roster leads u in
        let here : number_of x.0 q.roster ≡ Some number = x.2.2 ∙ sym x.2.1 in
        let numbers : number ∷ reverse (s.below.items ++ s.top ∷ []) ≡ number ∷ (s.top ∷ reverse s.below.items) = ap (λ l. number ∷ l) (named_last s.below.items s.top) in
        let was : AreNumbered q.roster (w.top ∷ w.below) (s.top ∷ reverse s.below.items) = subst (λ ns. AreNumbered ns (w.top ∷ w.below) (s.top ∷ reverse s.below.items)) (sym names) w.named in
        let named : AreNumbered q.roster (x.0 ∷ (w.top ∷ w.below)) (number ∷ reverse (s.below.items ++ s.top ∷ [])) = subst (AreNumbered q.roster (x.0 ∷ (w.top ∷ w.below))) (sym numbers) (here, was) in
        record {
          point = c;
          at = record { bare = w.at.bare; way = w.at.way; population = subst (λ r. IsPopulation r c) (sym p) pop; numbered = subst (λ (r : Population). Leads (names_in lists) r.roster) (sym p) leads };
          less = w.less;
          top = x.0;
          below = w.top ∷ w.below;
          chain = (u.0, x.1, w.chain);
          named = subst (λ (r : Population). AreNumbered r.roster (x.0 ∷ (w.top ∷ w.below)) (t.top ∷ reverse t.below.items)) (sym p) (subst (λ k. AreNumbered q.roster (x.0 ∷ (w.top ∷ w.below)) (k ∷ reverse t.below.items)) (sym top) (subst (λ l. AreNumbered q.roster (x.0 ∷ (w.top ∷ w.below)) (number ∷ reverse l)) (sym below) named));
          few = omega (arith, w.few);
        }

    -- it wants somebody who has a number
    pub wants_some : (q : Population) → IsPopulation q c → q.roster ≡ s.population.roster → g.lists ≡ lists_shape lists → (step (Some g.lists) c w.top ≡ None) × IsWanted (wanted g.lists c w.top) q.roster None → ⊥
    wants_some q pop names same u =
        let x = wants_one q.roster None same pop.roster (subst (Leads (names_in lists)) (sym names) w.at.numbered) u in
        no_some x.2.1

    -- it is not over yet, after so many turns
    pub few_turns : suc turns ≤ 2 * total counts
    few_turns =
        let all : total (counts_of end) ≡ total counts = ap total h.fits.reached in
        omega (arith, all, w.few, stack_few g way_there.0 end comes c w.at.way w.less w.top w.below w.chain)

-- where the population stands for the same, the search does
pub same_search : (g : Goal) (lists : Lists) (s : Search) (turns : ℕ) (q : Population) → (w : IsSearching g lists s turns) → IsPopulation q w.point → q.roster ≡ s.population.roster → IsSearching g lists (record s { population = q }) turns
same_search g lists s turns q w pop names = record {
  point = w.point;
  at = record { bare = w.at.bare; way = w.at.way; population = pop; numbered = subst (Leads (names_in lists)) (sym names) w.at.numbered };
  less = w.less;
  top = w.top;
  below = w.below;
  chain = w.chain;
  named = subst (λ (ns : List Name). AreNumbered ns (w.top ∷ w.below) (s.top ∷ reverse s.below.items)) (sym names) w.named;
  few = w.few;
}

-- back to the one below
pub goes_back : (g : Goal) (lists : Lists) (s t : Search) (turns number : ℕ) → IsStepped g lists s turns → t.population ≡ s.population → t.top ≡ number → s.below.items ≡ t.below.items ++ number ∷ [] → IsSearching g lists t (suc turns)
goes_back g lists s t turns number w p top below =
    let numbers : reverse s.below.items ≡ number ∷ reverse t.below.items = ap reverse below ∙ named_last t.below.items number in
    let named : AreNumbered s.population.roster (w.top ∷ w.below) (s.top ∷ (number ∷ reverse t.below.items)) = subst (λ l. AreNumbered s.population.roster (w.top ∷ w.below) (s.top ∷ l)) numbers w.named in
    by w.below refl w.chain named.1
  where
    by : (ys : List Name) → w.below ≡ ys → IsChainUnder g w.point w.top ys → AreNumbered s.population.roster ys (number ∷ reverse t.below.items) → IsSearching g lists t (suc turns)
    by [] e chain named = absurd named
    by (y ∷ ys) e chain named =
        let long : length w.below ≡ suc (length ys) = ap (λ (l : List Name). length l) e in
        record {
          point = w.point;
          at = record { bare = w.at.bare; way = w.at.way; population = subst (λ r. IsPopulation r w.point) (sym p) w.at.population; numbered = subst (λ (r : Population). Leads (names_in lists) r.roster) (sym p) w.at.numbered };
          less = chain.0;
          top = y;
          below = ys;
          chain = chain.1;
          named = subst (λ (r : Population). AreNumbered r.roster (y ∷ ys) (t.top ∷ reverse t.below.items)) (sym p) (subst (λ k. AreNumbered s.population.roster (y ∷ ys) (k ∷ reverse t.below.items)) (sym top) named);
          few = omega (arith, w.few, long);
        }

-- nobody is below, so it is the one that is sought
module _ (g : Goal) (lists : Lists) (s : Search) (turns : ℕ) (w : IsStepped g lists s turns) (none : s.below.items ≡ []) where
  alone : (ys : List Name) → IsChainUnder g w.point w.top ys → AreNumbered s.population.roster ys [] → (ys ≡ []) × (w.top ≡ g.name)
  alone [] chain named = (refl, chain)
  alone (y ∷ ys) chain named = absurd named

  only : (w.below ≡ []) × (w.top ≡ g.name)
  only = alone w.below w.chain (subst (λ l. AreNumbered s.population.roster (w.top ∷ w.below) (s.top ∷ reverse l)) none w.named).1

  counted : w.activity.reductions ≡ made w.point g.name
  counted =
      let own : (at_name w.point w.top).reductions ≡ w.activity.reductions = ap (λ o. (face o).reductions) w.there in
      sym own ∙ sym (count_own w.point w.top) ∙ ap (made w.point) only.1

  found_at_last : g.count ≤ w.activity.reductions → IsFound g s.population
  found_at_last le = (w.point, w.at.way, omega (arith, le, counted), w.at.population)

  goes_on_alone : (b : Vec ℕ) → b.items ≡ [] → w.activity.reductions < g.count → IsSearching g lists (record s { below = b }) (suc turns)
  goes_on_alone b empty less =
      let short : length w.below ≡ 0 = ap (λ (l : List Name). length l) only.0 in
      let items : s.below.items ≡ b.items = none ∙ sym empty in
      record {
        point = w.point;
        at = w.at;
        less = omega (arith, less, counted);
        top = w.top;
        below = [];
        chain = only.1;
        named = subst (λ (l : List ℕ). AreNumbered s.population.roster (w.top ∷ []) (s.top ∷ reverse l)) items (subst (λ ys. AreNumbered s.population.roster (w.top ∷ ys) (s.top ∷ reverse s.below.items)) only.0 w.named);
        few = omega (arith, w.few, short);
      }

  pub goes_on : (b : Vec ℕ) → b.items ≡ [] → (k count : ℕ) → g.count ≡ k → count ≡ w.activity.reductions → IsSearched g lists (leb k count) (record s { below = b }) (suc turns)
  goes_on b empty k count same is = by (leb k count) refl
    where
      by : (x : Bool) → leb k count ≡ x → IsSearched g lists x (record s { below = b }) (suc turns)
      by true h = found_at_last (omega (arith, leb-true k count h, same, is))
      by false h = goes_on_alone b empty (omega (arith, leb-false k count h, same, is))

-- the search begins at the start
pub begins : (program : Tree) (lists : Lists) (n : Name) (k number : ℕ) (s : Search) → 0 < k → IsStart program lists n number s.population → s.top ≡ number → s.below.items ≡ [] → IsSearching (goal_of program lists n k) lists s 0
begins program lists n k number s some w top below =
    let g : Goal = goal_of program lists n k in
    let way : IsOnWay g (start program) = record { names = []; run = refl; below = (start_is_on_way g).below } in
    let named : AreNumbered s.population.roster (n ∷ []) (s.top ∷ reverse s.below.items) = subst (λ l. AreNumbered s.population.roster (n ∷ []) (s.top ∷ reverse l)) (sym below) (w.named ∙ ap Some (sym top), tt) in
    record {
      point = start program;
      at = record { bare = w.bare; way = way; population = w.population; numbered = w.numbered };
      less = omega (arith, some, made_run g [] (start program) refl n);
      top = n;
      below = [];
      chain = refl;
      named = named;
      few = omega arith;
    }

-- what is sought is there at once
pub found_at_once : (program : Tree) (lists : Lists) (n : Name) (k number : ℕ) (p : Population) → k ≡ 0 → IsStart program lists n number p → IsFound (goal_of program lists n k) p
found_at_once program lists n k number p zero w =
    let g : Goal = goal_of program lists n k in
    (start program, start_is_on_way g, omega (arith, zero), w.population)
