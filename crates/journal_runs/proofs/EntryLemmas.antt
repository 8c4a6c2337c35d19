-- An entry that is redone, and one that is refused.
use Rattle.std.proofs.Common.{◌≡◌, ◌<◌, ◌≤◌, ◌+◌, ◌-◌, ◌^◌, ◌&&◌, ◌++◌, ◌∷◌, [], ℕ, zero, suc, Bool, true, false, List, Option, Some, None, Ok, Err, Result, IfOk, OnOk, is_none, is_some, length, min, nat_le, nat_lt, slice_get, refl, sym, ap, subst, ◌∙◌, arith}
use Rattle.std.proofs.lemmas.Bool.{le-leb}
use Rattle.std.specs.FinMap.{find}
use Rattle.asp_model.specs.Names.{FutureShape, Name, name_cmp}
use Rattle.asp_model.specs.Term.{Tree}
use Rattle.asp_model.specs.Chase.{chase}
use Rattle.asp_model.specs.Configuration as model
use Rattle.asp_model.specs.Configuration.{Configuration}
use Rattle.asp_model.specs.History.{Committed, Delivered, Edge, EntryShape, Lent, Need, program_history}
use Rattle.asp_model.specs.Status.{is_running, status_of}
use Rattle.asp_model.specs.Step.{name_at}
use Rattle.asp_model.specs.Store.{CellShape, Number, Store, cell}
use Rattle.def_journals.specs.Deliveries.{at_place, edge_delivered, need_delivered, value_needed}
use Rattle.def_journals.specs.Journals.{RunShape, back, committed, delivered, entered, grant_of, granted, is_in, lent, may_lend, newcomers, number_of, out_but, over, reduced, run_of}
use Rattle.law_chases.proofs.FutureLemmas.{no_some, some_is, none_true, true_false}
use Rattle.law_steps.specs.Reached.{IsAt, IsThere}
use Rattle.law_steps.proofs.NameLemmas.{is_there, not_some}
use Rattle.replay_population.specs.declared.population.Population.{Population}
use Rattle.replay_population.specs.Deliveries.{IsDelivered}
use Rattle.replay_population.specs.Population.{IsPopulation}
use Rattle.replay_population.specs.Reached.{IsReachedPopulation}
use Rattle.journal_runs.specs.declared.runs.JournalRun.{JournalRun}
use Rattle.journal_runs.specs.Grants.{IsGranted}
use Rattle.journal_runs.specs.Receivers.{IsReceiver}
use Rattle.journal_runs.specs.Runs.{IsRedone, IsRunOf, grant_at}
use Rattle.journal_runs.proofs.GrantLemmas.{grant_within, out_less, out_more}
use Rattle.journal_runs.proofs.RunFacts.{named_at, number_there, run_goes_on, run_within, there_number, unnamed_at}

module _ (x y : JournalRun) (program : Tree) (budget : ℕ) (entries : List EntryShape) (s : RunShape) (r : IsRunOf x program budget entries s) where
  -- no lawful journal goes on so
  pub refused : (e : EntryShape) → entered e s ≡ None → IsRedone y program budget (entries ++ e ∷ []) (entered e s) false
  refused e none = subst (λ o. IsRedone y program budget (entries ++ e ∷ []) o false) (sym none) tt

  redone : (e : EntryShape) (t : RunShape) → entered e s ≡ Some t → IsRunOf y program budget (entries ++ e ∷ []) t → IsRedone y program budget (entries ++ e ∷ []) (entered e s) true
  redone e t is h = subst (λ o. IsRedone y program budget (entries ++ e ∷ []) o true) (sym is) h

  goes_on : (e : EntryShape) (t : RunShape) → entered e s ≡ Some t → run_of (program_history program budget (entries ++ e ∷ [])) ≡ Some t
  goes_on e t is = run_goes_on program budget entries s r.lawful e t is

  -- Lends

  abbrev test_lent : ℕ → Bool → Option RunShape
  test_lent k b = elim b [ true ↦ Some (record s { left = s.left - granted s; out = (k, granted s) ∷ s.out }) | false ↦ None ]

  lent_by : (k : ℕ) (n : Name) (b : Bool) → slice_get x.population.roster k ≡ Some n → may_lend s k n ≡ b → entered (Lent k) s ≡ test_lent k b
  lent_by k n b named may = ap (lent k s) (named_at x program budget entries s r k n named) ∙ ap (test_lent k) may

  pub unnamed_lent : (k : ℕ) → slice_get x.population.roster k ≡ None → entered (Lent k) s ≡ None
  unnamed_lent k none = ap (lent k s) (unnamed_at x program budget entries s r k none)

  last_false : (a b c : Bool) → c ≡ false → (a && b && c) ≡ false
  last_false true true c e = e
  last_false true false c e = refl
  last_false false b c e = refl

  mid_false : (a b c : Bool) → b ≡ false → (a && b && c) ≡ false
  mid_false true true c e = none_true (sym e)
  mid_false true false c e = refl
  mid_false false b c e = refl

  none_left : (left : ℕ) → left ≡ 0 → nat_lt 0 left ≡ false
  none_left zero e = refl
  none_left (suc left) e = absurd (omega (arith, e))

  some_left : (left : ℕ) → 0 < left → nat_lt 0 left ≡ true
  some_left left h = le-leb 1 left (omega (arith, h))

  pub spent_lent : (k : ℕ) → x.left ≡ 0 → entered (Lent k) s ≡ None
  spent_lent k none = by (name_at s.names k)
    where
      by : (o : Option Name) → lent k s o ≡ None
      by None = refl
      by (Some n) = ap (test_lent k) (last_false (is_none (grant_of k s.out)) (is_running (status_of s.configuration n)) (nat_lt 0 s.left) (none_left s.left (sym r.left ∙ none)))

  pub out_lent : (k g : ℕ) → grant_at x.grants.items k ≡ Some g → entered (Lent k) s ≡ None
  out_lent k g out = by (name_at s.names k)
    where
      first_false : (a b c : Bool) → a ≡ false → (a && b && c) ≡ false
      first_false true b c e = none_true (sym e)
      first_false false b c e = refl

      by : (o : Option Name) → lent k s o ≡ None
      by None = refl
      by (Some n) = ap (test_lent k) (first_false (is_none (grant_of k s.out)) (is_running (status_of s.configuration n)) (nat_lt 0 s.left) (ap is_none (sym (r.grants k) ∙ out)))

  pub resting_lent : (k : ℕ) (n : Name) → slice_get x.population.roster k ≡ Some n → is_running (status_of s.configuration n) ≡ false → entered (Lent k) s ≡ None
  resting_lent k n named rests = lent_by k n false named (mid_false (is_none (grant_of k s.out)) (is_running (status_of s.configuration n)) (nat_lt 0 s.left) rests)

  pub lend_redone : (k : ℕ) (n : Name) → slice_get x.population.roster k ≡ Some n → grant_at x.grants.items k ≡ None → is_running (status_of s.configuration n) ≡ true → 0 < x.left
      → IsPopulation y.population s.configuration → y.population.roster ≡ x.population.roster → (g : ℕ) → g ≡ granted s → IsGranted x.grants.items k (Some g) y.grants.items → y.left ≡ x.left - g
      → IsRedone y program budget (entries ++ Lent k ∷ []) (entered (Lent k) s) true
  lend_redone k n named free runs some pop roster g is grants left =
      let t : RunShape = record s { left = s.left - granted s; out = (k, granted s) ∷ s.out } in
      let more : 0 < s.left = subst (λ l. 0 < l) r.left some in
      let may : may_lend s k n ≡ true = λ i. is_none ((sym (r.grants k) ∙ free) i) && runs i && some_left s.left more i in
      let lends : entered (Lent k) s ≡ Some t = lent_by k n true named may in
      redone (Lent k) t lends (record {
        bare = r.bare;
        small = r.small;
        lawful = goes_on (Lent k) t lends;
        population = pop;
        names = roster ∙ r.names;
        left = left ∙ (λ i. r.left i - is i);
        grants = out_more x.grants.items y.grants.items s.out k (granted s) r.grants (subst (λ j. IsGranted x.grants.items k (Some j) y.grants.items) is grants);
        few = grants.few r.few;
      })

  -- Commits

  pub unnamed_commit : (k j : ℕ) → slice_get x.population.roster k ≡ None → entered (Committed k j) s ≡ None
  unnamed_commit k j none = ap (λ o. committed k j s o (grant_of k s.out)) (unnamed_at x program budget entries s r k none)

  pub in_commit : (k j : ℕ) → grant_at x.grants.items k ≡ None → entered (Committed k j) s ≡ None
  in_commit k j none = ap (λ o. committed k j s (name_at s.names k) o) (sym (r.grants k) ∙ none) ∙ by (name_at s.names k)
    where
      by : (o : Option Name) → committed k j s o None ≡ None
      by None = refl
      by (Some n) = refl

  abbrev test_commit : (k j : ℕ) → Name → ℕ → Bool → Option RunShape
  test_commit k j n grant b = elim b [ true ↦ back s k (grant - j) (reduced j n s.configuration) | false ↦ None ]

  commit_by : (k j : ℕ) (n : Name) (grant : ℕ) (b : Bool) → slice_get x.population.roster k ≡ Some n → grant_at x.grants.items k ≡ Some grant → nat_le j grant ≡ b → entered (Committed k j) s ≡ test_commit k j n grant b
  commit_by k j n grant b named out le =
      ap (λ o. committed k j s o (grant_of k s.out)) (named_at x program budget entries s r k n named)
      ∙ ap (λ o. committed k j s (Some n) o) (sym (r.grants k) ∙ out)
      ∙ ap (test_commit k j n grant) le

  not_le : (j grant : ℕ) → grant < j → nat_le j grant ≡ false
  not_le j grant lt = elim (nat_le j grant) as (λ b. nat_le j grant ≡ b → b ≡ false) [ true ↦ λ e. absurd (grind (arith, e, lt)) | false ↦ λ e. refl ] refl

  pub long_commit : (k j : ℕ) (n : Name) (grant : ℕ) → slice_get x.population.roster k ≡ Some n → grant_at x.grants.items k ≡ Some grant → grant < j → entered (Committed k j) s ≡ None
  long_commit k j n grant named out lt = commit_by k j n grant false named out (not_le j grant lt)

  pub stuck_commit : (k j : ℕ) (n : Name) (grant : ℕ) → slice_get x.population.roster k ≡ Some n → grant_at x.grants.items k ≡ Some grant → j ≤ grant → reduced j n s.configuration ≡ None → entered (Committed k j) s ≡ None
  stuck_commit k j n grant named out le none = commit_by k j n grant true named out (le-leb j grant le) ∙ ap (back s k (grant - j)) none

  -- what comes back fits
  pub commit_fits : (k grant : ℕ) → grant_at x.grants.items k ≡ Some grant → x.left + grant < 2 ^ 64
  commit_fits k grant out =
      let within = run_within program budget entries s r.lawful in
      let part = grant_within k grant s.out (sym (r.grants k) ∙ out) in
      let same : x.left ≡ s.left = r.left in
      omega (arith, within, part, same, r.small)

  pub commit_redone : (k j : ℕ) (n : Name) (grant : ℕ) (d : Configuration) → slice_get x.population.roster k ≡ Some n → grant_at x.grants.items k ≡ Some grant → j ≤ grant → reduced j n s.configuration ≡ Some d
      → IsPopulation y.population d → y.population.roster ≡ x.population.roster ++ newcomers s.configuration d → IsGranted x.grants.items k None y.grants.items → y.left ≡ x.left + (grant - j)
      → IsRedone y program budget (entries ++ Committed k j ∷ []) (entered (Committed k j) s) true
  commit_redone k j n grant d named out le reduces pop roster grants left =
      let t : RunShape = record { configuration = d; names = s.names ++ newcomers s.configuration d; left = s.left + (grant - j); out = out_but k s.out } in
      let commits : entered (Committed k j) s ≡ Some t = commit_by k j n grant true named out (le-leb j grant le) ∙ ap (back s k (grant - j)) reduces in
      redone (Committed k j) t commits (record {
        bare = r.bare;
        small = r.small;
        lawful = goes_on (Committed k j) t commits;
        population = pop;
        names = roster ∙ ap (λ ns. ns ++ newcomers s.configuration d) r.names;
        left = left ∙ ap (λ l. l + (grant - j)) r.left;
        grants = out_less x.grants.items y.grants.items s.out k r.grants grants;
        few = grants.few r.few;
      })

  -- Deliveries

  in_by : (n : Name) (o : Option ℕ) → number_of n x.population.roster ≡ o → is_in s n ≡ elim o [ None ↦ false | Some k ↦ is_none (grant_of k s.out) ]
  in_by n o is = ap (λ z. elim z [ None ↦ false | Some k ↦ is_none (grant_of k s.out) ]) (ap (number_of n) (sym r.names) ∙ is)

  receives : (n : Name) (k : ℕ) → IsReceiver x n (Some k) → is_in s n ≡ true
  receives n k h = in_by n (Some k) h.0 ∙ ap is_none (sym (r.grants k) ∙ h.1)

  receives_not : (n : Name) → IsReceiver x n None → is_in s n ≡ false
  receives_not n h = by (number_of n x.population.roster) refl
    where
      by_grant : (k : ℕ) → number_of n x.population.roster ≡ Some k → (o : Option ℕ) → grant_at x.grants.items k ≡ o → is_none o ≡ false
      by_grant k is None g = absurd (h k is g)
      by_grant k is (Some g) e = refl

      by : (o : Option ℕ) → number_of n x.population.roster ≡ o → is_in s n ≡ false
      by None is = in_by n None is
      by (Some k) is = in_by n (Some k) is ∙ ap is_none (sym (r.grants k)) ∙ by_grant k is (grant_at x.grants.items k) refl

  abbrev test_over : Option Configuration → Bool → Option RunShape
  test_over o b = elim b [ true ↦ over s o | false ↦ None ]

  both_false : (a b : Bool) → b ≡ false → (a && b) ≡ false
  both_false true b e = e
  both_false false b e = refl

  pub from_nobody : (f : FutureShape) (from to : Name) → number_of from x.population.roster ≡ None → entered (Delivered (Edge f from to)) s ≡ None
  from_nobody f from to none = ap (test_over (edge_delivered s.configuration f to)) (ap (λ b. b && is_in s to) (ap is_some (not_some (find name_cmp from s.configuration.activities) (λ there. no_some (sym none ∙ (there_number x program budget entries s r from there).1)))))

  pub edge_not_in : (f : FutureShape) (from to : Name) → IsReceiver x to None → entered (Delivered (Edge f from to)) s ≡ None
  edge_not_in f from to h = ap (test_over (edge_delivered s.configuration f to)) (both_false (is_some (find name_cmp from s.configuration.activities)) (is_in s to) (receives_not to h))

  pub need_not_in : (f : FutureShape) (to : Name) (place : ℕ) → IsReceiver x to None → entered (Delivered (Need f to place)) s ≡ None
  need_not_in f to place h = ap (test_over (need_delivered s.configuration f to place)) (receives_not to h)

  -- past the end of a store nothing is needed
  past_end : (cells : Store) (place : ℕ) → length cells ≤ place → cell cells place ≡ cell [] place
  past_end [] place h = refl
  past_end (c ∷ cells) zero h = absurd (omega (arith, h))
  past_end (c ∷ cells) (suc place) h = past_end cells place (omega (arith, h))

  nothing_past : (f : FutureShape) (to : Name) (place : ℕ) (a : model.Activity) → IsAt s.configuration to a → length a.store ≤ place → need_delivered s.configuration f to place ≡ None
  nothing_past f to place a at past =
      let c : Configuration = s.configuration in
      ap (λ (o : Option model.Activity). elim o [ None ↦ None | Some b ↦ at_place c to place b (value_needed (chase c.futures) f (cell b.store place)) ]) at
      ∙ ap (λ (z : CellShape). at_place c to place a (value_needed (chase c.futures) f z)) (past_end a.store place past)

  pub need_past : (f : FutureShape) (to : Name) (k place : ℕ) → IsReceiver x to (Some k) → ((a : model.Activity) → IsAt s.configuration to a → length a.store ≤ place) → entered (Delivered (Need f to place)) s ≡ None
  need_past f to k place h past =
      let a = is_there (find name_cmp to s.configuration.activities) (number_there x program budget entries s r to k h.0) in
      ap (test_over (need_delivered s.configuration f to place)) (receives to k h) ∙ ap (over s) (nothing_past f to place a.0 a.1 (past a.0 a.1))

  module _ (roster : y.population.roster ≡ x.population.roster) (grants : y.grants ≡ x.grants) (left : y.left ≡ x.left) where
    over_redone : (e : EntryShape) (o : Option Configuration) (b : Bool) → entered e s ≡ over s o → IsDelivered y.population s.configuration o b → IsRedone y program budget (entries ++ e ∷ []) (entered e s) b
    over_redone e (Some d) true is h =
        let t : RunShape = record s { configuration = d } in
        redone e t is (record {
          bare = r.bare;
          small = r.small;
          lawful = goes_on e t is;
          population = h;
          names = roster ∙ r.names;
          left = left ∙ r.left;
          grants = λ k. ap (λ g. grant_at g.items k) grants ∙ r.grants k;
          few = subst (λ (g : List (Option ℕ)). length g ≤ 2 ^ 32) (ap (λ g. g.items) (sym grants)) r.few;
        })
    over_redone e None false is h = refused e is
    over_redone e (Some d) false is h = absurd h
    over_redone e None true is h = absurd h

    pub edge_redone : (f : FutureShape) (from to : Name) (k j : ℕ) (b : Bool) → number_of from x.population.roster ≡ Some j → IsReceiver x to (Some k) → IsDelivered y.population s.configuration (edge_delivered s.configuration f to) b
        → IsRedone y program budget (entries ++ Delivered (Edge f from to) ∷ []) (entered (Delivered (Edge f from to)) s) b
    edge_redone f from to k j b sender h d =
        over_redone (Delivered (Edge f from to)) (edge_delivered s.configuration f to) b
        (ap (test_over (edge_delivered s.configuration f to)) (λ i. number_there x program budget entries s r from j sender i && receives to k h i)) d

    pub need_redone : (f : FutureShape) (to : Name) (k place : ℕ) (b : Bool) → IsReceiver x to (Some k) → IsDelivered y.population s.configuration (need_delivered s.configuration f to place) b
        → IsRedone y program budget (entries ++ Delivered (Need f to place) ∷ []) (entered (Delivered (Need f to place)) s) b
    need_redone f to k place b h d =
        over_redone (Delivered (Need f to place)) (need_delivered s.configuration f to place) b
        (ap (test_over (need_delivered s.configuration f to place)) (receives to k h)) d

  module _ (grants : y.grants ≡ x.grants) (left : y.left ≡ x.left) where
    pub edge_redone_if : {E : Type 0} (o : Result Bool E) (f : FutureShape) (from to : Name) (k j : ℕ) → number_of from x.population.roster ≡ Some j → IsReceiver x to (Some k) → OnOk o (y.population.roster ≡ x.population.roster) → IfOk o (IsDelivered y.population s.configuration (edge_delivered s.configuration f to))
        → IfOk o (IsRedone y program budget (entries ++ Delivered (Edge f from to) ∷ []) (entered (Delivered (Edge f from to)) s))
    edge_redone_if (Ok b) f from to k j sender h roster d = edge_redone roster grants left f from to k j b sender h d
    edge_redone_if (Err e) f from to k j sender h roster d = tt

    pub need_redone_if : {E : Type 0} (o : Result Bool E) (f : FutureShape) (to : Name) (k place loc : ℕ) → place ≡ loc → IsReceiver x to (Some k) → OnOk o (y.population.roster ≡ x.population.roster) → IfOk o (IsDelivered y.population s.configuration (need_delivered s.configuration f to place))
        → IfOk o (IsRedone y program budget (entries ++ Delivered (Need f to loc) ∷ []) (entered (Delivered (Need f to loc)) s))
    need_redone_if (Ok b) f to k place loc same h roster d = need_redone roster grants left f to k loc b h (subst (λ q. IsDelivered y.population s.configuration (need_delivered s.configuration f to q) b) same d)
    need_redone_if (Err e) f to k place loc same h roster d = tt
