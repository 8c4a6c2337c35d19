-- What steps make of who is out, and of the leases.
use Rattle.std.proofs.Common.{◌≡◌, ◌≢◌, ◌<◌, ◌==◌, ◌&&◌, ◌∙◌, ◌∷◌, [], ℕ, Bool, true, false, not, List, Option, Some, None, is_some, cond, inl, inr, ◌⊎◌, refl, sym, ap, subst, arith}
use Rattle.std.proofs.lemmas.Bool.{eqb-true, false_from_ne_true}
use Rattle.std.specs.BTreeMap.{BTreeMap, get, is_at}
use Rattle.std.specs.Map.{lookup}
use Rattle.std.specs.Ordering.{nat_cmp}
use Rattle.asp_model.specs.History.{Committed, Delivered, DeliveryShape, EntryShape, HistoryShape, Lent, with_entry}
use Rattle.asp_model.specs.Names.{Name}
use Rattle.def_journals.specs.Journals.{RunShape, delivered, entered, grant_of, granted, out_but}
use Rattle.law_chases.proofs.FutureLemmas.{true_false}
use Rattle.law_journals.specs.Entered.{with_lease}
use Rattle.law_journals.specs.Leases.{stays_out}
use Rattle.law_journals.proofs.BurstLemmas.{leases_last}
use Rattle.law_journals.proofs.LeaseLemmas.{grant_but}
use Rattle.code_table.specs.declared.code.Node.{Node}
use Rattle.core_ranks.proofs.NumberLemmas.{number_case, number_itself}
use Rattle.law_core.specs.Runs.{is_ready}
use Rattle.core_state.specs.Arrivals.{act_at}
use Rattle.core_state.specs.declared.lease.Lease.{Lease}
use Rattle.core_state.specs.Leases.{HasStopped, IsLease}
use Rattle.asp_core.specs.declared.cores.Core.{Core}
use Rattle.asp_core.specs.Cores.{IsRun, activities_of, code_of, history_of}
use Rattle.asp_core.specs.Calls.{HasEntered, HasGoneOn, IsCommittedBy, IsLentBy}
use Rattle.asp_core.specs.Runs.{counted}
use Rattle.asp_core.proofs.LendLemmas.{ready_seat}
use Rattle.asp_core.proofs.OutAfterLemmas.{committed_out, delivered_out, entry_run}
use Rattle.asp_core.proofs.StopLemmas.{stops_there}
use Rattle.core_drives.specs.declared.drivers.Driver.{Driver}
use Rattle.core_drives.specs.Driving.{IsDriving, IsHeldAt}
use Rattle.core_drives.specs.Steps.{ComesIn, Commits, Delivers, IsStepped, Lends, entered_if}

pub apart_of : (k j : ℕ) → is_at (nat_cmp k) j ≡ false → j ≢ k
apart_of k j other same = true_false (is_at (nat_cmp k) k) (number_itself k) (ap (λ q. is_at (nat_cmp k) q) (sym same) ∙ other)

pub same_number : (k : ℕ) → (k == k) ≡ true
same_number k = grind arith

pub differ : (j k : ℕ) → j ≢ k → (j == k) ≡ false
differ j k apart = false_from_ne_true (j == k) (λ e. apart (eqb-true j k e))

-- Who is out

pub lent_itself : (s : RunShape) (k : ℕ) → grant_of k (with_lease s k).out ≡ Some (granted s)
lent_itself s k = ap (λ b. elim b [ true ↦ Some (granted s) | false ↦ grant_of k s.out ]) (same_number k)

pub lent_other : (s : RunShape) (k j : ℕ) → j ≢ k → grant_of j (with_lease s k).out ≡ grant_of j s.out
lent_other s k j apart = ap (λ b. elim b [ true ↦ Some (granted s) | false ↦ grant_of j s.out ]) (differ j k apart)

-- who comes in is out no more
in_itself : (k : ℕ) (xs : List (ℕ × ℕ)) → grant_of k (out_but k xs) ≡ None
in_itself k [] = refl
in_itself k (x ∷ xs) = by (k == x.0) refl (in_itself k xs)
  where
    by : (b : Bool) → (k == x.0) ≡ b → grant_of k (out_but k xs) ≡ None → grant_of k (elim b [ true ↦ out_but k xs | false ↦ x ∷ out_but k xs ]) ≡ None
    by true is rest = rest
    by false is rest = ap (λ b. elim b [ true ↦ Some x.1 | false ↦ grant_of k (out_but k xs) ]) is ∙ rest

pub back_itself : (s t : RunShape) (k r : ℕ) → entered (Committed k r) s ≡ Some t → grant_of k t.out ≡ None
back_itself s t k r e = ap (grant_of k) (committed_out s t k r _ _ e) ∙ in_itself k s.out

pub back_other : (s t : RunShape) (k r j : ℕ) → j ≢ k → entered (Committed k r) s ≡ Some t → grant_of j t.out ≡ grant_of j s.out
back_other s t k r j apart e = ap (grant_of j) (committed_out s t k r _ _ e) ∙ grant_but j k s.out (differ j k apart)

-- Leases

abbrev pub lease_on : (h : HistoryShape) (code : List Node) (x : EntryShape) (l : Lease) → stays_out l.number (x ∷ []) ≡ true → IsLease h code l → IsLease (with_entry h x) code l
lease_on h code x l stays is = record {
  run = is.run;
  lent = leases_last h x l.number l.burst is.run stays is.lent;
  name = is.name;
  named = is.named;
  activity = is.activity;
  there = is.there;
  grant = is.grant;
  within = is.within;
  done = is.done;
}

pub stays_by : (j k : ℕ) → j ≢ k → (not (j == k) && true) ≡ true
stays_by j k apart = ap (λ b. not b && true) (differ j k apart)

held_on : (h : HistoryShape) (code : List Node) (e : EntryShape) (k : ℕ) (g : Option ℕ) (o : Option Lease) → stays_out k (e ∷ []) ≡ true → IsHeldAt h code k g o → IsHeldAt (with_entry h e) code k g o
held_on h code e k None None stays is = tt
held_on h code e k (Some g) (Some l) stays is = (is.0, lease_on h code e l (subst (λ n. stays_out n (e ∷ []) ≡ true) (sym is.0) stays) is.1)
held_on h code e k None (Some l) stays is = absurd is
held_on h code e k (Some g) None stays is = absurd is

module _ {P : Type 0} where
  -- who is not told of by the entry stays as it was
  pub held_then : (x y : Core P) (e : EntryShape) (k : ℕ) (g h : Option ℕ) (o p : Option Lease) → HasEntered x e y → code_of y ≡ code_of x → stays_out k (e ∷ []) ≡ true → h ≡ g → p ≡ o
      → IsHeldAt (history_of x) (code_of x) k g o → IsHeldAt (history_of y) (code_of y) k h p
  held_then x y e k g h o p more code stays grants leases is =
      subst (λ c. IsHeldAt (history_of y) c k h p) (sym code)
      (subst (λ q. IsHeldAt q (code_of x) k h p) (sym more)
      (subst (λ q. IsHeldAt (with_entry (history_of x) e) (code_of x) k q p) (sym grants)
      (subst (λ q. IsHeldAt (with_entry (history_of x) e) (code_of x) k g q) (sym leases)
      (held_on (history_of x) (code_of x) e k g o stays is))))

  module _ (x y : Core P) (s : RunShape) (is : IsRun x s) (code : code_of y ≡ code_of x) (old new : BTreeMap ℕ Lease)
      (held : (j : ℕ) → IsHeldAt (history_of x) (code_of x) j (grant_of j s.out) (get nat_cmp old j)) where
    -- one is lent
    pub lent_held : (k : ℕ) (l : Lease) → IsLentBy x s k (Some l) y → ((j : ℕ) → get nat_cmp new j ≡ cond (is_at (nat_cmp k) j) (Some l) (get nat_cmp old j))
        → (j : ℕ) → IsHeldAt (history_of y) (code_of y) j (grant_of j (with_lease s k).out) (get nat_cmp new j)
    lent_held k l lent updates j = by (number_case k j)
      where
        here : IsHeldAt (history_of y) (code_of y) k (grant_of k (with_lease s k).out) (get nat_cmp new k)
        here =
            subst (λ g. IsHeldAt (history_of y) (code_of y) k g (get nat_cmp new k)) (sym (lent_itself s k))
            (subst (λ o. IsHeldAt (history_of y) (code_of y) k (Some (granted s)) o) (sym (updates k ∙ ap (λ b. cond b (Some l) (get nat_cmp old k)) (number_itself k)))
            (lent.3.number, lent.3.lease))

        by : (j ≡ k) ⊎ (is_at (nat_cmp k) j ≡ false) → IsHeldAt (history_of y) (code_of y) j (grant_of j (with_lease s k).out) (get nat_cmp new j)
        by (inl same) = subst (λ q. IsHeldAt (history_of y) (code_of y) q (grant_of q (with_lease s k).out) (get nat_cmp new q)) (sym same) here
        by (inr other) =
            let apart = apart_of k j other in
            held_then x y (Lent k) j (grant_of j s.out) (grant_of j (with_lease s k).out) (get nat_cmp old j) (get nat_cmp new j) lent.1 code (stays_by j k apart) (lent_other s k j apart)
            (updates j ∙ ap (λ b. cond b (Some l) (get nat_cmp old j)) other) (held j)

    -- one comes in
    pub back_held : (k r : ℕ) (t : RunShape) → entered (Committed k r) s ≡ Some t → HasEntered x (Committed k r) y → ((j : ℕ) → get nat_cmp new j ≡ cond (is_at (nat_cmp k) j) None (get nat_cmp old j))
        → (j : ℕ) → IsHeldAt (history_of y) (code_of y) j (grant_of j t.out) (get nat_cmp new j)
    back_held k r t enters more updates j = by (number_case k j)
      where
        here : IsHeldAt (history_of y) (code_of y) k (grant_of k t.out) (get nat_cmp new k)
        here =
            subst (λ g. IsHeldAt (history_of y) (code_of y) k g (get nat_cmp new k)) (sym (back_itself s t k r enters))
            (subst (λ o. IsHeldAt (history_of y) (code_of y) k None o) (sym (updates k ∙ ap (λ b. cond b None (get nat_cmp old k)) (number_itself k))) tt)

        by : (j ≡ k) ⊎ (is_at (nat_cmp k) j ≡ false) → IsHeldAt (history_of y) (code_of y) j (grant_of j t.out) (get nat_cmp new j)
        by (inl same) = subst (λ q. IsHeldAt (history_of y) (code_of y) q (grant_of q t.out) (get nat_cmp new q)) (sym same) here
        by (inr other) =
            let apart = apart_of k j other in
            held_then x y (Committed k r) j (grant_of j s.out) (grant_of j t.out) (get nat_cmp old j) (get nat_cmp new j) more code (stays_by j k apart) (back_other s t k r j apart enters)
            (updates j ∙ ap (λ b. cond b None (get nat_cmp old j)) other) (held j)

  -- a value comes
  pub delivered_held : (x y : Core P) (s t : RunShape) (code : code_of y ≡ code_of x) (leases : BTreeMap ℕ Lease) (d : DeliveryShape) → entered (Delivered d) s ≡ Some t → HasEntered x (Delivered d) y
      → ((j : ℕ) → IsHeldAt (history_of x) (code_of x) j (grant_of j s.out) (get nat_cmp leases j)) → (j : ℕ) → IsHeldAt (history_of y) (code_of y) j (grant_of j t.out) (get nat_cmp leases j)
  delivered_held x y s t code leases d enters more held j =
      held_then x y (Delivered d) j (grant_of j s.out) (grant_of j t.out) (get nat_cmp leases j) (get nat_cmp leases j) more code refl (ap (grant_of j) (delivered_out d s t enters)) refl (held j)

  -- What steps enter

  -- no activity has this number
  pub beyond : (x : Core P) (s : RunShape) (k : ℕ) → IsRun x s → (k < activities_of x → ⊥) → is_ready s k ≡ false
  beyond x s k is out = by (is_ready s k) refl
    where
      by : (b : Bool) → is_ready s k ≡ b → b ≡ false
      by true ready = absurd (out (ready_seat (history_of x) (code_of x) s x.state x.edges.holders is.stand k ready))
      by false ready = refl

  pub lend_entered : (x y : Core P) (s : RunShape) (k : ℕ) → IsRun x s → is_ready s k ≡ true → HasEntered x (Lent k) y → (ran : ℕ → Bool) → IsStepped (Lends k) ran (history_of x) (history_of y)
  lend_entered x y s k is ready more ran = record { run = s; lawful = is.stand.core.run; enters = more ∙ sym (ap (λ b. entered_if b (Lent k) (history_of x)) ready) }

  pub lend_left : (x : Core P) (s : RunShape) (k : ℕ) → IsRun x s → is_ready s k ≡ false → (ran : ℕ → Bool) → IsStepped (Lends k) ran (history_of x) (history_of x)
  lend_left x s k is ready ran = record { run = s; lawful = is.stand.core.run; enters = sym (ap (λ b. entered_if b (Lent k) (history_of x)) ready) }

  pub delivery_entered : (x y : Core P) (s : RunShape) (d : DeliveryShape) → IsRun x s → is_some (delivered d s) ≡ true → HasEntered x (Delivered d) y → (ran : ℕ → Bool) → IsStepped (Delivers d) ran (history_of x) (history_of y)
  delivery_entered x y s d is may more ran = record { run = s; lawful = is.stand.core.run; enters = more ∙ sym (ap (λ b. entered_if b (Delivered d) (history_of x)) may) }

  pub delivery_left : (x : Core P) (s : RunShape) (d : DeliveryShape) → IsRun x s → is_some (delivered d s) ≡ false → (ran : ℕ → Bool) → IsStepped (Delivers d) ran (history_of x) (history_of x)
  delivery_left x s d is may ran = record { run = s; lawful = is.stand.core.run; enters = sym (ap (λ b. entered_if b (Delivered d) (history_of x)) may) }

  pub commit_entered : (x y : Core P) (s : RunShape) (k : ℕ) (l : Lease) (n : Name) → IsRun x s → l.number ≡ k → (ran : ℕ → Bool) → (ran k ≡ true → HasStopped (history_of x) (code_of x) l)
      → IsCommittedBy x s l n y → IsStepped (Commits k) ran (history_of x) (history_of y)
  commit_entered x y s k l n is number ran has by = record {
    run = s;
    lawful = is.stand.core.run;
    enters =
        subst (λ q. ComesIn s q (ran k) (grant_of q s.out) (history_of x) (history_of y)) number
        (subst (λ g. ComesIn s l.number (ran k) g (history_of x) (history_of y)) (sym by.has_run.out)
        (n, l.taken, by.end, by.has_run, λ so. stops_there (history_of x) (code_of x) s l n by.end is.stand.core.first is.stand.core.run (has so) by.has_run, by.on.entered));
  }

  pub commit_left : (x : Core P) (s : RunShape) (k : ℕ) → IsRun x s → grant_of k s.out ≡ None → (ran : ℕ → Bool) → IsStepped (Commits k) ran (history_of x) (history_of x)
  commit_left x s k is free ran = record { run = s; lawful = is.stand.core.run; enters = subst (λ g. ComesIn s k (ran k) g (history_of x) (history_of x)) (sym free) refl }

-- Leases by their numbers

pub nobody_out : (h : HistoryShape) (code : List Node) (k : ℕ) (g : Option ℕ) (o : Option Lease) → o ≡ None → IsHeldAt h code k g o → g ≡ None
nobody_out h code k g o none is = by g (subst (λ q. IsHeldAt h code k g q) none is)
  where
    by : (g : Option ℕ) → IsHeldAt h code k g None → g ≡ None
    by None is = refl
    by (Some n) is = absurd is

pub its_lease : (h : HistoryShape) (code : List Node) (k : ℕ) (g : Option ℕ) (o : Option Lease) (l : Lease) → o ≡ Some l → IsHeldAt h code k g o → (l.number ≡ k) × IsLease h code l
its_lease h code k g o l some is = by g (subst (λ q. IsHeldAt h code k g q) some is)
  where
    by : (g : Option ℕ) → IsHeldAt h code k g (Some l) → (l.number ≡ k) × IsLease h code l
    by None is = absurd is
    by (Some n) is = is

held_again : (h : HistoryShape) (code : List Node) (k : ℕ) (g : Option ℕ) (o : Option Lease) (l m : Lease) → o ≡ Some l → IsHeldAt h code k g o → (m.number ≡ k) × IsLease h code m → IsHeldAt h code k g (Some m)
held_again h code k g o l m some is now = by g (subst (λ q. IsHeldAt h code k g q) some is)
  where
    by : (g : Option ℕ) → IsHeldAt h code k g (Some l) → IsHeldAt h code k g (Some m)
    by None is = absurd is
    by (Some n) is = now

-- a lease was taken out, ran, and stands there again
pub run_held : (h : HistoryShape) (code : List Node) (out : List (ℕ × ℕ)) (old mid new : BTreeMap ℕ Lease) (k : ℕ) (l m : Lease) → get nat_cmp old k ≡ Some l → (m.number ≡ k) × IsLease h code m
    → ((j : ℕ) → get nat_cmp mid j ≡ cond (is_at (nat_cmp k) j) None (get nat_cmp old j)) → ((j : ℕ) → get nat_cmp new j ≡ cond (is_at (nat_cmp k) j) (Some m) (get nat_cmp mid j))
    → ((j : ℕ) → IsHeldAt h code j (grant_of j out) (get nat_cmp old j)) → (j : ℕ) → IsHeldAt h code j (grant_of j out) (get nat_cmp new j)
run_held h code out old mid new k l m some now first then held j = by (number_case k j)
  where
    here : IsHeldAt h code k (grant_of k out) (get nat_cmp new k)
    here =
        subst (λ o. IsHeldAt h code k (grant_of k out) o) (sym (then k ∙ ap (λ b. cond b (Some m) (get nat_cmp mid k)) (number_itself k)))
        (held_again h code k (grant_of k out) (get nat_cmp old k) l m some (held k) now)

    by : (j ≡ k) ⊎ (is_at (nat_cmp k) j ≡ false) → IsHeldAt h code j (grant_of j out) (get nat_cmp new j)
    by (inl same) = subst (λ q. IsHeldAt h code q (grant_of q out) (get nat_cmp new q)) (sym same) here
    by (inr other) =
        subst (λ o. IsHeldAt h code j (grant_of j out) o)
        (sym (then j ∙ ap (λ b. cond b (Some m) (get nat_cmp mid j)) other ∙ first j ∙ ap (λ b. cond b None (get nat_cmp old j)) other)) (held j)

-- Cores with their leases

module _ {P : Type 0} (x : Driver P) (d : IsDriving x) where
  -- no lease was there
  pub driving_same : (leases : BTreeMap ℕ Lease) → leases.entries ≡ x.leases.entries → IsDriving (record x { leases = leases })
  driving_same leases same = record {
    run = d.run;
    is = d.is;
    held = λ j. subst (λ es. IsHeldAt (history_of x.core) (code_of x.core) j (grant_of j d.run.out) (lookup (is_at (nat_cmp j)) es)) (sym same) (d.held j);
  }

  pub driving_back : (y : Core P) (leases : BTreeMap ℕ Lease) (l : Lease) (k : ℕ) → code_of y ≡ code_of x.core → l.number ≡ k → (n : Name) → ((j : ℕ) → get nat_cmp leases j ≡ cond (is_at (nat_cmp k) j) None (get nat_cmp x.leases j))
      → IsCommittedBy x.core d.run l n y → IsDriving (record x { core = y; leases = leases })
  driving_back y leases l k code number n updates by =
      let r = counted l.taken (act_at d.run n l.grant l.taken by.end) in
      let enters = entry_run x.core y (Committed l.number r) d.run by.on.after d.is by.on.run by.on.entered in
      record {
        run = by.on.after;
        is = by.on.run;
        held = back_held x.core y d.run d.is code x.leases leases d.held l.number r by.on.after enters by.on.entered
            (λ j. subst (λ q. get nat_cmp leases j ≡ cond (is_at (nat_cmp q) j) None (get nat_cmp x.leases j)) (sym number) (updates j));
      }

  pub driving_on : (y : Core P) (e : DeliveryShape) → code_of y ≡ code_of x.core → HasGoneOn x.core (Delivered e) y → IsDriving (record x { core = y })
  driving_on y e code on = record {
    run = on.after;
    is = on.run;
    held = delivered_held x.core y d.run on.after code x.leases e (entry_run x.core y (Delivered e) d.run on.after d.is on.run on.entered) on.entered d.held;
  }
