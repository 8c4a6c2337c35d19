-- Which leases ran, and so have stopped.
use Rattle.std.proofs.Common.{◌≡◌, ◌==◌, ◌&&◌, ◌||◌, ◌∙◌, ◌∷◌, [], ℕ, Bool, true, false, not, List, Some, None, cond, inl, inr, ◌⊎◌, refl, sym, ap, subst}
use Rattle.std.specs.BTreeMap.{BTreeMap, get, is_at}
use Rattle.std.specs.Map.{lookup}
use Rattle.std.specs.Ordering.{nat_cmp}
use Rattle.asp_model.specs.History.{Committed, Delivered, DeliveryShape, EntryShape, HistoryShape, Lent, with_entry}
use Rattle.def_journals.specs.Journals.{grant_of}
use Rattle.law_chases.proofs.FutureLemmas.{no_some, none_true, some_is}
use Rattle.law_journals.specs.Leases.{stays_out}
use Rattle.code_table.specs.declared.code.Node.{Node}
use Rattle.core_ranks.proofs.NumberLemmas.{number_case, number_itself}
use Rattle.core_state.specs.declared.lease.Lease.{Lease}
use Rattle.core_state.specs.Leases.{HasStopped}
use Rattle.asp_core.specs.declared.cores.Core.{Core}
use Rattle.asp_core.specs.Cores.{code_of, history_of}
use Rattle.asp_core.specs.Calls.{HasEntered}
use Rattle.core_drives.specs.declared.drivers.Driver.{Driver}
use Rattle.core_drives.specs.Driving.{HaveRun, IsDriving}
use Rattle.core_drives.specs.Steps.{Commits, Delivers, Lends, Runs, ran_after}
use Rattle.core_drives.proofs.DriveLemmas.{apart_of, differ, its_lease, lease_on, same_number, stays_by}

second : (a b : Bool) → (a && b) ≡ true → b ≡ true
second true b h = h
second false b h = none_true h

other_one : (a b : Bool) → a ≡ false → (a || b) ≡ true → b ≡ true
other_one true b is h = none_true (sym is)
other_one false b is h = h

-- a lease that has stopped has, by an entry that does not concern its number
stopped_on : (h : HistoryShape) (code : List Node) (e : EntryShape) (l : Lease) → stays_out l.number (e ∷ []) ≡ true → HasStopped h code l → HasStopped (with_entry h e) code l
stopped_on h code e l stays has = record {
  lease = lease_on h code e l stays has.lease;
  fresh = has.fresh;
  advance = has.advance;
  stop = has.stop;
  used = has.used;
}

module _ {P : Type 0} (x : Driver P) (d : IsDriving x) (ran : ℕ → Bool) (have : HaveRun ran x) where
  stopped_then : (y : Core P) (e : EntryShape) → HasEntered x.core e y → code_of y ≡ code_of x.core → (j : ℕ) (l : Lease) → ran j ≡ true → get nat_cmp x.leases j ≡ Some l → stays_out j (e ∷ []) ≡ true
      → HasStopped (history_of y) (code_of y) l
  stopped_then y e entered code j l so got stays =
      let h = history_of x.core in
      let k = code_of x.core in
      let number = (its_lease h k j (grant_of j d.run.out) (get nat_cmp x.leases j) l got (d.held j)).0 in
      subst (λ c. HasStopped (history_of y) c l) (sym code)
      (subst (λ q. HasStopped q k l) (sym entered)
      (stopped_on h k e l (subst (λ n. stays_out n (e ∷ []) ≡ true) (sym number) stays) (have j l so got)))

  -- one is to be lent, and is not
  pub ran_left : (k : ℕ) → HaveRun (ran_after (Lends k) ran) x
  ran_left k j l so got = have j l (second (not (j == k)) (ran j) so) got

  -- one is lent
  pub ran_lent : (k : ℕ) (l : Lease) (y : Core P) (leases : BTreeMap ℕ Lease) → HasEntered x.core (Lent k) y → code_of y ≡ code_of x.core
      → ((j : ℕ) → get nat_cmp leases j ≡ cond (is_at (nat_cmp k) j) (Some l) (get nat_cmp x.leases j)) → HaveRun (ran_after (Lends k) ran) (record x { core = y; leases = leases })
  ran_lent k l y leases entered code updates j m so got = by (number_case k j)
    where
      by : (j ≡ k) ⊎ (is_at (nat_cmp k) j ≡ false) → HasStopped (history_of y) (code_of y) m
      by (inl same) = none_true (sym (ap (λ b. not b && ran j) (ap (λ q. j == q) (sym same) ∙ same_number j)) ∙ so)
      by (inr other) =
          stopped_then y (Lent k) entered code j m (second (not (j == k)) (ran j) so)
          (sym (ap (λ b. cond b (Some l) (get nat_cmp x.leases j)) other) ∙ sym (updates j) ∙ got) (stays_by j k (apart_of k j other))

  -- one has run
  pub ran_on : (k : ℕ) (l : Lease) (mid new : BTreeMap ℕ Lease) → HasStopped (history_of x.core) (code_of x.core) l
      → ((j : ℕ) → get nat_cmp mid j ≡ cond (is_at (nat_cmp k) j) None (get nat_cmp x.leases j)) → ((j : ℕ) → get nat_cmp new j ≡ cond (is_at (nat_cmp k) j) (Some l) (get nat_cmp mid j))
      → HaveRun (ran_after (Runs k) ran) (record x { leases = new })
  ran_on k l mid new has first then j m so got = by (number_case k j)
    where
      by : (j ≡ k) ⊎ (is_at (nat_cmp k) j ≡ false) → HasStopped (history_of x.core) (code_of x.core) m
      by (inl same) =
          let here : get nat_cmp new k ≡ Some l = then k ∙ ap (λ b. cond b (Some l) (get nat_cmp mid k)) (number_itself k) in
          subst (HasStopped (history_of x.core) (code_of x.core)) (some_is (sym here ∙ ap (get nat_cmp new) (sym same) ∙ got)) has
      by (inr other) =
          let apart = apart_of k j other in
          have j m (other_one (j == k) (ran j) (differ j k apart) so)
          (sym (then j ∙ ap (λ b. cond b (Some l) (get nat_cmp mid j)) other ∙ first j ∙ ap (λ b. cond b None (get nat_cmp x.leases j)) other) ∙ got)

  -- nobody has run who has no lease
  pub ran_nobody : (k : ℕ) (leases : BTreeMap ℕ Lease) → leases.entries ≡ x.leases.entries → get nat_cmp x.leases k ≡ None → HaveRun (ran_after (Runs k) ran) (record x { leases = leases })
  ran_nobody k leases same none j m so got = by (number_case k j)
    where
      was : get nat_cmp x.leases j ≡ Some m
      was = ap (lookup (is_at (nat_cmp j))) (sym same) ∙ got

      by : (j ≡ k) ⊎ (is_at (nat_cmp k) j ≡ false) → HasStopped (history_of x.core) (code_of x.core) m
      by (inl here) = no_some (sym none ∙ ap (get nat_cmp x.leases) (sym here) ∙ was)
      by (inr other) = have j m (other_one (j == k) (ran j) (differ j k (apart_of k j other)) so) was

  -- one comes in
  pub ran_back : (k r : ℕ) (y : Core P) (leases : BTreeMap ℕ Lease) → HasEntered x.core (Committed k r) y → code_of y ≡ code_of x.core
      → ((j : ℕ) → get nat_cmp leases j ≡ cond (is_at (nat_cmp k) j) None (get nat_cmp x.leases j)) → HaveRun (ran_after (Commits k) ran) (record x { core = y; leases = leases })
  ran_back k r y leases entered code updates j m so got = by (number_case k j)
    where
      by : (j ≡ k) ⊎ (is_at (nat_cmp k) j ≡ false) → HasStopped (history_of y) (code_of y) m
      by (inl same) =
          let none : get nat_cmp leases k ≡ None = updates k ∙ ap (λ b. cond b None (get nat_cmp x.leases k)) (number_itself k) in
          no_some (sym none ∙ ap (get nat_cmp leases) (sym same) ∙ got)
      by (inr other) =
          stopped_then y (Committed k r) entered code j m so (sym (ap (λ b. cond b None (get nat_cmp x.leases j)) other) ∙ sym (updates j) ∙ got) (stays_by j k (apart_of k j other))

  -- and nobody does who is not out
  pub ran_same : (k : ℕ) (leases : BTreeMap ℕ Lease) → leases.entries ≡ x.leases.entries → HaveRun (ran_after (Commits k) ran) (record x { leases = leases })
  ran_same k leases same j m so got = have j m so (ap (lookup (is_at (nat_cmp j))) (sym same) ∙ got)

  -- a value comes
  pub ran_received : (d : DeliveryShape) (y : Core P) → HasEntered x.core (Delivered d) y → code_of y ≡ code_of x.core → HaveRun (ran_after (Delivers d) ran) (record x { core = y })
  ran_received e y entered code j m so got = stopped_then y (Delivered e) entered code j m so got refl
