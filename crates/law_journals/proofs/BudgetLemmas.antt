-- The counts, what is left, and what is granted sum to the budget.
use Rattle.std.specs.Prelude.{◌≡◌, ℕ, zero, suc, ◌+◌, ◌≤◌, ◌==◌, Bool, true, false, T, List, [], ◌∷◌, Option, Some, None, cond, map, is_some}
use Rattle.std.proofs.Common.{refl, sym, ap, subst, ◌∙◌, arith, inl, inr}
use Rattle.std.proofs.Math.Nat.{min-le_right}
use Rattle.std.specs.declared.cmp.Ordering.{Ordering}
use Rattle.std.specs.declared.cmp.Ordering.TheVariants.{Less, Equal, Greater}
use Rattle.std.specs.Ordering.{is_eq, is_lt, ordering_reverse}
use Rattle.std.specs.FinMap.{find, put, is_sorted}
use Rattle.std.specs.FinMap.Entries.{by_order, below_all, is_sorted-put}
use Rattle.asp_model.specs.Names.{Name, name_cmp}
use Rattle.asp_model.specs.Store.{Store}
use Rattle.asp_model.specs.Configuration.{Activity, Configuration}
use Rattle.asp_model.specs.Intent.{Effect}
use Rattle.asp_model.specs.Step.{step, put_some}
use Rattle.asp_model.specs.Replay.{total}
use Rattle.asp_model.specs.History.{Edge, Need, EntryShape, Lent, Committed, Delivered}
use Rattle.asp_model.specs.declared.limits.TheConstants.{MOST_GRANTED}
use Rattle.def_journals.specs.Deliveries.{with_store}
use Rattle.def_journals.specs.Journals.{RunShape, first_run, grant_of, out_but, granted, reduced, all_entered}
use Rattle.law_steps.specs.Sound.{IsSound}
use Rattle.law_steps.specs.Reached.{Steps, Edges, Needs}
use Rattle.law_steps.proofs.NameLemmas.{name_total, name_same, not_some, is_there}
use Rattle.law_chases.proofs.FutureLemmas.{no_some, some_is, true_false}
use Rattle.law_chases.proofs.MapLemmas as Maps
use Rattle.law_steps.proofs.StepLemmas.{step_taken}
use Rattle.law_steps.proofs.CommuteLemmas.{took}
use Rattle.law_steps.proofs.FactLemmas.{face, face_of, IsMade}
use Rattle.law_steps.proofs.EntryLemmas.{In, found_entry, first_of_both, second_of_both}
use Rattle.law_steps.proofs.OrderLemmas.{IsNew}
use Rattle.law_steps.proofs.SoundLemmas.{Took, at_name, made_new}
use Rattle.law_steps.proofs.DeliveryLemmas.{edge_done, need_done}
use Rattle.law_steps.proofs.WholeLemmas.{right_of, moves_keep_sound}
use Rattle.law_journals.specs.Budgets.{granted_in, most_in, BudgetsAreKept}
use Rattle.law_journals.proofs.JournalLemmas.{first_reduced, Done, entry_done, first_entered, reduced_keeps}

-- Sums over activities

abbrev sum : List (Name × Activity) → ℕ
sum xs = total (map (λ x. (x.0, x.1.reductions)) xs)

abbrev count_of : Option Activity → ℕ
count_of o = (face o).reductions

not_less : (r : Ordering) → r ≡ Greater → T (is_lt r) → ⊥
not_less r e h = subst (λ o. T (is_lt o)) e h

lower_in : (k : Name) (es : List (Name × Activity)) (x : Name × Activity) → T (below_all name_cmp k es) → In x es → T (is_lt (name_cmp k x.0))
lower_in k [] x h i = absurd i
lower_in k (e ∷ es) x h (inl p) = subst (λ z. T (is_lt (name_cmp k z.0))) (sym p) (first_of_both _ _ h)
lower_in k (e ∷ es) x h (inr i) = lower_in k es x (second_of_both _ _ h) i

-- nobody has a name that stands before all
none_before : (n : Name) (e : Name × Activity) (es : List (Name × Activity)) → name_cmp n e.0 ≡ Less → T (below_all name_cmp e.0 es) → find name_cmp n es ≡ None
none_before n e es less h = not_some (find name_cmp n es) (λ there.
    let a = is_there (find name_cmp n es) there in
    let x = found_entry es n a.0 a.1 in
    let lower : T (is_lt (name_cmp e.0 n)) = subst (λ m. T (is_lt (name_cmp e.0 m))) x.2 (lower_in e.0 es x.0 h x.1) in
    not_less (name_cmp e.0 n) (name_total.antisymm e.0 n ∙ ap ordering_reverse less) lower)

-- an activity in the place of another, or of none
sum_put : (n : Name) (b : Activity) (es : List (Name × Activity)) → T (is_sorted name_cmp es) → sum (put name_cmp n b es) + count_of (find name_cmp n es) ≡ sum es + b.reductions
sum_put n b [] h = omega arith
sum_put n b (e ∷ es) h = by (name_cmp n e.0) refl (sum_put n b es (second_of_both _ _ h))
  where
    by : (r : Ordering) → name_cmp n e.0 ≡ r → sum (put name_cmp n b es) + count_of (find name_cmp n es) ≡ sum es + b.reductions
        → sum (by_order r ((n, b) ∷ e ∷ es) ((e.0, b) ∷ es) (e ∷ put name_cmp n b es)) + count_of (cond (is_eq r) (Some e.1) (find name_cmp n es)) ≡ sum (e ∷ es) + b.reductions
    by Less is rest = let none = ap count_of (none_before n e es is (first_of_both _ _ h)) in omega (arith, none)
    by Equal is rest = omega arith
    by Greater is rest = omega (arith, rest)

module _ (c : Configuration) (n : Name) (e : Effect) (t : Took c n e) where
  own_sum : sum (put name_cmp n e.own c.activities) ≡ suc (sum c.activities)
  own_sum = omega (arith, sum_put n e.own c.activities t.sound.ordered.activities, t.facts.counted)

  made_sum : (o : Option (Name × Activity)) → IsNew name_cmp o c.activities → IsMade n (at_name c n) (face_of e.own) o → sum (put_some name_cmp o (put name_cmp n e.own c.activities)) ≡ suc (sum c.activities)
  made_sum None new made = own_sum
  made_sum (Some z) new made =
      let xs = put name_cmp n e.own c.activities in
      let apart : find name_cmp z.0 xs ≡ None = Maps.find_other name_cmp name_total name_same z.0 n e.own c.activities (λ p. true_false (is_some (find name_cmp n c.activities)) t.there (ap (λ k. is_some (find name_cmp k c.activities)) (sym p) ∙ ap is_some new)) ∙ new in
      let none = ap count_of apart in
      let fresh : z.1.reductions ≡ 0 = ap (λ x. x.reductions) made.2 in
      omega (arith, sum_put z.0 z.1 xs (is_sorted-put name_cmp name_total n e.own c.activities t.sound.ordered.activities), none, fresh, own_sum)

step_sum : (c d : Configuration) (n : Name) → IsSound c → step None c n ≡ Some d → sum d.activities ≡ suc (sum c.activities)
step_sum c d n s h =
    let x = step_taken None c n d h in
    let t = took None c n x.0 (right_of c s).sound x.1 in
    subst (λ z. sum z.activities ≡ suc (sum c.activities)) x.2 (made_sum c n x.0 t x.0.made (made_new c n x.0 t) t.facts.made)

store_sum : (c : Configuration) (n : Name) (a : Activity) (u : Store) (d : Configuration) → IsSound c → find name_cmp n c.activities ≡ Some a → d ≡ with_store c n a u → sum d.activities ≡ sum c.activities
store_sum c n a u d s at is =
    let put_is = sum_put n (record a { store = u }) c.activities s.ordered.activities in
    let was = ap count_of at in
    ap (λ z. sum z.activities) is ∙ omega (arith, put_is, was)

reduced_sum : (r : ℕ) (n : Name) (c d : Configuration) → IsSound c → reduced r n c ≡ Some d → sum d.activities ≡ sum c.activities + r
reduced_sum zero n c d s h = ap (λ z. sum z.activities) (sym (some_is h)) ∙ omega arith
reduced_sum (suc r) n c d s h =
    let x = first_reduced r n c d h in
    omega (arith, step_sum c x.0 n s x.1, reduced_sum r n x.0 d (moves_keep_sound (Steps None n) c x.0 s x.1) x.2)

-- Grants

-- no number is out twice
abbrev Once : List (ℕ × ℕ) → Type 0
Once [] = Unit {0}
Once (x ∷ xs) = (grant_of x.0 xs ≡ None) × Once xs

same_number : (i j : ℕ) → (i == j) ≡ true → i ≡ j
same_number i j h = grind (arith, h)

no_grant : (k : ℕ) (xs : List (ℕ × ℕ)) → grant_of k xs ≡ None → out_but k xs ≡ xs
no_grant k [] h = refl
no_grant k (x ∷ xs) h = by (k == x.0) h (no_grant k xs)
  where
    by : (b : Bool) → ◌≡◌ {A = Option ℕ} (elim b [ true ↦ Some x.1 | false ↦ grant_of k xs ]) None → (grant_of k xs ≡ None → out_but k xs ≡ xs) → elim b [ true ↦ out_but k xs | false ↦ x ∷ out_but k xs ] ≡ x ∷ xs
    by true h rest = no_some (sym h)
    by false h rest = ap (λ l. x ∷ l) (rest h)

grant_sum : (k g : ℕ) (xs : List (ℕ × ℕ)) → Once xs → grant_of k xs ≡ Some g → granted_in (out_but k xs) + g ≡ granted_in xs
grant_sum k g [] once h = no_some h
grant_sum k g (x ∷ xs) once h = by (k == x.0) refl h (grant_sum k g xs once.1)
  where
    by : (b : Bool) → (k == x.0) ≡ b → ◌≡◌ {A = Option ℕ} (elim b [ true ↦ Some x.1 | false ↦ grant_of k xs ]) (Some g) → (grant_of k xs ≡ Some g → granted_in (out_but k xs) + g ≡ granted_in xs) → granted_in (elim b [ true ↦ out_but k xs | false ↦ x ∷ out_but k xs ]) + g ≡ x.1 + granted_in xs
    by true is h rest =
        let others = ap granted_in (no_grant k xs (subst (λ j. grant_of j xs ≡ None) (sym (same_number k x.0 is)) once.0)) in
        let own : x.1 ≡ g = some_is h in
        omega (arith, others, own)
    by false is h rest = omega (arith, rest h)

none_but : (j k : ℕ) (xs : List (ℕ × ℕ)) → grant_of j xs ≡ None → grant_of j (out_but k xs) ≡ None
none_but j k [] h = refl
none_but j k (x ∷ xs) h = by (j == x.0) (k == x.0) refl h (none_but j k xs)
  where
    by : (b e : Bool) → (j == x.0) ≡ b → ◌≡◌ {A = Option ℕ} (elim b [ true ↦ Some x.1 | false ↦ grant_of j xs ]) None → (grant_of j xs ≡ None → grant_of j (out_but k xs) ≡ None) → grant_of j (elim e [ true ↦ out_but k xs | false ↦ x ∷ out_but k xs ]) ≡ None
    by true e is h rest = no_some (sym h)
    by false true is h rest = rest h
    by false false is h rest = ap (λ b. elim b [ true ↦ Some x.1 | false ↦ grant_of j (out_but k xs) ]) is ∙ rest h

once_but : (k : ℕ) (xs : List (ℕ × ℕ)) → Once xs → Once (out_but k xs)
once_but k [] h = tt
once_but k (x ∷ xs) h = by (k == x.0) (once_but k xs h.1)
  where
    by : (b : Bool) → Once (out_but k xs) → Once (elim b [ true ↦ out_but k xs | false ↦ x ∷ out_but k xs ])
    by true rest = rest
    by false rest = (none_but x.0 k xs h.0, rest)

-- Journals

record Balances (budget : ℕ) (s : RunShape) : Type 0 where
  sound : IsSound s.configuration
  once : Once s.out
  sums : sum s.configuration.activities + (s.left + granted_in s.out) ≡ budget

granted_less : (s : RunShape) → granted s ≤ s.left
granted_less s = min-le_right MOST_GRANTED s.left

entry_balances : (budget : ℕ) (x : EntryShape) (s t : RunShape) → Done x s t → Balances budget s → Balances budget t
entry_balances budget (Lent k) s t x b = subst (Balances budget) (sym x.result) (record {
  sound = b.sound;
  once = (x.free, b.once);
  sums = omega (arith, b.sums, granted_less s);
})
entry_balances budget (Committed k r) s t x b =
    let grant = grant_sum k x.grant s.out b.once x.out in
    let counts = reduced_sum r x.name s.configuration x.end b.sound x.reduces in
    let le : r ≤ x.grant = grind (arith, x.within) in
    subst (Balances budget) (some_is x.result) (record {
      sound = reduced_keeps IsSound moves_keep_sound r x.name s.configuration x.end x.reduces b.sound;
      once = once_but k s.out b.once;
      sums = omega (arith, b.sums, grant, counts, le);
    })
entry_balances budget (Delivered (Edge f from to)) s t x b =
    let y = edge_done s.configuration f to x.end x.delivers in
    subst (Balances budget) (sym x.result) (record {
      sound = moves_keep_sound (Edges f to) s.configuration x.end b.sound x.delivers;
      once = b.once;
      sums = omega (arith, b.sums, store_sum s.configuration to y.receiver _ x.end b.sound y.at y.result);
    })
entry_balances budget (Delivered (Need f to place)) s t x b =
    let y = need_done s.configuration f to place x.end x.delivers in
    subst (Balances budget) (sym x.result) (record {
      sound = moves_keep_sound (Needs f to place) s.configuration x.end b.sound x.delivers;
      once = b.once;
      sums = omega (arith, b.sums, store_sum s.configuration to y.receiver _ x.end b.sound y.at y.result);
    })

entries_balance : (budget : ℕ) (entries : List EntryShape) (s t : RunShape) → all_entered entries s ≡ Some t → Balances budget s → Balances budget t
entries_balance budget [] s t e b = subst (Balances budget) (some_is e) b
entries_balance budget (x ∷ entries) s t e b = let u = first_entered x entries s t e in entries_balance budget entries u.0 t u.2 (entry_balances budget x s u.0 (entry_done x s u.0 u.1) b)

pub budgets_are_kept : BudgetsAreKept
budgets_are_kept h s sound e = (entries_balance (most_in h) h.entries (first_run h) s e (record { sound = sound; once = tt; sums = omega arith })).sums
