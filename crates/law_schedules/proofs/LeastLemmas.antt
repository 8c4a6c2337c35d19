-- The least of those that are ready steps next.
use Rattle.std.specs.Prelude.{◌≡◌, ◌⊎◌, ◌≤◌, ◌<◌, ℕ, nat_lt, Bool, true, false, cond, T, List, [], ◌∷◌, Option, Some, None, is_some}
use Rattle.std.proofs.Common.{refl, sym, ap, subst, ◌∙◌, arith, inl, inr, ⊎_elim}
use Rattle.std.proofs.lemmas.Bool.{ltb-true, ltb-false, false_from_ne_true}
use Rattle.std.specs.FinMap.{find, is_sorted}
use Rattle.std.specs.FinMap.Entries.{below_all}
use Rattle.std.specs.Ordering.{is_eq, is_lt}
use Rattle.std.specs.Cmp.{tied_itself}
use Rattle.asp_model.specs.Names.{Name, name_cmp, main_name}
use Rattle.asp_model.specs.Term.{Tree}
use Rattle.asp_model.specs.Store.{Object}
use Rattle.asp_model.specs.Configuration.{Activity, Configuration, begun, start}
use Rattle.asp_model.specs.Step.{ListsShape, step}
use Rattle.asp_model.specs.Replay.{least_step}
use Rattle.law_steps.specs.Reached.{IsReached, IsAt, IsThere}
use Rattle.law_schedules.specs.Schedules.{RestsIn, WaitsFor, RestersLeave, NotesLeave, LeastSteps, NoneIsReady, MainIsReady}
use Rattle.law_schedules.specs.Watches.{MainIsWatched}
use Rattle.law_steps.proofs.NameLemmas.{name_total, name_case, names_apart}
use Rattle.law_chases.proofs.FutureLemmas.{no_some, some_is, none_true, true_false}
use Rattle.law_steps.proofs.EntryLemmas.{In, first_of_both, second_of_both, entry_found, found_entry}
use Rattle.law_steps.proofs.NamesLaws.{entries_ascend}

pub true_of : (b : Bool) → T b → b ≡ true
true_of true h = refl
true_of false h = absurd h

not_below : (k l : ℕ) → l ≤ k → nat_lt k l ≡ false
not_below k l le = false_from_ne_true (nat_lt k l) (λ h. absurd (omega (arith, le, ltb-true k l h)))

is_below : (k l : ℕ) → k < l → nat_lt k l ≡ true
is_below k l lt = elim (nat_lt k l) as (λ b. nat_lt k l ≡ b → b ≡ true) [
  | true ↦ λ h. refl
  | false ↦ λ h. absurd (omega (arith, lt, ltb-false k l h))
] refl

abbrev tried : Option Configuration → Option Configuration → Option Configuration
tried o p = elim o [ None ↦ p | Some d ↦ Some d ]

abbrev if_below : Bool → Option Configuration → Option Configuration → Option Configuration
if_below b o p = elim b [ false ↦ p | true ↦ tried o p ]

-- those behind one in order are above it
all_above : {X : Type 0} (k : Name) (es : List (Name × X)) (x : Name × X) → T (below_all name_cmp k es) → In x es → is_lt (name_cmp k x.0) ≡ true
all_above k [] x h i = absurd i
all_above k (e ∷ es) x h (inl p) = ap (λ z. is_lt (name_cmp k z.0)) p ∙ true_of (is_lt (name_cmp k e.0)) (first_of_both _ _ h)
all_above k (e ∷ es) x h (inr i) = all_above k es x (second_of_both _ _ h) i

-- an entry that rests
abbrev Rester : Option ListsShape → (Name → ℕ) → Configuration → Name × Activity → Type 0
Rester lists count c x = (count x.0 ≤ x.1.reductions) ⊎ (step lists c x.0 ≡ None)

module _ (lists : Option ListsShape) (count : Name → ℕ) (c : Configuration) where
  passed : (x : Name × Activity) (xs : List (Name × Activity)) → Rester lists count c x → least_step lists count c (x ∷ xs) ≡ least_step lists count c xs
  passed x xs (inl at) = ap (λ b. if_below b (step lists c x.0) (least_step lists count c xs)) (not_below x.1.reductions (count x.0) at)
  passed x xs (inr none) = elim (nat_lt x.1.reductions (count x.0)) as (λ b. if_below b (step lists c x.0) (least_step lists count c xs) ≡ least_step lists count c xs) [
    | true ↦ ap (λ o. tried o (least_step lists count c xs)) none
    | false ↦ refl
  ]

  taken : (x : Name × Activity) (xs : List (Name × Activity)) (d : Configuration) → x.1.reductions < count x.0 → step lists c x.0 ≡ Some d → least_step lists count c (x ∷ xs) ≡ Some d
  taken x xs d below steps =
      ap (λ b. if_below b (step lists c x.0) (least_step lists count c xs)) (is_below x.1.reductions (count x.0) below)
      ∙ ap (λ o. tried o (least_step lists count c xs)) steps

  all_rest : (xs : List (Name × Activity)) → ((x : Name × Activity) → In x xs → Rester lists count c x) → least_step lists count c xs ≡ None
  all_rest [] rest = refl
  all_rest (x ∷ xs) rest = passed x xs (rest x (inl refl)) ∙ all_rest xs (λ y i. rest y (inr i))

  module _ (d : Configuration) (n : Name) (a : Activity) (below : a.reductions < count n) (steps : step lists c n ≡ Some d) where
    least_is : (xs : List (Name × Activity)) → T (is_sorted name_cmp xs) → find name_cmp n xs ≡ Some a
        → ((x : Name × Activity) → In x xs → is_lt (name_cmp x.0 n) ≡ true → Rester lists count c x) → least_step lists count c xs ≡ Some d
    least_is [] sorted is rest = no_some is
    least_is (x ∷ xs) sorted is rest = ⊎_elim
        (λ p.
        let found : Some x.1 ≡ Some a = sym (ap (λ r. cond (is_eq r) (Some x.1) (find name_cmp n xs)) (ap (name_cmp n) p ∙ tied_itself name_total n)) ∙ is in
        let same : x.1 ≡ a = some_is found in
        taken x xs d (subst (λ k. x.1.reductions < count k) (sym p) (subst (λ b. b.reductions < count n) (sym same) below)) (ap (step lists c) p ∙ steps))
        (λ q.
        let later : find name_cmp n xs ≡ Some a = sym (ap (λ b. cond b (Some x.1) (find name_cmp n xs)) (names_apart n x.0 (λ p. q (sym p)))) ∙ is in
        let y = found_entry xs n a later in
        let less : is_lt (name_cmp x.0 n) ≡ true = subst (λ k. is_lt (name_cmp x.0 k) ≡ true) y.2 (all_above x.0 xs y.0 (first_of_both _ _ sorted) y.1) in
        passed x xs (rest x (inl refl) less) ∙ least_is xs (second_of_both _ _ sorted) later (λ z i. rest z (inr i)))
        (name_case x.0 n)

-- an entry of a reached configuration rests where its name does
entry_rests : (program : Tree) (lists : Option ListsShape) (count : Name → ℕ) (c : Configuration) → IsReached program c → (x : Name × Activity) → In x c.activities → (IsThere c x.0 → RestsIn lists count c x.0) → Rester lists count c x
entry_rests program lists count c reached x i rest =
    let is = entry_found c.activities x (entries_ascend program c reached).activities i in
    ⊎_elim (λ at. inl (at x.1 is)) (λ none. inr none) (rest (ap is_some is))

pub none_is_ready : NoneIsReady
none_is_ready program lists count c ready noted reached scheduled none =
    all_rest lists count c c.activities (λ x i. entry_rests program lists count c reached x i (λ there. scheduled.rest x.0 there (none x.0 there)))

pub least_steps : LeastSteps
least_steps program lists count c d n a ready noted reached scheduled least is below steps =
    least_is lists count c d n a below steps c.activities (entries_ascend program c reached).activities is
    (λ x i less. entry_rests program lists count c reached x i (λ there. scheduled.rest x.0 there (false_from_ne_true (ready x.0) (λ h. true_false (is_lt (name_cmp x.0 n)) less (least x.0 h)))))

pub resters_leave : RestersLeave
resters_leave lists count c n noted noting before after scheduled rests others kept note = record {
  rest = λ m there not. ⊎_elim
      (λ p. subst (RestsIn lists count c) (sym p) rests)
      (λ apart. scheduled.rest m there (sym (others m apart) ∙ not))
      (name_case m n);
  waiting = λ m f a is below not w. ⊎_elim
      (λ p.
      let at : IsAt c n a = ap (λ k. find name_cmp k c.activities) (sym p) ∙ is in
      let under : a.reductions < count n = subst (λ k. a.reductions < count k) p below in
      ap (noting f) p ∙ note f a at under (subst (λ k. WaitsFor c k f) p w))
      (λ apart. kept f m (scheduled.waiting m f a is below (sym (others m apart) ∙ not) w))
      (name_case m n);
}

pub notes_leave : NotesLeave
notes_leave lists count c ready noted noting scheduled kept = record {
  rest = scheduled.rest;
  waiting = λ m f a is below not w. kept f m w.1 (scheduled.waiting m f a is below not w);
}

-- at the start main alone is there
only_main : (program : Tree) (n : Name) → IsThere (start program) n → n ≡ main_name
only_main program n there = ⊎_elim
    (λ p. p)
    (λ apart. none_true (sym (ap (λ b. is_some (cond b (Some (begun program (Object [] [] ∷ []))) None)) (names_apart n main_name apart)) ∙ there))
    (name_case n main_name)

pub main_is_ready : MainIsReady
main_is_ready program lists count ready noted main =
    let no : (n : Name) → IsThere (start program) n → ready n ≡ false → ⊥ = λ n there not. true_false (ready n) (ap ready (only_main program n there) ∙ main) not in
    record {
      rest = λ n there not. absurd (no n there not);
      waiting = λ n f a is below not w. absurd (no n (ap is_some is) not);
    }

ready_there : {A : Type 0} (program : Tree) (n : Name) (ready : Name → Bool) → ready main_name ≡ true → ready n ≡ false → IsThere (start program) n → A
ready_there program n ready main not there = absurd (true_false (ready n) (ap ready (only_main program n there) ∙ main) not)

pub main_is_watched : MainIsWatched
main_is_watched program count w ready main n not = record {
  serving = λ a l is below st h. ready_there program n ready main not (ap is_some is);
  sending = λ a e x is below intends sent. ready_there program n ready main not (ap is_some is);
}
