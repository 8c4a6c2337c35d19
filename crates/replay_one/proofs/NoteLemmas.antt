-- What the steps of a run note.
use Rattle.std.proofs.Common.{◌≡◌, ◌⊎◌, ◌≤◌, ◌<◌, ◌+◌, ◌++◌, ◌∷◌, [], ℕ, zero, suc, nat_lt, Bool, true, false, cond, T, List, Option, Some, None, is_some, map, drop, length, refl, sym, ap, subst, ◌∙◌, inl, inr, ⊎_elim, arith}
use Rattle.std.proofs.lemmas.Bool.{ltb-true, ltb-false, false_from_ne_true}
use Rattle.std.proofs.lemmas.List.{append_assoc, append-nil}
use Rattle.std.specs.FinMap.{find, is_sorted}
use Rattle.std.specs.FinMap.Entries.{below_all}
use Rattle.std.specs.Ordering.{is_eq, is_lt}
use Rattle.std.specs.Cmp.{tied_itself}
use Rattle.asp_model.specs.Names.{Name, FutureShape, name_cmp}
use Rattle.asp_model.specs.Term.{Head, Serve, Tree, Trees, more, none}
use Rattle.asp_model.specs.Store.{CellShape, Store, cell}
use Rattle.asp_model.specs.Contraction.{Becomes, LineShape, contract}
use Rattle.asp_model.specs.Configuration.{Activity, Configuration}
use Rattle.asp_model.specs.Intent.{Acts}
use Rattle.asp_model.specs.Step.{ListsShape, intent_in, step}
use Rattle.asp_model.specs.Replay.{least_step, steps_from}
use Rattle.law_chases.proofs.FutureLemmas.{no_some, some_is, true_false}
use Rattle.law_steps.specs.Reached.{IsAt, IsReached, IsThere}
use Rattle.law_steps.specs.Waking.{labels_at, labels_of_head, labels_wanted}
use Rattle.law_steps.proofs.EntryLemmas.{In, entry_found, first_of_both, found_entry, second_of_both}
use Rattle.law_steps.proofs.NameLemmas.{name_case, name_total, names_apart}
use Rattle.law_steps.proofs.NamesLaws.{entries_ascend}
use Rattle.law_schedules.specs.Schedules.{IsScheduled, RestsIn}
use Rattle.activity_step.specs.Local.{IsLocalStep}
use Rattle.replay_parts.specs.Notes.{NoteShape, least_notes, noted_as, notes_from, notes_of, printed_by, served_by}
use Rattle.replay_parts.proofs.NoteLemmas.{AreLines, lines_noted, told_same}

-- The least-named step

is_below : (k l : ℕ) → k < l → nat_lt k l ≡ true
is_below k l lt = elim (nat_lt k l) as (λ b. nat_lt k l ≡ b → b ≡ true) [
  | true ↦ λ h. refl
  | false ↦ λ h. absurd (omega (arith, lt, ltb-false k l h))
] refl

not_below : (k l : ℕ) → l ≤ k → nat_lt k l ≡ false
not_below k l le = false_from_ne_true (nat_lt k l) (λ h. absurd (omega (arith, le, ltb-true k l h)))

true_of : (b : Bool) → T b → b ≡ true
true_of true h = refl
true_of false h = absurd h

all_above : {X : Type 0} (k : Name) (es : List (Name × X)) (x : Name × X) → T (below_all name_cmp k es) → In x es → is_lt (name_cmp k x.0) ≡ true
all_above k [] x h i = absurd i
all_above k (e ∷ es) x h (inl p) = ap (λ z. is_lt (name_cmp k z.0)) p ∙ true_of (is_lt (name_cmp k e.0)) (first_of_both _ _ h)
all_above k (e ∷ es) x h (inr i) = all_above k es x (second_of_both _ _ h) i

abbrev noting : Option Configuration → List NoteShape → List NoteShape → List NoteShape
noting o here rest = elim o [ None ↦ rest | Some d ↦ here ]

abbrev noting_if : Bool → Option Configuration → List NoteShape → List NoteShape → List NoteShape
noting_if b o here rest = elim b [ false ↦ rest | true ↦ noting o here rest ]

-- an entry that rests
abbrev Rester : Option ListsShape → (Name → ℕ) → Configuration → Name × Activity → Type 0
Rester lists count c x = (count x.0 ≤ x.1.reductions) ⊎ (step lists c x.0 ≡ None)

module _ (lists : Option ListsShape) (count : Name → ℕ) (c : Configuration) where
  abbrev here_of : Name × Activity → List NoteShape
  here_of x = notes_of x.0 x.1 (intent_in c x.0)

  passed_by : (x : Name × Activity) (xs : List (Name × Activity)) → Rester lists count c x → least_notes lists count c (x ∷ xs) ≡ least_notes lists count c xs
  passed_by x xs (inl at) = ap (λ b. noting_if b (step lists c x.0) (here_of x) (least_notes lists count c xs)) (not_below x.1.reductions (count x.0) at)
  passed_by x xs (inr rests) = elim (nat_lt x.1.reductions (count x.0)) as (λ b. noting_if b (step lists c x.0) (here_of x) (least_notes lists count c xs) ≡ least_notes lists count c xs) [
    | true ↦ ap (λ o. noting o (here_of x) (least_notes lists count c xs)) rests
    | false ↦ refl
  ]

  taken_by : (x : Name × Activity) (xs : List (Name × Activity)) (d : Configuration) → x.1.reductions < count x.0 → step lists c x.0 ≡ Some d → least_notes lists count c (x ∷ xs) ≡ here_of x
  taken_by x xs d below steps =
      ap (λ b. noting_if b (step lists c x.0) (here_of x) (least_notes lists count c xs)) (is_below x.1.reductions (count x.0) below)
      ∙ ap (λ o. noting o (here_of x) (least_notes lists count c xs)) steps

  module _ (d : Configuration) (n : Name) (a : Activity) (below : a.reductions < count n) (steps : step lists c n ≡ Some d) where
    least_is : (xs : List (Name × Activity)) → T (is_sorted name_cmp xs) → find name_cmp n xs ≡ Some a
        → ((x : Name × Activity) → In x xs → is_lt (name_cmp x.0 n) ≡ true → Rester lists count c x) → least_notes lists count c xs ≡ here_of (n, a)
    least_is [] sorted is rest = no_some is
    least_is (x ∷ xs) sorted is rest = ⊎_elim
        (λ p.
        let found : Some x.1 ≡ Some a = sym (ap (λ r. cond (is_eq r) (Some x.1) (find name_cmp n xs)) (ap (name_cmp n) p ∙ tied_itself name_total n)) ∙ is in
        let same : x.1 ≡ a = some_is found in
        taken_by x xs d (subst (λ k. x.1.reductions < count k) (sym p) (subst (λ b. b.reductions < count n) (sym same) below)) (ap (step lists c) p ∙ steps)
        ∙ (λ i. here_of (p i, same i)))
        (λ q.
        let later : find name_cmp n xs ≡ Some a = sym (ap (λ b. cond b (Some x.1) (find name_cmp n xs)) (names_apart n x.0 (λ p. q (sym p)))) ∙ is in
        let y = found_entry xs n a later in
        let less : is_lt (name_cmp x.0 n) ≡ true = subst (λ k. is_lt (name_cmp x.0 k) ≡ true) y.2 (all_above x.0 xs y.0 (first_of_both _ _ sorted) y.1) in
        passed_by x xs (rest x (inl refl) less) ∙ least_is xs (second_of_both _ _ sorted) later (λ z i. rest z (inr i)))
        (name_case x.0 n)

  entry_rests : (program : Tree) → IsReached program c → (x : Name × Activity) → In x c.activities → (IsThere c x.0 → RestsIn lists count c x.0) → Rester lists count c x
  entry_rests program reached x i rest =
      let is = entry_found c.activities x (entries_ascend program c reached).activities i in
      ⊎_elim (λ at. inl (at x.1 is)) (λ rests. inr rests) (rest (ap is_some is))

-- the least of those ready notes what its own step does
pub least_noted : (program : Tree) (lists : Option ListsShape) (count : Name → ℕ) (c d : Configuration) (n : Name) (a : Activity) (ready : Name → Bool) (noted : FutureShape → Name → Bool)
    → IsReached program c → IsScheduled lists count c ready noted → ((m : Name) → ready m ≡ true → is_lt (name_cmp m n) ≡ false) → IsAt c n a → a.reductions < count n → step lists c n ≡ Some d
    → least_notes lists count c c.activities ≡ notes_of n a (intent_in c n)
least_noted program lists count c d n a ready noted reached scheduled least is below steps =
    least_is lists count c d n a below steps c.activities (entries_ascend program c reached).activities is
    (λ x i less. entry_rests lists count c program reached x i (λ there. scheduled.rest x.0 there (false_from_ne_true (ready x.0) (λ h. true_false (is_lt (name_cmp x.0 n)) less (least x.0 h)))))

-- So many steps

module _ (lists : Option ListsShape) (count : Name → ℕ) where
  pub first_noted : (k : ℕ) (c d : Configuration) → least_step lists count c c.activities ≡ Some d → notes_from (suc k) lists count c ≡ least_notes lists count c c.activities ++ notes_from k lists count d
  first_noted k c d is = ap (λ (o : Option Configuration). elim o [ None ↦ [] | Some d ↦ least_notes lists count c c.activities ++ notes_from k lists count d ]) is

  pub none_noted : (k : ℕ) (c : Configuration) → least_step lists count c c.activities ≡ None → notes_from k lists count c ≡ []
  none_noted zero c is = refl
  none_noted (suc k) c is = ap (λ (o : Option Configuration). elim o [ None ↦ [] | Some d ↦ least_notes lists count c c.activities ++ notes_from k lists count d ]) is

  stays : (k : ℕ) (c : Configuration) → least_step lists count c c.activities ≡ None → steps_from k lists count c ≡ c
  stays zero c is = refl
  stays (suc k) c is = ap (λ (o : Option Configuration). elim o [ None ↦ c | Some d ↦ steps_from k lists count d ]) is

  goes : (k : ℕ) (c d : Configuration) → least_step lists count c c.activities ≡ Some d → steps_from (suc k) lists count c ≡ steps_from k lists count d
  goes k c d is = ap (λ (o : Option Configuration). elim o [ None ↦ c | Some d ↦ steps_from k lists count d ]) is

  -- the notes of more steps are those of the first, and then those of the others
  pub notes_more : (j k : ℕ) (c : Configuration) → notes_from (j + k) lists count c ≡ notes_from j lists count c ++ notes_from k lists count (steps_from j lists count c)
  notes_more zero k c = let same : 0 + k ≡ k = omega arith in ap (λ i. notes_from i lists count c) same
  notes_more (suc j) k c = by (least_step lists count c c.activities) refl (λ d. notes_more j k d)
    where
      same : suc j + k ≡ suc (j + k)
      same = omega arith

      by : (o : Option Configuration) → least_step lists count c c.activities ≡ o → ((d : Configuration) → notes_from (j + k) lists count d ≡ notes_from j lists count d ++ notes_from k lists count (steps_from j lists count d))
          → notes_from (suc j + k) lists count c ≡ notes_from (suc j) lists count c ++ notes_from k lists count (steps_from (suc j) lists count c)
      by None is rest =
          none_noted (suc j + k) c is
          ∙ sym ((λ i. none_noted (suc j) c is i ++ notes_from k lists count (stays (suc j) c is i)) ∙ none_noted k c is)
      by (Some d) is rest =
          ap (λ i. notes_from i lists count c) same
          ∙ first_noted (j + k) c d is
          ∙ ap (λ ns. least_notes lists count c c.activities ++ ns) (rest d)
          ∙ sym (append_assoc (least_notes lists count c c.activities) (notes_from j lists count d) (notes_from k lists count (steps_from j lists count d)))
          ∙ sym (λ i. first_noted j c d is i ++ notes_from k lists count (goes j c d is i))

  pub one_noted : (c d : Configuration) → least_step lists count c c.activities ≡ Some d → notes_from 1 lists count c ≡ least_notes lists count c c.activities
  one_noted c d is = first_noted 0 c d is ∙ append-nil (least_notes lists count c c.activities)

-- Contractions

-- at a redex that is contracted no labels are asked for
unasked : (s : Store) (h : Head) (ns : List ℕ) (ts : Trees) (t : Tree) (u : Store) (added : List LineShape) (active : CellShape) → contract s (record { head = h; places = ns; behind = ts }) ≡ Becomes t u added → labels_of_head h active ≡ []
unasked s (Serve labels) [] none t u added active is = absurd cc
unasked s (Serve labels) [] (more x xs) t u added active is = absurd cc
unasked s (Serve labels) (n ∷ ns) ts t u added active is = absurd cc
unasked s h ns ts t u added active is = refl

local_asks : (a b : Activity) → IsLocalStep a b → labels_wanted a ≡ []
local_asks a b x = ap (λ q. labels_at q (cell a.store a.active)) x.splits ∙ unasked a.store x.redex.head x.redex.places x.redex.behind x.becomes x.store x.added (cell a.store a.active) x.is

-- Lines

pub lines_both : (xs ys : List NoteShape) → AreLines xs → AreLines ys → AreLines (xs ++ ys)
lines_both [] ys h k = k
lines_both (x ∷ xs) ys h k = (h.0, lines_both xs ys h.1 k)

-- a contraction notes its lines alone
pub local_noted : (n : Name) (a b : Activity) → IsLocalStep a b → AreLines (notes_of n a (Acts (record { own = b; sent = None; logged = None; made = None; filled = None })))
local_noted n a b x = subst AreLines (sym (ap (λ ls. map (noted_as n a.reductions) (served_by ls ++ ([] ++ printed_by a b))) (local_asks a b x))) (lines_noted n a.reductions (drop (length a.lines) b.lines))

-- What is told

-- all is told, where nothing is left
pub told_all : (tells : List NoteShape → Type 0) (xs zs rest all : List NoteShape) → rest ≡ [] → zs ++ rest ≡ all → tells (xs ++ zs) → tells (xs ++ all)
told_all tells xs zs rest all over same t = told_same tells xs zs all (sym (ap (λ ys. zs ++ ys) over ∙ append-nil zs) ∙ same) t

-- some more is told, and then less is left
pub told_more : (tells : List NoteShape → Type 0) (xs zs some rest all : List NoteShape) → zs ++ (some ++ rest) ≡ all → tells ((xs ++ zs) ++ some) → (ys : List NoteShape) × tells (xs ++ ys) × (ys ++ rest ≡ all)
told_more tells xs zs some rest all same t = (zs ++ some, subst tells (append_assoc xs zs some) t, append_assoc zs some rest ∙ same)
