-- Values that are shown, as cells of a store, and which cells may be shown.
use Rattle.std.proofs.Common.{◌≡◌, ◌&&◌, ℕ, zero, suc, ◌+◌, ◌-◌, ◌^◌, ◌<◌, ◌≤◌, min, Bool, true, false, List, [], ◌∷◌, Option, Some, None, length, take, drop, map, get_or, refl, sym, ap, subst, ◌∙◌, T, arith, nat_eq, nat_lt}
use Rattle.std.specs.Prelude.{◌++◌, bytes_eq}
use Rattle.std.specs.Cmp.{IsEquivalence, IsTotalOrder, eq_by_cmp_equiv, nat_cmp_total, on_total, then_total}
use Rattle.std.specs.Cmp.Lexicographic.{nat_list_cmp_total}
use Rattle.std.proofs.lemmas.Bool.Decides.{Decides-eqb, Decides-int_eq, nat_tests}
use Rattle.std.proofs.lemmas.List.{length-map}
use Rattle.std.proofs.lemmas.Slice.Eq.{bytes_eq-Decides}
use Rattle.std.specs.List.{list_all}
use Rattle.asp_model.specs.Names.{Name, FutureShape, future_cmp, same_future, same_name}
use Rattle.asp_model.specs.Contraction.{is_future}
use Rattle.asp_model.specs.Store.{cell}
use Rattle.asp_model.specs.Order.{same_future_same, same_name_same}
use Rattle.code_table.specs.declared.answer.Shown.{Shown}
use Rattle.code_table.specs.declared.answer.Shown.TheVariants as shown
use Rattle.code_table.specs.declared.cells.Cell.{Cell}
use Rattle.code_table.specs.Cells.{CodedCell, IsPlain, CodedStore, all_coded, cell_at, coded_in, end_of, moved_coded, span_of}
use Rattle.code_table.specs.Cells as coded
use Rattle.code_table.specs.Answers.{AnswerView, ShownCell, shown_in}
use Rattle.code_table.specs.Answers as answers
use Rattle.code_table.specs.Classes.{class_at}
use Rattle.code_table.specs.Columns.{AreLaid}
use Rattle.code_table.specs.Moves.{move_of}
use Rattle.code_table.specs.Shapes.{answer_shape, class_object, store_of}
use Rattle.code_table.specs.Shown.{MayBeShown, all_under, answer_items, coded_shown, kept, may_hold, same_coded}
use Rattle.code_table.specs.declared.class.Class.{Class}
use Rattle.code_table.specs.declared.code.Node.{Node}
use Rattle.code_table.specs.declared.moves.Moves.TheVariants as moves
use Rattle.code_table.proofs.CodedLemmas.{drop_cell, take_cell}
use Rattle.code_table.proofs.ColumnLemmas.{at_place, within_at}

-- Cells as they are shown are those that a store keeps

shown_kept : (ws : List ℕ) (c : Shown) → coded_shown (shown_in ws c) ≡ coded_in ws (kept c)
shown_kept ws (shown.Number n) = refl
shown_kept ws (shown.Object k start count) = refl
shown_kept ws (shown.Group start count) = refl
shown_kept ws (shown.Reference n) = refl

pub items_kept : (ws : List ℕ) (cs : List Shown) → map coded_shown (map (shown_in ws) cs) ≡ all_coded ws (map kept cs)
items_kept ws [] = refl
items_kept ws (c ∷ cs) = λ i. shown_kept ws c i ∷ items_kept ws cs i

pub kept_at : (cs : List Shown) (p : ℕ) (d : Shown) → get_or (map kept cs) p (kept d) ≡ kept (get_or cs p d)
kept_at [] p d = refl
kept_at (c ∷ cs) zero d = refl
kept_at (c ∷ cs) (suc p) d = kept_at cs p d

-- A test of all cells, one after the other

pub past_all : (s : CodedStore) (n : ℕ) → length s ≤ n → drop n s ≡ []
past_all [] zero le = refl
past_all [] (suc n) le = refl
past_all (c ∷ s) zero le = absurd (omega (arith, le))
past_all (c ∷ s) (suc n) le = past_all s n (omega (arith, le))

pub all_at : (f : CodedCell → Bool) (s : CodedStore) (p : ℕ) → p < length s
    → list_all f (drop p s) ≡ (f (cell_at s p) && list_all f (drop (p + 1) s))
all_at f s p lt = ap (list_all f) (drop_cell s p lt)

-- a cell that fails the test
pub fails_at : (f : CodedCell → Bool) (s : CodedStore) (p : ℕ) → p < length s → f (cell_at s p) ≡ false
    → list_all f (drop p s) ≡ false
fails_at f s p lt e = all_at f s p lt ∙ ap (λ (b : Bool). b && list_all f (drop (p + 1) s)) e

-- and one that passes it
pub passes_at : (f : CodedCell → Bool) (s : CodedStore) (p : ℕ) → p < length s → f (cell_at s p) ≡ true
    → list_all f (drop p s) ≡ list_all f (drop (p + 1) s)
passes_at f s p lt e = all_at f s p lt ∙ ap (λ (b : Bool). b && list_all f (drop (p + 1) s)) e

first : (a b : Bool) → (a && b) ≡ true → a ≡ true
first true b h = refl
first false b h = h

second : (a b : Bool) → (a && b) ≡ true → b ≡ true
second true b h = h
second false b h = absurd (subst T (sym h) tt)

pub each_holds : (f : CodedCell → Bool) (s : CodedStore) (p : ℕ) → list_all f s ≡ true → p < length s
    → f (cell_at s p) ≡ true
each_holds f [] p h lt = absurd (omega (arith, lt))
each_holds f (c ∷ s) zero h lt = first (f c) (list_all f s) h
each_holds f (c ∷ s) (suc p) h lt = each_holds f s p (second (f c) (list_all f s) h) (omega (arith, lt))

held_plain : (size : ℕ) (c : CodedCell) → may_hold size c ≡ true → IsPlain c
held_plain size (coded.Number n) h = tt
held_plain size (coded.Object k ns) h = tt
held_plain size (coded.Reference n) h = tt
held_plain size (coded.Future f) h = subst T (sym h) tt
held_plain size (coded.Group ns) h = tt

pub plain_at : (size : ℕ) (s : CodedStore) (p : ℕ) → list_all (may_hold size) s ≡ true → p < length s
    → IsPlain (cell_at s p)
plain_at size s p h lt = held_plain size (cell_at s p) (each_holds (may_hold size) s p h lt)

-- Equal cells

name_itself : (n : Name) → same_name n n ≡ true
name_itself = IsEquivalence.refl (eq_by_cmp_equiv nat_list_cmp_total)

future_total : IsTotalOrder future_cmp
future_total = then_total (on_total (λ (f : FutureShape). f.by) nat_list_cmp_total)
    (on_total (λ (f : FutureShape). f.index) nat_cmp_total)

future_itself : (f : FutureShape) → same_future f f ≡ true
future_itself = IsEquivalence.refl (eq_by_cmp_equiv future_total)

both : (a b : Bool) → a ≡ true → b ≡ true → (a && b) ≡ true
both a b e h = ap (λ (x : Bool). x && b) e ∙ h

same_itself : (c : CodedCell) → same_coded c c ≡ true
same_itself (coded.Number n) = (Decides-int_eq n n).1 refl
same_itself (coded.Object k ns) = both (nat_eq k k) (bytes_eq ns ns) ((Decides-eqb k k).1 refl)
    ((bytes_eq-Decides ns ns).1 refl)
same_itself (coded.Reference n) = name_itself n
same_itself (coded.Future f) = future_itself f
same_itself (coded.Group ns) = (bytes_eq-Decides ns ns).1 refl

never : {P : Type 0} → false ≡ true → P
never e = absurd (subst T (sym e) tt)

same_same : (c d : CodedCell) → same_coded c d ≡ true → c ≡ d
same_same (coded.Number n) (coded.Number m) e = ap coded.Number ((Decides-int_eq n m).0 e)
same_same (coded.Number n) (coded.Object l ms) e = never e
same_same (coded.Number n) (coded.Reference m) e = never e
same_same (coded.Number n) (coded.Future g) e = never e
same_same (coded.Number n) (coded.Group ms) e = never e
same_same (coded.Object k ns) (coded.Object l ms) e =
    let class = (Decides-eqb k l).0 (first (nat_eq k l) (bytes_eq ns ms) e) in
    let places = (bytes_eq-Decides ns ms).0 (second (nat_eq k l) (bytes_eq ns ms) e) in
    λ i. coded.Object (class i) (places i)
same_same (coded.Object k ns) (coded.Number m) e = never e
same_same (coded.Object k ns) (coded.Reference m) e = never e
same_same (coded.Object k ns) (coded.Future g) e = never e
same_same (coded.Object k ns) (coded.Group ms) e = never e
same_same (coded.Reference n) (coded.Reference m) e = ap coded.Reference (same_name_same n m e)
same_same (coded.Reference n) (coded.Number m) e = never e
same_same (coded.Reference n) (coded.Object l ms) e = never e
same_same (coded.Reference n) (coded.Future g) e = never e
same_same (coded.Reference n) (coded.Group ms) e = never e
same_same (coded.Future f) (coded.Future g) e = ap coded.Future (same_future_same f g e)
same_same (coded.Future f) (coded.Number m) e = never e
same_same (coded.Future f) (coded.Object l ms) e = never e
same_same (coded.Future f) (coded.Reference m) e = never e
same_same (coded.Future f) (coded.Group ms) e = never e
same_same (coded.Group ns) (coded.Group ms) e = ap coded.Group ((bytes_eq-Decides ns ms).0 e)
same_same (coded.Group ns) (coded.Number m) e = never e
same_same (coded.Group ns) (coded.Object l ms) e = never e
same_same (coded.Group ns) (coded.Reference m) e = never e
same_same (coded.Group ns) (coded.Future g) e = never e

-- two cells are told to differ: their stores differ
pub differ_at : (s t : CodedStore) (p : ℕ) → same_coded (cell_at s p) (cell_at t p) ≡ false → s ≡ t → ⊥
differ_at s t p e is =
    let itself : same_coded (cell_at s p) (cell_at t p) ≡ true =
    subst (λ (u : CodedStore). same_coded (cell_at s p) (cell_at u p) ≡ true) is (same_itself (cell_at s p)) in
    never (sym e ∙ itself)

-- one more pair that is told to be equal
pub alike_more : (s t : CodedStore) (p : ℕ) → p < length s → p < length t
    → same_coded (cell_at s p) (cell_at t p) ≡ true → take p s ≡ take p t → take (p + 1) s ≡ take (p + 1) t
alike_more s t p ls lt e is =
    let cell = same_same (cell_at s p) (cell_at t p) e in
    take_cell s p ls ∙ (λ i. is i ++ cell i ∷ []) ∙ sym (take_cell t p lt)

pub taken : (s : CodedStore) (n : ℕ) → length s ≤ n → take n s ≡ s
taken [] zero le = refl
taken [] (suc n) le = refl
taken (c ∷ s) zero le = absurd (omega (arith, le))
taken (c ∷ s) (suc n) le = ap (λ (t : CodedStore). c ∷ t) (taken s n (omega (arith, le)))

pub alike_all : (s t : CodedStore) (n : ℕ) → length s ≤ n → length t ≤ n → take n s ≡ take n t → s ≡ t
alike_all s t n ls lt is = sym (taken s n ls) ∙ is ∙ taken t n lt

-- Places that stay

all_stay : (ns : List ℕ) → map (move_of moves.Stay) ns ≡ ns
all_stay [] = refl
all_stay (n ∷ ns) = ap (λ (ms : List ℕ). n ∷ ms) (all_stay ns)

cell_stays : (c : CodedCell) → moved_coded (move_of moves.Stay) c ≡ c
cell_stays (coded.Number n) = refl
cell_stays (coded.Object k ns) = ap (coded.Object k) (all_stay ns)
cell_stays (coded.Reference n) = refl
cell_stays (coded.Future f) = refl
cell_stays (coded.Group ns) = ap coded.Group (all_stay ns)

-- one more cell is copied
pub copied_more : (s : CodedStore) (p : ℕ) (now : CodedStore) (c : CodedCell) → p < length s
    → now ≡ take p s → c ≡ cell_at s p → now ++ moved_coded (move_of moves.Stay) c ∷ [] ≡ take (p + 1) s
copied_more s p now c lt e is =
    (λ i. e i ++ moved_coded (move_of moves.Stay) (is i) ∷ [])
    ∙ ap (λ (d : CodedCell). take p s ++ d ∷ []) (cell_stays (cell_at s p))
    ∙ sym (take_cell s p lt)

-- The root is no future

object_plain : (code : List Node) (ns : List ℕ) (k : Option Class) → is_future (class_object code ns k) ≡ false
object_plain code ns None = refl
object_plain code ns (Some k) = refl

pub root_plain : (code : List Node) (a : AnswerView) → is_future (cell (answer_shape code a).cells 0) ≡ false
root_plain code a = by a.cells
  where
    by : (cs : List ShownCell) → is_future (cell (store_of code (map coded_shown cs)) 0) ≡ false
    by [] = refl
    by (answers.Number n ∷ cs) = refl
    by (answers.Object k ns ∷ cs) = object_plain code ns (class_at code k)
    by (answers.Reference n ∷ cs) = refl
    by (answers.Group ns ∷ cs) = refl

-- A list of shown cells, of which one is read

module _ (ws : List ℕ) (cs : List Shown) where
  kept_within : (p : ℕ) → p < length cs → p < length (map kept cs)
  kept_within p lt = subst (λ (n : ℕ). p < n) (sym (length-map cs kept)) lt

  pub listed_end : (p : ℕ) (d : Shown) → p < length cs → AreLaid (length ws) (map span_of (map kept cs))
      → end_of (kept (get_or cs p d)) ≤ length ws
  listed_end p d lt laid = subst (λ (c : Cell). end_of c ≤ length ws) (kept_at cs p d)
      (within_at (length ws) (map kept cs) p (kept d) (kept_within p lt) laid)

  module _ (v : AnswerView) (e : map (shown_in ws) cs ≡ v.cells) where
    listed_items : all_coded ws (map kept cs) ≡ answer_items v
    listed_items = sym (items_kept ws cs) ∙ ap (map coded_shown) e

    pub listed_within : (p : ℕ) → p < length (answer_items v) → p < length cs
    listed_within p lt =
        let size : length (answer_items v) ≡ length cs =
        length-map v.cells coded_shown ∙ ap (λ (xs : List ShownCell). length xs) (sym e) ∙ length-map cs (shown_in ws) in
        subst (λ (n : ℕ). p < n) size lt

    pub listed_cell : (p : ℕ) (d : Shown) → p < length cs
        → coded_in ws (kept (get_or cs p d)) ≡ cell_at (answer_items v) p
    listed_cell p d lt =
        ap (coded_in ws) (sym (kept_at cs p d)) ∙ sym (at_place ws (map kept cs) p (kept d) (kept_within p lt))
        ∙ ap (λ (s : CodedStore). cell_at s p) listed_items

pub only_one : (s : CodedStore) → length s ≡ 1 → s ≡ cell_at s 0 ∷ []
only_one [] e = absurd (omega (arith, e))
only_one (c ∷ []) e = refl
only_one (c ∷ d ∷ s) e = absurd (omega (arith, e))
