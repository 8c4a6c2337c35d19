-- What an event makes of what is owed.
use Rattle.std.proofs.Common.{◌≡◌, Bool, true, false, List, [], ◌∷◌, ◌++◌, Option, Some, None, refl, sym, ap, ◌∙◌}
use Rattle.std.specs.Prelude.{◌||◌, ◌&&◌, not}
use Rattle.std.specs.List.{list_any}
use Rattle.std.proofs.lemmas.List.Folds.{list_any-append}
use Rattle.std.proofs.Math.Bool.{or-false}
use Rattle.asp_model.specs.Names.{Name, FutureShape, same_name, same_future}
use Rattle.asp_model.specs.Order.{same_future_same}
use Rattle.asp_model.specs.History.{ChoiceShape, Forward, FromHome, Leave}
use Rattle.def_journals.specs.Edges.{EdgeShape, HoldersShape, Begins, Fills, after_event, has_edge, has_filled, has_received, has_value, home_of, is_chosen, is_home, is_owed, owed_at, same_edge}
use Rattle.future_update.proofs.NameLemmas.{clash}

abbrev pub with_receipt : FutureShape → Name → HoldersShape → HoldersShape
with_receipt f n h = record h { received = h.received ++ (f, n) ∷ [] }

abbrev pub with_delivered_edge : EdgeShape → HoldersShape → HoldersShape
with_delivered_edge x h = record h { delivered = h.delivered ++ x ∷ [] }

any_last : {X : Type 0} (test : X → Bool) (xs : List X) (y : X) → list_any test (xs ++ y ∷ []) ≡ (list_any test xs || test y)
any_last test xs y = list_any-append test xs (y ∷ []) ∙ ap (λ b. list_any test xs || b) (or-false (test y))

-- A future is filled

filled_last : (g f : FutureShape) (h : HoldersShape) → has_filled g (after_event (Fills f) h).filled ≡ (has_filled g h.filled || same_future g f)
filled_last g f h = any_last (same_future g) h.filled f

more_filled : (d filled same chosen : Bool) → (not d && (filled && chosen)) ≡ true → (not d && ((filled || same) && chosen)) ≡ true
more_filled true filled same chosen e = e
more_filled false true same chosen e = e
more_filled false false same chosen e = clash e refl

left_filled : (d filled same chosen : Bool) → (not d && ((filled || same) && chosen)) ≡ true → (not d && (filled && chosen)) ≡ false → same ≡ true
left_filled true filled same chosen e u = clash e refl
left_filled false true same chosen e u = clash e u
left_filled false false true chosen e u = refl
left_filled false false false chosen e u = clash e refl

fills_chosen : (a : ChoiceShape) (f : FutureShape) (h : HoldersShape) (x : EdgeShape) → is_chosen a (after_event (Fills f) h) x ≡ is_chosen a h x
fills_chosen Forward f h x = refl
fills_chosen FromHome f h x = refl
fills_chosen Leave f h x = refl

fills_owed : (h : HoldersShape) (f : FutureShape) (x : EdgeShape) (a : ChoiceShape) → is_owed (after_event (Fills f) h) a x ≡ (not (has_edge x h.delivered) && ((has_filled x.future h.filled || same_future x.future f) && is_chosen a h x))
fills_owed h f x a = λ i. not (has_edge x h.delivered) && (filled_last x.future f h i && fills_chosen a f h x i)

pub fills_more : (h : HoldersShape) (f : FutureShape) (x : Option EdgeShape) (a : Option ChoiceShape) → owed_at h x a ≡ true → owed_at (after_event (Fills f) h) x a ≡ true
fills_more h f None a e = e
fills_more h f (Some x) None e = e
fills_more h f (Some x) (Some a) e = fills_owed h f x a ∙ more_filled (has_edge x h.delivered) (has_filled x.future h.filled) (same_future x.future f) (is_chosen a h x) e

pub fills_left : (h : HoldersShape) (f : FutureShape) (x : EdgeShape) (a : ChoiceShape) → is_owed (after_event (Fills f) h) a x ≡ true → is_owed h a x ≡ false → same_future x.future f ≡ true
fills_left h f x a e u = left_filled (has_edge x h.delivered) (has_filled x.future h.filled) (same_future x.future f) (is_chosen a h x) (sym (fills_owed h f x a) ∙ e) u

-- An activity has received a value

received_last : (g : FutureShape) (m : Name) (f : FutureShape) (n : Name) (h : HoldersShape) → has_received g m (with_receipt f n h).received ≡ (has_received g m h.received || (same_future g f && same_name m n))
received_last g m f n h = any_last (λ x. same_future g x.0 && same_name m x.1) h.received (f, n)

more_received : (d filled home received same : Bool) → (not d && (filled && (home || received))) ≡ true → (not d && (filled && (home || (received || same)))) ≡ true
more_received true filled home received same e = e
more_received false true true received same e = e
more_received false true false true same e = e
more_received false true false false same e = clash e refl
more_received false false home received same e = e

left_received : (d filled home received same : Bool) → (not d && (filled && (home || (received || same)))) ≡ true → (not d && (filled && (home || received))) ≡ false → same ≡ true
left_received true filled home received same e u = clash e refl
left_received false true true received same e u = clash e u
left_received false true false true same e u = clash e u
left_received false true false false same e u = e
left_received false false home received same e u = clash e refl

receives_owed : (h : HoldersShape) (f : FutureShape) (n : Name) (x : EdgeShape) → is_owed (with_receipt f n h) Forward x ≡ (not (has_edge x h.delivered) && (has_filled x.future h.filled && (is_home x.from (home_of x.future h.homes) || (has_received x.future x.from h.received || (same_future x.future f && same_name x.from n)))))
receives_owed h f n x = ap (λ b. not (has_edge x h.delivered) && (has_filled x.future h.filled && (is_home x.from (home_of x.future h.homes) || b))) (received_last x.future x.from f n h)

pub receives_more : (h : HoldersShape) (f : FutureShape) (n : Name) (x : Option EdgeShape) (a : Option ChoiceShape) → owed_at h x a ≡ true → owed_at (with_receipt f n h) x a ≡ true
receives_more h f n None a e = e
receives_more h f n (Some x) None e = e
receives_more h f n (Some x) (Some FromHome) e = e
receives_more h f n (Some x) (Some Leave) e = e
receives_more h f n (Some x) (Some Forward) e = receives_owed h f n x ∙ more_received (has_edge x h.delivered) (has_filled x.future h.filled) (is_home x.from (home_of x.future h.homes)) (has_received x.future x.from h.received) (same_future x.future f && same_name x.from n) e

both_true : (a b : Bool) → (a && b) ≡ true → (a ≡ true) × (b ≡ true)
both_true true b e = (refl, e)
both_true false b e = clash e refl

pub receives_left : (h : HoldersShape) (f : FutureShape) (n : Name) (x : EdgeShape) (a : ChoiceShape) → is_owed (with_receipt f n h) a x ≡ true → is_owed h a x ≡ false → (same_future x.future f ≡ true) × (same_name x.from n ≡ true)
receives_left h f n x FromHome e u = clash e u
receives_left h f n x Leave e u = clash e u
receives_left h f n x Forward e u = both_true (same_future x.future f) (same_name x.from n) (left_received (has_edge x h.delivered) (has_filled x.future h.filled) (is_home x.from (home_of x.future h.homes)) (has_received x.future x.from h.received) (same_future x.future f && same_name x.from n) (sym (receives_owed h f n x) ∙ e) u)

-- An edge is delivered

pub delivers_other : (h : HoldersShape) (y x : EdgeShape) (a : ChoiceShape) → same_edge x y ≡ false → is_owed (with_delivered_edge y h) a x ≡ is_owed h a x
delivers_other h y x a apart = λ i. not (kept i) && (has_filled x.future h.filled && same a i)
  where
    kept : has_edge x (h.delivered ++ y ∷ []) ≡ has_edge x h.delivered
    kept = any_last (same_edge x) h.delivered y ∙ ap (λ b. has_edge x h.delivered || b) apart ∙ or-false (has_edge x h.delivered)

    same : (a : ChoiceShape) → is_chosen a (with_delivered_edge y h) x ≡ is_chosen a h x
    same Forward = refl
    same FromHome = refl
    same Leave = refl

pub delivers_own : (h : HoldersShape) (x : EdgeShape) (a : ChoiceShape) → same_edge x x ≡ true → is_owed (with_delivered_edge x h) a x ≡ false
delivers_own h x a itself = ap (λ b. not b && (has_filled x.future h.filled && is_chosen a (with_delivered_edge x h) x)) (any_last (same_edge x) h.delivered x ∙ ap (λ b. has_edge x h.delivered || b) itself ∙ or_true (has_edge x h.delivered))
  where
    or_true : (b : Bool) → (b || true) ≡ true
    or_true true = refl
    or_true false = refl

-- A future begins

home_other : (g f : FutureShape) (n : Name) (homes : List (FutureShape × Name)) → same_future g f ≡ false → home_of g (homes ++ (f, n) ∷ []) ≡ home_of g homes
home_other g f n [] apart = ap (λ b. elim b [ true ↦ Some n | false ↦ None ]) apart
home_other g f n (e ∷ es) apart = ap (λ o. elim (same_future g e.0) [ true ↦ Some e.1 | false ↦ o ]) (home_other g f n es apart)

pub begins_same : (h : HoldersShape) (f : FutureShape) (n : Name) → has_filled f h.filled ≡ false → (x : Option EdgeShape) (a : Option ChoiceShape) → owed_at (after_event (Begins f n) h) x a ≡ owed_at h x a
begins_same h f n unfilled None a = refl
begins_same h f n unfilled (Some x) None = refl
begins_same h f n unfilled (Some x) (Some FromHome) = refl
begins_same h f n unfilled (Some x) (Some Leave) = refl
begins_same h f n unfilled (Some x) (Some Forward) = by (same_future x.future f) refl
  where
    both : (b c : Bool) → has_filled x.future h.filled ≡ false → (has_filled x.future h.filled && b) ≡ (has_filled x.future h.filled && c)
    both b c e = ap (λ d. d && b) e ∙ sym (ap (λ d. d && c) e)

    by : (b : Bool) → same_future x.future f ≡ b → is_owed (after_event (Begins f n) h) Forward x ≡ is_owed h Forward x
    by true same = ap (λ b. not (has_edge x h.delivered) && b) (both (has_value (after_event (Begins f n) h) x) (has_value h x) (ap (λ g. has_filled g h.filled) (same_future_same x.future f same) ∙ unfilled))
    by false apart = ap (λ o. not (has_edge x h.delivered) && (has_filled x.future h.filled && (is_home x.from o || has_received x.future x.from h.received))) (home_other x.future f n h.homes apart)

-- An edge is passed

abbrev pub with_passed : EdgeShape → HoldersShape → HoldersShape
with_passed x h = record h { edges = h.edges ++ x ∷ [] }

pub passes_same : (h : HoldersShape) (y : EdgeShape) (x : Option EdgeShape) (a : Option ChoiceShape) → owed_at (with_passed y h) x a ≡ owed_at h x a
passes_same h y None a = refl
passes_same h y (Some x) None = refl
passes_same h y (Some x) (Some Forward) = refl
passes_same h y (Some x) (Some FromHome) = refl
passes_same h y (Some x) (Some Leave) = refl

-- Whether an edge is owed, test by test: delivered, filled, chosen

pub all_tests : (d f k : Bool) → d ≡ false → f ≡ true → k ≡ (not d && (f && k))
all_tests d f k open_edge filled = λ i. not (sym open_edge i) && (sym filled i && k)

pub unfilled_no : (d f k v : Bool) → v ≡ false → f ≡ false → v ≡ (not d && (f && k))
unfilled_no true f k v e unfilled = e
unfilled_no false f k v e unfilled = e ∙ sym (ap (λ x. x && k) unfilled)

pub delivered_no : (d f k v : Bool) → v ≡ false → d ≡ true → v ≡ (not d && (f && k))
delivered_no d f k v e delivered = e ∙ sym (ap (λ x. not x && (f && k)) delivered)

-- Marks of a place, if its edge is owed

pub marked_so : (a b so : Bool) → so ≡ true → elim b [ true ↦ true | false ↦ a ] ≡ (a || (so && b))
marked_so true true so e = refl
marked_so true false so e = refl
marked_so false true so e = sym (ap (λ x. x && true) e)
marked_so false false so e = sym (ap (λ x. x && false) e)

pub unmarked_so : (a b so : Bool) → so ≡ false → a ≡ (a || (so && b))
unmarked_so true b so e = refl
unmarked_so false b so e = sym (ap (λ x. x && b) e)
