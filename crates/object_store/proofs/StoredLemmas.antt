-- The index of a store, after each change of its cells.
use Rattle.std.proofs.Common.{◌≡◌, ℕ, zero, suc, ◌-◌, ◌<◌, Bool, true, false, not, List, [], ◌∷◌, ◌++◌, length, refl, sym, ap, subst, ◌∙◌, T, arith, length-take-le}
use Rattle.std.specs.Prelude.{◌&&◌}
use Rattle.std.proofs.lemmas.Cmp.{eq_by_cmp_equiv, then_total, on_total, nat_cmp_total}
use Rattle.std.specs.Cmp.{IsTotalOrder}
use Rattle.std.specs.Cmp.Lexicographic.{nat_list_cmp_total}
use Rattle.asp_model.specs.declared.name.FutureName.{FutureName}
use Rattle.asp_model.specs.Names.{FutureShape, same_future, future_cmp}
use Rattle.asp_model.specs.Order.{same_future_same}
use Rattle.code_table.specs.Cells.{ArePlain, CodedCell, CodedStore, Number, Object, Reference, Future, Group, cell_at, moved_coded, with_cell_at, with_place_at}
use Rattle.asp_model.specs.Shapes.{future_shape}
use Rattle.object_store.specs.Holders.{is_future, is_one_future, holders}
use Rattle.object_store.specs.Index.{ChangesWhere, IsAlike, IsIndexed, is_given_up, is_in_cell, places_in}
use Rattle.object_store.specs.Places.{with_place, without_place}
use Rattle.object_store.specs.declared.index.Index.{Index}
use Rattle.object_store.specs.declared.finder.Finder.{Finder}
use Rattle.object_store.specs.declared.finder.Finder.TheVariants as finders
use Rattle.object_store.specs.Finder.{Follows, IsFitting, but_last, last_cell}
use Rattle.object_store.proofs.CellLemmas.{before_last, but_one, last_at, last_count, whole}
use Rattle.object_store.proofs.IndexLemmas.{changed_so}
use Rattle.object_store.specs.Exchanges.{Exchanges}
use Rattle.object_store.proofs.HoldersLemmas.{added, left, replaced, exchanged, held_alike, plain_behind}

pub alike : (old new : Index) (s : CodedStore) → IsIndexed old s → IsAlike old new → IsIndexed new s
alike old new s h e = λ f. e f ∙ h f

pub indexed_more : (old new : Index) (s : CodedStore) (c : CodedCell) → IsIndexed old s → ChangesWhere (is_in_cell c) (with_place (length s)) old new → IsIndexed new (s ++ c ∷ [])
indexed_more old new s c h changes = λ f. changes f ∙ ap (changed_so (with_place (length s)) (is_in_cell c f)) (h f) ∙ sym (added (future_shape f) s c)

pub indexed_less : (old new : Index) (s : CodedStore) (c : CodedCell) → IsIndexed old (s ++ c ∷ []) → ChangesWhere (is_in_cell c) (without_place (length s)) old new → IsIndexed new s
indexed_less old new s c h changes = λ f. changes f ∙ ap (changed_so (without_place (length s)) (is_in_cell c f)) (h f) ∙ left (future_shape f) s c

future_cmp_total : IsTotalOrder future_cmp
future_cmp_total = then_total (on_total (λ (f : FutureShape). f.by) nat_list_cmp_total) (on_total (λ (f : FutureShape). f.index) nat_cmp_total)

pub same_future_itself : (f : FutureShape) → same_future f f ≡ true
same_future_itself f = (eq_by_cmp_equiv future_cmp_total).refl f

clash : {b : Bool} {C : Type 0} → b ≡ true → b ≡ false → C
clash e d = absurd (subst T (sym e ∙ d) tt)

one_future_same : (c d : CodedCell) → is_one_future c d ≡ true → c ≡ d
one_future_same (Future g) (Future h) e = ap Future (same_future_same g h e)
one_future_same (Number n) (Future h) e = clash e refl
one_future_same (Object k ns) (Future h) e = clash e refl
one_future_same (Reference a) (Future h) e = clash e refl
one_future_same (Group ns) (Future h) e = clash e refl
one_future_same c (Number n) e = clash e refl
one_future_same c (Object k ns) e = clash e refl
one_future_same c (Reference a) e = clash e refl
one_future_same c (Group ns) e = clash e refl

held_by : (f : FutureShape) (c : CodedCell) → is_future f c ≡ true → c ≡ Future f
held_by f (Future g) e = ap Future (same_future_same g f e)
held_by f (Number n) e = clash e refl
held_by f (Object k ns) e = clash e refl
held_by f (Reference a) e = clash e refl
held_by f (Group ns) e = clash e refl

both_hold : (f : FutureShape) (c d : CodedCell) → is_future f c ≡ true → is_future f d ≡ true → is_one_future c d ≡ true
both_hold f c d e h =
    let same : is_one_future (Future f) (Future f) ≡ true = same_future_itself f in
    subst (λ x. is_one_future x d ≡ true) (sym (held_by f c e)) (subst (λ x. is_one_future (Future f) x ≡ true) (sym (held_by f d h)) same)

both_exchanged : (had has : Bool) (p : ℕ) (xs : List ℕ) → changed_so (without_place p) (had && not has) (changed_so (with_place p) has xs) ≡ exchanged had has p xs
both_exchanged true true p xs = refl
both_exchanged true false p xs = refl
both_exchanged false true p xs = refl
both_exchanged false false p xs = refl

-- one cell in the place of another
pub indexed_replaced : (old mid new : Index) (s : CodedStore) (p : ℕ) (c d : CodedCell) → p < length s → cell_at s p ≡ d → IsIndexed old s → ChangesWhere (is_in_cell c) (with_place p) old mid → ChangesWhere (is_given_up d c) (without_place p) mid new → IsIndexed new (with_cell_at s p c)
indexed_replaced old mid new s p c d lt here h first second = λ f.
    let xs = holders (future_shape f) s in
    second f ∙ ap (changed_so (without_place p) (is_given_up d c f)) (first f ∙ ap (changed_so (with_place p) (is_in_cell c f)) (h f))
    ∙ both_exchanged (is_in_cell d f) (is_in_cell c f) p xs
    ∙ ap (λ b. exchanged b (is_in_cell c f) p xs) (sym (ap (is_future (future_shape f)) here)) ∙ sym (replaced (future_shape f) s p c lt)

-- a place of an object set
pub indexed_object : (index : Index) (s t : CodedStore) (p i n : ℕ) → t ≡ with_cell_at s p (with_place_at i n (cell_at s p)) → IsIndexed index s → IsIndexed index t
indexed_object index s t p i n e h = λ f.
    h f ∙ sym (ap (holders (future_shape f)) e ∙ held_alike 0 (future_shape f) s p (with_place_at i n (cell_at s p)) (alike_held (future_shape f) (cell_at s p)))
  where
    alike_held : (f : FutureShape) (c : CodedCell) → is_future f (with_place_at i n c) ≡ is_future f c
    alike_held f (Object k ns) = refl
    alike_held f (Number m) = refl
    alike_held f (Reference a) = refl
    alike_held f (Future g) = refl
    alike_held f (Group ms) = refl

-- what one future gives up to another
pub given_up_same : (c d : CodedCell) (f : FutureName) → is_one_future c d ≡ true → is_given_up c d f ≡ false
given_up_same c d f e = ap (λ x. is_future (future_shape f) x && not (is_in_cell d f)) (one_future_same c d e) ∙ nothing (is_in_cell d f)
  where
    nothing : (b : Bool) → (b && not b) ≡ false
    nothing true = refl
    nothing false = refl

pub given_up_other : (c d : CodedCell) (f : FutureName) → is_one_future c d ≡ false → is_given_up c d f ≡ is_in_cell c f
given_up_other c d f e = by (is_in_cell c f) (is_in_cell d f) (λ x y. clash (both_hold (future_shape f) c d x y) e)
  where
    by : (had has : Bool) → (had ≡ true → has ≡ true → ⊥) → (had && not has) ≡ had
    by true true h = absurd (h refl refl)
    by true false h = refl
    by false has h = refl

-- An index, where there is one

followed : (R : Index → Index → Type 0) (s t : CodedStore) → ((i j : Index) → IsIndexed i s → R i j → IsIndexed j t) → (old new : Finder) → IsFitting old s → Follows R old new → IsFitting new t
followed R s t step old finders.Look h r = tt
followed R s t step finders.Look (finders.Indexed j) h r = absurd r
followed R s t step (finders.Indexed i) (finders.Indexed j) h r = step i.value j.value h r

pub fitting_alike : (old new : Finder) (s : CodedStore) → IsFitting old s → Follows IsAlike old new → IsFitting new s
fitting_alike old new s h r = followed IsAlike s s (λ i j. alike i j s) old new h r

pub fitting_more : (old new : Finder) (s : CodedStore) (c : CodedCell) → IsFitting old s → Follows (ChangesWhere (is_in_cell c) (with_place (length s))) old new → IsFitting new (s ++ c ∷ [])
fitting_more old new s c h r = followed (ChangesWhere (is_in_cell c) (with_place (length s))) s (s ++ c ∷ []) (λ i j. indexed_more i j s c) old new h r

pub fitting_less : (old new : Finder) (s : CodedStore) (c : CodedCell) → IsFitting old (s ++ c ∷ []) → Follows (ChangesWhere (is_in_cell c) (without_place (length s))) old new → IsFitting new s
fitting_less old new s c h r = followed (ChangesWhere (is_in_cell c) (without_place (length s))) (s ++ c ∷ []) s (λ i j. indexed_less i j s c) old new h r

pub fitting_replaced : (old mid new : Finder) (s : CodedStore) (p : ℕ) (c d : CodedCell) → p < length s → cell_at s p ≡ d → IsFitting old s → Follows (ChangesWhere (is_in_cell c) (with_place p)) old mid → Follows (ChangesWhere (is_given_up d c) (without_place p)) mid new → IsFitting new (with_cell_at s p c)
fitting_replaced old mid finders.Look s p c d lt here h first second = tt
fitting_replaced old finders.Look (finders.Indexed k) s p c d lt here h first second = absurd second
fitting_replaced finders.Look (finders.Indexed j) (finders.Indexed k) s p c d lt here h first second = absurd first
fitting_replaced (finders.Indexed i) (finders.Indexed j) (finders.Indexed k) s p c d lt here h first second = indexed_replaced i.value j.value k.value s p c d lt here h first second

pub fitting_object : (finder : Finder) (s t : CodedStore) (p i n : ℕ) → t ≡ with_cell_at s p (with_place_at i n (cell_at s p)) → IsFitting finder s → IsFitting finder t
fitting_object finders.Look s t p i n e h = tt
fitting_object (finders.Indexed index) s t p i n e h = indexed_object index.value s t p i n e h

-- the last cell
last_is : (s t : CodedStore) (c : CodedCell) → t ≡ s ++ c ∷ [] → last_cell t ≡ c
last_is s t c e = ap last_cell e ∙ ap (cell_at (s ++ c ∷ [])) (last_count s c) ∙ last_at s c

-- a cell that was appended and noted
pub fitting_noted : (old new : Finder) (s t : CodedStore) (p : ℕ) (c : CodedCell) → t ≡ s ++ c ∷ [] → p ≡ length s → IsFitting old s → Follows (ChangesWhere (is_in_cell (last_cell t)) (with_place p)) old new → IsFitting new t
fitting_noted old new s t p c e at h noted =
    let held = subst (λ (x : CodedCell). Follows (ChangesWhere (is_in_cell x) (with_place p)) old new) (last_is s t c e) noted in
    subst (IsFitting new) (sym e) (fitting_more old new s c h (subst (λ n. Follows (ChangesWhere (is_in_cell c) (with_place n)) old new) at held))

-- the last cell forgotten
pub fitting_forgotten : (old new : Finder) (s : CodedStore) → 0 < length s → IsFitting old s → Follows (ChangesWhere (is_in_cell (cell_at s (length s - 1))) (without_place (length s - 1))) old new → IsFitting new (but_last s)
fitting_forgotten old new s some h changes =
    let count : length s - 1 ≡ length (but_last s) = sym (length-take-le (length s - 1) s (omega (arith, some))) in
    let last = cell_at s (length s - 1) in
    fitting_less old new (but_last s) last (subst (IsFitting old) (whole s some) h) (subst (λ n. Follows (ChangesWhere (is_in_cell last) (without_place n)) old new) count changes)

-- a cell that holds no future
pub fitting_unheld : (finder : Finder) (s : CodedStore) (c : CodedCell) → ((f : FutureName) → is_in_cell c f ≡ false) → IsFitting finder s → IsFitting finder (s ++ c ∷ [])
fitting_unheld finders.Look s c none h = tt
fitting_unheld (finders.Indexed index) s c none h = indexed_more index.value index.value s c h (λ f. sym (ap (λ b. changed_so (with_place (length s)) b (places_in index.value f)) (none f)))

-- the last cell in the place of another
pub put_cells : (s t : CodedStore) (p : ℕ) (c : CodedCell) → t ≡ s ++ c ∷ [] → with_cell_at (but_last t) p (last_cell t) ≡ with_cell_at s p c
put_cells s t p c e = (λ i. with_cell_at (but_last (e i)) p (last_is s t c e i)) ∙ ap (λ (u : CodedStore). with_cell_at u p c) (but_one s c)

pub fitting_put : (old mid new : Finder) (s t : CodedStore) (p : ℕ) (c : CodedCell) → t ≡ s ++ c ∷ [] → p < length s → IsFitting old s → Follows (ChangesWhere (is_in_cell (last_cell t)) (with_place p)) old mid
    → Follows (ChangesWhere (is_given_up (cell_at t p) (last_cell t)) (without_place p)) mid new → IsFitting new (with_cell_at (but_last t) p (last_cell t))
fitting_put old mid new s t p c e lt h first second =
    let last : last_cell t ≡ c = last_is s t c e in
    let here : cell_at t p ≡ cell_at s p = ap (λ (u : CodedStore). cell_at u p) e ∙ before_last s c p lt in
    let held = subst (λ (x : CodedCell). Follows (ChangesWhere (is_in_cell x) (with_place p)) old mid) last first in
    let given = subst (λ (x : CodedCell). Follows (ChangesWhere (is_given_up x c) (without_place p)) mid new) here (subst (λ (x : CodedCell). Follows (ChangesWhere (is_given_up (cell_at t p) x) (without_place p)) mid new) last second) in
    subst (IsFitting new) (sym (put_cells s t p c e)) (fitting_replaced old mid new s p c (cell_at s p) lt refl h held given)

-- cells that hold each future as others do
fitting_like : (finder : Finder) (s t : CodedStore) → ((f : FutureShape) → holders f t ≡ holders f s) → IsFitting finder s → IsFitting finder t
fitting_like finders.Look s t e h = tt
fitting_like (finders.Indexed index) s t e h = λ f. h f ∙ sym (e (future_shape f))

pub moved_alike : (g : ℕ → ℕ) (c : CodedCell) (f : FutureShape) → is_future f (moved_coded g c) ≡ is_future f c
moved_alike g (Number n) f = refl
moved_alike g (Object k ns) f = refl
moved_alike g (Reference a) f = refl
moved_alike g (Future h) f = refl
moved_alike g (Group ns) f = refl

pub follows_itself : (finder : Finder) → Follows IsAlike finder finder
follows_itself finders.Look = tt
follows_itself (finders.Indexed index) = λ f. refl

-- a cell appended that holds what another does, which was noted
pub fitting_added : (old new : Finder) (s : CodedStore) (c x : CodedCell) → ((f : FutureShape) → is_future f x ≡ is_future f c) → IsFitting old s → Follows (ChangesWhere (is_in_cell c) (with_place (length s))) old new → IsFitting new (s ++ x ∷ [])
fitting_added old new s c x e h r =
    let alike = λ (f : FutureShape). added f s x ∙ ap (λ b. changed_so (with_place (length s)) b (holders f s)) (e f) ∙ sym (added f s c) in
    fitting_like new (s ++ c ∷ []) (s ++ x ∷ []) alike (fitting_more old new s c h r)

-- noted, and forgotten again
pub fitting_undone : (old mid new : Finder) (s : CodedStore) (c : CodedCell) → IsFitting old s → Follows (ChangesWhere (is_in_cell c) (with_place (length s))) old mid → Follows (ChangesWhere (is_in_cell c) (without_place (length s))) mid new → IsFitting new s
fitting_undone old mid new s c h noted forgotten = fitting_less mid new s c (fitting_more old mid s c h noted) forgotten

with_twice : (s : CodedStore) (p : ℕ) (c d : CodedCell) → with_cell_at (with_cell_at s p c) p d ≡ with_cell_at s p d
with_twice [] p c d = refl
with_twice (x ∷ s) zero c d = refl
with_twice (x ∷ s) (suc p) c d = ap (λ (t : CodedStore). x ∷ t) (with_twice s p c d)

with_there : (s : CodedStore) (p : ℕ) (c : CodedCell) → p < length s → cell_at (with_cell_at s p c) p ≡ c
with_there [] p c lt = absurd (omega arith)
with_there (x ∷ s) zero c lt = refl
with_there (x ∷ s) (suc p) c lt = with_there s p c (omega arith)

-- a cell put in the place of another, which holds what the one does that was noted
pub fitting_exchanged : (old new : Finder) (s : CodedStore) (p : ℕ) (c d x : CodedCell) → ((f : FutureShape) → is_future f x ≡ is_future f c) → p < length s → cell_at s p ≡ d → IsFitting old s → Exchanges d c p old new → IsFitting new (with_cell_at s p x)
fitting_exchanged old new s p c d x e lt here h change =
    let t = with_cell_at s p c in
    let alike = λ (f : FutureShape). ap (holders f) (sym (with_twice s p c x)) ∙ held_alike 0 f t p x (e f ∙ sym (ap (is_future f) (with_there s p c lt))) in
    fitting_like new t (with_cell_at s p x) alike (fitting_replaced old change.between new s p c d lt here h change.noted change.forgotten)

-- cells appended that are no futures
pub fitting_plain : (finder : Finder) (s cs : CodedStore) → ArePlain cs → IsFitting finder s → IsFitting finder (s ++ cs)
fitting_plain finder s cs plain h = fitting_like finder s (s ++ cs) (λ f. plain_behind f s cs plain) h
