-- The cells of a store, part by part.
use Rattle.std.proofs.Common.{◌≡◌, ℕ, zero, suc, Bool, true, false, ◌+◌, ◌-◌, ◌<◌, ◌≤◌, List, [], ◌∷◌, ◌++◌, length, map, take, refl, sym, ap, subst, ◌∙◌, arith, slice_set, get_or, length-append, append_assoc, append-nil}
use Rattle.std.specs.Bool.{OnFalse, OnTrue}
use Rattle.code_table.specs.Cells.{CodedCell, CodedStore, Future, Group, Number, Object, Reference, cell_at, moved_coded, with_cell_at, with_place_at}
use Rattle.code_table.proofs.CodedLemmas.{take_cell}
use Rattle.code_table.specs.Moves.{move_of}
use Rattle.code_table.specs.declared.moves.Moves.TheVariants as moves
use Rattle.object_store.specs.declared.parts.Part.{Part}
use Rattle.object_store.specs.Finder.{but_last}
use Rattle.object_store.specs.Parts.{ArePlaced, HasPlace, part_cells, parts_cells}

all_stay : (ns : List ℕ) → map (move_of moves.Stay) ns ≡ ns
all_stay [] = refl
all_stay (n ∷ ns) = ap (λ (l : List ℕ). n ∷ l) (all_stay ns)

-- Cells of two lists

pub cell_left : (s t : CodedStore) (p : ℕ) → p < length s → cell_at (s ++ t) p ≡ cell_at s p
cell_left [] t p lt = absurd (omega arith)
cell_left (c ∷ s) t zero lt = refl
cell_left (c ∷ s) t (suc p) lt = cell_left s t p (omega arith)

pub cell_right : (s t : CodedStore) (q : ℕ) → cell_at (s ++ t) (length s + q) ≡ cell_at t q
cell_right [] t q = let e : 0 + q ≡ q = omega arith in ap (cell_at t) e
cell_right (c ∷ s) t q = let e : suc (length s) + q ≡ suc (length s + q) = omega arith in ap (cell_at (c ∷ (s ++ t))) e ∙ cell_right s t q

pub with_left : (s t : CodedStore) (p : ℕ) (x : CodedCell) → p < length s → with_cell_at (s ++ t) p x ≡ with_cell_at s p x ++ t
with_left [] t p x lt = absurd (omega arith)
with_left (c ∷ s) t zero x lt = refl
with_left (c ∷ s) t (suc p) x lt = ap (λ (u : CodedStore). c ∷ u) (with_left s t p x (omega arith))

pub with_right : (s t : CodedStore) (q : ℕ) (x : CodedCell) → with_cell_at (s ++ t) (length s + q) x ≡ s ++ with_cell_at t q x
with_right [] t q x = let e : 0 + q ≡ q = omega arith in ap (λ n. with_cell_at t n x) e
with_right (c ∷ s) t q x =
    let e : suc (length s) + q ≡ suc (length s + q) = omega arith in
    ap (λ n. with_cell_at (c ∷ (s ++ t)) n x) e ∙ ap (λ (u : CodedStore). c ∷ u) (with_right s t q x)

pub put_left : (s t now : CodedStore) (p : ℕ) (x : CodedCell) → p < length s → now ≡ with_cell_at s p x → now ++ t ≡ with_cell_at (s ++ t) p x
put_left s t now p x lt e = ap (λ (u : CodedStore). u ++ t) e ∙ sym (with_left s t p x lt)

pub set_left : (s t : CodedStore) (p i n : ℕ) → p < length s → with_cell_at s p (with_place_at i n (cell_at s p)) ++ t ≡ with_cell_at (s ++ t) p (with_place_at i n (cell_at (s ++ t) p))
set_left s t p i n lt = sym (with_left s t p (with_place_at i n (cell_at s p)) lt) ∙ ap (λ (x : CodedCell). with_cell_at (s ++ t) p (with_place_at i n x)) (sym (cell_left s t p lt))

pub but_last_right : (s t : CodedStore) → 0 < length t → but_last (s ++ t) ≡ s ++ but_last t
but_last_right [] t some = refl
but_last_right (c ∷ s) t some =
    let both : length (s ++ t) ≡ length s + length t = length-append s t in
    let e : suc (length (s ++ t)) - 1 ≡ suc (length (s ++ t) - 1) = omega (arith, both, some) in
    ap (λ n. take n (c ∷ (s ++ t))) e ∙ ap (λ (u : CodedStore). c ∷ u) (but_last_right s t some)

pub but_last_left : (s t : CodedStore) → length t ≡ 0 → but_last s ++ t ≡ but_last (s ++ t)
but_last_left s [] e = append-nil (but_last s) ∙ ap but_last (sym (append-nil s))
but_last_left s (c ∷ t) e = absurd (omega arith)

pub with_length : (s : CodedStore) (p : ℕ) (x : CodedCell) → length (with_cell_at s p x) ≡ length s
with_length [] p x = refl
with_length (c ∷ s) zero x = refl
with_length (c ∷ s) (suc p) x = ap suc (with_length s p x)

-- The part of a place

pub starts_above : (n : ℕ) (ps : List Part) (k : ℕ) (d : Part) → ArePlaced n ps → k < length ps → n ≤ (get_or ps k d).start
starts_above n [] k d h lt = absurd (omega arith)
starts_above n (p ∷ ps) zero d h lt = omega (arith, h.0)
starts_above n (p ∷ ps) (suc k) d h lt = let above = starts_above (n + length (part_cells p)) ps k d h.2 (omega arith) in omega (arith, above)

-- a cell of the k-th part, which has the number i there and o among all
pub record Located (ps : List Part) (p : Part) (o i : ℕ) : Type 0 where
  pub within : i < length (part_cells p)
  pub cell : cell_at (parts_cells ps) o ≡ cell_at (part_cells p) i

pub located : (n : ℕ) (ps : List Part) (k : ℕ) (d : Part) (o i : ℕ) → ArePlaced n ps → k < length ps → (get_or ps k d).start + i ≡ n + o → o < length (parts_cells ps) → (suc k < length ps → n + o < (get_or ps (suc k) d).start) → Located ps (get_or ps k d) o i
located n [] k d o i h lt at within ended = absurd (omega arith)
located n (p ∷ []) zero d o i h lt at within ended =
    let same : i ≡ o = omega (arith, at, h.0) in
    let whole : length (part_cells p ++ []) ≡ length (part_cells p) = ap (λ (s : CodedStore). length s) (append-nil (part_cells p)) in
    let less : o < length (part_cells p) = omega (arith, within, whole) in
    record { within = omega (arith, same, less); cell = cell_left (part_cells p) [] o less ∙ ap (cell_at (part_cells p)) (sym same) }
located n (p ∷ q ∷ ps) zero d o i h lt at within ended =
    let same : i ≡ o = omega (arith, at, h.0) in
    let next : n + o < q.start = ended (omega arith) in
    let less : o < length (part_cells p) = omega (arith, next, h.2.0) in
    record { within = omega (arith, same, less); cell = cell_left (part_cells p) (parts_cells (q ∷ ps)) o less ∙ ap (cell_at (part_cells p)) (sym same) }
located n (p ∷ ps) (suc k) d o i h lt at within ended =
    let m = length (part_cells p) in
    let above : n + m ≤ (get_or ps k d).start = starts_above (n + m) ps k d h.2 (omega arith) in
    let on : m + (o - m) ≡ o = omega (arith, at, above) in
    let place : (get_or ps k d).start + i ≡ n + m + (o - m) = omega (arith, at, on) in
    let both : length (part_cells p ++ parts_cells ps) ≡ m + length (parts_cells ps) = length-append (part_cells p) (parts_cells ps) in
    let less : o - m < length (parts_cells ps) = omega (arith, within, both, on) in
    let rest = located (n + m) ps k d (o - m) i h.2 (omega arith) place less (λ more. let next = ended (omega (arith, more)) in omega (arith, next, on)) in
    record { within = rest.within; cell = ap (cell_at (part_cells p ++ parts_cells ps)) (sym on) ∙ cell_right (part_cells p) (parts_cells ps) (o - m) ∙ rest.cell }

-- the part that has a place
pub found : (ps : List Part) (at k : ℕ) (p : Part) → ArePlaced 0 ps → at < length (parts_cells ps) → HasPlace ps at k → p ≡ get_or ps k p → (p.start ≤ at) × Located ps p at (at - p.start)
found ps at k p h within has is =
    let le : (get_or ps k p).start ≤ at = has.begun p in
    let start : (get_or ps k p).start ≡ p.start = ap (λ (x : Part). x.start) (sym is) in
    let on : (get_or ps k p).start + (at - p.start) ≡ 0 + at = omega (arith, le, start) in
    let same : 0 + at ≡ at = omega arith in
    let ended : suc k < length ps → 0 + at < (get_or ps (suc k) p).start = λ more. subst (λ n. n < (get_or ps (suc k) p).start) (sym same) (has.ended p more) in
    (omega (arith, le, start), subst (λ (x : Part). Located ps x at (at - p.start)) (sym is) (located 0 ps k p at (at - p.start) h has.within on within ended))

-- One part changes

pub placed_set : (n : ℕ) (ps : List Part) (k : ℕ) (d x : Part) → ArePlaced n ps → k < length ps → x.start ≡ (get_or ps k d).start → length (part_cells x) ≡ length (part_cells (get_or ps k d)) → ArePlaced n (slice_set ps k x)
placed_set n [] k d x h lt start size = absurd (omega arith)
placed_set n (p ∷ ps) zero d x h lt start size =
    (start ∙ h.0, omega (arith, size, h.1), subst (λ m. ArePlaced (n + m) ps) (sym size) h.2)
placed_set n (p ∷ ps) (suc k) d x h lt start size = (h.0, h.1, placed_set (n + length (part_cells p)) ps k d x h.2 (omega arith) start size)

pub cells_set : (n : ℕ) (ps : List Part) (k : ℕ) (d x : Part) (o i : ℕ) (c : CodedCell) → ArePlaced n ps → k < length ps → (get_or ps k d).start + i ≡ n + o → i < length (part_cells (get_or ps k d)) → part_cells x ≡ with_cell_at (part_cells (get_or ps k d)) i c → parts_cells (slice_set ps k x) ≡ with_cell_at (parts_cells ps) o c
cells_set n [] k d x o i c h lt at within is = absurd (omega arith)
cells_set n (p ∷ ps) zero d x o i c h lt at within is =
    let same : i ≡ o = omega (arith, at, h.0) in
    ap (λ (s : CodedStore). s ++ parts_cells ps) is ∙ sym (with_left (part_cells p) (parts_cells ps) i c within) ∙ ap (λ m. with_cell_at (part_cells p ++ parts_cells ps) m c) same
cells_set n (p ∷ ps) (suc k) d x o i c h lt at within is =
    let m = length (part_cells p) in
    let above : n + m ≤ (get_or ps k d).start = starts_above (n + m) ps k d h.2 (omega arith) in
    let on : m + (o - m) ≡ o = omega (arith, at, above) in
    let place : (get_or ps k d).start + i ≡ n + m + (o - m) = omega (arith, at, on) in
    ap (λ (s : CodedStore). part_cells p ++ s) (cells_set (n + m) ps k d x (o - m) i c h.2 (omega arith) place within is)
    ∙ sym (with_right (part_cells p) (parts_cells ps) (o - m) c) ∙ ap (λ q. with_cell_at (part_cells p ++ parts_cells ps) q c) on

-- One part more, or less

pub placed_push : (n : ℕ) (ps : List Part) (x : Part) → ArePlaced n ps → x.start ≡ n + length (parts_cells ps) → 0 < length (part_cells x) → ArePlaced n (ps ++ x ∷ [])
placed_push n [] x h start some = let e : n + 0 ≡ n = omega arith in (start ∙ e, some, tt)
placed_push n (p ∷ ps) x h start some =
    let both : length (part_cells p ++ parts_cells ps) ≡ length (part_cells p) + length (parts_cells ps) = length-append (part_cells p) (parts_cells ps) in
    (h.0, h.1, placed_push (n + length (part_cells p)) ps x h.2 (omega (arith, start, both)) some)

pub cells_push : (ps : List Part) (x : Part) → parts_cells (ps ++ x ∷ []) ≡ parts_cells ps ++ part_cells x
cells_push [] x = append-nil (part_cells x)
cells_push (p ∷ ps) x = ap (λ (s : CodedStore). part_cells p ++ s) (cells_push ps x) ∙ sym (append_assoc (part_cells p) (parts_cells ps) (part_cells x))

pub placed_front : (n : ℕ) (ps : List Part) (x : Part) → ArePlaced n (ps ++ x ∷ []) → ArePlaced n ps
placed_front n [] x h = tt
placed_front n (p ∷ ps) x h = (h.0, h.1, placed_front (n + length (part_cells p)) ps x h.2)

pub placed_last : (n : ℕ) (ps : List Part) (x : Part) → ArePlaced n (ps ++ x ∷ []) → (x.start ≡ n + length (parts_cells ps)) × (0 < length (part_cells x))
placed_last n [] x h = let e : n ≡ n + 0 = omega arith in (h.0 ∙ e, h.1)
placed_last n (p ∷ ps) x h =
    let both : length (part_cells p ++ parts_cells ps) ≡ length (part_cells p) + length (parts_cells ps) = length-append (part_cells p) (parts_cells ps) in
    let rest = placed_last (n + length (part_cells p)) ps x h.2 in
    (omega (arith, rest.0, both), rest.1)

pub any_part : (ps : List Part) (k : ℕ) (d e : Part) → k < length ps → get_or ps k d ≡ get_or ps k e
any_part [] k d e lt = absurd (omega arith)
any_part (p ∷ ps) zero d e lt = refl
any_part (p ∷ ps) (suc k) d e lt = any_part ps k d e (omega arith)

pub first_part : (ps : List Part) → ArePlaced 0 ps → 0 < length (parts_cells ps) → (0 < length ps) × ((d : Part) → (get_or ps 0 d).start ≡ 0)
first_part [] h some = absurd (omega arith)
first_part (p ∷ ps) h some = (omega arith, λ d. h.0)

-- The newest cells behind those of the parts

pub whole_length : (t s : CodedStore) (first : ℕ) → first ≡ length t → length (t ++ s) ≡ first + length s
whole_length t s first e = omega (arith, e, length-append t s)

pub cell_before : (t s : CodedStore) (first at : ℕ) → first ≡ length t → at < first → cell_at (t ++ s) at ≡ cell_at t at
cell_before t s first at e lt = cell_left t s at (omega (arith, e, lt))

pub cell_behind : (t s : CodedStore) (first at : ℕ) → first ≡ length t → first ≤ at → cell_at (t ++ s) at ≡ cell_at s (at - first)
cell_behind t s first at e le = let on : length t + (at - first) ≡ at = omega (arith, e, le) in ap (cell_at (t ++ s)) (sym on) ∙ cell_right t s (at - first)

pub with_before : (t s : CodedStore) (first at : ℕ) (c : CodedCell) → first ≡ length t → at < first → with_cell_at (t ++ s) at c ≡ with_cell_at t at c ++ s
with_before t s first at c e lt = with_left t s at c (omega (arith, e, lt))

pub with_behind : (t s : CodedStore) (first at : ℕ) (c : CodedCell) → first ≡ length t → first ≤ at → with_cell_at (t ++ s) at c ≡ t ++ with_cell_at s (at - first) c
with_behind t s first at c e le = let on : length t + (at - first) ≡ at = omega (arith, e, le) in ap (λ n. with_cell_at (t ++ s) n c) (sym on) ∙ with_right t s (at - first) c

pub set_before : (t s : CodedStore) (first at i n : ℕ) → first ≡ length t → at < first → with_cell_at t at (with_place_at i n (cell_at t at)) ++ s ≡ with_cell_at (t ++ s) at (with_place_at i n (cell_at (t ++ s) at))
set_before t s first at i n e lt =
    sym (with_before t s first at (with_place_at i n (cell_at t at)) e lt) ∙ ap (λ (x : CodedCell). with_cell_at (t ++ s) at (with_place_at i n x)) (sym (cell_before t s first at e lt))

pub set_behind : (t s : CodedStore) (first at i n : ℕ) → first ≡ length t → first ≤ at → t ++ with_cell_at s (at - first) (with_place_at i n (cell_at s (at - first))) ≡ with_cell_at (t ++ s) at (with_place_at i n (cell_at (t ++ s) at))
set_behind t s first at i n e le =
    sym (with_behind t s first at (with_place_at i n (cell_at s (at - first))) e le) ∙ ap (λ (x : CodedCell). with_cell_at (t ++ s) at (with_place_at i n x)) (sym (cell_behind t s first at e le))

-- A place that is set changes no cell but one

pub same_cell : (s : CodedStore) (p : ℕ) → with_cell_at s p (cell_at s p) ≡ s
same_cell [] p = refl
same_cell (c ∷ s) zero = refl
same_cell (c ∷ s) (suc p) = ap (λ (t : CodedStore). c ∷ t) (same_cell s p)

-- a cell behind the newest ones
pub pushed : (t s now : CodedStore) (x : CodedCell) → now ≡ s ++ x ∷ [] → t ++ now ≡ (t ++ s) ++ x ∷ []
pushed t s now x e = ap (λ (u : CodedStore). t ++ u) e ∙ sym (append_assoc t s (x ∷ []))

pub stayed : (c : CodedCell) → moved_coded (move_of moves.Stay) c ≡ c
stayed (Number n) = refl
stayed (Object k ns) = ap (Object k) (all_stay ns)
stayed (Group ns) = ap Group (all_stay ns)
stayed (Reference a) = refl
stayed (Future f) = refl

-- one part in the place of another as long, which begins where that does
pub placed_again : (ps : List Part) (k : ℕ) (d x : Part) → ArePlaced 0 ps → k < length ps → d ≡ get_or ps k d → x.start ≡ d.start → length (part_cells x) ≡ length (part_cells d) → ArePlaced 0 (slice_set ps k x)
placed_again ps k d x h lt is start size =
    placed_set 0 ps k d x h lt (start ∙ ap (λ (y : Part). y.start) is) (size ∙ ap (λ (y : Part). length (part_cells y)) is)

pub cells_again : (ps : List Part) (at k : ℕ) (d x : Part) (c : CodedCell) → ArePlaced 0 ps → at < length (parts_cells ps) → HasPlace ps at k → d ≡ get_or ps k d → part_cells x ≡ with_cell_at (part_cells d) (at - d.start) c → parts_cells (slice_set ps k x) ≡ with_cell_at (parts_cells ps) at c
cells_again ps at k d x c h within has is changed =
    let there = found ps at k d h within has is in
    let start : (get_or ps k d).start ≡ d.start = ap (λ (y : Part). y.start) (sym is) in
    let on : (get_or ps k d).start + (at - d.start) ≡ 0 + at = omega (arith, start, there.0) in
    let less : at - d.start < length (part_cells (get_or ps k d)) = subst (λ (y : Part). at - d.start < length (part_cells y)) is there.1.within in
    cells_set 0 ps k d x at (at - d.start) c h has.within on less (changed ∙ ap (λ (y : Part). with_cell_at (part_cells y) (at - d.start) c) is)

pub cells_same : (ps : List Part) (k : ℕ) (d x : Part) → k < length ps → d ≡ get_or ps k d → part_cells x ≡ part_cells d → parts_cells (slice_set ps k x) ≡ parts_cells ps
cells_same [] k d x lt is e = absurd (omega arith)
cells_same (p ∷ ps) zero d x lt is e = ap (λ (s : CodedStore). s ++ parts_cells ps) (e ∙ ap part_cells is)
cells_same (p ∷ ps) (suc k) d x lt is e = ap (λ (s : CodedStore). part_cells p ++ s) (cells_same ps k d x (omega arith) is e)

-- the last part with a cell less, or not at all
pub less : (ps : List Part) (x y : Part) → 0 < length (part_cells x) → part_cells y ≡ but_last (part_cells x) → parts_cells (ps ++ y ∷ []) ≡ but_last (parts_cells (ps ++ x ∷ []))
less ps x y some e =
    cells_push ps y ∙ ap (λ (s : CodedStore). parts_cells ps ++ s) e ∙ sym (but_last_right (parts_cells ps) (part_cells x) some) ∙ ap but_last (sym (cells_push ps x))

pub none_left : (ps : List Part) (x y : Part) → 0 < length (part_cells x) → part_cells y ≡ but_last (part_cells x) → length (part_cells y) ≡ 0 → parts_cells ps ≡ but_last (parts_cells (ps ++ x ∷ []))
none_left ps x y some e none =
    sym (append-nil (parts_cells ps)) ∙ ap (λ (s : CodedStore). parts_cells ps ++ s) (sym (empty (part_cells y) none)) ∙ sym (cells_push ps y) ∙ less ps x y some e
  where
    empty : (s : CodedStore) → length s ≡ 0 → s ≡ []
    empty [] e = refl
    empty (c ∷ s) e = absurd (omega arith)

take_all : (s : CodedStore) → take (length s) s ≡ s
take_all [] = refl
take_all (c ∷ s) = ap (λ (t : CodedStore). c ∷ t) (take_all s)

-- a copy of the first so many cells, with one more, and of all
pub copied_more : (s now next : CodedStore) (at : ℕ) (x : CodedCell) → at < length s → now ≡ take at s → x ≡ cell_at s at → next ≡ now ++ moved_coded (move_of moves.Stay) x ∷ [] → next ≡ take (at + 1) s
copied_more s now next at x lt so_far is push =
    push ∙ (λ i. so_far i ++ (stayed x ∙ is) i ∷ []) ∙ sym (take_cell s at lt)

pub copied_all : (s now : CodedStore) (at : ℕ) → at ≡ length s → now ≡ take at s → now ≡ s
copied_all s now at e so_far = so_far ∙ ap (λ n. take n s) e ∙ take_all s

-- the same part, read twice
pub same_part : (ps : List Part) (k : ℕ) (d e : Part) → k < length ps → d ≡ get_or ps k d → e ≡ get_or ps k e → d ≡ e
same_part ps k d e lt is again = is ∙ any_part ps k d e lt ∙ sym again

-- a place of an object set in the part that has it
pub set_again : (ps : List Part) (at k i to : ℕ) (e d x : Part) → ArePlaced 0 ps → at < length (parts_cells ps) → HasPlace ps at k → e ≡ get_or ps k e → d ≡ get_or ps k d
    → part_cells x ≡ with_cell_at (part_cells d) (at - e.start) (with_place_at i to (cell_at (part_cells d) (at - e.start))) → parts_cells (slice_set ps k x) ≡ with_cell_at (parts_cells ps) at (with_place_at i to (cell_at (parts_cells ps) at))
set_again ps at k i to e d x h within has read is changed =
    let same : e ≡ d = same_part ps k e d has.within read is in
    let there = found ps at k d h within has is in
    let now = subst (λ (y : Part). part_cells x ≡ with_cell_at (part_cells d) (at - y.start) (with_place_at i to (cell_at (part_cells d) (at - y.start)))) same changed in
    cells_again ps at k d x (with_place_at i to (cell_at (part_cells d) (at - d.start))) h within has is now
    ∙ ap (λ (y : CodedCell). with_cell_at (parts_cells ps) at (with_place_at i to y)) (sym there.1.cell)

-- a cell put into the part that has its place
pub put_again : (ps : List Part) (at k : ℕ) (e d x : Part) (c : CodedCell) → ArePlaced 0 ps → at < length (parts_cells ps) → HasPlace ps at k → e ≡ get_or ps k e → d ≡ get_or ps k d
    → part_cells x ≡ with_cell_at (part_cells d) (at - e.start) c → parts_cells (slice_set ps k x) ≡ with_cell_at (parts_cells ps) at c
put_again ps at k e d x c h within has read is changed =
    let same : e ≡ d = same_part ps k e d has.within read is in
    cells_again ps at k d x c h within has is (subst (λ (y : Part). part_cells x ≡ with_cell_at (part_cells d) (at - y.start) c) same changed)

-- the cell that a part has at a place
pub cell_there : (ps : List Part) (at k : ℕ) (e d : Part) → ArePlaced 0 ps → at < length (parts_cells ps) → HasPlace ps at k → e ≡ get_or ps k e → d ≡ get_or ps k d → (at - e.start < length (part_cells d)) × (cell_at (part_cells d) (at - e.start) ≡ cell_at (parts_cells ps) at)
cell_there ps at k e d h within has read is =
    let same : e ≡ d = same_part ps k e d has.within read is in
    let there = found ps at k d h within has is in (
      subst (λ (y : Part). at - y.start < length (part_cells d)) (sym same) there.1.within,
      ap (λ (y : Part). cell_at (part_cells d) (at - y.start)) same ∙ sym there.1.cell,
    )

-- What is so where a test is answered

pub when_true : (b : Bool) {P Q : Type 0} → (P → Q) → OnTrue b P → OnTrue b Q
when_true true f h = f h
when_true false f h = tt

pub when_false : (b : Bool) {P Q : Type 0} → (P → Q) → OnFalse b P → OnFalse b Q
when_false true f h = tt
when_false false f h = f h

-- a part behind the others takes the newest cells in
pub joined : (ps now : List Part) (x : Part) (t s u new : CodedStore) → now ≡ ps ++ x ∷ [] → part_cells x ≡ s ++ u → new ≡ [] → parts_cells ps ≡ t → parts_cells now ++ new ≡ (t ++ s) ++ u
joined ps now x t s u new is cells none before =
    ap (λ (v : CodedStore). parts_cells now ++ v) none ∙ append-nil (parts_cells now) ∙ ap parts_cells is ∙ cells_push ps x
    ∙ (λ i. before i ++ cells i) ∙ sym (append_assoc t s u)

-- it begins no later than the place
pub part_begun : (ps : List Part) (at k : ℕ) (e : Part) → HasPlace ps at k → e ≡ get_or ps k e → e.start ≤ at
part_begun ps at k e has is = let begun : (get_or ps k e).start ≤ at = has.begun e in subst (λ (x : Part). x.start ≤ at) (sym is) begun
