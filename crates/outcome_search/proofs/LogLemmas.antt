-- Logs of a run as rows, and the logs that begin with others.
use Rattle.std.specs.Prelude.{◌≡◌, ◌<◌, ◌≤◌, ◌+◌, ℕ, zero, suc, true, List, [], ◌∷◌, ◌++◌, None, Some, cond, length, map, take}
use Rattle.std.proofs.Common.{refl, sym, ap, subst, ◌∙◌, arith, inl, inr, ⊎_elim, ◌⊎◌, slice_index_or}
use Rattle.std.proofs.lemmas.List.{map-append, take_more}
use Rattle.std.specs.FinMap.{find}
use Rattle.std.specs.Global.{Vec}
use Rattle.std.specs.List.{starts_with}
use Rattle.asp_model.specs.Names.{Name, name_cmp}
use Rattle.asp_model.specs.Configuration.{ReceptionShape, or_none}
use Rattle.asp_model.specs.Step.{ListsShape, same_reception}
use Rattle.asp_model.specs.Replay.{log_in}
use Rattle.asp_model.specs.Shapes.{reception_shape}
use Rattle.asp_model.specs.declared.outcome.Reception.{Reception}
use Rattle.law_steps.proofs.NameLemmas.{name_case, names_apart}
use Rattle.law_families.specs.Families.{AreBeginnings}

-- a row of logs: an activity and its log
abbrev pub row : Name × Vec Reception → Name × List ReceptionShape
row x = (x.0, map reception_shape x.1.items)

-- the first rows with one more
pub rows_more : (rows : List (Name × Vec Reception)) (k : ℕ) (l : Name × Vec Reception) → k < length rows → l ≡ slice_index_or rows k l → map row (take (k + 1) rows) ≡ map row (take k rows) ++ row l ∷ []
rows_more rows k l lt is = ap (map row) (take_more rows k l lt ∙ ap (λ z. take k rows ++ z ∷ []) (sym is)) ∙ map-append row (take k rows) (l ∷ [])

-- the log of each of these activities begins with its other log
abbrev pub HaveBegun : (lists others rows : ListsShape) → Type 0
HaveBegun lists others [] = Unit {0}
HaveBegun lists others (x ∷ xs) = (starts_with same_reception (log_in lists x.0) (log_in others x.0) ≡ true) × HaveBegun lists others xs

begun_more : (lists others xs ys : ListsShape) → HaveBegun lists others xs → HaveBegun lists others ys → HaveBegun lists others (xs ++ ys)
begun_more lists others [] ys h k = k
begun_more lists others (x ∷ xs) ys h k = (h.0, begun_more lists others xs ys h.1 k)

none_begins : (xs : List ReceptionShape) → starts_with same_reception xs [] ≡ true
none_begins [] = refl
none_begins (x ∷ xs) = refl

begun_at : (lists others rows : ListsShape) → HaveBegun lists others rows → (m : Name) → (starts_with same_reception (log_in lists m) (log_in others m) ≡ true) ⊎ (find name_cmp m rows ≡ None)
begun_at lists others [] h m = inr refl
begun_at lists others (x ∷ xs) h m = ⊎_elim
    (λ p. inl (subst (λ k. starts_with same_reception (log_in lists k) (log_in others k) ≡ true) (sym p) h.0))
    (λ apart. ⊎_elim (λ y. inl y) (λ none. inr (ap (λ b. cond b (Some x.1) (find name_cmp m xs)) (names_apart m x.0 apart) ∙ none)) (begun_at lists others xs h.1 m))
    (name_case m x.0)

begun_all : (lists others : ListsShape) → HaveBegun lists others others → AreBeginnings others lists
begun_all lists others h m = ⊎_elim
    (λ y. y)
    (λ none. ap (λ o. starts_with same_reception (log_in lists m) (or_none o)) none ∙ none_begins (log_in lists m))
    (begun_at lists others others h m)

pub beginning : (lists others : ListsShape) (rows : List (Name × Vec Reception)) (k : ℕ) (l : Name × Vec Reception) → k < length rows → l ≡ slice_index_or rows k l → HaveBegun lists others (map row (take k rows)) → starts_with same_reception (log_in lists l.0) (log_in others l.0) ≡ true → HaveBegun lists others (map row (take (k + 1) rows))
beginning lists others rows k l lt is h s = subst (HaveBegun lists others) (sym (rows_more rows k l lt is)) (begun_more lists others (map row (take k rows)) (row l ∷ []) h (s, tt))

begun_whole : (lists others : ListsShape) (rows : List (Name × Vec Reception)) (k : ℕ) → length rows ≤ k → HaveBegun lists others (map row (take k rows)) → HaveBegun lists others (map row rows)
begun_whole lists others [] k le h = tt
begun_whole lists others (x ∷ xs) zero le h = absurd (omega (arith, le))
begun_whole lists others (x ∷ xs) (suc k) le h = (h.0, begun_whole lists others xs k (omega (arith, le)) h.1)

pub begun_rows : (lists : ListsShape) (rows : List (Name × Vec Reception)) (k : ℕ) → length rows ≤ k → HaveBegun lists (map row rows) (map row (take k rows)) → AreBeginnings (map row rows) lists
begun_rows lists rows k le h = begun_all lists (map row rows) (begun_whole lists (map row rows) rows k le h)
