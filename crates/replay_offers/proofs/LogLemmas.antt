-- Logs that are cut or lengthened, as they are found.
use Rattle.std.proofs.Common.{◌≡◌, ◌≢◌, ℕ, Bool, true, false, T, List, [], ◌∷◌, ◌++◌, map, take, Option, Some, None, refl, sym, ap, subst, ◌∙◌, ⊎_elim}
use Rattle.std.specs.Prelude.{cond, option_map, ◌&&◌}
use Rattle.std.specs.FinMap.{find, is_sorted}
use Rattle.std.specs.FinMap.Entries.{below_all, is_sorted-put, same_entries}
use Rattle.std.specs.Ordering.{eq_by_cmp, is_lt}
use Rattle.asp_model.specs.Names.{Name, name_cmp}
use Rattle.asp_model.specs.Configuration.{ReceptionShape, or_none}
use Rattle.asp_model.specs.Step.{ListsShape}
use Rattle.asp_model.specs.Replay.{log_in}
use Rattle.law_chases.proofs.MapLemmas.{find_other, find_same}
use Rattle.law_steps.proofs.NameLemmas.{name_case, name_itself, name_same, name_total, names_apart, names_tied}
use Rattle.law_families.specs.Families.{cut_lists}
use Rattle.replay_offers.specs.Logs.{each_cut, each_entered, log_cut, log_entered}

abbrev Log : Type 0
Log = List ReceptionShape

abbrev each : (Name → Log → Log) → ListsShape → ListsShape
each f = map (λ x. (x.0, f x.0 x.1))

-- what is found where each log is changed
found_each : (f : Name → Log → Log) (q : Name) (rows : ListsShape) → find name_cmp q (each f rows) ≡ option_map (f q) (find name_cmp q rows)
found_each f q [] = refl
found_each f q (x ∷ rows) = elim (eq_by_cmp name_cmp q x.0) as (λ b. eq_by_cmp name_cmp q x.0 ≡ b → cond b (Some (f x.0 x.1)) (find name_cmp q (each f rows)) ≡ option_map (f q) (cond b (Some x.1) (find name_cmp q rows))) [
  | true ↦ λ h. ap (λ (n : Name). Some (f n x.1)) (sym (names_tied q x.0 h))
  | false ↦ λ h. found_each f q rows
] refl

below_each : (f : Name → Log → Log) (n : Name) (rows : ListsShape) → below_all name_cmp n (each f rows) ≡ below_all name_cmp n rows
below_each f n [] = refl
below_each f n (x ∷ rows) = ap (λ (b : Bool). is_lt (name_cmp n x.0) && b) (below_each f n rows)

sorted_each : (f : Name → Log → Log) (rows : ListsShape) → is_sorted name_cmp (each f rows) ≡ is_sorted name_cmp rows
sorted_each f [] = refl
sorted_each f (x ∷ rows) = (λ i. below_each f x.0 rows i && sorted_each f rows i)

-- a log that is cut is put in its place
pub cut_is : (lists : ListsShape) (q : Name) (k : ℕ) (log : Log) → T (is_sorted name_cmp lists) → find name_cmp q lists ≡ Some log → cut_lists lists q k ≡ each_cut q k lists
cut_is lists q k log sorted there =
    let own : log_in lists q ≡ log = ap or_none there in
    same_entries name_cmp name_total name_same (cut_lists lists q k) (each_cut q k lists)
    (is_sorted-put name_cmp name_total q (take k (log_in lists q)) lists sorted)
    (subst T (sym (sorted_each (log_cut q k) lists)) sorted)
    (λ m. ⊎_elim
    (λ (e : m ≡ q).
    ap (λ (n : Name). find name_cmp n (cut_lists lists q k)) e ∙ find_same name_cmp name_total name_same q (take k (log_in lists q)) lists
    ∙ ap (λ (l : Log). Some (take k l)) own
    ∙ ap (λ (b : Bool). Some (cond b (take k log) log)) (sym (name_itself q))
    ∙ ap (option_map (log_cut q k q)) (sym there)
    ∙ sym (found_each (log_cut q k) q lists) ∙ ap (λ (n : Name). find name_cmp n (each_cut q k lists)) (sym e))
    (λ (d : m ≢ q).
    find_other name_cmp name_total name_same m q (take k (log_in lists q)) lists d
    ∙ sym (same_where m (find name_cmp m lists) d) ∙ sym (found_each (log_cut q k) m lists))
    (name_case m q))
  where
    same_where : (m : Name) (o : Option Log) → m ≢ q → option_map (log_cut q k m) o ≡ o
    same_where m None d = refl
    same_where m (Some l) d = ap (λ (b : Bool). Some (cond b (take k l) l)) (names_apart q m (λ e. d (sym e)))

-- a log with an entry more, and the others

pub entered_here : (lists : ListsShape) (q : Name) (entry : ReceptionShape) (log : Log) → find name_cmp q lists ≡ Some log → log_in (each_entered q entry lists) q ≡ log_in lists q ++ entry ∷ []
entered_here lists q entry log there =
    ap or_none (found_each (log_entered q entry) q lists ∙ ap (option_map (log_entered q entry q)) there)
    ∙ ap (λ (b : Bool). cond b (log ++ entry ∷ []) log) (name_itself q)
    ∙ ap (λ (o : Option Log). or_none o ++ entry ∷ []) (sym there)

pub entered_others : (lists : ListsShape) (q m : Name) (entry : ReceptionShape) → m ≢ q → log_in (each_entered q entry lists) m ≡ log_in lists m
entered_others lists q m entry d = ap or_none (found_each (log_entered q entry) m lists ∙ by (find name_cmp m lists))
  where
    by : (o : Option Log) → option_map (log_entered q entry m) o ≡ o
    by None = refl
    by (Some l) = ap (λ (b : Bool). Some (cond b (l ++ entry ∷ []) l)) (names_apart q m (λ e. d (sym e)))
