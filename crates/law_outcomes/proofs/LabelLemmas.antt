-- The objects that a program with printable labels reaches have printable labels.
use Rattle.std.specs.Prelude.{◌≡◌, ◌&&◌, Bool, true, T, cond, List, [], ◌∷◌, Some, None}
use Rattle.std.specs.List.{list_all}
use Rattle.std.specs.FinMap.{find, is_sorted}
use Rattle.std.specs.FinMap.Entries.{below_all, find_tied}
use Rattle.std.specs.Ordering.{is_eq, is_lt}
use Rattle.std.specs.declared.cmp.Ordering.{Ordering}
use Rattle.std.specs.declared.cmp.Ordering.TheVariants.{Less, Equal, Greater}
use Rattle.std.specs.Cmp.{IsTotalOrder, tied_itself}
use Rattle.std.proofs.Common.{refl, sym, ap, ◌∙◌}
use Rattle.std.proofs.lemmas.Bool.{and_parts, and_from}
use Rattle.std.proofs.lemmas.List.Folds.{list_all-map}
use Rattle.asp_model.specs.Names.{Name, FutureShape, name_cmp, future_cmp}
use Rattle.asp_model.specs.Store.{MethodShape, Field, CellShape, Number, Object, Reference, Future, Group}
use Rattle.asp_model.specs.Parcel.{ParcelShape}
use Rattle.asp_model.specs.Configuration.{Activity}
use Rattle.asp_model.specs.WellFormed.{is_printable}
use Rattle.def_paths.specs.Outcomes.{EndShape, end_of}
use Rattle.law_reports.specs.Depths.{has_printable_labels}
use Rattle.law_steps.specs.Linked.{Each}
use Rattle.law_steps.proofs.NameLemmas.{name_total}
use Rattle.law_chases.proofs.FutureLemmas.{future_total, no_some}
use Rattle.law_steps.proofs.EntryLemmas.{first_of_both, second_of_both}
use Rattle.law_steps.proofs.NamesLaws.{entries_ascend}
use Rattle.law_outcomes.specs.Heads.{LabelHas, MethodHas, EachHead, CellHas, HasEverywhere, Passes}
use Rattle.law_outcomes.specs.Texts.{has_printable_text, LabelsArePrintable}
use Rattle.law_outcomes.proofs.HeadLaws.{printable_written, reached_have}

-- Entries of maps in ascending order

lt_is : (r : Ordering) → T (is_lt r) → r ≡ Less
lt_is Less h = refl
lt_is Equal h = absurd h
lt_is Greater h = absurd h

module _ {K X : Type 0} (R : K → K → Ordering) where
  below_none : (k : K) (es : List (K × X)) → T (below_all R k es) → find R k es ≡ None
  below_none k [] h = refl
  below_none k (e ∷ es) h = ap (λ r. cond (is_eq r) (Some e.1) (find R k es)) (lt_is (R k e.0) (first_of_both _ _ h)) ∙ below_none k es (second_of_both _ _ h)

  module _ (o : IsTotalOrder R) where
    -- what is found behind the first entry is found
    later_found : (e : K × X) (es : List (K × X)) → T (below_all R e.0 es) → (k : K) (v : X) → find R k es ≡ Some v → find R k (e ∷ es) ≡ Some v
    later_found e es h k v is = elim (R k e.0) as (λ r. R k e.0 ≡ r → cond (is_eq r) (Some e.1) (find R k es) ≡ Some v) [
      | Less ↦ λ p. is
      | Equal ↦ λ p. no_some (sym (below_none e.0 es h) ∙ find_tied R o k e.0 p es ∙ is)
      | Greater ↦ λ p. is
    ] refl

    -- all entries pass what those pass that are found
    all_found : (p : K × X → Bool) (es : List (K × X)) → T (is_sorted R es) → ((x : K × X) → find R x.0 es ≡ Some x.1 → p x ≡ true) → list_all p es ≡ true
    all_found p [] s h = refl
    all_found p (e ∷ es) s h = and_from _ _
        (h e (ap (λ r. cond (is_eq r) (Some e.1) (find R e.0 es)) (tied_itself o e.0)))
        (all_found p es (second_of_both _ _ s) (λ x is. h x (later_found e es (first_of_both _ _ s) x.0 x.1 is)))

-- Cells

abbrev Printable : CellShape → Type 0
Printable = CellHas (Passes has_printable_text)

fields_printable : (fs : List Field) → Each (λ x. LabelHas (Passes has_printable_text) x.label) fs → list_all (λ x. list_all is_printable x.label) fs ≡ true
fields_printable [] h = refl
fields_printable (f ∷ fs) h = and_from _ _ (and_parts (list_all is_printable f.label) true (and_parts (list_all is_printable f.label && true) true h.0).0).0 (fields_printable fs h.1)

methods_printable : (ms : List MethodShape) → Each (λ m. MethodHas (Passes has_printable_text) m.head × EachHead (Passes has_printable_text) m.body) ms → list_all (λ m. list_all is_printable m.head.label) ms ≡ true
methods_printable [] h = refl
methods_printable (m ∷ ms) h = and_from _ _ (and_parts (list_all is_printable m.head.label) true h.0.0).0 (methods_printable ms h.1)

cell_printable : (c : CellShape) → Printable c → has_printable_labels c ≡ true
cell_printable (Object fields methods) h = and_from _ _ (fields_printable fields h.0) (methods_printable methods h.1)
cell_printable (Number z) h = refl
cell_printable (Reference n) h = refl
cell_printable (Future f) h = refl
cell_printable (Group ns) h = refl

cells_printable : (cs : List CellShape) → Each Printable cs → list_all has_printable_labels cs ≡ true
cells_printable [] h = refl
cells_printable (c ∷ cs) h = and_from _ _ (cell_printable c h.0) (cells_printable cs h.1)

pub labels_are_printable : LabelsArePrintable
labels_are_printable program c texts reached =
    let everywhere : HasEverywhere (Passes has_printable_text) c = reached_have has_printable_text program c printable_written texts reached in
    let ordered = entries_ascend program c reached in
    record {
      stores = list_all-map (λ (e : EndShape). list_all has_printable_labels e.snapshot.store) (end_of c) c.activities
          ∙ all_found name_cmp name_total (λ (x : Name × Activity). list_all has_printable_labels x.1.store) c.activities ordered.activities
          (λ x is. cells_printable x.1.store (everywhere.activities x.0 x.1 is).store);
      values = all_found future_cmp future_total (λ (x : FutureShape × ParcelShape). list_all has_printable_labels x.1.cells) c.futures ordered.futures
          (λ x is. cells_printable x.1.cells (everywhere.values x.0 x.1 is));
    }
