-- Cells, parcels, requests and values that fit are known and proper, and no place is past the end.
use Rattle.std.specs.Prelude.{◌≡◌, ℕ, ◌<◌, nat_lt, true, List, [], ◌∷◌, Option, Some, None, is_some, length, map}
use Rattle.std.specs.List.{flat_map}
use Rattle.std.proofs.Common.{refl, sym, ap, ◌∙◌}
use Rattle.std.proofs.lemmas.Bool.{eqb-true, eq-eqb}
use Rattle.std.specs.FinMap.{find}
use Rattle.asp_model.specs.Names.{Name, FutureShape, future_cmp, same_name}
use Rattle.asp_model.specs.Term.{locations}
use Rattle.asp_model.specs.Store.{CellShape, Field, MethodShape, Number, Object, Reference, Future, Group, reached}
use Rattle.asp_model.specs.Parcel.{ParcelShape}
use Rattle.asp_model.specs.Configuration.{RequestShape}
use Rattle.law_chases.proofs.FutureLemmas.{no_some, some_is, none_true}
use Rattle.law_steps.specs.Linked.{Each}
use Rattle.law_steps.specs.Closed.{AreBelow, CellsBelow}
use Rattle.law_steps.proofs.EachLemmas.{each_both, each_first, each_second}
use Rattle.law_steps.proofs.NameLemmas.{names_tied, name_itself}
use Rattle.law_programs.specs.Proper.{are_single, IsProperMethod, IsProperCell, BeginsWithRoot}
use Rattle.law_frozen.specs.Frozen.{FrozenShape}
use Rattle.law_checkpoints.specs.Lookups.{HasHome}
use Rattle.law_checkpoints.specs.Sound.{IsKnownIn, IsSoundParcel, IsSoundRequest, IsSoundValue}
use Rattle.proper_terms.specs.Fits.{is_single, method_fits}
use Rattle.proper_terms.proofs.FitLemmas.{fitting_method_is_proper, single_is_single}
use Rattle.checkpoint_checks.specs.Cells.{are_below, cell_fits, cells_fit, has_one_root, is_at, parcel_fits, request_fits, root_fits, value_fits}
use Rattle.checkpoint_checks.proofs.SameLemmas.{Same, same_as, same_at, same_both, same_each, same_itself, same_lt}
use Rattle.checkpoint_checks.proofs.CallLemmas.{first_in}
use Rattle.checkpoint_checks.proofs.HomeLemmas.{home_at}

pub same_below : (k : ℕ) (ns : List ℕ) → Same (are_below k ns) (AreBelow k ns)
same_below k ns = same_each (λ i. nat_lt i k) (λ i. i < k) (λ i. same_lt i k) ns

-- Methods

abbrev IsMethod : ℕ → MethodShape → Type 0
IsMethod k m = IsProperMethod m × AreBelow k (locations m.body)

same_method : (k : ℕ) (m : MethodShape) → Same (method_fits k m) (IsMethod k m)
same_method k m = let r = fitting_method_is_proper k m in record { to = r.0; of = r.1 }

methods_to : (k : ℕ) (ms : List MethodShape) → Each (IsMethod k) ms → Each IsProperMethod ms × AreBelow k (flat_map (λ m. locations m.body) ms)
methods_to k [] h = (tt, tt)
methods_to k (m ∷ ms) h =
    let r = methods_to k ms h.1 in
    ((h.0.0, r.0), each_both (λ i. i < k) (locations m.body) (flat_map (λ x. locations x.body) ms) h.0.1 r.1)

methods_of : (k : ℕ) (ms : List MethodShape) → Each IsProperMethod ms → AreBelow k (flat_map (λ m. locations m.body) ms) → Each (IsMethod k) ms
methods_of k [] h b = tt
methods_of k (m ∷ ms) h b = (
  (h.0, each_first (λ i. i < k) (locations m.body) (flat_map (λ x. locations x.body) ms) b),
  methods_of k ms h.1 (each_second (λ i. i < k) (locations m.body) (flat_map (λ x. locations x.body) ms) b),
)

-- Cells

module _ (f : FrozenShape) where
  pub record IsSoundCell (k : ℕ) (c : CellShape) : Type 0 where
    pub below : AreBelow k (reached c)
    pub proper : IsProperCell c
    pub known : IsKnownIn f c

  same_object : (k : ℕ) (fields : List Field) (methods : List MethodShape) → Same (cell_fits (first_in f.activities) (home_at f) k (Object fields methods)) (IsSoundCell k (Object fields methods))
  same_object k fields methods =
      let labels = map (λ (x : Field). x.label) fields in
      let heads = map (λ (m : MethodShape). m.head) methods in
      let places = map (λ (x : Field). x.place) fields in
      let single = same_at (is_single labels heads) (are_single labels heads) (are_single labels heads ≡ true) (single_is_single labels heads) (same_itself (are_single labels heads)) in
      let bodies = same_each (method_fits k) (IsMethod k) (same_method k) methods in
      same_as _ _ _ (same_both _ _ _ _ single (same_both _ _ _ _ (same_below k places) bodies))
      (λ h. let r = methods_to k methods h.1.1 in record {
        below = each_both (λ i. i < k) places (flat_map (λ m. locations m.body) methods) h.1.0 r.1;
        proper = (h.0, r.0);
        known = tt;
      })
      (λ s. (s.proper.0, (each_first (λ i. i < k) places (flat_map (λ m. locations m.body) methods) s.below, methods_of k methods s.proper.1 (each_second (λ i. i < k) places (flat_map (λ m. locations m.body) methods) s.below))))

  same_cell : (k : ℕ) (c : CellShape) → Same (cell_fits (first_in f.activities) (home_at f) k c) (IsSoundCell k c)
  same_cell k (Number n) = record { to = λ e. record { below = tt; proper = tt; known = tt }; of = λ s. refl }
  same_cell k (Object fields methods) = same_object k fields methods
  same_cell k (Reference n) = record { to = λ e. record { below = tt; proper = tt; known = e }; of = λ s. s.known }
  same_cell k (Future g) = record { to = λ e. record { below = tt; proper = tt; known = e }; of = λ s. s.known }
  same_cell k (Group ns) = same_as _ _ _ (same_below k ns) (λ b. record { below = b; proper = tt; known = tt }) (λ s. s.below)

  pub record AreSoundCells (k : ℕ) (cs : List CellShape) : Type 0 where
    pub below : CellsBelow k cs
    pub proper : Each IsProperCell cs
    pub known : Each (IsKnownIn f) cs

  cells_to : (k : ℕ) (cs : List CellShape) → Each (IsSoundCell k) cs → AreSoundCells k cs
  cells_to k [] h = record { below = tt; proper = tt; known = tt }
  cells_to k (c ∷ cs) h = let r = cells_to k cs h.1 in record {
    below = (h.0.below, r.below);
    proper = (h.0.proper, r.proper);
    known = (h.0.known, r.known);
  }

  cells_of : (k : ℕ) (cs : List CellShape) → AreSoundCells k cs → Each (IsSoundCell k) cs
  cells_of k [] s = tt
  cells_of k (c ∷ cs) s = (
    record { below = s.below.0; proper = s.proper.0; known = s.known.0 },
    cells_of k cs (record { below = s.below.1; proper = s.proper.1; known = s.known.1 }),
  )

  pub same_cells : (cs : List CellShape) → Same (cells_fit (first_in f.activities) (home_at f) cs) (AreSoundCells (length cs) cs)
  same_cells cs = same_as _ _ _ (same_each (cell_fits (first_in f.activities) (home_at f) (length cs)) (IsSoundCell (length cs)) (same_cell (length cs)) cs) (cells_to (length cs) cs) (cells_of (length cs) cs)

  -- Parcels

  one_of : (k : ℕ) (ns : List ℕ) → ns ≡ k ∷ [] → root_fits ns ≡ true → k ≡ 0
  one_of k [] e h = absurd_list e
    where
      absurd_list : {A : Type 0} → [] ≡ k ∷ [] → A
      absurd_list p = cc
  one_of k (n ∷ []) e h = sym (ap (λ l. elim l [ [] ↦ 0 | x ∷ xs ↦ x ]) e) ∙ eqb-true n 0 h
  one_of k (n ∷ m ∷ ns) e h = longer e
    where
      longer : {A : Type 0} → n ∷ m ∷ ns ≡ k ∷ [] → A
      longer p = cc

  same_root : (p : ParcelShape) → Same (root_fits p.roots) (BeginsWithRoot p)
  same_root p = record { to = λ e k r. one_of k p.roots r e; of = λ h. by p.roots h }
    where
      by : (ns : List ℕ) → ((k : ℕ) → ns ≡ k ∷ [] → k ≡ 0) → root_fits ns ≡ true
      by [] h = refl
      by (n ∷ []) h = eq-eqb n 0 (h n refl)
      by (n ∷ m ∷ ns) h = refl

  pub same_parcel : (p : ParcelShape) → Same (parcel_fits (first_in f.activities) (home_at f) p) (IsSoundParcel f p)
  same_parcel p = same_as _ _ _ (same_both _ _ _ _ (same_cells p.cells) (same_both _ _ _ _ (same_below (length p.cells) p.roots) (same_root p)))
      (λ h. record {
        closed = record { cells = h.0.below; roots = h.1.0 };
        proper = record { cells = h.0.proper; root = h.1.1 };
        known = h.0.known;
      })
      (λ s. (record { below = s.closed.cells; proper = s.proper.cells; known = s.known }, (s.closed.roots, s.proper.root)))

  -- Requests

  pub same_place : (n : Name) (g : FutureShape) → Same (is_at n (home_at f g)) (HasHome f g n)
  same_place n g = by (find future_cmp g f.homes)
    where
      by : (o : Option Name) → Same (is_at n o) (o ≡ Some n)
      by None = record { to = λ e. none_true e; of = λ e. no_some e }
      by (Some m) = record { to = λ e. ap Some (names_tied m n e); of = λ e. ap (same_name m) (sym (some_is e)) ∙ name_itself m }

  same_sender : (r : RequestShape) → Same (same_name r.sender r.future.by) (r.sender ≡ r.future.by)
  same_sender r = record { to = names_tied r.sender r.future.by; of = λ e. ap (same_name r.sender) (sym e) ∙ name_itself r.sender }

  pub same_request : (n : Name) (r : RequestShape) → Same (request_fits (first_in f.activities) (home_at f) n r) (IsSoundRequest f n r)
  same_request n r = same_as _ _ _ (same_both _ _ _ _ (same_place n r.future) (same_both _ _ _ _ (same_sender r) (same_parcel r.arguments)))
      (λ h. record { home = h.0; sender = h.1.0; arguments = h.1.1 })
      (λ s. (s.home, (s.sender, s.arguments)))

  -- Values

  same_one : (ns : List ℕ) → Same (has_one_root ns) (ns ≡ 0 ∷ [])
  same_one [] = record { to = λ e. none_true e; of = λ e. cc }
  same_one (n ∷ []) = record { to = λ e. ap (λ k. k ∷ []) (eqb-true n 0 e); of = λ e. eq-eqb n 0 (ap (λ l. elim l [ [] ↦ 0 | x ∷ xs ↦ x ]) e) }
  same_one (n ∷ m ∷ ns) = record { to = λ e. none_true e; of = λ e. cc }

  pub same_value : (v : FutureShape × ParcelShape) → Same (value_fits (first_in f.activities) (home_at f) v) (IsSoundValue f v.0 v.1)
  same_value v = same_as _ _ _ (same_both _ _ _ _ (same_itself (is_some (home_at f v.0))) (same_both _ _ _ _ (same_one v.1.roots) (same_parcel v.1)))
      (λ h. record { home = h.0; closed = record { closed = h.1.1.closed; root = h.1.0 }; parcel = h.1.1 })
      (λ s. (s.home, (s.closed.root, s.parcel)))
