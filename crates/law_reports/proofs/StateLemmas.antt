-- The lines of a state may stand where outputs do, and have no line feed.
use Rattle.std.proofs.Common.{◌≡◌, ℕ, zero, suc, true, false, List, [], ◌∷◌, ◌++◌, Option, Some, None, length, refl, arith}
use Rattle.std.specs.Prelude.{codes}
use Rattle.std.specs.List.{list_all, flat_map}
use Rattle.std.specs.Fmt.{decimal, signed_decimal}
use Rattle.std.proofs.lemmas.Bool.{and_parts, and_from}
use Rattle.asp_model.specs.Names.{Text}
use Rattle.asp_model.specs.Report.{name_text, future_text}
use Rattle.asp_model.specs.Store.{MethodShape, Field, CellShape, Number, Object, Reference, Future, Group}
use Rattle.asp_model.specs.WellFormed.{is_printable}
use Rattle.def_paths.specs.Places.{Place, In_store, Side, found, children}
use Rattle.def_paths.specs.StateLines.{Path, Shown, is_compound, what_text, state_line, path_of, same_place, with_line, with_place, by_labels, by_numbers, shown_below, show_each, show_place, show_to, show_result, state_shown}
use Rattle.law_reports.specs.Depths.{has_printable_labels}
use Rattle.law_reports.proofs.PartsLemmas.{lacks, lacks-append}
use Rattle.law_reports.proofs.DigitLemmas.{decimal_lacks, signed_lacks_feed}
use Rattle.law_reports.proofs.NameLemmas.{name_lacks, future_lacks}
use Rattle.law_reports.proofs.LineLemmas.{is_plain, printable_lack}

-- Lines

fields_lack : (fs : List Field) → list_all (λ x. list_all is_printable x.label) fs ≡ true → lacks 10 (flat_map (λ x. codes " " ++ x.label) fs) ≡ true
fields_lack [] h = refl
fields_lack (f ∷ fs) h =
    let p = and_parts (list_all is_printable f.label) (list_all (λ x. list_all is_printable x.label) fs) h in
    lacks-append 10 (codes " " ++ f.label) (flat_map (λ x. codes " " ++ x.label) fs) (lacks-append 10 (codes " ") f.label refl (printable_lack f.label p.0)) (fields_lack fs p.1)

methods_lack : (ms : List MethodShape) → list_all (λ m. list_all is_printable m.head.label) ms ≡ true → lacks 10 (flat_map (λ m. codes " " ++ m.head.label) ms) ≡ true
methods_lack [] h = refl
methods_lack (m ∷ ms) h =
    let p = and_parts (list_all is_printable m.head.label) (list_all (λ x. list_all is_printable x.head.label) ms) h in
    lacks-append 10 (codes " " ++ m.head.label) (flat_map (λ x. codes " " ++ x.head.label) ms) (lacks-append 10 (codes " ") m.head.label refl (printable_lack m.head.label p.0)) (methods_lack ms p.1)

what_lacks : (c : CellShape) → has_printable_labels c ≡ true → lacks 10 (what_text c) ≡ true
what_lacks (Number z) h = lacks-append 10 (codes "number ") (signed_decimal z) refl (signed_lacks_feed z)
what_lacks (Reference n) h = lacks-append 10 (codes "ref ") (name_text n) refl (name_lacks 10 (omega arith) n)
what_lacks (Future f) h = lacks-append 10 (codes "future ") (future_text f) refl (future_lacks 10 (omega arith) f)
what_lacks (Group ns) h = lacks-append 10 (codes "group ") (decimal (length ns)) refl (decimal_lacks 10 (length ns) (omega arith))
what_lacks (Object fields methods) h =
    let p = and_parts (list_all (λ x. list_all is_printable x.label) fields) (list_all (λ m. list_all is_printable m.head.label) methods) h in
    let labels : Text = codes "object" ++ flat_map (λ x. codes " " ++ x.label) fields in
    lacks-append 10 (labels ++ codes " ;") (flat_map (λ m. codes " " ++ m.head.label) methods)
    (lacks-append 10 labels (codes " ;") (lacks-append 10 (codes "object") (flat_map (λ x. codes " " ++ x.label) fields) refl (fields_lack fields p.0)) refl)
    (methods_lack methods p.1)

line_plain : (path what : Text) → lacks 10 path ≡ true → lacks 10 what ≡ true → is_plain (state_line path what) ≡ true
line_plain path what h g = and_from _ _ refl (lacks-append 10 (codes ". " ++ path ++ codes " ") what (lacks-append 10 (codes ". " ++ path) (codes " ") (lacks-append 10 (codes ". ") path refl h) refl) g)

-- What is shown

-- each path has no line feed
abbrev Paths : List (Place × Path) → Type 0
Paths [] = Unit {0}
Paths (x ∷ xs) = (lacks 10 x.1 ≡ true) × Paths xs

abbrev Below : List (Path × Place) → Type 0
Below [] = Unit {0}
Below (x ∷ xs) = (lacks 10 x.0 ≡ true) × Below xs

record IsPlain (w : Shown) : Type 0 where
  lines : list_all is_plain w.lines ≡ true
  paths : Paths w.places

plain_more : (ts : List Text) (t : Text) → list_all is_plain ts ≡ true → is_plain t ≡ true → list_all is_plain (ts ++ t ∷ []) ≡ true
plain_more [] t h g = and_from _ _ g refl
plain_more (x ∷ xs) t h g = let p = and_parts (is_plain x) (list_all is_plain xs) h in and_from _ _ p.0 (plain_more xs t p.1 g)

paths_more : (xs : List (Place × Path)) (x : Place × Path) → Paths xs → lacks 10 x.1 ≡ true → Paths (xs ++ x ∷ [])
paths_more [] x h g = (g, tt)
paths_more (y ∷ xs) x h g = (h.0, paths_more xs x h.1 g)

abbrev MayLack : Option Path → Type 0
MayLack None = Unit {0}
MayLack (Some t) = lacks 10 t ≡ true

path_lacks : (p : Place) (xs : List (Place × Path)) → Paths xs → MayLack (path_of p xs)
path_lacks p [] h = tt
path_lacks p (x ∷ xs) h = elim (same_place p x.0) as (λ b. MayLack (elim b [ true ↦ Some x.1 | false ↦ path_of p xs ])) [ true ↦ h.0 | false ↦ path_lacks p xs h.1 ]

-- What is below

labels_below : (path : Path) (fs : List Field) (ps : List Place) → lacks 10 path ≡ true → list_all (λ x. list_all is_printable x.label) fs ≡ true → Below (by_labels path fs ps)
labels_below path [] ps h g = tt
labels_below path (f ∷ fs) [] h g = tt
labels_below path (f ∷ fs) (p ∷ ps) h g =
    let q = and_parts (list_all is_printable f.label) (list_all (λ x. list_all is_printable x.label) fs) g in
    (lacks-append 10 (path ++ codes ".") f.label (lacks-append 10 path (codes ".") h refl) (printable_lack f.label q.0), labels_below path fs ps h q.1)

numbers_below : (path : Path) (n : ℕ) (ps : List Place) → lacks 10 path ≡ true → Below (by_numbers path n ps)
numbers_below path n [] h = tt
numbers_below path n (p ∷ ps) h = (lacks-append 10 (path ++ codes ".") (decimal n) (lacks-append 10 path (codes ".") h refl) (decimal_lacks 10 n (omega arith)), numbers_below path (suc n) ps h)

below_lack : (path : Path) (c : CellShape) (ps : List Place) → lacks 10 path ≡ true → has_printable_labels c ≡ true → Below (shown_below path c ps)
below_lack path (Object fields methods) ps h g = labels_below path fields ps h (and_parts (list_all (λ x. list_all is_printable x.label) fields) (list_all (λ m. list_all is_printable m.head.label) methods) g).0
below_lack path (Group ns) ps h g = numbers_below path 0 ps h
below_lack path c ps h g = tt

abbrev Keeps : (Path → Place → Shown → Shown) → Type 0
Keeps show = (path : Path) (p : Place) (w : Shown) → lacks 10 path ≡ true → IsPlain w → IsPlain (show path p w)

each_plain : (show : Path → Place → Shown → Shown) → Keeps show → (xs : List (Path × Place)) (w : Shown) → Below xs → IsPlain w → IsPlain (show_each show xs w)
each_plain show k [] w b h = h
each_plain show k (x ∷ xs) w b h = each_plain show k xs (show x.0 x.1 w) b.1 (k x.0 x.1 w b.0 h)

line_kept : (path what : Text) (w : Shown) → lacks 10 path ≡ true → lacks 10 what ≡ true → IsPlain w → IsPlain (with_line path what w)
line_kept path what w h g f = record { lines = plain_more w.lines (state_line path what) f.lines (line_plain path what h g); paths = f.paths }

place_kept : (p : Place) (path what : Text) (w : Shown) → lacks 10 path ≡ true → lacks 10 what ≡ true → IsPlain w → IsPlain (with_place p path what w)
place_kept p path what w h g f = record { lines = plain_more w.lines (state_line path what) f.lines (line_plain path what h g); paths = paths_more w.places (p, path) f.paths h }

-- States whose labels are printable

module _ (a : Side) (printable : (p : Place) → has_printable_labels (found a p) ≡ true) where
  abbrev Next : Type 0
  Next = List (Path × Place) → Shown → Shown

  abbrev NextKeeps : Next → Type 0
  NextKeeps next = (xs : List (Path × Place)) (w : Shown) → Below xs → IsPlain w → IsPlain (next xs w)

  -- a place that an earlier line showed, or one that none did
  seen_plain : (next : Next) → NextKeeps next → (path : Path) (p : Place) (w : Shown) → lacks 10 path ≡ true → IsPlain w → (o : Option Path) → MayLack o → IsPlain (elim o [
    | Some first ↦ with_line path (codes "same " ++ first) w
    | None ↦ next (shown_below path (found a p) (children a p)) (with_place p path (what_text (found a p)) w)
  ])
  seen_plain next k path p w h f (Some first) m = line_kept path (codes "same " ++ first) w h (lacks-append 10 (codes "same ") first refl m) f
  seen_plain next k path p w h f None m =
      k (shown_below path (found a p) (children a p)) (with_place p path (what_text (found a p)) w) (below_lack path (found a p) (children a p) h (printable p))
      (place_kept p path (what_text (found a p)) w h (what_lacks (found a p) (printable p)) f)

  place_plain : (next : Next) → NextKeeps next → Keeps (show_place next a)
  place_plain next k path p w h f = elim (is_compound (found a p)) as (λ b. IsPlain (elim b [
    | false ↦ with_line path (what_text (found a p)) w
    | true ↦ elim (path_of p w.places) [
      | Some first ↦ with_line path (codes "same " ++ first) w
      | None ↦ next (shown_below path (found a p) (children a p)) (with_place p path (what_text (found a p)) w)
    ]
  ])) [
    | false ↦ line_kept path (what_text (found a p)) w h (what_lacks (found a p) (printable p)) f
    | true ↦ seen_plain next k path p w h f (path_of p w.places) (path_lacks p w.places f.paths)
  ]

  to_plain : (d : ℕ) → Keeps (show_to d a)
  to_plain zero = place_plain (λ below z. z) (λ xs w b f. f)
  to_plain (suc d) = place_plain (show_each (show_to d a)) (each_plain (show_to d a) (to_plain d))

  result_plain : (d : ℕ) (result : Option ℕ) (w : Shown) → IsPlain w → IsPlain (show_result d a result w)
  result_plain d None w f = f
  result_plain d (Some place) w f = to_plain d (codes "value") (In_store place) w refl f

  pub shown_plain : (d active : ℕ) (result : Option ℕ) → list_all is_plain (state_shown d a active result).lines ≡ true
  shown_plain d active result =
      let none : IsPlain (record { places = []; lines = [] }) = record { lines = refl; paths = tt } in
      (result_plain d result _ (to_plain d (codes "self") (In_store active) _ refl none)).lines
