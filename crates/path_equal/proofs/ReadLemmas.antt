-- What a path reads.
use Rattle.std.proofs.Common.{◌≡◌, ℕ, zero, suc, ◌+◌, ◌-◌, ◌<◌, ◌≤◌, Bool, true, false, nat_lt, List, [], ◌∷◌, ◌++◌, Option, Some, None, length, map, take, drop, get_or, slice_get, refl, sym, ap, ◌∙◌, arith}
use Rattle.std.specs.Borrow.{Bor}
use Rattle.std.specs.List.{flat_map}
use Rattle.std.specs.Option.{option_map, option_to_list}
use Rattle.std.proofs.lemmas.List.{length-map, drop_more}
use Rattle.std.proofs.lemmas.Option.{slice_get_past, slice_get-get_or}
use Rattle.std.proofs.lemmas.Bool.Decides.{nat_tests}
use Rattle.std.proofs.Math.Seq.{drop-cons, drop-length}
use Rattle.asp_model.specs.Names.{FutureShape, Text, same_text}
use Rattle.asp_model.specs.Contraction.{fields_at}
use Rattle.asp_model.specs.Intent.{StatusShape, Done}
use Rattle.asp_model.specs.Parcel.{ParcelShape}
use Rattle.asp_model.specs.Store.{CellShape, Field, MethodShape, Number, Object, Reference, Future, Group, reached}
use Rattle.asp_model.specs.Term.{Tree, Loc, node, loc, locations, moved}
use Rattle.law_steps.proofs.MovedLemmas.{locations_moved}
use Rattle.code_table.specs.declared.class.Class.{Class}
use Rattle.code_table.specs.declared.code.MethodCode.{MethodCode}
use Rattle.code_table.specs.declared.code.Node.{Node}
use Rattle.code_table.specs.Classes.{number_of}
use Rattle.code_table.specs.Fitting.{captured_names, body_scope, body_height}
use Rattle.code_table.specs.Pieces.{Piece, tree}
use Rattle.code_table.specs.Sound.{IsSoundMethod, MethodsSound}
use Rattle.code_table.specs.Tables.{pieces, piece_of, labels_of, head_of, seen_methods}
use Rattle.code_table.proofs.UsesLemmas.{inside, found_in}
use Rattle.code_table.specs.declared.cells.Parcel.{Parcel}
use Rattle.code_table.specs.Shapes.{class_object, parcel_shape}
use Rattle.deep_copy.specs.Reached.{used_places}
use Rattle.future_table.specs.Values.{values_of}
use Rattle.def_paths.specs.Places.{Place, In_store, Side, side_of, inner, beside, entered, read, found, children, child_by, told, nth_place, then_place, found_at}
use Rattle.def_paths.specs.PathLabels.{PathLabel, To_field, To_member, To_captured, one_more, number_of_field, within, behind, number_of_captured, number_by, numbered_child, leads_by}
use Rattle.def_paths.specs.Snapshots.{SnapshotShape, roots_in, result_in, number_if, root_number, read_from, read_path}
use Rattle.path_equal.specs.declared.labels.Root.{Root}
use Rattle.path_equal.specs.declared.labels.Root.TheVariants as root
use Rattle.path_equal.specs.declared.labels.PathLabel as labels
use Rattle.state_lines.specs.declared.state.State.{State}
use Rattle.path_equal.specs.Reading.{blank_found, found_of, root_in, root_shape, label_shape, labels_shape, nth_of, child_cell, captured_in}
use Rattle.state_lines.specs.States.{IsStateOf, side_in}
use Rattle.state_lines.proofs.TextLemmas.{blank_field, blank_method}

-- Items of lists

nth_map : (f : ℕ → Place) (xs : List ℕ) (n : ℕ) → nth_place (map f xs) n ≡ option_map f (slice_get xs n)
nth_map f [] n = refl
nth_map f (x ∷ xs) zero = refl
nth_map f (x ∷ xs) (suc n) = nth_map f xs n

numbered_map : (f : ℕ → Place) (xs : List ℕ) (o : Option ℕ) → numbered_child (map f xs) o ≡ option_map f (nth_of xs o)
numbered_map f xs None = refl
numbered_map f xs (Some n) = nth_map f xs n

nth_first : (xs ys : List ℕ) (n : ℕ) → n < length xs → slice_get (xs ++ ys) n ≡ slice_get xs n
nth_first [] ys n lt = absurd (omega arith)
nth_first (x ∷ xs) ys zero lt = refl
nth_first (x ∷ xs) ys (suc n) lt = nth_first xs ys n (omega arith)

nth_behind : (xs ys : List ℕ) (n m : ℕ) → m ≡ length xs + n → slice_get (xs ++ ys) m ≡ slice_get ys n
nth_behind [] ys n m e = let same : m ≡ n = omega (arith, e) in ap (slice_get ys) same
nth_behind (x ∷ xs) ys n zero e = absurd (omega arith)
nth_behind (x ∷ xs) ys n (suc m) e = nth_behind xs ys n m (omega (arith, e))

behind_is : (xs ys : List ℕ) (o : Option ℕ) (m : ℕ) → m ≡ length xs → nth_of (xs ++ ys) (behind m o) ≡ nth_of ys o
behind_is xs ys None m e = refl
behind_is xs ys (Some n) m e = nth_behind xs ys n (m + n) (ap (λ k. k + n) e)

within_is : (xs ys : List ℕ) (k : ℕ) → nth_of (xs ++ ys) (within k (length xs)) ≡ slice_get xs k
within_is xs ys k = by (nat_lt k (length xs)) refl
  where
    by : (b : Bool) → nat_lt k (length xs) ≡ b → nth_of (xs ++ ys) (elim b [ true ↦ Some k | false ↦ None ]) ≡ slice_get xs k
    by true e = nth_first xs ys k (grind (arith, nat_tests))
    by false e = let past : length xs ≤ k = grind (arith, nat_tests) in sym (slice_get_past xs k past)

-- What is told has the numbers of what is read

field_told : (l : Text) (fs : List Field) → number_of_field l (map blank_field fs) ≡ number_of_field l fs
field_told l [] = refl
field_told l (f ∷ fs) = ap (λ (o : Option ℕ). elim (same_text l f.label) [ true ↦ Some zero | false ↦ one_more o ]) (field_told l fs)

count_told : (m : MethodShape) → length (locations (moved (λ n. 0) m.body)) ≡ length (locations m.body)
count_told m = ap length (locations_moved (λ n. 0) m.body) ∙ length-map (locations m.body) (λ n. 0)

captured_told : (l : Text) (k : ℕ) (ms : List MethodShape) → number_of_captured l k (map blank_method ms) ≡ number_of_captured l k ms
captured_told l k [] = refl
captured_told l k (m ∷ ms) = λ i. elim (same_text l m.head.label) [ true ↦ within k (count_told m i) | false ↦ behind (count_told m i) (captured_told l k ms i) ]

number_told : (awaited : FutureShape → FutureShape) (c : CellShape) (t : PathLabel) → number_by (told awaited c) t ≡ number_by c t
number_told awaited (Number n) t = refl
number_told awaited (Object fs ms) (To_field l) = field_told l fs
number_told awaited (Object fs ms) (To_member k) = refl
number_told awaited (Object fs ms) (To_captured l k) = λ i. behind (length-map fs blank_field i) (captured_told l k ms i)
number_told awaited (Reference n) t = refl
number_told awaited (Future f) (To_field l) = refl
number_told awaited (Future f) (To_member k) = refl
number_told awaited (Future f) (To_captured l k) = refl
number_told awaited (Group ns) (To_field l) = refl
number_told awaited (Group ns) (To_member k) = refl
number_told awaited (Group ns) (To_captured l k) = refl

-- the child to which a label leads
pub child_is : (a : Side) (p : Place) (c : CellShape) (t : PathLabel) → c ≡ read a p → numbered_child (children a p) (number_by (found a p) t) ≡ option_map (child_by (entered a p) p) (child_cell c t)
child_is a p c t there =
    ap (numbered_child (children a p)) (number_told a.awaited (read a p) t)
    ∙ numbered_map (child_by (entered a p) p) (reached (read a p)) (number_by (read a p) t)
    ∙ ap (λ (x : CellShape). option_map (child_by (entered a p) p) (child_cell x t)) (sym there)

-- Where a child stands

pub beside_entered : (a : Side) (p : Place) (v : Bor Parcel) (c : ℕ) → Some (parcel_shape v.now) ≡ entered a p → (q : Place) × (child_by (entered a p) p c ≡ inner q c) × (entered a q ≡ Some (parcel_shape v.now))
beside_entered a p v c e = (p, ap (λ (o : Option ParcelShape). child_by o p c) (sym e), sym e)

pub beside_store : (a : Side) (p : Place) (i c : ℕ) → p ≡ In_store i → None ≡ entered a p → child_by (entered a p) p c ≡ In_store c
beside_store a p i c e none = ap (λ (o : Option ParcelShape). child_by o p c) (sym none) ∙ ap (λ (q : Place). beside q c) e

pub beside_value : (a : Side) (p : Place) (v : Bor Parcel) (j c : ℕ) → ((q : Place) × (p ≡ inner q j) × (entered a q ≡ Some (parcel_shape v.now))) → None ≡ entered a p
    → (q : Place) × (child_by (entered a p) p c ≡ inner q c) × (entered a q ≡ Some (parcel_shape v.now))
beside_value a p v zero c h none =
    let clash : None ≡ Some (parcel_shape v.now) = none ∙ ap (entered a) h.1 ∙ h.2 in
    absurd cc
beside_value a p v (suc j) c h none = (h.0, ap (λ (o : Option ParcelShape). child_by o p c) (sym none) ∙ ap (λ (q : Place). beside q c) h.1, h.2)

-- The fields of an object

nothing_of : (o : Option ℕ) → None ≡ nth_of [] o
nothing_of None = refl
nothing_of (Some n) = refl

more_of : (x y : ℕ) (xs ys : List ℕ) (o q : Option ℕ) → nth_of xs o ≡ nth_of ys q → nth_of (x ∷ xs) (one_more o) ≡ nth_of (y ∷ ys) (option_map suc q)
more_of x y xs ys None None e = refl
more_of x y xs ys None (Some n) e = e
more_of x y xs ys (Some n) None e = e
more_of x y xs ys (Some n) (Some m) e = e

field_is : (l : Text) (ls : List Text) (ns rest : List ℕ) → nth_of (map (λ (x : Field). x.place) (fields_at ls ns) ++ rest) (number_of_field l (fields_at ls ns)) ≡ nth_of ns (number_of l ls)
field_is l [] ns rest = refl
field_is l (x ∷ ls) [] rest = nothing_of (number_of l (x ∷ ls))
field_is l (x ∷ ls) (n ∷ ns) rest = by (same_text l x) (field_is l ls ns rest)
  where
    places : List ℕ
    places = map (λ (x : Field). x.place) (fields_at ls ns) ++ rest

    by : (b : Bool) → nth_of places (number_of_field l (fields_at ls ns)) ≡ nth_of ns (number_of l ls) → nth_of (n ∷ places) (elim b [ true ↦ Some zero | false ↦ one_more (number_of_field l (fields_at ls ns)) ]) ≡ nth_of (n ∷ ns) (elim b [ true ↦ Some 0 | false ↦ option_map suc (number_of l ls) ])
    by true e = refl
    by false e = more_of n n places ns (number_of_field l (fields_at ls ns)) (number_of l ls) e

pub field_cell : (code : List Node) (k : Class) (ns : List ℕ) (l : Text) → nth_of ns (number_of l (labels_of k)) ≡ child_cell (class_object code ns (Some k)) (To_field l)
field_cell code k ns l = sym (field_is l (labels_of k) ns (flat_map (λ (m : MethodShape). locations m.body) (seen_methods (pieces code) k.methods.items (drop (length k.fields.items) ns))))

-- What methods captured

slot_place : (ns : List ℕ) (k : ℕ) → inside (map loc ns) k ≡ option_to_list (slice_get ns k)
slot_place [] k = refl
slot_place (n ∷ ns) zero = refl
slot_place (n ∷ ns) (suc k) = slot_place ns k

used_inside : (ns slots : List ℕ) → flat_map (inside (map loc ns)) slots ≡ used_places ns slots
used_inside ns [] = refl
used_inside ns (k ∷ ks) = λ i. slot_place ns k i ++ used_inside ns ks i

body_is : (ps : List Piece) (m : MethodCode) (ns : List ℕ) → IsSoundMethod ps m → locations (tree (map loc ns) (piece_of ps m.body)) ≡ used_places ns m.uses.items
body_is ps m ns s =
    found_in (piece_of ps m.body) (map loc ns) (captured_names m.captured.items) (body_scope m.captured.items (head_of m)) (body_height m.captured.items (head_of m)) s.fits
    ∙ used_inside ns _ ∙ ap (used_places ns) (sym s.uses)

captured_is : (ps : List Piece) (l : Text) (k : ℕ) (ms : List MethodCode) (ns : List ℕ) → MethodsSound ps ms
    → nth_of (flat_map (λ (m : MethodShape). locations m.body) (seen_methods ps ms ns)) (number_of_captured l k (seen_methods ps ms ns)) ≡ captured_in l k ms ns
captured_is ps l k [] ns s = refl
captured_is ps l k (m ∷ ms) ns s = by (same_text l m.label.text) (captured_is ps l k ms (drop (length m.captured.items) ns) s.1)
  where
    own : List ℕ
    own = take (length m.captured.items) ns

    others : List ℕ
    others = drop (length m.captured.items) ns

    held : List ℕ
    held = locations (tree (map loc own) (piece_of ps m.body))

    rest : List ℕ
    rest = flat_map (λ (m : MethodShape). locations m.body) (seen_methods ps ms others)

    by : (b : Bool) → nth_of rest (number_of_captured l k (seen_methods ps ms others)) ≡ captured_in l k ms others → nth_of (held ++ rest) (elim b [ true ↦ within k (length held) | false ↦ behind (length held) (number_of_captured l k (seen_methods ps ms others)) ])
        ≡ elim b [ true ↦ slice_get (used_places own m.uses.items) k | false ↦ captured_in l k ms others ]
    by true e = within_is held rest k ∙ ap (λ (xs : List ℕ). slice_get xs k) (body_is ps m own s.0)
    by false e = behind_is held rest (number_of_captured l k (seen_methods ps ms others)) (length held) refl ∙ e

pub captured_cell : (code : List Node) (k : Class) (ns : List ℕ) (l : Text) (n : ℕ) → MethodsSound (pieces code) k.methods.items → captured_in l n k.methods.items (drop (length k.fields.items) ns) ≡ child_cell (class_object code ns (Some k)) (To_captured l n)
captured_cell code k ns l n s =
    let ps = pieces code in
    let fields = fields_at (labels_of k) ns in
    let methods = seen_methods ps k.methods.items (drop (length k.fields.items) ns) in
    sym (behind_is (map (λ (x : Field). x.place) fields) (flat_map (λ (m : MethodShape). locations m.body) methods) (number_of_captured l n methods) (length fields) (sym (length-map fields (λ (x : Field). x.place)))
    ∙ captured_is ps l n k.methods.items (drop (length k.fields.items) ns) s)

-- The places that a body holds, from one of its uses on

used_at : (ns uses : List ℕ) (i : ℕ) → i < length uses → used_places ns (drop i uses) ≡ option_to_list (slice_get ns (get_or uses i 0)) ++ used_places ns (drop (i + 1) uses)
used_at ns uses i lt = ap (used_places ns) (drop_more uses i 0 lt)

used_held : (ns uses : List ℕ) (i : ℕ) → i < length uses → get_or uses i 0 < length ns → used_places ns (drop i uses) ≡ get_or ns (get_or uses i 0) 0 ∷ used_places ns (drop (i + 1) uses)
used_held ns uses i lt held =
    used_at ns uses i lt ∙ ap (λ (o : Option ℕ). option_to_list o ++ used_places ns (drop (i + 1) uses)) (slice_get-get_or ns (get_or uses i 0) 0 held)

-- a slot that is not there
pub used_missing : (ns uses : List ℕ) (i left : ℕ) (o : Option ℕ) → i < length uses → length ns ≤ get_or uses i 0 → slice_get (used_places ns (drop i uses)) left ≡ o → slice_get (used_places ns (drop (i + 1) uses)) left ≡ o
used_missing ns uses i left o lt past so_far =
    sym (ap (λ (xs : List ℕ). slice_get xs left) (used_at ns uses i lt ∙ ap (λ (x : Option ℕ). option_to_list x ++ used_places ns (drop (i + 1) uses)) (slice_get_past ns (get_or uses i 0) past))) ∙ so_far

-- the place that is looked for
pub used_here : (ns uses : List ℕ) (i left : ℕ) (o : Option ℕ) → i < length uses → get_or uses i 0 < length ns → left ≡ 0 → slice_get (used_places ns (drop i uses)) left ≡ o → Some (get_or ns (get_or uses i 0) 0) ≡ o
used_here ns uses i left o lt held zero_left so_far =
    sym ((λ j. slice_get (used_held ns uses i lt held j) (zero_left j))) ∙ so_far

-- one before it
pub used_later : (ns uses : List ℕ) (i left : ℕ) (o : Option ℕ) → i < length uses → get_or uses i 0 < length ns → (left ≡ 0 → ⊥) → slice_get (used_places ns (drop i uses)) left ≡ o → slice_get (used_places ns (drop (i + 1) uses)) (left - 1) ≡ o
used_later ns uses i left o lt held more so_far =
    let one : left ≡ suc (left - 1) = omega arith in
    sym ((λ j. slice_get (used_held ns uses i lt held j) (one j))) ∙ so_far

-- Roots

result_cell : (status : StatusShape) (t : Tree) (x : ℕ) (more : List ℕ) → nth_of (x ∷ (locations t ++ more)) (number_if (result_in status t)) ≡ result_in status t
result_cell Done (node (Loc n) ts) x more = refl
result_cell status t x more = refl

root_cell : (s : State) (snapshot : SnapshotShape) (status : StatusShape) → IsStateOf s snapshot status → (r : Root) → nth_of (roots_in snapshot) (root_number status snapshot (root_shape r)) ≡ root_in s snapshot r
root_cell s snapshot status is root.Active = ap Some (sym is.active)
root_cell s snapshot status is root.Value = result_cell status snapshot.term snapshot.active _ ∙ sym is.result
root_cell s snapshot status is (root.TermAt n) = refl

read_as : (a : Side) (roots : List ℕ) (path : List PathLabel) (o : Option ℕ) → read_from a roots path o ≡ found_at a (then_place (option_map In_store (nth_of roots o)) (leads_by a path))
read_as a roots path None = refl
read_as a roots path (Some k) = ap (λ (o : Option Place). found_at a (then_place o (leads_by a path))) (nth_map In_store roots k)

-- what a path reads, from where its root stands
pub read_is : (s : State) (snapshot : SnapshotShape) (status : StatusShape) → IsStateOf s snapshot status → (r : Root) (path : List PathLabel) (o : Option ℕ) → o ≡ root_in s snapshot r
    → found_at (side_in s) (then_place (option_map In_store o) (leads_by (side_in s) path)) ≡ read_path (values_of s.futures.now) status snapshot (root_shape r) path
unfolding side_in
read_is s snapshot status is r path o e =
    let a = side_in s in
    let number = root_number status snapshot (root_shape r) in
    ap (λ (x : Option ℕ). found_at a (then_place (option_map In_store x) (leads_by a path))) (e ∙ sym (root_cell s snapshot status is r))
    ∙ sym (read_as a (roots_in snapshot) path number)
    ∙ (λ i. read_from (side_of (values_of s.futures.now) (is.store i)) (roots_in snapshot) path number)

-- Steps of a path

module _ (a : Side) (path : List labels.PathLabel) (i : ℕ) (x : labels.PathLabel) (lt : i < length path) (here : x ≡ get_or path i x) (q : Place) where
  label_next : labels_shape (drop i path) ≡ label_shape x ∷ labels_shape (drop (i + 1) path)
  label_next =
      let one : suc i ≡ i + 1 = omega arith in
      ap labels_shape (drop-cons path i x lt) ∙ (λ j. label_shape (sym here j) ∷ labels_shape (drop (one j) path))

  pub leads_next : (r : Place) → numbered_child (children a q) (number_by (found a q) (label_shape x)) ≡ Some r → leads_by a (labels_shape (drop (i + 1) path)) r ≡ leads_by a (labels_shape (drop i path)) q
  leads_next r child =
      sym (ap (λ (ts : List PathLabel). leads_by a ts q) label_next
      ∙ ap (λ (o : Option Place). then_place o (leads_by a (labels_shape (drop (i + 1) path)))) child)

  pub leads_nowhere : numbered_child (children a q) (number_by (found a q) (label_shape x)) ≡ None → None ≡ leads_by a (labels_shape (drop i path)) q
  leads_nowhere child =
      sym (ap (λ (ts : List PathLabel). leads_by a ts q) label_next
      ∙ ap (λ (o : Option Place). then_place o (leads_by a (labels_shape (drop (i + 1) path)))) child)

pub leads_all : (a : Side) (path : List labels.PathLabel) (q : Place) (n : ℕ) → n ≡ length path → Some q ≡ leads_by a (labels_shape (drop n path)) q
leads_all a path q n e = sym (ap (λ (ts : List labels.PathLabel). leads_by a (labels_shape ts) q) (ap (λ k. drop k path) e ∙ drop-length path))

-- what is found at an object, whatever futures await
pub object_found : (awaited : FutureShape → FutureShape) (code : List Node) (ns : List ℕ) (k : Option Class) → blank_found (class_object code ns k) ≡ found_of (Some (told awaited (class_object code ns k)))
object_found awaited code ns None = refl
object_found awaited code ns (Some k) = refl
