-- What is below a place.
use Rattle.std.proofs.Common.{◌≡◌, ℕ, zero, suc, ◌-◌, ◌<◌, Bool, true, false, List, [], ◌∷◌, ◌++◌, length, map, drop, get_or, min, nat_lt, refl, sym, ap, ◌∙◌, arith, append_assoc, inl, inr, Some}
use Rattle.std.specs.Prelude.{◌⊎◌, codes, reverse}
use Rattle.std.specs.List.{flat_map}
use Rattle.std.specs.Fmt.{decimal}
use Rattle.std.proofs.lemmas.List.{map-append, length-map, append-nil, reverse-append}
use Rattle.std.proofs.lemmas.Bool.Decides.{nat_tests}
use Rattle.std.proofs.Math.Seq.{drop-length, drop-cons}
use Rattle.asp_model.specs.declared.word.Label.{Label}
use Rattle.asp_model.specs.Names.{FutureShape, Text}
use Rattle.asp_model.specs.Contraction.{fields_at}
use Rattle.asp_model.specs.Store.{CellShape, Field, MethodShape, Number, Object, Reference, Future, Group, reached}
use Rattle.asp_model.specs.Term.{locations}
use Rattle.code_table.specs.declared.class.Class.{Class}
use Rattle.code_table.specs.declared.code.Node.{Node}
use Rattle.code_table.specs.Tables.{pieces, labels_of, seen_methods, text_of}
use Rattle.code_table.specs.Shapes.{class_object}
use Rattle.def_paths.specs.Places.{Place, Side, entered, found, read, children, child_by, told}
use Rattle.def_paths.specs.StateLines.{Path, by_labels, by_numbers, shown_below}
use Rattle.state_lines.specs.Walks.{Pending, pending_at, pending_below}
use Rattle.state_lines.specs.Below.{fields_below, members_below, cell_below}
use Rattle.state_lines.proofs.TextLemmas.{blank_field}

-- Lists that are pushed last first

-- one more, where the others behind it are there
pub one_before : (old all more : List Pending) (f : Path × Place → Pending) (below rest : List (Path × Place)) (x : Path × Place)
    → all ≡ old ++ reverse (map f rest) → more ≡ all ++ reverse (map f (x ∷ [])) → below ≡ x ∷ rest → more ≡ old ++ reverse (map f below)
one_before old all more f below rest x so_far push is =
    push
    ∙ ap (λ (l : List Pending). l ++ f x ∷ []) so_far
    ∙ append_assoc old (reverse (map f rest)) (f x ∷ [])
    ∙ ap (λ (l : List Pending). old ++ l) (sym (reverse-append (f x ∷ []) (map f rest)))
    ∙ ap (λ (l : List (Path × Place)). old ++ reverse (map f l)) (sym is)

pub none_before : (old : List Pending) (f : Path × Place → Pending) (below : List (Path × Place)) → below ≡ [] → old ≡ old ++ reverse (map f below)
none_before old f below none = sym (append-nil old) ∙ ap (λ (l : List (Path × Place)). old ++ reverse (map f l)) (sym none)

-- Fields and members from a number on

pub field_next : (path : Path) (at : ℕ → Place) (ls : List Text) (ns : List ℕ) (k : ℕ) (l : Text) (n : ℕ) → k < length ls → k < length ns
    → fields_below path at (drop k ls) (drop k ns) ≡ (path ++ codes "." ++ get_or ls k l, at (get_or ns k n)) ∷ fields_below path at (drop (suc k) ls) (drop (suc k) ns)
field_next path at ls ns k l n low within = λ i. fields_below path at (drop-cons ls k l low i) (drop-cons ns k n within i)

pub member_next : (path : Path) (at : ℕ → Place) (ns : List ℕ) (k n : ℕ) → k < length ns
    → members_below path at k (drop k ns) ≡ (path ++ codes "." ++ decimal k, at (get_or ns k n)) ∷ members_below path at (suc k) (drop (suc k) ns)
member_next path at ns k n within = ap (members_below path at k) (drop-cons ns k n within)

no_places : (path : Path) (at : ℕ → Place) (ls : List Text) → fields_below path at ls [] ≡ []
no_places path at [] = refl
no_places path at (l ∷ ls) = refl

min_cases : (m n : ℕ) → (min m n ≡ m) ⊎ (min m n ≡ n)
min_cases m n = by (nat_lt m n) refl
  where
    by : (b : Bool) → nat_lt m n ≡ b → (min m n ≡ m) ⊎ (min m n ≡ n)
    by true e = inl (grind (arith, nat_tests))
    by false e = inr (grind (arith, nat_tests))

pub fields_past : (path : Path) (at : ℕ → Place) (ls : List Text) (ns : List ℕ) (m : ℕ) → m ≡ min (length ls) (length ns) → fields_below path at (drop m ls) (drop m ns) ≡ []
fields_past path at ls ns m e = by (min_cases (length ls) (length ns))
  where
    by : (min (length ls) (length ns) ≡ length ls) ⊎ (min (length ls) (length ns) ≡ length ns) → fields_below path at (drop m ls) (drop m ns) ≡ []
    by (inl h) = ap (λ (xs : List Text). fields_below path at xs (drop m ns)) (ap (λ k. drop k ls) (e ∙ h) ∙ drop-length ls)
    by (inr h) = ap (λ (xs : List ℕ). fields_below path at (drop m ls) xs) (ap (λ k. drop k ns) (e ∙ h) ∙ drop-length ns) ∙ no_places path at (drop m ls)

pub members_past : (path : Path) (at : ℕ → Place) (ns : List ℕ) (m : ℕ) → m ≡ length ns → members_below path at m (drop m ns) ≡ []
members_past path at ns m e = ap (members_below path at m) (ap (λ k. drop k ns) e ∙ drop-length ns)

-- They are those of the definition

labels_are : (path : Path) (at : ℕ → Place) (ls : List Text) (ns : List ℕ) (ps : List Place) → by_labels path (fields_at ls ns) (map at (map (λ (x : Field). x.place) (fields_at ls ns)) ++ ps) ≡ fields_below path at ls ns
labels_are path at [] ns ps = refl
labels_are path at (l ∷ ls) [] ps = refl
labels_are path at (l ∷ ls) (n ∷ ns) ps = ap (λ (xs : List (Path × Place)). (path ++ codes "." ++ l, at n) ∷ xs) (labels_are path at ls ns ps)

pub fields_are : (path : Path) (at : ℕ → Place) (code : List Node) (k : Class) (ns : List ℕ) → fields_below path at (labels_of k) ns ≡ cell_below path at (class_object code ns (Some k))
fields_are path at code k ns =
    let fields = fields_at (labels_of k) ns in
    let captured = flat_map (λ (m : MethodShape). locations m.body) (seen_methods (pieces code) k.methods.items (drop (length k.fields.items) ns)) in
    sym (ap (by_labels path fields) (map-append at (map (λ (x : Field). x.place) fields) captured) ∙ labels_are path at (labels_of k) ns (map at captured))

numbers_are : (path : Path) (at : ℕ → Place) (k : ℕ) (ns : List ℕ) → members_below path at k ns ≡ by_numbers path k (map at ns)
numbers_are path at k [] = refl
numbers_are path at k (n ∷ ns) = ap (λ (xs : List (Path × Place)). (path ++ codes "." ++ decimal k, at n) ∷ xs) (numbers_are path at (suc k) ns)

pub members_are : (path : Path) (at : ℕ → Place) (ns : List ℕ) → members_below path at 0 ns ≡ cell_below path at (Group ns)
members_are path at ns = numbers_are path at 0 ns

labels_told : (path : Path) (fs : List Field) (ps : List Place) → by_labels path (map blank_field fs) ps ≡ by_labels path fs ps
labels_told path [] ps = refl
labels_told path (f ∷ fs) [] = refl
labels_told path (f ∷ fs) (p ∷ ps) = ap (λ (xs : List (Path × Place)). (path ++ codes "." ++ f.label, p) ∷ xs) (labels_told path fs ps)

below_told : (path : Path) (awaited : FutureShape → FutureShape) (c : CellShape) (ps : List Place) → shown_below path (told awaited c) ps ≡ shown_below path c ps
below_told path awaited (Number z) ps = refl
below_told path awaited (Object fs ms) ps = labels_told path fs ps
below_told path awaited (Reference n) ps = refl
below_told path awaited (Future f) ps = refl
below_told path awaited (Group ns) ps = refl

alike : {X Y : Type 0} (f g : X → Y) → ((x : X) → f x ≡ g x) → (xs : List X) → map f xs ≡ map g xs
alike f g to [] = refl
alike f g to (x ∷ xs) = λ i. to x i ∷ alike f g to xs i

-- what is below a place, by what is read there and where its children stand
pub below_is : (a : Side) (path : Path) (p : Place) (at : ℕ → Place) (c : CellShape) → c ≡ read a p → ((n : ℕ) → child_by (entered a p) p n ≡ at n) → cell_below path at c ≡ shown_below path (found a p) (children a p)
below_is a path p at c there to =
    ap (cell_below path at) there
    ∙ ap (shown_below path (read a p)) (sym (alike (child_by (entered a p) p) at to (reached (read a p))))
    ∙ sym (below_told path a.awaited (read a p) (children a p))

pub pending_is : (a : Side) (path : Path) (p : Place) (d : ℕ) → 0 < d → map (pending_at (d - 1)) (shown_below path (found a p) (children a p)) ≡ pending_below d a path p
pending_is a path p zero lt = absurd (omega arith)
pending_is a path p (suc d) lt =
    let one : suc d - 1 ≡ d = omega arith in
    ap (λ k. map (pending_at k) (shown_below path (found a p) (children a p))) one

label_at : (xs : List Label) (k : ℕ) (d : Label) → get_or (map text_of xs) k d.text ≡ text_of (get_or xs k d)
label_at [] k d = refl
label_at (x ∷ xs) zero d = refl
label_at (x ∷ xs) (suc k) d = label_at xs k d

-- the field before those from a number on
pub field_before : (path : Path) (at : ℕ → Place) (xs : List Label) (ns : List ℕ) (m k : ℕ) (x : Label) (w : Path) → suc k ≡ m → k < length xs → k < length ns → x ≡ get_or xs k x → w ≡ path ++ codes "." ++ x.text
    → fields_below path at (drop k (map text_of xs)) (drop k ns) ≡ (w, at (get_or ns k 0)) ∷ fields_below path at (drop m (map text_of xs)) (drop m ns)
field_before path at xs ns m k x w next low within is path_is =
    let label : get_or (map text_of xs) k x.text ≡ x.text = label_at xs k x ∙ sym (ap text_of is) in
    let first : path ++ codes "." ++ get_or (map text_of xs) k x.text ≡ w = ap (λ (l : Text). path ++ codes "." ++ l) label ∙ sym path_is in
    field_next path at (map text_of xs) ns k x.text 0 (omega (arith, low, length-map xs text_of)) within
    ∙ (λ i. (first i, at (get_or ns k 0)) ∷ fields_below path at (drop (next i) (map text_of xs)) (drop (next i) ns))

-- the member before those from a number on
pub member_before : (path : Path) (at : ℕ → Place) (ns : List ℕ) (m k : ℕ) (w : Path) → suc k ≡ m → k < length ns → w ≡ path ++ codes "." ++ decimal k
    → members_below path at k (drop k ns) ≡ (w, at (get_or ns k 0)) ∷ members_below path at m (drop m ns)
member_before path at ns m k w next within path_is =
    member_next path at ns k 0 within ∙ (λ i. (sym path_is i, at (get_or ns k 0)) ∷ members_below path at (next i) (drop (next i) ns))
