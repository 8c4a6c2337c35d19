-- A cell with other places stands for what it stood for, with other places.
use Rattle.std.proofs.Common.{◌≡◌, ℕ, zero, suc, ◌+◌, List, [], ◌∷◌, ◌++◌, Option, Some, None, length, map, take, drop, refl, sym, ap, ◌∙◌}
use Rattle.std.proofs.lemmas.List.{take-map, drop-map}
use Rattle.asp_model.specs.Names.{Text}
use Rattle.asp_model.specs.Term.{Head, Loc, Make, Tree, Trees, Environment, none, more, node, loc, binders, moved, moved_below, moved_head}
use Rattle.asp_model.specs.Store as store
use Rattle.asp_model.specs.Store.{Store, CellShape, Field, MethodShape, moved_cell}
use Rattle.asp_model.specs.Contraction.{fields_at}
use Rattle.code_table.specs.declared.code.Leaf.{Leaf}
use Rattle.code_table.specs.declared.code.Leaf.TheVariants as leaves
use Rattle.code_table.specs.declared.code.Capture.{Capture}
use Rattle.code_table.specs.declared.class.Class.{Class}
use Rattle.code_table.specs.declared.code.Kind.{Kind}
use Rattle.code_table.specs.declared.code.Kind.TheVariants as kind
use Rattle.code_table.specs.declared.code.MethodCode.{MethodCode}
use Rattle.code_table.specs.declared.code.Node.{Node}
use Rattle.code_table.specs.Pieces.{Piece, variable, piece, object, Pieces, nothing, also, Bodies, no_method, method, at_slot, leaf_tree, captured_trees, tree, below, bodies, heads_of}
use Rattle.code_table.specs.Fitting.{IsNode, Fits, AllFit, BodiesFit, captured_names, body_scope, body_height, slots_from}
use Rattle.code_table.specs.Tables.{pieces, piece_of, labels_of, head_of, seen_methods}
use Rattle.code_table.specs.Classes.{class_of, class_at}
use Rattle.code_table.specs.Sound.{IsSound, IsSoundMethod, MethodsSound, KindSound, ClassesSound}
use Rattle.code_table.specs.Cells as coded
use Rattle.code_table.specs.Cells.{CodedCell, CodedStore, moved_coded}
use Rattle.code_table.specs.Shapes.{class_object, cell_of, store_of}

-- Pieces

module _ (f : ℕ → ℕ) where
  abbrev all_moved : List Tree → List Tree
  all_moved ts = map (moved f) ts

  slot_moved : (ts : List Tree) (k : ℕ) → moved f (at_slot k ts) ≡ at_slot k (all_moved ts)
  slot_moved [] k = refl
  slot_moved (t ∷ ts) zero = refl
  slot_moved (t ∷ ts) (suc k) = slot_moved ts k

  leaf_moved : (ts : List Tree) (l : Leaf) → moved f (leaf_tree ts l) ≡ leaf_tree (all_moved ts) l
  leaf_moved ts (leaves.Own k x) = refl
  leaf_moved ts (leaves.Kept k) = slot_moved ts k

  captured_moved : (ts : List Tree) (cs : List Capture) → all_moved (captured_trees ts cs) ≡ captured_trees (all_moved ts) cs
  captured_moved ts [] = refl
  captured_moved ts (c ∷ cs) = λ i. leaf_moved ts c.leaf i ∷ captured_moved ts cs i

  -- a node of code is no location
  head_stays : (h : Head) → IsNode h → moved_head f h ≡ h
  head_stays (Loc n) g = absurd g
  head_stays _ g = refl

  mutual
    pub tree_moved : (p : Piece) (ts : List Tree) (xs : List Text) (scope : Environment) (h : ℕ) → Fits xs scope h p → moved f (tree ts p) ≡ tree (all_moved ts) p
    tree_moved (variable l) ts xs scope h g = leaf_moved ts l
    tree_moved (piece hd ps) ts xs scope h g = λ i. node (head_stays hd g.0 i) (below_moved ps ts none xs scope h (binders hd) g.2 i)
    tree_moved (object ls fs ms) ts xs scope h g =
        ap (node (Make ls (heads_of ms))) (below_moved fs ts (bodies ts ms) xs scope h [] g.1 ∙ ap (below (all_moved ts) fs) (bodies_moved ms ts xs scope g.2))

    below_moved : (ps : Pieces) (ts : List Tree) (us : Trees) (xs : List Text) (scope : Environment) (h : ℕ) (bound : List (List Text)) → AllFit xs scope h bound ps
        → moved_below f (below ts ps us) ≡ below (all_moved ts) ps (moved_below f us)
    below_moved nothing ts us xs scope h bound g = refl
    below_moved (also p ps) ts us xs scope h [] g = λ i. more (tree_moved p ts xs scope h g.0 i) (below_moved ps ts us xs scope h [] g.1 i)
    below_moved (also p ps) ts us xs scope h (ys ∷ bound) g = λ i. more (tree_moved p ts xs (slots_from h ys ++ scope) (h + length ys) g.0 i) (below_moved ps ts us xs scope h bound g.1 i)

    bodies_moved : (ms : Bodies) (ts : List Tree) (xs : List Text) (scope : Environment) → BodiesFit xs scope ms → moved_below f (bodies ts ms) ≡ bodies (all_moved ts) ms
    bodies_moved no_method ts xs scope g = refl
    bodies_moved (method m cs b ms) ts xs scope g =
        λ i. more ((tree_moved b (captured_trees ts cs) (captured_names cs) (body_scope cs m) (body_height cs m) g.1 ∙ ap (λ (us : List Tree). tree us b) (captured_moved ts cs)) i) (bodies_moved ms ts xs scope g.2 i)

  -- Objects

  locs_moved : (ns : List ℕ) → all_moved (map loc ns) ≡ map loc (map f ns)
  locs_moved [] = refl
  locs_moved (n ∷ ns) = ap (λ (ts : List Tree). loc (f n) ∷ ts) (locs_moved ns)

  fields_moved : (ls : List Text) (ns : List ℕ) → map (λ (x : Field). let y : Field = record { label = x.label; place = f x.place } in y) (fields_at ls ns) ≡ fields_at ls (map f ns)
  fields_moved [] ns = refl
  fields_moved (l ∷ ls) [] = refl
  fields_moved (l ∷ ls) (n ∷ ns) = ap (λ (xs : List Field). record { label = l; place = f n } ∷ xs) (fields_moved ls ns)

  body_moved : (ps : List Piece) (m : MethodCode) (ns : List ℕ) → IsSoundMethod ps m → moved f (tree (map loc ns) (piece_of ps m.body)) ≡ tree (map loc (map f ns)) (piece_of ps m.body)
  body_moved ps m ns s =
      tree_moved (piece_of ps m.body) (map loc ns) (captured_names m.captured.items) (body_scope m.captured.items (head_of m)) (body_height m.captured.items (head_of m)) s.fits
      ∙ ap (λ (ts : List Tree). tree ts (piece_of ps m.body)) (locs_moved ns)

  methods_moved : (ps : List Piece) (ms : List MethodCode) (ns : List ℕ) → MethodsSound ps ms
      → map (λ (m : MethodShape). let y : MethodShape = record { head = m.head; body = moved f m.body } in y) (seen_methods ps ms ns) ≡ seen_methods ps ms (map f ns)
  methods_moved ps [] ns s = refl
  methods_moved ps (m ∷ ms) ns s =
      let size : ℕ = length m.captured.items in
      let here = body_moved ps m (take size ns) s.0 ∙ ap (λ (ks : List ℕ). tree (map loc ks) (piece_of ps m.body)) (sym (take-map f size ns)) in
      let others = methods_moved ps ms (drop size ns) s.1 ∙ ap (seen_methods ps ms) (sym (drop-map f size ns)) in
      λ i. record { head = head_of m; body = here i } ∷ others i

-- Classes

abbrev pub IsSoundClass : List Node → Option Class → Type 0
IsSoundClass code None = Unit {0}
IsSoundClass code (Some k) = MethodsSound (pieces code) k.methods.items

kind_class : (code : List Node) (k : Kind) → KindSound (pieces code) k → IsSoundClass code (class_of k)
kind_class code (kind.Make k) s = s.0
kind_class code _ s = tt

sound_among : (code ns : List Node) (i : ℕ) → ClassesSound (pieces code) ns → IsSoundClass code (class_at ns i)
sound_among code [] i s = tt
sound_among code (n ∷ ns) zero s = kind_class code n.kind s.0
sound_among code (n ∷ ns) (suc i) s = sound_among code ns i s.1

pub sound_class : (code : List Node) (i : ℕ) → IsSound code → IsSoundClass code (class_at code i)
sound_class code i s = sound_among code code i s.classes

-- Cells

object_moved : (f : ℕ → ℕ) (code : List Node) (ns : List ℕ) (k : Option Class) → IsSoundClass code k → class_object code (map f ns) k ≡ moved_cell f (class_object code ns k)
object_moved f code ns None s = refl
object_moved f code ns (Some k) s =
    let size : ℕ = length k.fields.items in
    let methods = methods_moved f (pieces code) k.methods.items (drop size ns) s ∙ ap (seen_methods (pieces code) k.methods.items) (sym (drop-map f size ns)) in
    λ i. store.Object (sym (fields_moved f (labels_of k) ns) i) (sym methods i)

pub cell_moved : (code : List Node) → IsSound code → (f : ℕ → ℕ) (c : CodedCell) → cell_of code (moved_coded f c) ≡ moved_cell f (cell_of code c)
cell_moved code s f (coded.Number n) = refl
cell_moved code s f (coded.Object k ns) = object_moved f code ns (class_at code k) (sound_class code k s)
cell_moved code s f (coded.Reference n) = refl
cell_moved code s f (coded.Future g) = refl
cell_moved code s f (coded.Group ns) = refl

pub store_moved : (code : List Node) → IsSound code → (f : ℕ → ℕ) (cs : CodedStore) → store_of code (map (moved_coded f) cs) ≡ map (moved_cell f) (store_of code cs)
store_moved code s f [] = refl
store_moved code s f (c ∷ cs) = λ i. cell_moved code s f c i ∷ store_moved code s f cs i
