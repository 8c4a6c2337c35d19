-- The row of an object that is made: what its methods capture is read from the environment, by slots.
use Rattle.std.proofs.Common.{◌≡◌, ℕ, zero, suc, ◌<◌, ◌≤◌, List, [], ◌∷◌, ◌++◌, length, map, take, drop, get_or, refl, sym, ap, ◌∙◌, arith}
use Rattle.std.proofs.lemmas.List.{length-take-le, length-map}
use Rattle.std.proofs.Math.Seq.{drop-append_seam, take-append_seam}
use Rattle.asp_model.specs.Names.{Text}
use Rattle.asp_model.specs.Term.{Make, MethodHead, Tree, Trees, Environment, more, loc, without, variable_or, put_in, put_below}
use Rattle.asp_model.specs.Store.{MethodShape, Field, Object, Store}
use Rattle.asp_model.specs.Contraction.{fields_at, methods_with, allots, row}
use Rattle.code_table.specs.declared.code.Leaf.{Leaf}
use Rattle.code_table.specs.declared.code.Leaf.TheVariants as leaves
use Rattle.code_table.specs.declared.code.Capture.{Capture}
use Rattle.code_table.specs.declared.class.Class.{Class}
use Rattle.code_table.specs.declared.code.MethodCode.{MethodCode}
use Rattle.code_table.specs.Pieces.{Piece, object, Pieces, nothing, also, Bodies, no_method, method, count, heads_of, at_slot, leaf_tree, captured_trees, tree, below, bodies}
use Rattle.code_table.specs.Fitting.{placed, captured_names, LeafFits, CapturesFit, head_names, body_scope, body_height, BodiesFit, Runs}
use Rattle.code_table.specs.Tables.{text_of, labels_of, bodies_of, with_places, seen_methods, object_of}
use Rattle.code_laws.specs.Places.{leaf_place, captured_places, kept_places}
use Rattle.code_laws.specs.Nodes.{rest, behind_in, bodies_in}
use Rattle.code_laws.proofs.ScopeLemmas.{in_slot, located, names_from}
use Rattle.code_laws.proofs.CaptureLemmas.{AreCaptured, places_captured, passed_on, captures}

-- Variables

pub kept_at : (ns : List ℕ) (c k : ℕ) → k < c → c ≤ length ns → at_slot k (map loc (take c ns)) ≡ loc (get_or ns k 0)
kept_at ns zero k lt le = absurd (omega (arith, lt))
kept_at [] (suc c) k lt le = absurd (omega (arith, le))
kept_at (n ∷ ns) (suc c) zero lt le = refl
kept_at (n ∷ ns) (suc c) (suc k) lt le = let a : k < c = omega (arith, lt) in let b : c ≤ length ns = omega (arith, le) in kept_at ns c k a b

-- a variable stands for the place in its slot
pub leaf_here : (l : Leaf) (xs : List Text) (scope : Environment) (ns : List ℕ) → length xs ≤ length ns → LeafFits xs scope l
    → put_in (placed ns scope) (leaf_tree (map loc (take (length xs) ns)) l) ≡ loc (leaf_place ns l)
leaf_here (leaves.Own k x) xs scope ns le f = ap (variable_or x) (located x ns scope ∙ ap (in_slot ns) f)
leaf_here (leaves.Kept k) xs scope ns le f = ap (put_in (placed ns scope)) (kept_at ns (length xs) k f.0 le)

pub leaves_here : (cs : List Capture) (xs : List Text) (scope : Environment) (ns : List ℕ) → length xs ≤ length ns → CapturesFit xs scope cs
    → map (put_in (placed ns scope)) (captured_trees (map loc (take (length xs) ns)) cs) ≡ map loc (captured_places ns cs)
leaves_here [] xs scope ns le f = refl
leaves_here (c ∷ cs) xs scope ns le f = λ i. leaf_here c.leaf xs scope ns le f.0 i ∷ leaves_here cs xs scope ns le f.2 i

pub captured_size : (ns : List ℕ) (cs : List Capture) → length (captured_places ns cs) ≡ length cs
captured_size ns [] = refl
captured_size ns (c ∷ cs) = ap suc (captured_size ns cs)

-- Methods

-- a body whose variables are put in is the body over the places that it captures
pub body_here : (m : MethodHead) (cs : List Capture) (b : Piece) (xs : List Text) (scope : Environment) (ns : List ℕ) → length xs ≤ length ns → BodiesFit xs scope (method m cs b no_method)
    → put_in (without (head_names m) (placed ns scope)) (tree (captured_trees (map loc (take (length xs) ns)) cs) b) ≡ tree (map loc (captured_places ns cs)) b
body_here m cs b xs scope ns le f =
    let e : Environment = placed ns scope in
    let kept : List ℕ = take (length xs) ns in
    let size : length xs ≡ length kept = sym (length-take-le (length xs) ns le) in
    let are : AreCaptured (captured_names cs) (captured_trees (map loc kept) cs) = passed_on xs (map loc kept) scope cs (places_captured xs kept size) f.0 in
    ap (λ (ys : List Text). put_in (without ys e) (tree (captured_trees (map loc kept) cs) b)) (sym (names_from (length cs) (head_names m)))
    ∙ captures b (captured_names cs) (captured_trees (map loc kept) cs) (body_scope cs m) (body_height cs m) e are f.1
    ∙ ap (λ (us : List Tree). tree us b) (leaves_here cs xs scope ns le f.0)

pub bodies_here : (ms : Bodies) (xs : List Text) (scope : Environment) (ns : List ℕ) → length xs ≤ length ns → BodiesFit xs scope ms
    → put_below (placed ns scope) (map head_names (heads_of ms)) (bodies (map loc (take (length xs) ns)) ms) ≡ bodies_in ns ms
bodies_here no_method xs scope ns le f = refl
bodies_here (method m cs b ms) xs scope ns le f = λ i. more (body_here m cs b xs scope ns le (f.0, f.1, tt) i) (bodies_here ms xs scope ns le f.2 i)

-- over the methods of a class they are the methods of its objects
pub seen_bodies : (ps : List Piece) (ms : List MethodCode) (ns : List ℕ) → methods_with (heads_of (bodies_of ps ms)) (bodies_in ns (bodies_of ps ms)) ≡ seen_methods ps ms (kept_places ns ms)
seen_bodies ps [] ns = refl
seen_bodies ps (m ∷ ms) ns =
    let own : List ℕ = captured_places ns m.captured.items in
    let others : List ℕ = kept_places ns ms in
    let size : length m.captured.items ≡ length own = sym (captured_size ns m.captured.items) in
    let first : own ≡ take (length m.captured.items) (own ++ others) = sym (ap (λ (k : ℕ). take k (own ++ others)) size ∙ take-append_seam own others) in
    let last : others ≡ drop (length m.captured.items) (own ++ others) = sym (ap (λ (k : ℕ). drop k (own ++ others)) size ∙ drop-append_seam own others) in
    ap (λ (xs : List MethodShape). with_places ps m own ∷ xs) (seen_bodies ps ms ns) ∙ (λ i. with_places ps m (first i) ∷ seen_methods ps ms (last i))

-- Objects

abbrev unbound : Text → List Text
unbound l = []

skip_fields : (ls : List Text) (fs : Pieces) (bound : List (List Text)) → length ls ≡ count fs → drop (count fs) (map unbound ls ++ bound) ≡ bound
skip_fields [] nothing bound n = refl
skip_fields (l ∷ ls) nothing bound n = absurd (omega (arith, n))
skip_fields [] (also p fs) bound n = absurd (omega (arith, n))
skip_fields (l ∷ ls) (also p fs) bound n = let less : length ls ≡ count fs = omega (arith, n) in skip_fields ls fs bound less

pub rest_all : (ts : List Tree) (ps : Pieces) (us : Trees) → rest (count ps) (below ts ps us) ≡ us
rest_all ts nothing us = refl
rest_all ts (also p ps) us = rest_all ts ps us

-- behind its fields stand the bodies of its methods, over what these capture
pub behind_fields : (ls : List Text) (fs : Pieces) (ms : Bodies) (xs : List Text) (scope : Environment) (ns : List ℕ) (n : ℕ) → Runs xs scope ns (object ls fs ms) → n ≡ count fs
    → behind_in xs scope ns (object ls fs ms) n ≡ bodies_in ns ms
behind_fields ls fs ms xs scope ns n r e =
    let ts : List Tree = map loc (take (length xs) ns) in
    ap (behind_in xs scope ns (object ls fs ms)) e
    ∙ ap (λ (bound : List (List Text)). put_below (placed ns scope) bound (rest (count fs) (below ts fs (bodies ts ms)))) (skip_fields ls fs (map head_names (heads_of ms)) r.fits.0)
    ∙ ap (put_below (placed ns scope) (map head_names (heads_of ms))) (rest_all ts fs (bodies ts ms))
    ∙ bodies_here ms xs scope ns r.low r.fits.2

fields_before : (ls : List Text) (ns ms : List ℕ) → length ns ≡ length ls → fields_at ls ns ≡ fields_at ls (ns ++ ms)
fields_before [] ns ms h = refl
fields_before (l ∷ ls) [] ms h = absurd (omega (arith, h))
fields_before (l ∷ ls) (n ∷ ns) ms h =
    let less : length ns ≡ length ls = omega (arith, h) in ap (λ (fs : List Field). let f : Field = record { label = l; place = n } in f ∷ fs) (fields_before ls ns ms less)

labels_size : (k : Class) → length (labels_of k) ≡ length k.fields.items
labels_size k = length-map k.fields.items text_of

-- an object becomes a cell with its fields' places, and the places that its methods capture
pub makes : (k : Class) (fs : Pieces) (ps : List Piece) (xs : List Text) (scope : Environment) (ns places : List ℕ) (s : Store)
    → Runs xs scope ns (object (labels_of k) fs (bodies_of ps k.methods.items)) → length places ≡ count fs
    → row s (Make (labels_of k) (heads_of (bodies_of ps k.methods.items))) places (behind_in xs scope ns (object (labels_of k) fs (bodies_of ps k.methods.items)) (length places))
    ≡ allots s (object_of ps k (places ++ kept_places ns k.methods.items)) []
makes k fs ps xs scope ns places s r e =
    let ms : List MethodCode = k.methods.items in
    let ls : List Text = labels_of k in
    let own : List ℕ = kept_places ns ms in
    let size : length places ≡ length ls = e ∙ sym r.fits.0 in
    let at : length places ≡ length k.fields.items = size ∙ labels_size k in
    let fields : fields_at ls places ≡ fields_at ls (places ++ own) = fields_before ls places own size in
    let kept : own ≡ drop (length k.fields.items) (places ++ own) = sym (ap (λ (i : ℕ). drop i (places ++ own)) (sym at) ∙ drop-append_seam places own) in
    let methods : methods_with (heads_of (bodies_of ps ms)) (behind_in xs scope ns (object ls fs (bodies_of ps ms)) (length places)) ≡ seen_methods ps ms (drop (length k.fields.items) (places ++ own)) =
    ap (methods_with (heads_of (bodies_of ps ms))) (behind_fields ls fs (bodies_of ps ms) xs scope ns (length places) r e) ∙ seen_bodies ps ms ns ∙ ap (seen_methods ps ms) kept in
    λ i. allots s (Object (fields i) (methods i)) []
