-- The locations of terms that are shown, by the code.
use Rattle.std.proofs.Common.{◌≡◌, ℕ, zero, suc, ◌+◌, ◌<◌, ◌≤◌, List, [], ◌∷◌, ◌++◌, length, map, get_or, slice_get, take, refl, sym, ap, subst, ◌∙◌, arith, append_assoc}
use Rattle.std.proofs.lemmas.List.{append-nil, length-map}
use Rattle.std.specs.List.{flat_map}
use Rattle.std.specs.Option.{option_to_list}
use Rattle.asp_model.specs.Term.{Hole, Var, Tree, Trees, none, leaf, loc, own_locations, locations, locations_below}
use Rattle.code_table.specs.declared.code.Leaf.{Leaf}
use Rattle.code_table.specs.declared.code.Leaf.TheVariants as leaves
use Rattle.code_table.specs.declared.code.Capture.{Capture}
use Rattle.code_table.specs.declared.code.Child.{Child}
use Rattle.code_table.specs.declared.code.Kind.{Kind}
use Rattle.code_table.specs.declared.code.Kind.TheVariants as kind
use Rattle.code_table.specs.declared.code.MethodCode.{MethodCode}
use Rattle.code_table.specs.declared.code.Node.{Node}
use Rattle.code_table.specs.Pieces.{Piece}
use Rattle.code_table.specs.Fitting.{captured_names, body_scope, body_height, head_names}
use Rattle.code_table.specs.Sound.{IsSoundMethod, MethodsSound, KindSound, IsSound}
use Rattle.code_table.specs.Tables.{bodies_of, head_of, kind_piece, kind_head, node_piece, piece_at, piece_of, pieces, pieces_of}
use Rattle.code_table.specs.Uses.{uses}
use Rattle.code_table.proofs.TableLemmas.{node_here, sound_kind_at}
use Rattle.code_table.proofs.UsesLemmas.{inside, found_in}
use Rattle.code_laws.specs.Shown.{tree_or, shown, shown_below, shown_bodies, shown_captures, shown_leaf}
use Rattle.code_laws.proofs.ShownLemmas.{over_from, shown_over}
use Rattle.path_equal.specs.declared.search.Search.{Search}
use Rattle.path_equal.specs.Held.{leaf_held, use_held, child_held, body_held, methods_behind}
use Rattle.path_equal.specs.Searches.{searched}
use Rattle.path_equal.proofs.SearchLemmas.{searched_both}

-- Variables

held_or : (d : Tree) (k : ℕ) (ns : List ℕ) → locations d ≡ [] → locations (tree_or d k (map loc ns)) ≡ option_to_list (slice_get ns k)
held_or d k [] e = e
held_or d zero (n ∷ ns) e = refl
held_or d (suc k) (n ∷ ns) e = held_or d k ns e

pub leaf_found : (ns : List ℕ) (l : Leaf) → locations (shown_leaf (map loc ns) l) ≡ option_to_list (leaf_held ns l)
leaf_found ns (leaves.Own k x) = held_or (leaf (Var x)) k ns refl
leaf_found ns (leaves.Kept k) = held_or (leaf Hole) k ns refl

-- The bodies of methods

use_found : (ns : List ℕ) (cs : List Capture) (k : ℕ) → inside (shown_captures (map loc ns) cs) k ≡ use_held ns cs k
use_found ns [] k = refl
use_found ns (c ∷ cs) zero = leaf_found ns c.leaf
use_found ns (c ∷ cs) (suc k) = use_found ns cs k

flat_same : {X Y : Type 0} (f g : X → List Y) → ((x : X) → f x ≡ g x) → (xs : List X) → flat_map f xs ≡ flat_map g xs
flat_same f g h [] = refl
flat_same f g h (x ∷ xs) = λ i. h x i ++ flat_same f g h xs i

pub body_found : (ns : List ℕ) (ps : List Piece) (m : MethodCode) → IsSoundMethod ps m → flat_map (use_held ns m.captured.items) m.uses.items ≡ body_held ns ps m
body_found ns ps m s =
    let cs : List Capture = m.captured.items in
    let us : List Tree = shown_captures (map loc ns) cs in
    let b : Piece = piece_of ps m.body in
    let size : length us ≡ length cs = length-map cs (λ c. shown_leaf (map loc ns) c.leaf) in
    let low : length us ≤ length cs = omega (arith, size) in
    let high : length us ≤ body_height cs (head_of m) = omega (arith, size) in
    ap (flat_map (use_held ns cs)) s.uses
    ∙ sym (flat_same (inside us) (use_held ns cs) (use_found ns cs) (uses b))
    ∙ sym (found_in b us (captured_names cs) (body_scope cs (head_of m)) (body_height cs (head_of m)) s.fits)
    ∙ sym (ap locations (shown_over b (captured_names cs) (body_scope cs (head_of m)) (body_height cs (head_of m)) us high (over_from (length cs) (length us) (head_names (head_of m)) low) s.fits))

pub bodies_found : (ns : List ℕ) (ps : List Piece) (ms : List MethodCode) → flat_map (body_held ns ps) ms ≡ locations_below (shown_bodies (map loc ns) (bodies_of ps ms))
bodies_found ns ps [] = refl
bodies_found ns ps (m ∷ ms) = ap (λ (xs : List ℕ). body_held ns ps m ++ xs) (bodies_found ns ps ms)

-- Terms below a node

pub children_found : (ns : List ℕ) (ps : List Piece) (cs : List Child) (us : Trees) → locations_below (shown_below (map loc ns) (pieces_of ps cs) us) ≡ flat_map (child_held ns ps) cs ++ locations_below us
children_found ns ps [] us = refl
children_found ns ps (c ∷ cs) us = ap (λ (xs : List ℕ). child_held ns ps c ++ xs) (children_found ns ps cs us) ∙ sym (append_assoc (child_held ns ps c) (flat_map (child_held ns ps) cs) (locations_below us))

-- a node's kind is no location
kind_own : (k : Kind) → own_locations (kind_head k) ≡ []
kind_own (kind.Number n) = refl
kind_own k = refl

kind_found : (ns : List ℕ) (ps : List Piece) (k : Kind) (cs : List Child) → locations (shown (map loc ns) (kind_piece ps k (pieces_of ps cs))) ≡ flat_map (child_held ns ps) cs ++ locations_below (methods_behind ns ps k)
kind_found ns ps (kind.Make k) cs = children_found ns ps cs (shown_bodies (map loc ns) (bodies_of ps k.value.methods.items))
kind_found ns ps k cs = ap (λ (xs : List ℕ). xs ++ locations_below (shown_below (map loc ns) (pieces_of ps cs) none)) (kind_own k) ∙ children_found ns ps cs none

pub kind_sound : (ns : List Node) (i : ℕ) (n : Node) → i < length ns → n ≡ get_or ns i n → IsSound ns → KindSound (pieces ns) n.kind
kind_sound ns i n lt e s = subst (λ (m : Node). KindSound (pieces ns) m.kind) (sym e) (sound_kind_at ns i n lt s)

-- a node's terms, then its methods
pub node_found : (ks : List ℕ) (ns : List Node) (i : ℕ) (n : Node) → i < length ns → n ≡ get_or ns i n → IsSound ns
    → locations (shown (map loc ks) (piece_at (pieces ns) i)) ≡ flat_map (child_held ks (pieces ns)) n.children.items ++ locations_below (methods_behind ks (pieces ns) n.kind)
node_found ks ns i n lt e s =
    ap (λ (p : Piece). locations (shown (map loc ks) p)) (node_here ns i n lt s ∙ ap (node_piece (pieces ns)) (sym e)) ∙ kind_found ks (pieces ns) n.kind n.children.items

-- Steps of loops

pub flat_append : {X : Type 0} (f : X → List ℕ) (xs ys : List X) → flat_map f (xs ++ ys) ≡ flat_map f xs ++ flat_map f ys
flat_append f [] ys = refl
flat_append f (x ∷ xs) ys = ap (λ (zs : List ℕ). f x ++ zs) (flat_append f xs ys) ∙ sym (append_assoc (f x) (flat_map f xs) (flat_map f ys))

pub take_one : {X : Type 0} (xs : List X) (i : ℕ) (d : X) → i < length xs → take (i + 1) xs ≡ take i xs ++ get_or xs i d ∷ []
take_one [] i d lt = absurd (omega (arith, lt))
take_one (y ∷ xs) zero d lt = refl
take_one {X} (y ∷ xs) (suc i) d lt =
    let less : i < length xs = omega (arith, lt) in
    let step : suc i + 1 ≡ suc (i + 1) = omega arith in
    ap (λ (n : ℕ). take n (y ∷ xs)) step ∙ ap (λ (zs : List X). y ∷ zs) (take_one xs i d less)

-- one more of these is passed
pub one_more : {X : Type 0} (f : X → List ℕ) (xs : List X) (i : ℕ) (x d : X) (start old new : Search) → i < length xs → x ≡ get_or xs i d → old ≡ searched (flat_map f (take i xs)) start → new ≡ searched (f x) old
    → new ≡ searched (flat_map f (take (i + 1) xs)) start
one_more {X} f xs i x d start old new lt here before step =
    let y : X = get_or xs i d in
    step ∙ (λ j. searched (f (here j)) (before j))
    ∙ sym (ap (λ (ys : List X). searched (flat_map f ys) start) (take_one xs i d lt)
    ∙ ap (λ (zs : List ℕ). searched zs start) (flat_append f (take i xs) (y ∷ []) ∙ ap (λ (zs : List ℕ). flat_map f (take i xs) ++ zs) (append-nil (f y)))
    ∙ searched_both (flat_map f (take i xs)) (f y) start)

pub method_sound : (ps : List Piece) (ms : List MethodCode) (i : ℕ) (m : MethodCode) → i < length ms → m ≡ get_or ms i m → MethodsSound ps ms → IsSoundMethod ps m
method_sound ps [] i m lt e s = absurd (omega (arith, lt))
method_sound ps (x ∷ ms) zero m lt e s = subst (IsSoundMethod ps) (sym e) s.0
method_sound ps (x ∷ ms) (suc i) m lt e s = let less : i < length ms = omega (arith, lt) in method_sound ps ms i m less e s.1
