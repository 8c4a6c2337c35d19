-- Terms that are shown without their scope.
use Rattle.std.proofs.Common.{◌≡◌, ℕ, zero, suc, ◌+◌, ◌<◌, ◌≤◌, Bool, true, false, T, List, [], ◌∷◌, ◌++◌, Option, Some, None, cond, length, map, take, drop, get_or, refl, sym, ap, subst, ◌∙◌, arith, append_assoc}
use Rattle.std.proofs.lemmas.List.{length-map, length-take-le}
use Rattle.asp_model.specs.Names.{Text, same_text}
use Rattle.asp_model.specs.Term.{MethodHead, Var, Hole, Make, Tree, Trees, node, none, more, leaf, loc, Environment, binders, has_text, location_of, without, variable_or, put_in, put_below}
use Rattle.code_table.specs.declared.code.Leaf.{Leaf}
use Rattle.code_table.specs.declared.code.Leaf.TheVariants as leaves
use Rattle.code_table.specs.declared.code.Capture.{Capture}
use Rattle.code_table.specs.Pieces.{Piece, variable, piece, object, Pieces, nothing, also, Bodies, no_method, method, count, heads_of, at_slot, leaf_tree, captured_trees, tree, below, bodies}
use Rattle.code_table.specs.Fitting.{slots_from, names, placed, captured_names, head_names, body_scope, body_height, LeafFits, CapturesFit, Fits, AllFit, BodiesFit, Under, Runs, term_in}
use Rattle.code_laws.specs.Nodes.{IsTerm, head_in, terms_below, rest, behind_in}
use Rattle.code_laws.specs.Shown.{tree_or, shown_leaf, shown_captures, shown, shown_below, shown_bodies, shown_terms}
use Rattle.code_laws.proofs.TwiceLemmas.{look, look_cons, or_else, look_append, look_without, named_found}
use Rattle.code_laws.proofs.ScopeLemmas.{in_slot, located, names_from, names_inner, found_named, found_under}
use Rattle.code_laws.proofs.CaptureLemmas.{AreCaptured, places_captured, passed_on, captures, without_twice, without_none}
use Rattle.code_laws.proofs.MakeLemmas.{kept_at}
use Rattle.code_laws.proofs.TurnLemmas.{begins}
use Rattle.std.proofs.Math.Seq.{drop-nil}

-- Slots from a height on

abbrev pub Over : ℕ → Environment → Type 0
Over h [] = Unit {0}
Over h (b ∷ bs) = (h ≤ b.1) × Over h bs

pub over_from : (h n : ℕ) (xs : List Text) → n ≤ h → Over n (slots_from h xs)
over_from h n [] le = tt
over_from h n (x ∷ xs) le = let more : n ≤ suc h = omega (arith, le) in (le, over_from (suc h) n xs more)

over_append : (n : ℕ) (d e : Environment) → Over n d → Over n e → Over n (d ++ e)
over_append n [] e u v = v
over_append n (b ∷ d) e u v = (u.0, over_append n d e u.1 v)

found_over : (x : Text) (n : ℕ) (scope : Environment) (k : ℕ) → Over n scope → location_of x scope ≡ Some k → n ≤ k
found_over x n [] k o e = absurd (subst T (ap is_none e) tt)
  where
    is_none : Option ℕ → Bool
    is_none None = true
    is_none (Some n) = false
found_over x n (b ∷ bs) k o e = turn (same_text x b.0) (sym (look_cons x b bs) ∙ e) (found_over x n bs k o.1)
  where
    value : Option ℕ → ℕ
    value None = 0
    value (Some m) = m

    turn : (t : Bool) → look t b.1 (location_of x bs) ≡ Some k → (location_of x bs ≡ Some k → n ≤ k) → n ≤ k
    turn true q ih = subst (λ (m : ℕ). n ≤ m) (ap value q) o.0
    turn false q ih = ih q

-- Trees by number

or_past : (d : Tree) (k : ℕ) (ts : List Tree) → length ts ≤ k → tree_or d k ts ≡ d
or_past d k [] le = refl
or_past d zero (t ∷ ts) le = absurd (omega (arith, le))
or_past d (suc k) (t ∷ ts) le = let less : length ts ≤ k = omega (arith, le) in or_past d k ts less

or_place : (d : Tree) (k : ℕ) (ns : List ℕ) → k < length ns → tree_or d k (map loc ns) ≡ loc (get_or ns k 0)
or_place d k [] lt = absurd (omega (arith, lt))
or_place d zero (n ∷ ns) lt = refl
or_place d (suc k) (n ∷ ns) lt = let less : k < length ns = omega (arith, lt) in or_place d k ns less

or_hole : (k : ℕ) (ts : List Tree) → tree_or (leaf Hole) k ts ≡ at_slot k ts
or_hole k [] = refl
or_hole zero (t ∷ ts) = refl
or_hole (suc k) (t ∷ ts) = or_hole k ts

-- Bodies over what they captured

leaf_over : (xs : List Text) (scope : Environment) (us : List Tree) (l : Leaf) → Over (length us) scope → LeafFits xs scope l → shown_leaf us l ≡ leaf_tree us l
leaf_over xs scope us (leaves.Own k x) o f = or_past (leaf (Var x)) k us (found_over x (length us) scope k o f)
leaf_over xs scope us (leaves.Kept k) o f = or_hole k us

leaves_over : (xs : List Text) (scope : Environment) (us : List Tree) (cs : List Capture) → Over (length us) scope → CapturesFit xs scope cs → shown_captures us cs ≡ captured_trees us cs
leaves_over xs scope us [] o f = refl
leaves_over xs scope us (c ∷ cs) o f = λ i. leaf_over xs scope us c.leaf o f.0 i ∷ leaves_over xs scope us cs o f.2 i

captured_count : (us : List Tree) (cs : List Capture) → length (captured_trees us cs) ≡ length cs
captured_count us cs = length-map cs (λ c. leaf_tree us c.leaf)

inner_over : (us : List Tree) (scope : Environment) (h : ℕ) (ys : List Text) → length us ≤ h → Over (length us) scope → Over (length us) (slots_from h ys ++ scope)
inner_over us scope h ys le o = over_append (length us) (slots_from h ys) scope (over_from h (length us) ys le) o

mutual
  -- a piece whose own slots stand behind what was captured
  pub shown_over : (p : Piece) (xs : List Text) (scope : Environment) (h : ℕ) (us : List Tree) → length us ≤ h → Over (length us) scope → Fits xs scope h p → shown us p ≡ tree us p
  shown_over (variable l) xs scope h us le o f = leaf_over xs scope us l o f
  shown_over (piece hd ps) xs scope h us le o f = ap (node hd) (below_over ps xs scope h us (binders hd) none le o f.2)
  shown_over (object ls fs ms) xs scope h us le o f =
      ap (node (Make ls (heads_of ms))) (below_over fs xs scope h us [] (shown_bodies us ms) le o f.1 ∙ ap (below us fs) (bodies_over ms xs scope us o f.2))

  below_over : (ps : Pieces) (xs : List Text) (scope : Environment) (h : ℕ) (us : List Tree) (bound : List (List Text)) (rs : Trees) → length us ≤ h → Over (length us) scope → AllFit xs scope h bound ps
      → shown_below us ps rs ≡ below us ps rs
  below_over nothing xs scope h us bound rs le o f = refl
  below_over (also p ps) xs scope h us [] rs le o f = λ i. more (shown_over p xs scope h us le o f.0 i) (below_over ps xs scope h us [] rs le o f.1 i)
  below_over (also p ps) xs scope h us (ys ∷ bound) rs le o f =
      let higher : length us ≤ h + length ys = omega (arith, le) in
      λ i. more (shown_over p xs (slots_from h ys ++ scope) (h + length ys) us higher (inner_over us scope h ys le o) f.0 i) (below_over ps xs scope h us bound rs le o f.1 i)

  bodies_over : (ms : Bodies) (xs : List Text) (scope : Environment) (us : List Tree) → Over (length us) scope → BodiesFit xs scope ms → shown_bodies us ms ≡ bodies us ms
  bodies_over no_method xs scope us o f = refl
  bodies_over (method m cs b ms) xs scope us o f =
      let vs : List Tree = captured_trees us cs in
      let size : length vs ≡ length cs = captured_count us cs in
      let low : length vs ≤ length cs = omega (arith, size) in
      let high : length vs ≤ body_height cs m = omega (arith, size) in
      λ i. more ((ap (λ (ts : List Tree). shown ts b) (leaves_over xs scope us cs o f.0)
      ∙ shown_over b (captured_names cs) (body_scope cs m) (body_height cs m) vs high (over_from (length cs) (length vs) (head_names m) low) f.1) i) (bodies_over ms xs scope us o f.2 i)

-- Pieces in an environment

abbrev is_named : Option ℕ → Bool
is_named None = false
is_named (Some n) = true

-- a name that is bound within stays, and another one stands for its place
own_in : (x : Text) (k : ℕ) (ns : List ℕ) (scope inner : Environment) → Under (length ns) scope → Over (length ns) inner → location_of x (inner ++ scope) ≡ Some k
    → variable_or x (location_of x (without (names inner) (placed ns scope))) ≡ tree_or (leaf (Var x)) k (map loc ns)
own_in x k ns scope inner u o f =
    ap (variable_or x) (look_without x (names inner) (has_text x (names inner)) refl (placed ns scope)) ∙ turn (location_of x inner) refl (has_text x (names inner)) refl (sym (look_append x inner scope) ∙ f)
  where
    turn : (q : Option ℕ) → location_of x inner ≡ q → (t : Bool) → has_text x (names inner) ≡ t → or_else q (location_of x scope) ≡ Some k
        → variable_or x (cond t None (location_of x (placed ns scope))) ≡ tree_or (leaf (Var x)) k (map loc ns)
    turn (Some j) e false h g = absurd (subst T (sym (found_named x inner j e) ∙ h) tt)
    turn (Some j) e true h g =
        let past : length ns ≤ k = found_over x (length ns) inner k o (e ∙ g) in
        let size : length (map loc ns) ≡ length ns = length-map ns loc in
        let far : length (map loc ns) ≤ k = omega (arith, past, size) in sym (or_past (leaf (Var x)) k (map loc ns) far)
    turn None e true h g =
        let none_found : Some 0 ≡ None = subst (λ (q : Option ℕ). or_else q (Some 0) ≡ q) e (named_found x inner h (Some 0)) in
        absurd (subst T (ap is_named none_found) tt)
    turn None e false h g = ap (variable_or x) (located x ns scope ∙ ap (in_slot ns) g) ∙ sym (or_place (leaf (Var x)) k ns (found_under x (length ns) scope k u g))

leaf_put : (xs : List Text) (ns : List ℕ) (scope inner : Environment) (l : Leaf) → length xs ≤ length ns → Under (length ns) scope → Over (length ns) inner → LeafFits xs (inner ++ scope) l
    → put_in (without (names inner) (placed ns scope)) (leaf_tree (map loc (take (length xs) ns)) l) ≡ shown_leaf (map loc ns) l
leaf_put xs ns scope inner (leaves.Own k x) low u o f = own_in x k ns scope inner u o f
leaf_put xs ns scope inner (leaves.Kept k) low u o f =
    let less : k < length xs = f.0 in
    let within : k < length ns = omega (arith, less, low) in
    ap (put_in (without (names inner) (placed ns scope))) (kept_at ns (length xs) k less low) ∙ sym (or_place (leaf Hole) k ns within)

leaves_put : (xs : List Text) (ns : List ℕ) (scope inner : Environment) (cs : List Capture) → length xs ≤ length ns → Under (length ns) scope → Over (length ns) inner → CapturesFit xs (inner ++ scope) cs
    → map (put_in (without (names inner) (placed ns scope))) (captured_trees (map loc (take (length xs) ns)) cs) ≡ shown_captures (map loc ns) cs
leaves_put xs ns scope inner [] low u o f = refl
leaves_put xs ns scope inner (c ∷ cs) low u o f = λ i. leaf_put xs ns scope inner c.leaf low u o f.0 i ∷ leaves_put xs ns scope inner cs low u o f.2 i

abbrev unbound : Text → List Text
unbound l = []

-- the names bound within, with those of one more node
inner_env : (ys : List Text) (inner : Environment) (h : ℕ) (e : Environment) (t : Tree) → put_in (without ys (without (names inner) e)) t ≡ put_in (without (names (slots_from h ys ++ inner)) e) t
inner_env ys inner h e t = ap (λ (d : Environment). put_in d t) (without_twice ys (names inner) e ∙ ap (λ (zs : List Text). without zs e) (sym (names_inner h ys inner)))

inner_fits : (xs : List Text) (ys : List Text) (inner scope : Environment) (h k : ℕ) (p : Piece) → Fits xs (slots_from h ys ++ (inner ++ scope)) k p → Fits xs ((slots_from h ys ++ inner) ++ scope) k p
inner_fits xs ys inner scope h k p f = subst (λ (d : Environment). Fits xs d k p) (sym (append_assoc (slots_from h ys) inner scope)) f

-- a method's body, whatever of what it captures is bound
body_put : (m : MethodHead) (cs : List Capture) (b : Piece) (xs : List Text) (ns : List ℕ) (scope inner : Environment) → length xs ≤ length ns → Under (length ns) scope → Over (length ns) inner
    → BodiesFit xs (inner ++ scope) (method m cs b no_method)
    → put_in (without (head_names m) (without (names inner) (placed ns scope))) (tree (captured_trees (map loc (take (length xs) ns)) cs) b) ≡ shown (shown_captures (map loc ns) cs) b
body_put m cs b xs ns scope inner low u o f =
    let e : Environment = without (names inner) (placed ns scope) in
    let kept : List ℕ = take (length xs) ns in
    let size : length xs ≡ length kept = sym (length-take-le (length xs) ns low) in
    let are : AreCaptured (captured_names cs) (captured_trees (map loc kept) cs) = passed_on xs (map loc kept) (inner ++ scope) cs (places_captured xs kept size) f.0 in
    let us : List Tree = shown_captures (map loc ns) cs in
    let count : length us ≡ length cs = length-map cs (λ c. shown_leaf (map loc ns) c.leaf) in
    let at_most : length us ≤ length cs = omega (arith, count) in
    let high : length us ≤ body_height cs m = omega (arith, count) in
    ap (λ (ys : List Text). put_in (without ys e) (tree (captured_trees (map loc kept) cs) b)) (sym (names_from (length cs) (head_names m)))
    ∙ captures b (captured_names cs) (captured_trees (map loc kept) cs) (body_scope cs m) (body_height cs m) e are f.1
    ∙ ap (λ (ts : List Tree). tree ts b) (leaves_put xs ns scope inner cs low u o f.0)
    ∙ sym (shown_over b (captured_names cs) (body_scope cs m) (body_height cs m) us high (over_from (length cs) (length us) (head_names m) at_most) f.1)

mutual
  pub shown_put : (p : Piece) (xs : List Text) (ns : List ℕ) (scope inner : Environment) (h : ℕ) → length xs ≤ length ns → Under (length ns) scope → length ns ≤ h → Over (length ns) inner → Fits xs (inner ++ scope) h p
      → put_in (without (names inner) (placed ns scope)) (tree (map loc (take (length xs) ns)) p) ≡ shown (map loc ns) p
  shown_put (variable l) xs ns scope inner h low u le o f = leaf_put xs ns scope inner l low u o f
  shown_put (piece (Var x) ps) xs ns scope inner h low u le o f = absurd f.0
  shown_put (piece hd ps) xs ns scope inner h low u le o f = ap (node hd) (below_put ps xs ns scope inner h (binders hd) low u le o f.2)
  shown_put (object ls fs ms) xs ns scope inner h low u le o f =
      ap (node (Make ls (heads_of ms))) (fields_put fs ls ms xs ns scope inner h low u le o f.0 f.1 (bodies_put ms xs ns scope inner low u o f.2))

  below_put : (ps : Pieces) (xs : List Text) (ns : List ℕ) (scope inner : Environment) (h : ℕ) (bound : List (List Text)) → length xs ≤ length ns → Under (length ns) scope → length ns ≤ h → Over (length ns) inner → AllFit xs (inner ++ scope) h bound ps
      → put_below (without (names inner) (placed ns scope)) bound (below (map loc (take (length xs) ns)) ps none) ≡ shown_below (map loc ns) ps none
  below_put nothing xs ns scope inner h bound low u le o f = refl
  below_put (also p ps) xs ns scope inner h [] low u le o f = λ i. more (shown_put p xs ns scope inner h low u le o f.0 i) (below_put ps xs ns scope inner h [] low u le o f.1 i)
  below_put (also p ps) xs ns scope inner h (ys ∷ bound) low u le o f =
      let higher : length ns ≤ h + length ys = omega (arith, le) in
      λ i. more ((inner_env ys inner h (placed ns scope) (tree (map loc (take (length xs) ns)) p)
      ∙ shown_put p xs ns scope (slots_from h ys ++ inner) (h + length ys) low u higher (over_append (length ns) (slots_from h ys) inner (over_from h (length ns) ys le) o) (inner_fits xs ys inner scope h (h + length ys) p f.0)) i)
      (below_put ps xs ns scope inner h bound low u le o f.1 i)

  fields_put : (fs : Pieces) (ls : List Text) (ms : Bodies) (xs : List Text) (ns : List ℕ) (scope inner : Environment) (h : ℕ) → length xs ≤ length ns → Under (length ns) scope → length ns ≤ h → Over (length ns) inner
      → length ls ≡ count fs → AllFit xs (inner ++ scope) h [] fs
      → put_below (without (names inner) (placed ns scope)) (map head_names (heads_of ms)) (bodies (map loc (take (length xs) ns)) ms) ≡ shown_bodies (map loc ns) ms
      → put_below (without (names inner) (placed ns scope)) (map unbound ls ++ map head_names (heads_of ms)) (below (map loc (take (length xs) ns)) fs (bodies (map loc (take (length xs) ns)) ms)) ≡ shown_below (map loc ns) fs (shown_bodies (map loc ns) ms)
  fields_put nothing [] ms xs ns scope inner h low u le o n f g = g
  fields_put nothing (l ∷ ls) ms xs ns scope inner h low u le o n f g = absurd (omega (arith, n))
  fields_put (also p ps) [] ms xs ns scope inner h low u le o n f g = absurd (omega (arith, n))
  fields_put (also p ps) (l ∷ ls) ms xs ns scope inner h low u le o n f g =
      let less : length ls ≡ count ps = omega (arith, n) in
      λ i. more ((ap (λ (d : Environment). put_in d (tree (map loc (take (length xs) ns)) p)) (without_none (without (names inner) (placed ns scope))) ∙ shown_put p xs ns scope inner h low u le o f.0) i)
      (fields_put ps ls ms xs ns scope inner h low u le o less f.1 g i)

  bodies_put : (ms : Bodies) (xs : List Text) (ns : List ℕ) (scope inner : Environment) → length xs ≤ length ns → Under (length ns) scope → Over (length ns) inner → BodiesFit xs (inner ++ scope) ms
      → put_below (without (names inner) (placed ns scope)) (map head_names (heads_of ms)) (bodies (map loc (take (length xs) ns)) ms) ≡ shown_bodies (map loc ns) ms
  bodies_put no_method xs ns scope inner low u o f = refl
  bodies_put (method m cs b ms) xs ns scope inner low u o f = λ i. more (body_put m cs b xs ns scope inner low u o (f.0, f.1, tt) i) (bodies_put ms xs ns scope inner low u o f.2 i)

-- a piece that runs in an environment is shown as its term
pub shown_is : (xs : List Text) (scope : Environment) (ns : List ℕ) (p : Piece) → Runs xs scope ns p → term_in xs scope ns p ≡ shown (map loc ns) p
shown_is xs scope ns p r =
    let same : length ns ≤ length ns = omega arith in
    ap (λ (d : Environment). put_in d (tree (map loc (take (length xs) ns)) p)) (sym (without_none (placed ns scope)))
    ∙ shown_put p xs ns scope [] (length ns) r.low r.within same tt r.fits

-- What stands behind the first terms of a node

abbrev terms_of : Tree → Trees
terms_of (node h ts) = ts

rest_nil : (n : ℕ) → rest n none ≡ none
rest_nil zero = refl
rest_nil (suc n) = refl

rest_put : (e : Environment) (bound : List (List Text)) (n : ℕ) (ts : Trees) → put_below e (drop n bound) (rest n ts) ≡ rest n (put_below e bound ts)
rest_put e bound zero ts = refl
rest_put e bound (suc n) none = refl
rest_put e [] (suc n) (more t ts) = ap (λ (b : List (List Text)). put_below e b (rest n ts)) (sym (drop-nil n)) ∙ rest_put e [] n ts
rest_put e (ys ∷ bound) (suc n) (more t ts) = rest_put e bound n ts

pub shown_node : (ts : List Tree) (p : Piece) → IsTerm p → terms_of (shown ts p) ≡ shown_terms ts p
shown_node ts (variable l) t = absurd t
shown_node ts (piece h ps) t = refl
shown_node ts (object ls fs ms) t = refl

pub behind_is : (xs : List Text) (scope : Environment) (ns : List ℕ) (p : Piece) (n : ℕ) → IsTerm p → Runs xs scope ns p → behind_in xs scope ns p n ≡ rest n (shown_terms (map loc ns) p)
behind_is xs scope ns p n t r =
    rest_put (placed ns scope) (binders (head_in p)) n (terms_below (map loc (take (length xs) ns)) p)
    ∙ ap (rest n) (ap terms_of (sym (begins xs scope ns p t r) ∙ shown_is xs scope ns p r) ∙ shown_node (map loc ns) p t)
