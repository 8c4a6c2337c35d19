-- Substitution in what methods capture.
use Rattle.std.proofs.Common.{◌≡◌, ℕ, zero, suc, ◌+◌, ◌<◌, ◌||◌, Bool, true, false, List, [], ◌∷◌, ◌++◌, length, map, ◌⊎◌, refl, sym, ap, subst, ◌∙◌, inl, inr, arith}
use Rattle.asp_model.specs.Names.{Text, same_text}
use Rattle.asp_model.specs.Term.{MethodHead, Var, Make, Tree, node, none, more, leaf, loc, Environment, binders, has_text, without, variable_or, put_in, put_below}
use Rattle.code_table.specs.declared.code.Leaf.{Leaf}
use Rattle.code_table.specs.declared.code.Leaf.TheVariants as leaves
use Rattle.code_table.specs.declared.code.Capture.{Capture}
use Rattle.code_table.specs.Pieces.{Piece, variable, piece, object, Pieces, nothing, also, Bodies, no_method, method, count, heads_of, at_slot, leaf_tree, captured_trees, tree, below, bodies}
use Rattle.code_table.specs.Fitting.{slots_from, names, captured_names, text_at, leaf_name, LeafFits, CapturesFit, head_names, body_scope, body_height, Fits, AllFit, BodiesFit}
use Rattle.code_laws.proofs.TwiceLemmas.{keep, without_cons, look_without}
use Rattle.code_laws.proofs.ScopeLemmas.{names_from, names_inner, found_named}

-- Names that are taken out

pub has_append : (x : Text) (ys zs : List Text) → has_text x (ys ++ zs) ≡ (has_text x ys || has_text x zs)
has_append x [] zs = refl
has_append x (y ∷ ys) zs = elim (same_text x y) as (λ (b : Bool). (b || has_text x (ys ++ zs)) ≡ ((b || has_text x ys) || has_text x zs)) [ true ↦ refl | false ↦ has_append x ys zs ]

pub without_twice : (ys zs : List Text) (e : Environment) → without ys (without zs e) ≡ without (ys ++ zs) e
without_twice ys zs [] = refl
without_twice ys zs (b ∷ e) =
    ap (without ys) (without_cons zs b e) ∙ turn (without_twice ys zs e) (has_text b.0 zs) refl (has_text b.0 ys) refl ∙ sym (without_cons (ys ++ zs) b e)
  where
    turn : without ys (without zs e) ≡ without (ys ++ zs) e → (s : Bool) → has_text b.0 zs ≡ s → (t : Bool) → has_text b.0 ys ≡ t → without ys (keep s b (without zs e)) ≡ keep (has_text b.0 (ys ++ zs)) b (without (ys ++ zs) e)
    turn ih true p true q = ih ∙ ap (λ (t : Bool). keep t b (without (ys ++ zs) e)) (sym (has_append b.0 ys zs ∙ ap (λ (t : Bool). t || has_text b.0 zs) q))
    turn ih true p false q = ih ∙ ap (λ (t : Bool). keep t b (without (ys ++ zs) e)) (sym (has_append b.0 ys zs ∙ ap (λ (t : Bool). t || has_text b.0 zs) q ∙ p))
    turn ih false p true q = without_cons ys b (without zs e) ∙ ap (λ (t : Bool). keep t b (without ys (without zs e))) q ∙ ih ∙ ap (λ (t : Bool). keep t b (without (ys ++ zs) e)) (sym (has_append b.0 ys zs ∙ ap (λ (t : Bool). t || has_text b.0 zs) q))
    turn ih false p false q = without_cons ys b (without zs e) ∙ ap (λ (t : Bool). keep t b (without ys (without zs e))) q ∙ ap (λ (d : Environment). b ∷ d) ih ∙ ap (λ (t : Bool). keep t b (without (ys ++ zs) e)) (sym (has_append b.0 ys zs ∙ ap (λ (t : Bool). t || has_text b.0 zs) q ∙ p))

pub without_none : (e : Environment) → without [] e ≡ e
without_none [] = refl
without_none (b ∷ e) = ap (λ (d : Environment). b ∷ d) (without_none e)

-- What stands for what was captured: a location, or the variable

abbrev pub IsCaptured : Text → Tree → Type 0
IsCaptured x t = ((n : ℕ) × (t ≡ loc n)) ⊎ (t ≡ leaf (Var x))

abbrev pub AreCaptured : List Text → List Tree → Type 0
AreCaptured [] [] = Unit {0}
AreCaptured [] (t ∷ ts) = ⊥
AreCaptured (x ∷ xs) [] = ⊥
AreCaptured (x ∷ xs) (t ∷ ts) = IsCaptured x t × AreCaptured xs ts

pub places_captured : (xs : List Text) (ns : List ℕ) → length xs ≡ length ns → AreCaptured xs (map loc ns)
places_captured [] [] h = tt
places_captured [] (n ∷ ns) h = absurd (omega (arith, h))
places_captured (x ∷ xs) [] h = absurd (omega (arith, h))
places_captured (x ∷ xs) (n ∷ ns) h = let less : length xs ≡ length ns = omega (arith, h) in (inl (n, refl), places_captured xs ns less)

-- a captured name looks past what is bound within
captured_in : (inner : List Text) (e : Environment) (x : Text) (t : Tree) → IsCaptured x t → has_text x inner ≡ false → put_in (without inner e) t ≡ put_in e t
captured_in inner e x t (inl h) free = ap (put_in (without inner e)) h.1 ∙ sym (ap (put_in e) h.1)
captured_in inner e x t (inr h) free = ap (put_in (without inner e)) h ∙ ap (variable_or x) (look_without x inner false free e) ∙ sym (ap (put_in e) h)

kept_in : (xs : List Text) (ts : List Tree) (inner : List Text) (e : Environment) (k : ℕ) → AreCaptured xs ts → k < length xs → has_text (text_at k xs) inner ≡ false
    → put_in (without inner e) (at_slot k ts) ≡ at_slot k (map (put_in e) ts)
kept_in [] ts inner e k h lt f = absurd (omega (arith, lt))
kept_in (x ∷ xs) [] inner e k h lt f = absurd h
kept_in (x ∷ xs) (t ∷ ts) inner e zero h lt f = captured_in inner e x t h.0 f
kept_in (x ∷ xs) (t ∷ ts) inner e (suc k) h lt f = let less : k < length xs = omega (arith, lt) in kept_in xs ts inner e k h.1 less f

pub leaf_in : (xs : List Text) (ts : List Tree) (scope : Environment) (e : Environment) (l : Leaf) → AreCaptured xs ts → LeafFits xs scope l
    → put_in (without (names scope) e) (leaf_tree ts l) ≡ leaf_tree (map (put_in e) ts) l
leaf_in xs ts scope e (leaves.Own k x) h r = ap (variable_or x) (look_without x (names scope) true (found_named x scope k r) e)
leaf_in xs ts scope e (leaves.Kept k) h r = kept_in xs ts (names scope) e k h r.0 r.1

leaves_in : (xs : List Text) (ts : List Tree) (scope : Environment) (e : Environment) (cs : List Capture) → AreCaptured xs ts → CapturesFit xs scope cs
    → map (put_in (without (names scope) e)) (captured_trees ts cs) ≡ captured_trees (map (put_in e) ts) cs
leaves_in xs ts scope e [] h r = refl
leaves_in xs ts scope e (c ∷ cs) h r = λ i. leaf_in xs ts scope e c.leaf h r.0 i ∷ leaves_in xs ts scope e cs h r.2 i

at_captured : (xs : List Text) (ts : List Tree) (k : ℕ) → k < length xs → AreCaptured xs ts → IsCaptured (text_at k xs) (at_slot k ts)
at_captured [] ts k lt h = absurd (omega (arith, lt))
at_captured (x ∷ xs) [] k lt h = absurd h
at_captured (x ∷ xs) (t ∷ ts) zero lt h = h.0
at_captured (x ∷ xs) (t ∷ ts) (suc k) lt h = let less : k < length xs = omega (arith, lt) in at_captured xs ts k less h.1

leaf_captured : (xs : List Text) (ts : List Tree) (scope : Environment) (l : Leaf) → AreCaptured xs ts → LeafFits xs scope l → IsCaptured (leaf_name xs l) (leaf_tree ts l)
leaf_captured xs ts scope (leaves.Own k x) h r = inr refl
leaf_captured xs ts scope (leaves.Kept k) h r = at_captured xs ts k r.0 h

-- what a method captures where its object stands
pub passed_on : (xs : List Text) (ts : List Tree) (scope : Environment) (cs : List Capture) → AreCaptured xs ts → CapturesFit xs scope cs → AreCaptured (captured_names cs) (captured_trees ts cs)
passed_on xs ts scope [] h r = tt
passed_on xs ts scope (c ∷ cs) h r =
    (subst (λ (x : Text). IsCaptured x (leaf_tree ts c.leaf)) (sym r.1) (leaf_captured xs ts scope c.leaf h r.0), passed_on xs ts scope cs h r.2)

abbrev unbound : Text → List Text
unbound l = []

inner_names : (ys : List Text) (scope : Environment) (h : ℕ) (e : Environment) (t : Tree) → put_in (without ys (without (names scope) e)) t ≡ put_in (without (names (slots_from h ys ++ scope)) e) t
inner_names ys scope h e t = ap (λ (d : Environment). put_in d t) (without_twice ys (names scope) e ∙ ap (λ (zs : List Text). without zs e) (sym (names_inner h ys scope)))

body_names : (m : MethodHead) (cs : List Capture) (e : Environment) (t : Tree) → put_in (without (head_names m) e) t ≡ put_in (without (names (body_scope cs m)) e) t
body_names m cs e t = ap (λ (ys : List Text). put_in (without ys e) t) (sym (names_from (length cs) (head_names m)))

mutual
  -- to put in an environment, under the names of the scope, is to put it in what was captured
  pub captures : (p : Piece) (xs : List Text) (ts : List Tree) (scope : Environment) (h : ℕ) (e : Environment) → AreCaptured xs ts → Fits xs scope h p
      → put_in (without (names scope) e) (tree ts p) ≡ tree (map (put_in e) ts) p
  captures (variable l) xs ts scope h e a f = leaf_in xs ts scope e l a f
  captures (piece (Var x) ps) xs ts scope h e a f = absurd f.0
  captures (piece hd ps) xs ts scope h e a f = ap (node hd) (all_captures ps xs ts scope h e (binders hd) a f.2)
  captures (object ls fs ms) xs ts scope h e a f =
      ap (node (Make ls (heads_of ms))) (fields_captures fs ls ms xs ts scope h e a f.0 f.1 (bodies_captures ms xs ts scope e a f.2))

  pub all_captures : (ps : Pieces) (xs : List Text) (ts : List Tree) (scope : Environment) (h : ℕ) (e : Environment) (bound : List (List Text)) → AreCaptured xs ts → AllFit xs scope h bound ps
      → put_below (without (names scope) e) bound (below ts ps none) ≡ below (map (put_in e) ts) ps none
  all_captures nothing xs ts scope h e bound a f = refl
  all_captures (also p ps) xs ts scope h e [] a f = λ i. more (captures p xs ts scope h e a f.0 i) (all_captures ps xs ts scope h e [] a f.1 i)
  all_captures (also p ps) xs ts scope h e (ys ∷ bound) a f =
      λ i. more ((inner_names ys scope h e (tree ts p) ∙ captures p xs ts (slots_from h ys ++ scope) (h + length ys) e a f.0) i) (all_captures ps xs ts scope h e bound a f.1 i)

  fields_captures : (fs : Pieces) (ls : List Text) (ms : Bodies) (xs : List Text) (ts : List Tree) (scope : Environment) (h : ℕ) (e : Environment) → AreCaptured xs ts → length ls ≡ count fs → AllFit xs scope h [] fs
      → put_below (without (names scope) e) (map head_names (heads_of ms)) (bodies ts ms) ≡ bodies (map (put_in e) ts) ms
      → put_below (without (names scope) e) (map unbound ls ++ map head_names (heads_of ms)) (below ts fs (bodies ts ms)) ≡ below (map (put_in e) ts) fs (bodies (map (put_in e) ts) ms)
  fields_captures nothing [] ms xs ts scope h e a n f g = g
  fields_captures nothing (l ∷ ls) ms xs ts scope h e a n f g = absurd (omega (arith, n))
  fields_captures (also p ps) [] ms xs ts scope h e a n f g = absurd (omega (arith, n))
  fields_captures (also p ps) (l ∷ ls) ms xs ts scope h e a n f g =
      let less : length ls ≡ count ps = omega (arith, n) in
      λ i. more ((ap (λ (d : Environment). put_in d (tree ts p)) (without_none (without (names scope) e)) ∙ captures p xs ts scope h e a f.0) i) (fields_captures ps ls ms xs ts scope h e a less f.1 g i)

  bodies_captures : (ms : Bodies) (xs : List Text) (ts : List Tree) (scope : Environment) (e : Environment) → AreCaptured xs ts → BodiesFit xs scope ms
      → put_below (without (names scope) e) (map head_names (heads_of ms)) (bodies ts ms) ≡ bodies (map (put_in e) ts) ms
  bodies_captures no_method xs ts scope e a f = refl
  bodies_captures (method m cs b ms) xs ts scope e a f =
      λ i. more ((body_names m cs (without (names scope) e) (tree (captured_trees ts cs) b)
      ∙ captures b (captured_names cs) (captured_trees ts cs) (body_scope cs m) (body_height cs m) (without (names scope) e) (passed_on xs ts scope cs a f.0) f.1
      ∙ ap (λ (us : List Tree). tree us b) (leaves_in xs ts scope e cs a f.0)) i) (bodies_captures ms xs ts scope e a f.2 i)
