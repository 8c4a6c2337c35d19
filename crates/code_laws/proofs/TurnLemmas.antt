-- A node in turn: it begins with none of its terms done, each next one stands in a context, and with all of them it is a redex.
use Rattle.std.proofs.Common.{◌≡◌, ℕ, suc, ◌+◌, ◌<◌, ◌≤◌, false, List, [], ◌∷◌, ◌++◌, length, map, take, drop, inl, refl, sym, ap, subst, ◌∙◌, arith, length-append}
use Rattle.asp_model.specs.Names.{Text}
use Rattle.asp_model.specs.Term.{Head, Loc, Var, Make, Tree, Trees, node, none, more, loc, locs_then, child_count, Environment, binders, put_below}
use Rattle.asp_model.specs.Split.{Context, Splits, split, plug, plugged, reduced_count}
use Rattle.code_table.specs.declared.code.Leaf.{Leaf}
use Rattle.code_table.specs.Pieces.{Piece, variable, piece, object, Pieces, count, heads_of, below, bodies}
use Rattle.code_table.specs.Fitting.{placed, head_names, IsNode, Runs, term_in}
use Rattle.code_laws.specs.Places.{leaf_place}
use Rattle.code_laws.specs.Nodes.{IsTerm, head_in, parts, nth, in_place, rest, behind_in, redex_in, context_in}
use Rattle.code_laws.specs.Splitting.{redex_node, is_loc, IsRedex, IsContext, AreContexts}
use Rattle.code_laws.proofs.MakeLemmas.{leaf_here, rest_all}
use Rattle.code_laws.proofs.OpenLemmas.{count_below, count_put, count_rest, count_locs, reduced_same, in_place_within, none_first, nothing_bound, fields_bound, part_runs, part_term}
use Rattle.code_laws.proofs.SplitLemmas.{locs_snoc, splits_one_way}

-- a variable's term is the place in its slot
pub leaf_term : (xs : List Text) (scope : Environment) (ns : List ℕ) (l : Leaf) → Runs xs scope ns (variable l) → term_in xs scope ns (variable l) ≡ loc (leaf_place ns l)
leaf_term xs scope ns l r = leaf_here l xs scope ns r.low r.fits

-- a node begins with none of its terms done
pub begins : (xs : List Text) (scope : Environment) (ns : List ℕ) (p : Piece) → IsTerm p → Runs xs scope ns p → term_in xs scope ns p ≡ redex_node (redex_in xs scope ns p [])
begins xs scope ns (variable l) t r = absurd t
begins xs scope ns (piece (Var x) ps) t r = absurd r.fits.0
begins xs scope ns (piece hd ps) t r = refl
begins xs scope ns (object ls fs ms) t r = refl

-- the next term that is reduced in place runs where the node runs
pub child_runs : (xs : List Text) (scope : Environment) (ns : List ℕ) (p : Piece) (n : ℕ) → Runs xs scope ns p → n < in_place p → Runs xs scope ns (nth n (parts p))
child_runs xs scope ns (variable l) n r lt = absurd (omega (arith, lt))
child_runs xs scope ns (piece hd ps) n r lt =
    let within : reduced_count hd (below [] ps none) ≤ count ps = in_place_within hd ps r.fits.0 r.fits.1 in
    let less : n < count ps = omega (arith, lt, within) in
    part_runs xs scope ns (binders hd) ps n r.low r.within r.fits.2 less (nothing_bound hd (below [] ps none) n r.fits.0 lt)
child_runs xs scope ns (object ls fs ms) n r lt = part_runs xs scope ns [] fs n r.low r.within r.fits.1 lt (none_first n)

-- what stands behind n terms is the next one, and what stands behind that
pub next_behind : (xs : List Text) (scope : Environment) (ns : List ℕ) (p : Piece) (n : ℕ) → Runs xs scope ns p → n < in_place p
    → behind_in xs scope ns p n ≡ more (term_in xs scope ns (nth n (parts p))) (behind_in xs scope ns p (suc n))
next_behind xs scope ns (variable l) n r lt = absurd (omega (arith, lt))
next_behind xs scope ns (piece hd ps) n r lt =
    let within : reduced_count hd (below [] ps none) ≤ count ps = in_place_within hd ps r.fits.0 r.fits.1 in
    let less : n < count ps = omega (arith, lt, within) in
    part_term xs scope ns (binders hd) ps none n less (nothing_bound hd (below [] ps none) n r.fits.0 lt)
next_behind xs scope ns (object ls fs ms) n r lt =
    let size : length ls ≡ count fs = r.fits.0 in
    let less : n < length ls = omega (arith, lt, size) in
    part_term xs scope ns (binders (Make ls (heads_of ms))) fs (bodies (map loc (take (length xs) ns)) ms) n lt (fields_bound ls (map head_names (heads_of ms)) n less)

-- the next term stands in its context
pub opens : (xs : List Text) (scope : Environment) (ns : List ℕ) (p : Piece) (done : List ℕ) → Runs xs scope ns p → length done < in_place p
    → redex_node (redex_in xs scope ns p done) ≡ plugged (context_in xs scope ns p done) (term_in xs scope ns (nth (length done) (parts p)))
opens xs scope ns p done r lt = ap (λ (us : Trees). node (head_in p) (locs_then done us)) (next_behind xs scope ns p (length done) r lt)

size_more : (done : List ℕ) (n : ℕ) → suc (length done) ≡ length (done ++ n ∷ [])
size_more done n = let longer : length (done ++ n ∷ []) ≡ length done + 1 = length-append done (n ∷ []) in omega (arith, longer)

-- one more term is done
pub goes_on : (xs : List Text) (scope : Environment) (ns : List ℕ) (p : Piece) (done : List ℕ) (n : ℕ) → plugged (context_in xs scope ns p done) (loc n) ≡ redex_node (redex_in xs scope ns p (done ++ n ∷ []))
goes_on xs scope ns p done n =
    ap (node (head_in p)) (sym (locs_snoc done n (behind_in xs scope ns p (suc (length done)))) ∙ ap (λ (k : ℕ). locs_then (done ++ n ∷ []) (behind_in xs scope ns p k)) (size_more done n))

-- behind all terms of a node stands nothing
pub none_behind : (xs : List Text) (scope : Environment) (ns : List ℕ) (h : Head) (ps : Pieces) (n : ℕ) → n ≡ count ps → behind_in xs scope ns (piece h ps) n ≡ none
none_behind xs scope ns h ps n e =
    let ts : List Tree = map loc (take (length xs) ns) in
    ap (λ (us : Trees). put_below (placed ns scope) (drop n (binders h)) us) (ap (λ (k : ℕ). rest k (below ts ps none)) e ∙ rest_all ts ps none)

-- Splitting

count_behind : (xs : List Text) (scope : Environment) (ns : List ℕ) (h : Head) (ps : Pieces) (n : ℕ) → n ≤ count ps → n + child_count (behind_in xs scope ns (piece h ps) n) ≡ child_count (below [] ps none)
count_behind xs scope ns h ps n le =
    let ts : List Tree = map loc (take (length xs) ns) in
    let all : child_count (below ts ps none) ≡ count ps + 0 = count_below ts ps none in
    let also_all : child_count (below [] ps none) ≡ count ps + 0 = count_below [] ps none in
    let within : n ≤ child_count (below ts ps none) = omega (arith, all, le) in
    ap (λ (k : ℕ). n + k) (count_put (placed ns scope) (drop n (binders h)) (rest n (below ts ps none))) ∙ count_rest n (below ts ps none) within ∙ all ∙ sym also_all

no_loc : (h : Head) → IsNode h → is_loc h ≡ false
no_loc (Loc n) i = absurd i
no_loc h i = refl

-- a node whose terms that are reduced in place are done is a redex
pub is_redex : (xs : List Text) (scope : Environment) (ns : List ℕ) (p : Piece) (done : List ℕ) → IsTerm p → Runs xs scope ns p → length done ≡ in_place p → IsRedex (redex_in xs scope ns p done)
is_redex xs scope ns (variable l) done t r e = absurd t
is_redex xs scope ns (piece h ps) done t r e =
    let within : reduced_count h (below [] ps none) ≤ count ps = in_place_within h ps r.fits.0 r.fits.1 in
    let le : length done ≤ count ps = omega (arith, within, e) in
    let behind : Trees = behind_in xs scope ns (piece h ps) (length done) in
    (no_loc h r.fits.0, inl (reduced_same h (locs_then done behind) (below [] ps none) (count_locs done behind ∙ count_behind xs scope ns h ps (length done) le) ∙ sym e))
is_redex xs scope ns (object ls fs ms) done t r e = (refl, inl (r.fits.0 ∙ sym e))

-- else it is the context of the next one
pub is_context : (xs : List Text) (scope : Environment) (ns : List ℕ) (p : Piece) (done : List ℕ) → Runs xs scope ns p → length done < in_place p → IsContext (context_in xs scope ns p done)
is_context xs scope ns (variable l) done r lt = absurd (omega (arith, lt))
is_context xs scope ns (piece h ps) done r lt =
    let within : reduced_count h (below [] ps none) ≤ count ps = in_place_within h ps r.fits.0 r.fits.1 in
    let le : suc (length done) ≤ count ps = omega (arith, lt, within) in
    let behind : Trees = behind_in xs scope ns (piece h ps) (suc (length done)) in
    let all : suc (length done) + child_count behind ≡ child_count (below [] ps none) = count_behind xs scope ns h ps (suc (length done)) le in
    let locs : child_count (locs_then done (more (loc 0) behind)) ≡ length done + suc (child_count behind) = count_locs done (more (loc 0) behind) in
    let same : child_count (locs_then done (more (loc 0) behind)) ≡ child_count (below [] ps none) = omega (arith, all, locs) in
    subst (λ (k : ℕ). length done < k) (sym (reduced_same h (locs_then done (more (loc 0) behind)) (below [] ps none) same)) lt
is_context xs scope ns (object ls fs ms) done r lt = subst (λ (k : ℕ). length done < k) (sym r.fits.0) lt

-- the whole term splits into that redex in these contexts
pub splits_here : (contexts : List Context) (xs : List Text) (scope : Environment) (ns : List ℕ) (p : Piece) (done : List ℕ) → AreContexts contexts → IsTerm p → Runs xs scope ns p → length done ≡ in_place p
    → split (plug contexts (redex_node (redex_in xs scope ns p done))) ≡ Splits contexts (redex_in xs scope ns p done)
splits_here contexts xs scope ns p done are t r e = splits_one_way contexts (redex_in xs scope ns p done) are (is_redex xs scope ns p done t r e)

-- a node has as many terms as are reduced in place
pub in_place_most : (xs : List Text) (scope : Environment) (ns : List ℕ) (p : Piece) → Runs xs scope ns p → in_place p ≤ count (parts p)
in_place_most xs scope ns (variable l) r = omega arith
in_place_most xs scope ns (piece hd ps) r = in_place_within hd ps r.fits.0 r.fits.1
in_place_most xs scope ns (object ls fs ms) r = omega arith
