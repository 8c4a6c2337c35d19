-- What was compiled for a redex or a context stands for it in its environment.
use Rattle.std.proofs.Common.{◌≡◌, Bool, true, false, ℕ, zero, suc, ◌+◌, ◌<◌, ◌≤◌, ◌⊎◌, List, [], ◌∷◌, ◌++◌, length, map, take, drop, inl, inr, ⊎_elim, refl, sym, ap, subst, ◌∙◌, arith, length-append}
use Rattle.std.proofs.lemmas.List.{take_all}
use Rattle.asp_model.specs.Names.{Text}
use Rattle.asp_model.specs.Shapes.{tree_of}
use Rattle.asp_model.specs.Term.{Head, Var, Make, Tree, Trees, node, none, more, leaf, loc, locs_then, child_count, Environment, binders, without, put_in, put_below}
use Rattle.asp_model.specs.Split.{Context, Redex, reduced_count}
use Rattle.code_table.specs.declared.code.Node.{Node}
use Rattle.code_table.specs.declared.code.Child.{Child}
use Rattle.code_table.specs.declared.code.Child.TheVariants as child
use Rattle.code_table.specs.declared.code.Leaf.{Leaf}
use Rattle.code_table.specs.declared.code.Leaf.TheVariants as leaves
use Rattle.code_table.specs.Pieces.{Piece, variable, piece, object, Pieces, Bodies, at_slot, leaf_tree, count, heads_of, tree, below, bodies}
use Rattle.code_table.specs.Fitting.{Fits, LeafFits, Under, Runs, term_in, placed}
use Rattle.code_table.specs.Sound.{root_of}
use Rattle.code_table.specs.Tables.{piece_at, piece_of, pieces}
use Rattle.code_table.proofs.GrowthLemmas.{number_kept}
use Rattle.code_laws.specs.Nodes.{IsTerm, head_in, in_place, rest, terms_below, behind_in, redex_in, context_in}
use Rattle.code_laws.specs.Splitting.{redex_node, IsContext, IsRedex}
use Rattle.code_laws.proofs.CaptureLemmas.{AreCaptured, places_captured, captures}
use Rattle.code_laws.proofs.NodeLemmas.{is_term}
use Rattle.code_laws.proofs.OpenLemmas.{count_below, count_put, count_locs, reduced_same}
use Rattle.step_machine.specs.Stacks.{IsWaiting}
use Rattle.step_machine.specs.Standing.{IsBegun}
use Rattle.code_compiler.specs.Compiled.{Adds, Body, EndsTable, Grows, variables}
use Rattle.code_compiler.proofs.AddLemmas.{OnePiece, one_piece}
use Rattle.frozen_code.specs.Named.{places_named, AreApart, named}
use Rattle.frozen_code.specs.Held.{filler, filled, context_left, redex_left, is_variable, IsOpened, IsCompiled, IsHeld, HoldsContext, HoldsRedex, ContextsStay, RedexesStay}
use Rattle.frozen_code.specs.declared.held.Opened.{Opened}
use Rattle.frozen_code.proofs.NamedLemmas.{named_back, places_put}

-- From names to places

variables_captured : (xs : List Text) → AreCaptured xs (variables xs)
variables_captured [] = tt
variables_captured (x ∷ xs) = (inr refl, variables_captured xs)

nothing_put : (ns : List ℕ) → map (put_in []) (map loc ns) ≡ map loc ns
nothing_put [] = refl
nothing_put (n ∷ ns) = ap (λ (ts : List Tree). loc n ∷ ts) (nothing_put ns)

-- a piece over the variables of names, which fits behind these alone, stands in an environment for its term with the
-- places put in for the names
pub named_piece : (xs : List Text) (ns : List ℕ) (p : Piece) (h : ℕ) → AreApart xs → length xs ≡ length ns → Fits xs [] h p
    → term_in xs [] ns p ≡ put_in (places_named xs ns) (tree (variables xs) p)
named_piece xs ns p h apart size fits =
    let all : take (length xs) ns ≡ ns = take_all (length xs) ns (omega (arith, size)) in
    let bare : put_in [] (tree (map loc ns) p) ≡ tree (map loc ns) p = captures p xs (map loc ns) [] h [] (places_captured xs ns size) fits ∙ ap (λ (ts : List Tree). tree ts p) (nothing_put ns) in
    let put : put_in (places_named xs ns) (tree (variables xs) p) ≡ tree (map loc ns) p = captures_all fits ∙ ap (λ (ts : List Tree). tree ts p) (places_put xs ns apart size) in
    ap (λ (ms : List ℕ). put_in [] (tree (map loc ms) p)) all ∙ bare ∙ sym put
  where
    without_nothing : (e : Environment) → without [] e ≡ e
    without_nothing [] = refl
    without_nothing (b ∷ e) = ap (λ (d : Environment). b ∷ d) (without_nothing e)

    captures_all : Fits xs [] h p → put_in (places_named xs ns) (tree (variables xs) p) ≡ tree (map (put_in (places_named xs ns)) (variables xs)) p
    captures_all f = ap (λ (e : Environment). put_in e (tree (variables xs) p)) (sym (without_nothing (places_named xs ns))) ∙ captures p xs (variables xs) [] h (places_named xs ns) (variables_captured xs) f

-- so a node that was compiled under names holds what its term is with the places put in
held_by : (k : List Node) (number : ℕ) (xs : List Text) (ns : List ℕ) (t : Tree) (h : Head) (n : ℕ) (behind : Trees) → AreApart xs → length xs ≡ length ns
    → IsCompiled k number xs t → put_in (places_named xs ns) t ≡ node h (filled n behind) → IsHeld k number ns h n behind
held_by k number xs ns t h n behind apart size c put =
    let p : Piece = piece_at (pieces k) number in
    let height : length xs + 0 ≡ length ns = omega (arith, size) in
    record {
      names = xs;
      below = c.below;
      runs = record { low = omega (arith, size); within = tt; fits = subst (λ (m : ℕ). Fits xs [] m p) height c.fits };
      term = named_piece xs ns p (length xs + 0) apart size c.fits ∙ ap (put_in (places_named xs ns)) c.term ∙ put;
    }

-- What was compiled

slot_variable : (k : ℕ) (xs : List Text) → k < length xs → is_variable (at_slot k (variables xs)) ≡ true
slot_variable k [] h = absurd (omega (arith, h))
slot_variable zero (x ∷ xs) h = refl
slot_variable (suc k) (x ∷ xs) h = let less : k < length xs = omega (arith, h) in slot_variable k xs less

leaf_variable : (xs : List Text) (l : Leaf) → LeafFits xs [] l → is_variable (leaf_tree (variables xs) l) ≡ true
leaf_variable xs (leaves.Own k x) h = refl
leaf_variable xs (leaves.Kept k) h = slot_variable k xs h.0

absurd_truth : {A : Type 0} → true ≡ false → A
absurd_truth e = cc

-- the piece of a term that is no variable is that of the last node
last_compiled : (ms : List Node) (xs : List Text) (t : Tree) (c : Child) → tree (variables xs) (piece_of (pieces ms) c) ≡ t → Fits xs [] (length xs + 0) (piece_of (pieces ms) c) → EndsTable (length ms) (c ∷ [])
    → is_variable t ≡ false → IsCompiled ms (root_of ms) xs t
last_compiled ms xs t (child.Leaf l) is f e v = absurd_truth (sym (leaf_variable xs l f) ∙ ap is_variable is ∙ v)
last_compiled ms xs t (child.Node i) is f e v =
    let at : i ≡ root_of ms = omega (arith, e) in
    let less : i < length ms = omega (arith, e) in
    record {
      below = subst (λ (k : ℕ). k < length ms) at less;
      fits = subst (λ (k : ℕ). Fits xs [] (length xs + 0) (piece_at (pieces ms) k)) at f;
      term = ap (λ (k : ℕ). tree (variables xs) (piece_at (pieces ms) k)) (sym at) ∙ is;
    }

pub compiled_under : (us vs : List ℕ) (ns ms : List Node) (cs ds : List Child) (t : Tree) (xs : List Text) (bs : Environment) → bs ≡ [] → cs ≡ []
    → (let a : Body = record { captured = xs; bound = bs; uses = us } in let b : Body = record { captured = xs; bound = bs; uses = vs } in Adds a b ns ms cs ds (t ∷ []))
    → EndsTable (length ms) ds → is_variable t ≡ false → IsCompiled ms (root_of ms) xs t
compiled_under us vs ns ms cs ds t xs bs y z x ends v =
    let a : Body = record { captured = xs; bound = bs; uses = us } in
    let p : OnePiece a (pieces ms) x.new t = one_piece a (pieces ms) x.new t x.stand in
    let only : ds ≡ p.child ∷ [] = x.children ∙ (λ i. z i ++ p.is i) in
    let q : Piece = piece_of (pieces ms) p.child in
    last_compiled ms xs t p.child p.term (subst (λ (d : Environment). Fits xs d (length xs + length d) q) y p.fits) (subst (EndsTable (length ms)) only ends) v

-- a table that such a node ends has one
pub some_nodes : (ms : List Node) (xs : List Text) (t : Tree) → IsCompiled ms (root_of ms) xs t → 1 ≤ length ms
some_nodes ms xs t c = let below : root_of ms < length ms = c.below in omega (arith, below)

pub holds_context : (k : List Node) (number : ℕ) (x : Opened) (c : Context) → IsCompiled k number x.names.items (tree_of x.term) → IsContext c → c.before ≡ x.done.items → IsOpened x (context_left c)
    → HoldsContext k number x.places.items x.done.items c
holds_context k number x c compiled is before o =
    let e : Environment = places_named x.names.items x.places.items in
    let put : put_in e (tree_of x.term) ≡ context_left c = ap (put_in e) o.term ∙ named_back o.name e (context_left c) o.nameable in
    let held : IsHeld k number x.places.items c.head (suc (length c.before)) c.behind = held_by k number x.names.items x.places.items (tree_of x.term) c.head (suc (length c.before)) c.behind o.apart o.size compiled put in
    (before, is, subst (λ (n : ℕ). IsHeld k number x.places.items c.head (suc n) c.behind) (ap length before) held)

pub holds_redex : (k : List Node) (number : ℕ) (x : Opened) (r : Redex) → IsCompiled k number x.names.items (tree_of x.term) → IsRedex r → r.places ≡ x.done.items → IsOpened x (redex_left r)
    → HoldsRedex k number x.places.items x.done.items r
holds_redex k number x r compiled is places o =
    let e : Environment = places_named x.names.items x.places.items in
    let put : put_in e (tree_of x.term) ≡ redex_left r = ap (put_in e) o.term ∙ named_back o.name e (redex_left r) o.nameable in
    let held : IsHeld k number x.places.items r.head (length r.places) r.behind = held_by k number x.names.items x.places.items (tree_of x.term) r.head (length r.places) r.behind o.apart o.size compiled put in
    (places, is, subst (λ (n : ℕ). IsHeld k number x.places.items r.head n r.behind) (ap length places) held)

-- Tables that grow

held_stays : (k added : List Node) (number : ℕ) (ns : List ℕ) (h : Head) (n : ℕ) (behind : Trees) → IsHeld k number ns h n behind → IsHeld (k ++ added) number ns h n behind
held_stays k added number ns h n behind held =
    let kept : piece_at (pieces (k ++ added)) number ≡ piece_at (pieces k) number = number_kept k added number held.below in
    let longer : length (k ++ added) ≡ length k + length added = length-append k added in
    let below : number < length k = held.below in
    record {
      names = held.names;
      below = omega (arith, longer, below);
      runs = subst (Runs held.names [] ns) (sym kept) held.runs;
      term = ap (term_in held.names [] ns) kept ∙ held.term;
    }

pub contexts_stay : ContextsStay
contexts_stay k added number ns done c h = (h.0, h.1, held_stays k added number ns c.head (suc (length done)) c.behind h.2)

pub redexes_stay : RedexesStay
redexes_stay k added number ns done r h = (h.0, h.1, held_stays k added number ns r.head (length done) r.behind h.2)

-- From a term to what stands behind its first terms

head_same : (g h : Head) (ts us : Trees) → node g ts ≡ node h us → g ≡ h
head_same g h ts us e = cc

below_same : (g h : Head) (ts us : Trees) → node g ts ≡ node h us → ts ≡ us
below_same g h ts us e = cc

rest_filled : (n : ℕ) (ts : Trees) → rest n (filled n ts) ≡ ts
rest_filled zero ts = refl
rest_filled (suc n) ts = rest_filled n ts

pub count_filled : (n : ℕ) (ts : Trees) → child_count (filled n ts) ≡ n + child_count ts
count_filled zero ts = let same : child_count ts ≡ 0 + child_count ts = omega arith in same
count_filled (suc n) ts = let same : suc (n + child_count ts) ≡ suc n + child_count ts = omega arith in ap suc (count_filled n ts) ∙ same

drop_none : (n : ℕ) → drop {A = List Text} n [] ≡ []
drop_none zero = refl
drop_none (suc n) = refl

-- what is put in all terms is put in the last of them
rest_put : (e : Environment) (bound : List (List Text)) (n : ℕ) (ts : Trees) → rest n (put_below e bound ts) ≡ put_below e (drop n bound) (rest n ts)
rest_put e bound zero ts = refl
rest_put e bound (suc n) none = refl
rest_put e [] (suc n) (more t ts) = rest_put e [] n ts ∙ ap (λ (b : List (List Text)). put_below e b (rest n ts)) (drop_none n)
rest_put e (xs ∷ bound) (suc n) (more t ts) = rest_put e bound n ts

-- the node that stands there, with the terms below it
pub record IsOpenedAt (xs : List Text) (ns : List ℕ) (p : Piece) (h : Head) (n : ℕ) (behind : Trees) : Type 0 where
  pub head : head_in p ≡ h
  pub below : put_below [] (binders (head_in p)) (terms_below (map loc (take (length xs) ns)) p) ≡ filled n behind

pub opened : (xs : List Text) (ns : List ℕ) (p : Piece) (h : Head) (n : ℕ) (behind : Trees) → IsTerm p → Runs xs [] ns p → term_in xs [] ns p ≡ node h (filled n behind) → IsOpenedAt xs ns p h n behind
opened xs ns (variable l) h n behind t r e = absurd t
opened xs ns (piece (Var x) ps) h n behind t r e = absurd r.fits.0
opened xs ns (piece hd ps) h n behind t r e = record { head = head_same hd h _ (filled n behind) e; below = below_same hd h _ (filled n behind) e }
opened xs ns (object ls fs ms) h n behind t r e = record { head = head_same (Make ls (heads_of ms)) h _ (filled n behind) e; below = below_same (Make ls (heads_of ms)) h _ (filled n behind) e }

pub behind_is : (xs : List Text) (ns : List ℕ) (p : Piece) (h : Head) (n : ℕ) (behind : Trees) → IsOpenedAt xs ns p h n behind → behind_in xs [] ns p n ≡ behind
behind_is xs ns p h n behind o = sym (rest_put [] (binders (head_in p)) n (terms_below (map loc (take (length xs) ns)) p)) ∙ ap (rest n) o.below ∙ rest_filled n behind

-- how many of them are reduced in place
in_place_of : (xs : List Text) (ns : List ℕ) (p : Piece) (h : Head) (n : ℕ) (behind us : Trees) → IsTerm p → Runs xs [] ns p → IsOpenedAt xs ns p h n behind → child_count us ≡ n + child_count behind → in_place p ≡ reduced_count h us
in_place_of xs ns (variable l) h n behind us t r o e = absurd t
in_place_of xs ns (piece hd ps) h n behind us t r o e =
    let ts : List Tree = map loc (take (length xs) ns) in
    let put : child_count (put_below [] (binders hd) (below ts ps none)) ≡ child_count (below ts ps none) = count_put [] (binders hd) (below ts ps none) in
    let here : child_count (put_below [] (binders hd) (below ts ps none)) ≡ child_count (filled n behind) = ap child_count o.below in
    let all : child_count (filled n behind) ≡ n + child_count behind = count_filled n behind in
    let one : child_count (below ts ps none) ≡ count ps + 0 = count_below ts ps none in
    let other : child_count (below [] ps none) ≡ count ps + 0 = count_below [] ps none in
    let same : child_count (below [] ps none) ≡ child_count us = omega (arith, put, here, all, one, other, e) in
    reduced_same hd (below [] ps none) us same ∙ ap (λ (g : Head). reduced_count g us) o.head
in_place_of xs ns (object ls fs ms) h n behind us t r o e = sym r.fits.0 ∙ ap (λ (g : Head). reduced_count g us) o.head

-- a held context waits, with its places on the operands
pub waits : (k : List Node) (number : ℕ) (ns : List ℕ) (c : Context) → IsContext c → IsHeld k number ns c.head (suc (length c.before)) c.behind → IsWaiting k ns c.before number 0 c
waits k number ns c is held =
    let p : Piece = piece_at (pieces k) number in
    let o : IsOpenedAt held.names ns p c.head (suc (length c.before)) c.behind = opened held.names ns p c.head (suc (length c.before)) c.behind (is_term k number) held.runs held.term in
    let us : Trees = locs_then c.before (more (loc 0) c.behind) in
    let counted : child_count us ≡ length c.before + suc (child_count c.behind) = count_locs c.before (more (loc 0) c.behind) in
    let size : child_count us ≡ suc (length c.before) + child_count c.behind = omega (arith, counted) in
    let place : in_place p ≡ reduced_count c.head us = in_place_of held.names ns p c.head (suc (length c.before)) c.behind us (is_term k number) held.runs o size in
    record {
      names = held.names;
      scope = [];
      runs = held.runs;
      unfinished = subst (λ (m : ℕ). length c.before < m) (sym place) is;
      is = λ i. record { head = sym o.head i; before = c.before; behind = sym (behind_is held.names ns p c.head (suc (length c.before)) c.behind o) i };
    }

-- a held redex is begun, with its places on the operands
pub begun : (k : List Node) (number : ℕ) (ns : List ℕ) (r : Redex) → IsRedex r → IsHeld k number ns r.head (length r.places) r.behind → IsBegun k ns r.places number 0 (redex_node r)
begun k number ns r is held =
    let p : Piece = piece_at (pieces k) number in
    let o : IsOpenedAt held.names ns p r.head (length r.places) r.behind = opened held.names ns p r.head (length r.places) r.behind (is_term k number) held.runs held.term in
    let us : Trees = locs_then r.places r.behind in
    let size : child_count us ≡ length r.places + child_count r.behind = count_locs r.places r.behind in
    let place : in_place p ≡ reduced_count r.head us = in_place_of held.names ns p r.head (length r.places) r.behind us (is_term k number) held.runs o size in
    let most : length r.places ≤ reduced_count r.head us = ⊎_elim (λ e. omega (arith, e)) (λ e. e.1) is.1 in
    record {
      names = held.names;
      scope = [];
      runs = held.runs;
      most = omega (arith, place, most);
      is = λ i. node (sym o.head i) (locs_then r.places (sym (behind_is held.names ns p r.head (length r.places) r.behind o) i));
    }
