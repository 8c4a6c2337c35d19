-- Nodes over their first terms.
use Rattle.std.proofs.Common.{◌≡◌, ℕ, zero, suc, ◌≤◌, Bool, true, false, T, List, [], ◌∷◌, ◌++◌, Option, Some, None, IfOk, length, map, drop, refl, sym, ap, subst, ◌∙◌, arith}
use Rattle.std.proofs.lemmas.List.{length-map, length-append}
use Rattle.std.specs.declared.result.Result.{Result}
use Rattle.std.specs.declared.result.Result.TheVariants.{Ok, Err}
use Rattle.asp_model.specs.Term.{Hole, Make, Repeat, Steps, Tree, Trees, node, none, more, trees, leaf, loc, locs_then}
use Rattle.code_table.specs.declared.code.Child.{Child}
use Rattle.code_table.specs.declared.code.Kind.{Kind}
use Rattle.code_table.specs.declared.code.Kind.TheVariants as kind
use Rattle.code_table.specs.declared.code.MethodCode.{MethodCode}
use Rattle.code_table.specs.Pieces.{Piece, variable, piece, object, Pieces, count, heads_of}
use Rattle.code_table.specs.Tables.{kind_head, labels_of, pieces_of, bodies_of, kind_piece}
use Rattle.code_table.specs.Sound.{AllBelow}
use Rattle.code_laws.specs.Nodes.{IsTerm, head_in, parts, nth, after, in_place, rest, unrolled, later}
use Rattle.code_laws.specs.Shown.{shown, shown_below, shown_bodies, shown_terms}
use Rattle.code_laws.proofs.NodeLemmas.{parts_are, part_count}
use Rattle.code_laws.proofs.TurnLemmas.{in_place_most}
use Rattle.code_laws.proofs.ShownLemmas.{behind_is}
use Rattle.code_reading.specs.Decoded.{trees_then, shown_child, finished_tree, gone, behind_tree, rolled_tree, IsBehind, IsContextIn, IsRedexIn, IsRolled}
use Rattle.code_reading.proofs.DecodeLemmas.{shown_children, shown_methods, heads_seen}

-- what holds of each Ok holds of what follows
pub if_ok : {X E : Type 0} (o : Result X E) (P Q : X → Type 0) → ((x : X) → P x → Q x) → IfOk o P → IfOk o Q
if_ok (Ok x) P Q f h = f x h
if_ok (Err e) P Q f h = tt

pub both_ok : {X E : Type 0} (o : Result X E) (P Q R : X → Type 0) → ((x : X) → P x → Q x → R x) → IfOk o P → IfOk o Q → IfOk o R
both_ok (Ok x) P Q R f h g = f x h g
both_ok (Err e) P Q R f h g = tt

pub all_below_drop : (m : ℕ) (cs : List Child) (k : ℕ) → AllBelow m cs → AllBelow m (drop k cs)
all_below_drop m cs zero h = h
all_below_drop m [] (suc k) h = tt
all_below_drop m (c ∷ cs) (suc k) h = all_below_drop m cs k h.1

-- Behind the first terms

then_append : (xs ys : List Tree) (us : Trees) → trees_then (xs ++ ys) us ≡ trees_then xs (trees_then ys us)
then_append [] ys us = refl
then_append (x ∷ xs) ys us = ap (more x) (then_append xs ys us)

rest_shown : (ts : List Tree) (ps : List Piece) (cs : List Child) (vs : Trees) (n : ℕ) → n ≤ length cs → rest n (shown_below ts (pieces_of ps cs) vs) ≡ shown_below ts (pieces_of ps (drop n cs)) vs
rest_shown ts ps cs vs zero le = refl
rest_shown ts ps [] vs (suc n) le = absurd (omega (arith, le))
rest_shown ts ps (c ∷ cs) vs (suc n) le = let less : n ≤ length cs = omega (arith, le) in rest_shown ts ps cs vs n less

behind_first : (ts : List Tree) (ps : List Piece) (cs : List Child) (us : List Tree) (vs : Trees) → length us ≤ length cs
    → trees_then (us ++ map (shown_child ts ps) (drop (length us) cs)) vs ≡ trees_then us (rest (length us) (shown_below ts (pieces_of ps cs) vs))
behind_first ts ps cs us vs le =
    then_append us (map (shown_child ts ps) (drop (length us) cs)) vs
    ∙ ap (trees_then us) (sym (shown_children ts ps (drop (length us) cs) vs) ∙ sym (rest_shown ts ps cs vs (length us) le))

then_none : (us : List Tree) → trees us ≡ trees_then us none
then_none [] = refl
then_none (u ∷ us) = ap (more u) (then_none us)

-- a node over its first terms and its code's other ones
pub kind_behind : (ts : List Tree) (ps : List Piece) (k : Kind) (cs : List Child) (us : List Tree) → length us ≤ length cs
    → finished_tree ts ps k (us ++ map (shown_child ts ps) (drop (length us) cs)) ≡ behind_tree ts (kind_piece ps k (pieces_of ps cs)) us
kind_behind ts ps (kind.Make k) cs us le =
    let ms : List MethodCode = k.value.methods.items in
    let all : List Tree = us ++ map (shown_child ts ps) (drop (length us) cs) in
    sym (λ i. node (Make (labels_of k.value) (heads_seen ps ms i)) (trees_then all (shown_methods ts ps ms i)))
    ∙ ap (node (Make (labels_of k.value) (heads_of (bodies_of ps ms)))) (behind_first ts ps cs us (shown_bodies ts (bodies_of ps ms)) le)
kind_behind ts ps k cs us le = ap (node (kind_head k)) (then_none (us ++ map (shown_child ts ps) (drop (length us) cs)) ∙ behind_first ts ps cs us none le)

-- Terms that are gone

after_pieces : (ps : List Piece) (n : ℕ) (cs : List Child) → after n (pieces_of ps cs) ≡ pieces_of ps (drop n cs)
after_pieces ps zero cs = refl
after_pieces ps (suc n) [] = refl
after_pieces ps (suc n) (c ∷ cs) = after_pieces ps n cs

abbrev value : Option ℕ → ℕ
value None = 0
value (Some n) = n

abbrev is_some : Option ℕ → Bool
is_some None = false
is_some (Some n) = true

stays : (ps : List Piece) (k : Kind) (cs : List Child) (g : ℕ) → Some 0 ≡ Some g → kind_piece ps k (pieces_of ps cs) ≡ kind_piece ps k (pieces_of ps (drop g cs))
stays ps k cs g e = let zero_gone : 0 ≡ g = ap value e in ap (λ (n : ℕ). kind_piece ps k (pieces_of ps (drop n cs))) zero_gone

pub gone_piece : (ps : List Piece) (k : Kind) (cs : List Child) (from g : ℕ) → gone k from ≡ Some g → later from (kind_piece ps k (pieces_of ps cs)) ≡ kind_piece ps k (pieces_of ps (drop g cs))
gone_piece ps kind.Steps cs zero g e = stays ps kind.Steps cs g e
gone_piece ps kind.Steps cs (suc n) g e =
    let all_gone : suc n ≡ g = ap value e in ap (piece Steps) (after_pieces ps (suc n) cs ∙ ap (λ (m : ℕ). pieces_of ps (drop m cs)) all_gone)
gone_piece ps kind.Repeat cs zero g e = stays ps kind.Repeat cs g e
gone_piece ps kind.Repeat cs (suc n) g e = absurd (subst T (ap is_some (sym e)) tt)
gone_piece ps (kind.Make k) cs zero g e = stays ps (kind.Make k) cs g e
gone_piece ps (kind.Make k) cs (suc n) g e = stays ps (kind.Make k) cs g e
gone_piece ps k cs zero g e = stays ps k cs g e
gone_piece ps k cs (suc n) g e = stays ps k cs g e

pub rolled_piece : (ps : List Piece) (k : Kind) (us : Pieces) (from : ℕ) → gone k from ≡ None → (kind_piece ps k us ≡ piece Repeat us) × (later from (kind_piece ps k us) ≡ unrolled us)
rolled_piece ps kind.Steps us from e = absurd (subst T (ap is_some e) tt)
rolled_piece ps kind.Repeat us zero e = absurd (subst T (ap is_some e) tt)
rolled_piece ps kind.Repeat us (suc n) e = (refl, refl)
rolled_piece ps k us from e = absurd (subst T (ap is_some e) tt)

pub count_parts : (ps : List Piece) (k : Kind) (cs : List Child) → count (parts (kind_piece ps k (pieces_of ps cs))) ≡ length cs
count_parts ps k cs = ap count (parts_are ps k (pieces_of ps cs)) ∙ part_count ps cs

-- an ordinary node, over what is left of its code
pub ordinary_behind : (ts : List Tree) (ps : List Piece) (k : Kind) (cs : List Child) (from g : ℕ) (us : List Tree) (n : ℕ) (p : Piece) (t : Tree) → p ≡ kind_piece ps k (pieces_of ps cs) → gone k from ≡ Some g → n ≡ length us
    → t ≡ finished_tree ts ps k (us ++ map (shown_child ts ps) (drop n (drop g cs))) → IsBehind ts (later from p) us t
ordinary_behind ts ps k cs from g us n p t at e size h le =
    let left : List Child = drop g cs in
    let is : later from p ≡ kind_piece ps k (pieces_of ps left) = ap (later from) at ∙ gone_piece ps k cs from g e in
    let most : length us ≤ length left = subst (λ (m : ℕ). length us ≤ m) (ap (λ (q : Piece). count (parts q)) is ∙ count_parts ps k left) le in
    h ∙ ap (λ (m : ℕ). finished_tree ts ps k (us ++ map (shown_child ts ps) (drop m left))) size ∙ kind_behind ts ps k left us most ∙ ap (λ (q : Piece). behind_tree ts q us) (sym is)

-- a `repeat` that has become a sequence
pub rolled_behind : (ts : List Tree) (ps : List Piece) (k : Kind) (cs : List Child) (from : ℕ) (us : List Tree) (p : Piece) (t : Tree) → p ≡ kind_piece ps k (pieces_of ps cs) → gone k from ≡ None
    → IsRolled ts (pieces_of ps cs) p us t → IsBehind ts (later from p) us t
rolled_behind ts ps k cs from us p t at e h le =
    let below : Pieces = pieces_of ps cs in
    let both : (kind_piece ps k below ≡ piece Repeat below) × (later from (kind_piece ps k below) ≡ unrolled below) = rolled_piece ps k below from e in
    let is : later from p ≡ unrolled below = ap (later from) at ∙ both.1 in
    let most : length us ≤ 2 = subst (λ (q : Piece). length us ≤ count (parts q)) is le in
    h most ∙ ap (λ (q : Piece). node Steps (trees_then us (rest (length us) (more (shown ts (nth 0 below)) (more (shown ts q) none))))) (at ∙ both.0) ∙ ap (λ (q : Piece). behind_tree ts q us) (sym is)

-- a `repeat` as a sequence whose first term is done, or both

pub rolled_once : (ts : List Tree) (below : Pieces) (p : Piece) (us : List Tree) (t : Tree) → length us ≡ 1 → t ≡ rolled_tree ts p us → IsRolled ts below p us t
rolled_once ts below p [] t n h = absurd (omega (arith, n))
rolled_once ts below p (u ∷ []) t n h = λ le. h
rolled_once ts below p (u ∷ v ∷ us) t n h = absurd (omega (arith, n))

pub rolled_twice : (ts : List Tree) (below : Pieces) (p : Piece) (us : List Tree) (t : Tree) → 2 ≤ length us → t ≡ node Steps (trees us) → IsRolled ts below p us t
rolled_twice ts below p [] t n h = absurd (omega (arith, n))
rolled_twice ts below p (u ∷ []) t n h = absurd (omega (arith, n))
rolled_twice ts below p (u ∷ v ∷ []) t n h = λ le. h
rolled_twice ts below p (u ∷ v ∷ w ∷ us) t n h = λ le. absurd (omega (arith, le))

-- Environments

pub later_term : (from : ℕ) (p : Piece) → IsTerm p → IsTerm (later from p)
later_term zero p h = h
later_term (suc n) (variable l) h = absurd h
later_term (suc n) (piece Steps ps) h = tt
later_term (suc n) (piece Repeat ps) h = tt
later_term (suc n) (piece hd ps) h = tt
later_term (suc n) (object ls fs ms) h = tt

locs_before : (ns : List ℕ) (us : Trees) → trees_then (map loc ns) us ≡ locs_then ns us
locs_before [] us = refl
locs_before (n ∷ ns) us = ap (more (loc n)) (locs_before ns us)

pub redex_shown : (ns done : List ℕ) (p : Piece) (t : Tree) → IsTerm p → IsBehind (map loc ns) p (map loc done) t → IsRedexIn ns done p t
redex_shown ns done p t term h xs scope r le =
    let size : length (map loc done) ≡ length done = length-map done loc in
    let most : in_place p ≤ count (parts p) = in_place_most xs scope ns p r in
    let fits : length (map loc done) ≤ count (parts p) = omega (arith, size, most, le) in
    h fits ∙ ap (λ (n : ℕ). node (head_in p) (trees_then (map loc done) (rest n (shown_terms (map loc ns) p)))) size
    ∙ ap (λ (us : Trees). node (head_in p) (trees_then (map loc done) us)) (sym (behind_is xs scope ns p (length done) term r)) ∙ ap (node (head_in p)) (locs_before done _)

pub context_shown : (ns done : List ℕ) (p : Piece) (t : Tree) → IsTerm p → IsBehind (map loc ns) p (map loc done ++ leaf Hole ∷ []) t → IsContextIn ns done p t
context_shown ns done p t term h xs scope r lt =
    let us : List Tree = map loc done ++ leaf Hole ∷ [] in
    let size : length us ≡ suc (length done) = length-append (map loc done) (leaf Hole ∷ []) ∙ (let one : length (map loc done) ≡ length done = length-map done loc in omega (arith, one)) in
    let most : in_place p ≤ count (parts p) = in_place_most xs scope ns p r in
    let fits : length us ≤ count (parts p) = omega (arith, size, most, lt) in
    h fits ∙ ap (λ (n : ℕ). node (head_in p) (trees_then us (rest n (shown_terms (map loc ns) p)))) size
    ∙ ap (λ (vs : Trees). node (head_in p) (trees_then us vs)) (sym (behind_is xs scope ns p (suc (length done)) term r))
    ∙ ap (node (head_in p)) (then_append (map loc done) (leaf Hole ∷ []) _ ∙ locs_before done _)
