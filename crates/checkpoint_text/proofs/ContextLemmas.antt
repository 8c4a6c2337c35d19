-- A term items its redex and contexts, each context items a term with a hole.
use Rattle.std.proofs.Common.{◌≡◌, ℕ, zero, suc, Bool, true, false, List, [], ◌∷◌, ◌++◌, length, map, Option, Some, None, refl, sym, ap, subst, ◌∙◌, append_assoc, arith}
use Rattle.std.specs.Prelude.{nat_lt}
use Rattle.std.proofs.lemmas.Bool.{false≢true, lt-ltb, ltb-true}
use Rattle.std.proofs.lemmas.List.{append-nil, length-map}
use Rattle.asp_model.specs.Term.{Head, Loc, Hole, Tree, Trees, node, none, more, leaf, loc, locs_then}
use Rattle.asp_model.specs.Split.{Context, Redex, Split, Stands, Splits, reduced_count, split, plug}
use Rattle.code_laws.specs.Splitting.{redex_node, is_loc, IsContext, AreContexts, HasBareLocations, HaveBareLocations}
use Rattle.code_laws.proofs.SplitLemmas.{locs_snoc, splits_one_way, splits_plug_back, splits_are_redexes}
use Rattle.code_reading.specs.Shown.{hole_tree}
use Rattle.checkpoint_text.specs.Items.{list_items, term_items, split_items, running_items}
use Rattle.checkpoint_text.specs.Reading.{only_context, context_below, context_of, with_context, contexts_of, plugged_by, standing_alone, running_by, running_of, waiting_of}
use Rattle.checkpoint_text.specs.Writable.{AreAll, IsList, IsPlace, AllBelow, IsNode, IsTermTo, IsTerm, AreWritten, IsSplitOf, IsRunning}
use Rattle.checkpoint_text.proofs.NumberLemmas.{some_same}
use Rattle.checkpoint_text.proofs.TermLemmas.{below_none, terms_are}

-- Nothing stands below a location or a hole

bare_below : (P : Tree → Type 0) → ((t : Tree) → P t → HasBareLocations t) → (ts : Trees) → AllBelow P ts → HaveBareLocations ts
bare_below P f none a = tt
bare_below P f (more t ts) a = (f t a.0, bare_below P f ts a.1)

bare_node : (P : Tree → Type 0) → ((t : Tree) → P t → HasBareLocations t) → (h : Head) (ts : Trees) → IsNode P (node h ts) → HasBareLocations (node h ts)
bare_node P f (Loc n) ts g = below_none P ts g.1
bare_node P f h ts g = bare_below P f ts g.2

bare_to : (depth : ℕ) (t : Tree) → IsTermTo depth t → HasBareLocations t
bare_to zero t g = absurd g
bare_to (suc depth) (node h ts) g = bare_node (IsTermTo depth) (bare_to depth) h ts g

-- a location and a hole are leaves
IsLeafy : Tree → Type 0
IsLeafy (node (Loc n) ts) = ts ≡ none
IsLeafy (node Hole ts) = ts ≡ none
IsLeafy t = Unit {0}

leafy_node : (P : Tree → Type 0) (h : Head) (ts : Trees) → IsNode P (node h ts) → IsLeafy (node h ts)
unfolding IsLeafy
leafy_node P (Loc n) ts g = below_none P ts g.1
leafy_node P Hole ts g = below_none P ts g.1
leafy_node P h ts g = tt

leafy_to : (depth : ℕ) (t : Tree) → IsTermTo depth t → IsLeafy t
leafy_to zero t g = absurd g
leafy_to (suc depth) (node h ts) g = leafy_node (IsTermTo depth) h ts g

leafy_below : (depth : ℕ) (ts : Trees) → AllBelow (IsTermTo depth) ts → AllBelow IsLeafy ts
leafy_below depth none a = tt
leafy_below depth (more t ts) a = (leafy_to depth t a.0, leafy_below depth ts a.1)

leafy_in : (depth : ℕ) (h : Head) (ts : Trees) → IsTermTo depth (node h ts) → AllBelow IsLeafy ts
leafy_in zero h ts g = absurd g
leafy_in (suc depth) h ts g = leafy_below depth ts g.2

bare_term : (t : Tree) → IsTerm t → HasBareLocations t
unfolding IsTerm
bare_term t g = bare_to 25000 t g

leafy_term : (t : Tree) → IsTerm t → IsLeafy t
unfolding IsTerm
leafy_term t g = leafy_to 25000 t g

leafy_inside : (h : Head) (ts : Trees) → IsTerm (node h ts) → AllBelow IsLeafy ts
unfolding IsTerm
leafy_inside h ts g = leafy_in 25000 h ts g

place_term : (n : ℕ) → IsPlace n → IsTerm (loc n)
unfolding IsTerm
place_term n g = (g, refl, tt)

term_place : (n : ℕ) (ts : Trees) → IsTerm (node (Loc n) ts) → IsPlace n
unfolding IsTerm
term_place n ts g = g.0

hole_term : IsTerm (leaf Hole)
unfolding IsTerm
hole_term = (tt, refl, tt)

-- One context

if_context : Context → Bool → Option Context
if_context c b = elim b [ true ↦ Some c | false ↦ None ]

holds_context : (c : Context) → IsContext c → only_context c ≡ Some c
unfolding if_context
holds_context c h = ap (if_context c) (lt-ltb (length c.before) (reduced_count c.head (locs_then c.before (more (loc 0) c.behind))) h)

if_told : (c d : Context) (b : Bool) → if_context c b ≡ Some d → (b ≡ true) × (c ≡ d)
unfolding if_context
if_told c d true e = (refl, some_same c d e)
if_told c d false e = absurd cc

only_told : (c d : Context) → only_context c ≡ Some d → IsContext c × (c ≡ d)
unfolding if_context
only_told c d e =
    let count : ℕ = reduced_count c.head (locs_then c.before (more (loc 0) c.behind)) in
    let t = if_told c d (nat_lt (length c.before) count) e in
    (ltb-true (length c.before) count t.0, t.1)

over_places : (h : Head) (before ns : List ℕ) (ts : Trees) → context_below h before (locs_then ns (more (leaf Hole) ts)) ≡ only_context (record { head = h; before = before ++ ns; behind = ts })
over_places h before [] ts = ap (λ (ns : List ℕ). only_context (record { head = h; before = ns; behind = ts })) (sym (append-nil before))
over_places h before (n ∷ ns) ts = over_places h (before ++ n ∷ []) ns ts ∙ ap (λ (ms : List ℕ). only_context (record { head = h; before = ms; behind = ts })) (append_assoc before (n ∷ []) ns)

context_again : (c : Context) → IsContext c → context_of (hole_tree c) ≡ Some c
context_again c h = over_places c.head [] c.before c.behind ∙ holds_context c h

below_told : (h : Head) (before : List ℕ) (ts : Trees) (c : Context) → AllBelow IsLeafy ts → context_below h before ts ≡ Some c → (hole_tree c ≡ node h (locs_then before ts)) × IsContext c
unfolding IsLeafy
below_told h before none c a e = absurd cc
below_told h before (more (node (Loc n) us) ts) c a e =
    let r = below_told h (before ++ n ∷ []) ts c a.1 e in
    (r.0 ∙ ap (node h) (locs_snoc before n ts) ∙ ap (λ (vs : Trees). node h (locs_then before (more (node (Loc n) vs) ts))) (sym a.0), r.1)
below_told h before (more (node Hole us) ts) c a e =
    let r = only_told (record { head = h; before = before; behind = ts }) c e in
    (ap hole_tree (sym r.1) ∙ ap (λ (vs : Trees). node h (locs_then before (more (node Hole vs) ts))) (sym a.0), subst IsContext r.1 r.0)
below_told h before (more (node k us) ts) c a e = absurd cc

context_told : (t : Tree) (c : Context) → IsTerm t → context_of t ≡ Some c → (hole_tree c ≡ t) × IsContext c
context_told (node h ts) c g e = below_told h [] ts c (leafy_inside h ts g) e

-- All contexts

contexts_again : (cs : List Context) → AreContexts cs → contexts_of (map hole_tree cs) ≡ Some cs
contexts_again [] h = refl
contexts_again (c ∷ cs) h = (λ i. with_context (context_again c h.0 i) (contexts_again cs h.1 i))

was_with : (o : Option Context) (os : Option (List Context)) (cs : List Context) → with_context o os ≡ Some cs → (c : Context) × (ds : List Context) × (o ≡ Some c) × (os ≡ Some ds) × (c ∷ ds ≡ cs)
was_with None os cs e = absurd cc
was_with (Some c) None cs e = absurd cc
was_with (Some c) (Some ds) cs e = (c, ds, refl, refl, some_same (c ∷ ds) cs e)

contexts_told : (ts : List Tree) (cs : List Context) → AreAll IsTerm ts → contexts_of ts ≡ Some cs → (map hole_tree cs ≡ ts) × AreContexts cs
contexts_told [] cs a e = let same = some_same [] cs e in (ap (map hole_tree) (sym same), subst AreContexts same tt)
contexts_told (t ∷ ts) cs a e =
    let w = was_with (context_of t) (contexts_of ts) cs e in
    let first = context_told t w.0 a.0 w.2 in
    let others = contexts_told ts w.1 a.1 w.3 in
    (ap (map hole_tree) (sym w.4) ∙ (λ i. first.0 i ∷ others.0 i), subst AreContexts w.4 (first.1, others.1))

written_terms : (cs : List Context) → AreAll (λ c. IsTerm (hole_tree c)) cs → AreAll IsTerm (map hole_tree cs)
written_terms [] h = tt
written_terms (c ∷ cs) h = (h.0, written_terms cs h.1)

terms_written : (cs : List Context) → AreAll IsTerm (map hole_tree cs) → AreAll (λ c. IsTerm (hole_tree c)) cs
terms_written [] h = tt
terms_written (c ∷ cs) h = (h.0, terms_written cs h.1)

-- contexts behind a first term
behind_first : (t : Tree) (cs : List Context) → IsTerm t → AreWritten cs → IsList IsTerm (t ∷ map hole_tree cs)
behind_first t cs g w = (omega (arith, length-map cs hole_tree, w.1), (g, written_terms cs w.0))

first_behind : (t : Tree) (ts : List Tree) (cs : List Context) → IsList IsTerm (t ∷ ts) → map hole_tree cs ≡ ts → AreContexts cs → AreWritten cs
first_behind t ts cs g e h =
    let w : IsList IsTerm (t ∷ map hole_tree cs) = subst (λ (us : List Tree). IsList IsTerm (t ∷ us)) (sym e) g in
    (terms_written cs w.1.1, omega (arith, length-map cs hole_tree, w.0), h)

-- A term that runs

abbrev pub split_trees : Split → List Tree
split_trees (Stands n) = loc n ∷ []
split_trees (Splits cs r) = redex_node r ∷ map hole_tree cs

split_written : (x : Split) → list_items term_items (split_trees x) ≡ split_items x
split_written (Stands n) = sym (terms_are (loc n ∷ []))
split_written (Splits cs r) = sym (terms_are (redex_node r ∷ map hole_tree cs))

pub running_written : (t : Tree) → list_items term_items (split_trees (split t)) ≡ running_items t
running_written t = split_written (split t)

split_good : (t : Tree) (x : Split) → IsSplitOf t x → IsList IsTerm (split_trees x)
split_good t (Stands n) g = (omega arith, (place_term n g.1, tt))
split_good t (Splits cs r) g = behind_first (redex_node r) cs g.1 g.2

pub running_good : (t : Tree) → IsRunning t → IsList IsTerm (split_trees (split t))
running_good t g = split_good t (split t) g

redex_first : (h : Head) (us : Trees) (ts : List Tree) → is_loc h ≡ false → running_by h us ts ≡ plugged_by (split (node h us)) (node h us) (contexts_of ts)
redex_first (Loc n) us ts e = absurd (false≢true (sym e))
redex_first h us ts e = refl

split_again : (t : Tree) (x : Split) → split t ≡ x → IsSplitOf t x → running_of (split_trees x) ≡ Some t
split_again t (Stands n) e g = ap (λ (u : Tree). Some u) (sym g.0)
split_again t (Splits cs r) e g =
    let good = splits_are_redexes t cs r e in
    let u : Tree = redex_node r in
    redex_first r.head (locs_then r.places r.behind) (map hole_tree cs) good.1.0
    ∙ (λ i. plugged_by (splits_one_way [] r tt good.1 i) u (contexts_again cs good.0 i))
    ∙ ap (λ (v : Tree). Some v) g.0

pub running_again : (t : Tree) → IsRunning t → running_of (split_trees (split t)) ≡ Some t
running_again t g = split_again t (split t) refl g

was_plugged : (x : Split) (u : Tree) (o : Option (List Context)) (t : Tree) → plugged_by x u o ≡ Some t → (r : Redex) × (cs : List Context) × (x ≡ Splits [] r) × (o ≡ Some cs) × (plug cs u ≡ t)
was_plugged (Stands n) u o t e = absurd cc
was_plugged (Splits [] r) u None t e = absurd cc
was_plugged (Splits [] r) u (Some cs) t e = (r, cs, refl, refl, some_same (plug cs u) t e)
was_plugged (Splits (c ∷ cs) r) u o t e = absurd cc

IsToldAs : List Tree → Tree → Type 0
IsToldAs xs t = (split_trees (split t) ≡ xs) × IsRunning t

redex_told : (u : Tree) (ts : List Tree) (t : Tree) → IsList IsTerm (u ∷ ts) → plugged_by (split u) u (contexts_of ts) ≡ Some t → IsToldAs (u ∷ ts) t
unfolding IsToldAs
redex_told u ts t g e =
    let w = was_plugged (split u) u (contexts_of ts) t e in
    let r : Redex = w.0 in
    let cs : List Context = w.1 in
    let same : redex_node r ≡ u = splits_plug_back u [] r (bare_term u g.1.0) w.2 in
    let good = splits_are_redexes u [] r w.2 in
    let told = contexts_told ts cs g.1.1 w.3 in
    let whole : plug cs (redex_node r) ≡ t = ap (plug cs) same ∙ w.4 in
    let splits : split t ≡ Splits cs r = ap split (sym whole) ∙ splits_one_way cs r told.1 good.1 in (
      ap split_trees splits ∙ (λ i. same i ∷ told.0 i),
      subst (IsSplitOf t) (sym splits) (whole, subst IsTerm (sym same) g.1.0, first_behind u ts cs g told.0 told.1),
    )

place_told : (n : ℕ) (us : Trees) (ts : List Tree) (t : Tree) → IsList IsTerm (node (Loc n) us ∷ ts) → standing_alone n ts ≡ Some t → IsToldAs (node (Loc n) us ∷ ts) t
unfolding IsToldAs
place_told n us [] t g e =
    let same = some_same (loc n) t e in
    let bare : us ≡ none = bare_term (node (Loc n) us) g.1.0 in
    let place : IsPlace n = term_place n us g.1.0 in
    subst (IsToldAs (node (Loc n) us ∷ [])) same (ap (λ (vs : Trees). node (Loc n) vs ∷ []) (sym bare), (refl, place))
place_told n us (u ∷ ts) t g e = absurd cc

head_told : (h : Head) (us : Trees) (ts : List Tree) (t : Tree) → IsList IsTerm (node h us ∷ ts) → running_by h us ts ≡ Some t → IsToldAs (node h us ∷ ts) t
head_told (Loc n) us ts t g e = place_told n us ts t g e
head_told h us ts t g e = redex_told (node h us) ts t g e

pub running_told : (xs : List Tree) (t : Tree) → IsList IsTerm xs → running_of xs ≡ Some t → (split_trees (split t) ≡ xs) × IsRunning t
unfolding IsToldAs
running_told [] t g e = absurd cc
running_told (node h us ∷ ts) t g e = head_told h us ts t g e

-- A term that waits

pub waiting_good : (cs : List Context) → AreWritten cs → IsList IsTerm (leaf Hole ∷ map hole_tree cs)
waiting_good cs w = behind_first (leaf Hole) cs hole_term w

pub waiting_again : (cs : List Context) → AreWritten cs → waiting_of (leaf Hole ∷ map hole_tree cs) ≡ Some cs
waiting_again cs w = contexts_again cs w.2

hole_told : (h : Head) (us : Trees) (ts : List Tree) (cs : List Context) → IsList IsTerm (node h us ∷ ts) → waiting_of (node h us ∷ ts) ≡ Some cs → (leaf Hole ∷ map hole_tree cs ≡ node h us ∷ ts) × AreWritten cs
unfolding IsLeafy
hole_told Hole us ts cs g e =
    let told = contexts_told ts cs g.1.1 e in
    let bare : us ≡ none = leafy_term (node Hole us) g.1.0 in
    ((λ i. node Hole (sym bare i) ∷ told.0 i), first_behind (node Hole us) ts cs g told.0 told.1)
hole_told h us ts cs g e = absurd cc

pub waiting_told : (xs : List Tree) (cs : List Context) → IsList IsTerm xs → waiting_of xs ≡ Some cs → (leaf Hole ∷ map hole_tree cs ≡ xs) × AreWritten cs
waiting_told [] cs g e = absurd cc
waiting_told (node h us ∷ ts) cs g e = hole_told h us ts cs g e
