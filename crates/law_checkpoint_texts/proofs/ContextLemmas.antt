-- Terms that run and terms that wait: their redex and contexts make them again.
use Rattle.std.proofs.Common.{◌≡◌, ℕ, Bool, true, false, List, [], ◌∷◌, ◌++◌, length, map, Option, Some, None, refl, sym, ap, ◌∙◌, append_assoc}
use Rattle.std.proofs.lemmas.Bool.{false≢true, lt-ltb}
use Rattle.std.proofs.lemmas.List.{append-nil}
use Rattle.asp_model.specs.Term.{Head, Loc, Hole, Tree, Trees, node, more, leaf, loc, locs_then}
use Rattle.asp_model.specs.Split.{Context, Split, Stands, Splits, reduced_count, split, plug}
use Rattle.code_laws.specs.Splitting.{redex_node, is_loc, IsContext, AreContexts, IsRedex}
use Rattle.code_laws.proofs.SplitLemmas.{splits_one_way}
use Rattle.code_reading.specs.Shown.{hole_tree}
use Rattle.checkpoint_text.specs.Items.{Items, list_items, term_items, terms_items, running_items}
use Rattle.checkpoint_text.specs.Reading.{Reader, told, list_of, term, only_context, context_below, with_context, contexts_of, if_some, some_of, plugged_by, running_by, running_of, running, waiting_of}
use Rattle.checkpoint_text.specs.Writable.{AreAll}
use Rattle.checkpoint_text.proofs.NumberLemmas.{some_same}
use Rattle.checkpoint_text.proofs.TermLemmas.{terms_are}
use Rattle.checkpoint_text.proofs.ContextLemmas.{split_trees, running_written}
use Rattle.law_checkpoint_texts.proofs.SureLemmas.{IsSureOf, list_sure}
use Rattle.law_checkpoint_texts.proofs.TermLemmas.{HasArities}
use Rattle.law_checkpoint_texts.proofs.NodeLemmas.{term_sure}

-- What is made of what was read

by_option : {Y : Type 0} → Items → Option Y → Option (Y × Items)
by_option us o = elim o [ None ↦ None | Some y ↦ Some (y, us) ]

option_told : {Y : Type 0} (o : Option Y) (vs : Items) (r : Y × Items) → by_option vs o ≡ Some r
    → (o ≡ Some r.0) × (vs ≡ r.1)
unfolding by_option
option_told None vs r e = absurd cc
option_told {Y} (Some z) vs r e =
    let same : (z, vs) ≡ r = some_same (z, vs) r e in
    (ap (λ (v : Y × Items). Some v.0) same, ap (λ (v : Y × Items). v.1) same)

was_some : {X Y : Type 0} (h : X → Option Y) (o : Option (X × Items)) (r : Y × Items) → if_some (told h o) ≡ Some r
    → (x : X) × (o ≡ Some (x, r.1)) × (h x ≡ Some r.0)
unfolding by_option
was_some h None r e = absurd cc
was_some {X} h (Some v) r e =
    let t = option_told (h v.0) v.1 r e in
    (v.0, ap {B = Option (X × Items)} (λ ws. Some (v.0, ws)) t.1, t.0)

some_sure : {X Y : Type 0} (p : Reader X) (f : X → Items) (S : X → Type 0) (h : X → Option Y) (k : Y → X)
    (g : Y → Items) (T : Y → Type 0)
    → IsSureOf p f S → ((y : Y) → T y → S (k y)) → ((y : Y) → T y → h (k y) ≡ Some y) → ((y : Y) → f (k y) ≡ g y)
    → IsSureOf (some_of p h) g T
some_sure {X} {Y} p f S h k g T s to again same = record {
  sure = λ y ws r q e.
      let w = was_some h (p (g y ++ ws)) r e in
      let a = s.sure (k y) ws (w.0, r.1) (to y q) (ap (λ (items : Items). p (items ++ ws)) (same y) ∙ w.1) in
      let is : Some r.0 ≡ Some y = sym w.2 ∙ ap (λ (v : X × Items). h v.0) a ∙ again y q in
      (λ i. (some_same r.0 y is i, (a i).1));
}

-- Contexts

abbrev pub AreShaped : List Context → Type 0
AreShaped cs = AreAll (λ c. HasArities (hole_tree c)) cs × AreContexts cs

if_context : Context → Bool → Option Context
if_context c b = elim b [ true ↦ Some c | false ↦ None ]

holds_context : (c : Context) → IsContext c → only_context c ≡ Some c
unfolding if_context
holds_context c h =
    ap (if_context c) (lt-ltb (length c.before) (reduced_count c.head (locs_then c.before (more (loc 0) c.behind))) h)

over_places : (h : Head) (before ns : List ℕ) (ts : Trees)
    → context_below h before (locs_then ns (more (leaf Hole) ts)) ≡ only_context
    (record { head = h; before = before ++ ns; behind = ts })
over_places h before [] ts =
    ap (λ (ns : List ℕ). only_context (record { head = h; before = ns; behind = ts })) (sym (append-nil before))
over_places h before (n ∷ ns) ts =
    over_places h (before ++ n ∷ []) ns ts
    ∙ ap (λ (ms : List ℕ). only_context (record { head = h; before = ms; behind = ts }))
    (append_assoc before (n ∷ []) ns)

contexts_again : (cs : List Context) → AreContexts cs → contexts_of (map hole_tree cs) ≡ Some cs
contexts_again [] h = refl
contexts_again (c ∷ cs) h =
    (λ i. with_context ((over_places c.head [] c.before c.behind ∙ holds_context c h.0) i) (contexts_again cs h.1 i))

shaped_trees : (cs : List Context) → AreAll (λ c. HasArities (hole_tree c)) cs → AreAll HasArities (map hole_tree cs)
shaped_trees [] h = tt
shaped_trees (c ∷ cs) h = (h.0, shaped_trees cs h.1)

-- A term that runs

-- what it splits into makes it again
abbrev pub IsShapedSplit : Tree → Split → Type 0
IsShapedSplit t (Stands n) = t ≡ loc n
IsShapedSplit t (Splits cs r) = (plug cs (redex_node r) ≡ t) × (AreShaped cs × (IsRedex r × HasArities (redex_node r)))

abbrev pub IsShapedTerm : Tree → Type 0
IsShapedTerm t = IsShapedSplit t (split t)

split_arities : (t : Tree) (x : Split) → IsShapedSplit t x → AreAll HasArities (split_trees x)
split_arities t (Stands n) g = ((refl, tt), tt)
split_arities t (Splits cs r) g = (g.1.1.1, shaped_trees cs g.1.0.0)

redex_first : (h : Head) (us : Trees) (ts : List Tree) → is_loc h ≡ false
    → running_by h us ts ≡ plugged_by (split (node h us)) (node h us) (contexts_of ts)
redex_first (Loc n) us ts e = absurd (false≢true (sym e))
redex_first h us ts e = refl

split_again : (t : Tree) (x : Split) → IsShapedSplit t x → running_of (split_trees x) ≡ Some t
split_again t (Stands n) g = ap (λ (u : Tree). Some u) (sym g)
split_again t (Splits cs r) g =
    redex_first r.head (locs_then r.places r.behind) (map hole_tree cs) g.1.1.0.0
    ∙ (λ i. plugged_by (splits_one_way [] r tt g.1.1.0 i) (redex_node r) (contexts_again cs g.1.0.1 i))
    ∙ ap (λ (v : Tree). Some v) g.0

pub at_depth : IsSureOf term term_items HasArities
unfolding term
at_depth = term_sure 25000

pub terms_sure : IsSureOf (list_of term) (list_items term_items) (AreAll HasArities)
terms_sure = list_sure at_depth

pub running_sure : IsSureOf running running_items IsShapedTerm
running_sure =
    some_sure (list_of term) (list_items term_items) (AreAll HasArities) running_of
    (λ t. split_trees (split t)) running_items IsShapedTerm
    terms_sure (λ t g. split_arities t (split t) g) (λ t g. split_again t (split t) g) running_written

-- A term that waits

abbrev pub waiting_items : List Context → Items
waiting_items cs = terms_items (map term_items (leaf Hole ∷ map hole_tree cs))

waiting_arities : (cs : List Context) → AreShaped cs → AreAll HasArities (leaf Hole ∷ map hole_tree cs)
waiting_arities cs g = ((refl, tt), shaped_trees cs g.0)

waiting_again : (cs : List Context) → AreShaped cs → waiting_of (leaf Hole ∷ map hole_tree cs) ≡ Some cs
waiting_again cs g = contexts_again cs g.1

pub waiting_sure : IsSureOf (some_of (list_of term) waiting_of) waiting_items AreShaped
waiting_sure =
    some_sure (list_of term) (list_items term_items) (AreAll HasArities) waiting_of
    (λ cs. leaf Hole ∷ map hole_tree cs) waiting_items AreShaped
    terms_sure waiting_arities waiting_again (λ cs. sym (terms_are (leaf Hole ∷ map hole_tree cs)))
