-- What is sound has the shape of a checkpoint.
use Rattle.std.proofs.Common.{◌≡◌, ℕ, suc, List, [], ◌∷◌, refl, subst}
use Rattle.asp_model.specs.Names.{Text}
use Rattle.asp_model.specs.Term.{Hole, Tree, Trees, node, none, more, leaf, loc, locs_then, binders, child_count}
use Rattle.asp_model.specs.Readable.{HasArity}
use Rattle.asp_model.specs.Split.{Context, Split, Stands, Splits, split}
use Rattle.asp_model.specs.Store.{MethodShape, CellShape, Object, Reference, Future}
use Rattle.asp_model.specs.Store as cells
use Rattle.asp_model.specs.Configuration.{ServiceShape}
use Rattle.law_steps.specs.Linked.{Each}
use Rattle.law_programs.specs.Proper.{IsProper, AreProper, IsProperContext, IsProperMethod, IsProperCell}
use Rattle.law_frozen.specs.Frozen.{FrozenActivity, FrozenShape}
use Rattle.code_laws.specs.Splitting.{redex_node, AreContexts}
use Rattle.code_reading.specs.Shown.{hole_tree}
use Rattle.checkpoint_text.specs.Writable.{AreAll}
use Rattle.law_checkpoints.specs.Laws.{IsSplitAgain}
use Rattle.law_checkpoints.specs.Sound.{IsSoundActivity, IsSoundFrozen}
use Rattle.law_checkpoints.proofs.TermLemmas.{terms_are_redexes}
use Rattle.law_checkpoint_texts.specs.Texts.{IsBare}
use Rattle.law_checkpoint_texts.proofs.TermLemmas.{HasArities, HaveArities}
use Rattle.law_checkpoint_texts.proofs.ContextLemmas.{AreShaped, IsShapedSplit, IsShapedTerm}
use Rattle.law_checkpoint_texts.proofs.ValueLemmas.{IsShapedMethod, IsShapedCell, IsShapedActivity}
use Rattle.law_checkpoint_texts.proofs.LineLemmas.{IsShaped}

each_all : {X : Type 0} (P Q : X → Type 0) → ((x : X) → P x → Q x) → (xs : List X) → Each P xs → AreAll Q xs
each_all P Q f [] h = tt
each_all P Q f (x ∷ xs) h = (f x h.0, each_all P Q f xs h.1)

-- Terms

mutual
  proper_arities : (bound : List Text) (t : Tree) → IsProper bound t → HasArities t
  proper_arities bound (node h ts) g = (g.1, proper_below bound (binders h) ts g.2)

  proper_below : (bound : List Text) (names : List (List Text)) (ts : Trees) → AreProper bound names ts → HaveArities ts
  proper_below bound names none g = tt
  proper_below bound [] (more t ts) g = (proper_arities bound t g.0, proper_below bound [] ts g.1)
  proper_below bound (xs ∷ names) (more t ts) g = (proper_arities _ t g.0, proper_below bound names ts g.1)

-- a hole in place of a location
hole_count : (ns : List ℕ) (ts : Trees)
    → child_count (locs_then ns (more (loc 0) ts)) ≡ child_count (locs_then ns (more (leaf Hole) ts))
hole_count [] ts = refl
hole_count (n ∷ ns) ts = (λ i. suc (hole_count ns ts i))

hole_below : (ns : List ℕ) (ts : Trees) → HaveArities (locs_then ns (more (loc 0) ts))
    → HaveArities (locs_then ns (more (leaf Hole) ts))
hole_below [] ts h = ((refl, tt), h.1)
hole_below (n ∷ ns) ts h = (h.0, hole_below ns ts h.1)

hole_arities : (c : Context) → IsProperContext c → HasArities (hole_tree c)
hole_arities c h =
    let a = proper_arities [] (node c.head (locs_then c.before (more (loc 0) c.behind))) h in
    (subst (HasArity c.head) (hole_count c.before c.behind) a.0, hole_below c.before c.behind a.1)

shaped : (cs : List Context) → AreContexts cs → Each IsProperContext cs → AreShaped cs
shaped cs h g = (each_all IsProperContext (λ c. HasArities (hole_tree c)) hole_arities cs g, h)

shaped_split : (t : Tree) (x : Split) → IsSplitAgain t x → IsShapedSplit t x
shaped_split t (Stands n) h = h
shaped_split t (Splits cs r) h = (h.0, (shaped cs h.1.0 h.1.1, (h.2.0, proper_arities [] (redex_node r) h.2.1)))

shaped_term : (t : Tree) → IsProper [] t → IsShapedTerm t
shaped_term t h = shaped_split t (split t) (terms_are_redexes t h)

-- Cells, activities, and all that is frozen

shaped_methods : (ms : List MethodShape) → Each IsProperMethod ms → AreAll IsShapedMethod ms
shaped_methods ms h = each_all IsProperMethod IsShapedMethod (λ m g. proper_arities _ m.body g) ms h

shaped_cell : (x : CellShape) → IsProperCell x → IsShapedCell x
shaped_cell (cells.Number n) h = tt
shaped_cell (Object fields methods) h = shaped_methods methods h.1
shaped_cell (Reference n) h = tt
shaped_cell (Future f) h = tt
shaped_cell (cells.Group ns) h = tt

shaped_store : (s : List CellShape) → Each IsProperCell s → AreAll IsShapedCell s
shaped_store s h = each_all IsProperCell IsShapedCell shaped_cell s h

shaped_services : (vs : List ServiceShape) → Each (λ v. AreContexts v.contexts) vs
    → Each (λ v. Each IsProperContext v.contexts) vs → AreAll (λ v. AreShaped v.contexts) vs
shaped_services [] h g = tt
shaped_services (v ∷ vs) h g = (shaped v.contexts h.0 g.0, shaped_services vs h.1 g.1)

shaped_activity : (f : FrozenShape) (x : FrozenActivity) → IsSoundActivity f x → x.activity.served ≡ []
    → IsShapedActivity x
shaped_activity f x h bare = record {
  queue = each_all _ _ (λ r g. shaped_store r.arguments.cells g.arguments.proper.cells) x.queue h.queue;
  services = shaped_services x.activity.services h.contexts h.proper.services;
  term = shaped_term x.activity.term h.proper.term;
  store = shaped_store x.activity.store h.proper.store;
  served = bare;
}

shaped_activities : (f : FrozenShape) (xs : List FrozenActivity) → Each (IsSoundActivity f) xs
    → Each (λ x. x.activity.served ≡ []) xs → AreAll IsShapedActivity xs
shaped_activities f [] h g = tt
shaped_activities f (x ∷ xs) h g = (shaped_activity f x h.0 g.0, shaped_activities f xs h.1 g.1)

pub sound_are_shaped : (f : FrozenShape) → IsSoundFrozen f → IsBare f → IsShaped f
sound_are_shaped f h bare = record {
  filled = each_all _ _ (λ v g. (tt, shaped_store v.1.cells g.parcel.proper.cells)) f.filled h.filled;
  activities = shaped_activities f f.activities h.activities bare;
}
