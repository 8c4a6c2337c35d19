-- Places and holes of terms that were read have no terms below.
use Rattle.std.specs.Prelude.{◌≡◌, List, [], ◌∷◌, ◌++◌, map}
use Rattle.std.proofs.Common.{sym, ap, subst, ◌∙◌}
use Rattle.asp_model.specs.declared.word.Label.{Label}
use Rattle.asp_model.specs.declared.term.Term.{Term, out-Term, roll-Term, roll-out-Term}
use Rattle.asp_model.specs.declared.term.Method.{Method}
use Rattle.asp_model.specs.declared.term.Term.TheVariants.{rolls-Make, rolls-Get, rolls-Put, rolls-Call, rolls-Clone, rolls-Active, rolls-Let, rolls-Steps, rolls-If, rolls-Repeat, rolls-Operate, rolls-Print, rolls-Group, rolls-Scatter, rolls-Size, rolls-Member, rolls-WaitAll}
use Rattle.asp_model.specs.declared.term.Term.TheOpen as layer
use Rattle.asp_model.specs.declared.term.Term.TheOpen.{Term-F}
use Rattle.asp_model.specs.declared.term.Term.TheFolds.{fold-roll-Term}
use Rattle.asp_model.specs.Marked.{Marked, plain}
use Rattle.asp_model.specs.Shapes.{MarkedMethod, term_step, method_step, tree_of}
use Rattle.asp_model.specs.Term.{Loc, Hole, Tree, Trees, node, none, more, trees}
use Rattle.code_table.specs.Parts.{body_tree, field_tree}
use Rattle.code_table.proofs.TermTrees.{make_is, get_is, put_is, call_is, clone_is, active_is, let_is, steps_is, if_is, repeat_is, operate_is, print_is, group_is, scatter_is, size_is, member_is, waitall_is}

-- nothing stands below a place or a hole
abbrev pub IsBare : Tree → Type 0
IsBare (node (Loc n) ts) = ts ≡ none
IsBare (node Hole ts) = ts ≡ none
IsBare (node h ts) = Unit {0}

abbrev pub AreBare : Trees → Type 0
AreBare none = Unit {0}
AreBare (more t ts) = IsBare t × AreBare ts

abbrev pub HasBare : Tree → Type 0
HasBare (node h ts) = AreBare ts

bare_layer : (l : Term-F Term Method) → IsBare (tree_of (roll-Term l))
bare_layer (layer.Loc n m) = subst IsBare (sym (ap plain (fold-roll-Term Marked MarkedMethod term_step method_step (layer.Loc n m)))) (λ i. none)
bare_layer (layer.Hole m) = subst IsBare (sym (ap plain (fold-roll-Term Marked MarkedMethod term_step method_step (layer.Hole m)))) (λ i. none)
bare_layer l = subst IsBare (sym (ap plain (fold-roll-Term Marked MarkedMethod term_step method_step l))) tt

pub term_bare : (t : Term) → IsBare (tree_of t)
term_bare t = subst (λ u. IsBare (tree_of u)) (roll-out-Term t) (bare_layer (out-Term t))

terms_bare : (ts : List Term) → AreBare (trees (map tree_of ts))
terms_bare [] = tt
terms_bare (t ∷ ts) = (term_bare t, terms_bare ts)

object_bare : (fs : List (Label × Term)) (ms : List Method) → AreBare (trees (map field_tree fs ++ map body_tree ms))
object_bare [] [] = tt
object_bare [] (m ∷ ms) = (term_bare m.body, object_bare [] ms)
object_bare (f ∷ fs) ms = (term_bare f.1, object_bare fs ms)

below_layer : (l : Term-F Term Method) → HasBare (tree_of (roll-Term l))
below_layer (layer.Make fs ms m) = subst HasBare (sym (ap tree_of (rolls-Make fs ms m) ∙ make_is fs ms m)) (object_bare fs.items ms.items)
below_layer (layer.Get a l m) = subst HasBare (sym (ap tree_of (rolls-Get a l m) ∙ get_is a l m)) (term_bare a.value, tt)
below_layer (layer.Put a l b m) = subst HasBare (sym (ap tree_of (rolls-Put a l b m) ∙ put_is a l b m)) (term_bare a.value, (term_bare b.value, tt))
below_layer (layer.Call a l ts m) = subst HasBare (sym (ap tree_of (rolls-Call a l ts m) ∙ call_is a l ts m)) (term_bare a.value, terms_bare ts.items)
below_layer (layer.Clone a m) = subst HasBare (sym (ap tree_of (rolls-Clone a m) ∙ clone_is a m)) (term_bare a.value, tt)
below_layer (layer.Active a l m) = subst HasBare (sym (ap tree_of (rolls-Active a l m) ∙ active_is a l m)) (term_bare a.value, tt)
below_layer (layer.Let x a b m) = subst HasBare (sym (ap tree_of (rolls-Let x a b m) ∙ let_is x a b m)) (term_bare a.value, (term_bare b.value, tt))
below_layer (layer.Steps ts m) = subst HasBare (sym (ap tree_of (rolls-Steps ts m) ∙ steps_is ts m)) (terms_bare ts.items)
below_layer (layer.If a b c m) = subst HasBare (sym (ap tree_of (rolls-If a b c m) ∙ if_is a b c m)) (term_bare a.value, (term_bare b.value, (term_bare c.value, tt)))
below_layer (layer.Repeat a m) = subst HasBare (sym (ap tree_of (rolls-Repeat a m) ∙ repeat_is a m)) (term_bare a.value, tt)
below_layer (layer.Operate s a b m) = subst HasBare (sym (ap tree_of (rolls-Operate s a b m) ∙ operate_is s a b m)) (term_bare a.value, (term_bare b.value, tt))
below_layer (layer.Print a m) = subst HasBare (sym (ap tree_of (rolls-Print a m) ∙ print_is a m)) (term_bare a.value, tt)
below_layer (layer.Group ts m) = subst HasBare (sym (ap tree_of (rolls-Group ts m) ∙ group_is ts m)) (terms_bare ts.items)
below_layer (layer.Scatter a l b m) = subst HasBare (sym (ap tree_of (rolls-Scatter a l b m) ∙ scatter_is a l b m)) (term_bare a.value, (term_bare b.value, tt))
below_layer (layer.Size a m) = subst HasBare (sym (ap tree_of (rolls-Size a m) ∙ size_is a m)) (term_bare a.value, tt)
below_layer (layer.Member a b m) = subst HasBare (sym (ap tree_of (rolls-Member a b m) ∙ member_is a b m)) (term_bare a.value, (term_bare b.value, tt))
below_layer (layer.WaitAll a m) = subst HasBare (sym (ap tree_of (rolls-WaitAll a m) ∙ waitall_is a m)) (term_bare a.value, tt)
below_layer l = subst HasBare (sym (ap plain (fold-roll-Term Marked MarkedMethod term_step method_step l))) tt

pub below_bare : (t : Term) → HasBare (tree_of t)
below_bare t = subst (λ u. HasBare (tree_of u)) (roll-out-Term t) (below_layer (out-Term t))
