-- What is closed in a closed node.
use Rattle.std.proofs.Common.{◌≡◌, ℕ, zero, suc, ◌<◌, List, [], ◌∷◌, ◌++◌, length, map, get_or, refl, sym, ap, subst, ◌∙◌, arith}
use Rattle.std.specs.Global.{Box, Vec}
use Rattle.asp_model.specs.declared.word.Label.{Label}
use Rattle.asp_model.specs.declared.term.Term.{Term}
use Rattle.asp_model.specs.declared.term.Method.{Method}
use Rattle.asp_model.specs.declared.term.Mark.{Mark}
use Rattle.asp_model.specs.declared.term.Term.TheVariants.{Make, Call, Steps, Group}
use Rattle.asp_model.specs.Names.{Text}
use Rattle.asp_model.specs.Term as term
use Rattle.asp_model.specs.Term.{Tree, Trees, MethodHead, node, none, more, trees, binders, child_count}
use Rattle.asp_model.specs.Readable.{HasArity}
use Rattle.asp_model.specs.Shapes.{tree_of}
use Rattle.code_table.specs.Fitting.{head_names}
use Rattle.code_compiler.specs.Slots.{bound_in}
use Rattle.code_table.specs.Parts.{body_tree, field_label, field_tree, method_head}
use Rattle.code_compiler.specs.Closed.{IsClosed, AreClosed}
use Rattle.code_compiler.specs.Parts.{terms_below, fields_below, bodies_below, AreClosedMethods}
use Rattle.code_table.proofs.TermTrees.{make_is, call_is, steps_is, group_is}

-- lists of terms

pub steps_closed : (ns : List Text) (t : Term) (xs : List Term) (ts : Vec Term) (m : Mark) → xs ≡ ts.items → t ≡ Steps ts m → IsClosed ns (tree_of t) → HasArity term.Steps (child_count (terms_below xs)) × AreClosed ns [] (terms_below xs)
steps_closed ns t xs ts m e is c =
    let h : IsClosed ns (node term.Steps (terms_below xs)) = subst (IsClosed ns) (ap tree_of is ∙ steps_is ts m ∙ ap (λ (l : List Term). node term.Steps (terms_below l)) (sym e)) c in (h.1, h.2)

pub group_closed : (ns : List Text) (t : Term) (xs : List Term) (ts : Vec Term) (m : Mark) → xs ≡ ts.items → t ≡ Group ts m → IsClosed ns (tree_of t) → AreClosed ns [] (terms_below xs)
group_closed ns t xs ts m e is c =
    let h : IsClosed ns (node term.Group (terms_below xs)) = subst (IsClosed ns) (ap tree_of is ∙ group_is ts m ∙ ap (λ (l : List Term). node term.Group (terms_below l)) (sym e)) c in h.2

pub call_closed : (ns : List Text) (t : Term) (xs : List Term) (a : Box Term) (l : Label) (ts : Vec Term) (m : Mark) → xs ≡ ts.items → t ≡ Call a l ts m → IsClosed ns (tree_of t) → AreClosed ns [] (terms_below xs)
call_closed ns t xs a l ts m e is c =
    let h : IsClosed ns (node (term.Call l.text) (more (tree_of a.value) (terms_below xs))) =
    subst (IsClosed ns) (ap tree_of is ∙ call_is a l ts m ∙ ap (λ (l' : List Term). node (term.Call l.text) (more (tree_of a.value) (terms_below l'))) (sym e)) c in
    h.2.1

-- objects

both_closed : (ns : List Text) (fs : List (Label × Term)) (ms : List Method)
    → AreClosed ns (map (λ (l : Text). let no_name : List Text = [] in no_name) (map field_label fs) ++ map head_names (map method_head ms)) (trees (map field_tree fs ++ map body_tree ms)) → AreClosed ns [] (fields_below fs) × AreClosedMethods ns ms
both_closed ns [] ms c = (tt, subst (λ (l : List (List Text)). AreClosed ns l (bodies_below ms)) (heads_map ms) c)
  where
    heads_map : (ms : List Method) → map head_names (map method_head ms) ≡ map bound_in ms
    heads_map [] = refl
    heads_map (m ∷ ms) = ap (λ (ns : List (List Text)). bound_in m ∷ ns) (heads_map ms)
both_closed ns (f ∷ fs) ms c = let h : AreClosed ns [] (fields_below fs) × AreClosedMethods ns ms = both_closed ns fs ms c.1 in ((c.0, h.0), h.1)

make_closed : (ns : List Text) (t : Term) (fs : Vec (Label × Term)) (ms : Vec Method) (m : Mark) → t ≡ Make fs ms m → IsClosed ns (tree_of t) → AreClosed ns [] (fields_below fs.items) × AreClosedMethods ns ms.items
make_closed ns t fs ms m is c =
    let h : IsClosed ns (node (term.Make (map field_label fs.items) (map method_head ms.items)) (trees (map field_tree fs.items ++ map body_tree ms.items))) = subst (IsClosed ns) (ap tree_of is ∙ make_is fs ms m) c in
    both_closed ns fs.items ms.items h.2

pub fields_closed : (ns : List Text) (t : Term) (xs : List (Label × Term)) (fs : Vec (Label × Term)) (ms : Vec Method) (m : Mark) → xs ≡ fs.items → t ≡ Make fs ms m → IsClosed ns (tree_of t) → AreClosed ns [] (fields_below xs)
fields_closed ns t xs fs ms m e is c = subst (λ (l : List (Label × Term)). AreClosed ns [] (fields_below l)) (sym e) (make_closed ns t fs ms m is c).0

pub methods_closed : (ns : List Text) (t : Term) (xs : List Method) (fs : Vec (Label × Term)) (ms : Vec Method) (m : Mark) → xs ≡ ms.items → t ≡ Make fs ms m → IsClosed ns (tree_of t) → AreClosedMethods ns xs
methods_closed ns t xs fs ms m e is c = subst (AreClosedMethods ns) (sym e) (make_closed ns t fs ms m is c).1

-- one of several

pub field_at : (ns : List Text) (fs : List (Label × Term)) (i : ℕ) (f : Label × Term) → i < length fs → f ≡ get_or fs i f → AreClosed ns [] (fields_below fs) → IsClosed ns (tree_of f.1)
field_at ns [] i f h e c = absurd (omega (arith, h))
field_at ns (g ∷ fs) zero f h e c = subst (λ (x : Label × Term). IsClosed ns (tree_of x.1)) (sym e) c.0
field_at ns (g ∷ fs) (suc i) f h e c = let less : i < length fs = omega (arith, h) in field_at ns fs i f less e c.1

pub method_at : (ns : List Text) (ms : List Method) (i : ℕ) (m : Method) → i < length ms → m ≡ get_or ms i m → AreClosedMethods ns ms → IsClosed (bound_in m ++ ns) (body_tree m)
method_at ns [] i m h e c = absurd (omega (arith, h))
method_at ns (x ∷ ms) zero m h e c = subst (λ (y : Method). IsClosed (bound_in y ++ ns) (body_tree y)) (sym e) c.0
method_at ns (x ∷ ms) (suc i) m h e c = let less : i < length ms = omega (arith, h) in method_at ns ms i m less e c.1
