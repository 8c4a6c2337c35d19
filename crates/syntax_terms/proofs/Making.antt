-- What the node of an object is, from its fields and methods, and which nodes are no field access.
use Rattle.std.proofs.Common.{◌≡◌, ◌≢◌, false, List, [], ◌∷◌, map, refl, ap, sym, subst, ◌∙◌}
use Rattle.std.specs.declared.boxed.Box.{Box}
use Rattle.std.specs.declared.vec.Vec.{Vec}
use Rattle.std.specs.declared.alloc.Global.{Global}
use Rattle.asp_model.specs.declared.word.Label.{Label}
use Rattle.asp_model.specs.declared.term.Mark.{Mark}
use Rattle.asp_model.specs.declared.term.Term.{Term, out-Term, roll-Term, roll-out-Term}
use Rattle.asp_model.specs.declared.term.Method.{Method}
use Rattle.asp_model.specs.declared.term.Term.TheVariants.{Make, Get, rolls-Make, rolls-Get}
use Rattle.asp_model.specs.declared.term.Term.TheOpen as layer
use Rattle.asp_model.specs.declared.term.Term.TheOpen.{Term-F}
use Rattle.asp_model.specs.declared.term.Term.TheFolds.{fold-roll-Term}
use Rattle.asp_model.specs.Marked.{Marked}
use Rattle.syntax_grammar.specs.Nodes.{is_get}
use Rattle.asp_model.specs.Shapes.{marked_of, mark_shape, method_of, field_of, make_shape, MarkedMethod, term_step, method_step}

map_map : {A B C : Type 0} (f : A → B) (g : B → C) (h : A → C) → ((x : A) → g (f x) ≡ h x) → (xs : List A) → map g (map f xs) ≡ map h xs
map_map f g h e [] = refl
map_map f g h e (x ∷ xs) = λ i. e x i ∷ map_map f g h e xs i

pub make_is : (fs : Vec (Label × Term) Global) (ms : Vec Method Global) (m : Mark) → marked_of (Make fs ms m) ≡ make_shape (mark_shape m) (map field_of fs.items) (map method_of ms.items)
make_is fs ms m =
    ap marked_of (sym (rolls-Make fs ms m)) ∙ fold-roll-Term Marked MarkedMethod term_step method_step (layer.Make fs ms m)
    ∙ ap (λ xs. make_shape (mark_shape m) xs (map method_of ms.items)) (map_map _ (λ f. (f.0.text, f.1)) field_of (λ x. refl) fs.items)

layer_other : (l : Term-F Term Method) → ((a : Box Term Global) (x : Label) (m : Mark) → roll-Term l ≢ Get a x m) → is_get (marked_of (roll-Term l)) ≡ false
layer_other (layer.Get a x m) h = absurd (h a x m (rolls-Get a x m))
layer_other l h = ap is_get (fold-roll-Term Marked MarkedMethod term_step method_step l)

pub get_other : (t : Term) → ((a : Box Term Global) (x : Label) (m : Mark) → t ≢ Get a x m) → is_get (marked_of t) ≡ false
get_other t h = subst (λ u. is_get (marked_of u) ≡ false) (roll-out-Term t) (layer_other (out-Term t) (λ a x m e. h a x m (sym (roll-out-Term t) ∙ e)))
