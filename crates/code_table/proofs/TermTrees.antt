-- The trees of terms, variant by variant.
use Rattle.std.proofs.Common.{◌≡◌, ℕ, ℤ, List, Option, [], ◌∷◌, ◌++◌, map, refl, sym, ap, ◌∙◌}
use Rattle.std.specs.Global.{Box, Vec}
use Rattle.std.specs.Option.{option_map}
use Rattle.asp_model.specs.declared.word.Label.{Label}
use Rattle.asp_model.specs.declared.term.Sign.{Sign}
use Rattle.asp_model.specs.declared.term.Mark.{Mark}
use Rattle.asp_model.specs.declared.term.Term.{Term}
use Rattle.asp_model.specs.declared.term.Method.{Method}
use Rattle.asp_model.specs.declared.term.Term.TheOpen as layer
use Rattle.asp_model.specs.declared.term.Term.TheVariants.{Make, Loc, Hole, Var, Number, Get, Put, Call, Clone, Active, Serve, Let, Steps, If, Repeat, Operate, Print, Echo, Group, Scatter, Size, Member, WaitAll, Pending, rolls-Make, rolls-Loc, rolls-Hole, rolls-Var, rolls-Number, rolls-Get, rolls-Put, rolls-Call, rolls-Clone, rolls-Active, rolls-Serve, rolls-Let, rolls-Steps, rolls-If, rolls-Repeat, rolls-Operate, rolls-Print, rolls-Echo, rolls-Group, rolls-Scatter, rolls-Size, rolls-Member, rolls-WaitAll, rolls-Pending}
use Rattle.asp_model.specs.declared.term.Term.TheFolds.{fold-roll-Term, fold-roll-Method}
use Rattle.asp_model.specs.Names.{Text}
use Rattle.asp_model.specs.Term as term
use Rattle.asp_model.specs.Term.{Trees, node, none, more, trees, loc, leaf, one, two}
use Rattle.asp_model.specs.Marked.{Marked, marked, and_marked, two_marked, all_marked, plain, plain_below}
use Rattle.asp_model.specs.Shapes.{MarkedMethod, term_step, method_step, marked_of, method_of, tree_of, sign_shape, field_of, make_shape, mark_shape}
use Rattle.code_table.specs.Tables.{text_of}
use Rattle.code_table.specs.Parts.{field_label, field_tree, method_head, body_tree}

plain_terms : (ts : List Term) → plain_below (all_marked (map marked_of ts)) ≡ trees (map tree_of ts)
plain_terms [] = refl
plain_terms (t ∷ ts) = ap (more (tree_of t)) (plain_terms ts)

pub loc_is : (n : ℕ) (m : Mark) → tree_of (Loc n m) ≡ loc n
loc_is n m = ap tree_of (sym (rolls-Loc n m)) ∙ ap plain (fold-roll-Term Marked MarkedMethod term_step method_step (layer.Loc n m))

pub hole_is : (m : Mark) → tree_of (Hole m) ≡ leaf term.Hole
hole_is m = ap tree_of (sym (rolls-Hole m)) ∙ ap plain (fold-roll-Term Marked MarkedMethod term_step method_step (layer.Hole m))

pub var_is : (x : List ℕ) (m : Mark) → tree_of (Var x m) ≡ leaf (term.Var x)
var_is x m = ap tree_of (sym (rolls-Var x m)) ∙ ap plain (fold-roll-Term Marked MarkedMethod term_step method_step (layer.Var x m))

pub number_is : (n : ℤ) (m : Mark) → tree_of (Number n m) ≡ leaf (term.Number n)
number_is n m = ap tree_of (sym (rolls-Number n m)) ∙ ap plain (fold-roll-Term Marked MarkedMethod term_step method_step (layer.Number n m))

pub get_is : (a : Box Term) (l : Label) (m : Mark) → tree_of (Get a l m) ≡ one (term.Get l.text) (tree_of a.value)
get_is a l m = ap tree_of (sym (rolls-Get a l m)) ∙ ap plain (fold-roll-Term Marked MarkedMethod term_step method_step (layer.Get a l m))

pub put_is : (a : Box Term) (l : Label) (b : Box Term) (m : Mark) → tree_of (Put a l b m) ≡ two (term.Put l.text) (tree_of a.value) (tree_of b.value)
put_is a l b m = ap tree_of (sym (rolls-Put a l b m)) ∙ ap plain (fold-roll-Term Marked MarkedMethod term_step method_step (layer.Put a l b m))

pub call_is : (a : Box Term) (l : Label) (ts : Vec Term) (m : Mark) → tree_of (Call a l ts m) ≡ node (term.Call l.text) (more (tree_of a.value) (trees (map tree_of ts.items)))
call_is a l ts m = ap tree_of (sym (rolls-Call a l ts m)) ∙ ap plain (fold-roll-Term Marked MarkedMethod term_step method_step (layer.Call a l ts m)) ∙ ap (λ (us : Trees). node (term.Call l.text) (more (tree_of a.value) us)) (plain_terms ts.items)

pub clone_is : (a : Box Term) (m : Mark) → tree_of (Clone a m) ≡ one term.Clone (tree_of a.value)
clone_is a m = ap tree_of (sym (rolls-Clone a m)) ∙ ap plain (fold-roll-Term Marked MarkedMethod term_step method_step (layer.Clone a m))

pub active_is : (a : Box Term) (l : Option Label) (m : Mark) → tree_of (Active a l m) ≡ one (term.Active (option_map text_of l)) (tree_of a.value)
active_is a l m = ap tree_of (sym (rolls-Active a l m)) ∙ ap plain (fold-roll-Term Marked MarkedMethod term_step method_step (layer.Active a l m))

pub serve_is : (ls : Vec Label) (m : Mark) → tree_of (Serve ls m) ≡ leaf (term.Serve (map text_of ls.items))
serve_is ls m = ap tree_of (sym (rolls-Serve ls m)) ∙ ap plain (fold-roll-Term Marked MarkedMethod term_step method_step (layer.Serve ls m))

pub let_is : (x : List ℕ) (a b : Box Term) (m : Mark) → tree_of (Let x a b m) ≡ two (term.Let x) (tree_of a.value) (tree_of b.value)
let_is x a b m = ap tree_of (sym (rolls-Let x a b m)) ∙ ap plain (fold-roll-Term Marked MarkedMethod term_step method_step (layer.Let x a b m))

pub steps_is : (ts : Vec Term) (m : Mark) → tree_of (Steps ts m) ≡ node term.Steps (trees (map tree_of ts.items))
steps_is ts m = ap tree_of (sym (rolls-Steps ts m)) ∙ ap plain (fold-roll-Term Marked MarkedMethod term_step method_step (layer.Steps ts m)) ∙ ap (node term.Steps) (plain_terms ts.items)

pub if_is : (a b c : Box Term) (m : Mark) → tree_of (If a b c m) ≡ node term.If (more (tree_of a.value) (more (tree_of b.value) (more (tree_of c.value) none)))
if_is a b c m = ap tree_of (sym (rolls-If a b c m)) ∙ ap plain (fold-roll-Term Marked MarkedMethod term_step method_step (layer.If a b c m))

pub repeat_is : (a : Box Term) (m : Mark) → tree_of (Repeat a m) ≡ one term.Repeat (tree_of a.value)
repeat_is a m = ap tree_of (sym (rolls-Repeat a m)) ∙ ap plain (fold-roll-Term Marked MarkedMethod term_step method_step (layer.Repeat a m))

pub operate_is : (s : Sign) (a b : Box Term) (m : Mark) → tree_of (Operate s a b m) ≡ two (term.Operate (sign_shape s)) (tree_of a.value) (tree_of b.value)
operate_is s a b m = ap tree_of (sym (rolls-Operate s a b m)) ∙ ap plain (fold-roll-Term Marked MarkedMethod term_step method_step (layer.Operate s a b m))

pub print_is : (a : Box Term) (m : Mark) → tree_of (Print a m) ≡ one term.Print (tree_of a.value)
print_is a m = ap tree_of (sym (rolls-Print a m)) ∙ ap plain (fold-roll-Term Marked MarkedMethod term_step method_step (layer.Print a m))

pub echo_is : (x : List ℕ) (m : Mark) → tree_of (Echo x m) ≡ leaf (term.Echo x)
echo_is x m = ap tree_of (sym (rolls-Echo x m)) ∙ ap plain (fold-roll-Term Marked MarkedMethod term_step method_step (layer.Echo x m))

pub group_is : (ts : Vec Term) (m : Mark) → tree_of (Group ts m) ≡ node term.Group (trees (map tree_of ts.items))
group_is ts m = ap tree_of (sym (rolls-Group ts m)) ∙ ap plain (fold-roll-Term Marked MarkedMethod term_step method_step (layer.Group ts m)) ∙ ap (node term.Group) (plain_terms ts.items)

pub scatter_is : (a : Box Term) (l : Label) (b : Box Term) (m : Mark) → tree_of (Scatter a l b m) ≡ two (term.Scatter l.text) (tree_of a.value) (tree_of b.value)
scatter_is a l b m = ap tree_of (sym (rolls-Scatter a l b m)) ∙ ap plain (fold-roll-Term Marked MarkedMethod term_step method_step (layer.Scatter a l b m))

pub size_is : (a : Box Term) (m : Mark) → tree_of (Size a m) ≡ one term.Size (tree_of a.value)
size_is a m = ap tree_of (sym (rolls-Size a m)) ∙ ap plain (fold-roll-Term Marked MarkedMethod term_step method_step (layer.Size a m))

pub member_is : (a b : Box Term) (m : Mark) → tree_of (Member a b m) ≡ two term.Member (tree_of a.value) (tree_of b.value)
member_is a b m = ap tree_of (sym (rolls-Member a b m)) ∙ ap plain (fold-roll-Term Marked MarkedMethod term_step method_step (layer.Member a b m))

pub waitall_is : (a : Box Term) (m : Mark) → tree_of (WaitAll a m) ≡ one term.WaitAll (tree_of a.value)
waitall_is a m = ap tree_of (sym (rolls-WaitAll a m)) ∙ ap plain (fold-roll-Term Marked MarkedMethod term_step method_step (layer.WaitAll a m))

pub pending_is : (ls : Vec Label) (m : Mark) → tree_of (Pending ls m) ≡ leaf (term.Pending (map text_of ls.items))
pending_is ls m = ap tree_of (sym (rolls-Pending ls m)) ∙ ap plain (fold-roll-Term Marked MarkedMethod term_step method_step (layer.Pending ls m))

-- Objects

map_map : {A B C : Type 0} (f : A → B) (g : B → C) (h : A → C) → ((x : A) → g (f x) ≡ h x) → (xs : List A) → map g (map f xs) ≡ map h xs
map_map f g h e [] = refl
map_map f g h e (x ∷ xs) = λ i. e x i ∷ map_map f g h e xs i

method_is : (m : Method) → method_of m ≡ record { head = method_head m; body = marked_of m.body }
method_is m = fold-roll-Method Marked MarkedMethod term_step method_step (record { label = m.label; slf = m.slf; parameters = m.parameters; body = m.body })

labels_are : (fs : List (Label × Term)) → map (λ (f : Text × Marked). f.0) (map field_of fs) ≡ map field_label fs
labels_are [] = refl
labels_are (f ∷ fs) = ap (λ (ls : List Text). f.0.text ∷ ls) (labels_are fs)

heads_are : (ms : List Method) → map (λ (x : MarkedMethod). x.head) (map method_of ms) ≡ map method_head ms
heads_are [] = refl
heads_are (m ∷ ms) = λ i. (method_is m i).head ∷ heads_are ms i

bodies_are : (ms : List Method) → plain_below (all_marked (map (λ (x : MarkedMethod). x.body) (map method_of ms))) ≡ trees (map body_tree ms)
bodies_are [] = refl
bodies_are (m ∷ ms) = λ i. more (plain (method_is m i).body) (bodies_are ms i)

below_are : (fs : List (Label × Term)) (ms : List Method)
    → plain_below (all_marked (map (λ (f : Text × Marked). f.1) (map field_of fs) ++ map (λ (x : MarkedMethod). x.body) (map method_of ms))) ≡ trees (map field_tree fs ++ map body_tree ms)
below_are [] ms = bodies_are ms
below_are (f ∷ fs) ms = ap (more (tree_of f.1)) (below_are fs ms)

pub make_is : (fs : Vec (Label × Term)) (ms : Vec Method) (m : Mark) → tree_of (Make fs ms m) ≡ node (term.Make (map field_label fs.items) (map method_head ms.items)) (trees (map field_tree fs.items ++ map body_tree ms.items))
make_is fs ms m =
    ap tree_of (sym (rolls-Make fs ms m)) ∙ ap plain (fold-roll-Term Marked MarkedMethod term_step method_step (layer.Make fs ms m))
    ∙ ap (λ (xs : List (Text × Marked)). plain (make_shape (mark_shape m) xs (map method_of ms.items))) (map_map _ (λ f. (f.0.text, f.1)) field_of (λ x. refl) fs.items)
    ∙ (λ i. node (term.Make (labels_are fs.items i) (heads_are ms.items i)) (below_are fs.items ms.items i))

pub ruleset trees_are = (make_is, loc_is, hole_is, var_is, number_is, get_is, put_is, call_is, clone_is, active_is, serve_is, let_is, steps_is, if_is, repeat_is, operate_is, print_is, echo_is, group_is, scatter_is, size_is, member_is, waitall_is, pending_is)

-- those over so many terms
pub ruleset leaves_are = (number_is, serve_is, echo_is, pending_is)

pub ruleset ones_are = (get_is, clone_is, active_is, repeat_is, print_is, size_is, waitall_is)

pub ruleset twos_are = (put_is, let_is, operate_is, scatter_is, member_is)

pub ruleset others_are = (call_is, if_is)

pub ruleset rows_are = (steps_is, group_is)

-- Terms with their marks

abbrev marked_field : Label × Term → Marked
marked_field f = marked_of f.1

abbrev marked_body : Method → Marked
marked_body m = marked_of m.body

pub call_marked : (a : Box Term) (l : Label) (ts : Vec Term) (m : Mark) → marked_of (Call a l ts m) ≡ marked (term.Call l.text) (mark_shape m) (and_marked (marked_of a.value) (all_marked (map marked_of ts.items)))
call_marked a l ts m = ap marked_of (sym (rolls-Call a l ts m)) ∙ fold-roll-Term Marked MarkedMethod term_step method_step (layer.Call a l ts m)

pub put_marked : (a : Box Term) (l : Label) (b : Box Term) (m : Mark) → marked_of (Put a l b m) ≡ marked (term.Put l.text) (mark_shape m) (two_marked (marked_of a.value) (marked_of b.value))
put_marked a l b m = ap marked_of (sym (rolls-Put a l b m)) ∙ fold-roll-Term Marked MarkedMethod term_step method_step (layer.Put a l b m)

pub let_marked : (x : List ℕ) (a b : Box Term) (m : Mark) → marked_of (Let x a b m) ≡ marked (term.Let x) (mark_shape m) (two_marked (marked_of a.value) (marked_of b.value))
let_marked x a b m = ap marked_of (sym (rolls-Let x a b m)) ∙ fold-roll-Term Marked MarkedMethod term_step method_step (layer.Let x a b m)

pub steps_marked : (ts : Vec Term) (m : Mark) → marked_of (Steps ts m) ≡ marked term.Steps (mark_shape m) (all_marked (map marked_of ts.items))
steps_marked ts m = ap marked_of (sym (rolls-Steps ts m)) ∙ fold-roll-Term Marked MarkedMethod term_step method_step (layer.Steps ts m)

pub if_marked : (a b c : Box Term) (m : Mark) → marked_of (If a b c m) ≡ marked term.If (mark_shape m) (and_marked (marked_of a.value) (two_marked (marked_of b.value) (marked_of c.value)))
if_marked a b c m = ap marked_of (sym (rolls-If a b c m)) ∙ fold-roll-Term Marked MarkedMethod term_step method_step (layer.If a b c m)

pub operate_marked : (s : Sign) (a b : Box Term) (m : Mark) → marked_of (Operate s a b m) ≡ marked (term.Operate (sign_shape s)) (mark_shape m) (two_marked (marked_of a.value) (marked_of b.value))
operate_marked s a b m = ap marked_of (sym (rolls-Operate s a b m)) ∙ fold-roll-Term Marked MarkedMethod term_step method_step (layer.Operate s a b m)

pub group_marked : (ts : Vec Term) (m : Mark) → marked_of (Group ts m) ≡ marked term.Group (mark_shape m) (all_marked (map marked_of ts.items))
group_marked ts m = ap marked_of (sym (rolls-Group ts m)) ∙ fold-roll-Term Marked MarkedMethod term_step method_step (layer.Group ts m)

pub scatter_marked : (a : Box Term) (l : Label) (b : Box Term) (m : Mark) → marked_of (Scatter a l b m) ≡ marked (term.Scatter l.text) (mark_shape m) (two_marked (marked_of a.value) (marked_of b.value))
scatter_marked a l b m = ap marked_of (sym (rolls-Scatter a l b m)) ∙ fold-roll-Term Marked MarkedMethod term_step method_step (layer.Scatter a l b m)

pub member_marked : (a b : Box Term) (m : Mark) → marked_of (Member a b m) ≡ marked term.Member (mark_shape m) (two_marked (marked_of a.value) (marked_of b.value))
member_marked a b m = ap marked_of (sym (rolls-Member a b m)) ∙ fold-roll-Term Marked MarkedMethod term_step method_step (layer.Member a b m)

marked_bodies : (ms : List Method) → map (λ (x : MarkedMethod). x.body) (map method_of ms) ≡ map marked_body ms
marked_bodies [] = refl
marked_bodies (m ∷ ms) = λ i. (method_is m i).body ∷ marked_bodies ms i

marked_parts : (fs : List (Label × Term)) (ms : List Method)
    → map (λ (f : Text × Marked). f.1) (map field_of fs) ++ map (λ (x : MarkedMethod). x.body) (map method_of ms) ≡ map marked_field fs ++ map marked_body ms
marked_parts [] ms = marked_bodies ms
marked_parts (f ∷ fs) ms = ap (λ (us : List Marked). marked_of f.1 ∷ us) (marked_parts fs ms)

pub make_marked : (fs : Vec (Label × Term)) (ms : Vec Method) (m : Mark)
    → marked_of (Make fs ms m) ≡ marked (term.Make (map field_label fs.items) (map method_head ms.items)) (mark_shape m) (all_marked (map marked_field fs.items ++ map marked_body ms.items))
make_marked fs ms m =
    ap marked_of (sym (rolls-Make fs ms m)) ∙ fold-roll-Term Marked MarkedMethod term_step method_step (layer.Make fs ms m)
    ∙ ap (λ (xs : List (Text × Marked)). make_shape (mark_shape m) xs (map method_of ms.items)) (map_map _ (λ f. (f.0.text, f.1)) field_of (λ x. refl) fs.items)
    ∙ (λ i. marked (term.Make (labels_are fs.items i) (heads_are ms.items i)) (mark_shape m) (all_marked (marked_parts fs.items ms.items i)))
