-- The places and names of each kind of term.
use Rattle.std.proofs.Common.{◌≡◌, ℕ, ℤ, List, Option, [], ◌∷◌, ◌++◌, map, refl, ap, ◌∙◌}
use Rattle.std.specs.Global.{Box, Vec}
use Rattle.asp_model.specs.declared.word.Label.{Label}
use Rattle.asp_model.specs.declared.term.Sign.{Sign}
use Rattle.asp_model.specs.declared.term.Mark.{Mark}
use Rattle.asp_model.specs.declared.term.Term.{Term}
use Rattle.asp_model.specs.declared.term.Method.{Method}
use Rattle.asp_model.specs.declared.term.Term.TheVariants.{Make, Loc, Hole, Var, Number, Get, Put, Call, Clone, Active, Serve, Let, Steps, If, Repeat, Operate, Print, Echo, Group, Scatter, Size, Member, WaitAll, Pending}
use Rattle.asp_model.specs.Names.{Text}
use Rattle.asp_model.specs.Term.{trees}
use Rattle.asp_model.specs.Shapes.{tree_of}
use Rattle.code_table.specs.Fitting.{head_names}
use Rattle.code_table.specs.Parts.{body_tree, field_label, field_tree, method_head}
use Rattle.code_compiler.specs.Slots.{bound_in}
use Rattle.code_compiler.specs.Parts.{terms_below, fields_below, bodies_below}
use Rattle.code_table.proofs.TermTrees.{make_is, loc_is, hole_is, var_is, number_is, get_is, put_is, call_is, clone_is, active_is, serve_is, let_is, steps_is, if_is, repeat_is, operate_is, print_is, echo_is, group_is, scatter_is, size_is, member_is, waitall_is, pending_is}
use Rattle.term_opening.specs.Naming.{Seen, noted, noted_below, with_name, with_place}

pub loc_noted : (s : Seen) (n : ℕ) (m : Mark) → noted s (tree_of (Loc n m)) ≡ with_place n s
loc_noted s n m = ap (noted s) (loc_is n m)

pub hole_noted : (s : Seen) (m : Mark) → noted s (tree_of (Hole m)) ≡ s
hole_noted s m = ap (noted s) (hole_is m)

pub var_noted : (s : Seen) (x : List ℕ) (m : Mark) → noted s (tree_of (Var x m)) ≡ with_name x s
var_noted s x m = ap (noted s) (var_is x m)

pub number_noted : (s : Seen) (n : ℤ) (m : Mark) → noted s (tree_of (Number n m)) ≡ s
number_noted s n m = ap (noted s) (number_is n m)

pub get_noted : (s : Seen) (a : Box Term) (l : Label) (m : Mark) → noted s (tree_of (Get a l m)) ≡ noted s (tree_of a.value)
get_noted s a l m = ap (noted s) (get_is a l m)

pub put_noted : (s : Seen) (a : Box Term) (l : Label) (b : Box Term) (m : Mark) → noted s (tree_of (Put a l b m)) ≡ noted (noted s (tree_of a.value)) (tree_of b.value)
put_noted s a l b m = ap (noted s) (put_is a l b m)

pub call_noted : (s : Seen) (a : Box Term) (l : Label) (ts : Vec Term) (m : Mark) → noted s (tree_of (Call a l ts m)) ≡ noted_below (noted s (tree_of a.value)) [] (terms_below ts.items)
call_noted s a l ts m = ap (noted s) (call_is a l ts m)

pub clone_noted : (s : Seen) (a : Box Term) (m : Mark) → noted s (tree_of (Clone a m)) ≡ noted s (tree_of a.value)
clone_noted s a m = ap (noted s) (clone_is a m)

pub active_noted : (s : Seen) (a : Box Term) (l : Option Label) (m : Mark) → noted s (tree_of (Active a l m)) ≡ noted s (tree_of a.value)
active_noted s a l m = ap (noted s) (active_is a l m)

pub serve_noted : (s : Seen) (ls : Vec Label) (m : Mark) → noted s (tree_of (Serve ls m)) ≡ s
serve_noted s ls m = ap (noted s) (serve_is ls m)

pub let_noted : (s : Seen) (x : List ℕ) (a b : Box Term) (m : Mark) → noted s (tree_of (Let x a b m)) ≡ noted (with_name x (noted s (tree_of a.value))) (tree_of b.value)
let_noted s x a b m = ap (noted s) (let_is x a b m)

pub steps_noted : (s : Seen) (ts : Vec Term) (m : Mark) → noted s (tree_of (Steps ts m)) ≡ noted_below s [] (terms_below ts.items)
steps_noted s ts m = ap (noted s) (steps_is ts m)

pub if_noted : (s : Seen) (a b c : Box Term) (m : Mark) → noted s (tree_of (If a b c m)) ≡ noted (noted (noted s (tree_of a.value)) (tree_of b.value)) (tree_of c.value)
if_noted s a b c m = ap (noted s) (if_is a b c m)

pub repeat_noted : (s : Seen) (a : Box Term) (m : Mark) → noted s (tree_of (Repeat a m)) ≡ noted s (tree_of a.value)
repeat_noted s a m = ap (noted s) (repeat_is a m)

pub operate_noted : (s : Seen) (o : Sign) (a b : Box Term) (m : Mark) → noted s (tree_of (Operate o a b m)) ≡ noted (noted s (tree_of a.value)) (tree_of b.value)
operate_noted s o a b m = ap (noted s) (operate_is o a b m)

pub print_noted : (s : Seen) (a : Box Term) (m : Mark) → noted s (tree_of (Print a m)) ≡ noted s (tree_of a.value)
print_noted s a m = ap (noted s) (print_is a m)

pub echo_noted : (s : Seen) (x : List ℕ) (m : Mark) → noted s (tree_of (Echo x m)) ≡ s
echo_noted s x m = ap (noted s) (echo_is x m)

pub group_noted : (s : Seen) (ts : Vec Term) (m : Mark) → noted s (tree_of (Group ts m)) ≡ noted_below s [] (terms_below ts.items)
group_noted s ts m = ap (noted s) (group_is ts m)

pub scatter_noted : (s : Seen) (a : Box Term) (l : Label) (b : Box Term) (m : Mark) → noted s (tree_of (Scatter a l b m)) ≡ noted (noted s (tree_of a.value)) (tree_of b.value)
scatter_noted s a l b m = ap (noted s) (scatter_is a l b m)

pub size_noted : (s : Seen) (a : Box Term) (m : Mark) → noted s (tree_of (Size a m)) ≡ noted s (tree_of a.value)
size_noted s a m = ap (noted s) (size_is a m)

pub member_noted : (s : Seen) (a b : Box Term) (m : Mark) → noted s (tree_of (Member a b m)) ≡ noted (noted s (tree_of a.value)) (tree_of b.value)
member_noted s a b m = ap (noted s) (member_is a b m)

pub waitall_noted : (s : Seen) (a : Box Term) (m : Mark) → noted s (tree_of (WaitAll a m)) ≡ noted s (tree_of a.value)
waitall_noted s a m = ap (noted s) (waitall_is a m)

pub pending_noted : (s : Seen) (ls : Vec Label) (m : Mark) → noted s (tree_of (Pending ls m)) ≡ s
pending_noted s ls m = ap (noted s) (pending_is ls m)

object_noted : (s : Seen) (fs : List (Label × Term)) (ms : List Method)
    → noted_below s (map (λ (l : Text). let no_name : List Text = [] in no_name) (map field_label fs) ++ map head_names (map method_head ms)) (trees (map field_tree fs ++ map body_tree ms))
    ≡ noted_below (noted_below s [] (fields_below fs)) (map bound_in ms) (bodies_below ms)
object_noted s [] ms = ap (λ (ns : List (List Text)). noted_below s ns (bodies_below ms)) (heads_map ms)
  where
    heads_map : (ms : List Method) → map head_names (map method_head ms) ≡ map bound_in ms
    heads_map [] = refl
    heads_map (m ∷ ms) = ap (λ (ns : List (List Text)). bound_in m ∷ ns) (heads_map ms)
object_noted s (f ∷ fs) ms = object_noted (noted s (field_tree f)) fs ms

pub make_noted : (s : Seen) (fs : Vec (Label × Term)) (ms : Vec Method) (m : Mark)
    → noted s (tree_of (Make fs ms m)) ≡ noted_below (noted_below s [] (fields_below fs.items)) (map bound_in ms.items) (bodies_below ms.items)
make_noted s fs ms m = ap (noted s) (make_is fs ms m) ∙ object_noted s fs.items ms.items

pub ruleset noted_laws = (make_noted, loc_noted, hole_noted, var_noted, number_noted, get_noted, put_noted, call_noted, clone_noted, active_noted, serve_noted, let_noted, steps_noted, if_noted, repeat_noted, operate_noted, print_noted, echo_noted, group_noted, scatter_noted, size_noted, member_noted, waitall_noted, pending_noted)
