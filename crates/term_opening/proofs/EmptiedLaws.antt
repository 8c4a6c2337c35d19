-- A term is what is left of another one, if the terms below it are so.
use Rattle.std.proofs.Common.{◌≡◌, Bool, true, ℕ, ℤ, List, Option, ◌++◌, map, sym, ap, ◌∙◌}
use Rattle.std.specs.Global.{Box, Vec}
use Rattle.std.specs.Option.{option_map}
use Rattle.asp_model.specs.declared.word.Label.{Label}
use Rattle.asp_model.specs.declared.term.Sign.{Sign}
use Rattle.asp_model.specs.declared.term.Mark.{Mark}
use Rattle.asp_model.specs.declared.term.Term.{Term}
use Rattle.asp_model.specs.declared.term.Method.{Method}
use Rattle.asp_model.specs.declared.term.Term.TheVariants.{Make, Loc, Hole, Var, Number, Get, Put, Call, Clone, Active, Serve, Let, Steps, If, Repeat, Operate, Print, Echo, Group, Scatter, Size, Member, WaitAll, Pending}
use Rattle.asp_model.specs.Term as term
use Rattle.asp_model.specs.Term.{node, none, more, trees, one, two}
use Rattle.asp_model.specs.Shapes.{sign_shape, tree_of}
use Rattle.code_table.specs.Tables.{text_of}
use Rattle.code_table.specs.Parts.{body_tree, field_label, field_tree, method_head}
use Rattle.code_table.proofs.TermTrees.{make_is, loc_is, hole_is, var_is, number_is, get_is, put_is, call_is, clone_is, active_is, serve_is, let_is, steps_is, if_is, repeat_is, operate_is, print_is, echo_is, group_is, scatter_is, size_is, member_is, waitall_is, pending_is}
use Rattle.term_opening.specs.Opening.{emptied, emptied_all, emptied_node, emptied_step, goes_on}
use Rattle.term_opening.proofs.EmptiedLemmas.{make_emptied, loc_emptied, hole_emptied, var_emptied, number_emptied, get_emptied, put_emptied, call_emptied, clone_emptied, active_emptied, serve_emptied, let_emptied, steps_emptied, if_emptied, repeat_emptied, operate_emptied, print_emptied, echo_emptied, group_emptied, scatter_emptied, size_emptied, member_emptied, waitall_emptied, pending_emptied}

pub loc_left : (n : ℕ) (m : Mark) → tree_of (Loc n m) ≡ emptied_node (tree_of (Loc n m))
loc_left n m = loc_is n m ∙ sym (loc_emptied n m)

pub hole_left : (m : Mark) → tree_of (Hole m) ≡ emptied_node (tree_of (Hole m))
hole_left m = hole_is m ∙ sym (hole_emptied m)

pub var_left : (x : List ℕ) (m : Mark) → tree_of (Var x m) ≡ emptied_node (tree_of (Var x m))
var_left x m = var_is x m ∙ sym (var_emptied x m)

pub number_left : (n : ℤ) (m : Mark) → tree_of (Number n m) ≡ emptied_node (tree_of (Number n m))
number_left n m = number_is n m ∙ sym (number_emptied n m)

pub get_left : (a : Box Term) (l : Label) (m : Mark) (a2 : Box Term) → tree_of a2.value ≡ emptied true (tree_of a.value) → tree_of (Get a2 l m) ≡ emptied_node (tree_of (Get a l m))
get_left a l m a2 e = get_is a2 l m ∙ (λ i. one (term.Get l.text) (e i)) ∙ sym (get_emptied a l m)

pub put_left : (a : Box Term) (l : Label) (b : Box Term) (m : Mark) (a2 b2 : Box Term) (on : Bool) → tree_of a2.value ≡ emptied true (tree_of a.value) → on ≡ goes_on true (tree_of a.value) → tree_of b2.value ≡ emptied on (tree_of b.value) → tree_of (Put a2 l b2 m) ≡ emptied_node (tree_of (Put a l b m))
put_left a l b m a2 b2 on d q e = put_is a2 l b2 m ∙ (λ i. two (term.Put l.text) (d i) ((e ∙ ap (λ x. emptied x (tree_of b.value)) q) i)) ∙ sym (put_emptied a l b m)

pub call_left : (a : Box Term) (l : Label) (ts : Vec Term) (m : Mark) (a2 : Box Term) (us : Vec Term) (on : Bool) → tree_of a2.value ≡ emptied true (tree_of a.value) → on ≡ goes_on true (tree_of a.value) → map tree_of us.items ≡ emptied_all on (map tree_of ts.items) → tree_of (Call a2 l us m) ≡ emptied_node (tree_of (Call a l ts m))
call_left a l ts m a2 us on d o e = call_is a2 l us m ∙ (λ i. node (term.Call l.text) (more (d i) (trees ((e ∙ ap (λ x. emptied_all x (map tree_of ts.items)) o) i)))) ∙ sym (call_emptied a l ts m)

pub clone_left : (a : Box Term) (m : Mark) (a2 : Box Term) → tree_of a2.value ≡ emptied true (tree_of a.value) → tree_of (Clone a2 m) ≡ emptied_node (tree_of (Clone a m))
clone_left a m a2 e = clone_is a2 m ∙ (λ i. one term.Clone (e i)) ∙ sym (clone_emptied a m)

pub active_left : (a : Box Term) (l : Option Label) (m : Mark) (a2 : Box Term) → tree_of a2.value ≡ emptied true (tree_of a.value) → tree_of (Active a2 l m) ≡ emptied_node (tree_of (Active a l m))
active_left a l m a2 e = active_is a2 l m ∙ (λ i. one (term.Active (option_map text_of l)) (e i)) ∙ sym (active_emptied a l m)

pub serve_left : (ls : Vec Label) (m : Mark) → tree_of (Serve ls m) ≡ emptied_node (tree_of (Serve ls m))
serve_left ls m = serve_is ls m ∙ sym (serve_emptied ls m)

pub let_left : (x : List ℕ) (a b : Box Term) (m : Mark) (a2 : Box Term) → tree_of a2.value ≡ emptied true (tree_of a.value) → tree_of (Let x a2 b m) ≡ emptied_node (tree_of (Let x a b m))
let_left x a b m a2 e = let_is x a2 b m ∙ (λ i. two (term.Let x) (e i) (tree_of b.value)) ∙ sym (let_emptied x a b m)

pub steps_left : (ts : Vec Term) (m : Mark) (us : Vec Term) → map tree_of us.items ≡ emptied_step (map tree_of ts.items) → tree_of (Steps us m) ≡ emptied_node (tree_of (Steps ts m))
steps_left ts m us e = steps_is us m ∙ (λ i. node term.Steps (trees (e i))) ∙ sym (steps_emptied ts m)

pub if_left : (a b c : Box Term) (m : Mark) (a2 : Box Term) → tree_of a2.value ≡ emptied true (tree_of a.value) → tree_of (If a2 b c m) ≡ emptied_node (tree_of (If a b c m))
if_left a b c m a2 e = if_is a2 b c m ∙ (λ i. node term.If (more (e i) (more (tree_of b.value) (more (tree_of c.value) none)))) ∙ sym (if_emptied a b c m)

pub repeat_left : (a : Box Term) (m : Mark) → tree_of (Repeat a m) ≡ emptied_node (tree_of (Repeat a m))
repeat_left a m = repeat_is a m ∙ sym (repeat_emptied a m)

pub operate_left : (o : Sign) (a b : Box Term) (m : Mark) (a2 b2 : Box Term) (on : Bool) → tree_of a2.value ≡ emptied true (tree_of a.value) → on ≡ goes_on true (tree_of a.value) → tree_of b2.value ≡ emptied on (tree_of b.value) → tree_of (Operate o a2 b2 m) ≡ emptied_node (tree_of (Operate o a b m))
operate_left o a b m a2 b2 on d q e = operate_is o a2 b2 m ∙ (λ i. two (term.Operate (sign_shape o)) (d i) ((e ∙ ap (λ x. emptied x (tree_of b.value)) q) i)) ∙ sym (operate_emptied o a b m)

pub print_left : (a : Box Term) (m : Mark) (a2 : Box Term) → tree_of a2.value ≡ emptied true (tree_of a.value) → tree_of (Print a2 m) ≡ emptied_node (tree_of (Print a m))
print_left a m a2 e = print_is a2 m ∙ (λ i. one term.Print (e i)) ∙ sym (print_emptied a m)

pub echo_left : (x : List ℕ) (m : Mark) → tree_of (Echo x m) ≡ emptied_node (tree_of (Echo x m))
echo_left x m = echo_is x m ∙ sym (echo_emptied x m)

pub group_left : (ts : Vec Term) (m : Mark) (us : Vec Term) → map tree_of us.items ≡ emptied_all true (map tree_of ts.items) → tree_of (Group us m) ≡ emptied_node (tree_of (Group ts m))
group_left ts m us e = group_is us m ∙ (λ i. node term.Group (trees (e i))) ∙ sym (group_emptied ts m)

pub scatter_left : (a : Box Term) (l : Label) (b : Box Term) (m : Mark) (a2 b2 : Box Term) (on : Bool) → tree_of a2.value ≡ emptied true (tree_of a.value) → on ≡ goes_on true (tree_of a.value) → tree_of b2.value ≡ emptied on (tree_of b.value) → tree_of (Scatter a2 l b2 m) ≡ emptied_node (tree_of (Scatter a l b m))
scatter_left a l b m a2 b2 on d q e = scatter_is a2 l b2 m ∙ (λ i. two (term.Scatter l.text) (d i) ((e ∙ ap (λ x. emptied x (tree_of b.value)) q) i)) ∙ sym (scatter_emptied a l b m)

pub size_left : (a : Box Term) (m : Mark) (a2 : Box Term) → tree_of a2.value ≡ emptied true (tree_of a.value) → tree_of (Size a2 m) ≡ emptied_node (tree_of (Size a m))
size_left a m a2 e = size_is a2 m ∙ (λ i. one term.Size (e i)) ∙ sym (size_emptied a m)

pub member_left : (a b : Box Term) (m : Mark) (a2 b2 : Box Term) (on : Bool) → tree_of a2.value ≡ emptied true (tree_of a.value) → on ≡ goes_on true (tree_of a.value) → tree_of b2.value ≡ emptied on (tree_of b.value) → tree_of (Member a2 b2 m) ≡ emptied_node (tree_of (Member a b m))
member_left a b m a2 b2 on d q e = member_is a2 b2 m ∙ (λ i. two term.Member (d i) ((e ∙ ap (λ x. emptied x (tree_of b.value)) q) i)) ∙ sym (member_emptied a b m)

pub waitall_left : (a : Box Term) (m : Mark) (a2 : Box Term) → tree_of a2.value ≡ emptied true (tree_of a.value) → tree_of (WaitAll a2 m) ≡ emptied_node (tree_of (WaitAll a m))
waitall_left a m a2 e = waitall_is a2 m ∙ (λ i. one term.WaitAll (e i)) ∙ sym (waitall_emptied a m)

pub pending_left : (ls : Vec Label) (m : Mark) → tree_of (Pending ls m) ≡ emptied_node (tree_of (Pending ls m))
pending_left ls m = pending_is ls m ∙ sym (pending_emptied ls m)

pub make_left : (fs gs : Vec (Label × Term)) (ms : Vec Method) (m : Mark) → map field_label gs.items ≡ map field_label fs.items → map field_tree gs.items ≡ emptied_all true (map field_tree fs.items)
    → tree_of (Make gs ms m) ≡ emptied_node (tree_of (Make fs ms m))
make_left fs gs ms m labels fields =
    make_is gs ms m ∙ (λ i. node (term.Make (labels i) (map method_head ms.items)) (trees (fields i ++ map body_tree ms.items))) ∙ sym (make_emptied fs ms m)

pub ruleset still_laws = (loc_left, hole_left, var_left, number_left, serve_left, repeat_left, echo_left, pending_left)
