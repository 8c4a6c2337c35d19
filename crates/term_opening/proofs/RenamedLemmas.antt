-- Each kind of term with variables for its places.
use Rattle.std.proofs.Common.{◌≡◌, ℕ, ℤ, List, Option, [], ◌∷◌, ◌++◌, map, refl, ap, ◌∙◌}
use Rattle.std.specs.Fmt.{decimal}
use Rattle.std.specs.Global.{Box, Vec}
use Rattle.std.specs.Option.{option_map}
use Rattle.asp_model.specs.declared.word.Label.{Label}
use Rattle.asp_model.specs.declared.term.Sign.{Sign}
use Rattle.asp_model.specs.declared.term.Mark.{Mark}
use Rattle.asp_model.specs.declared.term.Term.{Term}
use Rattle.asp_model.specs.declared.term.Method.{Method}
use Rattle.asp_model.specs.declared.term.Term.TheVariants.{Make, Loc, Hole, Var, Number, Get, Put, Call, Clone, Active, Serve, Let, Steps, If, Repeat, Operate, Print, Echo, Group, Scatter, Size, Member, WaitAll, Pending}
use Rattle.asp_model.specs.Term as term
use Rattle.asp_model.specs.Term.{Trees, node, none, more, trees, leaf, one, two}
use Rattle.asp_model.specs.Shapes.{sign_shape, tree_of}
use Rattle.code_table.specs.Tables.{text_of}
use Rattle.code_table.specs.Parts.{body_tree, field_label, field_tree, method_head}
use Rattle.frozen_code.specs.Named.{named_below}
use Rattle.code_table.proofs.TermTrees.{make_is, loc_is, hole_is, var_is, number_is, get_is, put_is, call_is, clone_is, active_is, serve_is, let_is, steps_is, if_is, repeat_is, operate_is, print_is, echo_is, group_is, scatter_is, size_is, member_is, waitall_is, pending_is}
use Rattle.term_opening.specs.Named.{named_tree, named_term, named_field, named_body}

named_all : (ts : List Term) → named_below decimal (trees (map tree_of ts)) ≡ trees (map named_term ts)
named_all [] = refl
named_all (t ∷ ts) = ap (more (named_term t)) (named_all ts)

named_bodies : (ms : List Method) → named_below decimal (trees (map body_tree ms)) ≡ trees (map named_body ms)
named_bodies [] = refl
named_bodies (m ∷ ms) = ap (more (named_body m)) (named_bodies ms)

pub loc_renamed : (n : ℕ) (m : Mark) → named_tree (tree_of (Loc n m)) ≡ leaf (term.Var (decimal n))
loc_renamed n m = ap named_tree (loc_is n m)

pub hole_renamed : (m : Mark) → named_tree (tree_of (Hole m)) ≡ leaf term.Hole
hole_renamed m = ap named_tree (hole_is m)

pub var_renamed : (x : List ℕ) (m : Mark) → named_tree (tree_of (Var x m)) ≡ leaf (term.Var x)
var_renamed x m = ap named_tree (var_is x m)

pub number_renamed : (n : ℤ) (m : Mark) → named_tree (tree_of (Number n m)) ≡ leaf (term.Number n)
number_renamed n m = ap named_tree (number_is n m)

pub get_renamed : (a : Box Term) (l : Label) (m : Mark) → named_tree (tree_of (Get a l m)) ≡ one (term.Get l.text) (named_tree (tree_of a.value))
get_renamed a l m = ap named_tree (get_is a l m)

pub put_renamed : (a : Box Term) (l : Label) (b : Box Term) (m : Mark) → named_tree (tree_of (Put a l b m)) ≡ two (term.Put l.text) (named_tree (tree_of a.value)) (named_tree (tree_of b.value))
put_renamed a l b m = ap named_tree (put_is a l b m)

pub call_renamed : (a : Box Term) (l : Label) (ts : Vec Term) (m : Mark) → named_tree (tree_of (Call a l ts m)) ≡ node (term.Call l.text) (more (named_tree (tree_of a.value)) (trees (map named_term ts.items)))
call_renamed a l ts m = ap named_tree (call_is a l ts m) ∙ ap (λ (us : Trees). node (term.Call l.text) (more (named_tree (tree_of a.value)) us)) (named_all ts.items)

pub clone_renamed : (a : Box Term) (m : Mark) → named_tree (tree_of (Clone a m)) ≡ one term.Clone (named_tree (tree_of a.value))
clone_renamed a m = ap named_tree (clone_is a m)

pub active_renamed : (a : Box Term) (l : Option Label) (m : Mark) → named_tree (tree_of (Active a l m)) ≡ one (term.Active (option_map text_of l)) (named_tree (tree_of a.value))
active_renamed a l m = ap named_tree (active_is a l m)

pub serve_renamed : (ls : Vec Label) (m : Mark) → named_tree (tree_of (Serve ls m)) ≡ leaf (term.Serve (map text_of ls.items))
serve_renamed ls m = ap named_tree (serve_is ls m)

pub let_renamed : (x : List ℕ) (a b : Box Term) (m : Mark) → named_tree (tree_of (Let x a b m)) ≡ two (term.Let x) (named_tree (tree_of a.value)) (named_tree (tree_of b.value))
let_renamed x a b m = ap named_tree (let_is x a b m)

pub steps_renamed : (ts : Vec Term) (m : Mark) → named_tree (tree_of (Steps ts m)) ≡ node term.Steps (trees (map named_term ts.items))
steps_renamed ts m = ap named_tree (steps_is ts m) ∙ ap (node term.Steps) (named_all ts.items)

pub if_renamed : (a b c : Box Term) (m : Mark) → named_tree (tree_of (If a b c m)) ≡ node term.If (more (named_tree (tree_of a.value)) (more (named_tree (tree_of b.value)) (more (named_tree (tree_of c.value)) none)))
if_renamed a b c m = ap named_tree (if_is a b c m)

pub repeat_renamed : (a : Box Term) (m : Mark) → named_tree (tree_of (Repeat a m)) ≡ one term.Repeat (named_tree (tree_of a.value))
repeat_renamed a m = ap named_tree (repeat_is a m)

pub operate_renamed : (o : Sign) (a b : Box Term) (m : Mark) → named_tree (tree_of (Operate o a b m)) ≡ two (term.Operate (sign_shape o)) (named_tree (tree_of a.value)) (named_tree (tree_of b.value))
operate_renamed o a b m = ap named_tree (operate_is o a b m)

pub print_renamed : (a : Box Term) (m : Mark) → named_tree (tree_of (Print a m)) ≡ one term.Print (named_tree (tree_of a.value))
print_renamed a m = ap named_tree (print_is a m)

pub echo_renamed : (x : List ℕ) (m : Mark) → named_tree (tree_of (Echo x m)) ≡ leaf (term.Echo x)
echo_renamed x m = ap named_tree (echo_is x m)

pub group_renamed : (ts : Vec Term) (m : Mark) → named_tree (tree_of (Group ts m)) ≡ node term.Group (trees (map named_term ts.items))
group_renamed ts m = ap named_tree (group_is ts m) ∙ ap (node term.Group) (named_all ts.items)

pub scatter_renamed : (a : Box Term) (l : Label) (b : Box Term) (m : Mark) → named_tree (tree_of (Scatter a l b m)) ≡ two (term.Scatter l.text) (named_tree (tree_of a.value)) (named_tree (tree_of b.value))
scatter_renamed a l b m = ap named_tree (scatter_is a l b m)

pub size_renamed : (a : Box Term) (m : Mark) → named_tree (tree_of (Size a m)) ≡ one term.Size (named_tree (tree_of a.value))
size_renamed a m = ap named_tree (size_is a m)

pub member_renamed : (a b : Box Term) (m : Mark) → named_tree (tree_of (Member a b m)) ≡ two term.Member (named_tree (tree_of a.value)) (named_tree (tree_of b.value))
member_renamed a b m = ap named_tree (member_is a b m)

pub waitall_renamed : (a : Box Term) (m : Mark) → named_tree (tree_of (WaitAll a m)) ≡ one term.WaitAll (named_tree (tree_of a.value))
waitall_renamed a m = ap named_tree (waitall_is a m)

pub pending_renamed : (ls : Vec Label) (m : Mark) → named_tree (tree_of (Pending ls m)) ≡ leaf (term.Pending (map text_of ls.items))
pending_renamed ls m = ap named_tree (pending_is ls m)

parts_named : (fs : List (Label × Term)) (ms : List Method) → named_below decimal (trees (map field_tree fs ++ map body_tree ms)) ≡ trees (map named_field fs ++ map named_body ms)
parts_named [] ms = named_bodies ms
parts_named (f ∷ fs) ms = ap (more (named_field f)) (parts_named fs ms)

pub make_renamed : (fs : Vec (Label × Term)) (ms : Vec Method) (m : Mark)
    → named_tree (tree_of (Make fs ms m)) ≡ node (term.Make (map field_label fs.items) (map method_head ms.items)) (trees (map named_field fs.items ++ map named_body ms.items))
make_renamed fs ms m = ap named_tree (make_is fs ms m) ∙ ap (node (term.Make (map field_label fs.items) (map method_head ms.items))) (parts_named fs.items ms.items)

pub ruleset renamed_laws = (make_renamed, loc_renamed, hole_renamed, var_renamed, number_renamed, get_renamed, put_renamed, call_renamed, clone_renamed, active_renamed, serve_renamed, let_renamed, steps_renamed, if_renamed, repeat_renamed, operate_renamed, print_renamed, echo_renamed, group_renamed, scatter_renamed, size_renamed, member_renamed, waitall_renamed, pending_renamed)
