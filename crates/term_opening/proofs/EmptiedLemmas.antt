-- Each kind of term with `[]` in place of its first terms, as far as they are done.
use Rattle.std.proofs.Common.{◌≡◌, Bool, true, ℕ, ℤ, List, Option, [], ◌∷◌, ◌++◌, length, map, refl, ap, ◌∙◌}
use Rattle.std.specs.Global.{Box, Vec}
use Rattle.std.specs.Option.{option_map}
use Rattle.asp_model.specs.declared.word.Label.{Label}
use Rattle.asp_model.specs.declared.term.Sign.{Sign}
use Rattle.asp_model.specs.declared.term.Mark.{Mark}
use Rattle.asp_model.specs.declared.term.Term.{Term}
use Rattle.asp_model.specs.declared.term.Method.{Method}
use Rattle.asp_model.specs.declared.term.Term.TheVariants.{Make, Loc, Hole, Var, Number, Get, Put, Call, Clone, Active, Serve, Let, Steps, If, Repeat, Operate, Print, Echo, Group, Scatter, Size, Member, WaitAll, Pending}
use Rattle.asp_model.specs.Term as term
use Rattle.asp_model.specs.Term.{Tree, Trees, node, none, more, trees, leaf, one, two, child_count}
use Rattle.asp_model.specs.Shapes.{sign_shape, tree_of}
use Rattle.code_table.specs.Tables.{text_of}
use Rattle.code_table.specs.Parts.{body_tree, field_label, field_tree, method_head}
use Rattle.code_table.proofs.TermTrees.{make_is, loc_is, hole_is, var_is, number_is, get_is, put_is, call_is, clone_is, active_is, serve_is, let_is, steps_is, if_is, repeat_is, operate_is, print_is, echo_is, group_is, scatter_is, size_is, member_is, waitall_is, pending_is}
use Rattle.term_opening.specs.Opening.{emptied, goes_on, done_at, emptied_all, done_all, emptied_step, done_step, emptied_first, done_first, emptied_node, done_in}

all_emptied : (on : Bool) (ts : List Tree) → emptied_first on (child_count (trees ts)) (trees ts) ≡ trees (emptied_all on ts)
all_emptied on [] = refl
all_emptied on (t ∷ ts) = ap (more (emptied on t)) (all_emptied (goes_on on t) ts)

all_done : (on : Bool) (ps : List ℕ) (ts : List Tree) → done_first on ps (child_count (trees ts)) (trees ts) ≡ done_all on ps ts
all_done on ps [] = refl
all_done on ps (t ∷ ts) = all_done (goes_on on t) (done_at on ps t) ts

step_emptied : (ts : List Tree) → emptied_first true 1 (trees ts) ≡ trees (emptied_step ts)
step_emptied [] = refl
step_emptied (t ∷ ts) = refl

step_done : (ps : List ℕ) (ts : List Tree) → done_first true ps 1 (trees ts) ≡ done_step ps ts
step_done ps [] = refl
step_done ps (t ∷ ts) = refl

fields_emptied : (on : Bool) (fs : List (Label × Term)) (us : List Tree) → emptied_first on (length (map field_label fs)) (trees (map field_tree fs ++ us)) ≡ trees (emptied_all on (map field_tree fs) ++ us)
fields_emptied on [] us = refl
fields_emptied on (f ∷ fs) us = ap (more (emptied on (field_tree f))) (fields_emptied (goes_on on (field_tree f)) fs us)

fields_done : (on : Bool) (ps : List ℕ) (fs : List (Label × Term)) (us : List Tree) → done_first on ps (length (map field_label fs)) (trees (map field_tree fs ++ us)) ≡ done_all on ps (map field_tree fs)
fields_done on ps [] us = refl
fields_done on ps (f ∷ fs) us = fields_done (goes_on on (field_tree f)) (done_at on ps (field_tree f)) fs us

pub loc_emptied : (n : ℕ) (m : Mark) → emptied_node (tree_of (Loc n m)) ≡ leaf (term.Loc n)
loc_emptied n m = ap emptied_node (loc_is n m)

pub loc_done : (ps : List ℕ) (n : ℕ) (m : Mark) → done_in ps (tree_of (Loc n m)) ≡ ps
loc_done ps n m = ap (done_in ps) (loc_is n m)

pub hole_emptied : (m : Mark) → emptied_node (tree_of (Hole m)) ≡ leaf term.Hole
hole_emptied m = ap emptied_node (hole_is m)

pub hole_done : (ps : List ℕ) (m : Mark) → done_in ps (tree_of (Hole m)) ≡ ps
hole_done ps m = ap (done_in ps) (hole_is m)

pub var_emptied : (x : List ℕ) (m : Mark) → emptied_node (tree_of (Var x m)) ≡ leaf (term.Var x)
var_emptied x m = ap emptied_node (var_is x m)

pub var_done : (ps : List ℕ) (x : List ℕ) (m : Mark) → done_in ps (tree_of (Var x m)) ≡ ps
var_done ps x m = ap (done_in ps) (var_is x m)

pub number_emptied : (n : ℤ) (m : Mark) → emptied_node (tree_of (Number n m)) ≡ leaf (term.Number n)
number_emptied n m = ap emptied_node (number_is n m)

pub number_done : (ps : List ℕ) (n : ℤ) (m : Mark) → done_in ps (tree_of (Number n m)) ≡ ps
number_done ps n m = ap (done_in ps) (number_is n m)

pub get_emptied : (a : Box Term) (l : Label) (m : Mark) → emptied_node (tree_of (Get a l m)) ≡ one (term.Get l.text) (emptied true (tree_of a.value))
get_emptied a l m = ap emptied_node (get_is a l m)

pub get_done : (ps : List ℕ) (a : Box Term) (l : Label) (m : Mark) → done_in ps (tree_of (Get a l m)) ≡ done_at true ps (tree_of a.value)
get_done ps a l m = ap (done_in ps) (get_is a l m)

pub put_emptied : (a : Box Term) (l : Label) (b : Box Term) (m : Mark) → emptied_node (tree_of (Put a l b m)) ≡ two (term.Put l.text) (emptied true (tree_of a.value)) (emptied (goes_on true (tree_of a.value)) (tree_of b.value))
put_emptied a l b m = ap emptied_node (put_is a l b m)

pub put_done : (ps : List ℕ) (a : Box Term) (l : Label) (b : Box Term) (m : Mark) → done_in ps (tree_of (Put a l b m)) ≡ done_at (goes_on true (tree_of a.value)) (done_at true ps (tree_of a.value)) (tree_of b.value)
put_done ps a l b m = ap (done_in ps) (put_is a l b m)

pub call_emptied : (a : Box Term) (l : Label) (ts : Vec Term) (m : Mark) → emptied_node (tree_of (Call a l ts m)) ≡ node (term.Call l.text) (more (emptied true (tree_of a.value)) (trees (emptied_all (goes_on true (tree_of a.value)) (map tree_of ts.items))))
call_emptied a l ts m = ap emptied_node (call_is a l ts m) ∙ ap (λ (us : Trees). node (term.Call l.text) (more (emptied true (tree_of a.value)) us)) (all_emptied (goes_on true (tree_of a.value)) (map tree_of ts.items))

pub call_done : (ps : List ℕ) (a : Box Term) (l : Label) (ts : Vec Term) (m : Mark) → done_in ps (tree_of (Call a l ts m)) ≡ done_all (goes_on true (tree_of a.value)) (done_at true ps (tree_of a.value)) (map tree_of ts.items)
call_done ps a l ts m = ap (done_in ps) (call_is a l ts m) ∙ all_done (goes_on true (tree_of a.value)) (done_at true ps (tree_of a.value)) (map tree_of ts.items)

pub clone_emptied : (a : Box Term) (m : Mark) → emptied_node (tree_of (Clone a m)) ≡ one term.Clone (emptied true (tree_of a.value))
clone_emptied a m = ap emptied_node (clone_is a m)

pub clone_done : (ps : List ℕ) (a : Box Term) (m : Mark) → done_in ps (tree_of (Clone a m)) ≡ done_at true ps (tree_of a.value)
clone_done ps a m = ap (done_in ps) (clone_is a m)

pub active_emptied : (a : Box Term) (l : Option Label) (m : Mark) → emptied_node (tree_of (Active a l m)) ≡ one (term.Active (option_map text_of l)) (emptied true (tree_of a.value))
active_emptied a l m = ap emptied_node (active_is a l m)

pub active_done : (ps : List ℕ) (a : Box Term) (l : Option Label) (m : Mark) → done_in ps (tree_of (Active a l m)) ≡ done_at true ps (tree_of a.value)
active_done ps a l m = ap (done_in ps) (active_is a l m)

pub serve_emptied : (ls : Vec Label) (m : Mark) → emptied_node (tree_of (Serve ls m)) ≡ leaf (term.Serve (map text_of ls.items))
serve_emptied ls m = ap emptied_node (serve_is ls m)

pub serve_done : (ps : List ℕ) (ls : Vec Label) (m : Mark) → done_in ps (tree_of (Serve ls m)) ≡ ps
serve_done ps ls m = ap (done_in ps) (serve_is ls m)

pub let_emptied : (x : List ℕ) (a b : Box Term) (m : Mark) → emptied_node (tree_of (Let x a b m)) ≡ two (term.Let x) (emptied true (tree_of a.value)) (tree_of b.value)
let_emptied x a b m = ap emptied_node (let_is x a b m)

pub let_done : (ps : List ℕ) (x : List ℕ) (a b : Box Term) (m : Mark) → done_in ps (tree_of (Let x a b m)) ≡ done_at true ps (tree_of a.value)
let_done ps x a b m = ap (done_in ps) (let_is x a b m)

pub steps_emptied : (ts : Vec Term) (m : Mark) → emptied_node (tree_of (Steps ts m)) ≡ node term.Steps (trees (emptied_step (map tree_of ts.items)))
steps_emptied ts m = ap emptied_node (steps_is ts m) ∙ ap (node term.Steps) (step_emptied (map tree_of ts.items))

pub steps_done : (ps : List ℕ) (ts : Vec Term) (m : Mark) → done_in ps (tree_of (Steps ts m)) ≡ done_step ps (map tree_of ts.items)
steps_done ps ts m = ap (done_in ps) (steps_is ts m) ∙ step_done ps (map tree_of ts.items)

pub if_emptied : (a b c : Box Term) (m : Mark) → emptied_node (tree_of (If a b c m)) ≡ node term.If (more (emptied true (tree_of a.value)) (more (tree_of b.value) (more (tree_of c.value) none)))
if_emptied a b c m = ap emptied_node (if_is a b c m)

pub if_done : (ps : List ℕ) (a b c : Box Term) (m : Mark) → done_in ps (tree_of (If a b c m)) ≡ done_at true ps (tree_of a.value)
if_done ps a b c m = ap (done_in ps) (if_is a b c m)

pub repeat_emptied : (a : Box Term) (m : Mark) → emptied_node (tree_of (Repeat a m)) ≡ one term.Repeat (tree_of a.value)
repeat_emptied a m = ap emptied_node (repeat_is a m)

pub repeat_done : (ps : List ℕ) (a : Box Term) (m : Mark) → done_in ps (tree_of (Repeat a m)) ≡ ps
repeat_done ps a m = ap (done_in ps) (repeat_is a m)

pub operate_emptied : (o : Sign) (a b : Box Term) (m : Mark) → emptied_node (tree_of (Operate o a b m)) ≡ two (term.Operate (sign_shape o)) (emptied true (tree_of a.value)) (emptied (goes_on true (tree_of a.value)) (tree_of b.value))
operate_emptied o a b m = ap emptied_node (operate_is o a b m)

pub operate_done : (ps : List ℕ) (o : Sign) (a b : Box Term) (m : Mark) → done_in ps (tree_of (Operate o a b m)) ≡ done_at (goes_on true (tree_of a.value)) (done_at true ps (tree_of a.value)) (tree_of b.value)
operate_done ps o a b m = ap (done_in ps) (operate_is o a b m)

pub print_emptied : (a : Box Term) (m : Mark) → emptied_node (tree_of (Print a m)) ≡ one term.Print (emptied true (tree_of a.value))
print_emptied a m = ap emptied_node (print_is a m)

pub print_done : (ps : List ℕ) (a : Box Term) (m : Mark) → done_in ps (tree_of (Print a m)) ≡ done_at true ps (tree_of a.value)
print_done ps a m = ap (done_in ps) (print_is a m)

pub echo_emptied : (x : List ℕ) (m : Mark) → emptied_node (tree_of (Echo x m)) ≡ leaf (term.Echo x)
echo_emptied x m = ap emptied_node (echo_is x m)

pub echo_done : (ps : List ℕ) (x : List ℕ) (m : Mark) → done_in ps (tree_of (Echo x m)) ≡ ps
echo_done ps x m = ap (done_in ps) (echo_is x m)

pub group_emptied : (ts : Vec Term) (m : Mark) → emptied_node (tree_of (Group ts m)) ≡ node term.Group (trees (emptied_all true (map tree_of ts.items)))
group_emptied ts m = ap emptied_node (group_is ts m) ∙ ap (node term.Group) (all_emptied true (map tree_of ts.items))

pub group_done : (ps : List ℕ) (ts : Vec Term) (m : Mark) → done_in ps (tree_of (Group ts m)) ≡ done_all true ps (map tree_of ts.items)
group_done ps ts m = ap (done_in ps) (group_is ts m) ∙ all_done true ps (map tree_of ts.items)

pub scatter_emptied : (a : Box Term) (l : Label) (b : Box Term) (m : Mark) → emptied_node (tree_of (Scatter a l b m)) ≡ two (term.Scatter l.text) (emptied true (tree_of a.value)) (emptied (goes_on true (tree_of a.value)) (tree_of b.value))
scatter_emptied a l b m = ap emptied_node (scatter_is a l b m)

pub scatter_done : (ps : List ℕ) (a : Box Term) (l : Label) (b : Box Term) (m : Mark) → done_in ps (tree_of (Scatter a l b m)) ≡ done_at (goes_on true (tree_of a.value)) (done_at true ps (tree_of a.value)) (tree_of b.value)
scatter_done ps a l b m = ap (done_in ps) (scatter_is a l b m)

pub size_emptied : (a : Box Term) (m : Mark) → emptied_node (tree_of (Size a m)) ≡ one term.Size (emptied true (tree_of a.value))
size_emptied a m = ap emptied_node (size_is a m)

pub size_done : (ps : List ℕ) (a : Box Term) (m : Mark) → done_in ps (tree_of (Size a m)) ≡ done_at true ps (tree_of a.value)
size_done ps a m = ap (done_in ps) (size_is a m)

pub member_emptied : (a b : Box Term) (m : Mark) → emptied_node (tree_of (Member a b m)) ≡ two term.Member (emptied true (tree_of a.value)) (emptied (goes_on true (tree_of a.value)) (tree_of b.value))
member_emptied a b m = ap emptied_node (member_is a b m)

pub member_done : (ps : List ℕ) (a b : Box Term) (m : Mark) → done_in ps (tree_of (Member a b m)) ≡ done_at (goes_on true (tree_of a.value)) (done_at true ps (tree_of a.value)) (tree_of b.value)
member_done ps a b m = ap (done_in ps) (member_is a b m)

pub waitall_emptied : (a : Box Term) (m : Mark) → emptied_node (tree_of (WaitAll a m)) ≡ one term.WaitAll (emptied true (tree_of a.value))
waitall_emptied a m = ap emptied_node (waitall_is a m)

pub waitall_done : (ps : List ℕ) (a : Box Term) (m : Mark) → done_in ps (tree_of (WaitAll a m)) ≡ done_at true ps (tree_of a.value)
waitall_done ps a m = ap (done_in ps) (waitall_is a m)

pub pending_emptied : (ls : Vec Label) (m : Mark) → emptied_node (tree_of (Pending ls m)) ≡ leaf (term.Pending (map text_of ls.items))
pending_emptied ls m = ap emptied_node (pending_is ls m)

pub pending_done : (ps : List ℕ) (ls : Vec Label) (m : Mark) → done_in ps (tree_of (Pending ls m)) ≡ ps
pending_done ps ls m = ap (done_in ps) (pending_is ls m)

pub make_emptied : (fs : Vec (Label × Term)) (ms : Vec Method) (m : Mark)
    → emptied_node (tree_of (Make fs ms m)) ≡ node (term.Make (map field_label fs.items) (map method_head ms.items)) (trees (emptied_all true (map field_tree fs.items) ++ map body_tree ms.items))
make_emptied fs ms m = ap emptied_node (make_is fs ms m) ∙ ap (node (term.Make (map field_label fs.items) (map method_head ms.items))) (fields_emptied true fs.items (map body_tree ms.items))

pub make_done : (ps : List ℕ) (fs : Vec (Label × Term)) (ms : Vec Method) (m : Mark)
    → done_in ps (tree_of (Make fs ms m)) ≡ done_all true ps (map field_tree fs.items)
make_done ps fs ms m = ap (done_in ps) (make_is fs ms m) ∙ fields_done true ps fs.items (map body_tree ms.items)

pub ruleset emptied_laws = (make_emptied, loc_emptied, hole_emptied, var_emptied, number_emptied, get_emptied, put_emptied, call_emptied, clone_emptied, active_emptied, serve_emptied, let_emptied, steps_emptied, if_emptied, repeat_emptied, operate_emptied, print_emptied, echo_emptied, group_emptied, scatter_emptied, size_emptied, member_emptied, waitall_emptied, pending_emptied)

pub ruleset done_laws = (make_done, loc_done, hole_done, var_done, number_done, get_done, put_done, call_done, clone_done, active_done, serve_done, let_done, steps_done, if_done, repeat_done, operate_done, print_done, echo_done, group_done, scatter_done, size_done, member_done, waitall_done, pending_done)
