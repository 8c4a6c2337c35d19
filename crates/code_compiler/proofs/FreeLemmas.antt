-- The names that each kind of term leaves free.
use Rattle.std.proofs.Common.{◌≡◌, ℕ, ℤ, List, Option, [], ◌∷◌, ◌++◌, map, refl, ap, ◌∙◌}
use Rattle.std.proofs.lemmas.List.{append-nil}
use Rattle.std.specs.Global.{Box, Vec}
use Rattle.asp_model.specs.declared.word.Label.{Label}
use Rattle.asp_model.specs.declared.term.Sign.{Sign}
use Rattle.asp_model.specs.declared.term.Mark.{Mark}
use Rattle.asp_model.specs.declared.term.Term.{Term}
use Rattle.asp_model.specs.declared.term.Method.{Method}
use Rattle.asp_model.specs.declared.term.Term.TheVariants.{Make, Loc, Hole, Var, Number, Get, Put, Call, Clone, Active, Serve, Let, Steps, If, Repeat, Operate, Print, Echo, Group, Scatter, Size, Member, WaitAll, Pending}
use Rattle.asp_model.specs.Names.{Text}
use Rattle.asp_model.specs.Term.{trees}
use Rattle.asp_model.specs.Shapes.{tree_of}
use Rattle.code_table.specs.Fitting.{head_names}
use Rattle.code_compiler.specs.Slots.{bound_in}
use Rattle.code_table.specs.Parts.{body_tree, field_label, field_tree, method_head}
use Rattle.code_compiler.specs.Free.{with_free, free_in, free_below}
use Rattle.code_compiler.specs.Parts.{terms_below, fields_below, bodies_below}
use Rattle.code_table.proofs.TermTrees.{make_is, loc_is, hole_is, var_is, number_is, get_is, put_is, call_is, clone_is, active_is, serve_is, let_is, steps_is, if_is, repeat_is, operate_is, print_is, echo_is, group_is, scatter_is, size_is, member_is, waitall_is, pending_is}

pub loc_free : (b acc : List Text) (n : ℕ) (m : Mark) → free_in b acc (tree_of (Loc n m)) ≡ acc
loc_free b acc n m = ap (free_in b acc) (loc_is n m)

pub hole_free : (b acc : List Text) (m : Mark) → free_in b acc (tree_of (Hole m)) ≡ acc
hole_free b acc m = ap (free_in b acc) (hole_is m)

pub var_free : (b acc : List Text) (x : List ℕ) (m : Mark) → free_in b acc (tree_of (Var x m)) ≡ with_free b acc x
var_free b acc x m = ap (free_in b acc) (var_is x m)

pub number_free : (b acc : List Text) (n : ℤ) (m : Mark) → free_in b acc (tree_of (Number n m)) ≡ acc
number_free b acc n m = ap (free_in b acc) (number_is n m)

pub get_free : (b acc : List Text) (a : Box Term) (l : Label) (m : Mark) → free_in b acc (tree_of (Get a l m)) ≡ free_in b acc (tree_of a.value)
get_free b acc a l m = ap (free_in b acc) (get_is a l m)

pub put_free : (b acc : List Text) (a : Box Term) (l : Label) (b2 : Box Term) (m : Mark) → free_in b acc (tree_of (Put a l b2 m)) ≡ free_in b (free_in b acc (tree_of a.value)) (tree_of b2.value)
put_free b acc a l b2 m = ap (free_in b acc) (put_is a l b2 m)

pub call_free : (b acc : List Text) (a : Box Term) (l : Label) (ts : Vec Term) (m : Mark) → free_in b acc (tree_of (Call a l ts m)) ≡ free_below b (free_in b acc (tree_of a.value)) [] (terms_below ts.items)
call_free b acc a l ts m = ap (free_in b acc) (call_is a l ts m)

pub clone_free : (b acc : List Text) (a : Box Term) (m : Mark) → free_in b acc (tree_of (Clone a m)) ≡ free_in b acc (tree_of a.value)
clone_free b acc a m = ap (free_in b acc) (clone_is a m)

pub active_free : (b acc : List Text) (a : Box Term) (l : Option Label) (m : Mark) → free_in b acc (tree_of (Active a l m)) ≡ free_in b acc (tree_of a.value)
active_free b acc a l m = ap (free_in b acc) (active_is a l m)

pub serve_free : (b acc : List Text) (ls : Vec Label) (m : Mark) → free_in b acc (tree_of (Serve ls m)) ≡ acc
serve_free b acc ls m = ap (free_in b acc) (serve_is ls m)

pub let_free : (b acc : List Text) (x : List ℕ) (a b2 : Box Term) (m : Mark) → free_in b acc (tree_of (Let x a b2 m)) ≡ free_in (b ++ x ∷ []) (free_in b acc (tree_of a.value)) (tree_of b2.value)
let_free b acc x a b2 m = ap (free_in b acc) (let_is x a b2 m) ∙ ap (λ (l : List Text). free_in (b ++ x ∷ []) (free_in l acc (tree_of a.value)) (tree_of b2.value)) (append-nil b)

pub steps_free : (b acc : List Text) (ts : Vec Term) (m : Mark) → free_in b acc (tree_of (Steps ts m)) ≡ free_below b acc [] (terms_below ts.items)
steps_free b acc ts m = ap (free_in b acc) (steps_is ts m)

pub if_free : (b acc : List Text) (a b2 c : Box Term) (m : Mark) → free_in b acc (tree_of (If a b2 c m)) ≡ free_in b (free_in b (free_in b acc (tree_of a.value)) (tree_of b2.value)) (tree_of c.value)
if_free b acc a b2 c m = ap (free_in b acc) (if_is a b2 c m)

pub repeat_free : (b acc : List Text) (a : Box Term) (m : Mark) → free_in b acc (tree_of (Repeat a m)) ≡ free_in b acc (tree_of a.value)
repeat_free b acc a m = ap (free_in b acc) (repeat_is a m)

pub operate_free : (b acc : List Text) (s : Sign) (a b2 : Box Term) (m : Mark) → free_in b acc (tree_of (Operate s a b2 m)) ≡ free_in b (free_in b acc (tree_of a.value)) (tree_of b2.value)
operate_free b acc s a b2 m = ap (free_in b acc) (operate_is s a b2 m)

pub print_free : (b acc : List Text) (a : Box Term) (m : Mark) → free_in b acc (tree_of (Print a m)) ≡ free_in b acc (tree_of a.value)
print_free b acc a m = ap (free_in b acc) (print_is a m)

pub echo_free : (b acc : List Text) (x : List ℕ) (m : Mark) → free_in b acc (tree_of (Echo x m)) ≡ acc
echo_free b acc x m = ap (free_in b acc) (echo_is x m)

pub group_free : (b acc : List Text) (ts : Vec Term) (m : Mark) → free_in b acc (tree_of (Group ts m)) ≡ free_below b acc [] (terms_below ts.items)
group_free b acc ts m = ap (free_in b acc) (group_is ts m)

pub scatter_free : (b acc : List Text) (a : Box Term) (l : Label) (b2 : Box Term) (m : Mark) → free_in b acc (tree_of (Scatter a l b2 m)) ≡ free_in b (free_in b acc (tree_of a.value)) (tree_of b2.value)
scatter_free b acc a l b2 m = ap (free_in b acc) (scatter_is a l b2 m)

pub size_free : (b acc : List Text) (a : Box Term) (m : Mark) → free_in b acc (tree_of (Size a m)) ≡ free_in b acc (tree_of a.value)
size_free b acc a m = ap (free_in b acc) (size_is a m)

pub member_free : (b acc : List Text) (a b2 : Box Term) (m : Mark) → free_in b acc (tree_of (Member a b2 m)) ≡ free_in b (free_in b acc (tree_of a.value)) (tree_of b2.value)
member_free b acc a b2 m = ap (free_in b acc) (member_is a b2 m)

pub waitall_free : (b acc : List Text) (a : Box Term) (m : Mark) → free_in b acc (tree_of (WaitAll a m)) ≡ free_in b acc (tree_of a.value)
waitall_free b acc a m = ap (free_in b acc) (waitall_is a m)

pub pending_free : (b acc : List Text) (ls : Vec Label) (m : Mark) → free_in b acc (tree_of (Pending ls m)) ≡ acc
pending_free b acc ls m = ap (free_in b acc) (pending_is ls m)

object_free : (b acc : List Text) (fs : List (Label × Term)) (ms : List Method)
    → free_below b acc (map (λ (l : Text). let no_name : List Text = [] in no_name) (map field_label fs) ++ map head_names (map method_head ms)) (trees (map field_tree fs ++ map body_tree ms))
    ≡ free_below b (free_below b acc [] (fields_below fs)) (map bound_in ms) (bodies_below ms)
object_free b acc [] ms = ap (λ (ns : List (List Text)). free_below b acc ns (bodies_below ms)) (heads_map ms)
  where
    heads_map : (ms : List Method) → map head_names (map method_head ms) ≡ map bound_in ms
    heads_map [] = refl
    heads_map (m ∷ ms) = ap (λ (ns : List (List Text)). bound_in m ∷ ns) (heads_map ms)
object_free b acc (f ∷ fs) ms =
    ap (λ (l : List Text). free_below b (free_in l acc (field_tree f)) (map (λ (x : Text). let no_name : List Text = [] in no_name) (map field_label fs) ++ map head_names (map method_head ms)) (trees (map field_tree fs ++ map body_tree ms))) (append-nil b)
    ∙ object_free b (free_in b acc (field_tree f)) fs ms

pub make_free : (b acc : List Text) (fs : Vec (Label × Term)) (ms : Vec Method) (m : Mark)
    → free_in b acc (tree_of (Make fs ms m)) ≡ free_below b (free_below b acc [] (fields_below fs.items)) (map bound_in ms.items) (bodies_below ms.items)
make_free b acc fs ms m = ap (free_in b acc) (make_is fs ms m) ∙ object_free b acc fs.items ms.items

pub ruleset free_laws = (make_free, loc_free, hole_free, var_free, number_free, get_free, put_free, call_free, clone_free, active_free, serve_free, let_free, steps_free, if_free, repeat_free, operate_free, print_free, echo_free, group_free, scatter_free, size_free, member_free, waitall_free, pending_free)
