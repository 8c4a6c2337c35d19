-- A term is another one with variables for its places, if the terms below it are so.
use Rattle.std.proofs.Common.{◌≡◌, ℕ, ℤ, List, Option, ◌++◌, map, sym, ◌∙◌}
use Rattle.std.specs.Global.{Box, Vec}
use Rattle.std.specs.Option.{option_map}
use Rattle.asp_model.specs.declared.word.Label.{Label}
use Rattle.asp_model.specs.declared.term.Sign.{Sign}
use Rattle.asp_model.specs.declared.term.Mark.{Mark}
use Rattle.asp_model.specs.declared.term.Term.{Term}
use Rattle.asp_model.specs.declared.term.Method.{Method}
use Rattle.asp_model.specs.declared.term.Term.TheVariants.{Make, Hole, Var, Number, Get, Put, Call, Clone, Active, Serve, Let, Steps, If, Repeat, Operate, Print, Echo, Group, Scatter, Size, Member, WaitAll, Pending}
use Rattle.asp_model.specs.Term as term
use Rattle.asp_model.specs.Term.{node, none, more, trees, leaf, one, two}
use Rattle.asp_model.specs.Shapes.{sign_shape, tree_of}
use Rattle.code_table.specs.Tables.{text_of}
use Rattle.code_table.specs.Parts.{body_tree, field_label, field_tree, method_head}
use Rattle.code_table.proofs.TermTrees.{make_is, hole_is, var_is, number_is, get_is, put_is, call_is, clone_is, active_is, serve_is, let_is, steps_is, if_is, repeat_is, operate_is, print_is, echo_is, group_is, scatter_is, size_is, member_is, waitall_is, pending_is}
use Rattle.term_opening.specs.Named.{named_term, named_field, named_body}
use Rattle.term_opening.proofs.RenamedLemmas.{make_renamed, hole_renamed, var_renamed, number_renamed, get_renamed, put_renamed, call_renamed, clone_renamed, active_renamed, serve_renamed, let_renamed, steps_renamed, if_renamed, repeat_renamed, operate_renamed, print_renamed, echo_renamed, group_renamed, scatter_renamed, size_renamed, member_renamed, waitall_renamed, pending_renamed}

pub hole_named : (m : Mark) (m2 : Mark) → tree_of (Hole m2) ≡ named_term (Hole m)
hole_named m m2 = hole_is m2 ∙ sym (hole_renamed m)

pub var_named : (x : List ℕ) (m : Mark) (y : List ℕ) (m2 : Mark) → y ≡ x → tree_of (Var y m2) ≡ named_term (Var x m)
var_named x m y m2 e0 = var_is y m2 ∙ (λ i. leaf (term.Var (e0 i))) ∙ sym (var_renamed x m)

pub number_named : (n : ℤ) (m : Mark) (m2 : Mark) → tree_of (Number n m2) ≡ named_term (Number n m)
number_named n m m2 = number_is n m2 ∙ sym (number_renamed n m)

pub get_named : (a : Box Term) (l : Label) (m : Mark) (a2 : Box Term) (k : Label) (m2 : Mark) → tree_of a2.value ≡ named_term a.value → k.text ≡ l.text → tree_of (Get a2 k m2) ≡ named_term (Get a l m)
get_named a l m a2 k m2 e0 e1 = get_is a2 k m2 ∙ (λ i. one (term.Get (e1 i)) (e0 i)) ∙ sym (get_renamed a l m)

pub put_named : (a : Box Term) (l : Label) (b : Box Term) (m : Mark) (a2 : Box Term) (k : Label) (b2 : Box Term) (m2 : Mark) → tree_of a2.value ≡ named_term a.value → k.text ≡ l.text → tree_of b2.value ≡ named_term b.value → tree_of (Put a2 k b2 m2) ≡ named_term (Put a l b m)
put_named a l b m a2 k b2 m2 e0 e1 e2 = put_is a2 k b2 m2 ∙ (λ i. two (term.Put (e1 i)) (e0 i) (e2 i)) ∙ sym (put_renamed a l b m)

pub call_named : (a : Box Term) (l : Label) (ts : Vec Term) (m : Mark) (a2 : Box Term) (k : Label) (us : Vec Term) (m2 : Mark) → tree_of a2.value ≡ named_term a.value → k.text ≡ l.text → map tree_of us.items ≡ map named_term ts.items → tree_of (Call a2 k us m2) ≡ named_term (Call a l ts m)
call_named a l ts m a2 k us m2 e0 e1 e2 = call_is a2 k us m2 ∙ (λ i. node (term.Call (e1 i)) (more (e0 i) (trees (e2 i)))) ∙ sym (call_renamed a l ts m)

pub clone_named : (a : Box Term) (m : Mark) (a2 : Box Term) (m2 : Mark) → tree_of a2.value ≡ named_term a.value → tree_of (Clone a2 m2) ≡ named_term (Clone a m)
clone_named a m a2 m2 e0 = clone_is a2 m2 ∙ (λ i. one term.Clone (e0 i)) ∙ sym (clone_renamed a m)

pub active_named : (a : Box Term) (l : Option Label) (m : Mark) (a2 : Box Term) (k : Option Label) (m2 : Mark) → tree_of a2.value ≡ named_term a.value → option_map text_of k ≡ option_map text_of l → tree_of (Active a2 k m2) ≡ named_term (Active a l m)
active_named a l m a2 k m2 e0 e1 = active_is a2 k m2 ∙ (λ i. one (term.Active (e1 i)) (e0 i)) ∙ sym (active_renamed a l m)

pub serve_named : (ls : Vec Label) (m : Mark) (ks : Vec Label) (m2 : Mark) → map text_of ks.items ≡ map text_of ls.items → tree_of (Serve ks m2) ≡ named_term (Serve ls m)
serve_named ls m ks m2 e0 = serve_is ks m2 ∙ (λ i. leaf (term.Serve (e0 i))) ∙ sym (serve_renamed ls m)

pub let_named : (x : List ℕ) (a b : Box Term) (m : Mark) (y : List ℕ) (a2 : Box Term) (b2 : Box Term) (m2 : Mark) → y ≡ x → tree_of a2.value ≡ named_term a.value → tree_of b2.value ≡ named_term b.value → tree_of (Let y a2 b2 m2) ≡ named_term (Let x a b m)
let_named x a b m y a2 b2 m2 e0 e1 e2 = let_is y a2 b2 m2 ∙ (λ i. two (term.Let (e0 i)) (e1 i) (e2 i)) ∙ sym (let_renamed x a b m)

pub steps_named : (ts : Vec Term) (m : Mark) (us : Vec Term) (m2 : Mark) → map tree_of us.items ≡ map named_term ts.items → tree_of (Steps us m2) ≡ named_term (Steps ts m)
steps_named ts m us m2 e0 = steps_is us m2 ∙ (λ i. node term.Steps (trees (e0 i))) ∙ sym (steps_renamed ts m)

pub if_named : (a b c : Box Term) (m : Mark) (a2 : Box Term) (b2 : Box Term) (c2 : Box Term) (m2 : Mark) → tree_of a2.value ≡ named_term a.value → tree_of b2.value ≡ named_term b.value → tree_of c2.value ≡ named_term c.value → tree_of (If a2 b2 c2 m2) ≡ named_term (If a b c m)
if_named a b c m a2 b2 c2 m2 e0 e1 e2 = if_is a2 b2 c2 m2 ∙ (λ i. node term.If (more (e0 i) (more (e1 i) (more (e2 i) none)))) ∙ sym (if_renamed a b c m)

pub repeat_named : (a : Box Term) (m : Mark) (a2 : Box Term) (m2 : Mark) → tree_of a2.value ≡ named_term a.value → tree_of (Repeat a2 m2) ≡ named_term (Repeat a m)
repeat_named a m a2 m2 e0 = repeat_is a2 m2 ∙ (λ i. one term.Repeat (e0 i)) ∙ sym (repeat_renamed a m)

pub operate_named : (o : Sign) (a b : Box Term) (m : Mark) (a2 : Box Term) (b2 : Box Term) (m2 : Mark) → tree_of a2.value ≡ named_term a.value → tree_of b2.value ≡ named_term b.value → tree_of (Operate o a2 b2 m2) ≡ named_term (Operate o a b m)
operate_named o a b m a2 b2 m2 e0 e1 = operate_is o a2 b2 m2 ∙ (λ i. two (term.Operate (sign_shape o)) (e0 i) (e1 i)) ∙ sym (operate_renamed o a b m)

pub print_named : (a : Box Term) (m : Mark) (a2 : Box Term) (m2 : Mark) → tree_of a2.value ≡ named_term a.value → tree_of (Print a2 m2) ≡ named_term (Print a m)
print_named a m a2 m2 e0 = print_is a2 m2 ∙ (λ i. one term.Print (e0 i)) ∙ sym (print_renamed a m)

pub echo_named : (x : List ℕ) (m : Mark) (y : List ℕ) (m2 : Mark) → y ≡ x → tree_of (Echo y m2) ≡ named_term (Echo x m)
echo_named x m y m2 e0 = echo_is y m2 ∙ (λ i. leaf (term.Echo (e0 i))) ∙ sym (echo_renamed x m)

pub group_named : (ts : Vec Term) (m : Mark) (us : Vec Term) (m2 : Mark) → map tree_of us.items ≡ map named_term ts.items → tree_of (Group us m2) ≡ named_term (Group ts m)
group_named ts m us m2 e0 = group_is us m2 ∙ (λ i. node term.Group (trees (e0 i))) ∙ sym (group_renamed ts m)

pub scatter_named : (a : Box Term) (l : Label) (b : Box Term) (m : Mark) (a2 : Box Term) (k : Label) (b2 : Box Term) (m2 : Mark) → tree_of a2.value ≡ named_term a.value → k.text ≡ l.text → tree_of b2.value ≡ named_term b.value → tree_of (Scatter a2 k b2 m2) ≡ named_term (Scatter a l b m)
scatter_named a l b m a2 k b2 m2 e0 e1 e2 = scatter_is a2 k b2 m2 ∙ (λ i. two (term.Scatter (e1 i)) (e0 i) (e2 i)) ∙ sym (scatter_renamed a l b m)

pub size_named : (a : Box Term) (m : Mark) (a2 : Box Term) (m2 : Mark) → tree_of a2.value ≡ named_term a.value → tree_of (Size a2 m2) ≡ named_term (Size a m)
size_named a m a2 m2 e0 = size_is a2 m2 ∙ (λ i. one term.Size (e0 i)) ∙ sym (size_renamed a m)

pub member_named : (a b : Box Term) (m : Mark) (a2 : Box Term) (b2 : Box Term) (m2 : Mark) → tree_of a2.value ≡ named_term a.value → tree_of b2.value ≡ named_term b.value → tree_of (Member a2 b2 m2) ≡ named_term (Member a b m)
member_named a b m a2 b2 m2 e0 e1 = member_is a2 b2 m2 ∙ (λ i. two term.Member (e0 i) (e1 i)) ∙ sym (member_renamed a b m)

pub waitall_named : (a : Box Term) (m : Mark) (a2 : Box Term) (m2 : Mark) → tree_of a2.value ≡ named_term a.value → tree_of (WaitAll a2 m2) ≡ named_term (WaitAll a m)
waitall_named a m a2 m2 e0 = waitall_is a2 m2 ∙ (λ i. one term.WaitAll (e0 i)) ∙ sym (waitall_renamed a m)

pub pending_named : (ls : Vec Label) (m : Mark) (ks : Vec Label) (m2 : Mark) → map text_of ks.items ≡ map text_of ls.items → tree_of (Pending ks m2) ≡ named_term (Pending ls m)
pending_named ls m ks m2 e0 = pending_is ks m2 ∙ (λ i. leaf (term.Pending (e0 i))) ∙ sym (pending_renamed ls m)

pub make_named : (fs : Vec (Label × Term)) (ms : Vec Method) (m : Mark) (gs : Vec (Label × Term)) (ns : Vec Method) (m2 : Mark) → map field_label gs.items ≡ map field_label fs.items → map field_tree gs.items ≡ map named_field fs.items
    → map method_head ns.items ≡ map method_head ms.items → map body_tree ns.items ≡ map named_body ms.items → tree_of (Make gs ns m2) ≡ named_term (Make fs ms m)
make_named fs ms m gs ns m2 labels fields heads bodies =
    make_is gs ns m2 ∙ (λ i. node (term.Make (labels i) (heads i)) (trees (fields i ++ bodies i))) ∙ sym (make_renamed fs ms m)
