-- What is left behind each kind of term.
use Rattle.std.specs.Prelude.{◌≡◌, ℕ, ℤ, zero, suc, ◌+◌, ◌<◌, nat_eq, nat_le, nat_lt, Bool, true, false, List, [], ◌∷◌, ◌++◌, Option, Some, None, length, map}
use Rattle.std.proofs.Common.{refl, sym, ap, ◌∙◌, arith}
use Rattle.std.proofs.lemmas.Bool.{eq-eqb, le-leb}
use Rattle.std.specs.Global.{Box, Vec}
use Rattle.asp_model.specs.declared.word.Label.{Label}
use Rattle.asp_model.specs.declared.term.Sign.{Sign}
use Rattle.asp_model.specs.declared.term.Mark.{Mark}
use Rattle.asp_model.specs.declared.term.Term.{Term}
use Rattle.asp_model.specs.declared.term.Method.{Method}
use Rattle.asp_model.specs.declared.term.Term.TheVariants.{Make, Loc, Hole, Var, Number, Get, Put, Call, Clone, Active, Serve, Let, Steps, If, Repeat, Operate, Print, Echo, Group, Scatter, Size, Member, WaitAll, Pending}
use Rattle.asp_model.specs.Names.{Text}
use Rattle.asp_model.specs.Term.{MethodHead, Trees, none, more, trees, child_count}
use Rattle.asp_model.specs.Shapes.{tree_of}
use Rattle.asp_check.specs.NameFaults.{NameSet, with_name}
use Rattle.asp_check.specs.Walk.{names_of}
use Rattle.code_table.specs.Parts.{body_tree, field_label, field_tree, method_head}
use Rattle.code_table.proofs.TermTrees.{make_is, loc_is, hole_is, var_is, number_is, get_is, put_is, call_is, clone_is, active_is, serve_is, let_is, steps_is, if_is, repeat_is, operate_is, print_is, echo_is, group_is, scatter_is, size_is, member_is, waitall_is, pending_is}
use Rattle.proper_terms.specs.Fits.{bodies_below, fields_below, has_arity, is_single, left_at, left_below, left_in, one_less, terms_below, then_left, where_true}
use Rattle.proper_terms.specs.Walks.{steps_left}

abbrev Next : Type 0
Next = ℕ → Option ℕ

-- nothing behind
pub then_none : (o : Option ℕ) → then_left o (λ n. Some n) ≡ o
then_none None = refl
then_none (Some n) = refl

pub then_assoc : (o : Option ℕ) (f g : Next) → then_left (then_left o f) g ≡ then_left o (λ n. then_left (f n) g)
then_assoc None f g = refl
then_assoc (Some n) f g = refl

then_more : (o : Option ℕ) (f g : Next) → ((n : ℕ) → f n ≡ g n) → then_left o f ≡ then_left o g
then_more None f g h = refl
then_more (Some n) f g h = h n

pub loc_left : (k : ℕ) (b : NameSet) (p : ℕ) (m : Mark) (n : ℕ) → left_in k b (tree_of (Loc p m)) n ≡ where_true (nat_lt p k) n
loc_left k b p m n = ap (λ t. left_in k b t n) (loc_is p m) ∙ then_none _

pub hole_left : (k : ℕ) (b : NameSet) (m : Mark) (n : ℕ) → left_in k b (tree_of (Hole m)) n ≡ one_less n
hole_left k b m n = ap (λ t. left_in k b t n) (hole_is m) ∙ then_none _

pub var_left : (k : ℕ) (b : NameSet) (x : List ℕ) (m : Mark) (n : ℕ) → left_in k b (tree_of (Var x m)) n ≡ where_true (b x) n
var_left k b x m n = ap (λ t. left_in k b t n) (var_is x m) ∙ then_none _

pub number_left : (k : ℕ) (b : NameSet) (z : ℤ) (m : Mark) (n : ℕ) → left_in k b (tree_of (Number z m)) n ≡ Some n
number_left k b z m n = ap (λ t. left_in k b t n) (number_is z m)

pub serve_left : (k : ℕ) (b : NameSet) (ls : Vec Label) (m : Mark) (n : ℕ) → left_in k b (tree_of (Serve ls m)) n ≡ Some n
serve_left k b ls m n = ap (λ t. left_in k b t n) (serve_is ls m)

pub pending_left : (k : ℕ) (b : NameSet) (ls : Vec Label) (m : Mark) (n : ℕ) → left_in k b (tree_of (Pending ls m)) n ≡ Some n
pending_left k b ls m n = ap (λ t. left_in k b t n) (pending_is ls m)

pub echo_left : (k : ℕ) (b : NameSet) (x : List ℕ) (m : Mark) (n : ℕ) → left_in k b (tree_of (Echo x m)) n ≡ Some n
echo_left k b x m n = ap (λ t. left_in k b t n) (echo_is x m)

pub get_left : (k : ℕ) (b : NameSet) (a : Box Term) (l : Label) (m : Mark) (n : ℕ) → left_in k b (tree_of (Get a l m)) n ≡ left_in k b (tree_of a.value) n
get_left k b a l m n = ap (λ t. left_in k b t n) (get_is a l m) ∙ then_none _

pub clone_left : (k : ℕ) (b : NameSet) (a : Box Term) (m : Mark) (n : ℕ) → left_in k b (tree_of (Clone a m)) n ≡ left_in k b (tree_of a.value) n
clone_left k b a m n = ap (λ t. left_in k b t n) (clone_is a m) ∙ then_none _

pub repeat_left : (k : ℕ) (b : NameSet) (a : Box Term) (m : Mark) (n : ℕ) → left_in k b (tree_of (Repeat a m)) n ≡ left_in k b (tree_of a.value) n
repeat_left k b a m n = ap (λ t. left_in k b t n) (repeat_is a m) ∙ then_none _

pub print_left : (k : ℕ) (b : NameSet) (a : Box Term) (m : Mark) (n : ℕ) → left_in k b (tree_of (Print a m)) n ≡ left_in k b (tree_of a.value) n
print_left k b a m n = ap (λ t. left_in k b t n) (print_is a m) ∙ then_none _

pub size_left : (k : ℕ) (b : NameSet) (a : Box Term) (m : Mark) (n : ℕ) → left_in k b (tree_of (Size a m)) n ≡ left_in k b (tree_of a.value) n
size_left k b a m n = ap (λ t. left_in k b t n) (size_is a m) ∙ then_none _

pub waitall_left : (k : ℕ) (b : NameSet) (a : Box Term) (m : Mark) (n : ℕ) → left_in k b (tree_of (WaitAll a m)) n ≡ left_in k b (tree_of a.value) n
waitall_left k b a m n = ap (λ t. left_in k b t n) (waitall_is a m) ∙ then_none _

pub active_left : (k : ℕ) (b : NameSet) (a : Box Term) (l : Option Label) (m : Mark) (n : ℕ) → left_in k b (tree_of (Active a l m)) n ≡ left_in k b (tree_of a.value) n
active_left k b a l m n = ap (λ t. left_in k b t n) (active_is a l m) ∙ then_none _

pub put_left : (k : ℕ) (b : NameSet) (a : Box Term) (l : Label) (c : Box Term) (m : Mark) (n : ℕ) → left_in k b (tree_of (Put a l c m)) n ≡ then_left (left_in k b (tree_of a.value) n) (left_in k b (tree_of c.value))
put_left k b a l c m n = ap (λ t. left_in k b t n) (put_is a l c m) ∙ then_more (left_in k b (tree_of a.value) n) _ (left_in k b (tree_of c.value)) (λ i. then_none _)

pub operate_left : (k : ℕ) (b : NameSet) (s : Sign) (a c : Box Term) (m : Mark) (n : ℕ) → left_in k b (tree_of (Operate s a c m)) n ≡ then_left (left_in k b (tree_of a.value) n) (left_in k b (tree_of c.value))
operate_left k b s a c m n = ap (λ t. left_in k b t n) (operate_is s a c m) ∙ then_more (left_in k b (tree_of a.value) n) _ (left_in k b (tree_of c.value)) (λ i. then_none _)

pub scatter_left : (k : ℕ) (b : NameSet) (a : Box Term) (l : Label) (c : Box Term) (m : Mark) (n : ℕ) → left_in k b (tree_of (Scatter a l c m)) n ≡ then_left (left_in k b (tree_of a.value) n) (left_in k b (tree_of c.value))
scatter_left k b a l c m n = ap (λ t. left_in k b t n) (scatter_is a l c m) ∙ then_more (left_in k b (tree_of a.value) n) _ (left_in k b (tree_of c.value)) (λ i. then_none _)

pub member_left : (k : ℕ) (b : NameSet) (a c : Box Term) (m : Mark) (n : ℕ) → left_in k b (tree_of (Member a c m)) n ≡ then_left (left_in k b (tree_of a.value) n) (left_in k b (tree_of c.value))
member_left k b a c m n = ap (λ t. left_in k b t n) (member_is a c m) ∙ then_more (left_in k b (tree_of a.value) n) _ (left_in k b (tree_of c.value)) (λ i. then_none _)

pub let_left : (k : ℕ) (b : NameSet) (x : List ℕ) (a c : Box Term) (m : Mark) (n : ℕ) → left_in k b (tree_of (Let x a c m)) n ≡ then_left (left_in k b (tree_of a.value) n) (left_in k (with_name x b) (tree_of c.value))
let_left k b x a c m n = ap (λ t. left_in k b t n) (let_is x a c m) ∙ then_more (left_in k b (tree_of a.value) n) _ (left_in k (with_name x b) (tree_of c.value)) (λ i. then_none _)

pub if_left : (k : ℕ) (b : NameSet) (a c d : Box Term) (m : Mark) (n : ℕ) → left_in k b (tree_of (If a c d m)) n ≡ then_left (left_in k b (tree_of a.value) n) (λ i. then_left (left_in k b (tree_of c.value) i) (left_in k b (tree_of d.value)))
if_left k b a c d m n = ap (λ t. left_in k b t n) (if_is a c d m) ∙ then_more (left_in k b (tree_of a.value) n) _ _ (λ i. then_more (left_in k b (tree_of c.value) i) _ (left_in k b (tree_of d.value)) (λ j. then_none _))

some_count : (j : ℕ) → nat_le 1 (suc j) ≡ true
some_count j = le-leb 1 (suc j) (omega arith)

pub call_left : (k : ℕ) (b : NameSet) (a : Box Term) (l : Label) (ts : Vec Term) (m : Mark) (n : ℕ) → left_in k b (tree_of (Call a l ts m)) n ≡ then_left (left_in k b (tree_of a.value) n) (left_below k b [] (terms_below ts.items))
call_left k b a l ts m n = ap (λ t. left_in k b t n) (call_is a l ts m) ∙ ap (λ (g : Bool). then_left (where_true g n) (λ i. then_left (left_in k b (tree_of a.value) i) (left_below k b [] (terms_below ts.items)))) (some_count (child_count (terms_below ts.items)))

pub steps_are : (k : ℕ) (b : NameSet) (ts : Vec Term) (m : Mark) (n : ℕ) → left_in k b (tree_of (Steps ts m)) n ≡ steps_left k b (terms_below ts.items) n
steps_are k b ts m n = ap (λ t. left_in k b t n) (steps_is ts m)

pub group_left : (k : ℕ) (b : NameSet) (ts : Vec Term) (m : Mark) (n : ℕ) → left_in k b (tree_of (Group ts m)) n ≡ left_below k b [] (terms_below ts.items) n
group_left k b ts m n = ap (λ t. left_in k b t n) (group_is ts m)

-- Objects

count_of : (fs : List (Label × Term)) (ms : List Method) → child_count (trees (map field_tree fs ++ map body_tree ms)) ≡ length (map field_label fs) + length (map method_head ms)
count_of [] [] = omega arith
count_of [] (x ∷ ms) = let rest : child_count (trees (map body_tree ms)) ≡ 0 + length (map method_head ms) = count_of [] ms in omega (arith, rest)
count_of (f ∷ fs) ms = let rest = count_of fs ms in omega (arith, rest)

equal_itself : (i j : ℕ) → i ≡ j → nat_eq i j ≡ true
equal_itself i j e = eq-eqb i j e

heads_bind : (ms : List Method) → map (λ (m : MethodHead). m.slf ∷ m.parameters) (map method_head ms) ≡ map names_of ms
heads_bind [] = refl
heads_bind (m ∷ ms) = ap (λ (ns : List (List Text)). names_of m ∷ ns) (heads_bind ms)

abbrev unnamed : Text → List Text
unnamed l = []

object_below : (k : ℕ) (b : NameSet) (fs : List (Label × Term)) (ms : List Method) (n : ℕ)
    → left_below k b (map unnamed (map field_label fs) ++ map (λ (m : MethodHead). m.slf ∷ m.parameters) (map method_head ms)) (trees (map field_tree fs ++ map body_tree ms)) n
    ≡ then_left (left_below k b [] (fields_below fs) n) (left_below k b (map names_of ms) (bodies_below ms))
object_below k b [] ms n = ap (λ (ns : List (List Text)). left_below k b ns (bodies_below ms) n) (heads_bind ms)
object_below k b (f ∷ fs) ms n =
    then_more (left_in k b (field_tree f) n) _ _ (object_below k b fs ms)
    ∙ sym (then_assoc (left_in k b (field_tree f) n) (left_below k b [] (fields_below fs)) (left_below k b (map names_of ms) (bodies_below ms)))

pub make_left : (k : ℕ) (b : NameSet) (fs : Vec (Label × Term)) (ms : Vec Method) (m : Mark) (n : ℕ)
    → left_in k b (tree_of (Make fs ms m)) n ≡ then_left (where_true (is_single (map field_label fs.items) (map method_head ms.items)) n)
    (λ i. then_left (left_below k b [] (fields_below fs.items) i) (left_below k b (map names_of ms.items) (bodies_below ms.items)))
make_left k b fs ms m n =
    let labels = map field_label fs.items in
    let heads = map method_head ms.items in
    let below = trees (map field_tree fs.items ++ map body_tree ms.items) in
    let names = map unnamed labels ++ map (λ (x : MethodHead). x.slf ∷ x.parameters) heads in
    ap (λ t. left_in k b t n) (make_is fs ms m)
    ∙ ap (λ (g : Bool). then_left (where_true g n) (λ i. then_left (where_true (is_single labels heads) i) (left_below k b names below))) (equal_itself _ _ (count_of fs.items ms.items))
    ∙ then_more (where_true (is_single labels heads) n) _ _ (object_below k b fs.items ms.items)

pub ruleset walk_laws = (make_left, loc_left, hole_left, var_left, number_left, get_left, put_left, call_left, clone_left, active_left, serve_left, let_left, steps_are, if_left, repeat_left, operate_left, print_left, echo_left, group_left, scatter_left, size_left, member_left, waitall_left, pending_left)
