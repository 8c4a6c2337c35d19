-- Programs as trees, in the words of the language. Labels and names are written as texts.
use Prim.Native.String.{String}
use Rattle.std.specs.Prelude.{ℕ, pos, List, ◌++◌, Some, None, map, codes}
use Rattle.asp_model.specs.Names.{Text}
use Rattle.asp_model.specs.Term.{Add, Subtract, Multiply, Divide, Remainder, Less, Equal, Number, Var, Make, Get, Put, Call, Clone, Active, Serve, Let, Steps, If, Repeat, Operate, Print, Echo, Group, Scatter, Size, Member, WaitAll, Pending, Tree, node, none, more, trees, leaf, one, two}
use Rattle.asp_model.specs.Store.{MethodShape}

abbrev pub number : ℕ → Tree
number n = leaf (Number (pos n))

abbrev pub variable : String → Tree
variable x = leaf (Var (codes x))

-- a field with its term
abbrev pub field : String → Tree → Text × Tree
field l t = (codes l, t)

-- a method with the name of self, its parameters and its body
abbrev pub method : String → String → List String → Tree → MethodShape
method l slf parameters body = record { head = record { label = codes l; slf = codes slf; parameters = map codes parameters }; body = body }

abbrev pub object : List (Text × Tree) → List MethodShape → Tree
object fields methods = node (Make (map (λ f. f.0) fields) (map (λ m. m.head) methods)) (trees (map (λ f. f.1) fields ++ map (λ m. m.body) methods))

abbrev pub get : Tree → String → Tree
get t l = one (Get (codes l)) t

abbrev pub put : Tree → String → Tree → Tree
put t l u = two (Put (codes l)) t u

abbrev pub call : Tree → String → List Tree → Tree
call t l arguments = node (Call (codes l)) (more t (trees arguments))

abbrev pub clone : Tree → Tree
clone = one Clone

abbrev pub active : Tree → Tree
active = one (Active None)

-- an active object that begins with a call of this method
abbrev pub active_by : Tree → String → Tree
active_by t l = one (Active (Some (codes l))) t

abbrev pub serve : List String → Tree
serve labels = leaf (Serve (map codes labels))

-- whether a request with one of these labels is pending
abbrev pub pending : List String → Tree
pending labels = leaf (Pending (map codes labels))

abbrev pub let_in : String → Tree → Tree → Tree
let_in x t u = two (Let (codes x)) t u

-- terms one after another
abbrev pub steps : List Tree → Tree
steps ts = node Steps (trees ts)

abbrev pub if_else : Tree → Tree → Tree → Tree
if_else t a b = node If (more t (more a (more b none)))

abbrev pub repeat : Tree → Tree
repeat = one Repeat

abbrev pub add : Tree → Tree → Tree
add = two (Operate Add)

abbrev pub subtract : Tree → Tree → Tree
subtract = two (Operate Subtract)

abbrev pub multiply : Tree → Tree → Tree
multiply = two (Operate Multiply)

abbrev pub divide : Tree → Tree → Tree
divide = two (Operate Divide)

abbrev pub remainder : Tree → Tree → Tree
remainder = two (Operate Remainder)

abbrev pub less : Tree → Tree → Tree
less = two (Operate Less)

abbrev pub equal : Tree → Tree → Tree
equal = two (Operate Equal)

abbrev pub print : Tree → Tree
print = one Print

abbrev pub echo : String → Tree
echo text = leaf (Echo (codes text))

abbrev pub group : List Tree → Tree
group ts = node Group (trees ts)

abbrev pub scatter : Tree → String → Tree → Tree
scatter t l u = two (Scatter (codes l)) t u

abbrev pub size : Tree → Tree
size = one Size

abbrev pub member : Tree → Tree → Tree
member = two Member

abbrev pub waitall : Tree → Tree
waitall = one WaitAll
