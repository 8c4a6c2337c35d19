-- Programs that a text makes, and that none makes.
use Rattle.std.specs.Prelude.{ℕ, pos, negsuc, ◌^◌, [], ◌∷◌, Some, None, codes}
use Rattle.asp_model.specs.Term.{Tree, node, leaf, one, two, trees, loc, Add, Hole, Var, Number, Make, Get, Put, Call, Clone, Active, Serve, Let, Steps, If, Repeat, Operate, Print, Echo, Group, Scatter, Size, Member, WaitAll, Pending}
use Rattle.asp_model.specs.Readable.{IsReadable}

abbrev pub number : ℕ → Tree
number n = leaf (Number (pos n))

-- let o = [a_1 = 7; f(s, v) = print(v)] in
-- (o.a_1 := 2 + 3; clone(o).f(1); active(o, f); active(o); serve(f); pending(f); echo("t");
--  repeat(if (0) {1} else {2}); waitall(group(o)); scatter(group(), f, group()); member(group(), size(group())); o.a_1)
abbrev pub one_of_each : Tree
one_of_each =
    let o = leaf (Var (codes "o")) in
    let empty = leaf Group in
    two (Let (codes "o"))
    (two (Make (codes "a_1" ∷ [])
    (record { label = codes "f"; slf = codes "s"; parameters = codes "v" ∷ [] } ∷ [])) (number 7) (one Print (leaf (Var (codes "v")))))
    (node Steps (trees (
    two (Put (codes "a_1")) o (two (Operate Add) (number 2) (number 3))
    ∷ two (Call (codes "f")) (one Clone o) (number 1)
    ∷ one (Active (Some (codes "f"))) o
    ∷ one (Active None) o
    ∷ leaf (Serve (codes "f" ∷ []))
    ∷ leaf (Pending (codes "f" ∷ []))
    ∷ leaf (Echo (codes "t"))
    ∷ one Repeat (node If (trees (number 0 ∷ number 1 ∷ number 2 ∷ [])))
    ∷ one WaitAll (one Group o)
    ∷ two (Scatter (codes "f")) empty empty
    ∷ two Member empty (one Size empty)
    ∷ one (Get (codes "a_1")) o
    ∷ [])))

abbrev pub IsUnreadable : Tree → Type 0
IsUnreadable t = IsReadable t → ⊥

abbrev pub place : Tree
place = one Print (loc 0)

abbrev pub hole : Tree
hole = one Print (leaf Hole)

abbrev pub negative : Tree
negative = leaf (Number (negsuc 0))

abbrev pub too_large : Tree
too_large = number (2 ^ 63)

abbrev pub get_without_object : Tree
get_without_object = leaf (Get (codes "a"))

abbrev pub sequence_of_one : Tree
sequence_of_one = one Steps (number 1)

abbrev pub label_with_digit : Tree
label_with_digit = one (Get (codes "1a")) (number 1)

abbrev pub reserved_name : Tree
reserved_name = leaf (Var (codes "pending"))

-- a tab in a text
abbrev pub tab_in_text : Tree
tab_in_text = leaf (Echo (9 ∷ []))
