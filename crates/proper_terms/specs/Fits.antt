-- Terms that are proper, with places below a size and with so many holes.
use Rattle.std.specs.Prelude.{ℕ, zero, suc, ◌+◌, nat_eq, nat_le, nat_lt, ◌&&◌, not, Bool, true, false, List, [], ◌∷◌, ◌++◌, Option, Some, None, is_some, length, map}
use Rattle.std.specs.List.{list_all}
use Rattle.asp_model.specs.declared.term.Term.{Term}
use Rattle.asp_model.specs.declared.term.Method.{Method}
use Rattle.asp_model.specs.declared.word.Label.{Label}
use Rattle.asp_model.specs.Names.{Text}
use Rattle.asp_model.specs.Shapes.{tree_of}
use Rattle.asp_model.specs.Term.{MethodHead, Head, Loc, Hole, Var, Make, Get, Put, Call, Clone, Active, Let, Steps, If, Repeat, Operate, Print, Group, Scatter, Size, Member, WaitAll, Tree, Trees, node, none, more, trees, binders, child_count}
use Rattle.asp_model.specs.Store.{MethodShape}
use Rattle.asp_check.specs.NameFaults.{NameSet, no_names, with_name, with_names}
use Rattle.law_programs.specs.Proper.{names_bound}
use Rattle.code_table.specs.Parts.{field_tree, body_tree, method_head}

-- Names and labels

-- none of these is in the set, and none stands twice
abbrev pub are_new : NameSet → List Text → Bool
are_new set [] = true
are_new set (x ∷ xs) = not (set x) && are_new (with_name x set) xs

-- no name stands twice in the head
abbrev pub head_is_single : MethodHead → Bool
head_is_single m = are_new no_names (names_bound m)

-- no label of an object stands twice, and no name in a head of its methods
abbrev pub is_single : List Text → List MethodHead → Bool
is_single fields methods = are_new no_names (fields ++ map (λ m. m.label) methods) && list_all head_is_single methods

abbrev pub method_label : Method → Text
method_label m = m.label.text

abbrev pub place_label : Label × ℕ → Text
place_label f = f.0.text

-- Nodes

-- a node has the terms that it asks for
abbrev pub has_arity : Head → ℕ → Bool
has_arity (Make fields methods) k = nat_eq k (length fields + length methods)
has_arity (Get l) k = nat_eq k 1
has_arity (Put l) k = nat_eq k 2
has_arity (Call l) k = nat_le 1 k
has_arity Clone k = nat_eq k 1
has_arity (Active service) k = nat_eq k 1
has_arity (Let x) k = nat_eq k 2
has_arity Steps k = nat_le 2 k
has_arity If k = nat_eq k 3
has_arity Repeat k = nat_eq k 1
has_arity (Operate sign) k = nat_eq k 2
has_arity Print k = nat_eq k 1
has_arity Group k = true
has_arity (Scatter l) k = nat_eq k 2
has_arity Size k = nat_eq k 1
has_arity Member k = nat_eq k 2
has_arity WaitAll k = nat_eq k 1
has_arity h k = nat_eq k 0

-- as many, where it holds
abbrev pub where_true : Bool → ℕ → Option ℕ
where_true true n = Some n
where_true false n = None

-- one less, where there is one
abbrev pub one_less : ℕ → Option ℕ
one_less zero = None
one_less (suc n) = Some n

-- how many more holes may stand behind a node itself, where places are below k and these names are bound
abbrev pub left_at : ℕ → NameSet → Head → ℕ → Option ℕ
left_at k bound (Loc place) n = where_true (nat_lt place k) n
left_at k bound Hole n = one_less n
left_at k bound (Var x) n = where_true (bound x) n
left_at k bound (Make fields methods) n = where_true (is_single fields methods) n
left_at k bound h n = Some n

abbrev pub then_left : Option ℕ → (ℕ → Option ℕ) → Option ℕ
then_left None next = None
then_left (Some n) next = next n

-- Terms

abbrev mutual
  -- how many more holes may stand behind a term
  pub left_in : ℕ → NameSet → Tree → ℕ → Option ℕ
  left_in k bound (node h ts) n = then_left (where_true (has_arity h (child_count ts)) n)
      (λ m. then_left (left_at k bound h m) (left_below k bound (binders h) ts))

  -- and behind the terms below a node, each also under the names that the node binds in it
  pub left_below : ℕ → NameSet → List (List Text) → Trees → ℕ → Option ℕ
  left_below k bound names none n = Some n
  left_below k bound [] (more t ts) n = then_left (left_in k bound t n) (left_below k bound [] ts)
  left_below k bound (xs ∷ names) (more t ts) n =
      then_left (left_in k (with_names xs bound) t n) (left_below k bound names ts)

-- a term with at most so many holes
abbrev pub fits : ℕ → ℕ → Tree → Bool
fits k holes t = is_some (left_in k no_names t holes)

-- the body of a method, under the names of its head
abbrev pub method_fits : ℕ → MethodShape → Bool
method_fits k m = is_some (left_in k (with_names (names_bound m.head) no_names) m.body 0)

-- What the code walks over

abbrev pub terms_below : List Term → Trees
terms_below ts = trees (map tree_of ts)

abbrev pub fields_below : List (Label × Term) → Trees
fields_below fs = trees (map field_tree fs)

abbrev pub bodies_below : List Method → Trees
bodies_below ms = trees (map body_tree ms)

abbrev pub method_shape : Method → MethodShape
method_shape m = record { head = method_head m; body = body_tree m }
