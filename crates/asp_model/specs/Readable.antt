-- What a program that was read is: each node has the terms below it that the grammar gives it, and the names,
-- numbers and texts in it are those of the language.
use Rattle.std.specs.Prelude.{◌≡◌, ◌≤◌, ℕ, ℤ, pos, negsuc, ◌+◌, ◌^◌, ◌==◌, nat_le, nat_lt, ◌&&◌, ◌||◌, not, codes, Bool, true, false, List, [], ◌∷◌, ◌++◌, Some, None, length}
use Rattle.std.specs.List.{list_all, flat_map}
use Rattle.asp_model.specs.Names.{Text}
use Rattle.asp_model.specs.Term.{MethodHead, Head, Loc, Hole, Var, Number, Make, Get, Put, Call, Clone, Active, Serve, Let, Steps, If, Repeat, Operate, Print, Echo, Group, Scatter, Size, Member, WaitAll, Pending, Tree, Trees, node, none, more, child_count, has_text}
use Rattle.asp_model.specs.WellFormed.{is_printable}

-- Names and numbers

-- a letter or `_`
abbrev pub is_letter : ℕ → Bool
is_letter b = (nat_le 65 b && nat_le b 90) || (nat_le 97 b && nat_le b 122) || b == 95

-- a digit
abbrev pub is_digit : ℕ → Bool
is_digit b = nat_le 48 b && nat_le b 57

-- a byte of a name, from its second on
abbrev pub is_inner : ℕ → Bool
is_inner b = is_letter b || is_digit b

-- words that are no names
abbrev pub reserved_words : List Text
reserved_words =
    codes "let" ∷ codes "in" ∷ codes "if" ∷ codes "else" ∷ codes "repeat" ∷ codes "active" ∷ codes "serve"
    ∷ codes "clone" ∷ codes "print" ∷ codes "echo" ∷ codes "group" ∷ codes "scatter" ∷ codes "size" ∷ codes "member" ∷ codes "waitall"
    ∷ codes "pending" ∷ []

-- a name of the language: a letter or `_`, then letters, digits and `_`, and no reserved word
unfoldable pub is_identifier : Text → Bool
is_identifier [] = false
is_identifier (b ∷ bs) = is_letter b && list_all is_inner bs && not (has_text (b ∷ bs) reserved_words)

-- a number that digits write: at least 0, and of 64 bits
abbrev pub is_numeral : ℤ → Bool
is_numeral (pos n) = nat_lt n (2 ^ 63)
is_numeral (negsuc n) = false

-- Nodes

-- how many terms stand below a node
abbrev pub HasArity : Head → ℕ → Type 0
HasArity (Make fields methods) k = k ≡ length fields + length methods
HasArity (Get l) k = k ≡ 1
HasArity (Put l) k = k ≡ 2
HasArity (Call l) k = 1 ≤ k
HasArity Clone k = k ≡ 1
HasArity (Active service) k = k ≡ 1
HasArity (Let x) k = k ≡ 2
HasArity Steps k = 2 ≤ k
HasArity If k = k ≡ 3
HasArity Repeat k = k ≡ 1
HasArity (Operate sign) k = k ≡ 2
HasArity Print k = k ≡ 1
HasArity Group k = Unit {0}
HasArity (Scatter l) k = k ≡ 2
HasArity Size k = k ≡ 1
HasArity Member k = k ≡ 2
HasArity WaitAll k = k ≡ 1
HasArity h k = k ≡ 0

-- a method's label, the name of self, and the names of its parameters
abbrev pub names_of_method : MethodHead → List Text
names_of_method m = m.label ∷ m.slf ∷ m.parameters

-- the labels and names that stand in a node
abbrev pub names_of : Head → List Text
names_of (Var x) = x ∷ []
names_of (Make fields methods) = fields ++ flat_map names_of_method methods
names_of (Get l) = l ∷ []
names_of (Put l) = l ∷ []
names_of (Call l) = l ∷ []
names_of (Active (Some l)) = l ∷ []
names_of (Active None) = []
names_of (Serve labels) = labels
names_of (Pending labels) = labels
names_of (Let x) = x ∷ []
names_of (Scatter l) = l ∷ []
names_of h = []

-- a node that a text makes: no place and no hole
abbrev pub is_written : Head → Bool
is_written (Loc place) = false
is_written Hole = false
is_written (Number z) = is_numeral z
is_written (Echo text) = list_all is_printable text
is_written h = list_all is_identifier (names_of h)

-- Programs

abbrev mutual
  -- each node is one that a text makes, with the terms below it that it asks for
  pub IsReadable : Tree → Type 0
  IsReadable (node h ts) = (is_written h ≡ true) × HasArity h (child_count ts) × AreReadable ts

  -- so are all terms below a node
  pub AreReadable : Trees → Type 0
  AreReadable none = Unit {0}
  AreReadable (more t ts) = IsReadable t × AreReadable ts
