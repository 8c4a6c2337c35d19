-- Pieces whose variables have their slots, and whose nodes have the terms below them that they ask for.
use Rattle.std.specs.Prelude.{◌≡◌, ℕ, suc, ◌+◌, ◌<◌, ◌≤◌, false, List, [], ◌∷◌, ◌++◌, Some, length, map, take, get_or}
use Rattle.asp_model.specs.Names.{Text}
use Rattle.asp_model.specs.Term.{Head, MethodHead, Loc, Hole, Var, Make, Tree, Environment, binders, location_of, has_text, loc, put_in}
use Rattle.asp_model.specs.Readable.{HasArity}
use Rattle.code_table.specs.declared.code.Leaf.{Leaf}
use Rattle.code_table.specs.declared.code.Leaf.TheVariants as leaves
use Rattle.code_table.specs.declared.code.Capture.{Capture}
use Rattle.code_table.specs.Pieces.{Piece, variable, piece, object, Pieces, nothing, also, Bodies, no_method, method, count, tree}

-- Scopes: names with their slots, the innermost first

-- names in slots that follow each other
abbrev pub slots_from : ℕ → List Text → Environment
slots_from h [] = []
slots_from h (x ∷ xs) = (x, h) ∷ slots_from (suc h) xs

abbrev pub names : Environment → List Text
names scope = map (λ b. b.0) scope

-- what the names of a scope stand for in an environment of these places
abbrev pub placed : List ℕ → Environment → Environment
placed ns [] = []
placed ns (b ∷ bs) = (b.0, get_or ns b.1 0) ∷ placed ns bs

-- What is captured

abbrev pub captured_names : List Capture → List Text
captured_names cs = map (λ c. c.name) cs

abbrev pub text_at : ℕ → List Text → Text
text_at k xs = get_or xs k []

abbrev pub leaf_name : List Text → Leaf → Text
leaf_name xs (leaves.Own k x) = x
leaf_name xs (leaves.Kept k) = text_at k xs

-- an own variable has its slot; a captured one has no name that is bound here
abbrev pub LeafFits : List Text → Environment → Leaf → Type 0
LeafFits xs scope (leaves.Own k x) = location_of x scope ≡ Some k
LeafFits xs scope (leaves.Kept k) = (k < length xs) × (has_text (text_at k xs) (names scope) ≡ false)

abbrev pub CapturesFit : List Text → Environment → List Capture → Type 0
CapturesFit xs scope [] = Unit {0}
CapturesFit xs scope (c ∷ cs) = LeafFits xs scope c.leaf × (c.name ≡ leaf_name xs c.leaf) × CapturesFit xs scope cs

-- the names in a method's head, which stand behind what it captured
abbrev pub head_names : MethodHead → List Text
head_names m = m.slf ∷ m.parameters

-- the scope in which a method's body begins, and how many slots it has
abbrev pub body_scope : List Capture → MethodHead → Environment
body_scope cs m = slots_from (length cs) (head_names m)

abbrev pub body_height : List Capture → MethodHead → ℕ
body_height cs m = length cs + length (head_names m)

-- Pieces

-- what is a variable, a place or an object is no such node
abbrev pub IsNode : Head → Type 0
IsNode (Loc n) = ⊥
IsNode Hole = ⊥
IsNode (Var x) = ⊥
IsNode (Make fields methods) = ⊥
IsNode h = Unit {0}

abbrev mutual
  -- a piece may stand where these names were captured, in this scope, in an environment of this height
  pub Fits : List Text → Environment → ℕ → Piece → Type 0
  Fits xs scope h (variable l) = LeafFits xs scope l
  Fits xs scope h (piece hd ps) = IsNode hd × HasArity hd (count ps) × AllFit xs scope h (binders hd) ps
  Fits xs scope h (object ls fs ms) = (length ls ≡ count fs) × AllFit xs scope h [] fs × BodiesFit xs scope ms

  -- each under the names that the node binds in it
  pub AllFit : List Text → Environment → ℕ → List (List Text) → Pieces → Type 0
  AllFit xs scope h bound nothing = Unit {0}
  AllFit xs scope h [] (also p ps) = Fits xs scope h p × AllFit xs scope h [] ps
  AllFit xs scope h (ys ∷ bound) (also p ps) = Fits xs (slots_from h ys ++ scope) (h + length ys) p × AllFit xs scope h bound ps

  pub BodiesFit : List Text → Environment → Bodies → Type 0
  BodiesFit xs scope no_method = Unit {0}
  BodiesFit xs scope (method m cs b ms) = CapturesFit xs scope cs × Fits (captured_names cs) (body_scope cs m) (body_height cs m) b × BodiesFit xs scope ms

-- Environments

-- the term of a piece in an environment of these places, of which the first were captured under these names
abbrev pub term_in : List Text → Environment → List ℕ → Piece → Tree
term_in xs scope ns p = put_in (placed ns scope) (tree (map loc (take (length xs) ns)) p)

abbrev pub Under : ℕ → Environment → Type 0
Under h [] = Unit {0}
Under h (b ∷ bs) = (b.1 < h) × Under h bs

-- a piece may run in an environment of these places
pub record Runs (xs : List Text) (scope : Environment) (ns : List ℕ) (p : Piece) : Type 0 where
  pub low : length xs ≤ length ns
  pub within : Under (length ns) scope
  pub fits : Fits xs scope (length ns) p
