-- A term in an environment looks at the first places alone: below its height, and at what was captured.
use Rattle.std.proofs.Common.{◌≡◌, ℕ, ◌≤◌, List, ◌++◌, length, map, take, drop}
use Rattle.std.proofs.lemmas.List.{take-take, take-append-le}
use Rattle.asp_model.specs.Names.{Text}
use Rattle.asp_model.specs.Term.{Environment, loc, put_in, put_below}
use Rattle.code_table.specs.Pieces.{Piece, tree}
use Rattle.code_table.specs.Fitting.{Under, term_in}
use Rattle.code_laws.specs.Nodes.{terms_below, rest, behind_in}
use Rattle.code_laws.proofs.ScopeLemmas.{placed_more, placed_cut}
use Rattle.asp_model.specs.Term.{binders}
use Rattle.code_laws.specs.Nodes.{head_in}

pub kept_more : (xs : List Text) (ns ms : List ℕ) → length xs ≤ length ns → take (length xs) (ns ++ ms) ≡ take (length xs) ns
kept_more xs ns ms le = take-append-le (length xs) ns ms le

pub kept_cut : (xs : List Text) (h : ℕ) (ns : List ℕ) → length xs ≤ h → take (length xs) (take h ns) ≡ take (length xs) ns
kept_cut xs h ns le = take-take (length xs) h ns le

-- places may come behind
pub grows : (xs : List Text) (scope : Environment) (ns ms : List ℕ) (p : Piece) → length xs ≤ length ns → Under (length ns) scope → term_in xs scope (ns ++ ms) p ≡ term_in xs scope ns p
grows xs scope ns ms p le u = λ i. put_in (placed_more ns ms scope u i) (tree (map loc (kept_more xs ns ms le i)) p)

-- places may be cut where no slot is
pub is_cut : (xs : List Text) (scope : Environment) (h : ℕ) (ns : List ℕ) (p : Piece) → length xs ≤ h → Under h scope → term_in xs scope (take h ns) p ≡ term_in xs scope ns p
is_cut xs scope h ns p le u = λ i. put_in (placed_cut h ns scope u i) (tree (map loc (kept_cut xs h ns le i)) p)

-- the same of what stands behind the first terms of a node
pub behind_grows : (xs : List Text) (scope : Environment) (ns ms : List ℕ) (p : Piece) (n : ℕ) → length xs ≤ length ns → Under (length ns) scope → behind_in xs scope (ns ++ ms) p n ≡ behind_in xs scope ns p n
behind_grows xs scope ns ms p n le u = λ i. put_below (placed_more ns ms scope u i) (drop n (binders (head_in p))) (rest n (terms_below (map loc (kept_more xs ns ms le i)) p))

pub behind_cut : (xs : List Text) (scope : Environment) (h : ℕ) (ns : List ℕ) (p : Piece) (n : ℕ) → length xs ≤ h → Under h scope → behind_in xs scope (take h ns) p n ≡ behind_in xs scope ns p n
behind_cut xs scope h ns p n le u = λ i. put_below (placed_cut h ns scope u i) (drop n (binders (head_in p))) (rest n (terms_below (map loc (kept_cut xs h ns le i)) p))
