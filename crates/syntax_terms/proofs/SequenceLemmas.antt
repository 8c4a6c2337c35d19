-- Two terms or more are the steps of one node.
use Rattle.std.proofs.Common.{◌≡◌, ◌≢◌, ℕ, List, [], ◌∷◌, ◌++◌, refl}
use Rattle.asp_model.specs.Term as term
use Rattle.asp_model.specs.Marked.{Marked, marked, all_marked}
use Rattle.syntax_grammar.specs.Nodes.{terms_at, mark_at}

more_than_one : (at : ℕ) (t u : Marked) (ts : List Marked) → terms_at at (t ∷ (ts ++ u ∷ [])) ≡ marked term.Steps (mark_at at) (all_marked (t ∷ (ts ++ u ∷ [])))
more_than_one at t u [] = refl
more_than_one at t u (v ∷ ts) = refl

pub steps_of : (at : ℕ) (ts : List Marked) (u : Marked) → ts ≢ [] → terms_at at (ts ++ u ∷ []) ≡ marked term.Steps (mark_at at) (all_marked (ts ++ u ∷ []))
steps_of at [] u h = absurd (h refl)
steps_of at (t ∷ ts) u h = more_than_one at t u ts
