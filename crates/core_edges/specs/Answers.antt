-- The answers of new edges: each by the policy of its future's strategy, which is asked at most once.
use Rattle.std.specs.Prelude.{◌≡◌, ◌≤◌, ◌+◌, ℕ, List, [], ◌∷◌, ◌++◌}
use Rattle.asp_model.specs.Names.{Name, FutureShape}
use Rattle.asp_model.specs.History.{ChoiceShape}
use Rattle.def_journals.specs.Edges.{EdgeShape}
use Rattle.update_policy.specs.declared.strategy.Policies.{Policies}
use Rattle.update_policy.specs.declared.strategy.Strategy.{Strategy}
use Rattle.update_policy.specs.Strategies.{IsAlikeBeside, policy_of}
use Rattle.core_edges.specs.declared.edges.Edges.{Edges}

-- what a policy, as it is, answers for a future and the two ends of an edge, and how often it was asked
abbrev pub Answering : Type 0 → Type 0
Answering P = P → FutureShape → (from to : Name) → ChoiceShape

abbrev pub Counting : Type 0 → Type 0
Counting P = P → ℕ

-- the policy of a strategy was asked about an edge once, and gave this answer; no other was asked
pub record IsAsked {P : Type 0} (answers : Answering P) (counts : Counting P) (strategy : Strategy) (x : EdgeShape) (answer : ChoiceShape) (old new : Policies P) : Type 0 where
  pub is : answer ≡ answers (policy_of strategy old) x.future x.from x.to
  pub once : counts (policy_of strategy new) ≤ counts (policy_of strategy old) + 1
  pub others : IsAlikeBeside strategy old new

-- so about each of these edges in turn, and about no other
abbrev pub AreAsked : {P : Type 0} → Answering P → Counting P → (FutureShape → Strategy) → List EdgeShape → List ChoiceShape → (old new : Policies P) → Type 0
AreAsked answers counts strategies [] [] old new = new ≡ old
AreAsked answers counts strategies (x ∷ xs) (a ∷ rest) old new =
    (then : Policies _) × IsAsked answers counts (strategies x.future) x a old then
    × AreAsked answers counts strategies xs rest then new
AreAsked answers counts strategies [] (a ∷ rest) old new = ⊥
AreAsked answers counts strategies (x ∷ xs) [] old new = ⊥

-- the edges that are new stand behind the others with their answers
pub record AreAnswered {P : Type 0} (answers : Answering P) (counts : Counting P) (strategies : FutureShape → Strategy) (old new : Edges P) : Type 0 where
  pub added : List EdgeShape
  pub given : List ChoiceShape
  pub edges : new.holders.holders.edges ≡ old.holders.holders.edges ++ added
  pub kept : new.holders.answers ≡ old.holders.answers ++ given
  pub asked : AreAsked answers counts strategies added given old.policies new.policies
