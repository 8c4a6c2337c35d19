-- Each edge has an answer.
use Rattle.std.proofs.Common.{◌≡◌, ◌∙◌, ◌+◌, ◌++◌, ◌∷◌, [], suc, List, length, refl, sym, ap, subst}
use Rattle.std.proofs.lemmas.List.{length-append}
use Rattle.asp_model.specs.History.{ChoiceShape}
use Rattle.asp_model.specs.Names.{FutureShape, same_future}
use Rattle.asp_model.specs.Shapes.{future_shape}
use Rattle.def_journals.specs.Edges.{EdgeShape}
use Rattle.update_policy.specs.declared.strategy.Policies.{Policies}
use Rattle.update_policy.specs.declared.strategy.Strategy.{Strategy}
use Rattle.std.specs.Map.{lookup}
use Rattle.update_policy.specs.Plans.{or_strategy}
use Rattle.core_edges.specs.declared.edges.Edges.{Edges}
use Rattle.core_edges.specs.Answers.{Answering, AreAnswered, AreAsked, Counting}
use Rattle.core_edges.specs.Strategies.{KeepsEdges, strategy_in}

pub same_strategies : {P : Type 0} (old new : Edges P) → KeepsEdges old new → strategy_in old ≡ strategy_in new
same_strategies old new keeps =
    let plans = sym keeps.plan in
    let kept = sym keeps.strategies in
    λ i. λ f. or_strategy (plans i).strategy (lookup (λ g. same_future f (future_shape g)) (kept i).entries)

module _ {P : Type 0} (answers : Answering P) (counts : Counting P) where
  asked_even : (strategies : FutureShape → Strategy) (xs : List EdgeShape) (bs : List ChoiceShape) (old new : Policies P)
      → AreAsked answers counts strategies xs bs old new → length bs ≡ length xs
  asked_even strategies [] [] old new asked = refl
  asked_even strategies (x ∷ xs) (b ∷ bs) old new asked = ap suc (asked_even strategies xs bs asked.0 new asked.2)
  asked_even strategies [] (b ∷ bs) old new asked = absurd asked
  asked_even strategies (x ∷ xs) [] old new asked = absurd asked

  both : {A B : Type 0} (cs ds : List A) (xs ys : List B) → length cs ≡ length xs → length ds ≡ length ys → length (cs ++ ds) ≡ length (xs ++ ys)
  both cs ds xs ys front back = length-append cs ds ∙ (λ i. front i + back i) ∙ sym (length-append xs ys)

  pub answered_even : (strategies : FutureShape → Strategy) (old new : Edges P) → AreAnswered answers counts strategies old new
      → length old.holders.answers ≡ length old.holders.holders.edges → length new.holders.answers ≡ length new.holders.holders.edges
  answered_even strategies old new r even =
      ap length r.kept ∙ both old.holders.answers r.given old.holders.holders.edges r.added even (asked_even strategies r.added r.given old.policies new.policies r.asked)
      ∙ ap length (sym r.edges)

  -- and so after a change of who is known and who is out
  pub answered_then : (old mid new : Edges P) → AreAnswered answers counts (strategy_in mid) old mid → KeepsEdges mid new
      → AreAnswered answers counts (strategy_in new) old new
  answered_then old mid new r keeps = record {
    added = r.added;
    given = r.given;
    edges = ap (λ (q : _). q.edges) keeps.holders ∙ r.edges;
    kept = keeps.answers ∙ r.kept;
    asked = subst (λ q. AreAsked answers counts (strategy_in new) r.added r.given old.policies q) (sym keeps.policies)
        (subst (λ q. AreAsked answers counts q r.added r.given old.policies mid.policies) (same_strategies mid new keeps) r.asked);
  }
