-- New edges have their answers, call by call.
use Rattle.std.proofs.Common.{◌≡◌, List, [], ◌∷◌, ◌++◌, Result, Ok, Err, refl, ap, ◌∙◌, subst, append_assoc}
use Rattle.std.specs.Prelude.{OnOk}
use Rattle.asp_model.specs.Names.{FutureShape}
use Rattle.asp_model.specs.History.{ChoiceShape}
use Rattle.def_journals.specs.Edges.{EdgeShape}
use Rattle.update_policy.specs.declared.strategy.Policies.{Policies}
use Rattle.update_policy.specs.declared.strategy.Strategy.{Strategy}
use Rattle.core_edges.specs.declared.edges.Edges.{Edges}
use Rattle.core_edges.specs.Answers.{Answering, AreAnswered, AreAsked, Counting}

-- what is so where a call succeeds

pub both_ok : {T E : Type 0} (r : Result T E) {P Q R : Type 0} → (P → Q → R) → OnOk r P → OnOk r Q → OnOk r R
both_ok (Ok x) f p q = f p q
both_ok (Err e) f p q = tt

pub on_ok : {T E : Type 0} (r : Result T E) {P Q : Type 0} → (P → Q) → OnOk r P → OnOk r Q
on_ok (Ok x) f p = f p
on_ok (Err e) f p = tt

-- one list of questions behind another

module _ {P : Type 0} (answers : Answering P) (counts : Counting P) (strategies : FutureShape → Strategy) where
  pub asked_then : (xs ys : List EdgeShape) (cs bs : List ChoiceShape) (old mid new : Policies P) → AreAsked answers counts strategies xs cs old mid → AreAsked answers counts strategies ys bs mid new → AreAsked answers counts strategies (xs ++ ys) (cs ++ bs) old new
  asked_then [] ys [] bs old mid new h k = subst (λ p. AreAsked answers counts strategies ys bs p new) h k
  asked_then [] ys (a ∷ cs) bs old mid new h k = absurd h
  asked_then (x ∷ xs) ys [] bs old mid new h k = absurd h
  asked_then (x ∷ xs) ys (a ∷ cs) bs old mid new h k = (h.0, h.1, asked_then xs ys cs bs h.0 mid new h.2 k)

  pub answered_then : (old mid new : Edges P) → AreAnswered answers counts strategies old mid → AreAnswered answers counts strategies mid new → AreAnswered answers counts strategies old new
  answered_then old mid new h k = record {
    added = h.added ++ k.added;
    given = h.given ++ k.given;
    edges = k.edges ∙ ap (λ xs. xs ++ k.added) h.edges ∙ append_assoc old.holders.holders.edges h.added k.added;
    kept = k.kept ∙ ap (λ xs. xs ++ k.given) h.kept ∙ append_assoc old.holders.answers h.given k.given;
    asked = asked_then h.added k.added h.given k.given old.policies mid.policies new.policies h.asked k.asked;
  }

  append_nothing : {A : Type 0} (xs : List A) → xs ≡ xs ++ []
  append_nothing [] = refl
  append_nothing (x ∷ xs) = ap (λ ys. x ∷ ys) (append_nothing xs)

  pub none_answered : (old new : Edges P) → new.holders.holders.edges ≡ old.holders.holders.edges → new.holders.answers ≡ old.holders.answers → new.policies ≡ old.policies → AreAnswered answers counts strategies old new
  none_answered old new edges kept policies = record {
    added = [];
    given = [];
    edges = edges ∙ append_nothing old.holders.holders.edges;
    kept = kept ∙ append_nothing old.holders.answers;
    asked = policies;
  }
