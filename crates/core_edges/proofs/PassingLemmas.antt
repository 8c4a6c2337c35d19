-- Futures that are passed on, as events and as edges.
use Rattle.std.proofs.Common.{◌≡◌, ◌≤◌, ◌+◌, ℕ, Bool, true, false, List, [], ◌∷◌, ◌++◌, Option, Some, None, map, take, length, zero, suc, ◌<◌, refl, sym, ap, ◌∙◌, subst, arith, append-nil, append_assoc}
use Rattle.asp_model.specs.Names.{Name, FutureShape}
use Rattle.asp_model.specs.History.{ChoiceShape, DeliveryShape, Edge, Need}
use Rattle.asp_model.specs.Configuration.{RequestShape}
use Rattle.code_table.specs.declared.code.Node.{Node}
use Rattle.code_table.specs.declared.class.Class.{Class}
use Rattle.code_table.specs.Classes.{class_at}
use Rattle.code_table.specs.Cells as coded
use Rattle.code_table.specs.Cells.{CodedCell, CodedStore, cell_at}
use Rattle.code_table.specs.Shapes.{cell_of, class_object, store_of}
use Rattle.def_journals.specs.Edges.{Begins, EdgeShape, HoldersShape, Passes, Receives, after_event, after_events, home_of, is_no_edge, with_edge, with_edges, with_held}
use Rattle.def_journals.specs.Passing.{future_in, futures_in, passes_all}
use Rattle.future_update.specs.Changes.{once_received}
use Rattle.future_update.specs.Names.{edge_between}
use Rattle.update_policy.specs.declared.strategy.Strategy.{Strategy}
use Rattle.update_policy.specs.Strategies.{IsAlikeBeside, policy_of}
use Rattle.future_update.specs.Holders.{answered}
use Rattle.core_edges.specs.Futures.{future_of}
use Rattle.core_edges.specs.declared.edges.Edges.{Edges}
use Rattle.core_edges.specs.Answers.{Answering, AreAnswered, AreAsked, Counting, IsAsked}
use Rattle.core_edges.specs.Deliveries.{IsNoted, events_along}
use Rattle.core_edges.specs.Passing.{ArePassed, IsHeldPassed, IsSent, future_held, futures_held, one_future, with_passed}
use Rattle.core_edges.specs.Strategies.{IsLearned, KeepsLearning, KeepsOthers, strategy_in}
use Rattle.core_edges.proofs.AnswerLemmas.{answered_then, none_answered}

-- Edges of several futures

edges_then : (fs gs : List FutureShape) (from to : Name) (xs : List EdgeShape) → with_edges (fs ++ gs) from to xs ≡ with_edges gs from to (with_edges fs from to xs)
edges_then [] gs from to xs = refl
edges_then (f ∷ fs) gs from to xs = edges_then fs gs from to (with_edge (edge_between f from to) xs)

passed_events : (fs : List FutureShape) (from to : Name) (h : HoldersShape) → after_events (map (λ f. Passes (edge_between f from to)) fs) h ≡ with_passed fs from to h
passed_events [] from to h = refl
passed_events (f ∷ fs) from to h = passed_events fs from to (after_event (Passes (edge_between f from to)) h)

-- The future in a cell

abbrev pub listed : Option FutureShape → List FutureShape
listed None = []
listed (Some f) = one_future f

held_listed : (c : CodedCell) → future_held c ≡ listed (future_of c)
held_listed (coded.Number n) = refl
held_listed (coded.Object class ns) = refl
held_listed (coded.Reference n) = refl
held_listed (coded.Future f) = refl
held_listed (coded.Group ns) = refl

pub held_told : (c : CodedCell) (o : Option FutureShape) → o ≡ future_of c → listed o ≡ future_held c
held_told c o is = ap listed is ∙ sym (held_listed c)

-- The futures in cells, by their code

held_in : (k : List Node) (c : CodedCell) → future_in (cell_of k c) ≡ future_held c
held_in k (coded.Number n) = refl
held_in k (coded.Object class ns) = by (class_at k class)
  where
    by : (o : Option Class) → future_in (class_object k ns o) ≡ []
    by None = refl
    by (Some x) = refl
held_in k (coded.Reference n) = refl
held_in k (coded.Future f) = refl
held_in k (coded.Group ns) = refl

pub held_are : (k : List Node) (cs : CodedStore) → futures_in (store_of k cs) ≡ futures_held cs
held_are k [] = refl
held_are k (c ∷ cs) = λ i. held_in k c i ++ held_are k cs i

held_last : (cs : CodedStore) (c : CodedCell) → futures_held (cs ++ c ∷ []) ≡ futures_held cs ++ future_held c
held_last [] c = append-nil (future_held c)
held_last (d ∷ cs) c = ap (λ fs. future_held d ++ fs) (held_last cs c) ∙ sym (append_assoc (future_held d) (futures_held cs) (future_held c))

-- as events
pub passes_are : (k : List Node) (cs : CodedStore) (from to : Name) (h : HoldersShape) → after_events (passes_all from to (store_of k cs)) h ≡ with_passed (futures_held cs) from to h
passes_are k cs from to h =
    ap (λ fs. after_events (map (λ f. Passes (edge_between f from to)) fs) h) (held_are k cs)
    ∙ passed_events (futures_held cs) from to h

-- Loops over cells

take_cell : (cs : CodedStore) (p : ℕ) → p < length cs → take (suc p) cs ≡ take p cs ++ cell_at cs p ∷ []
take_cell [] p lt = absurd (omega (arith, lt))
take_cell (c ∷ cs) zero lt = refl
take_cell (c ∷ cs) (suc p) lt = ap (λ ys. c ∷ ys) (take_cell cs p (omega (arith, lt)))

pub stored_more : (cs : CodedStore) (p : ℕ) (c : CodedCell) → p < length cs → c ≡ cell_at cs p → futures_held (take (p + 1) cs) ≡ futures_held (take p cs) ++ future_held c
stored_more cs p c lt e =
    let on : p + 1 ≡ suc p = omega arith in
    ap (λ n. futures_held (take n cs)) on ∙ ap futures_held (take_cell cs p lt)
    ∙ held_last (take p cs) (cell_at cs p)
    ∙ ap (λ d. futures_held (take p cs) ++ future_held d) (sym e)

-- Calls

module _ {P : Type 0} (answers : Answering P) (counts : Counting P) where
  pub same_strategies : (old new : Edges P) → KeepsOthers old new → strategy_in new ≡ strategy_in old
  same_strategies old new k = λ i. strategy_in (record old { plan = k.plan i; strategies = k.strategies i })

  pub others_then : (old mid new : Edges P) → KeepsOthers old mid → KeepsOthers mid new → KeepsOthers old new
  others_then old mid new h k = record { activities = k.activities ∙ h.activities; plan = k.plan ∙ h.plan; strategies = k.strategies ∙ h.strategies }

  pub none_passed : (from to : Name) (x : Edges P) → ArePassed answers counts [] from to x x
  none_passed from to x = record {
    holders = refl;
    answered = none_answered answers counts (strategy_in x) x x refl refl refl;
    others = record { activities = refl; plan = refl; strategies = refl };
  }

  pub passed_then : (fs gs : List FutureShape) (from to : Name) (old mid new : Edges P) → ArePassed answers counts fs from to old mid → ArePassed answers counts gs from to mid new → ArePassed answers counts (fs ++ gs) from to old new
  passed_then fs gs from to old mid new h k = record {
    holders = k.holders ∙ ap (with_passed gs from to) h.holders ∙ ap (λ (es : List EdgeShape). record old.holders.holders { edges = es }) (sym (edges_then fs gs from to old.holders.holders.edges));
    answered = answered_then answers counts (strategy_in old) old mid new h.answered (subst (λ s. AreAnswered answers counts s mid new) (same_strategies old mid h.others) k.answered);
    others = others_then old mid new h.others k.others;
  }

  -- one future, about whose edge the policy of its strategy is asked
  pub one_passed : (strategy : Strategy) (f : FutureShape) (from to : Name) (old new : Edges P)
      → strategy ≡ strategy_in old f
      → new.holders.holders ≡ after_event (Passes (edge_between f from to)) old.holders.holders
      → new.holders.answers ≡ answered (edge_between f from to) old.holders.holders.edges (answers (policy_of strategy old.policies) f from to) old.holders.answers
      → KeepsOthers old new
      → counts (policy_of strategy new.policies) ≤ counts (policy_of strategy old.policies) + 1
      → IsAlikeBeside strategy old.policies new.policies
      → (is_no_edge (edge_between f from to) old.holders.holders.edges ≡ true → new.policies ≡ old.policies)
      → ArePassed answers counts (one_future f) from to old new
  one_passed strategy f from to old new is holders kept others once beside nobody = record {
    holders = holders;
    answered = by (is_no_edge x edges) refl (ap (λ h. h.edges) holders) kept;
    others = others;
  }
    where
      x : EdgeShape
      x = edge_between f from to

      edges : List EdgeShape
      edges = old.holders.holders.edges

      answer : ChoiceShape
      answer = answers (policy_of strategy old.policies) f from to

      told : AreAsked answers counts (strategy_in old) (x ∷ []) (answer ∷ []) old.policies new.policies
      told = (new.policies, subst (λ s. IsAsked answers counts s x answer old.policies new.policies) is (record { is = refl; once = once; others = beside }), refl)

      by : (b : Bool) → is_no_edge x edges ≡ b → new.holders.holders.edges ≡ elim b [ true ↦ edges | false ↦ edges ++ x ∷ [] ] → new.holders.answers ≡ elim b [ true ↦ old.holders.answers | false ↦ old.holders.answers ++ answer ∷ [] ] → AreAnswered answers counts (strategy_in old) old new
      by true e at had = none_answered answers counts (strategy_in old) old new at had (nobody e)
      by false e at had = record { added = x ∷ []; given = answer ∷ []; edges = at; kept = had; asked = told }

  -- a request: its strategy is learned, its future begins, and that is passed back, then those of the arguments on
  pub sent_is : (by home : Name) (r : RequestShape) (fs : List FutureShape) → ((h : HoldersShape) → after_events (passes_all by home r.arguments.cells) h ≡ with_passed fs by home h)
      → (old first begun back new : Edges P) → IsLearned r.future r.label old first → KeepsLearning old first
      → begun.holders.holders ≡ after_event (Begins r.future home) first.holders.holders → begun.holders.answers ≡ first.holders.answers
      → begun.policies ≡ first.policies → KeepsOthers first begun
      → ArePassed answers counts (one_future r.future) home by begun back → ArePassed answers counts fs by home back new
      → IsSent answers counts by home r old new
  sent_is by home r fs events old first begun back new learned kept holders had policies others there on = record {
    holders =
        on.holders
        ∙ ap (with_passed fs by home) there.holders
        ∙ ap (λ h. with_passed fs by home (after_event (Passes (edge_between r.future home by)) h)) (holders ∙ ap (after_event (Begins r.future home)) (ap (λ v. v.holders) kept.holders))
        ∙ sym (events (after_event (Passes (edge_between r.future home by)) (after_event (Begins r.future home) old.holders.holders)));
    answered = subst (λ s. AreAnswered answers counts s old new) (sym same)
        (answered_then answers counts (strategy_in begun) old begun new
        (none_answered answers counts (strategy_in begun) old begun (ap (λ h. h.edges) holders ∙ ap (λ v. v.holders.edges) kept.holders) (had ∙ ap (λ v. v.answers) kept.holders) (policies ∙ kept.policies))
        (answered_then answers counts (strategy_in begun) begun back new there.answered (subst (λ s. AreAnswered answers counts s back new) (same_strategies begun back there.others) on.answered)));
    learned = record {
      here = ap (λ s. s r.future) (same ∙ same_strategies first begun others) ∙ learned.here;
      others = λ g d. ap (λ s. s g) (same ∙ same_strategies first begun others) ∙ learned.others g d;
    };
    activities = on.others.activities ∙ there.others.activities ∙ others.activities ∙ ap (λ v. v.activities) kept.holders;
    plan = on.others.plan ∙ there.others.plan ∙ others.plan ∙ kept.plan;
  }
    where
      same : strategy_in new ≡ strategy_in begun
      same = same_strategies back new on.others ∙ same_strategies begun back there.others

  pub no_home_passed : (f : FutureShape) (held : List FutureShape) (to : Name) (x : Edges P) → home_of f x.holders.holders.homes ≡ None → IsHeldPassed answers counts f held to x x
  no_home_passed f held to x none = record {
    holders = λ i. record x.holders.holders { edges = with_held held (sym none i) to x.holders.holders.edges };
    answered = none_answered answers counts (strategy_in x) x x refl refl refl;
    others = record { activities = refl; plan = refl; strategies = refl };
  }

  pub no_future_passed : (f : FutureShape) (held : List FutureShape) (to : Name) (x : Edges P) → held ≡ [] → IsHeldPassed answers counts f held to x x
  no_future_passed f held to x none = record {
    holders = λ i. record x.holders.holders { edges = sym (ap (λ fs. with_held fs (home_of f x.holders.holders.homes) to x.holders.holders.edges) none ∙ nothing (home_of f x.holders.holders.homes)) i };
    answered = none_answered answers counts (strategy_in x) x x refl refl refl;
    others = record { activities = refl; plan = refl; strategies = refl };
  }
    where
      nothing : (o : Option Name) → with_held [] o to x.holders.holders.edges ≡ x.holders.holders.edges
      nothing None = refl
      nothing (Some n) = refl

  pub received_holders : (f : FutureShape) (held fs : List FutureShape) (by : Name) (old mid new : Edges P) → fs ≡ held → IsHeldPassed answers counts f held by old mid → new.holders.holders ≡ once_received f by mid.holders.holders → new.holders.holders ≡ after_event (Receives f by fs) old.holders.holders
  received_holders f held fs by old mid new same h e =
      e ∙ ap (once_received f by) h.holders ∙ ap (λ gs. after_event (Receives f by gs) old.holders.holders) (sym same)

  noted_edges : (d : DeliveryShape) (h : HoldersShape) → (after_events (events_along d) h).edges ≡ h.edges
  noted_edges (Edge f from to) h = refl
  noted_edges (Need f to place) h = refl

  -- a delivery that is noted enters no edge
  pub noted_answers : (d : DeliveryShape) (old mid new : Edges P) → IsNoted d old mid → AreAnswered answers counts (strategy_in mid) mid new → AreAnswered answers counts (strategy_in old) old new
  noted_answers d old mid new h k =
      let same = same_strategies old mid h.others in
      subst (λ s. AreAnswered answers counts s old new) same
      (answered_then answers counts (strategy_in mid) old mid new (none_answered answers counts (strategy_in mid) old mid (ap (λ x. x.edges) h.holders ∙ noted_edges d old.holders.holders) h.answers h.policies) k)

-- cells of which none is a future hold none
pub plain_held : (cs : CodedStore) → coded.ArePlain cs → futures_held cs ≡ []
plain_held [] h = refl
plain_held (coded.Number n ∷ cs) h = plain_held cs h.1
plain_held (coded.Object class ns ∷ cs) h = plain_held cs h.1
plain_held (coded.Reference n ∷ cs) h = plain_held cs h.1
plain_held (coded.Future f ∷ cs) h = absurd h.0
plain_held (coded.Group ns ∷ cs) h = plain_held cs h.1
