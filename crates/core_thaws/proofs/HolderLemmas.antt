-- Holders that are the same stay so, and say the same of a run.
use Rattle.std.proofs.Common.{◌≡◌, ◌∙◌, ◌++◌, ◌∷◌, ◌||◌, [], Bool, true, false, List, Option, Some, None, refl, sym, ap}
use Rattle.std.proofs.lemmas.List.Folds.{list_any-append}
use Rattle.asp_model.specs.Configuration.{Configuration}
use Rattle.asp_model.specs.Names.{FutureShape, Name, same_future}
use Rattle.def_journals.specs.Edges.{Begins, Delivers, Event, Fills, HoldersShape, Passes, Receives, after_event, after_events, has_filled, home_of, with_delivered, with_edge, with_held, with_received}
use Rattle.law_journals.specs.Runs.{AreHoldersOf}
use Rattle.core_thaws.specs.Holders.{SameHolders}

abbrev pub or_home : Option Name → Option Name → Option Name
or_home None o = o
or_home (Some m) o = Some m

pub home_behind : (f : FutureShape) (xs ys : List (FutureShape × Name)) → home_of f (xs ++ ys) ≡ or_home (home_of f xs) (home_of f ys)
home_behind f [] ys = refl
home_behind f (x ∷ xs) ys = by (same_future f x.0) (home_behind f xs ys)
  where
    by : (b : Bool) → home_of f (xs ++ ys) ≡ or_home (home_of f xs) (home_of f ys)
        → ◌≡◌ {A = Option Name} (elim b [ true ↦ Some x.1 | false ↦ home_of f (xs ++ ys) ]) (or_home (elim b [ true ↦ Some x.1 | false ↦ home_of f xs ]) (home_of f ys))
    by true h = refl
    by false h = h

pub filled_behind : (f : FutureShape) (xs ys : List FutureShape) → has_filled f (xs ++ ys) ≡ (has_filled f xs || has_filled f ys)
filled_behind f xs ys = list_any-append (same_future f) xs ys

pub same_holders : (x : HoldersShape) → SameHolders x x
same_holders x = record { homes = λ f. refl; edges = refl; filled = λ f. refl; received = refl; delivered = refl }

module _ (x y : HoldersShape) (s : SameHolders x y) where
  same_event : (e : Event) → SameHolders (after_event e x) (after_event e y)
  same_event (Begins f m) = record {
    homes = λ g. home_behind g x.homes ((f, m) ∷ []) ∙ ap (λ o. or_home o (home_of g ((f, m) ∷ []))) (s.homes g) ∙ sym (home_behind g y.homes ((f, m) ∷ []));
    edges = s.edges;
    filled = s.filled;
    received = s.received;
    delivered = s.delivered;
  }
  same_event (Passes e) = record { homes = s.homes; edges = ap (with_edge e) s.edges; filled = s.filled; received = s.received; delivered = s.delivered }
  same_event (Fills f) = record {
    homes = s.homes;
    edges = s.edges;
    filled = λ g. filled_behind g x.filled (f ∷ []) ∙ ap (λ b. b || has_filled g (f ∷ [])) (s.filled g) ∙ sym (filled_behind g y.filled (f ∷ []));
    received = s.received;
    delivered = s.delivered;
  }
  same_event (Receives f n held) = record {
    homes = s.homes;
    edges = ap (λ o. with_held held o n x.edges) (s.homes f) ∙ ap (with_held held (home_of f y.homes) n) s.edges;
    filled = s.filled;
    received = ap (with_received f n) s.received;
    delivered = s.delivered;
  }
  same_event (Delivers e) = record {
    homes = s.homes;
    edges = s.edges;
    filled = s.filled;
    received = s.received;
    delivered = ap (λ xs. with_delivered e xs x.delivered) s.edges ∙ ap (with_delivered e y.edges) s.delivered;
  }

  -- they say the same of a configuration
  pub are_same : (c : Configuration) → AreHoldersOf c y → AreHoldersOf c x
  are_same c are = record {
    homes = λ f m at. are.homes f m (sym (s.homes f) ∙ at);
    requests = λ m k r st. s.homes r.future ∙ are.requests m k r st;
    filled = λ f. s.filled f ∙ are.filled f;
  }

pub same_events : (es : List Event) (x y : HoldersShape) → SameHolders x y → SameHolders (after_events es x) (after_events es y)
same_events [] x y s = s
same_events (e ∷ es) x y s = same_events es (after_event e x) (after_event e y) (same_event x y s e)

pub same_turned : (x y : HoldersShape) → SameHolders x y → SameHolders y x
same_turned x y s = record { homes = λ f. sym (s.homes f); edges = sym s.edges; filled = λ f. sym (s.filled f); received = sym s.received; delivered = sym s.delivered }

pub same_then : (x y z : HoldersShape) → SameHolders x y → SameHolders y z → SameHolders x z
same_then x y z s t = record {
  homes = λ f. s.homes f ∙ t.homes f;
  edges = s.edges ∙ t.edges;
  filled = λ f. s.filled f ∙ t.filled f;
  received = s.received ∙ t.received;
  delivered = s.delivered ∙ t.delivered;
}
