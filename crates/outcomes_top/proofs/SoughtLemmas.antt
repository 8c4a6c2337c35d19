-- Families that were sought or given.
use Rattle.std.proofs.Common.{◌≡◌, ℕ, Bool, true, false, List, [], ◌∷◌, map, length, Option, Some, Result, Ok, Err, IfOk, refl, sym, subst}
use Rattle.std.specs.Prelude.{IfSome}
use Rattle.std.specs.Borrow.{Bor}
use Rattle.asp_model.specs.Names.{Text}
use Rattle.asp_model.specs.Term.{Tree}
use Rattle.law_families.specs.Families.{RunLogs}
use Rattle.outcome_search.specs.declared.runs.Found.{Found}
use Rattle.outcome_search.specs.Ends.{AreReplayableEnds, run_logs}
use Rattle.outcome_search.specs.Found.{AreFound, IfComplete}
use Rattle.outcomes_words.specs.Shapes.{texts_behind}
use Rattle.outcomes_words.specs.Words.{TaskShape}
use Rattle.replay_classes.specs.Complete.{IsCompleteByClasses}
use Rattle.replay_offers.specs.Programs.{tree_in}
use Rattle.outcomes_top.specs.declared.family.Family.{Family}
use Rattle.outcomes_top.specs.Correct.{AreInOrders}
use Rattle.outcomes_top.specs.Families.{AreAll, IsFamily}
use Rattle.outcomes_top.specs.Surveys.{AreChosen, IsFamilyOf}

pub no_names : (names : List (Bor Text)) → length names ≡ 0 → texts_behind names ≡ []
no_names [] h = refl
no_names (name ∷ names) h = absurd cc

-- What was found by classes

pub some_found : (program : Tree) (most : ℕ) (o : Option Found) (f : Found) → o ≡ Some f → IfSome o (λ g. AreFound program most (map run_logs g.ends.items)) → AreReplayableEnds program (map run_logs f.ends.items)
some_found program most o f e h =
    let found : AreFound program most (map run_logs f.ends.items) = subst (λ (p : Option Found). IfSome p (λ g. AreFound program most (map run_logs g.ends.items))) e h in
    found.ends

pub some_complete : (program : Tree) (o : Option Found) (f : Found) → o ≡ Some f → IfSome o (λ g. IfComplete (IsCompleteByClasses program (map run_logs g.ends.items)) g.stop) → IfComplete (AreAll true program (map run_logs f.ends.items)) f.stop
some_complete program o f e h = subst (λ (p : Option Found). IfSome p (λ g. IfComplete (IsCompleteByClasses program (map run_logs g.ends.items)) g.stop)) e h

-- A family over the program of its runs

pub family_tree : {E : Type 0} (program : Tree) (r : Result Family E) → IfOk r (IsFamilyOf program) → IfOk r (λ f. tree_in f.runs ≡ program)
family_tree program (Ok f) h = h.tree
family_tree program (Err e) h = tt

pub family_ends : {E : Type 0} (program : Tree) (r : Result Family E) → IfOk r (IsFamilyOf program) → IfOk r (λ f. AreReplayableEnds (tree_in f.runs) (map run_logs f.ends.items))
family_ends program (Ok f) h = subst (λ (t : Tree). AreReplayableEnds t (map run_logs f.ends.items)) (sym h.tree) h.ends
family_ends program (Err e) h = tt

pub family_is : {E : Type 0} (program : Tree) (r : Result Family E) → IfOk r (IsFamilyOf program) → IfOk r (λ f. IsFamily (tree_in f.runs) f.by_classes f.whole (map run_logs f.ends.items))
family_is program (Ok f) h = subst (λ (t : Tree). IsFamily t f.by_classes f.whole (map run_logs f.ends.items)) (sym h.tree) h.family
family_is program (Err e) h = tt

-- and whether each order of receptions tells the ends apart

pub orders_given : {E : Type 0} (task : TaskShape) (r : Result Family E) → IfOk r (λ f. f.by_classes ≡ false) → IfOk r (λ f. AreInOrders task f.by_classes)
orders_given task (Ok f) h = record { asked = λ w. h; given = λ g. h }
orders_given task (Err e) h = tt

pub orders_sought : {E : Type 0} (task : TaskShape) (r : Result Family E) → task.given ≡ [] → IfOk r (λ f. task.whole_orders ≡ true → f.by_classes ≡ false) → IfOk r (λ f. AreInOrders task f.by_classes)
orders_sought task (Ok f) none h = record { asked = h; given = λ g. absurd (g none) }
orders_sought task (Err e) none h = tt

pub orders_anyway : {E : Type 0} (r : Result Family E) (asked : Bool) → IfOk r (λ f. f.by_classes ≡ false) → IfOk r (λ f. asked ≡ true → f.by_classes ≡ false)
orders_anyway (Ok f) asked h = λ w. h
orders_anyway (Err e) asked h = tt

-- Which ends are told

pub chosen_given : (names : List Text) (given ends : List RunLogs) → ends ≡ given → AreChosen names given ends
chosen_given [] given ends e = tt
chosen_given (name ∷ names) given ends e = e

pub chosen_none : (names : List Text) (given ends : List RunLogs) → names ≡ [] → AreChosen names given ends
chosen_none names given ends e = subst (λ (l : List Text). AreChosen l given ends) (sym e) tt

pub chosen_all : {E : Type 0} (names : List Text) (given : List RunLogs) (r : Result Family E) → IfOk r (λ f. map run_logs f.ends.items ≡ given) → IfOk r (λ f. AreChosen names given (map run_logs f.ends.items))
chosen_all names given (Ok f) h = chosen_given names given (map run_logs f.ends.items) h
chosen_all names given (Err e) h = tt

pub chosen_any : {E : Type 0} (names : List Text) (given : List RunLogs) (r : Result Family E) → names ≡ [] → IfOk r (λ f. AreChosen names given (map run_logs f.ends.items))
chosen_any names given (Ok f) none = chosen_none names given (map run_logs f.ends.items) none
chosen_any names given (Err e) none = tt
