-- One end more in a survey, and what one end is among others.
use Rattle.std.proofs.Common.{◌≡◌, ℕ, zero, suc, ◌+◌, ◌≤◌, ◌<◌, ◌-◌, Bool, true, false, List, [], ◌∷◌, ◌++◌, map, length, take, Option, Some, None, Result, Ok, Err, IfOk, IfErr, refl, sym, ap, subst, ◌∙◌, inl, inr, arith}
use Rattle.std.specs.Prelude.{cond, max, nat_lt, option_map, slice_get}
use Rattle.law_chases.proofs.FutureLemmas.{some_is}
use Rattle.std.proofs.Math.Nat.{le-max_left, le-max_right, zero-add}
use Rattle.std.proofs.lemmas.Bool.{ltb-true, ltb-false}
use Rattle.std.proofs.lemmas.List.{map-append, length-append, take_all}
use Rattle.asp_model.specs.Names.{Text}
use Rattle.asp_model.specs.Term.{Tree}
use Rattle.asp_model.specs.Outcome.{exit_status, outcome_of}
use Rattle.asp_model.specs.Replay.{total}
use Rattle.def_paths.specs.Outcomes.{whole_outcome_of}
use Rattle.law_families.specs.Families.{Has, RunLogs}
use Rattle.outcomes_text.specs.Outcomes.{Outcome, outcomes_among, text_seen, with_end, with_ends}
use Rattle.outcomes_text.specs.Tallies.{AreWithin}
use Rattle.outcomes_top.specs.declared.survey.Survey.{Survey}
use Rattle.outcomes_top.specs.Families.{end_of, greatest, greatest_from, status_of_family, text_of_family}
use Rattle.outcome_search.specs.declared.runs.EndedRun.{EndedRun}
use Rattle.outcome_search.specs.Ends.{run_logs}
use Rattle.asp_top.specs.declared.prepare.Prepared.{Prepared}
use Rattle.asp_top.specs.declared.stop.Stop.TheVariants as stops
use Rattle.asp_top.specs.Ready.{text_in}
use Rattle.outcomes_top.specs.declared.halt.Halt.{Halt}
use Rattle.outcomes_top.specs.declared.halt.Halt.TheVariants as halts
use Rattle.outcomes_words.specs.Words.{TaskShape}
use Rattle.outcomes_words.specs.declared.task.Choice.{Choice}
use Rattle.outcomes_words.specs.declared.task.Choice.TheVariants as choices
use Rattle.outcomes_top.specs.Correct.{Found, IsChoice, IsFirstOf, Tells, TellsAll, TellsOne, outcomes_of}
use Rattle.outcomes_top.specs.Endings.{HaveFewer}
use Rattle.outcomes_top.specs.Surveys.{HaltsAt, HaltsOne, IsChosen, IsOneMore, IsReportOf, IsSurvey, TellsOf, place_in}

greatest_more : (m : ℕ) (xs : List ℕ) (y : ℕ) → greatest_from m (xs ++ y ∷ []) ≡ max (greatest_from m xs) y
greatest_more m [] y = refl
greatest_more m (x ∷ xs) y = greatest_more (max m x) xs y

greatest_mapped : {X : Type 0} (f : X → ℕ) (xs : List X) (x : X) → greatest (map f (xs ++ x ∷ [])) ≡ max (greatest (map f xs)) (f x)
greatest_mapped f xs x = ap greatest (map-append f xs (x ∷ [])) ∙ greatest_more 0 (map f xs) (f x)

ends_more : (i : ℕ) (ts : List Text) (t : Text) (os : List Outcome) → with_ends i (ts ++ t ∷ []) os ≡ with_end (i + length ts) t (with_ends i ts os)
ends_more i [] t os = let same : i ≡ i + 0 = omega arith in ap (λ (n : ℕ). with_end n t os) same
ends_more i (u ∷ ts) t os =
    let same : suc i + length ts ≡ i + suc (length ts) = omega arith in
    ends_more (suc i) ts t (with_end i u os) ∙ ap (λ (n : ℕ). with_end n t (with_ends (suc i) ts (with_end i u os))) same

pub length_mapped : {X Y : Type 0} (f : X → Y) (xs : List X) → length (map f xs) ≡ length xs
length_mapped f [] = refl
length_mapped f (x ∷ xs) = ap suc (length_mapped f xs)

among_more : (f : RunLogs → Text) (xs : List RunLogs) (x : RunLogs) → outcomes_among (map f (xs ++ x ∷ [])) ≡ with_end (length xs) (f x) (outcomes_among (map f xs))
among_more f xs x =
    ap outcomes_among (map-append f xs (x ∷ [])) ∙ ends_more 0 (map f xs) (f x) []
    ∙ ap (λ (n : ℕ). with_end n (f x) (outcomes_among (map f xs))) (zero-add (length (map f xs)) ∙ length_mapped f xs)

pub survey_more : (depth : Option ℕ) (program : Tree) (xs : List RunLogs) (x : RunLogs) (old new : Survey) → IsSurvey depth program xs old → IsOneMore depth program (length xs) x old new → IsSurvey depth program (xs ++ x ∷ []) new
survey_more depth program xs x old new h more =
    let longer : length xs + 1 ≡ length (xs ++ x ∷ []) = omega (arith, length-append xs (x ∷ [])) in
    record {
      tally = more.tally ∙ ap (with_end (length xs) (text_seen depth (whole_outcome_of (end_of program x)))) h.tally ∙ sym (among_more (λ y. text_seen depth (whole_outcome_of (end_of program y))) xs x);
      within = subst (λ (n : ℕ). AreWithin n new.tally) longer more.within;
      longest = more.longest ∙ ap (λ (n : ℕ). max n (total x.1)) h.longest ∙ sym (greatest_mapped (λ y. total y.1) xs x);
      worst = more.worst ∙ ap (λ (n : ℕ). max n (exit_status (outcome_of (end_of program x)))) h.worst ∙ sym (greatest_mapped (λ y. exit_status (outcome_of (end_of program y))) xs x);
    }

-- no end is longer than the longest

beyond : (m : ℕ) (xs : List ℕ) → m ≤ greatest_from m xs
beyond m [] = omega arith
beyond m (x ∷ xs) = omega (arith, le-max_left m x, beyond (max m x) xs)

pub is_within_longest : (m : ℕ) (ends : List RunLogs) (x : RunLogs) → Has ends x → total x.1 ≤ greatest_from m (map (λ y. total y.1) ends)
is_within_longest m [] x h = absurd h
is_within_longest m (y ∷ ends) x (inl e) =
    let all = map (λ z. total z.1) ends in
    let one : total y.1 ≤ greatest_from (max m (total y.1)) all = omega (arith, le-max_right m (total y.1), beyond (max m (total y.1)) all) in
    subst (λ (z : RunLogs). total z.1 ≤ greatest_from (max m (total y.1)) all) e one
is_within_longest m (y ∷ ends) x (inr h) = is_within_longest (max m (total y.1)) ends x h

-- Ends by their numbers

pub has_at : (ends : List EndedRun) (k : ℕ) (x : EndedRun) → slice_get ends k ≡ Some x → Has (map run_logs ends) (run_logs x)
has_at [] k x h = absurd cc
has_at (y ∷ ends) zero x h = let same : y ≡ x = cc in inl (ap run_logs same)
has_at (y ∷ ends) (suc k) x h = inr (has_at ends k x h)

pub logs_at : (ends : List EndedRun) (k : ℕ) (x : EndedRun) → slice_get ends k ≡ Some x → slice_get (map run_logs ends) k ≡ Some (run_logs x)
logs_at [] k x h = absurd cc
logs_at (y ∷ ends) zero x h = let same : y ≡ x = cc in ap (λ (z : EndedRun). Some (run_logs z)) same
logs_at (y ∷ ends) (suc k) x h = logs_at ends k x h

pub logs_more : (ends : List EndedRun) (k : ℕ) (x : EndedRun) → slice_get ends k ≡ Some x → map run_logs (take (k + 1) ends) ≡ map run_logs (take k ends) ++ run_logs x ∷ []
logs_more ends k x h = let next : k + 1 ≡ suc k = omega arith in ap (λ (n : ℕ). map run_logs (take n ends)) next ∙ more ends k h
  where
    more : (ends : List EndedRun) (k : ℕ) → slice_get ends k ≡ Some x → map run_logs (take (suc k) ends) ≡ map run_logs (take k ends) ++ run_logs x ∷ []
    more [] k h = absurd cc
    more (y ∷ ends) zero h = let same : y ≡ x = cc in ap (λ (z : EndedRun). run_logs z ∷ []) same
    more (y ∷ ends) (suc k) h = ap (λ (l : List RunLogs). run_logs y ∷ l) (more ends k h)

pub length_front : (ends : List EndedRun) (k : ℕ) → k ≤ length ends → length (map run_logs (take k ends)) ≡ k
length_front ends k le = length_mapped run_logs (take k ends) ∙ fronts ends k le
  where
    fronts : (ends : List EndedRun) (k : ℕ) → k ≤ length ends → length (take k ends) ≡ k
    fronts ends zero le = refl
    fronts [] (suc k) le = absurd (omega (arith, le))
    fronts (y ∷ ends) (suc k) le = ap suc (fronts ends k (omega (arith, le)))

pub logs_whole : (ends : List EndedRun) (k : ℕ) → length ends ≤ k → map run_logs (take k ends) ≡ map run_logs ends
logs_whole ends k le = ap (map run_logs) (take_all k ends le)

-- Outcomes by their numbers

pub none_past : {X : Type 0} (xs : List X) (i : ℕ) → slice_get xs i ≡ None → length xs ≤ i
none_past [] i h = omega arith
none_past (x ∷ xs) zero h = absurd cc
none_past (x ∷ xs) (suc i) h = omega (arith, none_past xs i h)

pub first_within : (n : ℕ) (os : List Outcome) (k : ℕ) (o : Outcome) → AreWithin n os → slice_get os k ≡ Some o → o.first < n
first_within n [] k o h at = absurd cc
first_within n (p ∷ os) zero o h at = let same : p ≡ o = cc in subst (λ (q : Outcome). q.first < n) same h.1
first_within n (p ∷ os) (suc k) o h at = first_within n os k o h.2 at

-- What is told

pub all_of : {E : Type 0} (depth : Option ℕ) (program : Tree) (whole : Bool) (ends : List RunLogs) (r : Result Prepared E) (text : List ℕ) (status : ℕ) → IfOk r (λ p. text_in p ≡ text) → IfOk r (λ p. p.status ≡ status)
    → text ≡ text_of_family depth program whole ends → status ≡ status_of_family program whole ends → IfOk r (λ p. TellsAll depth program whole ends (text_in p) p.status)
all_of depth program whole ends (Ok p) text status t s e g = (t ∙ e, s ∙ g)
all_of depth program whole ends (Err x) text status t s e g = tt

pub one_of : {E : Type 0} (depth : Option ℕ) (program : Tree) (ends : List RunLogs) (choice : Choice) (x : RunLogs) (r : Result Prepared E) → IsChoice depth program ends choice x
    → IfOk r (λ p. IsReportOf depth (end_of program x) (text_in p) p.status) → IfOk r (λ p. TellsOne depth program ends choice (text_in p) p.status)
one_of depth program ends choice x (Ok p) chosen h = (x, chosen, h.0, h.1)
one_of depth program ends choice x (Err e) chosen h = tt

pub halts_memory : (depth : Option ℕ) (program : Tree) (ends : List RunLogs) (choice : Choice) (r : Result Prepared Halt) → IfErr r (λ h. h ≡ halts.Stop stops.Memory) → IfErr r (HaltsOne depth program ends choice)
halts_memory depth program ends choice (Ok p) h = tt
halts_memory depth program ends choice (Err s) h = subst (HaltsOne depth program ends choice) (sym h) refl

-- The end that is chosen

below : (b : Bool) (i n : ℕ) → nat_lt i n ≡ b → (k : ℕ) → cond b (Some i) None ≡ Some k → (i ≡ k) × (k < n)
below true i n e k h = let same : i ≡ k = some_is h in (same, subst (λ (j : ℕ). j < n) same (ltb-true i n e))
below false i n e k h = absurd cc

past : (b : Bool) (i n : ℕ) → nat_lt i n ≡ b → cond b (Some i) None ≡ None → n ≤ i
past true i n e h = absurd cc
past false i n e h = ltb-false i n e

pub place_within : (os : List Outcome) (n : ℕ) (choice : Choice) (k : ℕ) → AreWithin n os → place_in os n choice ≡ Some k → k < n
place_within os n (choices.Outcome number) k w h = by (slice_get os (number - 1)) refl h
  where
    by : (x : Option Outcome) → slice_get os (number - 1) ≡ x → option_map (λ o. o.first) x ≡ Some k → k < n
    by None e h = absurd cc
    by (Some o) e h = subst (λ (j : ℕ). j < n) (some_is h) (first_within n os (number - 1) o w e)
place_within os n (choices.End number) k w h = (below (nat_lt (number - 1) n) (number - 1) n refl k h).1

pub choice_at : (depth : Option ℕ) (program : Tree) (ends : List RunLogs) (choice : Choice) (k : ℕ) (x : RunLogs) → place_in (outcomes_of depth program ends) (length ends) choice ≡ Some k
    → slice_get ends k ≡ Some x → IsChoice depth program ends choice x
choice_at depth program ends (choices.Outcome number) k x h at = by (slice_get (outcomes_of depth program ends) (number - 1)) refl h
  where
    by : (y : Option Outcome) → slice_get (outcomes_of depth program ends) (number - 1) ≡ y → option_map (λ o. o.first) y ≡ Some k → IsFirstOf depth program ends number x
    by None e h = absurd cc
    by (Some o) e h = record { outcome = o; there = e; first = subst (λ (j : ℕ). slice_get ends j ≡ Some x) (sym (some_is h)) at }
choice_at depth program ends (choices.End number) k x h at =
    subst (λ (j : ℕ). slice_get ends j ≡ Some x) (sym (below (nat_lt (number - 1) (length ends)) (number - 1) (length ends) refl k h).0) at

pub fewer_at : (depth : Option ℕ) (program : Tree) (ends : List RunLogs) (choice : Choice) → place_in (outcomes_of depth program ends) (length ends) choice ≡ None → HaveFewer depth program ends choice
fewer_at depth program ends (choices.Outcome number) h = by (slice_get (outcomes_of depth program ends) (number - 1)) refl h
  where
    by : (y : Option Outcome) → slice_get (outcomes_of depth program ends) (number - 1) ≡ y → option_map (λ o. o.first) y ≡ None → length (outcomes_of depth program ends) ≤ number - 1
    by None e h = none_past (outcomes_of depth program ends) (number - 1) e
    by (Some o) e h = absurd cc
fewer_at depth program ends (choices.End number) h = past (nat_lt (number - 1) (length ends)) (number - 1) (length ends) refl h

-- What is told of a program

pub tells_all : {E : Type 0} (task : TaskShape) (program : Tree) (given : List RunLogs) (f : Found program) (r : Result Prepared E) → IsChosen task program given f → task.choice ≡ None
    → IfOk r (λ p. TellsAll task.depth program f.whole f.ends (text_in p) p.status) → IfOk r (λ p. TellsOf task program given (text_in p) p.status)
tells_all task program given f (Ok p) chosen e h = (f, chosen, subst (λ (o : Option Choice). Tells task.depth program f.whole f.ends o (text_in p) p.status) (sym e) h)
tells_all task program given f (Err x) chosen e h = tt

pub tells_one : {E : Type 0} (task : TaskShape) (program : Tree) (given : List RunLogs) (f : Found program) (choice : Choice) (r : Result Prepared E) → IsChosen task program given f → task.choice ≡ Some choice
    → IfOk r (λ p. TellsOne task.depth program f.ends choice (text_in p) p.status) → IfOk r (λ p. TellsOf task program given (text_in p) p.status)
tells_one task program given f choice (Ok p) chosen e h = (f, chosen, subst (λ (o : Option Choice). Tells task.depth program f.whole f.ends o (text_in p) p.status) (sym e) h)
tells_one task program given f choice (Err x) chosen e h = tt

halt_one : (task : TaskShape) (program : Tree) (given : List RunLogs) (f : Found program) (choice : Choice) (h : Halt) → IsChosen task program given f → task.choice ≡ Some choice → HaltsOne task.depth program f.ends choice h → HaltsAt task program given h
halt_one task program given f choice halts.Usage chosen e h = absurd h
halt_one task program given f choice (halts.Stop s) chosen e h = h
halt_one task program given f choice (halts.Given name fault) chosen e h = absurd h
halt_one task program given f choice (halts.Missing other) chosen e h =
    (e ∙ ap (λ (k : Choice). Some k) (sym h.0), f, chosen, subst (HaveFewer task.depth program f.ends) (sym h.0) h.1)

pub halts_one : (task : TaskShape) (program : Tree) (given : List RunLogs) (f : Found program) (choice : Choice) (r : Result Prepared Halt) → IsChosen task program given f → task.choice ≡ Some choice
    → IfErr r (HaltsOne task.depth program f.ends choice) → IfErr r (HaltsAt task program given)
halts_one task program given f choice (Ok p) chosen e h = tt
halts_one task program given f choice (Err x) chosen e h = halt_one task program given f choice x chosen e h
