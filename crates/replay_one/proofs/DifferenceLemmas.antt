-- The rows of an outcome side by side with those of lists and counts.
use Rattle.std.proofs.Common.{◌≡◌, ◌≤◌, ◌&&◌, ◌∷◌, [], Bool, true, T, List, map, refl, sym, ap, subst, ◌∙◌}
use Rattle.std.specs.Global.{Vec}
use Rattle.std.specs.FinMap.{is_sorted}
use Rattle.std.specs.FinMap.Entries.{below_all}
use Rattle.std.specs.Ordering.{is_lt}
use Rattle.asp_model.specs.declared.limits.TheConstants.{MOST_REDUCTIONS}
use Rattle.asp_model.specs.declared.outcome.Outcome.{Outcome}
use Rattle.asp_model.specs.declared.outcome.Reception.{Reception}
use Rattle.asp_model.specs.Configuration.{ReceptionShape}
use Rattle.asp_model.specs.Names.{Name, name_cmp}
use Rattle.asp_model.specs.Term.{Tree}
use Rattle.asp_model.specs.Outcome.{OutcomeShape, outcome_of}
use Rattle.asp_model.specs.Step.{ListsShape}
use Rattle.asp_model.specs.Replay.{CountsShape, replay, total}
use Rattle.asp_model.specs.Shapes.{activity_shape, outcome_shape}
use Rattle.law_schedules.specs.Divergence.{Row, divergence_of, first_difference, row_of, rows_given, rows_shown}
use Rattle.replay_one.specs.Listed.{AreReplayable}
use Rattle.replay_parts.specs.Rows.{list_shape}
use Rattle.step_ends.proofs.ReportLemmas.{map_map}
use Rattle.replay_parts.proofs.DifferenceLemmas.{difference_in}

-- the replay's outcome differs where it is found to
pub divergence_is : (program : Tree) (o : Outcome) (lists : List (Name × Vec Reception)) (counts : CountsShape) → outcome_shape o ≡ outcome_of (replay program (map list_shape lists) counts) → divergence_of program (map list_shape lists) counts ≡ difference_in o.activities.items lists counts
divergence_is program o lists counts e =
    let given : List Row = rows_given (map list_shape lists) counts in
    ap (λ (q : OutcomeShape). first_difference (rows_shown q) given) (sym e) ∙ ap (λ rows. first_difference rows given) (map_map row_of activity_shape o.activities.items)

-- Names in order

all_below : Name → List Name → Bool
all_below k [] = true
all_below k (n ∷ ns) = is_lt (name_cmp k n) && all_below k ns

ascends : List Name → Bool
ascends [] = true
ascends (n ∷ ns) = all_below n ns && ascends ns

module _ {X : Type 0} where
  below_names : (k : Name) (es : List (Name × X)) → below_all name_cmp k es ≡ all_below k (map (λ e. e.0) es)
  unfolding all_below
  below_names k [] = refl
  below_names k (e ∷ es) = ap (λ b. is_lt (name_cmp k e.0) && b) (below_names k es)

  sorted_names : (es : List (Name × X)) → is_sorted name_cmp es ≡ ascends (map (λ e. e.0) es)
  unfolding ascends
  sorted_names [] = refl
  sorted_names (e ∷ es) = λ i. below_names e.0 es i && sorted_names es i

-- what has the same names is in order too
pub in_order : {X Y : Type 0} (xs : List (Name × X)) (ys : List (Name × Y)) → map (λ x. x.0) xs ≡ map (λ y. y.0) ys → T (is_sorted name_cmp ys) → T (is_sorted name_cmp xs)
in_order xs ys same s = subst T (sym (sorted_names xs ∙ ap ascends same ∙ sym (sorted_names ys))) s

pub names_of_lists : (lists : List (Name × Vec Reception)) → map (λ x. x.0) (map list_shape lists) ≡ map (λ x. x.0) lists
names_of_lists lists = map_map (λ (x : Name × List ReceptionShape). x.0) list_shape lists

-- what a report gives of lists and counts
pub replayable_by : (lists : ListsShape) (counts : CountsShape) → map (λ x. x.0) lists ≡ map (λ y. y.0) counts → is_sorted name_cmp counts ≡ true → total counts ≤ MOST_REDUCTIONS → AreReplayable lists counts
replayable_by lists counts same s within = record { ordered = record { names = same; ascending = in_order lists counts same (subst T (sym s) tt) }; within = within }
