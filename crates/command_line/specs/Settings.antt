-- How a program is run: by how many workers, within which budget, and with which strategies.
use Rattle.std.specs.Prelude.{◌≤◌, ℕ, nat_le, nat_lt, ◌==◌, if◌then◌else◌, Bool}
use Rattle.std.specs.Prelude.{List, [], ◌∷◌, ◌++◌, length, Option, Some, None, option_map, option_and_then, codes}
use Rattle.std.specs.List.{after_first, before_first, list_any, position_or_len, slice_split}
use Rattle.std.specs.Str.{bytes_eq}
use Rattle.clap.specs.Walk.{Text}
use Rattle.asp_model.specs.Names.{same_text}
use Rattle.asp_model.specs.Readable.{is_identifier}
use Rattle.asp_model.specs.declared.limits.TheConstants.{MOST_REDUCTIONS, MOST_WORKERS}
use Rattle.update_policy.specs.declared.strategy.Strategy.{Strategy}
use Rattle.update_policy.specs.declared.strategy.Strategy.TheVariants.{Lazy, Forward, Message}
use Rattle.update_policy.specs.Plans.{PlanShape}
use Rattle.command_line.specs.Command.{SettingTexts}
use Rattle.command_line.specs.Numbers.{number_in}
use Rattle.command_line.specs.declared.update.TheConstants.{MOST_UPDATES}

pub record SettingsShape : Type 0 where
  pub workers : ℕ
  pub budget : ℕ
  pub plan : PlanShape

-- workers and a budget are 1 to the most
pub record IsSettings (s : SettingsShape) : Type 0 where
  pub some_workers : 1 ≤ s.workers
  pub workers : s.workers ≤ MOST_WORKERS
  pub some_budget : 1 ≤ s.budget
  pub budget : s.budget ≤ MOST_REDUCTIONS

-- where none is given
abbrev pub usual : SettingsShape
usual = record { workers = 4; budget = 1000000; plan = record { strategy = Lazy; by_label = [] } }

abbrev pub workers_of : Option Text → Option ℕ
workers_of None = Some usual.workers
workers_of (Some text) = number_in 1 MOST_WORKERS text

abbrev pub budget_of : Option Text → Option ℕ
budget_of None = Some usual.budget
budget_of (Some text) = number_in 1 MOST_REDUCTIONS text

abbrev pub strategy_in : Text → Option Strategy
strategy_in text =
    if bytes_eq text (codes "lazy") then Some Lazy
    else if bytes_eq text (codes "forward") then Some Forward
    else if bytes_eq text (codes "message") then Some Message
    else None

abbrev pub strategy_of : Option Text → Option Strategy
strategy_of None = Some usual.plan.strategy
strategy_of (Some text) = strategy_in text

-- LABEL=STRATEGY: a name of the language stands before the first `=`, and a strategy behind it

abbrev pub is_equals : ℕ → Bool
is_equals b = b == 61

abbrev pub is_comma : ℕ → Bool
is_comma b = b == 44

abbrev pub pair_of : Text → Text → Option (Text × Strategy)
pair_of label strategy = if is_identifier label then option_map (λ s. (label, s)) (strategy_in strategy) else None

abbrev pub pair_in : Text → Option (Text × Strategy)
pair_in text =
    if nat_lt (position_or_len is_equals text) (length text)
    then pair_of (before_first is_equals text) (after_first is_equals text) else None

-- one pair more, whose label was not there
abbrev pub joined : List (Text × Strategy) → Option (Text × Strategy) → Option (List (Text × Strategy))
joined xs None = None
joined xs (Some x) = if list_any (λ y. same_text x.0 y.0) xs then None else Some (xs ++ x ∷ [])

-- the pairs of these parts behind some
abbrev pub pairs_behind : List (Text × Strategy) → List Text → Option (List (Text × Strategy))
pairs_behind xs [] = Some xs
pairs_behind xs (part ∷ parts) = elim (joined xs (pair_in part)) [ None ↦ None | Some ys ↦ pairs_behind ys parts ]

-- of so many parts at most
abbrev pub pairs_within : ℕ → List (Text × Strategy) → List Text → Option (List (Text × Strategy))
pairs_within most xs parts = if nat_le (length parts) most then pairs_behind xs parts else None

-- pairs joined by `,`
abbrev pub update_of : Option Text → Option (List (Text × Strategy))
update_of None = Some []
update_of (Some text) = pairs_within MOST_UPDATES [] (slice_split is_comma text)

abbrev pub plan_of : Option Text → Option Text → Option PlanShape
plan_of strategy update =
    option_and_then (λ s. option_map (λ xs. record { strategy = s; by_label = xs }) (update_of update)) (strategy_of strategy)

abbrev pub settings_of : SettingTexts → Option SettingsShape
settings_of t =
    option_and_then (λ w. option_and_then (λ n. option_map (λ p. record { workers = w; budget = n; plan = p })
    (plan_of t.strategy t.update)) (budget_of t.budget)) (workers_of t.workers)
