-- The text that tells the outcomes of a program.
use Rattle.std.specs.Prelude.{ℕ, Bool, true, false, List, [], ◌∷◌, ◌++◌, codes, suc, length}
use Rattle.std.specs.Fmt.{decimal}
use Rattle.asp_model.specs.Names.{Text}
use Rattle.asp_model.specs.Report.{with_feed}
use Rattle.outcomes_text.specs.Outcomes.{Outcome, outcomes_among}

-- whether the ends are all that there are
abbrev pub whole_line : Bool → List ℕ
whole_line true = codes "complete"
whole_line false = codes "cut off"

-- the lines before the outcomes
abbrev pub head_text : (whole : Bool) (ends longest : ℕ) → List ℕ
head_text whole ends longest =
    codes "outcomes 1\n" ++ whole_line whole ++ codes "\nends " ++ decimal ends
    ++ codes "\nlongest " ++ decimal longest ++ codes "\n"

-- the number of an outcome, from 1, and how many ends have it
abbrev pub outcome_line : ℕ → ℕ → List ℕ
outcome_line number ends = codes "outcome " ++ decimal number ++ codes " of " ++ decimal ends

-- that line, and what is seen of its ends
abbrev pub one_outcome : ℕ → ℕ → Text → List ℕ
one_outcome number ends text = with_feed (outcome_line number ends) ++ text

-- outcomes in their order, the first of which has this number
abbrev pub outcomes_from : ℕ → List Outcome → List ℕ
outcomes_from number [] = []
outcomes_from number (o ∷ os) = one_outcome number o.ends o.text ++ outcomes_from (suc number) os

-- the whole text, of so many ends that have these outcomes
abbrev pub told : (whole : Bool) (ends longest : ℕ) → List Outcome → List ℕ
told whole ends longest outcomes = head_text whole ends longest ++ outcomes_from 1 outcomes

-- the whole text, of ends that look so
abbrev pub outcomes_text : (whole : Bool) (longest : ℕ) → List Text → List ℕ
outcomes_text whole longest texts = told whole (length texts) longest (outcomes_among texts)
