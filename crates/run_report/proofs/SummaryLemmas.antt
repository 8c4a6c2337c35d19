-- Sums over the activities of an outcome.
use Rattle.std.proofs.Common.{◌≡◌, ℕ, ◌+◌, ◌<◌, List, [], ◌∷◌, ◌++◌, map, length, take, get_or, arith, sym, ap, ◌∙◌}
use Rattle.std.proofs.lemmas.List.{map-append, take_more}
use Rattle.asp_model.specs.declared.outcome.ActivityReport.{ActivityReport}
use Rattle.asp_model.specs.declared.outcome.Reception.{Reception}
use Rattle.asp_model.specs.Configuration.{ReceptionShape, From, Poll}
use Rattle.asp_model.specs.Outcome.{ActivityReportShape}
use Rattle.asp_model.specs.Shapes.{activity_shape, reception_shape}
use Rattle.law_steps.specs.Kept.{senders_among}
use Rattle.run_report.specs.Summary.{requests_in}

-- one more activity behind the others
pub requests_in_push : (xs : List ActivityReportShape) (y : ActivityReportShape) → requests_in (xs ++ y ∷ []) ≡ requests_in xs + length (senders_among y.senders)
requests_in_push [] y = omega arith
requests_in_push (x ∷ xs) y = omega (arith, requests_in_push xs y)

-- a loop's step
pub requests_in_more : (xs : List ActivityReport) (i : ℕ) (x : ActivityReport) → i < length xs → x ≡ get_or xs i x
    → requests_in (map activity_shape (take (i + 1) xs)) ≡ requests_in (map activity_shape (take i xs)) + length (senders_among (activity_shape x).senders)
requests_in_more xs i x h e =
    ap (λ (l : List ActivityReport). requests_in (map activity_shape l)) (take_more xs i x h)
    ∙ ap requests_in (map-append activity_shape (take i xs) (get_or xs i x ∷ []))
    ∙ requests_in_push (map activity_shape (take i xs)) (activity_shape (get_or xs i x))
    ∙ ap (λ (y : ActivityReport). requests_in (map activity_shape (take i xs)) + length (senders_among (activity_shape y).senders)) (sym e)

-- Requests of a log

-- one reception more
among_push : (log : List ReceptionShape) (x : ReceptionShape) → length (senders_among (log ++ x ∷ [])) ≡ length (senders_among log) + length (senders_among (x ∷ []))
among_push [] x = omega arith
among_push (From n ∷ log) x = omega (arith, among_push log x)
among_push (Poll ∷ log) x = among_push log x

pub among_more : (log : List Reception) (i : ℕ) (x : Reception) → i < length log → x ≡ get_or log i x
    → length (senders_among (map reception_shape (take (i + 1) log))) ≡ length (senders_among (map reception_shape (take i log))) + length (senders_among (reception_shape x ∷ []))
among_more log i x h e =
    ap (λ (l : List Reception). length (senders_among (map reception_shape l))) (take_more log i x h)
    ∙ ap (λ (l : List ReceptionShape). length (senders_among l)) (map-append reception_shape (take i log) (get_or log i x ∷ []))
    ∙ among_push (map reception_shape (take i log)) (reception_shape (get_or log i x))
    ∙ ap (λ (y : Reception). length (senders_among (map reception_shape (take i log))) + length (senders_among (reception_shape y ∷ []))) (sym e)
