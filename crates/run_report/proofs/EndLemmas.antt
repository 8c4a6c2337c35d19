-- The lines of activities one by one, and of the whole report.
use Rattle.std.proofs.Common.{◌≡◌, ℕ, zero, suc, ◌+◌, ◌<◌, List, [], ◌∷◌, ◌++◌, map, length, take, get_or, Option, Result, Ok, Err, refl, sym, ap, ◌∙◌, arith, append_assoc}
use Rattle.std.specs.Prelude.{IfOk, slice_get}
use Rattle.std.specs.List.{flat_map}
use Rattle.std.proofs.lemmas.List.{append-nil}
use Rattle.asp_model.specs.declared.outcome.ActivityReport.{ActivityReport}
use Rattle.asp_model.specs.Outcome.{lists_in, counts_in}
use Rattle.asp_model.specs.WellFormed.{IsWellFormed}
use Rattle.asp_model.specs.Report.{activity_lines, text_of}
use Rattle.asp_model.specs.ReadReport.{read_report, Reads}
use Rattle.asp_model.specs.Shapes.{activity_shape}
use Rattle.def_paths.specs.Outcomes.{EndShape, WholeOutcome, reported, report_lines_to}
use Rattle.law_reports.specs.Depths.{HasPrintableLabels}
use Rattle.law_reports.proofs.DepthLemmas.{depths_are_read}
use Rattle.run_ends.specs.declared.ends.RunEnd.{RunEnd}
use Rattle.run_ends.specs.Ends.{IsEndOf}
use Rattle.run_report.specs.Ends.{if_there}

abbrev Lines : Type 0
Lines = List (List ℕ)

-- one more that gives lines
pub one_more : {X : Type 0} (f : X → Lines) (xs : List X) (n : ℕ) → flat_map f (take (n + 1) xs) ≡ flat_map f (take n xs) ++ if_there f (slice_get xs n)
one_more f xs n = let more : n + 1 ≡ suc n = omega arith in ap (λ (k : ℕ). flat_map f (take k xs)) more ∙ next f xs n
  where
    next : {X : Type 0} (f : X → Lines) (xs : List X) (n : ℕ) → flat_map f (take (suc n) xs) ≡ flat_map f (take n xs) ++ if_there f (slice_get xs n)
    next f [] zero = refl
    next f [] (suc n) = refl
    next f (x ∷ xs) zero = append-nil (f x)
    next f (x ∷ xs) (suc n) = ap (λ (ls : Lines). f x ++ ls) (next f xs n) ∙ sym (append_assoc (f x) (flat_map f (take n xs)) (if_there f (slice_get xs n)))

-- the lines of an activity and those of its state
pub one_end : (xs : List ActivityReport) (es : List EndShape) (n : ℕ) (x : ActivityReport) (extra : EndShape → Lines) → map activity_shape xs ≡ map (λ e. e.report) es → n < length xs → x ≡ get_or xs n x
    → activity_lines (activity_shape x) ++ if_there extra (slice_get es n) ≡ if_there (λ e. activity_lines e.report ++ extra e) (slice_get es n)
one_end [] es n x extra same lt is = absurd (omega (arith, lt))
one_end (y ∷ xs) [] n x extra same lt is = absurd cc
one_end (y ∷ xs) (e ∷ es) zero x extra same lt is =
    let head : activity_shape y ≡ e.report = cc in
    ap (λ (r : ActivityReport). activity_lines (activity_shape r) ++ extra e) is ∙ (λ i. activity_lines (head i) ++ extra e)
one_end (y ∷ xs) (e ∷ es) (suc n) x extra same lt is =
    let tails : map activity_shape xs ≡ map (λ (f : EndShape). f.report) es = cc in
    let less : n < length xs = omega (arith, lt) in
    one_end xs es n x extra tails less is

pub same_activities : (r : RunEnd) (o : WholeOutcome) → IsEndOf r o → map activity_shape r.outcome.activities.items ≡ map (λ e. e.report) o.ends
same_activities r o h = ap (λ s. s.activities) h.outcome

-- the lines of a well-formed outcome's report are read again
pub if_read : {S E : Type 0} (f : S → Lines) (r : Result S E) (depth : Option ℕ) (o : WholeOutcome) → IfOk r (λ s. f s ≡ report_lines_to depth o) → IsWellFormed (reported o) → HasPrintableLabels o
    → IfOk r (λ s. read_report (text_of (f s)) ≡ Reads (lists_in (reported o)) (counts_in (reported o)))
if_read f (Ok s) depth o h w p = ap (λ (ls : Lines). read_report (text_of ls)) h ∙ depths_are_read depth o w p
if_read f (Err x) depth o h w p = tt
