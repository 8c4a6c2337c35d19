use Rattle.std.proofs.Common.{List, ℕ, [], ◌<◌, ◌+◌, ◌++◌, ◌∙◌, length, get_or, subst, sym, ap, append_assoc, take, string_bytes}
use Rattle.std.proofs.lemmas.Option.{slice_get-get_or}
use Rattle.outcomes_text.specs.Outcomes.{Outcome}
use Rattle.outcomes_text.specs.Told.{one_outcome, outcomes_from}
use Rattle.outcomes_text.proofs.TextLemmas.{one_more}
use Rattle.outcomes_text.proofs.text.add_outcomes.Goals as goal

pub loop-number-preserved : goal.loop-number-preserved
loop-number-preserved c =
    let os : List Outcome = c.args.tally.now in
    let i : ℕ = c.loop-number.number in
    let blank : Outcome = record { text = []; ends = 0; first = 0 } in
    let o : Outcome = get_or os i blank in
    let within : i < length os = subst (λ n. i < n) c.len-number-end.ensures.len c.loop-number-test.true in
    let there = slice_get-get_or os i blank within in
    let before : List ℕ = string_bytes c.args.text.now in
    c.in_ok-add_at.ensures o there
    ∙ ap (λ (l : List ℕ). l ++ one_outcome (1 + i) o.ends o.text) c.loop-number.invariant
    ∙ append_assoc before (outcomes_from 1 (take i os)) (one_outcome (1 + i) o.ends o.text)
    ∙ ap (λ (l : List ℕ). before ++ l) (sym (one_more 1 os i o there))
