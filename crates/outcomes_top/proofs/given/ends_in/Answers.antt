use Rattle.std.proofs.Common.{◌≡◌, ◌<◌, ◌≤◌, ◌+◌, ℕ, suc, List, [], ◌∷◌, ◌++◌, length, map, take, drop, rules, sym, ap, subst, ◌∙◌, arith}
use Rattle.std.proofs.lemmas.List.{map-append}
use Rattle.std.specs.Borrow.{Bor}
use Rattle.asp_model.specs.Names.{Text}
use Rattle.asp_model.specs.Shapes.{tree_of}
use Rattle.asp_model.specs.Term.{Tree}
use Rattle.asp_top.specs.Programs.{AsksInTurn}
use Rattle.asp_top.specs.Seen.{Outside, outside_between}
use Rattle.law_families.specs.Families.{RunLogs}
use Rattle.outcome_search.specs.Ends.{AreReplayableEnds, run_logs}
use Rattle.outcome_search.specs.declared.runs.EndedRun.{EndedRun}
use Rattle.outcomes_words.specs.Shapes.{texts_behind}
use Rattle.outcomes_top.specs.Given.{ShowEnds}
use Rattle.outcomes_top.specs.Surveys.{HaltsAmong, ReadsAll}
use Rattle.outcomes_top.proofs.GivenLemmas.{all_in_turn, ends_more, halt_next, halts_if, read_next, show_next, texts_all, texts_at, texts_more, turn_next}
use Rattle.outcomes_top.proofs.given.ends_in.Goals as goal

pub returns-in_err-end-clause-halt : goal.returns-in_err-end-clause-halt
returns-in_err-end-clause-halt g c =
    let told = g.S.Source.told in
    let first = c.args.source.now in
    let middle = c.loop-number.source in
    let last = c.end_in.new.source in
    let o : Outside = outside_between told first last in
    let tree : Tree = tree_of c.args.program.now.program.root in
    let names : List (Bor Text) = c.args.names.now in
    let i : ℕ = c.loop-number.number in
    let within : i < length names = search rules in
    let inv = c.loop-number.invariant in
    let halt = c.in_err-end.field-0.0 in
    halts_if (HaltsAmong o 0 tree (texts_behind names)) c.from_residual.result halt c.from_residual.ensures.1
    (subst (λ (l : List Text). HaltsAmong o 0 tree l halt) (sym (texts_at names i _ within))
    (halt_next told first middle last tree (texts_behind (take i names)) (map run_logs c.loop-number.ends.items) _ inv.same inv.later inv.read inv.shown c.in_err-end.ensures.asked
    (texts_behind (drop (suc i) names)) halt c.in_err-end.ensures.halt))

pub returns-in_err-end-clause-reads : goal.returns-in_err-end-clause-reads
returns-in_err-end-clause-reads g c =
    let told = g.S.Source.told in
    let first = c.args.source.now in
    let middle = c.loop-number.source in
    let last = c.end_in.new.source in
    let tree : Tree = tree_of c.args.program.now.program.root in
    let names : List (Bor Text) = c.args.names.now in
    let i : ℕ = c.loop-number.number in
    let within : i < length names = search rules in
    let inv = c.loop-number.invariant in
    subst (AsksInTurn (outside_between told first last)) (sym (texts_at names i _ within))
    (turn_next told first middle last tree (texts_behind (take i names)) (map run_logs c.loop-number.ends.items) _ inv.same inv.later inv.read inv.shown c.in_err-end.ensures.asked (texts_behind (drop (suc i) names)))

pub returns-in_err-keep-clause-reads : goal.returns-in_err-keep-clause-reads
returns-in_err-keep-clause-reads g c =
    let told = g.S.Source.told in
    let first = c.args.source.now in
    let middle = c.loop-number.source in
    let last = c.end_in.new.source in
    let tree : Tree = tree_of c.args.program.now.program.root in
    let names : List (Bor Text) = c.args.names.now in
    let i : ℕ = c.loop-number.number in
    let within : i < length names = search rules in
    let inv = c.loop-number.invariant in
    subst (AsksInTurn (outside_between told first last)) (sym (texts_at names i _ within))
    (turn_next told first middle last tree (texts_behind (take i names)) (map run_logs c.loop-number.ends.items) _ inv.same inv.later inv.read inv.shown c.in_ok-end.ensures.asked (texts_behind (drop (suc i) names)))

pub loop-number-preserved : goal.loop-number-preserved
loop-number-preserved g c =
    let told = g.S.Source.told in
    let first = c.args.source.now in
    let middle = c.loop-number.source in
    let last = c.end_in.new.source in
    let o : Outside = outside_between told first last in
    let tree : Tree = tree_of c.args.program.now.program.root in
    let names : List (Bor Text) = c.args.names.now in
    let i : ℕ = c.loop-number.number in
    let within : i < length names = search rules in
    let inv = c.loop-number.invariant in
    let front : List Text = texts_behind (take i names) in
    let items : List EndedRun = c.loop-number.ends.items in
    let ends : List RunLogs = map run_logs items in
    let e : EndedRun = c.in_ok-end.end in
    let shown = show_next told first middle last tree front ends _ inv.same inv.later inv.read inv.shown c.in_ok-end.ensures.asked (run_logs e) c.in_ok-end.ensures.shown in
    let read = read_next told first middle last tree front ends _ inv.same inv.later inv.read inv.shown c.in_ok-end.ensures.asked (run_logs e) c.in_ok-end.ensures.shown in
    let logs : ends ++ run_logs e ∷ [] ≡ map run_logs c.keep.new.ends.items = sym (ap (map run_logs) c.in_ok-keep.ensures ∙ map-append run_logs items (e ∷ [])) in
    record {
      ends = subst (AreReplayableEnds tree) logs (ends_more tree ends (run_logs e) inv.ends c.in_ok-end.ensures.end);
      shown = subst (ShowEnds o 0 tree (texts_behind (take (i + 1) names))) logs
          (subst (λ (l : List Text). ShowEnds o 0 tree l (ends ++ run_logs e ∷ [])) (sym (texts_more names i _ within)) shown);
      read = subst (ReadsAll o) (sym (texts_more names i _ within)) read;
      same = c.in_ok-end.ensures.same ∙ inv.same;
      later = omega (arith, inv.later, c.in_ok-end.ensures.later);
    }

pub returns-clause-shown : goal.returns-clause-shown
returns-clause-shown g c =
    let names : List (Bor Text) = c.args.names.now in
    let past : length names ≤ c.loop-number.number = search rules in
    subst (λ (l : List Text). ShowEnds (outside_between g.S.Source.told c.args.source.now c.loop-number.source) 0 (tree_of c.args.program.now.program.root) l (map run_logs c.loop-number.ends.items))
    (texts_all names c.loop-number.number past) c.loop-number.invariant.shown

pub returns-clause-reads : goal.returns-clause-reads
returns-clause-reads g c =
    let names : List (Bor Text) = c.args.names.now in
    let past : length names ≤ c.loop-number.number = search rules in
    let o : Outside = outside_between g.S.Source.told c.args.source.now c.loop-number.source in
    all_in_turn o (texts_behind names) (subst (ReadsAll o) (texts_all names c.loop-number.number past) c.loop-number.invariant.read)
