use Rattle.std.proofs.Common.{◌≡◌, List, ◌∷◌, map, ap, subst}
use Rattle.asp_model.specs.Marked.{plain}
use Rattle.asp_model.specs.Names.{Text}
use Rattle.asp_top.specs.Programs.{AsksInTurn}
use Rattle.asp_top.specs.Seen.{outside_between}
use Rattle.asp_top.specs.Stops.{program_in}
use Rattle.asp_top.proofs.AskLemmas.{in_turn_once}
use Rattle.outcome_search.specs.Ends.{run_logs}
use Rattle.outcomes_words.specs.Shapes.{task_shape, texts_behind}
use Rattle.outcomes_top.specs.Given.{ShowEnds}
use Rattle.outcomes_top.specs.Surveys.{HaltsAmong, HaltsFor}
use Rattle.outcomes_top.proofs.EndsLemmas.{answers_of, halts_among, halts_of}
use Rattle.outcomes_top.proofs.GivenLemmas.{files_in_turn, halt_there, halts_if, program_there, show_there}
use Rattle.outcomes_top.proofs.answer.of_task.Goals as goal

pub returns-in_err-checked-clause-reads : goal.returns-in_err-checked-clause-reads
returns-in_err-checked-clause-reads g c =
    in_turn_once (outside_between g.S.Source.told c.args.source.now c.program_of.new.source) c.args.task.now.file.now (texts_behind c.args.task.now.given.items) c.program_of.ensures.asked

pub returns-in_err-given-clause-halt : goal.returns-in_err-given-clause-halt
returns-in_err-given-clause-halt g c =
    let told = g.S.Source.told in
    let first = c.args.source.now in
    let middle = c.program_of.new.source in
    let last = c.ends_in.new.source in
    let file : Text = c.args.task.now.file.now in
    let names : List Text = texts_behind c.deref.result.now in
    let e : names ≡ texts_behind c.args.task.now.given.items = ap texts_behind c.deref.ensures.value in
    let program = program_in c.in_ok-checked.checked in
    let one = c.in_ok-checked.ensures.asked in
    let there = program_there told first middle last file names program one c.in_ok-checked.ensures.program c.ends_in.ensures.reads in
    let halt = c.in_err-given.field-0.0 in
    let among = halt_there told first middle last file names program one c.in_ok-checked.ensures.program c.ends_in.ensures.reads c.in_ok-checked.ensures.same (plain program) c.in_ok-checked.ensures.later halt c.in_err-given.ensures.halt in
    halts_if (HaltsFor (outside_between told first last) (task_shape c.args.task.now)) c.from_residual-in_err-given.result halt c.from_residual-in_err-given.ensures.1
    (halts_among (outside_between told first last) (task_shape c.args.task.now) halt program there
    (subst (λ (l : List Text). HaltsAmong (outside_between told first last) 1 (plain program) l halt) e among))

pub returns-in_err-given-clause-reads : goal.returns-in_err-given-clause-reads
returns-in_err-given-clause-reads g c =
    let file : Text = c.args.task.now.file.now in
    let names : List Text = texts_behind c.deref.result.now in
    let e : names ≡ texts_behind c.args.task.now.given.items = ap texts_behind c.deref.ensures.value in
    subst (λ (l : List Text). AsksInTurn (outside_between g.S.Source.told c.args.source.now c.ends_in.new.source) (file ∷ l)) e
    (files_in_turn g.S.Source.told c.args.source.now c.program_of.new.source c.ends_in.new.source file names (program_in c.in_ok-checked.checked)
    c.in_ok-checked.ensures.asked c.in_ok-checked.ensures.program c.ends_in.ensures.reads)

pub returns-clause-answer : goal.returns-clause-answer
returns-clause-answer g c =
    let told = g.S.Source.told in
    let first = c.args.source.now in
    let middle = c.program_of.new.source in
    let last = c.ends_in.new.source in
    let file : Text = c.args.task.now.file.now in
    let names : List Text = texts_behind c.deref.result.now in
    let e : names ≡ texts_behind c.args.task.now.given.items = ap texts_behind c.deref.ensures.value in
    let program = program_in c.in_ok-checked.checked in
    let one = c.in_ok-checked.ensures.asked in
    let there = program_there told first middle last file names program one c.in_ok-checked.ensures.program c.ends_in.ensures.reads in
    let given = map run_logs c.in_ok-given.given.items in
    let shown = show_there told first middle last file names program one c.in_ok-checked.ensures.program c.ends_in.ensures.reads c.in_ok-checked.ensures.same (plain program) given c.in_ok-given.ensures.shown in
    answers_of (outside_between told first last) (task_shape c.args.task.now) c.of_program.result program given there
    (subst (λ (l : List Text). ShowEnds (outside_between told first last) 1 (plain program) l given) e shown) c.of_program.ensures.answer

pub returns-clause-halt : goal.returns-clause-halt
returns-clause-halt g c =
    let told = g.S.Source.told in
    let first = c.args.source.now in
    let middle = c.program_of.new.source in
    let last = c.ends_in.new.source in
    let file : Text = c.args.task.now.file.now in
    let names : List Text = texts_behind c.deref.result.now in
    let e : names ≡ texts_behind c.args.task.now.given.items = ap texts_behind c.deref.ensures.value in
    let program = program_in c.in_ok-checked.checked in
    let one = c.in_ok-checked.ensures.asked in
    let there = program_there told first middle last file names program one c.in_ok-checked.ensures.program c.ends_in.ensures.reads in
    let given = map run_logs c.in_ok-given.given.items in
    let shown = show_there told first middle last file names program one c.in_ok-checked.ensures.program c.ends_in.ensures.reads c.in_ok-checked.ensures.same (plain program) given c.in_ok-given.ensures.shown in
    halts_of (outside_between told first last) (task_shape c.args.task.now) c.of_program.result program given there
    (subst (λ (l : List Text). ShowEnds (outside_between told first last) 1 (plain program) l given) e shown) c.of_program.ensures.halt

pub returns-clause-reads : goal.returns-clause-reads
returns-clause-reads g c =
    let file : Text = c.args.task.now.file.now in
    let names : List Text = texts_behind c.deref.result.now in
    let e : names ≡ texts_behind c.args.task.now.given.items = ap texts_behind c.deref.ensures.value in
    subst (λ (l : List Text). AsksInTurn (outside_between g.S.Source.told c.args.source.now c.ends_in.new.source) (file ∷ l)) e
    (files_in_turn g.S.Source.told c.args.source.now c.program_of.new.source c.ends_in.new.source file names (program_in c.in_ok-checked.checked)
    c.in_ok-checked.ensures.asked c.in_ok-checked.ensures.program c.ends_in.ensures.reads)
