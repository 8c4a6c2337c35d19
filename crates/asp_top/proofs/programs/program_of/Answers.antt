use Rattle.std.proofs.Common.{◌≤◌, IfOk, IfErr, length, refl, subst, List, ℕ, rules}
use Rattle.asp_model.specs.declared.limits.TheConstants.{MOST_PROGRAM_BYTES}
use Rattle.asp_top.specs.Seen.{outside_between}
use Rattle.asp_top.specs.Programs.{IsFile, IsProgramOf}
use Rattle.asp_top.specs.Stops.{StopsAt, program_in}
use Rattle.asp_top.proofs.StopLemmas.{in_file, stops_in_file}
use Rattle.asp_top.proofs.AskLemmas.{first_file, first_fails, first_long}
use Rattle.asp_top.proofs.programs.program_of.Goals as goal

pub returns-in-Ok-clause-program : goal.returns-in-Ok-clause-program
returns-in-Ok-clause-program g c =
    let o = outside_between g.S.Source.told c.args.source.now c.read.new.self in
    let bytes = c.in-Ok.bytes.items in
    let short : length bytes ≤ MOST_PROGRAM_BYTES = search rules in
    let file : IsFile o 0 c.args.name.now MOST_PROGRAM_BYTES bytes = first_file o c.args.name.now MOST_PROGRAM_BYTES bytes c.in-Ok.ensures.asked c.in-Ok.ensures.bytes short in
    in_file o c.args.name.now bytes c.checked_in.result file (subst (λ (l : List ℕ). IfOk c.checked_in.result (λ p. IsProgramOf l (program_in p))) c.deref.ensures.value c.checked_in.ensures.checked)

pub returns-in-Ok-clause-stop : goal.returns-in-Ok-clause-stop
returns-in-Ok-clause-stop g c =
    let o = outside_between g.S.Source.told c.args.source.now c.read.new.self in
    let bytes = c.in-Ok.bytes.items in
    let short : length bytes ≤ MOST_PROGRAM_BYTES = search rules in
    let file : IsFile o 0 c.args.name.now MOST_PROGRAM_BYTES bytes = first_file o c.args.name.now MOST_PROGRAM_BYTES bytes c.in-Ok.ensures.asked c.in-Ok.ensures.bytes short in
    stops_in_file o c.args.name.now bytes c.checked_in.result file (subst (λ (l : List ℕ). IfErr c.checked_in.result (StopsAt l)) c.deref.ensures.value c.checked_in.ensures.stop)

pub returns-in-Err-Failed-clause-stop : goal.returns-in-Err-Failed-clause-stop
returns-in-Err-Failed-clause-stop g c =
    let o = outside_between g.S.Source.told c.args.source.now c.read.new.self in
    (refl, first_fails o c.args.name.now c.in-Err-Failed.field-0 c.in-Err-Failed.field-0-is c.in-Err-Failed.ensures.asked c.in-Err-Failed.ensures.cause)

pub returns-in-Err-TooLong-clause-stop : goal.returns-in-Err-TooLong-clause-stop
returns-in-Err-TooLong-clause-stop g c =
    let o = outside_between g.S.Source.told c.args.source.now c.read.new.self in
    first_long o c.args.name.now MOST_PROGRAM_BYTES c.in-Err-TooLong.field-0 _ c.in-Err-TooLong.field-0-is c.in-Err-TooLong.ensures.asked c.in-Err-TooLong.ensures.long
