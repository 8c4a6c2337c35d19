use Rattle.std.proofs.Common.{◌≡◌, ◌≤◌, rules, length, refl, ap, subst, List, ℕ, ◌∙◌}
use Rattle.asp_model.specs.declared.limits.TheConstants.{MOST_TRACE_BYTES}
use Rattle.trace_text.specs.Progress.{TellsOf}
use Rattle.trace_text.specs.Traces.{read_trace}
use Rattle.asp_top.specs.Seen.{outside_between}
use Rattle.asp_top.specs.Programs.{IsFile}
use Rattle.asp_top.specs.Stops.{trace_stop}
use Rattle.asp_top.specs.Traced.{StopsInTrace}
use Rattle.asp_top.proofs.StopLemmas.{stops_if}
use Rattle.asp_top.proofs.AskLemmas.{first_file, first_fails, first_long}
use Rattle.asp_top.proofs.TracedLemmas.{text_refused}
use Rattle.asp_top.proofs.traces.entries_of.Goals as goal

pub returns-in_ok-read_trace-in-Ok-clause-entries : goal.returns-in_ok-read_trace-in-Ok-clause-entries
returns-in_ok-read_trace-in-Ok-clause-entries g c =
    let o = outside_between g.S.Source.told c.args.source.now c.read.new.self in
    let bytes = c.in-Ok.bytes.items in
    let short : length bytes ≤ MOST_TRACE_BYTES = search rules in
    let file : IsFile o 0 c.args.name.now MOST_TRACE_BYTES bytes = first_file o c.args.name.now MOST_TRACE_BYTES bytes c.in-Ok.ensures.asked c.in-Ok.ensures.bytes short in
    let same : bytes ≡ c.deref.result.now = search rules in
    record { bytes = bytes; file = file; reads = ap read_trace same ∙ c.in_ok-read_trace-in-Ok.ensures.ok }

pub returns-in_err-read_trace-in-Ok-clause-stop : goal.returns-in_err-read_trace-in-Ok-clause-stop
returns-in_err-read_trace-in-Ok-clause-stop g c =
    let o = outside_between g.S.Source.told c.args.source.now c.read.new.self in
    let bytes = c.in-Ok.bytes.items in
    let e = c.in_err-read_trace-in-Ok.field-0.0 in
    let short : length bytes ≤ MOST_TRACE_BYTES = search rules in
    let file : IsFile o 0 c.args.name.now MOST_TRACE_BYTES bytes = first_file o c.args.name.now MOST_TRACE_BYTES bytes c.in-Ok.ensures.asked c.in-Ok.ensures.bytes short in
    let same : c.deref.result.now ≡ bytes = search rules in
    stops_if (StopsInTrace o c.args.name.now) c.from_residual.result (trace_stop e) c.from_residual.ensures.1
    (text_refused o c.args.name.now bytes e file (subst (λ (l : List ℕ). TellsOf (read_trace l) e) same c.in_err-read_trace-in-Ok.ensures.bad_line))

pub returns-in-Err-Failed-clause-stop : goal.returns-in-Err-Failed-clause-stop
returns-in-Err-Failed-clause-stop g c =
    let o = outside_between g.S.Source.told c.args.source.now c.read.new.self in
    (refl, first_fails o c.args.name.now c.in-Err-Failed.field-0 c.in-Err-Failed.field-0-is c.in-Err-Failed.ensures.asked c.in-Err-Failed.ensures.cause)

pub returns-in-Err-TooLong-clause-stop : goal.returns-in-Err-TooLong-clause-stop
returns-in-Err-TooLong-clause-stop g c =
    let o = outside_between g.S.Source.told c.args.source.now c.read.new.self in
    first_long o c.args.name.now MOST_TRACE_BYTES c.in-Err-TooLong.field-0 _ c.in-Err-TooLong.field-0-is c.in-Err-TooLong.ensures.asked c.in-Err-TooLong.ensures.long
