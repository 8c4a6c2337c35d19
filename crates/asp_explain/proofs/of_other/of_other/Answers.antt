use Rattle.std.proofs.Common.{rules, subst}
use Rattle.asp_model.specs.declared.outcome.Counts.{Counts}
use Rattle.asp_model.specs.declared.outcome.Lists.{Lists}
use Rattle.asp_explain.specs.Given.{IsLoaded, IsReportIn}
use Rattle.asp_explain.specs.Refusals.{refusal_of}
use Rattle.asp_explain.specs.Seen.{outside_between}
use Rattle.asp_explain.proofs.EventLemmas.{stops_other, stops_second, tells_other}
use Rattle.asp_explain.proofs.of_other.of_other.Goals as goal

pub returns-in-Ok-clause-answer : goal.returns-in-Ok-clause-answer
returns-in-Ok-clause-answer g c =
    let told = g.S.Source.told in
    let first = c.args.source.now in
    let middle = c.load.new.source in
    let last = c.lists_of.new.source in
    let file = c.args.file.now in
    let report = c.args.report.now in
    let other = c.args.other.now in
    let log : Lists × Counts = (c.in-Ok.others, c.in-Ok.other_counts) in
    let given = subst (IsLoaded (outside_between told first middle) file report) c.in-Given.is c.in_ok-answer.ensures.loaded in
    let shown : IsReportIn (outside_between told middle last) other log = search rules in
    tells_other told first middle last file report other c.in-Given.given given log c.told-told.result shown c.told-told.ensures.told

pub returns-in-Ok-clause-stop : goal.returns-in-Ok-clause-stop
returns-in-Ok-clause-stop g c =
    let told = g.S.Source.told in
    let first = c.args.source.now in
    let middle = c.load.new.source in
    let last = c.lists_of.new.source in
    let file = c.args.file.now in
    let report = c.args.report.now in
    let other = c.args.other.now in
    let log : Lists × Counts = (c.in-Ok.others, c.in-Ok.other_counts) in
    let given = subst (IsLoaded (outside_between told first middle) file report) c.in-Given.is c.in_ok-answer.ensures.loaded in
    let shown : IsReportIn (outside_between told middle last) other log = search rules in
    stops_other told first middle last file report other c.in-Given.given given c.args.picture log c.told-told.result shown c.told-told.ensures.stop

pub returns-in-Err-clause-stop : goal.returns-in-Err-clause-stop
returns-in-Err-clause-stop g c =
    let told = g.S.Source.told in
    let first = c.args.source.now in
    let middle = c.load.new.source in
    let last = c.lists_of.new.source in
    let file = c.args.file.now in
    let report = c.args.report.now in
    let other = c.args.other.now in
    let given = subst (IsLoaded (outside_between told first middle) file report) c.in-Given.is c.in_ok-answer.ensures.loaded in
    stops_second told first middle last file report other c.in-Given.given given c.args.picture (refusal_of c.in-Err.stop) c.in_ok-answer.ensures.later c.in-Err.ensures.stop
