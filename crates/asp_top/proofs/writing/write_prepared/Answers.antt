use Rattle.std.proofs.Common.{List, subst}
use Rattle.std.specs.declared.alloc.Global.{Global}
use Rattle.std.specs.declared.string.String.{String}
use Rattle.asp_top.specs.Seen.{TakesSome, sight_between}
use Rattle.asp_top.specs.Ready.{text_in, text_of_all}
use Rattle.asp_top.proofs.EndsLemmas.{failed_told}
use Rattle.asp_top.proofs.writing.write_prepared.Goals as goal

pub returns-in-Err : goal.returns-in-Err
returns-in-Err g c =
    let out = sight_between g.O.Sink.told c.args.out.now c.write_all.new.out in
    let front : TakesSome out (text_in c.args.prepared.now) = subst (λ (l : List (String Global)). TakesSome out (text_of_all l)) c.deref.ensures.value c.in-Err.ensures.front in
    failed_told out (sight_between g.E.Sink.told c.args.err.now c.tell.new.err) c.args.prepared.now c.tell.result (c.in-Err.ensures.cause, front) c.tell.ensures
