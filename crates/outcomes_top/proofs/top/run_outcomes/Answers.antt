use Rattle.std.proofs.Common.{refl}
use Rattle.asp_top.specs.Seen.{Call, bytes_of, outside_between, sight_between}
use Rattle.outcomes_top.specs.Endings.{Ends}
use Rattle.outcomes_top.proofs.EndsLemmas.{ends_complete, ends_halted, ends_written}
use Rattle.outcomes_top.proofs.top.run_outcomes.Goals as goal

pub returns-in-Ok : goal.returns-in-Ok
returns-in-Ok g c =
    let call : Call = record {
      words = bytes_of c.args.words.now;
      outside = outside_between g.S.Source.told c.args.source.now c.answer_of.new.source;
      out = sight_between g.O.Sink.told c.args.out.now c.write_prepared.new.out;
      err = sight_between g.E.Sink.told c.args.err.now c.write_prepared.new.err;
    } in
    let ends : Ends call c.write_prepared.result = ends_written call c.write_prepared.result c.in-Ok.prepared c.in-Ok.ensures.answer c.write_prepared.ensures in
    record { ends = ends; reads = c.in-Ok.ensures.reads; complete = ends_complete call c.write_prepared.result ends }

pub returns-in-Err : goal.returns-in-Err
returns-in-Err g c =
    let call : Call = record {
      words = bytes_of c.args.words.now;
      outside = outside_between g.S.Source.told c.args.source.now c.answer_of.new.source;
      out = sight_between g.O.Sink.told c.args.out.now c.args.out.now;
      err = sight_between g.E.Sink.told c.args.err.now c.halt.new.err;
    } in
    let ends : Ends call c.halt.result = ends_halted call c.halt.result c.in-Err.stop c.in-Err.ensures.halt refl c.halt.ensures in
    record { ends = ends; reads = c.in-Err.ensures.reads; complete = ends_complete call c.halt.result ends }
