use Rattle.std.proofs.Common.{refl}
use Rattle.asp_explain.specs.Refusals.{refusal_of}
use Rattle.explain_writing.specs.Writing.{sight_between}
use Rattle.asp_explain.specs.Seen.{Call, bytes_of, outside_between}
use Rattle.asp_explain.proofs.EndsLemmas.{ends_stopped, ends_written}
use Rattle.asp_explain.proofs.top.run_explain.Goals as goal

pub returns-in-Ok : goal.returns-in-Ok
returns-in-Ok g c =
    let call : Call = record {
      words = bytes_of c.args.words.now;
      outside = outside_between g.S.Source.told c.args.source.now c.answer_of.new.source;
      out = sight_between g.O.Sink.told c.args.out.now c.write_answer.new.out;
      err = sight_between g.E.Sink.told c.args.err.now c.write_answer.new.err;
    } in
    record { ends = ends_written call c.write_answer.result c.in-Ok.answer.text.items c.in-Ok.answer.status c.in-Ok.ensures.answer c.write_answer.ensures }

pub returns-in-Err : goal.returns-in-Err
returns-in-Err g c =
    let call : Call = record {
      words = bytes_of c.args.words.now;
      outside = outside_between g.S.Source.told c.args.source.now c.answer_of.new.source;
      out = sight_between g.O.Sink.told c.args.out.now c.args.out.now;
      err = sight_between g.E.Sink.told c.args.err.now c.refuse.new.err;
    } in
    record { ends = ends_stopped call c.refuse.result (refusal_of c.in-Err.stop) c.in-Err.ensures.stop refl c.refuse.ensures }
