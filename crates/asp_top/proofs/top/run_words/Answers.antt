use Rattle.std.proofs.Common.{refl}
use Rattle.asp_top.specs.Seen.{Call, bytes_of, outside_between, sight_between}
use Rattle.asp_top.specs.Stops.{refusal_of}
use Rattle.asp_top.proofs.EndsLemmas.{ends_stopped, ends_written}
use Rattle.asp_top.proofs.top.run_words.Goals as goal

pub returns-in-Ok-clause-ends : goal.returns-in-Ok-clause-ends
returns-in-Ok-clause-ends g c =
    let call : Call = record {
      words = bytes_of c.args.words.now;
      outside = outside_between g.S.Source.told c.args.source.now c.prepare.new.source;
      out = sight_between g.O.Sink.told c.args.out.now c.write_prepared.new.out;
      err = sight_between g.E.Sink.told c.args.err.now c.write_prepared.new.err;
    } in
    ends_written call c.write_prepared.result c.in-Ok.prepared c.in-Ok.ensures.answer c.write_prepared.ensures

pub returns-in-Err-clause-ends : goal.returns-in-Err-clause-ends
returns-in-Err-clause-ends g c =
    let call : Call = record {
      words = bytes_of c.args.words.now;
      outside = outside_between g.S.Source.told c.args.source.now c.prepare.new.source;
      out = sight_between g.O.Sink.told c.args.out.now c.args.out.now;
      err = sight_between g.E.Sink.told c.args.err.now c.refuse.new.err;
    } in
    ends_stopped call c.refuse.result (refusal_of c.in-Err.stop) c.in-Err.ensures.stop refl c.refuse.ensures
