use Rattle.std.proofs.Common.{arith, sym, map, take}
use Rattle.std.specs.Prelude.{string_bytes}
use Rattle.std.specs.List.{concat}
use Rattle.asp_edge.specs.Told.{SinkTells}
use Rattle.asp_edge.specs.Causes.{Took, TookFront}
use Rattle.asp_top.proofs.SinkLemmas.{took_then, concat_more, fails_in}
use Rattle.asp_top.proofs.StopLemmas.{if_failed}
use Rattle.asp_top.proofs.writing.write_all.Goals as goal

pub loop-piece-preserved : goal.loop-piece-preserved
loop-piece-preserved g c =
    let first : SinkTells = g.O.Sink.told c.args.out.now in
    let middle : SinkTells = g.O.Sink.told c.loop-piece.out in
    let next : SinkTells = g.O.Sink.told c.write.new.self in
    let text = concat (map string_bytes (take c.loop-piece.piece-index c.args.pieces.now)) in
    let last : Took middle next (string_bytes c.piece-item.result) = rw (sym c.as_bytes.ensures.value) c.in_ok-write.ensures.all in
    record {
      told = rw (concat_more string_bytes c.args.pieces.now c.loop-piece.piece-index c.piece-item.result c.loop-piece-test.true c.piece-item.is)
          (took_then first middle next text (string_bytes c.piece-item.result) c.loop-piece.invariant.told last);
      later = omega (arith, c.loop-piece.invariant.later, c.in_ok-write.ensures.later);
    }

pub returns-in_err-write-clause-front : goal.returns-in_err-write-clause-front
returns-in_err-write-clause-front g c =
    let first : SinkTells = g.O.Sink.told c.args.out.now in
    let middle : SinkTells = g.O.Sink.told c.loop-piece.out in
    let next : SinkTells = g.O.Sink.told c.write.new.self in
    let last : TookFront middle next (string_bytes c.piece-item.result) = rw (sym c.as_bytes.ensures.value) c.in_err-write.ensures.front in
    if_failed c.from_residual.result (TookFront first next (concat (map string_bytes c.args.pieces.now)))
    (fails_in string_bytes c.args.pieces.now c.loop-piece.piece-index c.piece-item.result first middle next c.loop-piece-test.true c.piece-item.is c.loop-piece.invariant.told last)
