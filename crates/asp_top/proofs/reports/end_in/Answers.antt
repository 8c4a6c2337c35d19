use Rattle.asp_model.specs.Shapes.{counts_shape, lists_shape}
use Rattle.asp_top.specs.Seen.{outside_between}
use Rattle.asp_top.specs.Stops.{program_in}
use Rattle.asp_top.specs.declared.stop.Which.TheVariants.{First}
use Rattle.asp_top.proofs.PrepareLemmas.{stops_there}
use Rattle.asp_top.proofs.reports.end_in.Goals as goal

pub returns-in-Ok-clause-end : goal.returns-in-Ok-clause-end
returns-in-Ok-clause-end g c =
    let log = c.in_ok-lists.ensures.log in
    let played = c.in-Ok.ensures in
    record {
      fitting = record { lists = lists_shape c.in_ok-lists.lists; counts = counts_shape c.in_ok-lists.counts; old = log.old; fits = played.fits };
      outcome = played.outcome;
      end = played.end;
    }

pub returns-in-Err-clause-stop : goal.returns-in-Err-clause-stop
returns-in-Err-clause-stop g c =
    let o = outside_between g.S.Source.told c.args.source.now c.lists_of.new.source in
    stops_there o First c.args.name.now (program_in c.args.program.now) (lists_shape c.in_ok-lists.lists) (counts_shape c.in_ok-lists.counts) c.in_ok-lists.ensures.log.old c.in-Err.stop c.of_replay.result
    c.of_replay.ensures c.in-Err.ensures.diverged
