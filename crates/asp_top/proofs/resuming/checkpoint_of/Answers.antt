use Rattle.std.proofs.Common.{◌≤◌, rules, length, refl}
use Rattle.asp_model.specs.declared.limits.TheConstants.{MOST_CHECKPOINT_BYTES}
use Rattle.asp_top.specs.Seen.{outside_between}
use Rattle.asp_top.proofs.AskLemmas.{first_file, first_fails, first_long}
use Rattle.asp_top.proofs.resuming.checkpoint_of.Goals as goal

pub returns-in-Ok-clause-file : goal.returns-in-Ok-clause-file
returns-in-Ok-clause-file g c =
    let o = outside_between g.S.Source.told c.args.source.now c.read.new.self in
    let bytes = c.in-Ok.bytes.items in
    let short : length bytes ≤ MOST_CHECKPOINT_BYTES = search rules in
    first_file o c.args.name.now MOST_CHECKPOINT_BYTES bytes c.in-Ok.ensures.asked c.in-Ok.ensures.bytes short

pub returns-in-Err-Failed-clause-stop : goal.returns-in-Err-Failed-clause-stop
returns-in-Err-Failed-clause-stop g c =
    let o = outside_between g.S.Source.told c.args.source.now c.read.new.self in
    (refl, first_fails o c.args.name.now c.in-Err-Failed.field-0 c.in-Err-Failed.field-0-is c.in-Err-Failed.ensures.asked c.in-Err-Failed.ensures.cause)

pub returns-in-Err-TooLong-clause-stop : goal.returns-in-Err-TooLong-clause-stop
returns-in-Err-TooLong-clause-stop g c =
    let o = outside_between g.S.Source.told c.args.source.now c.read.new.self in
    first_long o c.args.name.now MOST_CHECKPOINT_BYTES c.in-Err-TooLong.field-0 _ c.in-Err-TooLong.field-0-is c.in-Err-TooLong.ensures.asked c.in-Err-TooLong.ensures.long
