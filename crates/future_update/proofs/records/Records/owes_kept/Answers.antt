use Rattle.std.proofs.Common.{◌<◌, Some, length, ap, arith, sym, ◌∙◌}
use Rattle.std.proofs.lemmas.Option.{slice_get-get_or}
use Rattle.future_update.proofs.PlaceLemmas.{owed_there}
use Rattle.future_update.proofs.records.Records.owes_kept.Goals as goal

pub returns : goal.returns
returns c =
    let r = c.args.self.now in
    let a = c.index.result.now in
    let lt : c.args.place < length r.answers.items = omega (arith, c.requires.records.answers, c.requires.within) in
    let there = slice_get-get_or r.answers.items c.args.place a lt ∙ ap Some (sym c.index.ensures) in
    record { owed = c.owes_with.ensures.owed ∙ sym (owed_there r c.args.place a c.requires.within there) }
