use Rattle.std.proofs.Common.{◌≡◌, ◌∙◌, ◌<◌, Some, ap, arith, get_or, length, slice_get}
use Rattle.std.proofs.lemmas.Option.{slice_get-get_or}
use Rattle.future_update.specs.Holders.{is_met}
use Rattle.core_thaws.proofs.SeatLemmas.{Entry}
use Rattle.core_thaws.proofs.ToldLemmas.{unmet_next}
use Rattle.core_thaws.proofs.edges.meet_all.Goals as goal

pub met-requires : goal.met-requires
met-requires g c =
    let es = c.args.activities.now in
    let i = c.loop-place.place in
    let e : Entry = get_or es i c.index-activities-place.result in
    let lt : i < length es = omega arith in
    let here : slice_get es i ≡ Some e = slice_get-get_or es i c.index-activities-place.result lt in
    record { new = ap (is_met e.0) c.loop-place.invariant.0 ∙ unmet_next es i e c.requires.apart here }
