use Rattle.std.proofs.Common.{ℕ, ◌<◌, length, sym, subst}
use Rattle.std.proofs.lemmas.List.Elements.{All-get_or}
use Rattle.code_table.specs.declared.code.Capture.{Capture}
use Rattle.code_laws.specs.Places.{slot}
use Rattle.frozen_code.proofs.objects.push_captured.Goals as goal

pub place_in-requires : goal.place_in-requires
place_in-requires c =
    let n : ℕ = length c.args.places.now in
    let x : Capture = c.capture-item.result in
    record { within = subst (λ (y : Capture). slot y.leaf < n) (sym c.capture-item.is) (All-get_or (λ (y : Capture). slot y.leaf < n) c.args.captured.now c.loop-capture.capture-index x c.loop-capture-test.true c.requires.within) }
