use Rattle.std.proofs.Common.{sym, ◌∙◌, ap}
use Rattle.std.specs.Option.{option_map}
use Rattle.future_update.specs.Names.{name_of}
use Rattle.future_update.specs.Records.{names_of}
use Rattle.future_update.proofs.NumberLemmas.{home_kept, home_known}
use Rattle.future_update.proofs.records.Records.home.Goals as goal

pub returns-in-Some : goal.returns-in-Some
returns-in-Some c =
    let r = c.args.self.now in
    let kept = home_kept (names_of r) c.requires.records.names c.args.future c.requires.known r.homes.entries c.requires.records.homes in
    let here = sym c.in-Some.ensures.value in
    record { home = (home_known (names_of r) c.args.future r.homes.entries c.in-Some.home.now c.requires.records.homes here, kept ∙ ap (option_map (name_of (names_of r))) here) }

pub returns-in-None : goal.returns-in-None
returns-in-None c =
    let r = c.args.self.now in
    let kept = home_kept (names_of r) c.requires.records.names c.args.future c.requires.known r.homes.entries c.requires.records.homes in
    record { home = kept ∙ ap (option_map (name_of (names_of r))) (sym c.in-None.ensures.value) }
