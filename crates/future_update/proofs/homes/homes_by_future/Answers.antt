use Rattle.std.proofs.Common.{◌≡◌, ◌-◌, ℕ, map, drop, subst, arith}
use Rattle.std.proofs.lemmas.List.{length-map}
use Rattle.asp_model.specs.Shapes.{future_shape}
use Rattle.future_update.specs.Holders.{AreHomes, home_shape}
use Rattle.future_update.specs.Numbered.{home_entry}
use Rattle.future_update.specs.Records.{names_of, shape_of}
use Rattle.future_update.proofs.HomeLemmas.{no_homes, one_home}
use Rattle.future_update.proofs.homes.homes_by_future.Goals as goal

pub loop-number-init : goal.loop-number-init
loop-number-init c =
    let r = c.args.records.now in
    no_homes (shape_of r).homes c.new-homes.result.entries c.len-number.result (omega (arith, c.len-number.ensures.len, length-map r.homes.entries (home_entry (names_of r)))) c.new-homes.ensures.empty

pub loop-number-preserved : goal.loop-number-preserved
loop-number-preserved c =
    let n : ℕ = c.loop-number.number - 1 in
    let f = c.in_ok-future.future in
    one_home (shape_of c.args.records.now).homes (map home_shape c.loop-number.homes.entries) (map home_shape c.put_home.new.homes.entries) n c.loop-number.number (future_shape f) c.in_ok-future.home
    (omega (arith, c.loop-number-test.true)) c.in_ok-future.ensures.home c.in_ok-put_home.ensures.put c.loop-number.invariant

pub returns : goal.returns
returns c =
    let homes = (shape_of c.args.records.now).homes in
    let first : c.loop-number.number ≡ 0 = omega (arith, c.loop-number-test.false) in
    record { homes = subst (λ n. AreHomes (drop n homes) (map home_shape c.loop-number.homes.entries)) first c.loop-number.invariant }
