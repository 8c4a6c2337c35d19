use Rattle.std.proofs.Common.{◌∙◌, sym, ap, arith}
use Rattle.run_ends.specs.Reads.{seen_value}
use Rattle.run_ends.proofs.EnterLemmas.{enters_numbered, enters_within, enters_values, enters_home}
use Rattle.run_ends.proofs.entered.Entered.home.Goals as goal

pub returns-in_ok-number-in-Some-clause-numbered : goal.returns-in_ok-number-in-Some-clause-numbered
returns-in_ok-number-in-Some-clause-numbered c =
    enters_numbered c.args.spot c.in-Some.value c.args.self.now c.number.new.self c.in_ok-number-in-Some.field-0 c.in_ok-number-in-Some.ensures.enters c.requires.numbered c.requires.spot

pub returns-in_ok-number-in-Some-clause-within : goal.returns-in_ok-number-in-Some-clause-within
returns-in_ok-number-in-Some-clause-within c =
    omega (arith, enters_within c.args.spot c.in-Some.value c.args.self.now c.number.new.self c.in_ok-number-in-Some.field-0 c.in_ok-number-in-Some.ensures.enters)

pub returns-in_ok-number-in-Some-clause-home : goal.returns-in_ok-number-in-Some-clause-home
returns-in_ok-number-in-Some-clause-home c = λ a values value.
    let there = ap seen_value (sym c.in-Some.is) ∙ value in
    let old = c.args.self.now in
    let new = c.number.new.self in
    let number = c.in_ok-number-in-Some.field-0 in
    let enters = c.in_ok-number-in-Some.ensures.enters in
    (enters_values c.args.spot c.in-Some.value old new number enters a c.requires.numbered c.requires.spot values there, enters_home c.args.spot c.in-Some.value old new number enters a c.requires.numbered c.requires.spot values there)
