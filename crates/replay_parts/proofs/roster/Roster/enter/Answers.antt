use Rattle.std.proofs.Common.{◌<◌, ◌-◌, ◌^◌, List, length, subst, arith}
use Rattle.asp_model.specs.Names.{Name}
use Rattle.replay_parts.specs.Roster.{IsEntered}
use Rattle.replay_parts.proofs.RosterLemmas.{entered_so, entered_sound}
use Rattle.replay_parts.proofs.roster.Roster.enter.Goals as goal

pub invariant_of-self-2 : goal.invariant_of-self-2
invariant_of-self-2 c =
    let few : length c.self.inside.names.keys < 2 ^ 32 - 1 = omega (arith, c.if-len-ge-MOST_NAMES.false, c.len.ensures.len) in
    entered_sound c.self.inside.names.keys c.insert_full.new.self.keys c.args.name c.in_ok-number.ensures.keys c.self.invariant few

pub returns-clause-entered : goal.returns-clause-entered
returns-clause-entered c =
    let old = c.self.inside.names.keys in
    let new = c.insert_full.new.self.keys in
    let few : length old < 2 ^ 32 - 1 = omega (arith, c.if-len-ge-MOST_NAMES.false, c.len.ensures.len) in
    let sound = entered_sound old new c.args.name c.in_ok-number.ensures.keys c.self.invariant few in
    let x = c.in_ok-number.ensures.stored in
    subst (λ (ns : List Name). IsEntered c.args.name c.in_ok-number.number ns new) c.self.view_is (entered_so old new c.args.name c.in_ok-number.number c.in_ok-number.ensures.keys sound x.0 x.1 x.2)

pub returns-clause-sound : goal.returns-clause-sound
returns-clause-sound c =
    let few : length c.self.inside.names.keys < 2 ^ 32 - 1 = omega (arith, c.if-len-ge-MOST_NAMES.false, c.len.ensures.len) in
    entered_sound c.self.inside.names.keys c.insert_full.new.self.keys c.args.name c.in_ok-number.ensures.keys c.self.invariant few
