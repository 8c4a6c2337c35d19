use Rattle.std.proofs.Common.{◌≡◌, ◌<◌, ◌∙◌, Some, length, sym, ap, subst, arith}
use Rattle.asp_model.specs.Configuration.{Configuration}
use Rattle.asp_model.specs.Names.{Name}
use Rattle.asp_model.specs.Step.{intent_in, with_effect}
use Rattle.asp_model.specs.Term.{Tree}
use Rattle.def_journals.specs.Journals.{number_of}
use Rattle.replay_population.specs.declared.population.Population.{Population}
use Rattle.replay_population.proofs.EndLemmas.{reached_closed}
use Rattle.replay_population.proofs.GivingLemmas.{reached_hand_on}
use Rattle.replay_parts.proofs.ResultLemmas.{on_ok}
use Rattle.replay_offers.proofs.EntryLemmas.{known_at}
use Rattle.replay_classes.specs.declared.walks.Walk.{Walk}
use Rattle.replay_classes.specs.Classes.{class_in}
use Rattle.replay_classes.specs.Looks.{IsLook}
use Rattle.replay_classes.specs.Walks.{IsWalk, IsWalkTo}
use Rattle.replay_classes.proofs.WalkLemmas.{can_step, look_sends, look_steps, quiet_on, settled}
use Rattle.replay_classes.proofs.walks.try_step.Goals as goal

pub look_at-requires-clause-closed : goal.look_at-requires-clause-closed
look_at-requires-clause-closed c =
    let r = c.requires.walk in
    let w : Walk = c.args.walk.now in
    let K = class_in c.args.classes.now in
    let within : c.args.number < length w.population.roster = omega (arith, c.if-number-len.false, c.len.ensures.len) in
    let known = known_at w.population.roster c.args.number r.2.reached.population.roster within in
    let then = c.in_ok-settle.ensures.same r.1 known.0 r.2.reached.population known.1 in
    (r.1, reached_closed c.settle.new.self r.0 r.1 (settled K r.0 w.population c.settle.new.self w.sendings.items r.1 r.2 then).reached)

pub look_at-requires-clause-known : goal.look_at-requires-clause-known
look_at-requires-clause-known c =
    let w : Walk = c.args.walk.now in
    let within : c.args.number < length w.population.roster = omega (arith, c.if-number-len.false, c.len.ensures.len) in
    let known = known_at w.population.roster c.args.number c.requires.walk.2.reached.population.roster within in
    (known.0, ap (number_of known.0) c.in_ok-settle.ensures.roster ∙ known.1)

pub step-requires : goal.step-requires
step-requires c =
    let r = c.requires.walk in
    let w : Walk = c.args.walk.now in
    let K = class_in c.args.classes.now in
    let within : c.args.number < length w.population.roster = omega (arith, c.if-number-len.false, c.len.ensures.len) in
    let known = known_at w.population.roster c.args.number r.2.reached.population.roster within in
    let then = c.in_ok-settle.ensures.same r.1 known.0 r.2.reached.population known.1 in
    let is = ap (number_of known.0) c.in_ok-settle.ensures.roster ∙ known.1 in
    let x = look_steps known.0 (intent_in r.1 known.0) (subst (IsLook known.0 (intent_in r.1 known.0)) c.in-Steps.is (c.in_ok-look_at.ensures.look r.1 known.0 then is)) in
    record { steps = can_step c.settle.new.self c.args.number r.0 r.1 known.0 x.0 (settled K r.0 w.population c.settle.new.self w.sendings.items r.1 r.2 then).reached is x.1 }

pub send_next-requires-clause-walk : goal.send_next-requires-clause-walk
send_next-requires-clause-walk c =
    let r = c.requires.walk in
    let w : Walk = c.args.walk.now in
    let K = class_in c.args.classes.now in
    let within : c.args.number < length w.population.roster = omega (arith, c.if-number-len.false, c.len.ensures.len) in
    let known = known_at w.population.roster c.args.number r.2.reached.population.roster within in
    (r.0, r.1, settled K r.0 w.population c.settle.new.self w.sendings.items r.1 r.2 (c.in_ok-settle.ensures.same r.1 known.0 r.2.reached.population known.1))

pub send_next-requires-clause-sends : goal.send_next-requires-clause-sends
send_next-requires-clause-sends c =
    let w : Walk = c.args.walk.now in
    let within : c.args.number < length w.population.roster = omega (arith, c.if-number-len.false, c.len.ensures.len) in
    let known = known_at w.population.roster c.args.number c.requires.walk.2.reached.population.roster within in
    let is = ap (number_of known.0) c.in_ok-settle.ensures.roster ∙ known.1 in
    record {
      who = known.0;
      has = is;
      sends = λ program k h. look_sends known.0 _ (intent_in k known.0) (subst (IsLook known.0 (intent_in k known.0)) c.in-Sends.is (c.in_ok-look_at.ensures.look k known.0 h.reached.population is));
    }

pub returns-in_ok-step-in-Steps : goal.returns-in_ok-step-in-Steps
returns-in_ok-step-in-Steps c =
    let w : Walk = c.args.walk.now in
    let K = class_in c.args.classes.now in
    let within : c.args.number < length w.population.roster = omega (arith, c.if-number-len.false, c.len.ensures.len) in
    let known = known_at w.population.roster c.args.number c.requires.walk.2.reached.population.roster within in
    let is = ap (number_of known.0) c.in_ok-settle.ensures.roster ∙ known.1 in
    record {
      goes = λ program k h.
          let then = c.in_ok-settle.ensures.same k known.0 h.reached.population known.1 in
          let g = settled K program w.population c.settle.new.self w.sendings.items k h then in
          let x = look_steps known.0 (intent_in k known.0) (subst (IsLook known.0 (intent_in k known.0)) c.in-Steps.is (c.in_ok-look_at.ensures.look k known.0 then is)) in (
            with_effect known.0 x.0 k,
            quiet_on K program c.settle.new.self c.step.new.self w.sendings.items k known.0 x.0 g x.1
                (c.in_ok-step-in-Steps.ensures.steps k x.0 known.0 then is x.1 (reached_hand_on program k known.0 x.0 g.reached.bare g.reached.reached x.1)) x.2 x.3,
          );
    }

pub returns-in-Sends : goal.returns-in-Sends
returns-in-Sends c =
    let w : Walk = c.args.walk.now in
    let K = class_in c.args.classes.now in
    let within : c.args.number < length w.population.roster = omega (arith, c.if-number-len.false, c.len.ensures.len) in
    let known = known_at w.population.roster c.args.number c.requires.walk.2.reached.population.roster within in
    record { goes = on_ok c.send_next.result _ _ (λ g program k h. g program k (settled K program w.population c.settle.new.self w.sendings.items k h (c.in_ok-settle.ensures.same k known.0 h.reached.population known.1))) c.send_next.ensures.goes }

pub returns-in-Polls : goal.returns-in-Polls
returns-in-Polls c =
    let w : Walk = c.args.walk.now in
    let K = class_in c.args.classes.now in
    let within : c.args.number < length w.population.roster = omega (arith, c.if-number-len.false, c.len.ensures.len) in
    let known = known_at w.population.roster c.args.number c.requires.walk.2.reached.population.roster within in
    record { goes = λ program k h. (k, settled K program w.population c.settle.new.self w.sendings.items k h (c.in_ok-settle.ensures.same k known.0 h.reached.population known.1)) }
