use Rattle.std.proofs.Common.{◌∙◌, List, sym, ap, subst}
use Rattle.asp_model.specs.Step.{with_effect}
use Rattle.class_search.specs.declared.ends.Sending.{Sending}
use Rattle.replay_parts.proofs.RosterLemmas.{number_within}
use Rattle.replay_classes.specs.Classes.{class_in}
use Rattle.replay_classes.specs.Walks.{IsWalk}
use Rattle.replay_classes.proofs.WalkLemmas.{sent_on}
use Rattle.replay_classes.proofs.walks.send_next.Goals as goal

pub name-requires : goal.name-requires
name-requires c = let r = c.requires.sends in record { within = number_within c.args.walk.now.population.roster r.who c.args.number r.has }

pub send-requires : goal.send-requires
send-requires c =
    let r = c.requires.walk in
    let w = c.requires.sends in
    let x = w.sends r.0 r.1 r.2 in
    record { sends = record { who = w.who; has = w.has; program = r.0; at = r.1; reached = r.2.reached; effect = x.0; acts = x.1; sends = x.2 } }

pub returns : goal.returns
returns c =
    let K = class_in c.args.classes.now in
    let w = c.requires.sends in
    record {
      goes = λ program k h.
          let x = w.sends program k h in
          let reached = c.in_ok-sending.ensures.reached program k x.0 w.who h.reached w.has x.1 in
          let entry = c.in_ok-sending.ensures.sent program k x.0 w.who h.reached w.has x.1 in (
            with_effect w.who x.0 k,
            subst (λ (ss : List Sending). IsWalk K program c.send.new.population ss (with_effect w.who x.0 k)) (sym c.in_ok-push.ensures.items)
                (sent_on K program c.args.walk.now.population c.send.new.population c.args.walk.now.sendings.items k w.who x.0 h x.1 reached.population c.in_ok-sending.sending x.2 entry),
          );
    }
