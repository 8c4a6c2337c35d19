use Rattle.std.proofs.Common.{◌≡◌, ◌<◌, ◌≤◌, ◌+◌, ◌∙◌, List, length, sym, ap, subst, arith}
use Rattle.class_search.specs.declared.ends.Sending.{Sending}
use Rattle.end_search.proofs.GrownLemmas.{not_both}
use Rattle.replay_population.specs.declared.population.Population.{Population}
use Rattle.replay_classes.specs.Classes.{class_in}
use Rattle.replay_classes.specs.Probes.{IsProbed}
use Rattle.replay_classes.proofs.ProbeLemmas.{can_send, number_on, probe_here, probe_not, probe_sends, probed_all, probed_more, probed_none, probed_not}
use Rattle.replay_classes.proofs.probes.probe.Goals as goal
use Rattle.replay_classes.proofs.probes.probe.Goals.{then-is_sender+in_ok-send+in_ok-push, else-is_sender}

pub send-requires : goal.send-requires
send-requires c =
    let r = c.requires.all in
    let old : Population = c.args.population.now in
    let within : c.loop-number.number < length old.roster = omega (arith, c.loop-number-test.true, c.len-number-end.ensures.len) in
    let h = c.loop-number.invariant r.0 r.1 r.2 r.3 in
    let x = probe_here old r.0 r.1 c.loop-number.number c.args.sends.now r.2 r.3 within (c.is_sender.ensures.sender.0 c.if-is_sender.true) in
    record { sends = can_send (class_in c.args.classes.now) old r.0 r.1 c.loop-number.number c.loop-number.population c.loop-number.nexts.items x.0 x.2.0 h x.1 x.2.1 x.2.2 }

pub loop-number-preserved : goal.loop-number-preserved
loop-number-preserved c = λ program f reached all.
    let K = class_in c.args.classes.now in
    let old : Population = c.args.population.now in
    let k = c.loop-number.number in
    let p : Population = c.loop-number.population in
    let ss : List Sending = c.loop-number.nexts.items in
    let within : k < length old.roster = omega (arith, c.loop-number-test.true, c.len-number-end.ensures.len) in
    let h = c.loop-number.invariant program f reached all in
    elim c.if-is_sender.branch [
      | then-is_sender+in_ok-send+in_ok-push w ↦
          let x = probe_here old program f k c.args.sends.now reached all within (c.is_sender.ensures.sender.0 w.if-is_sender.true) in
          let n = x.0 in
          let e = x.2.0 in
          let has = number_on K old program f p h.at n k h.reached h.leads x.1 in
          let acts = h.left n k e x.1 (omega arith) x.2.1 in
          subst (λ q. IsProbed K old program f (k + 1) q c.if-is_sender.nexts.items) (sym w.population-is)
          (subst (λ ts. IsProbed K old program f (k + 1) w.send.new.population ts) (sym (ap (λ v. v.items) w.nexts-is ∙ w.in_ok-push.ensures.items))
          (probed_more K old program f k p w.send.new.population ss w.in_ok-send.field-0 n e h (λ m g does. probe_sends old f c.args.sends.now all p program reached m g does) x.1 x.2.1 x.2.2
          (w.in_ok-send.ensures.sent program h.at e n h.reached has acts) (w.in_ok-send.ensures.reached program h.at e n h.reached has acts) w.in_ok-send.ensures.leads))
      | else-is_sender w ↦
          subst (λ q. IsProbed K old program f (k + 1) q c.if-is_sender.nexts.items) (sym w.population-is)
          (subst (λ ts. IsProbed K old program f (k + 1) p ts) (sym (ap (λ v. v.items) w.nexts-is))
          (probed_not K old program f k p ss h (probe_not old f k c.args.sends.now all (λ told. not_both c.is_sender.result (c.is_sender.ensures.sender.1 told) w.if-is_sender.false))))
    ]

pub returns : goal.returns
returns c = record {
  nexts = λ program f reached all.
      let past : length c.args.population.now.roster ≤ c.loop-number.number = omega (arith, c.loop-number-test.false, c.len-number-end.ensures.len) in
      probed_all (class_in c.args.classes.now) c.args.population.now c.loop-number.population program f c.loop-number.number c.loop-number.nexts.items reached past (c.loop-number.invariant program f reached all);
}
