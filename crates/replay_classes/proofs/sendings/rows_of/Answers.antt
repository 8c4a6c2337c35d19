use Rattle.std.proofs.Common.{◌∙◌, ◌++◌, List, [], ◌∷◌, take, refl, sym, ap, subst, arith}
use Rattle.class_search.specs.declared.ends.Sending.{Sending}
use Rattle.class_search.specs.declared.logs.ClassLog.{ClassLog}
use Rattle.end_search.proofs.GrownLemmas.{all_more}
use Rattle.replay_classes.specs.Sendings.{has_log, logs_from}
use Rattle.replay_classes.proofs.SendingLemmas.{AreRows, IsRight, rows_more, rows_show, rows_stay, take_last, take_whole}
use Rattle.replay_classes.proofs.sendings.rows_of.Goals as goal
use Rattle.replay_classes.proofs.sendings.rows_of.Goals.{then-not-has_row+in_ok-copy+in_ok-senders_to+in_ok-push, else-not-has_row}

pub loop-sending-preserved : goal.loop-sending-preserved
loop-sending-preserved c =
    let ss : List Sending = c.args.sendings.now in
    let k = c.loop-sending.sending-index in
    let s : Sending = c.sending-item.result in
    let rows : List ClassLog = c.loop-sending.rows.items in
    let next = sym (take_last ss k s c.loop-sending-test.true c.sending-item.is) in
    subst (λ ts. AreRows ss ts c.if-not-has_row.rows.items) next (elim c.if-not-has_row.branch [
      | then-not-has_row+in_ok-copy+in_ok-senders_to+in_ok-push w ↦
          let l : ClassLog = record { to = w.in_ok-copy.field-0; class = s.class; entries = w.in_ok-senders_to.field-0 } in
          let right : IsRight ss l = w.in_ok-senders_to.ensures.senders ∙ ap (λ m. logs_from ss m s.class) (sym w.in_ok-copy.ensures.name) in
          subst (AreRows ss (take k ss ++ s ∷ [])) (sym (ap (λ v. v.items) w.rows-is ∙ w.in_ok-push.ensures.items))
          (rows_more ss (take k ss) s rows l c.loop-sending.invariant w.in_ok-copy.ensures.name refl right (all_more (IsRight ss) rows l c.loop-sending.invariant.right right))
      | else-not-has_row w ↦
          subst (AreRows ss (take k ss ++ s ∷ [])) (sym (ap (λ v. v.items) w.rows-is))
          (rows_stay ss (take k ss) s rows c.loop-sending.invariant
          (ap (λ ls. has_log ls s.to s.class) (sym c.deref.ensures.value) ∙ sym c.has_row.ensures.has ∙ w.if-not-has_row.false))
    ])

pub returns : goal.returns
returns c =
    let ss : List Sending = c.args.sendings.now in
    let rows : List ClassLog = c.loop-sending.rows.items in
    record { logs = λ q κ. rows_show ss rows (subst (λ ts. AreRows ss ts rows) (take_whole ss c.loop-sending.sending-index (λ lt. omega (arith, lt, c.loop-sending-test.false))) c.loop-sending.invariant) q κ }
