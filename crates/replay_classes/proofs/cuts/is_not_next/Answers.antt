use Rattle.std.proofs.Common.{◌≡◌, ◌≤◌, ◌∙◌, Some, length, map, sym, ap, arith}
use Rattle.std.proofs.lemmas.List.{length-map}
use Rattle.asp_model.specs.Shapes.{reception_shape}
use Rattle.asp_model.specs.Step.{reception_at}
use Rattle.class_search.specs.Logs.{logs_of}
use Rattle.law_chases.proofs.FutureLemmas.{no_some, some_is}
use Rattle.replay_classes.proofs.CutLemmas.{from_other, gone_not_next, not_true, other_not_next, reception_index, reception_past}
use Rattle.replay_classes.proofs.cuts.is_not_next.Goals as goal

pub returns-then-done-place : goal.returns-then-done-place
returns-then-done-place c = record {
  not = λ t.
      let rows = logs_of c.args.rows.now in
      let s = c.args.next.now in
      let long : length (rows s.to s.class) ≡ length c.log_at-done.result.now = sym (ap length c.log_at-done.ensures.log) ∙ length-map c.log_at-done.result.now reception_shape in
      gone_not_next (logs_of c.args.logs.now) rows c.args.cut.now.to c.args.cut.now.class c.args.place s (sym c.is_to.ensures.to ∙ c.if-is_to.true) (omega (arith, long, c.if-done-place.true));
}

pub returns-then-done-log : goal.returns-then-done-log
returns-then-done-log c = record {
  not = λ t.
      let rows = logs_of c.args.rows.now in
      let lists = logs_of c.args.logs.now in
      let s = c.args.next.now in
      let log = c.log_at-log.result.now in
      let long : length (rows s.to s.class) ≡ length c.log_at-done.result.now = sym (ap length c.log_at-done.ensures.log) ∙ length-map c.log_at-done.result.now reception_shape in
      let past : length log ≤ length (rows s.to s.class) = omega (arith, long, c.if-done-log.true) in
      other_not_next lists rows c.args.cut.now.to c.args.cut.now.class c.args.place s
      (λ h. no_some (sym (ap (λ l. reception_at l (length (rows s.to s.class))) (sym c.log_at-log.ensures.log) ∙ reception_past log (length (rows s.to s.class)) past) ∙ h));
}

pub returns : goal.returns
returns c = record {
  not = λ t.
      let rows = logs_of c.args.rows.now in
      let lists = logs_of c.args.logs.now in
      let s = c.args.next.now in
      let log = c.log_at-log.result.now in
      let j = length c.log_at-done.result.now in
      let x = c.index-log-done.result in
      let long : length (rows s.to s.class) ≡ j = sym (ap length c.log_at-done.ensures.log) ∙ length-map c.log_at-done.result.now reception_shape in
      let there : reception_at (lists s.to s.class) (length (rows s.to s.class)) ≡ Some (reception_shape x) =
      ap (λ l. reception_at l (length (rows s.to s.class))) (sym c.log_at-log.ensures.log) ∙ ap (reception_at (map reception_shape log)) long ∙ reception_index log j x (omega (arith, c.if-done-log.false)) c.index-log-done.is in
      other_not_next lists rows c.args.cut.now.to c.args.cut.now.class c.args.place s
      (λ h. from_other (reception_shape x) s.by (sym c.is_from.ensures.from ∙ not_true c.is_from.result t) (some_is (sym there ∙ h)));
}
