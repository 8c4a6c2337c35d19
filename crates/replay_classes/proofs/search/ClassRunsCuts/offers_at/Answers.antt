use Rattle.std.proofs.Common.{◌≡◌, ◌∙◌, List, Bool, Some, sym, ap, subst}
use Rattle.std.specs.Prelude.{IfSome}
use Rattle.asp_model.specs.Configuration.{From}
use Rattle.asp_model.specs.Shapes.{tree_of}
use Rattle.end_search.specs.Found.{AreAll}
use Rattle.end_search.proofs.GrownLemmas.{not_both}
use Rattle.law_families.specs.Families.{ComesBehind}
use Rattle.law_classes.specs.Families.{IsInside, cut_logs}
use Rattle.law_classes.specs.Requests.{request_logs}
use Rattle.law_classes.specs.Runs.{with_entry}
use Rattle.class_search.specs.declared.ends.Sending.{Sending}
use Rattle.class_search.specs.declared.logs.ClassLog.{ClassLog}
use Rattle.class_search.specs.Found.{HasLogs, end_in}
use Rattle.class_search.specs.Logs.{logs_of}
use Rattle.replay_classes.specs.Classes.{class_in}
use Rattle.replay_classes.specs.Cuts.{IsNotNext}
use Rattle.replay_classes.specs.Looks.{AreSenders}
use Rattle.replay_classes.specs.Sendings.{IsAmong, logs_from}
use Rattle.replay_classes.proofs.CutLemmas.{cut_offers}
use Rattle.replay_classes.proofs.search.ClassRunsCuts.offers_at.Goals as goal

pub returns-then-not-is_before : goal.returns-then-not-is_before
returns-then-not-is_before g c = record {
  all = λ entry b.
      let cut = c.args.log.now in
      let same = c.log_at.ensures.log ∙ ap (λ (ls : List ClassLog). logs_of ls cut.to cut.class) c.deref.ensures.value in
      absurd (not_both c.is_before.result (c.is_before.ensures.behind entry (subst (λ l. ComesBehind l c.args.place entry) (sym same) b)) c.if-not-is_before.true);
}

pub probe-requires : goal.probe-requires
probe-requires g c =
    let t = tree_of c.args.self.now.program.now.program.root in
    let f = c.in_ok-walk.ensures.walk.0 in
    let w = c.in_ok-walk.ensures.walk.1 in
    let ns = c.in_ok-walk.walk.population.roster in
    record {
      all = (
        t,
        f,
        w.reached,
        subst (λ (bs : List Bool). AreSenders ns f bs) (sym c.deref-5.ensures.value)
            (subst (λ o. IfSome o (λ v. AreSenders ns f v.items)) c.in-Some.is (c.in_ok-sends.ensures.senders t f w.reached)),
      );
    }

pub returns : goal.returns
returns g c =
    let K = class_in c.args.self.now.classes.now in
    let t = tree_of c.args.self.now.program.now.program.root in
    let f = c.in_ok-walk.ensures.walk.0 in
    let w = c.in_ok-walk.ensures.walk.1 in
    let ns = c.in_ok-walk.walk.population.roster in
    let end = c.args.end.now in
    let cut = c.args.log.now in
    let k = c.args.place in
    let ss : List Sending = c.in_ok-walk.walk.sendings.items in
    let nexts : List Sending = c.in_ok-nexts.nexts.items in
    let os = c.in_ok-offers.offers.items in
    let senders = subst (λ (bs : List Bool). AreSenders ns f bs) (sym c.deref-5.ensures.value)
    (subst (λ o. IfSome o (λ v. AreSenders ns f v.items)) c.in-Some.is (c.in_ok-sends.ensures.senders t f w.reached)) in
    let sent : logs_from ss ≡ request_logs K f = λ i q κ. w.logs q κ i in
    let same : logs_of c.in_ok-rows.rows.items ≡ request_logs K f = λ i q κ. (c.in_ok-rows.ensures.logs q κ ∙ ap (λ (ts : List Sending). logs_from ts q κ) c.deref-2.ensures.value ∙ w.logs q κ) i in
    let inside = subst (λ l. IsInside l (cut_logs (logs_of end.logs.items) cut.to cut.class k)) (ap logs_of c.deref-4.ensures.value ∙ same)
    (subst (λ (es : List ClassLog). IsInside (logs_of c.deref-4.result.now) (cut_logs (logs_of es) cut.to cut.class k)) c.deref-3.ensures.value (c.is_inside.ensures.inside c.if-not-is_inside.false)) in
    let none = subst (λ (ts : List Sending). AreAll (IsNotNext (cut_logs (logs_of end.logs.items) cut.to cut.class k) (request_logs K f)) ts) c.deref-8.ensures.value
    (subst (λ l. AreAll (IsNotNext (cut_logs (logs_of end.logs.items) cut.to cut.class k) l) c.deref-8.result.now) (ap logs_of c.deref-7.ensures.value ∙ same)
    (subst (λ (es : List ClassLog). AreAll (IsNotNext (cut_logs (logs_of es) cut.to cut.class k) (logs_of c.deref-7.result.now)) c.deref-8.result.now) c.deref-6.ensures.value (c.none_is_next.ensures.none c.if-not-none_is_next.false))) in
    record {
      all = cut_offers K t (end_in t end) cut.to cut.class k c.in_ok-walk.walk.population ss nexts f os c.requires.end.1 w inside
          (c.in_ok-nexts.ensures.nexts t f w.reached senders) none
          (λ next h. subst (λ l. HasLogs os (with_entry (Some (cut.to, cut.class, From next)) l)) (ap logs_from c.deref-9.ensures.value ∙ sent)
          (c.in_ok-offers.ensures.all next (subst (λ (ts : List Sending). IsAmong ts (Some (cut.to, cut.class, From next))) (sym c.deref-10.ensures.value) h)));
    }
