use Rattle.std.proofs.Common.{List, ap, subst}
use Rattle.asp_model.specs.declared.outcome.ActivityReport.{ActivityReport}
use Rattle.path_equal.specs.Views.{IsNamedAt, IsNowhere, NamesAscend}
use Rattle.path_equal.proofs.ViewLemmas.{ascending, if_none, named_view, none_named, view_there}
use Rattle.path_equal.proofs.views.view.Goals as goal

pub returns-in_err-number-clause-none : goal.returns-in_err-number-clause-none
returns-in_err-number-clause-none c = λ o h up.
    let same = ap (λ s. s.activities) h.outcome in
    let rs = c.args.end.now.outcome.activities.items in
    let q = c.args.name.now in
    if_none c.from_residual.result _ (none_named rs o q same (subst (λ (xs : List ActivityReport). NamesAscend xs → IsNowhere xs q) c.deref.ensures.value c.in_err-number.ensures.none (ascending rs o same up)))

pub returns : goal.returns
returns c =
    let rs = c.args.end.now.outcome.activities.items in
    let q = c.args.name.now in
    let n = c.in_ok-number.number in
    let named = subst (λ (xs : List ActivityReport). IsNamedAt xs q n) c.deref.ensures.value c.in_ok-number.ensures.found in
    record {
      found = λ o h. named_view rs o q n c.state_at.result (ap (λ s. s.activities) h.outcome) named (c.state_at.ensures.state o h);
      none = λ o h up. view_there rs o q n c.state_at.result (ap (λ s. s.activities) h.outcome) named (c.state_at.ensures.state o h);
    }
