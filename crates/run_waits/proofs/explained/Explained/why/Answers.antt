use Rattle.std.proofs.Common.{◌≡◌, List, ap, subst, sym, ◌∙◌}
use Rattle.std.specs.List.{slice_get}
use Rattle.asp_model.specs.declared.outcome.ActivityReport.{ActivityReport}
use Rattle.law_chases.proofs.FutureLemmas.{no_some, some_is}
use Rattle.wait_circles.specs.declared.ways.End.{End}
use Rattle.wait_circles.specs.Ways.{IsEnd}
use Rattle.run_waits.proofs.EndLemmas.{IsWhyFor, end_is}
use Rattle.run_waits.proofs.OnceLemmas.{names_once}
use Rattle.run_waits.proofs.explained.Explained.why.Goals as goal

pub returns-in-None : goal.returns-in-None
returns-in-None c d n x stuck at =
    let e = end_is d c.args.self.now c.args.number n x at in
    no_some (c.in-None.ensures ∙ ap (λ (es : List End). slice_get es c.args.number) c.deref.ensures.value ∙ e.1)

pub returns-in-Some : goal.returns-in-Some
returns-in-Some c d n x stuck at =
    let self = c.args.self.now in
    let rs = self.end.outcome.activities.items in
    let w = subst (λ (xs : List ActivityReport). IsWhyFor xs c.in-Some.end c.why_of.result) c.deref-in-Some.ensures.value c.why_of.ensures in
    let e = end_is d self c.args.number n x at in
    let same : e.0 ≡ c.in-Some.end = some_is (sym e.1 ∙ sym (ap (λ (es : List End). slice_get es c.args.number) c.deref.ensures.value) ∙ sym c.in-Some.ensures) in
    w d self.next.items self.ways.circles.items c.args.number n x.told.sound stuck x.told.activities (names_once d rs x.told.activities x.told.sound.ordered.activities) x.waits x.circles at (subst (IsEnd self.next.items self.ways.circles.items c.args.number) same e.2)
