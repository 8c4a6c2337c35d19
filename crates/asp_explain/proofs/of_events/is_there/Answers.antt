use Rattle.std.proofs.Common.{◌≡◌, ◌∙◌, Option, ap, map, rules, sym}
use Rattle.asp_model.specs.Names.{Name}
use Rattle.asp_model.specs.ReportLines.{name_of}
use Rattle.asp_model.specs.Shapes.{activity_shape}
use Rattle.asp_explain.specs.OfEvents.{is_named}
use Rattle.asp_explain.proofs.EventLemmas.{any_shapes}
use Rattle.asp_explain.proofs.of_events.is_there.Goals as goal

pub returns-in-Some : goal.returns-in-Some
returns-in-Some c =
    let shapes = map activity_shape c.args.activities.now in
    let same : c.as_bytes.result.now ≡ c.args.text.now = search rules in
    c.is_among.ensures ∙ any_shapes c.in-Some.name c.args.activities.now
    ∙ ap (λ (o : Option Name). is_named o shapes) (sym c.in-Some.is ∙ c.in_ok-name.ensures.name ∙ ap name_of same)
