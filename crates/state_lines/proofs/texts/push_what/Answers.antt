use Rattle.std.proofs.Common.{List, ℕ, ◌∙◌, OnOk, sym, ap, subst}
use Rattle.asp_model.specs.Names.{FutureShape}
use Rattle.asp_model.specs.Chase.{chase}
use Rattle.future_table.specs.Values.{values_of}
use Rattle.def_paths.specs.Places.{name_by}
use Rattle.def_paths.specs.StateLines.{what_text}
use Rattle.code_table.specs.Classes.{class_at}
use Rattle.state_lines.specs.declared.seen.Seen.{Seen}
use Rattle.state_lines.specs.Sights.{seen_shape}
use Rattle.state_lines.specs.Texts.{AddsText, shown_by}
use Rattle.state_lines.proofs.TextLemmas.{object_told}
use Rattle.code_table.specs.Places.{placed}
use Rattle.state_lines.proofs.texts.push_what.Goals as goal

pub returns-in-Object : goal.returns-in-Object
returns-in-Object c =
    let values = values_of c.args.futures.now in
    let o = c.in-Object.object in
    let code = c.in-Object.code.now in
    subst (λ (x : List ℕ). OnOk c.push_object.result (AddsText c.args.text.now c.push_object.new.text x))
    (object_told (λ (f : FutureShape). name_by (chase values f)) code (placed o.places) (class_at code o.class)
    ∙ sym (ap (λ (s : Seen). what_text (shown_by values (seen_shape s))) c.in-Object.is))
    c.push_object.ensures
