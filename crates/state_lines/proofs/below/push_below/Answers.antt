use Rattle.std.proofs.Common.{◌∙◌, List, Option, OnOk, map, sym, ap, subst}
use Rattle.code_table.specs.declared.class.Class.{Class}
use Rattle.code_table.specs.Tables.{text_of}
use Rattle.code_table.specs.Shapes.{class_object}
use Rattle.def_paths.specs.Places.{Place}
use Rattle.def_paths.specs.StateLines.{Path}
use Rattle.state_lines.specs.declared.seen.Seen.{Seen}
use Rattle.state_lines.specs.Below.{Pushes, cell_below, fields_below, members_below, place_in}
use Rattle.state_lines.specs.Sights.{seen_shape}
use Rattle.state_lines.proofs.BelowLemmas.{fields_are, members_are}
use Rattle.code_table.specs.Places.{placed}
use Rattle.state_lines.proofs.below.push_below.Goals as goal

pub returns-in_ok-places-in-Some-clause-pending : goal.returns-in_ok-places-in-Some-clause-pending
returns-in_ok-places-in-Some-clause-pending c =
    let parent = c.args.parent in
    let path = parent.path.now in
    let at = place_in parent in
    let code = c.in-Object.code.now in
    let class = c.in-Some.class.now in
    let places = (placed c.in-Object.object.places) in
    subst (λ (below : List (Path × Place)). OnOk c.push_fields.result (Pushes parent c.args.due.now.items c.push_fields.new.due.items below))
    ((λ i. fields_below path at (map text_of (c.deref.ensures.value i)) ((c.deref-in-Some.ensures.value ∙ c.in_ok-places-in-Some.ensures.places) i))
    ∙ fields_are path at code class places
    ∙ ap (λ (k : Option Class). cell_below path at (class_object code places k)) c.in-Some.ensures.class
    ∙ sym (ap (λ (s : Seen). cell_below path at (seen_shape s)) c.in-Object.is))
    c.push_fields.ensures.pending

pub returns-in_ok-listed-in-Group-clause-pending : goal.returns-in_ok-listed-in-Group-clause-pending
returns-in_ok-listed-in-Group-clause-pending c =
    let parent = c.args.parent in
    let path = parent.path.now in
    let at = place_in parent in
    subst (λ (below : List (Path × Place)). OnOk c.push_members.result (Pushes parent c.args.due.now.items c.push_members.new.due.items below))
    (ap (members_below path at 0) (c.deref-in-Group.ensures.value ∙ c.in_ok-listed-in-Group.ensures.places)
    ∙ members_are path at (placed c.in-Group.members) ∙ sym (ap (λ (s : Seen). cell_below path at (seen_shape s)) c.in-Group.is))
    c.push_members.ensures.pending
