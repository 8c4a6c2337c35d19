use Rattle.std.proofs.Common.{Option, ◌∙◌, sym, ap}
use Rattle.code_table.specs.declared.class.Class.{Class}
use Rattle.code_table.specs.Shapes.{class_object}
use Rattle.def_paths.specs.PathLabels.{To_field}
use Rattle.state_lines.specs.declared.seen.Seen.{Seen}
use Rattle.path_equal.specs.Reading.{child_cell, nth_of}
use Rattle.state_lines.specs.Sights.{seen_shape}
use Rattle.path_equal.proofs.ReadLemmas.{field_cell}
use Rattle.code_table.specs.Places.{placed}
use Rattle.path_equal.proofs.children.field.Goals as goal

pub returns-in-Some : goal.returns-in-Some
returns-in-Some c =
    let code = c.in-Object.code.now in
    let ns = placed c.in-Object.object.places in
    let l = c.args.label.now.text in
    record {
      cell = c.get.ensures.place
          ∙ ap (nth_of ns) c.in-Some.ensures.number
          ∙ field_cell code c.in_ok-class.class.now ns l
          ∙ ap (λ (k : Option Class). child_cell (class_object code ns k) (To_field l)) c.in_ok-class.ensures.class
          ∙ sym (ap (λ (s : Seen). child_cell (seen_shape s) (To_field l)) c.in-Object.is);
    }

pub returns-in-None : goal.returns-in-None
returns-in-None c =
    let code = c.in-Object.code.now in
    let ns = placed c.in-Object.object.places in
    let l = c.args.label.now.text in
    record {
      cell = ap (nth_of ns) c.in-None.ensures.number
          ∙ field_cell code c.in_ok-class.class.now ns l
          ∙ ap (λ (k : Option Class). child_cell (class_object code ns k) (To_field l)) c.in_ok-class.ensures.class
          ∙ sym (ap (λ (s : Seen). child_cell (seen_shape s) (To_field l)) c.in-Object.is);
    }
