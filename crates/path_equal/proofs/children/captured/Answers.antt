use Rattle.std.proofs.Common.{◌≡◌, List, Option, ◌∙◌, length, drop, sym, ap, arith}
use Rattle.code_table.specs.declared.class.Class.{Class}
use Rattle.code_table.specs.declared.code.MethodCode.{MethodCode}
use Rattle.code_table.specs.Shapes.{class_object}
use Rattle.def_paths.specs.PathLabels.{To_captured}
use Rattle.state_lines.specs.declared.seen.Seen.{Seen}
use Rattle.path_equal.specs.Reading.{captured_in, child_cell}
use Rattle.state_lines.specs.Sights.{seen_shape}
use Rattle.path_equal.proofs.ReadLemmas.{captured_cell}
use Rattle.code_table.specs.Places.{placed}
use Rattle.path_equal.proofs.children.captured.Goals as goal

pub returns : goal.returns
returns c =
    let code = c.in-Object.code.now in
    let class = c.in_ok-class.class.now in
    let ns = placed c.in-Object.object.places in
    let l = c.args.method.now.text in
    let n = c.args.nth in
    let count : c.len.result ≡ length class.fields.items = omega (arith, c.len.ensures, class.fields.ok) in
    let held : placed c.behind_fields-held.result ≡ drop (length class.fields.items) ns =
    c.behind_fields-held.ensures ∙ ap (λ n. drop n ns) count in
    record {
      cell = c.captured_in.ensures.cell
          ∙ ap (λ (ms : List MethodCode). captured_in l n ms (placed c.behind_fields-held.result)) c.deref.ensures.value
          ∙ ap (captured_in l n class.methods.items) held
          ∙ captured_cell code class ns l n c.in_ok-class.ensures.sound
          ∙ ap (λ (k : Option Class). child_cell (class_object code ns k) (To_captured l n)) c.in_ok-class.ensures.class
          ∙ sym (ap (λ (s : Seen). child_cell (seen_shape s) (To_captured l n)) c.in-Object.is);
    }
