use Rattle.std.proofs.Common.{◌∙◌, ◌++◌, ◌∷◌, [], List, map, ap}
use Rattle.std.specs.Prelude.{codes, string_bytes}
use Rattle.asp_model.specs.Chase.{Values}
use Rattle.asp_model.specs.Names.{FutureShape, Name, Text}
use Rattle.asp_model.specs.Report.{text_of}
use Rattle.asp_model.specs.Shapes.{future_shape, marked_of}
use Rattle.checkpoint_text.specs.Items.{future_items, list_items, name_items, pair_items, parcel_items}
use Rattle.checkpoint_text.specs.Lines.{line_of}
use Rattle.checkpoint_runs.specs.Saved.{program_text, text_in}
use Rattle.checkpoint_runs.proofs.LineLemmas.{lines_onward}
use Rattle.checkpoint_runs.proofs.checkpoints.put_head.Goals as goal

pub returns : goal.returns
returns c = record {
  adds = λ x h.
      let old = c.args.pieces.now.items in
      let title : List Text = codes "asp checkpoint 1" ∷ [] in
      let program : List Text = (codes "program " ++ program_text (marked_of c.args.program.now.root)) ∷ [] in
      let homes : List Text = string_bytes c.in_ok-homes.homes ∷ [] in
      let values : List Text = string_bytes c.in_ok-values.values ∷ [] in
      let one = c.put_text.new.pieces.items in
      let two = c.put_program.new.pieces.items in
      let three = c.put_line.new.pieces.items in
      let four = c.put_line-2.new.pieces.items in
      let to_program = lines_onward old title program one two c.in_ok-put_text.ensures.adds c.in_ok-put_program.ensures.adds in
      let to_homes = lines_onward old (title ++ program) homes two three to_program c.in_ok-put_line.ensures.adds in
      let to_values = lines_onward old (title ++ program ++ homes) values three four to_homes c.in_ok-put_line-2.ensures.adds in
      let home_line = c.in_ok-homes.ensures.line
      ∙ ap (λ (ys : List (FutureShape × Name)). line_of (codes "homes") (list_items (pair_items future_items name_items) ys))
      (ap (map (λ e. (future_shape e.0, e.1))) c.deref.ensures.value ∙ h.homes) in
      let value_line = c.in_ok-values.ensures.line
      ∙ ap (λ (vs : Values). line_of (codes "filled") (list_items (pair_items future_items parcel_items) vs)) h.futures in
      to_values ∙ (λ i. text_in old ++ text_of (title ++ program ++ (home_line i ∷ []) ++ (value_line i ∷ [])));
}
