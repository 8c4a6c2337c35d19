use Rattle.std.proofs.Common.{◌∙◌, ◌++◌, ◌∷◌, [], List, map, ap, subst, sym}
use Rattle.asp_model.specs.Configuration.{requests_of}
use Rattle.asp_model.specs.Names.{Text}
use Rattle.asp_model.specs.Report.{text_of}
use Rattle.asp_model.specs.Shapes.{reception_shape}
use Rattle.step_activity.specs.Parts.{ArePartsOf}
use Rattle.checkpoint_runs.specs.Saved.{text_in}
use Rattle.checkpoint_runs.proofs.SavedLemmas.{line_there}
use Rattle.checkpoint_runs.proofs.checkpoints.put_activity.Goals as goal

pub returns : goal.returns
returns c = record {
  adds = λ x h.
      let n = c.args.name.now in
      let rs = requests_of x n in
      let parts = c.in_ok-parts.parts in
      let log = map reception_shape parts.log.items in
      let are = subst (λ code. ArePartsOf parts code h.activity rs) h.coded (c.in_ok-parts.ensures.parts h.activity rs h.stands) in
      let line = c.in_ok-line.ensures.line h.activity rs are in
      let there = line_there x n h.activity log h.there (c.in_ok-parts.ensures.log ∙ h.logged) in
      c.in_ok-put_line.ensures.adds
      ∙ ap (λ (t : Text). text_in c.args.pieces.now.items ++ text_of (t ∷ [])) line
      ∙ ap (λ (ts : List Text). text_in c.args.pieces.now.items ++ text_of ts) (sym there);
}
