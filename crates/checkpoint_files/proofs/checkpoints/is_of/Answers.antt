use Rattle.std.proofs.Common.{◌∙◌, ◌++◌, ap, sym}
use Rattle.asp_model.specs.Names.{Text, same_text}
use Rattle.checkpoint_files.proofs.FileLemmas.{other_program, same_program}
use Rattle.checkpoint_files.proofs.checkpoints.is_of.Goals as goal

pub returns-in-Some : goal.returns-in-Some
returns-in-Some c =
    let p = c.args.program.now in
    record {
      same = c.is_same.ensures.same
          ∙ same_program c.args.line.now c.as_slice.result.now p c.in-Some.shown.now c.in-Some.ensures.cases.0
          c.in-Some.ensures.cases.1
          ∙ ap (λ (t : Text). same_text c.args.line.now (t ++ p)) c.as_slice.ensures;
    }

pub returns-in-None : goal.returns-in-None
returns-in-None c =
    let p = c.args.program.now in
    record {
      same = sym (other_program c.args.line.now c.as_slice.result.now p c.in-None.ensures.cases)
          ∙ ap (λ (t : Text). same_text c.args.line.now (t ++ p)) c.as_slice.ensures;
    }
