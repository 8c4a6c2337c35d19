use Rattle.std.proofs.lemmas.Result.{on_ok_weaker}
use Rattle.run_waits.proofs.BookLemmas.{noted_kept}
use Rattle.run_waits.proofs.kept.KeptNotes.note.Goals as goal

pub returns : goal.returns
returns c = record {
  told = λ xs x tells n. on_ok_weaker c.tell.result
      (λ noted. (c.in_ok-note.ensures.told xs x tells.0 n, noted_kept c.args.self.now.books c.tell.new.self xs x tells.1 noted))
      (c.tell.ensures x n);
}
