use Rattle.std.proofs.Common.{sym, subst}
use Rattle.serve_rules.specs.Wanted.{wanted_labels}
use Rattle.serve_rules.specs.declared.wanted.Wanted.{Wanted}
use Rattle.request_queue.specs.Notes.{IsOldest}
use Rattle.request_queue.proofs.notes.Notes.oldest.Goals as goal

pub returns-in-Labels : goal.returns-in-Labels
returns-in-Labels c = record { oldest = subst (λ (w : Wanted). IsOldest (wanted_labels w) c.args.self.now c.oldest_of.result) (sym c.in-Labels.is) c.oldest_of.ensures.oldest }

pub returns-in-Methods : goal.returns-in-Methods
returns-in-Methods c = record { oldest = subst (λ (w : Wanted). IsOldest (wanted_labels w) c.args.self.now c.oldest_method.result) (sym c.in-Methods.is) c.oldest_method.ensures.oldest }
