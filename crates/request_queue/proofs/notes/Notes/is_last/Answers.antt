use Rattle.std.proofs.Common.{false, sym, ap}
use Rattle.std.specs.BTreeMap.{get}
use Rattle.request_queue.specs.Notes.{label_order}
use Rattle.request_queue.proofs.NoteLemmas.{unchanged, written}
use Rattle.request_queue.proofs.notes.Notes.is_last.Goals as goal

pub returns-in-None-clause-forgotten : goal.returns-in-None-clause-forgotten
returns-in-None-clause-forgotten c = unchanged c.args.label.now c.args.number (get label_order c.args.self.now.numbers) (get label_order c.get_mut.follows.lender-at-none) (sym c.in-None.ensures.value) (λ m. ap (λ n. get label_order n m) c.get_mut.follows.holds-at-none)

pub returns-in-Some-clause-forgotten : goal.returns-in-Some-clause-forgotten
returns-in-Some-clause-forgotten c = written c.args.label.now c.args.number false c.args.self.now.numbers (c.get_mut.follows.lender c.forget.new.self) c.in-Some.numbers.now c.forget.new.self c.in-Some.ensures.value c.forget.ensures.forgotten (c.get_mut.follows.holds c.forget.new.self)
