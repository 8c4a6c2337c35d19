use Rattle.std.proofs.Common.{OnOk, subst}
use Rattle.std.specs.BTreeMap.{BTreeMap}
use Rattle.std.proofs.lemmas.Result.{on_ok_weaker}
use Rattle.asp_model.specs.Names.{Name}
use Rattle.replay_parts.specs.Listening.{IsEvent}
use Rattle.replay_parts.specs.Notes.{EventShape}
use Rattle.run_waits.specs.declared.book.Book.{Book}
use Rattle.run_waits.specs.Books.{IsNoted}
use Rattle.run_waits.proofs.BookLemmas.{written_book}
use Rattle.run_waits.proofs.books.Books.enter.Goals as goal

pub returns-in-Some : goal.returns-in-Some
returns-in-Some c = λ x h. on_ok_weaker c.tell.result
    (λ told. written_book c.args.name.now x c.args.self.now.books (c.get_mut.follows.lender c.tell.new.self) c.in-Some.book.now c.tell.new.self c.in-Some.ensures.value told (c.get_mut.follows.holds c.tell.new.self))
    (c.tell.ensures x h)

pub returns-in-None : goal.returns-in-None
returns-in-None c =
    subst (λ (m : BTreeMap Name Book). (x : EventShape) → IsEvent c.args.event x → OnOk c.begin.result (IsNoted c.args.name.now x (record c.args.self.now { books = m }) c.begin.new.self)) c.get_mut.follows.holds-at-none c.begin.ensures
