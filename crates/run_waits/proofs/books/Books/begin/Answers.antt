use Rattle.std.proofs.Common.{◌≡◌, ◌∙◌, Some, ap, cond}
use Rattle.std.specs.BTreeMap.{get, is_at}
use Rattle.asp_model.specs.Names.{Name, name_cmp}
use Rattle.run_waits.specs.Books.{blank, book_by, book_of}
use Rattle.run_waits.proofs.BookLemmas.{begun}
use Rattle.run_waits.proofs.books.Books.begin.Goals as goal

pub returns : goal.returns
returns c = λ x h.
    let m = c.args.name.now in
    let old = c.args.self.now.books in
    let book = c.tell.new.self in
    let same : c.in_ok-name.name ≡ m = c.in_ok-name.ensures.name in
    let is : book_of book ≡ book_by x blank = c.in_ok-tell.ensures x h ∙ ap (book_by x) c.new-book.ensures.blank in
    begun m x old c.insert.new.self book c.requires.unknown is
    (λ n. c.in_ok-insert.ensures.updates.0 n ∙ ap (λ (k : Name). cond (is_at (name_cmp k) n) (Some book) (get name_cmp old n)) same)
