use Rattle.std.proofs.Common.{◌≡◌, ◌<◌, ◌+◌, ◌∙◌, Some, ap, arith, map, option_map, rules, subst, suc, sym}
use Rattle.std.specs.List.{slice_get}
use Rattle.std.proofs.lemmas.List.{length-map}
use Rattle.std.proofs.lemmas.Option.{slice_get-map, slice_get_read}
use Rattle.serve_rules.specs.Wanted.{wanted_labels}
use Rattle.run_waits.specs.Books.{request_of}
use Rattle.run_waits.proofs.BookLemmas.{Passed, passed_all, passed_found, passed_more}
use Rattle.run_waits.proofs.book.Book.oldest.Goals as goal

pub loop-at-preserved : goal.loop-at-preserved
loop-at-preserved c =
    let qs = c.args.self.now.pending.items in
    let x = c.index.result.now in
    let within : c.loop-at.at < c.args.self.now.pending.len = search rules in
    let there : slice_get (map request_of qs) c.loop-at.at ≡ Some (request_of x) =
    slice_get-map request_of qs c.loop-at.at ∙ ap (option_map request_of) (slice_get_read qs c.args.self.now.pending.len c.loop-at.at x c.args.self.now.pending.ok.0 within c.index.ensures) in
    let more : suc c.loop-at.at ≡ c.loop-at.at + 1 = omega arith in
    subst (Passed (wanted_labels c.args.wanted) (map request_of qs)) more
    (passed_more (wanted_labels c.args.wanted) (map request_of qs) c.loop-at.at (request_of x) c.loop-at.invariant there (sym c.if-has.ensures.member))

pub returns-then-has-clause-found : goal.returns-then-has-clause-found
returns-then-has-clause-found c =
    let qs = c.args.self.now.pending.items in
    let x = c.index.result.now in
    let within : c.loop-at.at < c.args.self.now.pending.len = search rules in
    let there : slice_get (map request_of qs) c.loop-at.at ≡ Some (request_of x) =
    slice_get-map request_of qs c.loop-at.at ∙ ap (option_map request_of) (slice_get_read qs c.args.self.now.pending.len c.loop-at.at x c.args.self.now.pending.ok.0 within c.index.ensures) in
    passed_found (wanted_labels c.args.wanted) (map request_of qs) c.loop-at.at (request_of x) c.loop-at.invariant there (sym c.if-has.ensures.member)

pub returns-clause-none : goal.returns-clause-none
returns-clause-none c =
    let self = c.args.self.now in
    passed_all (wanted_labels c.args.wanted) (map request_of self.pending.items) c.loop-at.at c.loop-at.invariant
    (omega (arith, length-map self.pending.items request_of, self.pending.ok.0, c.loop-at-test.false, c.len.ensures))
