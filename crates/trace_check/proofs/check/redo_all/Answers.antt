use Rattle.std.proofs.Common.{◌≡◌, ◌<◌, ◌≤◌, ◌∙◌, ◌++◌, ◌∷◌, [], ℕ, List, Some, true, false, length, map, slice_get, take, refl, rules, sym, ap, subst, arith}
use Rattle.std.proofs.lemmas.List.{length-map}
use Rattle.std.proofs.lemmas.Option.{slice_get-get_or}
use Rattle.asp_model.specs.History.{EntryShape}
use Rattle.asp_model.specs.Shapes.{entry_shape}
use Rattle.def_journals.specs.Journals.{RunShape, begun, entered}
use Rattle.journal_runs.specs.Runs.{IsRedone, IsRunOf}
use Rattle.trace_check.proofs.CheckLemmas.{got_mapped, redone_more, redone_so, refused_so, take_past}
use Rattle.trace_check.proofs.check.redo_all.Goals as goal

pub redo-requires : goal.redo-requires
redo-requires c =
    let r = c.requires.begun in
    let i = c.loop-number.invariant r.0 r.1 r.2 in
    record { run = (r.0, r.1, take c.loop-number.number (map entry_shape c.args.entries.now), i.0, i.1) }

pub loop-number-init : goal.loop-number-init
loop-number-init c = λ program budget r. (begun program budget, r)

pub loop-number-preserved : goal.loop-number-preserved
loop-number-preserved c = λ program budget r.
    let es : List EntryShape = map entry_shape c.args.entries.now in
    let number = c.loop-number.number in
    let i = c.loop-number.invariant program budget r in
    let e = c.index-entries-number in
    let got : slice_get es number ≡ Some (entry_shape e.result) = got_mapped entry_shape c.args.entries.now number e.result (slice_get-get_or c.args.entries.now number e.result c.loop-number-test.true ∙ ap Some (sym e.is)) in
    let yes : c.in_ok-goes.goes ≡ true = search rules in
    let done = c.in_ok-goes.ensures.redone program budget (take number es) i.0 i.1 in
    let x = c.redo.new.self in
    let next = redone_so x program budget (take number es ++ entry_shape e.result ∷ []) (entered (entry_shape e.result) i.0) (subst (IsRedone x program budget (take number es ++ entry_shape e.result ∷ []) (entered (entry_shape e.result) i.0)) yes done) in
    (next.0, subst (λ (xs : List EntryShape). IsRunOf x program budget xs next.0) (redone_more es number (entry_shape e.result) got) next.1)

pub returns-then-not-goes : goal.returns-then-not-goes
returns-then-not-goes c = record {
  redone = λ program budget r.
      let es : List EntryShape = map entry_shape c.args.entries.now in
      let number = c.loop-number.number in
      let i = c.loop-number.invariant program budget r in
      let e = c.index-entries-number in
      let got : slice_get es number ≡ Some (entry_shape e.result) = got_mapped entry_shape c.args.entries.now number e.result (slice_get-get_or c.args.entries.now number e.result c.loop-number-test.true ∙ ap Some (sym e.is)) in
      let no : c.in_ok-goes.goes ≡ false = search rules in
      let done = c.in_ok-goes.ensures.redone program budget (take number es) i.0 i.1 in
      let x = c.redo.new.self in
      let none = refused_so x program budget (take number es ++ entry_shape e.result ∷ []) (entered (entry_shape e.result) i.0) (subst (IsRedone x program budget (take number es ++ entry_shape e.result ∷ []) (entered (entry_shape e.result) i.0)) no done) in
      (number, refl, record { run = i.0; lawful = i.1.lawful; entry = entry_shape e.result; at = got; refused = none });
}

pub returns : goal.returns
returns c = record {
  redone = λ program budget r.
      let es : List EntryShape = map entry_shape c.args.entries.now in
      let i = c.loop-number.invariant program budget r in
      let all : length es ≤ c.loop-number.number = (let long : length es ≡ length c.args.entries.now = length-map c.args.entries.now entry_shape in omega (arith, long, c.loop-number-test.false)) in
      (i.0, subst (λ (xs : List EntryShape). IsRunOf c.loop-number.run program budget xs i.0) (take_past es c.loop-number.number all) i.1);
}
