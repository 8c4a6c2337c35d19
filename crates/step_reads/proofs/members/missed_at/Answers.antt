use Rattle.std.proofs.Common.{◌≡◌, ◌<◌, ◌≤◌, ℕ, List, None, get_or, length, subst, take, sym, ap, ◌∙◌, arith}
use Rattle.asp_model.specs.Names.{FutureShape}
use Rattle.asp_model.specs.Chase.{Chase, chase}
use Rattle.asp_model.specs.Store.{Store, cell}
use Rattle.asp_model.specs.Shapes.{future_shape}
use Rattle.code_table.specs.Shapes.{store_of}
use Rattle.future_table.specs.Values.{values_of}
use Rattle.step_reads.specs.Sights.{Misses, Shows, first_missed, seen_face, sight}
use Rattle.step_reads.proofs.PassedLemmas.{all_passed, passed_all, passed_on, passed_to}
use Rattle.code_table.specs.Places.{placed}
use Rattle.step_reads.proofs.members.missed_at.Goals as goal

pub returns-in-Awaits : goal.returns-in-Awaits
returns-in-Awaits c =
    let chases : FutureShape → Chase = chase (values_of c.args.futures.now) in
    let s : Store = store_of c.args.code.now c.args.store.now.cells in
    let ns : List ℕ = placed c.args.places.now in
    let i : ℕ = c.loop-at.at in
    let lt : i < length ns = omega (arith, c.len-at-end.ensures) in
    let is : c.at.result ≡ get_or ns i 0 = c.at.ensures.place 0 in
    let here : sight chases (cell s (get_or ns i 0)) ≡ Misses (future_shape c.in-Awaits.future.now) = sym (c.in-Awaits.ensures.sight ∙ ap (sight chases) (c.read.ensures.cell ∙ ap (cell s) is)) in
    record { missed = sym (passed_to chases s ns i (future_shape c.in-Awaits.future.now) lt c.loop-at.invariant here); passed = c.loop-at.invariant }

pub loop-at-preserved : goal.loop-at-preserved
loop-at-preserved c =
    let chases : FutureShape → Chase = chase (values_of c.args.futures.now) in
    let s : Store = store_of c.args.code.now c.args.store.now.cells in
    let ns : List ℕ = placed c.args.places.now in
    let i : ℕ = c.loop-at.at in
    let lt : i < length ns = omega (arith, c.len-at-end.ensures) in
    let is : c.at.result ≡ get_or ns i 0 = c.at.ensures.place 0 in
    let here : sight chases (cell s (get_or ns i 0)) ≡ Shows (seen_face c.in-Reads._seen) = sym (c.in-Reads.ensures.sight ∙ ap (sight chases) (c.read.ensures.cell ∙ ap (cell s) is)) in
    passed_on chases s ns i (seen_face c.in-Reads._seen) lt c.loop-at.invariant here

pub returns : goal.returns
returns c =
    let chases : FutureShape → Chase = chase (values_of c.args.futures.now) in
    let s : Store = store_of c.args.code.now c.args.store.now.cells in
    let ns : List ℕ = placed c.args.places.now in
    let le : length ns ≤ c.loop-at.at = omega (arith, c.len-at-end.ensures) in
    let none : first_missed chases s ns ≡ None = passed_all chases s ns c.loop-at.at le c.loop-at.invariant in
    record { missed = sym none; passed = subst (λ (n : ℕ). first_missed chases s (take n ns) ≡ None) (sym c.len.ensures) (all_passed chases s ns none) }
