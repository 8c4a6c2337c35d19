use Rattle.std.specs.List.{refill}
use Rattle.std.proofs.Common.{◌≡◌, ◌∙◌, ◌+◌, ◌<◌, ◌++◌, List, ℕ, true, false, not, length, reverse, sym, ap, subst}
use Rattle.asp_model.specs.Parcel.{has_place, visit_order}
use Rattle.asp_model.specs.Store.{Store, reached, cell}
use Rattle.law_steps.specs.Closed.{AreBelow}
use Rattle.code_table.specs.Cells.{CodedCell}
use Rattle.code_table.specs.Shapes.{cell_of, store_of}
use Rattle.code_table.proofs.CodedLemmas.{cell-store_of, length-store_of}
use Rattle.deep_copy.proofs.VisitLemmas.{Going, begins, falls, keeps_new, keeps_old, left, new_false, old_true, written_over}
use Rattle.deep_copy.proofs.visiting.visit_few.Goals as goal

pub loop-place-init : goal.loop-place-init
loop-place-init c =
    let cs = c.args.store.now.cells in
    let s : Store = store_of c.args.code.now cs in
    let whole = c.in_ok-stack.stack.items in
    let turned = c.reverse.new.self in
    let long : length turned ≡ length whole = c.reverse.ensures.len ∙ ap length c.deref_mut.ensures.value in
    let stack : turned ≡ reverse c.args.roots.now = c.reverse.ensures.after ∙ ap reverse (c.deref_mut.ensures.value ∙ c.in_ok-stack.ensures.ok) in
    let within = subst (λ n. AreBelow n c.args.roots.now) (sym (length-store_of c.args.code.now cs)) c.requires.within in
    begins s c.args.roots.now (refill (length whole) whole turned) c.new-seen.result.items (written_over whole turned long ∙ stack) c.new-seen.ensures.items c.requires.closed within

pub loop-place-preserved : goal.loop-place-preserved
loop-place-preserved c =
    let s : Store = store_of c.args.code.now c.args.store.now.cells in
    let p = c.in-Some.place in
    let seen = c.loop-place.seen.items in
    let out = visit_order s c.args.roots.now in
    let told : c.is_new.result ≡ not (has_place p seen) = c.is_new.ensures ∙ ap (λ (xs : List ℕ). not (has_place p xs)) c.deref.ensures in
    let there : has_place p seen ≡ true = old_true (has_place p seen) c.is_new.result told c.if-is_new.false in
    keeps_old s c.loop-place.stack.items c.pop.new.self.items seen out p c.in-Some.ensures.items c.loop-place.invariant there

pub loop-place-preserved-in-Continue-branch-3 : goal.loop-place-preserved-in-Continue-branch-3
loop-place-preserved-in-Continue-branch-3 c =
    let code = c.args.code.now in
    let cs = c.args.store.now.cells in
    let s : Store = store_of code cs in
    let p = c.in-Some.place in
    let seen = c.loop-place.seen.items in
    let mid = c.push_reached.new.stack.items in
    let out = visit_order s c.args.roots.now in
    let told : c.is_new.result ≡ not (has_place p seen) = c.is_new.ensures ∙ ap (λ (xs : List ℕ). not (has_place p xs)) c.deref.ensures in
    let absent : has_place p seen ≡ false = new_false (has_place p seen) c.is_new.result told c.if-is_new.true in
    let here = ap (λ (d : CodedCell). cell_of code d) c.cell.ensures.cell ∙ sym (cell-store_of code cs p) in
    let pushed : mid ≡ c.pop.new.self.items ++ reverse (reached (cell s p)) = c.in_ok-push_reached.ensures ∙ ap (λ d. c.pop.new.self.items ++ reverse (reached d)) here in
    subst (λ (ks : List ℕ). Going s mid ks out) (sym c.in_ok-push.ensures.ok) (keeps_new s c.loop-place.stack.items c.pop.new.self.items seen out p c.in-Some.ensures.items c.loop-place.invariant mid c.requires.closed pushed absent)

pub loop-place-smaller-in-Continue-branch-3 : goal.loop-place-smaller-in-Continue-branch-3
loop-place-smaller-in-Continue-branch-3 c =
    let code = c.args.code.now in
    let cs = c.args.store.now.cells in
    let s : Store = store_of code cs in
    let p = c.in-Some.place in
    let seen = c.loop-place.seen.items in
    let mid = c.push_reached.new.stack.items in
    let out = visit_order s c.args.roots.now in
    let told : c.is_new.result ≡ not (has_place p seen) = c.is_new.ensures ∙ ap (λ (xs : List ℕ). not (has_place p xs)) c.deref.ensures in
    let absent : has_place p seen ≡ false = new_false (has_place p seen) c.is_new.result told c.if-is_new.true in
    let here = ap (λ (d : CodedCell). cell_of code d) c.cell.ensures.cell ∙ sym (cell-store_of code cs p) in
    let pushed : mid ≡ c.pop.new.self.items ++ reverse (reached (cell s p)) = c.in_ok-push_reached.ensures ∙ ap (λ d. c.pop.new.self.items ++ reverse (reached d)) here in
    subst (λ (ks : List ℕ). length mid + left s (length s) ks < length c.loop-place.stack.items + left s (length s) seen) (sym c.in_ok-push.ensures.ok)
    (falls s c.loop-place.stack.items c.pop.new.self.items seen out p c.in-Some.ensures.items c.loop-place.invariant mid pushed absent)
