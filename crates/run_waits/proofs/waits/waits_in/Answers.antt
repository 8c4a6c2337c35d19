use Rattle.std.proofs.Common.{◌≡◌, ◌<◌, ◌+◌, ℕ, List, [], ◌∷◌, Option, Some, arith, length, length-append, refl, subst, sym, ◌∙◌, ap}
use Rattle.std.specs.List.{slice_get}
use Rattle.std.proofs.lemmas.List.{length-map}
use Rattle.std.proofs.lemmas.Option.{slice_get_read, slice_get_within}
use Rattle.asp_model.specs.Names.{Name}
use Rattle.law_waits.specs.Waits.{waited}
use Rattle.wait_circles.specs.Ways.{next_in}
use Rattle.wait_circles.specs.Whys.{IsNumbered, names_of}
use Rattle.run_waits.proofs.WaitLemmas.{waits_more, within_more}
use Rattle.run_waits.proofs.waits.waits_in.Goals as goal

pub loop-activity-preserved : goal.loop-activity-preserved
loop-activity-preserved c =
    let rs = c.args.activities.now in
    let l = c.loop-activity in
    let r = c.wait_of.result in
    let k = l.activity-index in
    let a = c.activity-item.result in
    let at : slice_get rs k ≡ Some a = slice_get_read rs (length rs) k a refl c.loop-activity-test.true c.activity-item.is in
    let pushed = c.in_ok-push.ensures.items in
    record {
      size = ap length pushed ∙ length-append l.next.items (r ∷ []) ∙ ap (λ n. n + 1) l.invariant.size;
      within = subst (λ (ns : List (Option ℕ)). (i j : ℕ) → next_in ns i ≡ Some j → j < length rs) (sym pushed) (within_more l.next.items r (length rs) l.invariant.within c.wait_of.ensures.within);
      waits = λ d told. subst (λ (ns : List (Option ℕ)). (i : ℕ) (n : Name) → i < k + 1 → slice_get (names_of rs) i ≡ Some n → IsNumbered (names_of rs) (next_in ns i) (waited d n)) (sym pushed)
          (waits_more d rs l.next.items r k a told.activities l.invariant.size at (l.invariant.waits d told) (λ n st. c.wait_of.ensures.waits d n told st));
    }

pub returns-clause-waits : goal.returns-clause-waits
returns-clause-waits c d told i n at =
    let rs = c.args.activities.now in
    let within : i < length (names_of rs) = slice_get_within (names_of rs) i n at in
    let size : length (names_of rs) ≡ length rs = length-map rs (λ a. a.name) in
    let over = c.loop-activity-test.false in
    c.loop-activity.invariant.waits d told i n (omega (arith, within, size, over)) at
