use Rattle.std.proofs.Common.{◌≡◌, ◌∙◌, ◌∷◌, [], List, ap, arith, length, subst}
use Rattle.core_sets.specs.Lanes.{count}
use Rattle.std.specs.BTreeSet.{keys_between}
use Rattle.std.specs.Ordering.{is_gt}
use Rattle.std.specs.declared.ops.Bound.TheVariants.{Included}
use Rattle.future_update.specs.declared.numbered.Passing.{Passing}
use Rattle.future_update.specs.Passings.{AreAhead, passing_cmp}
use Rattle.future_update.proofs.LanedLemmas.{lanes_on}
use Rattle.future_update.proofs.SettlingLemmas.{ahead_begins, ahead_goes, all_marked, last_goes, last_sound, left_between, low_first, none_ahead, not_more, sound_goes}
use Rattle.future_update.proofs.settling.settle.Goals as goal

pub returns-then-is_empty-clause-marked : goal.returns-then-is_empty-clause-marked
returns-then-is_empty-clause-marked c =
    let r = c.args.records.now in
    let s = c.args.passings.now in
    let new = c.settle_last.new.owed.marks in
    all_marked r new (last_sound r s.last c.args.owed.now.marks new c.requires.sound c.settle_last.ensures.marked)
    (none_ahead r new s.sorted.keys (c.is_empty.ensures.0 c.if-is_empty.true) (last_goes r s c.args.owed.now.marks new c.requires.passings c.settle_last.ensures.marked))

pub range-passing-items-requires : goal.range-passing-items-requires
range-passing-items-requires c =
    let f = c.args.future in
    let low : Passing = record { by = f.by; index = f.index; from = c.args.first; place = 0 } in
    let high : Passing = record { by = f.by; index = f.index; from = c.args.last; place = 4294967295 } in
    (λ i. is_gt (passing_cmp (c.new.ensures.start i) (c.new.ensures.end i)))
    ∙ not_more (passing_cmp low high) (low_first f.by f.index c.args.first c.args.last 4294967295 c.requires.forward)

pub loop-passing-preserved : goal.loop-passing-preserved
loop-passing-preserved c =
    let i = c.loop-passing.invariant in
    let steps : c.loop-passing.passing-iterator ≡ c.in-Some.passing.now ∷ c.next.new.self = c.in-Some.ensures.steps in
    record {
      next = tt;
      finite = tt;
      lanes = lanes_on c.args.owed.now c.loop-passing.owed c.settle_at.new.owed i.lanes c.settle_at.ensures.lanes;
      sound = sound_goes c.args.records.now c.loop-passing.owed.marks c.settle_at.new.owed.marks c.in-Some.passing.now i.sound c.settle_at.ensures.marked;
      ahead = ahead_goes c.args.records.now c.loop-passing.owed.marks c.settle_at.new.owed.marks c.in-Some.passing.now c.next.new.self (subst (λ (xs : List Passing). AreAhead c.args.records.now c.loop-passing.owed.marks xs) steps i.ahead) c.settle_at.ensures.marked;
    }

pub returns-clause-marked : goal.returns-clause-marked
returns-clause-marked c =
    let steps : c.loop-passing.passing-iterator ≡ [] = c.in-None.ensures.steps.0 in
    all_marked c.args.records.now c.loop-passing.owed.marks c.loop-passing.invariant.sound (subst (λ (xs : List Passing). AreAhead c.args.records.now c.loop-passing.owed.marks xs) steps c.loop-passing.invariant.ahead)

pub loop-passing-init : goal.loop-passing-init
loop-passing-init c =
    let r = c.args.records.now in
    let s = c.args.passings.now in
    let f = c.args.future in
    let old = c.args.owed.now.marks in
    let new = c.settle_last.new.owed.marks in
    let low : Passing = record { by = f.by; index = f.index; from = c.args.first; place = 0 } in
    let high : Passing = record { by = f.by; index = f.index; from = c.args.last; place = 4294967295 } in
    let given = c.into_iter-passing-iterator.ensures.into_iter_gives in
    let between = c.range-passing-items.ensures.between c.new.ensures.exhausted in
    let bounds : keys_between passing_cmp (Included (c.new.result.start)) (Included c.new.result.end) s.sorted ≡ keys_between passing_cmp (Included low) (Included high) s.sorted = λ i. keys_between passing_cmp (Included (c.new.ensures.start i)) (Included (c.new.ensures.end i)) s.sorted in
    record {
      next = tt;
      finite = tt;
      lanes = c.settle_last.ensures.lanes;
      sound = last_sound r s.last old new c.requires.sound c.settle_last.ensures.marked;
      ahead = ahead_begins r new low high s.sorted.keys c.into_iter-passing-iterator.result
          (left_between r old new s.last f c.args.first c.args.last c.requires.records c.requires.left c.settle_last.ensures.marked)
          (last_goes r s old new c.requires.passings c.settle_last.ensures.marked)
          (given ∙ between ∙ bounds);
    }

pub settle_at-requires-clause-lanes : goal.settle_at-requires-clause-lanes
settle_at-requires-clause-lanes c = c.loop-passing.invariant.lanes.lanes

pub settle_at-requires-clause-room : goal.settle_at-requires-clause-room
settle_at-requires-clause-room c =
    let same : count c.loop-passing.owed ≡ count c.args.owed.now = ap (λ s. length s) c.loop-passing.invariant.lanes.spots in
    omega (arith, same, c.requires.room)

pub returns-clause-lanes : goal.returns-clause-lanes
returns-clause-lanes c = c.loop-passing.invariant.lanes
