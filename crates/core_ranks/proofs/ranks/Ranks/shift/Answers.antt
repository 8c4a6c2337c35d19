use Rattle.std.proofs.Common.{◌≡◌, ◌||◌, ℕ, OnOk, Ok, Err, refl, sym, subst}
use Rattle.asp_model.specs.Shapes.{future_shape}
use Rattle.core_ranks.specs.declared.ranks.Ranks.{Ranks}
use Rattle.core_ranks.specs.Numbers.{has_number}
use Rattle.core_ranks.specs.Waiting.{StayElsewhere, numbers_at}
use Rattle.core_ranks.specs.Ranks.{AreShifted, Circles, Goes, HasNeed, Waits, rank_shape}
use Rattle.core_ranks.proofs.RankLemmas.{all_circle, all_go, all_need, all_rest, all_wait}
use Rattle.core_ranks.proofs.ranks.Ranks.shift.Goals as goal

pub returns-in-Goes : goal.returns-in-Goes
returns-in-Goes c =
    let old : Ranks = c.args.self.now in
    let f = future_shape c.args.future.now in
    let mid = c.take-numbers.new.self in
    let ns = c.take-numbers.result.items in
    let new : Ranks = record old { going = c.add_all.new.self; waiting = mid } in
    let told = c.take-numbers.ensures in
    record {
      shifted = subst (λ q. OnOk c.add_all.result (AreShifted f (rank_shape q) old new)) (sym c.in-Goes.is) (elim c.add_all.result as (λ r. ((k : ℕ) → OnOk r (has_number k new.going.keys ≡ (has_number k ns || has_number k old.going.keys))) → OnOk r (AreShifted f Goes old new)) [
        | Ok x ↦ λ h. all_go f ns old mid told.taken told.none told.others new refl refl refl h
        | Err e ↦ λ h. tt
      ] c.add_all.ensures.all);
    }

pub returns-in-HasNeed : goal.returns-in-HasNeed
returns-in-HasNeed c =
    let old : Ranks = c.args.self.now in
    let f = future_shape c.args.future.now in
    let mid = c.take-numbers.new.self in
    let ns = c.take-numbers.result.items in
    let set = c.add_all-in-HasNeed in
    let new : Ranks = record old { needy = set.new.self; waiting = mid } in
    let told = c.take-numbers.ensures in
    record {
      shifted = subst (λ q. OnOk set.result (AreShifted f (rank_shape q) old new)) (sym c.in-HasNeed.is) (elim set.result as (λ r. ((k : ℕ) → OnOk r (has_number k new.needy.keys ≡ (has_number k ns || has_number k old.needy.keys))) → OnOk r (AreShifted f HasNeed old new)) [
        | Ok x ↦ λ h. all_need f ns old mid told.taken told.none told.others new refl refl refl h
        | Err e ↦ λ h. tt
      ] set.ensures.all);
    }

pub returns-in-Waits : goal.returns-in-Waits
returns-in-Waits c =
    let old : Ranks = c.args.self.now in
    let f = future_shape c.args.future.now in
    let g = future_shape c.in-Waits.other in
    let mid = c.take-numbers.new.self in
    let ns = c.take-numbers.result.items in
    let new : Ranks = record old { waiting = c.join.new.self } in
    let told = c.take-numbers.ensures in
    record {
      shifted = subst (λ q. OnOk c.join.result (AreShifted f (rank_shape q) old new)) (sym c.in-Waits.is) (elim c.join.result as (λ r. ((k : ℕ) → OnOk r (has_number k (numbers_at c.join.new.self g) ≡ (has_number k ns || has_number k (numbers_at mid g)))) → OnOk r (StayElsewhere g mid c.join.new.self) → OnOk r (AreShifted f (Waits g) old new)) [
        | Ok x ↦ λ here others. all_wait f ns old mid told.taken told.none told.others g new refl refl refl here others
        | Err e ↦ λ here others. tt
      ] c.join.ensures.here c.join.ensures.others);
    }

pub returns-in-Circles : goal.returns-in-Circles
returns-in-Circles c =
    let old : Ranks = c.args.self.now in
    let f = future_shape c.args.future.now in
    let mid = c.take-numbers.new.self in
    let ns = c.take-numbers.result.items in
    let set = c.add_all-in-Circles in
    let new : Ranks = record old { circling = set.new.self; waiting = mid } in
    let told = c.take-numbers.ensures in
    record {
      shifted = subst (λ q. OnOk set.result (AreShifted f (rank_shape q) old new)) (sym c.in-Circles.is) (elim set.result as (λ r. ((k : ℕ) → OnOk r (has_number k new.circling.keys ≡ (has_number k ns || has_number k old.circling.keys))) → OnOk r (AreShifted f Circles old new)) [
        | Ok x ↦ λ h. all_circle f ns old mid told.taken told.none told.others new refl refl refl h
        | Err e ↦ λ h. tt
      ] set.ensures.all);
    }

pub returns-in-Rests : goal.returns-in-Rests
returns-in-Rests c =
    let old : Ranks = c.args.self.now in
    let told = c.take-numbers.ensures in
    let new : Ranks = record old { waiting = c.take-numbers.new.self } in
    record {
      shifted = subst (λ q. AreShifted (future_shape c.args.future.now) (rank_shape q) old new) (sym c.in-Rests.is) (all_rest (future_shape c.args.future.now) c.take-numbers.result.items old c.take-numbers.new.self told.taken told.none told.others new refl refl refl refl);
    }
