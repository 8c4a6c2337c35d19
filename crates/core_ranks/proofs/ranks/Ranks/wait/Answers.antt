use Rattle.std.proofs.Common.{◌≡◌, ◌||◌, ◌∷◌, ◌++◌, ◌∙◌, [], ℕ, List, OnOk, Ok, Err, refl, ap}
use Rattle.asp_model.specs.Shapes.{future_shape}
use Rattle.core_ranks.specs.declared.ranks.Ranks.{Ranks}
use Rattle.core_ranks.specs.Numbers.{has_number}
use Rattle.core_ranks.specs.Waiting.{StayElsewhere, numbers_at}
use Rattle.core_ranks.specs.Ranks.{IsRanked, OthersStay, Waits}
use Rattle.core_ranks.proofs.RankLemmas.{joined_in, one_waits, others_wait_on}
use Rattle.core_ranks.proofs.ranks.Ranks.wait.Goals as goal
use Rattle.core_ranks.proofs.ranks.Ranks.wait.Goals.{After-join}

pushed : (c : After-join) → c.push.new.self.items ≡ c.args.number ∷ []
pushed c = c.in_ok-push.ensures.items ∙ ap (λ (xs : List ℕ). xs ++ c.args.number ∷ []) c.new-numbers.ensures.items

abbrev Here : After-join → Type 0
Here c = (k : ℕ) → has_number k (numbers_at c.join.new.self (future_shape c.args.future)) ≡ (has_number k c.push.new.self.items || has_number k (numbers_at c.args.self.now.waiting (future_shape c.args.future)))

listed : (c : After-join) → Here c → (k : ℕ) → has_number k (numbers_at c.join.new.self (future_shape c.args.future)) ≡ (has_number k (c.args.number ∷ []) || has_number k (numbers_at c.args.self.now.waiting (future_shape c.args.future)))
listed c h k = h k ∙ ap (λ (xs : List ℕ). has_number k xs || has_number k (numbers_at c.args.self.now.waiting (future_shape c.args.future))) (pushed c)

pub returns-clause-here : goal.returns-clause-here
returns-clause-here c =
    let old : Ranks = c.args.self.now in
    let new : Ranks = record old { waiting = c.join.new.self } in
    let f = future_shape c.args.future in
    elim c.join.result as (λ r. ((k : ℕ) → OnOk r (has_number k (numbers_at c.join.new.self f) ≡ (has_number k c.push.new.self.items || has_number k (numbers_at old.waiting f)))) → OnOk r (StayElsewhere f old.waiting c.join.new.self) → OnOk r (IsRanked new c.args.number (Waits f))) [
      | Ok x ↦ λ here others. one_waits c.args.number f old new c.requires.rests refl refl refl (joined_in f (c.args.number ∷ []) old.waiting c.join.new.self (listed c here) others)
      | Err e ↦ λ here others. tt
    ] c.join.ensures.here c.join.ensures.others

pub returns-clause-others : goal.returns-clause-others
returns-clause-others c =
    let old : Ranks = c.args.self.now in
    let new : Ranks = record old { waiting = c.join.new.self } in
    let f = future_shape c.args.future in
    elim c.join.result as (λ r. ((k : ℕ) → OnOk r (has_number k (numbers_at c.join.new.self f) ≡ (has_number k c.push.new.self.items || has_number k (numbers_at old.waiting f)))) → OnOk r (StayElsewhere f old.waiting c.join.new.self) → OnOk r (OthersStay c.args.number old new)) [
      | Ok x ↦ λ here others. others_wait_on c.args.number f old new refl refl refl (joined_in f (c.args.number ∷ []) old.waiting c.join.new.self (listed c here) others)
      | Err e ↦ λ here others. tt
    ] c.join.ensures.here c.join.ensures.others
