-- Queues whose requests are numbered behind those that were served.
use Rattle.std.proofs.Common.{◌≡◌, ℕ, zero, suc, ◌+◌, ◌≤◌, Bool, true, false, List, [], ◌∷◌, ◌++◌, length, map, refl, sym, ap, subst, ◌∙◌, arith, length-append}
use Rattle.std.specs.Arc.{arc_value}
use Rattle.std.specs.List.{AllByRecursion}
use Rattle.asp_model.specs.Configuration.{RequestShape}
use Rattle.asp_model.specs.Intent.{Numbered}
use Rattle.law_frozen.specs.Frozen.{numbers_to}
use Rattle.law_frozen.proofs.FrozenLemmas.{in_numbers, not_numbers}
use Rattle.law_steps.specs.Closed.{AreBelow}
use Rattle.code_table.specs.declared.code.Node.{Node}
use Rattle.request_queue.specs.Pending.{QueueView, pending_of, waiting}
use Rattle.request_queue.specs.Requests.{request_shape}
use Rattle.request_queue.specs.declared.request.Request.{Request}
use Rattle.step_activity.specs.Actors.{HoldsQueue}
use Rattle.checkpoint_makes.proofs.MadeLemmas.{map_more}
use Rattle.checkpoint_makes.specs.Parcels.{request_by}
use Rattle.checkpoint_makes.specs.declared.parcels.MadeRequest.{MadeRequest}
use Rattle.checkpoint_actors.specs.Queues.{IsBehind, IsPushedBy, numbered}

abbrev skip_or : Bool → Numbered → List Numbered → List Numbered
skip_or b x xs = elim b [ true ↦ xs | false ↦ x ∷ xs ]

-- behind what was served all wait, under their numbers
all_wait : (j k : ℕ) (rs : List RequestShape) → j ≤ k → pending_of (numbers_to j) k rs ≡ numbered k rs
all_wait j k [] le = refl
all_wait j k (r ∷ rs) le =
    ap (λ b. skip_or b (k, r) (pending_of (numbers_to j) (suc k) rs)) (not_numbers k j le)
    ∙ ap (λ l. (k, r) ∷ l) (all_wait j (suc k) rs (omega (arith, le)))

wait_behind : (j k : ℕ) (qs rs : List RequestShape) → k + length qs ≡ j → pending_of (numbers_to j) k (qs ++ rs) ≡ numbered j rs
wait_behind j k [] rs e = let same : k ≡ j = omega (arith, e) in subst (λ m. pending_of (numbers_to j) k rs ≡ numbered m rs) same (all_wait j k rs (omega (arith, e)))
wait_behind j k (q ∷ qs) rs e =
    ap (λ b. skip_or b (k, q) (pending_of (numbers_to j) (suc k) (qs ++ rs))) (in_numbers k j (omega (arith, e)))
    ∙ wait_behind j (suc k) qs rs (omega (arith, e))

numbers_below : (j n : ℕ) → j ≤ n → AreBelow n (numbers_to j)
numbers_below zero n le = tt
numbers_below (suc j) n le = (omega (arith, le), numbers_below j n (omega (arith, le)))

numbered_last : (k : ℕ) (rs : List RequestShape) (r : RequestShape) → numbered k (rs ++ r ∷ []) ≡ numbered k rs ++ (k + length rs, r) ∷ []
numbered_last k [] r = let here : k ≡ k + 0 = omega arith in ap (λ n. (n, r) ∷ []) here
numbered_last k (q ∷ rs) r =
    let here : suc k + length rs ≡ k + suc (length rs) = omega arith in
    ap (λ l. (k, q) ∷ l) (numbered_last (suc k) rs r ∙ ap (λ n. numbered (suc k) rs ++ (n, r) ∷ []) here)

-- What a queue holds

pub none_behind : (k : List Node) (answered : ℕ) (q : QueueView) → q.pending ≡ [] → q.arrived ≡ answered → IsBehind k answered [] q
none_behind k answered q pending arrived = record {
  pending = ap (map (λ e. (e.0, request_shape e.1))) pending;
  arrived = omega (arith, arrived);
  coded = subst (AllByRecursion (λ e. arc_value e.1.arguments.code ≡ k)) (sym pending) tt;
}

pub one_more_behind : (k : List Node) (answered : ℕ) (rs : List RequestShape) (r : RequestShape) (old new : QueueView) → IsBehind k answered rs old → IsPushedBy k old new r → IsBehind k answered (rs ++ r ∷ []) new
one_more_behind k answered rs r old new h p = record {
  pending = p.pending ∙ (λ i. h.pending i ++ (h.arrived i, r) ∷ []) ∙ sym (numbered_last answered rs r);
  arrived = let here : length (rs ++ r ∷ []) ≡ length rs + 1 = length-append rs (r ∷ []) in omega (arith, h.arrived, p.arrived, here);
  coded = p.coded h.coded;
}

pub behind_as : (k : List Node) (answered : ℕ) (rs qs : List RequestShape) (q : QueueView) → qs ≡ rs → IsBehind k answered rs q → IsBehind k answered qs q
behind_as k answered rs qs q e h = subst (λ l. IsBehind k answered l q) (sym e) h

pub holds_queue : (k : List Node) (answered : ℕ) (qs : List RequestShape) (q : QueueView) → IsBehind k answered qs q → (rs : List RequestShape) → length rs ≡ answered → HoldsQueue k q (numbers_to answered) (rs ++ qs)
holds_queue k answered qs q h rs e =
    let all : length (rs ++ qs) ≡ length rs + length qs = length-append rs qs in
    record {
      pending = h.pending ∙ sym (wait_behind answered 0 rs qs (omega (arith, e)));
      arrived = omega (arith, h.arrived, all, e);
      below = numbers_below answered (length (rs ++ qs)) (omega (arith, all, e));
      coded = h.coded;
    }

-- One more request

all_last : {X : Type 0} (P : X → Type 0) (xs : List X) (x : X) → AllByRecursion P xs → P x → AllByRecursion P (xs ++ x ∷ [])
all_last P [] x h p = (p, tt)
all_last P (y ∷ xs) x h p = (h.0, all_last P xs x h.1 p)

pub pushed_by : (k : List Node) (old new : QueueView) (m : MadeRequest) (r : Request) → new.pending ≡ old.pending ++ (old.arrived, r) ∷ [] → new.arrived ≡ old.arrived + 1 → request_shape r ≡ request_by k m → arc_value r.arguments.code ≡ k
    → IsPushedBy k old new (request_by k m)
pushed_by k old new m r pending arrived is coded = record {
  pending = ap (map (λ e. (e.0, request_shape e.1))) pending ∙ map_more (λ e. (e.0, request_shape e.1)) old.pending (old.arrived, r) ∙ ap (λ s. waiting old ++ (old.arrived, s) ∷ []) is;
  arrived = arrived;
  coded = λ h. subst (AllByRecursion (λ e. arc_value e.1.arguments.code ≡ k)) (sym pending) (all_last (λ e. arc_value e.1.arguments.code ≡ k) old.pending (old.arrived, r) h coded);
}
