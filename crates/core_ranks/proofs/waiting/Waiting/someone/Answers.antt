use Rattle.std.proofs.Common.{◌≡◌, ◌∙◌, ◌∷◌, ℕ, [], sym, ap, subst}
use Rattle.std.specs.Global.{Vec}
use Rattle.std.specs.List.{All, slice_get}
use Rattle.std.specs.Map.Iter.{deref_pair}
use Rattle.std.specs.Option.{option_copied}
use Rattle.std.specs.Borrow.{Bor}
use Rattle.asp_model.specs.declared.name.FutureName.{FutureName}
use Rattle.std.proofs.lemmas.List.Elements.{All-append, All-cons, All-map, All-nil}
use Rattle.std.proofs.lemmas.Map.Iter.{btree_map_turn, iter_end}
use Rattle.asp_model.specs.Shapes.{future_shape}
use Rattle.core_ranks.proofs.WaitingLemmas.{first_found, future_total, none_first, none_found}
use Rattle.core_ranks.proofs.waiting.Waiting.someone.Goals as goal

-- src/waiting.rt:47:9
pub loop-future-init : goal.loop-future-init
loop-future-init c = All-nil _

-- src/waiting.rt:49:17
pub returns-in-Some-first : goal.returns-in-Some-first
returns-in-Some-first c =
    let here = btree_map_turn deref_pair c.loop-future.yielded c.into_iter-future-iterator.result c.loop-future._future-iterator c.next.new.self c.next.result (c.in-Some._future, c.in-Some.numbers) c.loop-future.yielded_by c.in-Some.is c.next.ensures.steps future_total c.args.self.now.numbers c.into_iter-future-iterator.ensures.into_iter_gives.0 c.into_iter-future-iterator.ensures.into_iter_gives.5 in
    record {
      waiter = (
        future_shape c.in-Some._future.now,
        first_found c.args.self.now c.in-Some._future.now c.in-Some.numbers.now c.in-Some-first.number.now here.1
            (ap (λ ns. slice_get ns 0) (sym c.deref.ensures.value) ∙ sym c.first.ensures.value ∙ ap option_copied c.in-Some-first.is),
      );
    }

-- src/waiting.rt:47:9
pub loop-future-preserved : goal.loop-future-preserved
loop-future-preserved c =
    All-append (λ (p : Bor FutureName × Bor (Vec ℕ)). p.1.now.items ≡ []) c.loop-future.yielded ((c.in-Some._future, c.in-Some.numbers) ∷ []) c.loop-future.invariant
    (All-cons (λ (p : Bor FutureName × Bor (Vec ℕ)). p.1.now.items ≡ []) (c.in-Some._future, c.in-Some.numbers) [] (none_first c.in-Some.numbers.now.items (ap (λ ns. slice_get ns 0) (sym c.deref.ensures.value) ∙ sym c.first.ensures.value ∙ ap option_copied c.in_default.is)) (All-nil _))

-- src/waiting.rt:44:5
pub returns : goal.returns
returns c = record { waiter = none_found c.args.self.now (subst (All (λ e. e.1.items ≡ [])) (iter_end deref_pair c.args.self.now.numbers.entries c.loop-future.yielded c.into_iter-future-iterator.result c.loop-future._future-iterator c.next.new.self c.next.result c.into_iter-future-iterator.ensures.into_iter_gives.0 c.loop-future.yielded_by c.in-None.is c.next.ensures.steps).0 (All-map (λ e. e.1.items ≡ []) deref_pair c.loop-future.yielded c.loop-future.invariant)) }
