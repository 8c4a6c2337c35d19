-- Tests of the homes of futures.
use Rattle.std.specs.Prelude.{ℕ, suc, ◌&&◌, not, nat_le, Bool, true, List, [], ◌∷◌, Option, Some, None, is_some}
use Rattle.std.specs.Ordering.{is_lt}
use Rattle.asp_model.specs.declared.name.FutureName.{FutureName}
use Rattle.asp_model.specs.Names.{Name, FutureShape, future_cmp, main_name, same_name}
use Rattle.asp_model.specs.Shapes.{future_shape}
use Rattle.checkpoint_reading.specs.declared.parts.ParcelText.{ParcelText}
use Rattle.law_frozen.specs.Frozen.{FrozenActivity}
use Rattle.checkpoint_checks.specs.Maps.{Activities, Homes, Futures}
use Rattle.checkpoint_checks.specs.Names.{all_to, sends_at, is_named}

abbrev pub is_after : Option FutureShape → FutureShape → Bool
is_after None g = true
is_after (Some f) g = is_lt (future_cmp f g)

-- each stands after the one before it
abbrev pub ascend_from : Option FutureShape → List FutureShape → Bool
ascend_from last [] = true
ascend_from last (g ∷ gs) = is_after last g && ascend_from (Some g) gs

abbrev pub home_future : FutureName × List ℕ → FutureShape
home_future h = future_shape h.0

abbrev pub value_future : FutureName × ParcelText → FutureShape
value_future v = future_shape v.0

-- all requests that it has sent have homes
abbrev pub all_housed : Homes → FrozenActivity → Bool
all_housed look x = all_to (λ k. is_some (look (record { by = x.name; index = suc k }))) x.activity.sends

-- a future that was begun and stands somewhere, with a home that is there, and is not main
abbrev pub home_fits : Activities → Futures → FutureShape × Name → Bool
home_fits look standing h =
    (nat_le 1 h.0.index && nat_le h.0.index (sends_at look h.0.by))
    && ((is_named look h.1 && not (same_name h.1 main_name)) && standing h.0)
