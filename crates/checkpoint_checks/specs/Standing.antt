-- That each future stands at most once.
use Rattle.std.specs.Prelude.{◌&&◌, not, Bool, true, List, [], ◌∷◌}
use Rattle.std.specs.Option.{option_map}
use Rattle.asp_model.specs.Names.{FutureShape}
use Rattle.asp_model.specs.Shapes.{future_shape}
use Rattle.checkpoint_reading.specs.declared.parts.RequestText.{RequestText}
use Rattle.checkpoint_parts.specs.declared.parts.ServiceText.{ServiceText}
use Rattle.law_checkpoints.specs.Standing.{future_in}
use Rattle.checkpoint_checks.specs.Maps.{Futures, with_future}

-- none of these is in the set, and none stands twice
abbrev pub are_fresh : Futures → List FutureShape → Bool
are_fresh set [] = true
are_fresh set (g ∷ gs) = not (set g) && are_fresh (with_future set g) gs

abbrev pub request_future : RequestText → FutureShape
request_future r = future_shape r.future

abbrev pub service_futures : ServiceText → List FutureShape
service_futures s = future_in (option_map future_shape s.future)
