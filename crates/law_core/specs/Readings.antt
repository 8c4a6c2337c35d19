-- The events of a step that finds no future among its strict operands.
use Rattle.std.specs.Prelude.{◌≡◌, [], None}
use Rattle.asp_model.specs.Names.{Name}
use Rattle.asp_model.specs.Configuration.{Configuration}
use Rattle.asp_model.specs.Intent.{Acts, Effect}
use Rattle.asp_model.specs.Step.{intent_in}
use Rattle.def_journals.specs.Owed.{need_to}
use Rattle.def_journals.specs.Passing.{effect_events, step_events}

-- whoever acts and has no need unpacks nothing: its events are those of its effect alone
abbrev pub ActsUnpackNothing : Type 0
ActsUnpackNothing = (c : Configuration) (n : Name) (e : Effect) → need_to c n ≡ None → intent_in c n ≡ Acts e
    → step_events c n ≡ effect_events n [] e
