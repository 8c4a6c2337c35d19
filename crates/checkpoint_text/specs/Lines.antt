-- The text of a checkpoint.
use Rattle.std.specs.Prelude.{List, [], ◌∷◌, ◌++◌, map, codes}
use Rattle.std.specs.List.{flat_map}
use Rattle.asp_model.specs.Names.{Text}
use Rattle.asp_model.specs.Report.{text_of}
use Rattle.law_frozen.specs.Frozen.{FrozenActivity, FrozenShape}
use Rattle.checkpoint_text.specs.Items.{Items, number_items, list_items, option_items, pair_items, name_items, future_items, reception_items, output_items, running_items, store_items, parcel_items, request_items, service_items}

-- an activity: its name, counts, output, log, pending requests, the future to answer, services, term and store
abbrev pub activity_items : FrozenActivity → Items
activity_items x =
    name_items x.name
    ++ number_items x.activity.reductions
    ++ number_items x.activity.sends
    ++ number_items x.activity.creations
    ++ list_items output_items x.activity.lines
    ++ list_items reception_items x.log
    ++ list_items request_items x.queue
    ++ option_items future_items x.activity.present
    ++ list_items service_items x.activity.services
    ++ running_items x.activity.term
    ++ store_items x.activity.store
    ++ number_items x.activity.active

-- a word, and behind it the items, each behind a space
abbrev pub line_of : Text → Items → Text
line_of word items = word ++ flat_map (λ i. codes " " ++ i) items

-- the lines of a checkpoint, without their line feeds; the program stands in it as text
abbrev pub checkpoint_lines : Text → FrozenShape → List Text
checkpoint_lines program f =
    codes "asp checkpoint 1"
    ∷ (codes "program " ++ program)
    ∷ line_of (codes "homes") (list_items (pair_items future_items name_items) f.homes)
    ∷ line_of (codes "filled") (list_items (pair_items future_items parcel_items) f.filled)
    ∷ map (λ x. line_of (codes "activity") (activity_items x)) f.activities
    ++ codes "end" ∷ []

-- the text of a checkpoint
abbrev pub checkpoint_text : Text → FrozenShape → Text
checkpoint_text program f = text_of (checkpoint_lines program f)
