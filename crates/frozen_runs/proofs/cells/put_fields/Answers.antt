use Rattle.std.proofs.Common.{◌≡◌, ◌∙◌, ◌++◌, ◌<◌, ℕ, List, get_or, length, arith, rules}
use Rattle.std.specs.Prelude.{string_bytes}
use Rattle.asp_model.specs.declared.word.Label.{Label}
use Rattle.asp_model.specs.Store.{Field}
use Rattle.checkpoint_text.specs.Items.{place_items}
use Rattle.checkpoint_text.specs.Writing.{words}
use Rattle.checkpoint_text.proofs.WritingLemmas.{item_more}
use Rattle.frozen_runs.proofs.CellLemmas.{field_is, field_within, fields_in}
use Rattle.frozen_runs.proofs.cells.put_fields.Goals as goal

pub offset_bounds-fields-index : goal.offset_bounds-fields-index
offset_bounds-fields-index c =
    let lt : c.loop-index.index < length (fields_in c.args.fields.now c.args.places.now) = omega (arith, c.loop-index-test.true, c.field_count-count.ensures.count) in
    let within : c.loop-index.index < length c.args.fields.now = (field_within c.args.fields.now c.args.places.now c.loop-index.index lt).0 in
    search rules

pub bounds-fields-index : goal.bounds-fields-index
bounds-fields-index c =
    let lt : c.loop-index.index < length (fields_in c.args.fields.now c.args.places.now) = omega (arith, c.loop-index-test.true, c.field_count-count.ensures.count) in
    (field_within c.args.fields.now c.args.places.now c.loop-index.index lt).0

pub offset_bounds-places-index : goal.offset_bounds-places-index
offset_bounds-places-index c =
    let lt : c.loop-index.index < length (fields_in c.args.fields.now c.args.places.now) = omega (arith, c.loop-index-test.true, c.field_count-count.ensures.count) in
    let within : c.loop-index.index < length c.args.places.now = (field_within c.args.fields.now c.args.places.now c.loop-index.index lt).1 in
    search rules

pub bounds-places-index : goal.bounds-places-index
bounds-places-index c =
    let lt : c.loop-index.index < length (fields_in c.args.fields.now c.args.places.now) = omega (arith, c.loop-index-test.true, c.field_count-count.ensures.count) in
    (field_within c.args.fields.now c.args.places.now c.loop-index.index lt).1

pub loop-index-preserved : goal.loop-index-preserved
loop-index-preserved c =
    let fields : List Label = c.args.fields.now in
    let places : List ℕ = c.args.places.now in
    let k : ℕ = c.loop-index.index in
    let lt : k < length (fields_in fields places) = omega (arith, c.loop-index-test.true, c.field_count-count.ensures.count) in
    let x : Field = record { label = c.index-fields-index.result.text; place = get_or places k 0 } in
    let put : string_bytes c.put_field.new.text ≡ string_bytes c.loop-index.text ++ words (place_items x) = c.in_ok-put_field.ensures.adds in
    item_more place_items (fields_in fields places) k x (string_bytes c.loop-index.text) (string_bytes c.put_field.new.text) lt (field_is fields places k c.index-fields-index.result 0 x lt c.index-fields-index.is) put
    ∙ c.loop-index.invariant
