-- A checkpoint fits exactly where it is sound.
use Rattle.std.specs.Prelude.{◌≡◌, ◌&&◌, Bool, true, T, List, [], ◌∷◌, None, map}
use Rattle.std.specs.List.{list_all}
use Rattle.std.proofs.Common.{refl, sym, ap, subst, ◌∙◌}
use Rattle.std.proofs.lemmas.Bool.{and_parts, and_from}
use Rattle.std.specs.FinMap.{is_sorted}
use Rattle.asp_model.specs.Names.{future_cmp}
use Rattle.law_steps.specs.Linked.{Each}
use Rattle.law_frozen.specs.Frozen.{FrozenActivity, FrozenShape}
use Rattle.law_checkpoints.specs.Sound.{StandOnce, HasNames, IsSoundActivity, IsSoundFrozen, IsSoundValue}
use Rattle.law_checkpoints.specs.Standing.{standing_in}
use Rattle.checkpoint_parts.specs.declared.parts.ActivityText.{ActivityText}
use Rattle.checkpoint_parts.specs.declared.parts.CheckpointText.{CheckpointText}
use Rattle.checkpoint_parts.specs.Shapes.{activity_shape, checkpoint_shape}
use Rattle.checkpoint_checks.specs.Maps.{Activities, Homes, nobody, no_futures, with_activities, with_futures}
use Rattle.checkpoint_checks.specs.Names.{all_named, begin_with_main}
use Rattle.checkpoint_checks.specs.Homes.{all_housed, ascend_from, home_fits}
use Rattle.checkpoint_checks.specs.Standing.{are_fresh}
use Rattle.checkpoint_checks.specs.Cells.{value_fits}
use Rattle.checkpoint_checks.specs.Activities.{activity_fits}
use Rattle.checkpoint_checks.specs.Whole.{all_activities, all_homes, checkpoint_fits, homes_ascend, names_fit, parts_fit, stand_once}
use Rattle.checkpoint_checks.proofs.SameLemmas.{Same, same_each, same_true}
use Rattle.checkpoint_checks.proofs.CallLemmas.{first_in, looks_all, same_all, same_begin}
use Rattle.checkpoint_checks.proofs.HomeLemmas.{home_at, homes_are, same_begun, same_sorted}
use Rattle.checkpoint_checks.proofs.OnceLemmas.{fresh_all, have_homes, homes_to}
use Rattle.checkpoint_checks.proofs.PartLemmas.{same_value}
use Rattle.checkpoint_checks.proofs.ActivityLemmas.{same_activity}

-- The maps as look-ups

activities_are : (xs : List FrozenActivity) → StandOnce xs → with_activities nobody xs ≡ first_in xs
activities_are xs once = λ i n. looks_all [] xs nobody (λ m. refl) once n i

all_homes_are : (f : FrozenShape) → T (is_sorted future_cmp f.homes) → all_homes f ≡ home_at f
all_homes_are f s = λ i g. homes_are f.homes s g i

-- Names

names_to : (xs : List FrozenActivity) → names_fit xs ≡ true → HasNames xs
names_to xs e =
    let p = and_parts (begin_with_main xs) (list_all (all_named (with_activities nobody xs)) xs) e in
    let b = (same_begin xs).to p.0 in
    record {
      once = b.0;
      created = b.1;
      all = (same_all xs b.0).to (subst (λ (look : Activities). list_all (all_named look) xs ≡ true) (activities_are xs b.0) p.1);
    }

names_of : (xs : List FrozenActivity) → HasNames xs → names_fit xs ≡ true
names_of xs h = and_from (begin_with_main xs) (list_all (all_named (with_activities nobody xs)) xs)
    ((same_begin xs).of (h.once, h.created))
    (subst (λ (look : Activities). list_all (all_named look) xs ≡ true) (sym (activities_are xs h.once)) ((same_all xs h.once).of h.all))

-- Activities

activities_to : (f : FrozenShape) (xs : List ActivityText) → Same (list_all (activity_fits (first_in f.activities) (home_at f)) xs) (Each (IsSoundActivity f) (map activity_shape xs))
activities_to f [] = same_true
activities_to f (a ∷ xs) =
    let h = same_activity f a in
    let g = activities_to f xs in
    record {
      to = λ e. let p = and_parts (activity_fits (first_in f.activities) (home_at f) a) (list_all (activity_fits (first_in f.activities) (home_at f)) xs) e in (h.to p.0, g.to p.1);
      of = λ s. and_from (activity_fits (first_in f.activities) (home_at f) a) (list_all (activity_fits (first_in f.activities) (home_at f)) xs) (h.of s.0) (g.of s.1);
    }

-- The whole

module _ (file : CheckpointText) where
  abbrev shape : FrozenShape
  shape = checkpoint_shape file

  abbrev parts_by : Activities → Homes → Bool
  parts_by look homes = list_all (activity_fits look homes) file.activities.items && list_all (value_fits look homes) shape.filled

  abbrev homes_by : Activities → Bool
  homes_by look = are_fresh no_futures (standing_in shape) && list_all (home_fits look (with_futures no_futures (standing_in shape))) shape.homes

  pub fits_to : checkpoint_fits file ≡ true → IsSoundFrozen shape
  fits_to e =
      let p = and_parts (names_fit shape.activities) (homes_ascend shape && (list_all (all_housed (all_homes shape)) shape.activities && (parts_fit file && stand_once shape))) e in
      let q = and_parts (homes_ascend shape) (list_all (all_housed (all_homes shape)) shape.activities && (parts_fit file && stand_once shape)) p.1 in
      let r = and_parts (list_all (all_housed (all_homes shape)) shape.activities) (parts_fit file && stand_once shape) q.1 in
      let s = and_parts (parts_fit file) (stand_once shape) r.1 in
      let ascend = and_parts (ascend_from None (map (λ h. h.0) shape.homes)) (ascend_from None (map (λ v. v.0) shape.filled)) q.0 in
      let names = names_to shape.activities p.0 in
      let homes_sorted = (same_sorted shape.homes).to ascend.0 in
      let filled_sorted = (same_sorted shape.filled).to ascend.1 in
      let looks = activities_are shape.activities names.once in
      let homes = all_homes_are shape homes_sorted in
      let begun : list_all (all_housed (home_at shape)) shape.activities ≡ true = subst (λ (look : Homes). list_all (all_housed look) shape.activities ≡ true) homes r.0 in
      let parts : parts_by (first_in shape.activities) (home_at shape) ≡ true = ap (λ (look : Activities). parts_by look (home_at shape)) (sym looks) ∙ ap (parts_by (all_activities shape)) (sym homes) ∙ s.0 in
      let t = and_parts (list_all (activity_fits (first_in shape.activities) (home_at shape)) file.activities.items) (list_all (value_fits (first_in shape.activities) (home_at shape)) shape.filled) parts in
      let sound = (activities_to shape file.activities.items).to t.0 in
      let values = (same_each (value_fits (first_in shape.activities) (home_at shape)) (λ v. IsSoundValue shape v.0 v.1) (same_value shape) shape.filled).to t.1 in
      let stand : homes_by (first_in shape.activities) ≡ true = ap homes_by (sym looks) ∙ s.1 in
      let u = and_parts (are_fresh no_futures (standing_in shape)) (list_all (home_fits (first_in shape.activities) (with_futures no_futures (standing_in shape))) shape.homes) stand in
      record {
        names = names;
        activities = sound;
        homes_ascend = homes_sorted;
        homes = (homes_to shape names.once homes_sorted filled_sorted sound values u.0 shape.homes (have_homes shape names.once homes_sorted filled_sorted sound values)).to u.1;
        begun = (same_begun shape names.once).to begun;
        filled_ascend = filled_sorted;
        filled = values;
      }

  pub fits_of : IsSoundFrozen shape → checkpoint_fits file ≡ true
  fits_of h =
      let looks = activities_are shape.activities h.names.once in
      let homes = all_homes_are shape h.homes_ascend in
      let begun = (same_begun shape h.names.once).of h.begun in
      let sound = (activities_to shape file.activities.items).of h.activities in
      let values = (same_each (value_fits (first_in shape.activities) (home_at shape)) (λ v. IsSoundValue shape v.0 v.1) (same_value shape) shape.filled).of h.filled in
      let fresh = fresh_all shape h.names.once h.homes_ascend h.filled_ascend h.activities h.filled h.homes in
      let fit = (homes_to shape h.names.once h.homes_ascend h.filled_ascend h.activities h.filled fresh shape.homes (have_homes shape h.names.once h.homes_ascend h.filled_ascend h.activities h.filled)).of h.homes in
      let parts : parts_by (all_activities shape) (all_homes shape) ≡ true =
      ap (parts_by (all_activities shape)) homes ∙ ap (λ (look : Activities). parts_by look (home_at shape)) looks
      ∙ and_from (list_all (activity_fits (first_in shape.activities) (home_at shape)) file.activities.items) (list_all (value_fits (first_in shape.activities) (home_at shape)) shape.filled) sound values in
      let stand : homes_by (all_activities shape) ≡ true =
      ap homes_by looks
      ∙ and_from (are_fresh no_futures (standing_in shape)) (list_all (home_fits (first_in shape.activities) (with_futures no_futures (standing_in shape))) shape.homes) fresh fit in
      and_from (names_fit shape.activities) (homes_ascend shape && (list_all (all_housed (all_homes shape)) shape.activities && (parts_fit file && stand_once shape)))
      (names_of shape.activities h.names)
      (and_from (homes_ascend shape) (list_all (all_housed (all_homes shape)) shape.activities && (parts_fit file && stand_once shape))
      (and_from (ascend_from None (map (λ x. x.0) shape.homes)) (ascend_from None (map (λ v. v.0) shape.filled)) ((same_sorted shape.homes).of h.homes_ascend) ((same_sorted shape.filled).of h.filled_ascend))
      (and_from (list_all (all_housed (all_homes shape)) shape.activities) (parts_fit file && stand_once shape)
      (subst (λ (look : Homes). list_all (all_housed look) shape.activities ≡ true) (sym homes) begun)
      (and_from (parts_fit file) (stand_once shape) parts stand)))
