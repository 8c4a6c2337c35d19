-- What a listener is told of a step, and of where the activities stand.
use Rattle.std.proofs.Common.{◌≡◌, ◌+◌, ◌++◌, ◌∷◌, [], ℕ, List, Option, Some, None, get_or, map, drop, length, slice_get, take, refl, sym, ap, subst, ◌∙◌}
use Rattle.std.proofs.lemmas.List.{append_assoc, append-nil, drop-map, map-append, take_more}
use Rattle.std.proofs.lemmas.Option.{slice_get-get_or, slice_get_within}
use Rattle.std.specs.FinMap.{find}
use Rattle.asp_model.specs.Names.{Name, name_cmp}
use Rattle.asp_model.specs.Configuration.{Activity, Configuration}
use Rattle.asp_model.specs.declared.outcome.Line.{Line}
use Rattle.asp_model.specs.Intent.{Acts, Effect, StatusShape}
use Rattle.asp_model.specs.Shapes.{line_shape}
use Rattle.asp_model.specs.Status.{status_of}
use Rattle.def_journals.specs.Journals.{number_of}
use Rattle.law_chases.proofs.FutureLemmas.{some_is}
use Rattle.law_chases.proofs.MapLemmas.{find_same}
use Rattle.law_steps.proofs.NameLemmas.{name_same, name_total}
use Rattle.step_activity.specs.declared.act.Given.{Given}
use Rattle.step_activity.specs.declared.act.Given.TheVariants as given
use Rattle.replay_population.specs.declared.population.Population.{Population}
use Rattle.replay_population.specs.Population.{IsPopulation, with_activity, with_poll}
use Rattle.replay_population.proofs.PopulationLemmas.{absent_nowhere}
use Rattle.replay_parts.proofs.RosterLemmas.{number_named}
use Rattle.law_steps.specs.Waking.{labels_wanted}
use Rattle.replay_parts.specs.Notes.{NoteShape, HasNames, Printed, faulted_by, given_by, noted_as, notes_of, place_of, places_by, places_in, printed_by, served_by}

-- the place of an activity that is there
pub place_at : (c : Configuration) (n : Name) (a : Activity) → find name_cmp n c.activities ≡ Some a → place_of c n ≡ places_by n a (labels_wanted a) ++ faulted_by n a (status_of c n)
place_at c n a is = ap (λ (o : Option Activity). elim o [ None ↦ [] | Some a ↦ places_by n a (labels_wanted a) ++ faulted_by n a (status_of c n) ]) is

pub place_none : (c : Configuration) (n : Name) → find name_cmp n c.activities ≡ None → place_of c n ≡ []
place_none c n is = ap (λ (o : Option Activity). elim o [ None ↦ [] | Some a ↦ places_by n a (labels_wanted a) ++ faulted_by n a (status_of c n) ]) is

-- where it stands, and then its fault
pub told_place : (tells : List NoteShape → Type 0) (xs : List NoteShape) (c : Configuration) (n : Name) (a : Activity) (s : StatusShape) → find name_cmp n c.activities ≡ Some a → s ≡ status_of c n
    → tells ((xs ++ places_by n a (labels_wanted a)) ++ faulted_by n a s) → tells (xs ++ place_of c n)
told_place tells xs c n a s is same t =
    let ps = places_by n a (labels_wanted a) in
    subst tells (append_assoc xs ps (faulted_by n a s) ∙ (λ i. xs ++ (ps ++ faulted_by n a (same i))) ∙ ap (λ ys. xs ++ ys) (sym (place_at c n a is))) t

-- what is given, and then what is printed
pub told_given : (tells : List NoteShape → Type 0) (xs : List NoteShape) (n : Name) (a : Activity) (e : Effect)
    → tells ((xs ++ map (noted_as n a.reductions) (given_by e)) ++ map (noted_as n a.reductions) (printed_by a e.own)) → tells (xs ++ map (noted_as n a.reductions) (given_by e ++ printed_by a e.own))
told_given tells xs n a e t =
    let f = noted_as n a.reductions in
    let g = given_by e in
    let p = printed_by a e.own in
    subst tells (append_assoc xs (map f g) (map f p) ∙ ap (λ ys. xs ++ ys) (sym (map-append f g p))) t

-- a service, and then the others
pub told_step : (tells : List NoteShape → Type 0) (xs : List NoteShape) (n : Name) (a : Activity) (e : Effect)
    → tells ((xs ++ map (noted_as n a.reductions) (served_by (labels_wanted a))) ++ map (noted_as n a.reductions) (given_by e ++ printed_by a e.own)) → tells (xs ++ notes_of n a (Acts e))
told_step tells xs n a e t =
    let f = noted_as n a.reductions in
    let s = served_by (labels_wanted a) in
    let others = given_by e ++ printed_by a e.own in
    subst tells (append_assoc xs (map f s) (map f others) ∙ ap (λ ys. xs ++ ys) (sym (map-append f s others))) t

-- the lines behind those that an activity had
pub lines_behind : (ls all : List Line) (k : ℕ) (a b : Activity) → ls ≡ drop k all → k ≡ length a.lines → map line_shape all ≡ b.lines → map Printed (map line_shape ls) ≡ printed_by a b
lines_behind ls all k a b same few lines = ap (map Printed) (ap (map line_shape) same ∙ sym (drop-map line_shape k all) ∙ (λ i. drop (few i) (lines i)))

-- after its reduction an activity is there as it left itself
pub acted_at : (n : Name) (g : Given) (c : Configuration) (a : Activity) → find name_cmp n (with_poll n g (with_activity n a c)).activities ≡ Some a
acted_at n given.Nothing c a = find_same name_cmp name_total name_same n a c.activities
acted_at n (given.Made m x) c a = find_same name_cmp name_total name_same n a c.activities
acted_at n (given.Sent m r) c a = find_same name_cmp name_total name_same n a c.activities
acted_at n (given.Filled f v) c a = find_same name_cmp name_total name_same n a c.activities
acted_at n given.Polled c a = find_same name_cmp name_total name_same n a c.activities

-- one place more
pub places_more : (c : Configuration) (ns : List Name) (n : Name) → places_in c (ns ++ n ∷ []) ≡ places_in c ns ++ place_of c n
places_more c [] n = append-nil (place_of c n)
places_more c (m ∷ ns) n = ap (λ ys. place_of c m ++ ys) (places_more c ns n) ∙ sym (append_assoc (place_of c m) (places_in c ns) (place_of c n))

-- the name of the next number is one more
pub next_place : (ns : List Name) (i : ℕ) (n : Name) → slice_get ns i ≡ Some n → take (i + 1) ns ≡ take i ns ++ n ∷ []
next_place ns i n is =
    let lt = slice_get_within ns i n is in
    let same : get_or ns i n ≡ n = some_is (sym (slice_get-get_or ns i n lt) ∙ is) in
    take_more ns i n lt ∙ ap (λ m. take i ns ++ m ∷ []) same

-- it is told where one more stands
pub told_next : (tells : List NoteShape → Type 0) (xs : List NoteShape) (c : Configuration) (ns : List Name) (i : ℕ) (n : Name) → slice_get ns i ≡ Some n → tells ((xs ++ places_in c (take i ns)) ++ place_of c n) → tells (xs ++ places_in c (take (i + 1) ns))
told_next tells xs c ns i n is t = subst tells (append_assoc xs (places_in c (take i ns)) (place_of c n) ∙ ap (λ ys. xs ++ ys) (sym (ap (places_in c) (next_place ns i n is) ∙ places_more c (take i ns) n))) t

-- each activity has a number
pub names_there : (p : Population) (c : Configuration) → IsPopulation p c → HasNames c p.roster
names_there p c h n there = by (number_of n p.roster) refl
  where
    by : (o : Option ℕ) → number_of n p.roster ≡ o → (k : ℕ) × (slice_get p.roster k ≡ Some n)
    by None e = absent_nowhere p c n h e there
    by (Some k) e = (k, number_named p.roster n k e)
