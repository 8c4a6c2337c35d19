-- Values that come in the order of their futures.
use Rattle.std.specs.Prelude.{◌≡◌, ◌&&◌, Bool, true, false, cond, T, List, [], ◌∷◌, ◌++◌, Option, Some, None, length, map}
use Rattle.std.proofs.Common.{refl, sym, ap, subst, ◌∙◌, arith}
use Rattle.std.proofs.lemmas.List.{append_assoc}
use Rattle.std.specs.declared.cmp.Ordering.{Ordering}
use Rattle.std.specs.declared.cmp.Ordering.TheVariants.{Less, Equal, Greater}
use Rattle.std.specs.Arc.{arc_value}
use Rattle.std.specs.Ordering.{is_eq, is_lt, ordering_reverse}
use Rattle.std.specs.FinMap.{find, is_sorted, put}
use Rattle.std.specs.FinMap.Entries.{below_all, by_order}
use Rattle.asp_model.specs.Names.{FutureShape, future_cmp}
use Rattle.asp_model.specs.Parcel.{ParcelShape}
use Rattle.law_chases.proofs.FutureLemmas.{future_total}
use Rattle.law_steps.proofs.EntryLemmas.{first_of_both, second_of_both}
use Rattle.code_table.specs.Cells.{held_future}
use Rattle.code_table.specs.declared.cells.Parcel.{Parcel}
use Rattle.code_table.specs.Shapes.{parcel_shape}
use Rattle.code_table.specs.declared.code.Node.{Node}
use Rattle.asp_model.specs.declared.name.FutureName.{FutureName}
use Rattle.future_table.specs.Values.{AreOfCode, StayOfCode, values_of}
use Rattle.checkpoint_makes.proofs.MadeLemmas.{grows_none, grows_on, later_on, map_more, map_seam}
use Rattle.checkpoint_makes.specs.Parcels.{IsMadeParcel, parcel_by}
use Rattle.checkpoint_makes.specs.declared.parcels.MadeParcel.{MadeParcel}
use Rattle.checkpoint_actors.specs.Values.{AreMadeValues, IsFilledBy, IsMadeValue, value_by}
use Rattle.checkpoint_actors.specs.declared.values.MadeValue.{MadeValue}

both_true : (a b : Bool) → T a → T b → T (a && b)
both_true true b p q = q
both_true false b p q = absurd p

-- Made one by one

pub value_made : (ns ms : List Node) (m : MadeValue) (g : FutureShape) (p : ParcelShape) → held_future m.future ≡ g → IsMadeParcel ns ms m.value p → IsMadeValue ns ms m (g, p)
value_made ns ms m g p future parcel = record { grows = parcel.grows; made = λ added sound. λ i. (future i, parcel.made added sound i) }

pub no_value : (ns : List Node) (all : List MadeValue) → all ≡ [] → AreMadeValues ns ns all []
no_value ns all e = record { grows = grows_none ns; made = λ added sound. ap (map (value_by (ns ++ added))) e }

pub one_more_value : (ns ms ks : List Node) (all : List MadeValue) (m : MadeValue) (vs : List (FutureShape × ParcelShape)) (v : FutureShape × ParcelShape) → AreMadeValues ns ms all vs → IsMadeValue ms ks m v
    → AreMadeValues ns ks (all ++ m ∷ []) (vs ++ v ∷ [])
one_more_value ns ms ks all m vs v from one = record {
  grows = grows_on ns ms ks from.grows one.grows;
  made = λ added sound.
      let k : List Node = ks ++ added in
      map_more (value_by k) all m
      ∙ (λ i. later_on (λ k. map (value_by k) all ≡ vs) ms ks one.grows from.made added sound i ++ one.made added sound i ∷ []);
}

pub values_as : (ns ms : List Node) (all more : List MadeValue) (vs ws : List (FutureShape × ParcelShape)) → more ≡ all → ws ≡ vs → AreMadeValues ns ms all vs → AreMadeValues ns ms more ws
values_as ns ms all more vs ws e q h = subst (λ zs. AreMadeValues ns ms zs ws) (sym e) (subst (AreMadeValues ns ms all) (sym q) h)

-- Filled one by one

abbrev Entries : Type 0
Entries = List (FutureShape × ParcelShape)

-- what comes last is greater than all before it
after : (f g : FutureShape) → T (is_lt (future_cmp f g)) → future_cmp g f ≡ Greater
after f g h = future_total.antisymm g f ∙ by (future_cmp f g) h
  where
    by : (r : Ordering) → T (is_lt r) → ordering_reverse r ≡ Greater
    by Less h = refl
    by Equal h = absurd h
    by Greater h = absurd h

below_last : (f g : FutureShape) (p : ParcelShape) (es : Entries) → T (below_all future_cmp f (es ++ (g, p) ∷ [])) → T (is_lt (future_cmp f g))
below_last f g p [] h = first_of_both (is_lt (future_cmp f g)) true h
below_last f g p (e ∷ es) h = below_last f g p es (second_of_both (is_lt (future_cmp f e.0)) (below_all future_cmp f (es ++ (g, p) ∷ [])) h)

pub put_last : (g : FutureShape) (p : ParcelShape) (es : Entries) → T (is_sorted future_cmp (es ++ (g, p) ∷ [])) → (put future_cmp g p es ≡ es ++ (g, p) ∷ []) × (find future_cmp g es ≡ None)
put_last g p [] h = (refl, refl)
put_last g p (e ∷ es) h =
    let more : Entries = es ++ (g, p) ∷ [] in
    let rest = put_last g p es (second_of_both (below_all future_cmp e.0 more) (is_sorted future_cmp more) h) in
    let greater : future_cmp g e.0 ≡ Greater = after e.0 g (below_last e.0 g p es (first_of_both (below_all future_cmp e.0 more) (is_sorted future_cmp more) h)) in (
      ap (λ r. by_order r ((g, p) ∷ e ∷ es) ((e.0, p) ∷ es) (e ∷ put future_cmp g p es)) greater ∙ ap (λ l. e ∷ l) rest.0,
      ap (λ r. cond (is_eq r) (Some e.1) (find future_cmp g es)) greater ∙ rest.1,
    )

-- those before others are in order
below_front : (f : FutureShape) (es more : Entries) → T (below_all future_cmp f (es ++ more)) → T (below_all future_cmp f es)
below_front f [] more h = tt
below_front f (e ∷ es) more h =
    let less : Bool = is_lt (future_cmp f e.0) in
    both_true less (below_all future_cmp f es) (first_of_both less (below_all future_cmp f (es ++ more)) h) (below_front f es more (second_of_both less (below_all future_cmp f (es ++ more)) h))

sorted_front : (es more : Entries) → T (is_sorted future_cmp (es ++ more)) → T (is_sorted future_cmp es)
sorted_front [] more h = tt
sorted_front (e ∷ es) more h =
    let all : Entries = es ++ more in
    both_true (below_all future_cmp e.0 es) (is_sorted future_cmp es) (below_front e.0 es more (first_of_both (below_all future_cmp e.0 all) (is_sorted future_cmp all) h))
    (sorted_front es more (second_of_both (below_all future_cmp e.0 all) (is_sorted future_cmp all) h))

-- the next value is put last
pub next_last : (k : List Node) (before : List MadeValue) (m : MadeValue) (rest : List MadeValue) → T (is_sorted future_cmp (map (value_by k) (before ++ (m ∷ rest))))
    → (let v : FutureShape × ParcelShape = value_by k m in let es : Entries = map (value_by k) before in (put future_cmp v.0 v.1 es ≡ es ++ v ∷ []) × (find future_cmp v.0 es ≡ None))
next_last k before m rest h =
    let v : FutureShape × ParcelShape = value_by k m in
    let es : Entries = map (value_by k) before in
    let more : Entries = map (value_by k) rest in
    let seam : map (value_by k) (before ++ (m ∷ rest)) ≡ (es ++ v ∷ []) ++ more = map_seam (value_by k) before (m ∷ rest) ∙ sym (append_assoc es (v ∷ []) more) in
    put_last v.0 v.1 es (sorted_front (es ++ v ∷ []) more (subst (λ l. T (is_sorted future_cmp l)) seam h))

pub value_last : (k : List Node) (before : List MadeValue) (m : MadeValue) (rest : List MadeValue) (old new : List (FutureName × Parcel)) → T (is_sorted future_cmp (map (value_by k) (before ++ (m ∷ rest))))
    → values_of old ≡ map (value_by k) before → IsFilledBy k m old new → values_of new ≡ map (value_by k) (before ++ m ∷ [])
value_last k before m rest old new sorted same h =
    h.values ∙ ap (put future_cmp (held_future m.future) (parcel_by k m.value)) same ∙ (next_last k before m rest sorted).0 ∙ sym (map_more (value_by k) before m)

pub filled_by : (k : List Node) (m : MadeValue) (old new : List (FutureName × Parcel)) (p : Parcel) → values_of new ≡ put future_cmp (held_future m.future) (parcel_shape p) (values_of old) → StayOfCode p old new
    → parcel_shape p ≡ parcel_by k m.value → arc_value p.code ≡ k → IsFilledBy k m old new
filled_by k m old new p values stay is coded = record { values = values ∙ ap (λ q. put future_cmp (held_future m.future) q (values_of old)) is; coded = stay k coded }

pub none_coded : (k : List Node) (es : List (FutureName × Parcel)) → values_of es ≡ [] → AreOfCode k es
none_coded k [] e = tt
none_coded k (x ∷ es) e = absurd (no_more (ap length e))
  where
    no_more : length (values_of (x ∷ es)) ≡ 0 → ⊥
    no_more n = omega (arith, n)
