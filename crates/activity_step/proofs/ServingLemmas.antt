-- Activities whose services begin and end.
use Rattle.std.proofs.Common.{◌≡◌, ℕ, suc, List, [], ◌∷◌, ◌++◌, Option, Some, map, reverse, sym, ap, subst, ◌∙◌}
use Rattle.std.proofs.lemmas.List.{reverse-append}
use Rattle.std.specs.Arc.{arc_value}
use Rattle.std.specs.Option.{option_map}
use Rattle.asp_model.specs.Names.{FutureShape, Text}
use Rattle.asp_model.specs.Term.{Call, Make, Tree, leaf, locs_then, node, none}
use Rattle.asp_model.specs.Split.{Context, Redex, Splits, plug, split}
use Rattle.asp_model.specs.Store.{Store}
use Rattle.asp_model.specs.Parcel.{ParcelShape, unpack, unpacked_roots}
use Rattle.asp_model.specs.Configuration as model
use Rattle.asp_model.specs.Configuration.{ServiceShape}
use Rattle.asp_model.specs.Intent.{but_newest, newest}
use Rattle.asp_model.specs.Shapes.{line_shape}
use Rattle.code_table.specs.Cells.{held_future}
use Rattle.code_table.specs.declared.code.Node.{Node}
use Rattle.code_table.specs.Sound.{IsSound, empty_number}
use Rattle.code_table.specs.Shapes.{store_of}
use Rattle.step_machine.specs.Items.{contexts_of}
use Rattle.step_machine.specs.Rows.{without_last}
use Rattle.step_machine.specs.Services.{IsAtSome, IsResumed, suspended_view}
use Rattle.step_machine.specs.Standing.{Standing, View, view_of}
use Rattle.step_machine.proofs.ServiceLemmas.{Resumed, resumes, suspends}
use Rattle.activity_step.specs.declared.activity.Activity.{Activity}
use Rattle.activity_step.specs.Activities.{StandsFor}
use Rattle.activity_step.specs.Standings.{going_on, serving}
use Rattle.activity_step.specs.Advances.{Stands}
use Rattle.activity_step.proofs.NewestLemmas.{but_newest_is, newest_is}

-- the term in its contexts waits, and the call stands alone
pub served : (x y : Activity) (a : model.Activity) (v : View) (n : ℕ) (contexts : List Context) (redex : Redex) (l : Text) (f : FutureShape) (p : ParcelShape) (ks : List ℕ) → StandsFor x a → split a.term ≡ Splits contexts redex
    → IsAtSome (arc_value x.code) v a.term (reverse a.services) n → view_of y.state.machine ≡ suspended_view (option_map held_future x.present) l (x.active ∷ ks) (without_last n v)
    → store_of (arc_value x.code) y.state.store.cells ≡ unpack (store_of (arc_value x.code) x.state.store.cells) p → ks ≡ unpacked_roots (store_of (arc_value x.code) x.state.store.cells) p
    → y.state.lines ≡ x.state.lines → y.code ≡ x.code → option_map held_future y.present ≡ Some f → y.active ≡ x.active → y.count ≡ suc x.count
    → StandsFor y (serving contexts l f p a)
served x y a v n contexts redex l f p ks h splits at view cells roots lines code present active count =
    let k : List Node = arc_value x.code in
    let vs : List ServiceShape = reverse a.services in
    let same : contexts_of at.below.items ≡ contexts = let both : Splits (contexts_of at.below.items) at.redex ≡ Splits contexts redex = sym at.splits ∙ splits in cc in
    let service : ServiceShape = record { contexts = contexts; future = a.present } in
    let ms : List ℕ = unpacked_roots a.store p in
    let roots_are : ks ≡ ms = roots ∙ ap (λ (s : Store). unpacked_roots s p) h.state.store in
    let term : Tree = node (Call l) (locs_then (a.active ∷ ms) none) in
    let standing0 : Standing k (suspended_view (option_map held_future x.present) l (x.active ∷ ks) (without_last n v)) (node (Call l) (locs_then (x.active ∷ ks) none)) (record { contexts = contexts_of at.below.items; future = option_map held_future x.present } ∷ vs) =
    suspends k (without_last n v) vs at.below (option_map held_future x.present) l (x.active ∷ ks) at.low in
    let standing1 : Standing k (view_of y.state.machine) (node (Call l) (locs_then (x.active ∷ ks) none)) (record { contexts = contexts_of at.below.items; future = option_map held_future x.present } ∷ vs) =
    subst (λ (w : View). Standing k w (node (Call l) (locs_then (x.active ∷ ks) none)) (record { contexts = contexts_of at.below.items; future = option_map held_future x.present } ∷ vs)) (sym view) standing0 in
    let standing2 : Standing k (view_of y.state.machine) term (service ∷ vs) =
    subst (λ (z : (List ℕ × List Context) × (Option FutureShape)). Standing k (view_of y.state.machine) (node (Call l) (locs_then z.0.0 none)) (record { contexts = z.0.1; future = z.1 } ∷ vs)) (λ i. ((h.active i ∷ roots_are i, same i), h.present i)) standing1 in
    let newest_first : service ∷ vs ≡ reverse (a.services ++ service ∷ []) = sym (reverse-append a.services (service ∷ [])) in
    let standing : Standing k (view_of y.state.machine) term (reverse (a.services ++ service ∷ [])) = subst (Standing k (view_of y.state.machine) term) newest_first standing2 in
    let stored : store_of k y.state.store.cells ≡ unpack a.store p = cells ∙ ap (λ (s : Store). unpack s p) h.state.store in
    let shown : Stands k y.state term (reverse (a.services ++ service ∷ [])) (unpack a.store p) a.lines = record { machine = standing; store = stored; lines = ap (λ q. map line_shape q.items) lines ∙ h.state.lines } in
    record {
      state = subst (λ q. Stands (arc_value q) y.state term (reverse (a.services ++ service ∷ [])) (unpack a.store p) a.lines) (sym code) shown;
      present = present;
      active = active ∙ h.active;
      count = count ∙ ap suc h.count;
    }

first_service : (v w : ServiceShape) (vs : List ServiceShape) (xs : List ServiceShape) → newest xs ≡ Some v → reverse xs ≡ w ∷ vs → v ≡ w
first_service v w vs xs e f = let both : Some v ≡ Some w = sym e ∙ newest_is xs w vs f in cc

-- the newest service's term goes on
pub ended_service : (x y : Activity) (a : model.Activity) (s : ServiceShape) (f : Option FutureShape) → StandsFor x a → IsSound (arc_value x.code) → newest a.services ≡ Some s
    → IsResumed empty_number (view_of x.state.machine) (view_of y.state.machine) f
    → y.state.store ≡ x.state.store → y.state.lines ≡ x.state.lines → y.code ≡ x.code → option_map held_future y.present ≡ f → y.active ≡ x.active → y.count ≡ suc x.count
    → StandsFor y (going_on s a)
ended_service x y a s f h sound newest_s resumed store lines code present active count =
    let k : List Node = arc_value x.code in
    let r : Resumed k (view_of y.state.machine) (reverse a.services) f = resumes k empty_number (view_of x.state.machine) (view_of y.state.machine) f a.term (reverse a.services) sound.empty h.state.machine resumed in
    let same : s ≡ record { contexts = r.contexts; future = f } = first_service s (record { contexts = r.contexts; future = f }) r.others a.services newest_s r.services in
    let others : r.others ≡ reverse (but_newest a.services) = sym (but_newest_is a.services (record { contexts = r.contexts; future = f }) r.others r.services) in
    let term : Tree = plug s.contexts (leaf (Make [] [])) in
    let standing : Standing k (view_of y.state.machine) term (reverse (but_newest a.services)) =
    subst (λ (z : List Context × List ServiceShape). Standing k (view_of y.state.machine) (plug z.0 (leaf (Make [] []))) z.1) (λ i. ((sym same i).contexts, others i)) r.stands in
    let shown : Stands k y.state term (reverse (but_newest a.services)) a.store a.lines =
    record { machine = standing; store = ap (λ q. store_of k q.cells) store ∙ h.state.store; lines = ap (λ q. map line_shape q.items) lines ∙ h.state.lines } in
    record {
      state = subst (λ q. Stands (arc_value q) y.state term (reverse (but_newest a.services)) a.store a.lines) (sym code) shown;
      present = present ∙ sym (ap (λ (v : ServiceShape). v.future) same);
      active = active ∙ h.active;
      count = count ∙ ap suc h.count;
    }
