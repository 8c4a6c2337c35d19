-- Values that are unpacked at the places of strict operands.
use Rattle.std.proofs.Common.{◌≡◌, ◌+◌, ◌<◌, ◌≤◌, ℕ, suc, Bool, true, false, List, [], ◌∷◌, Result, Ok, Err, IfOk, add-one, drop, get_or, length, refl, sym, ap, subst, ◌∙◌}
use Rattle.std.proofs.Math.Seq.{drop-cons}
use Rattle.std.proofs.lemmas.List.{drop_all}
use Rattle.std.specs.Arc.{arc_value}
use Rattle.std.specs.List.{Contains}
use Rattle.std.specs.Map.{values_of as parcels}
use Rattle.std.proofs.lemmas.List.Elements.{All-contains, All-from_recursion, All-map}
use Rattle.asp_model.specs.declared.name.FutureName.{FutureName}
use Rattle.asp_model.specs.Names.{FutureShape}
use Rattle.asp_model.specs.Store.{Future, Store, cell}
use Rattle.asp_model.specs.Parcel.{ParcelShape, unpack_at}
use Rattle.asp_model.specs.Chase.{Chase, Value}
use Rattle.asp_model.specs.Configuration as model
use Rattle.asp_model.specs.Intent.{Ready, Reads, Lacks, fetched, operand_ready, operands_ready}
use Rattle.code_table.specs.declared.cells.Parcel.{Parcel}
use Rattle.code_table.specs.declared.code.Node.{Node}
use Rattle.activity_step.specs.declared.activity.Activity.{Activity}
use Rattle.activity_step.specs.Activities.{StandsFor}
use Rattle.asp_model.specs.Contraction.{members_of}
use Rattle.step_reads.specs.declared.strict.Strict.TheVariants as strict
use Rattle.step_reads.specs.Strict.{IsFetched, members_ready, strict_ready}
use Rattle.future_table.specs.Values.{AreOfCode}
use Rattle.step_reads.proofs.ReadyLemmas.{more_ready, one_ready}

-- a parcel of the table is of the run's code
pub of_code : (k : List Node) (es : List (FutureName × Parcel)) (p : Parcel) → AreOfCode k es → Contains (parcels es) p → arc_value p.code ≡ k
of_code k es p h at =
    let P : Parcel → Type 0 = λ q. arc_value q.code ≡ k in
    All-contains P (parcels es) p (All-map P (λ (e : FutureName × Parcel). e.1) es (All-from_recursion (λ (e : FutureName × Parcel). P e.1) es h)) at

-- where a future stands whose chase has a value, it is read there
pub reads_value : (chases : FutureShape → Chase) (s : Store) (n : ℕ) (f g : FutureShape) (p : ParcelShape) → cell s n ≡ Future f → chases f ≡ Value g p → operand_ready chases s n (cell s n) ≡ Reads (unpack_at s n p)
reads_value chases s n f g p at is = ap (operand_ready chases s n) at ∙ ap (fetched s n) is

-- Two operands

-- the first one is read: the activity stands over that store
pub record IsOver (a : model.Activity) (x : Ready) (new : Activity) : Type 0 where
  pub store : Store
  pub reads : x ≡ Reads store
  pub stands : StandsFor new (record a { store = store })

pub over : (a : model.Activity) (x : Ready) (new : Activity) (b : Bool) → b ≡ true → IsFetched a x new b → IsOver a x new
over a (Reads s) new b e h = record { store = s; reads = refl; stands = h.1 }
over a (Lacks f) new b e h = let no : false ≡ true = sym h ∙ e in absurd cc

second_ready : (chases : FutureShape → Chase) (s t : Store) (i k : ℕ) → operand_ready chases s i (cell s i) ≡ Reads t → operands_ready chases s (i ∷ k ∷ []) ≡ operand_ready chases t k (cell t k)
second_ready chases s t i k e = more_ready chases s i (k ∷ []) (Reads t) e ∙ one_ready (operand_ready chases t k (cell t k))

fetched_over : (a : model.Activity) (s : Store) (x : Ready) (new : Activity) (b : Bool) → IsFetched (record a { store = s }) x new b → IsFetched a x new b
fetched_over a s (Reads t) new b h = h
fetched_over a s (Lacks f) new b h = h

pub both_fetched : {E : Type 0} (chases : FutureShape → Chase) (a : model.Activity) (s : Store) (i k : ℕ) (new : Activity) (r : Result Bool E) → operand_ready chases a.store i (cell a.store i) ≡ Reads s
    → IfOk r (IsFetched (record a { store = s }) (operand_ready chases s k (cell s k)) new) → IfOk r (IsFetched a (operands_ready chases a.store (i ∷ k ∷ [])) new)
both_fetched chases a s i k new (Ok b) e h = subst (λ (x : Ready). IsFetched a x new b) (sym (second_ready chases a.store s i k e)) (fetched_over a s (operand_ready chases s k (cell s k)) new b h)
both_fetched chases a s i k new (Err x) e h = tt

-- Members, one after the other

-- the first ones were read: the activity stands over that store
pub record IsOnWay (chases : FutureShape → Chase) (a : model.Activity) (ns : List ℕ) (i : ℕ) (new : Activity) : Type 0 where
  pub store : Store
  pub stands : StandsFor new (record a { store = store })
  pub left : operands_ready chases a.store ns ≡ operands_ready chases store (drop i ns)

pub started : (chases : FutureShape → Chase) (a : model.Activity) (ns : List ℕ) (new : Activity) → StandsFor new a → IsOnWay chases a ns 0 new
started chases a ns new h = record { store = a.store; stands = h; left = refl }

-- the next one and the others
split_left : (chases : FutureShape → Chase) (a : model.Activity) (ns : List ℕ) (i : ℕ) (new : Activity) (w : IsOnWay chases a ns i new) → i < length ns → operands_ready chases a.store ns ≡ operands_ready chases w.store (get_or ns i 0 ∷ drop (suc i) ns)
split_left chases a ns i new w lt = w.left ∙ ap (operands_ready chases w.store) (drop-cons ns i 0 lt)

lacks_by : (chases : FutureShape → Chase) (a : model.Activity) (s : Store) (n : ℕ) (ns : List ℕ) (new : Activity) (b : Bool) (y : Ready) → operand_ready chases s n (cell s n) ≡ y → b ≡ false → IsFetched (record a { store = s }) y new b → IsFetched a (operands_ready chases s (n ∷ ns)) new false
lacks_by chases a s n ns new b (Reads t) e isnt h = let wrong : false ≡ true = sym isnt ∙ h.0 in absurd cc
lacks_by chases a s n ns new b (Lacks f) e isnt h = subst (λ (x : Ready). IsFetched a x new false) (sym (more_ready chases s n ns (Lacks f) e)) refl

pub first_lacks : (chases : FutureShape → Chase) (a : model.Activity) (ns : List ℕ) (i : ℕ) (old new : Activity) (b : Bool) (w : IsOnWay chases a ns i old) → i < length ns → b ≡ false
    → IsFetched (record a { store = w.store }) (operand_ready chases w.store (get_or ns i 0) (cell w.store (get_or ns i 0))) new b → IsFetched a (operands_ready chases a.store ns) new false
first_lacks chases a ns i old new b w lt isnt h =
    let n : ℕ = get_or ns i 0 in
    subst (λ (x : Ready). IsFetched a x new false) (sym (split_left chases a ns i old w lt)) (lacks_by chases a w.store n (drop (suc i) ns) new b (operand_ready chases w.store n (cell w.store n)) refl isnt h)

pub on_way : (chases : FutureShape → Chase) (a : model.Activity) (ns : List ℕ) (i : ℕ) (old new : Activity) (b : Bool) (w : IsOnWay chases a ns i old) → i < length ns → b ≡ true
    → IsFetched (record a { store = w.store }) (operand_ready chases w.store (get_or ns i 0) (cell w.store (get_or ns i 0))) new b → IsOnWay chases a ns (i + 1) new
on_way chases a ns i old new b w lt is h =
    let n : ℕ = get_or ns i 0 in
    let u : IsOver (record a { store = w.store }) (operand_ready chases w.store n (cell w.store n)) new = over (record a { store = w.store }) (operand_ready chases w.store n (cell w.store n)) new b is h in
    record {
      store = u.store;
      stands = u.stands;
      left = split_left chases a ns i old w lt ∙ more_ready chases w.store n (drop (suc i) ns) (Reads u.store) u.reads ∙ ap (λ (j : ℕ). operands_ready chases u.store (drop j ns)) (sym (add-one i));
    }

pub ended : (chases : FutureShape → Chase) (a : model.Activity) (ns : List ℕ) (i : ℕ) (new : Activity) → IsOnWay chases a ns i new → length ns ≤ i → IsFetched a (operands_ready chases a.store ns) new true
ended chases a ns i new w le = subst (λ (x : Ready). IsFetched a x new true) (sym (w.left ∙ ap (operands_ready chases w.store) (drop_all i ns le))) (refl, w.stands)

-- A group, and its members

pub group_lacks : (chases : FutureShape → Chase) (a : model.Activity) (i : ℕ) (new : Activity) (b : Bool) (x : Ready) → b ≡ false → IsFetched a x new b → IsFetched a (members_ready chases i x) new false
group_lacks chases a i new b (Reads t) isnt h = let wrong : false ≡ true = sym isnt ∙ h.0 in absurd cc
group_lacks chases a i new b (Lacks f) isnt h = refl

pub members_fetched : {E : Type 0} (chases : FutureShape → Chase) (a : model.Activity) (s : Store) (i : ℕ) (new : Activity) (r : Result Bool E) → operand_ready chases a.store i (cell a.store i) ≡ Reads s
    → IfOk r (IsFetched (record a { store = s }) (operands_ready chases s (members_of (cell s i))) new) → IfOk r (IsFetched a (strict_ready chases a.store (strict.Members i)) new)
members_fetched chases a s i new (Ok b) e h = subst (λ (x : Ready). IsFetched a x new b) (sym (ap (members_ready chases i) e)) (fetched_over a s (operands_ready chases s (members_of (cell s i))) new b h)
members_fetched chases a s i new (Err x) e h = tt
