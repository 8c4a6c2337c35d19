-- What was made over a table, once that has grown.
use Rattle.std.proofs.Common.{◌≡◌, ℕ, List, [], ◌∷◌, ◌++◌, length, map, refl, sym, ap, subst, ◌∙◌, arith}
use Rattle.std.proofs.lemmas.List.{append-nil, append_assoc}
use Rattle.asp_model.specs.Configuration.{RequestShape}
use Rattle.asp_model.specs.Store.{CellShape}
use Rattle.law_steps.specs.Linked.{Each}
use Rattle.code_compiler.specs.Compiled.{Grows}
use Rattle.code_table.specs.Cells.{CodedCell, CodedStore}
use Rattle.code_table.specs.declared.code.Node.{Node}
use Rattle.code_table.specs.Shapes.{cell_of, store_of}
use Rattle.code_table.specs.Sound.{IsSound}
use Rattle.checkpoint_makes.specs.Later.{AreMadeFrom, IsPushed, Later}
use Rattle.asp_model.specs.Shapes.{future_shape}
use Rattle.code_table.specs.Cells.{held_future}
use Rattle.checkpoint_reading.specs.declared.parts.ParcelText.{ParcelText}
use Rattle.checkpoint_reading.specs.declared.parts.RequestText.{RequestText}
use Rattle.checkpoint_reading.specs.Cells.{cell_shape, parcel_shape, request_shape}
use Rattle.checkpoint_makes.specs.declared.parcels.MadeParcel.{MadeParcel}
use Rattle.checkpoint_makes.specs.Parcels.{AreMadeRequests, IsMadeParcel, IsMadeRequest, request_by}
use Rattle.checkpoint_makes.specs.declared.parcels.MadeRequest.{MadeRequest}

-- Tables

pub grows_none : (ns : List Node) → Grows ns ns
grows_none ns = record { added = []; grown = sym (append-nil ns); table = λ t. t }

pub grows_on : (ns ms ks : List Node) → Grows ns ms → Grows ms ks → Grows ns ks
grows_on ns ms ks g h = record {
  added = g.added ++ h.added;
  grown = h.grown ∙ ap (λ xs. xs ++ h.added) g.grown ∙ append_assoc ns g.added h.added;
  table = λ t. h.table (g.table t);
}

pub later_on : (P : List Node → Type 0) (ns ms : List Node) → Grows ns ms → Later ns P → Later ms P
later_on P ns ms g later = λ added sound.
    let same : ms ++ added ≡ ns ++ (g.added ++ added) = ap (λ xs. xs ++ added) g.grown ∙ append_assoc ns g.added added in
    subst P (sym same) (later (g.added ++ added) (subst IsSound same sound))

-- Lists

pub map_more : {X Y : Type 0} (f : X → Y) (xs : List X) (x : X) → map f (xs ++ x ∷ []) ≡ map f xs ++ f x ∷ []
map_more f [] x = refl
map_more f (y ∷ xs) x = ap (λ ys. f y ∷ ys) (map_more f xs x)

-- what holds of each holds of the next one
pub each_at : {X Y : Type 0} (P : Y → Type 0) (f : X → Y) (xs : List X) (x : X) (ys : List X) → Each P (map f (xs ++ (x ∷ ys))) → P (f x)
each_at P f [] x ys h = h.0
each_at P f (z ∷ xs) x ys h = each_at P f xs x ys h.1

-- Cells

pub nothing_made : (ns : List Node) (ds : CodedStore) → ds ≡ [] → AreMadeFrom ns ns ds []
nothing_made ns ds e = record { grows = grows_none ns; made = λ added sound. ap (store_of (ns ++ added)) e }

pub made_more : (ns ms ks : List Node) (ds es : CodedStore) (cs : List CellShape) (c : CellShape) → AreMadeFrom ns ms ds cs → IsPushed ms ks ds es c → AreMadeFrom ns ks es (cs ++ c ∷ [])
made_more ns ms ks ds es cs c from pushed = record {
  grows = grows_on ns ms ks from.grows pushed.grows;
  made = λ added sound. pushed.made added sound ∙ ap (λ xs. xs ++ c ∷ []) (later_on (λ k. store_of k ds ≡ cs) ms ks pushed.grows from.made added sound);
}

-- a cell that has no class stands for the same in each code
pub plain_pushed : (ns : List Node) (old new : CodedStore) (d : CodedCell) (c : CellShape) → new ≡ old ++ d ∷ [] → ((k : List Node) → cell_of k d ≡ c) → IsPushed ns ns old new c
plain_pushed ns old new d c e is = record {
  grows = grows_none ns;
  made = λ added sound. ap (store_of (ns ++ added)) e ∙ map_more (cell_of (ns ++ added)) old d ∙ ap (λ x. store_of (ns ++ added) old ++ x ∷ []) (is (ns ++ added));
}

-- Requests

pub no_request : (ns : List Node) (rs : List MadeRequest) → rs ≡ [] → AreMadeRequests ns ns rs []
no_request ns rs e = record { grows = grows_none ns; made = λ added sound. ap (map (request_by (ns ++ added))) e }

pub one_more_request : (ns ms ks : List Node) (rs : List MadeRequest) (r : MadeRequest) (qs : List RequestShape) (q : RequestShape) → AreMadeRequests ns ms rs qs → IsMadeRequest ms ks r q → AreMadeRequests ns ks (rs ++ r ∷ []) (qs ++ q ∷ [])
one_more_request ns ms ks rs r qs q from one = record {
  grows = grows_on ns ms ks from.grows one.grows;
  made = λ added sound.
      let k : List Node = ks ++ added in
      map_more (request_by k) rs r
      ∙ (λ i. later_on (λ k. map (request_by k) rs ≡ qs) ms ks one.grows from.made added sound i ++ one.made added sound i ∷ []);
}

pub no_items : {X : Type 0} (xs : List X) → length xs ≡ 0 → xs ≡ []
no_items [] e = refl
no_items (x ∷ xs) e = absurd (omega (arith, e))

pub map_seam : {X Y : Type 0} (f : X → Y) (xs ys : List X) → map f (xs ++ ys) ≡ map f xs ++ map f ys
map_seam f [] ys = refl
map_seam f (x ∷ xs) ys = ap (λ zs. f x ∷ zs) (map_seam f xs ys)

pub each_here : {X : Type 0} (P : X → Type 0) (xs : List X) (x : X) (ys : List X) → Each P (xs ++ (x ∷ ys)) → P x
each_here P [] x ys h = h.0
each_here P (z ∷ xs) x ys h = each_here P xs x ys h.1

-- Parcels

pub parcel_made : (ns ms : List Node) (columns : CodedStore) (made : MadeParcel) (p : ParcelText) (places : List ℕ) → AreMadeFrom ns ms columns (map cell_shape p.cells.items) → made.cells.items ≡ columns
    → places ≡ p.roots.items → made.roots.items ≡ places → IsMadeParcel ns ms made (parcel_shape p)
parcel_made ns ms columns made p places from cells roots are = record {
  grows = from.grows;
  made = λ added sound. λ i. record {
    cells = (ap (store_of (ms ++ added)) cells ∙ from.made added sound) i;
    roots = (are ∙ roots) i;
  };
}

pub request_made : (ns ms : List Node) (made : MadeRequest) (r : RequestText) → made.label.text ≡ r.label.text → made.sender ≡ r.sender → held_future made.future ≡ future_shape r.future
    → IsMadeParcel ns ms made.arguments (parcel_shape r.arguments) → IsMadeRequest ns ms made (request_shape r)
request_made ns ms made r label sender future arguments = record {
  grows = arguments.grows;
  made = λ added sound. λ i. record {
    label = label i;
    sender = sender i;
    future = future i;
    arguments = arguments.made added sound i;
  };
}

-- Lists in other words

pub made_as : (ns ms : List Node) (ds : CodedStore) (cs bs : List CellShape) → bs ≡ cs → AreMadeFrom ns ms ds cs → AreMadeFrom ns ms ds bs
made_as ns ms ds cs bs q h = subst (AreMadeFrom ns ms ds) (sym q) h

pub requests_as : (ns ms : List Node) (rs ss : List MadeRequest) (qs ps : List RequestShape) → ss ≡ rs → ps ≡ qs → AreMadeRequests ns ms rs qs → AreMadeRequests ns ms ss ps
requests_as ns ms rs ss qs ps e q h = subst (λ zs. AreMadeRequests ns ms zs ps) (sym e) (subst (AreMadeRequests ns ms rs) (sym q) h)
