-- Advances from what a redex comes to.
use Rattle.std.specs.Prelude.{ℤ}
use Rattle.std.proofs.Common.{◌≡◌, ℕ, Bool, true, false, List, [], ◌∷◌, ◌++◌, length, map, refl, sym, ap, subst, ◌∙◌}
use Rattle.std.proofs.lemmas.List.{append-nil}
use Rattle.asp_model.specs.Term.{Tree, loc}
use Rattle.asp_model.specs.Split.{Redex, plug}
use Rattle.asp_model.specs.Store as store
use Rattle.asp_model.specs.Store.{Store}
use Rattle.asp_model.specs.Configuration.{ServiceShape}
use Rattle.asp_model.specs.Contraction.{LineShape, Becomes, contract}
use Rattle.asp_model.specs.Shapes.{line_shape}
use Rattle.code_table.specs.declared.code.Node.{Node}
use Rattle.code_table.specs.Cells as coded
use Rattle.code_table.specs.Cells.{CodedStore}
use Rattle.code_table.specs.Shapes.{store_of}
use Rattle.code_table.proofs.CodedLemmas.{length-store_of, store_of-append}
use Rattle.step_rows.specs.Decisions.{decided}
use Rattle.step_rows.specs.declared.decision.Decision.TheVariants as decision
use Rattle.step_machine.specs.Rows.{place_view, IsAtRedex, Contracts}
use Rattle.step_machine.specs.Standing.{View, Standing, view_of}
use Rattle.activity_step.specs.declared.state.State.{State}
use Rattle.activity_step.specs.declared.advance.Advance.{Advance}
use Rattle.activity_step.specs.declared.advance.Advance.TheVariants as advance
use Rattle.step_machine.specs.Sites.{Gives, GivesTwo, given_view, number_redex}
use Rattle.activity_step.specs.Activities.{reduces}
use Rattle.activity_step.specs.Advances.{Stands, Reduced, IsTold, IsStopped, Told, IsReduction, IsAdvance, IsStop, IsTaken, AreTaken}

-- what is no contraction is told
pub stopped : (k : List Node) (x : State) (t : Tree) (vs : List ServiceShape) (s : Store) (ls : List LineShape) (go : Bool) (n : ℕ) (r : Redex) (a : Advance) → Stands k x t vs s ls → IsAtRedex k (view_of x.machine) t vs n r
    → IsStopped a (contract (store_of k x.store.cells) r) → IsAdvance k x t vs s ls go a
stopped k x t vs s ls go n r advance.Reduces h at is = absurd is
stopped k x t vs s ls go n r (advance.Rests p) h at is = absurd is
stopped k x t vs s ls go n r (advance.Faults f) h at is = record { contexts = at.contexts; redex = r; splits = at.splits; is = subst (λ (q : Store). IsTold (advance.Faults f) (contract q r)) h.store is; kept = h }
stopped k x t vs s ls go n r (advance.Needs p) h at is = record { contexts = at.contexts; redex = r; splits = at.splits; is = subst (λ (q : Store). IsTold (advance.Needs p) (contract q r)) h.store is; kept = h }
stopped k x t vs s ls go n r (advance.Creates p) h at is = record { contexts = at.contexts; redex = r; splits = at.splits; is = subst (λ (q : Store). IsTold (advance.Creates p) (contract q r)) h.store is; kept = h }
stopped k x t vs s ls go n r advance.Sends h at is = record { contexts = at.contexts; redex = r; splits = at.splits; is = subst (λ (q : Store). IsTold advance.Sends (contract q r)) h.store is; kept = h }
stopped k x t vs s ls go n r advance.Serves h at is = record { contexts = at.contexts; redex = r; splits = at.splits; is = subst (λ (q : Store). IsTold advance.Serves (contract q r)) h.store is; kept = h }
stopped k x t vs s ls go n r advance.Polls h at is = record { contexts = at.contexts; redex = r; splits = at.splits; is = subst (λ (q : Store). IsTold advance.Polls (contract q r)) h.store is; kept = h }

-- a contraction is told where none may be taken
pub could : (k : List Node) (x : State) (t : Tree) (vs : List ServiceShape) (s : Store) (ls : List LineShape) (go : Bool) (n : ℕ) (r : Redex) → Stands k x t vs s ls → IsAtRedex k (view_of x.machine) t vs n r → go ≡ false
    → IsTold advance.Reduces (contract (store_of k x.store.cells) r) → IsReduction k x t vs s ls go
could k x t vs s ls go n r h at closed is =
    let told : Told k x t vs s ls advance.Reduces = record { contexts = at.contexts; redex = r; splits = at.splits; is = subst (λ (q : Store). IsTold advance.Reduces (contract q r)) h.store is; kept = h } in
    subst (IsReduction k x t vs s ls) (sym closed) told

-- the redex became a place
pub placed : (k : List Node) (x y : State) (t : Tree) (vs : List ServiceShape) (s : Store) (ls : List LineShape) (go : Bool) (n : ℕ) (r : Redex) (p : ℕ) (added : List LineShape) → Stands k x t vs s ls → IsAtRedex k (view_of x.machine) t vs n r → go ≡ true
    → contract (store_of k x.store.cells) r ≡ Becomes (loc p) (store_of k y.store.cells) added → view_of y.machine ≡ place_view n p (view_of x.machine) → map line_shape y.lines.items ≡ map line_shape x.lines.items ++ added
    → IsReduction k y t vs s ls go
placed k x y t vs s ls go n r p added h at opened is view lines =
    let reduced : Reduced k y t vs s ls = record {
      contexts = at.contexts;
      redex = r;
      becomes = loc p;
      store = store_of k y.store.cells;
      added = added;
      splits = at.splits;
      is = ap (λ (q : Store). contract q r) (sym h.store) ∙ is;
      after = record { machine = subst (λ (v : View). Standing k v (plug at.contexts (loc p)) vs) (sym view) (at.place p); store = refl; lines = lines ∙ ap (λ (l : List LineShape). l ++ added) h.lines };
    } in
    subst (IsReduction k y t vs s ls) (sym opened) reduced

-- a contraction of the term alone is told, or was taken
pub could_contract : (k : List Node) (x : State) (t : Tree) (vs : List ServiceShape) (s : Store) (ls : List LineShape) (go : Bool) (v : View) → Stands k x t vs s ls → go ≡ false
    → Contracts k t vs (store_of k x.store.cells) (store_of k x.store.cells) [] v → IsReduction k x t vs s ls go
could_contract k x t vs s ls go v h closed c =
    let told : Told k x t vs s ls advance.Reduces = record { contexts = c.contexts; redex = c.redex; splits = c.splits; is = subst (λ (q : Store). IsTold advance.Reduces (contract q c.redex)) h.store (c.becomes, store_of k x.store.cells, [], c.is); kept = h } in
    subst (IsReduction k x t vs s ls) (sym closed) told

pub contracted : (k : List Node) (x y : State) (t : Tree) (vs : List ServiceShape) (s : Store) (ls : List LineShape) (go : Bool) (v : View) → Stands k x t vs s ls → go ≡ true
    → Contracts k t vs (store_of k x.store.cells) (store_of k x.store.cells) [] v → view_of y.machine ≡ v → y.store ≡ x.store → y.lines ≡ x.lines → IsReduction k y t vs s ls go
contracted k x y t vs s ls go v h opened c view store lines =
    let reduced : Reduced k y t vs s ls = record {
      contexts = c.contexts;
      redex = c.redex;
      becomes = c.becomes;
      store = store_of k x.store.cells;
      added = [];
      splits = c.splits;
      is = ap (λ (q : Store). contract q c.redex) (sym h.store) ∙ c.is;
      after = record {
        machine = subst (λ (w : View). Standing k w (plug c.contexts c.becomes) vs) (sym view) c.after;
        store = ap (λ q. store_of k q.cells) store;
        lines = ap (λ l. map line_shape l.items) lines ∙ h.lines ∙ sym (append-nil ls);
      };
    } in
    subst (IsReduction k y t vs s ls) (sym opened) reduced

-- an advance that may contract took a contraction, or did nothing
pub taken : (k : List Node) (x : State) (t : Tree) (vs : List ServiceShape) (s : Store) (ls : List LineShape) (r : Advance) → IsAdvance k x t vs s ls true r → IsTaken k x t vs s ls (reduces r)
taken k x t vs s ls advance.Reduces h = h
taken k x t vs s ls (advance.Rests p) h = h.kept
taken k x t vs s ls (advance.Faults f) h = h.kept
taken k x t vs s ls (advance.Needs p) h = h.kept
taken k x t vs s ls (advance.Creates p) h = h.kept
taken k x t vs s ls advance.Sends h = h.kept
taken k x t vs s ls advance.Serves h = h.kept
taken k x t vs s ls advance.Polls h = h.kept

-- a redex below a node became a place
pub given : (k : List Node) (x y : State) (t : Tree) (vs : List ServiceShape) (s : Store) (ls : List LineShape) (number from done p : ℕ) (r : Redex) (added : List LineShape) → Stands k x t vs s ls → Gives k t vs (view_of x.machine) number from done r
    → contract (store_of k x.store.cells) r ≡ Becomes (loc p) (store_of k y.store.cells) added → view_of y.machine ≡ given_view number from done p (view_of x.machine) → map line_shape y.lines.items ≡ map line_shape x.lines.items ++ added
    → Reduced k y t vs s ls
given k x y t vs s ls number from done p r added h at is view lines = record {
  contexts = at.contexts;
  redex = r;
  becomes = loc p;
  store = store_of k y.store.cells;
  added = added;
  splits = at.splits;
  is = ap (λ (q : Store). contract q r) (sym h.store) ∙ is;
  after = record { machine = subst (λ (v : View). Standing k v (plug at.contexts (loc p)) vs) (sym view) (at.place p); store = refl; lines = lines ∙ ap (λ (l : List LineShape). l ++ added) h.lines };
}

-- one contraction
pub one_taken : (k : List Node) (x : State) (t : Tree) (vs : List ServiceShape) (s : Store) (ls : List LineShape) → Reduced k x t vs s ls → AreTaken k x t vs s ls 1
one_taken k x t vs s ls r = (record { contexts = r.contexts; redex = r.redex; becomes = r.becomes; store = r.store; added = r.added; splits = r.splits; is = r.is }, r.after)

-- a number below a node became a place, and then a redex over it became another number
pub two_given : (k : List Node) (x y : State) (t : Tree) (vs : List ServiceShape) (s : Store) (ls : List LineShape) (number from done p : ℕ) (z w : ℤ) (r : ℕ → Redex) → Stands k x t vs s ls → GivesTwo k t vs (view_of x.machine) number from done z r
    → contract (store_of k (x.store.cells ++ coded.Number z ∷ [])) (r (length x.store.cells)) ≡ decided k (x.store.cells ++ coded.Number z ∷ []) (decision.Number w)
    → y.store.cells ≡ x.store.cells ++ coded.Number z ∷ [] ++ coded.Number w ∷ [] → p ≡ length (x.store.cells ++ coded.Number z ∷ [])
    → view_of y.machine ≡ given_view number from done p (view_of x.machine) → y.lines ≡ x.lines
    → AreTaken k y t vs s ls 2
two_given k x y t vs s ls number from done p z w r h at is cells place view lines =
    let old : CodedStore = x.store.cells in
    let mid : CodedStore = old ++ coded.Number z ∷ [] in
    let second : Gives k (plug at.contexts (loc (length old))) vs (view_of x.machine) number from done (r (length old)) = at.second (length old) in
    let first_is : contract (store_of k old) (number_redex z) ≡ Becomes (loc (length old)) (store_of k mid) [] = (λ i. Becomes (loc (length-store_of k old i)) (sym (store_of-append k old (coded.Number z ∷ [])) i) []) in
    let grown : store_of k mid ++ store.Number w ∷ [] ≡ store_of k y.store.cells = sym (store_of-append k mid (coded.Number w ∷ [])) ∙ ap (store_of k) (sym cells) in
    let end : length (store_of k mid) ≡ p = length-store_of k mid ∙ sym place in
    let second_is : contract (store_of k mid) (r (length old)) ≡ Becomes (loc p) (store_of k y.store.cells) [] = is ∙ (λ i. Becomes (loc (end i)) (grown i) []) in
    let machine : Standing k (view_of y.machine) (plug second.contexts (loc p)) vs = subst (λ (v : View). Standing k v (plug second.contexts (loc p)) vs) (sym view) (second.place p) in
    let out : map line_shape y.lines.items ≡ ls ++ [] ++ [] = ap (λ l. map line_shape l.items) lines ∙ h.lines ∙ sym (append-nil ls) ∙ sym (append-nil (ls ++ [])) in (
      record { contexts = at.contexts; redex = number_redex z; becomes = loc (length old); store = store_of k mid; added = []; splits = at.splits; is = ap (λ (q : Store). contract q (number_redex z)) (sym h.store) ∙ first_is },
      (
        record { contexts = second.contexts; redex = r (length old); becomes = loc p; store = store_of k y.store.cells; added = []; splits = second.splits; is = second_is },
        record { machine = machine; store = refl; lines = out },
      ),
    )

-- a stop that is told is an advance that took nothing
pub stop_advance : (k : List Node) (x : State) (t : Tree) (vs : List ServiceShape) (s : Store) (ls : List LineShape) (go : Bool) (r : Advance) → IsStop k x t vs s ls r → IsAdvance k x t vs s ls go r
stop_advance k x t vs s ls go advance.Reduces h = absurd h
stop_advance k x t vs s ls go (advance.Rests p) h = h
stop_advance k x t vs s ls go (advance.Faults f) h = h
stop_advance k x t vs s ls go (advance.Needs p) h = h
stop_advance k x t vs s ls go (advance.Creates p) h = h
stop_advance k x t vs s ls go advance.Sends h = h
stop_advance k x t vs s ls go advance.Serves h = h
stop_advance k x t vs s ls go advance.Polls h = h

pub stop_stays : (k : List Node) (x : State) (t : Tree) (vs : List ServiceShape) (s : Store) (ls : List LineShape) (r : Advance) → IsStop k x t vs s ls r → reduces r ≡ false
stop_stays k x t vs s ls advance.Reduces h = absurd h
stop_stays k x t vs s ls (advance.Rests p) h = refl
stop_stays k x t vs s ls (advance.Faults f) h = refl
stop_stays k x t vs s ls (advance.Needs p) h = refl
stop_stays k x t vs s ls (advance.Creates p) h = refl
stop_stays k x t vs s ls advance.Sends h = refl
stop_stays k x t vs s ls advance.Serves h = refl
stop_stays k x t vs s ls advance.Polls h = refl
