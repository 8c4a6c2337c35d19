-- What the edges tell of a verdict.
use Rattle.std.proofs.Common.{◌≡◌, ◌∙◌, ◌∷◌, ◌||◌, Bool, true, false, List, [], Option, Some, None, is_some, refl, sym, ap}
use Rattle.std.specs.Option.{option_map}
use Rattle.asp_model.specs.History.{HistoryShape}
use Rattle.asp_model.specs.Status.{verdict_of}
use Rattle.def_journals.specs.Journals.{RunShape}
use Rattle.def_journals.specs.Owed.{first_edge, goes_on, is_any, next_owed, verdict_told}
use Rattle.law_chases.proofs.FutureLemmas.{none_true}
use Rattle.code_table.specs.declared.code.Node.{Node}
use Rattle.future_update.specs.declared.edge.EdgeNames.{EdgeNames}
use Rattle.future_update.specs.Names.{delivery_along, edge_named}
use Rattle.future_update.specs.Holders.{HoldersView}
use Rattle.core_edges.specs.Due.{IsDue}
use Rattle.core_state.specs.declared.state.CoreState.{CoreState}
use Rattle.asp_core.specs.Runs.{Stand}
use Rattle.asp_core.proofs.DueLemmas.{first_so}
use Rattle.asp_core.proofs.StandLemmas.{known, numbered}

some_mapped : (o : Option EdgeNames) → is_some (option_map (λ x. delivery_along (edge_named x)) o) ≡ is_some o
some_mapped None = refl
some_mapped (Some x) = refl

-- an edge is due exactly where the first edge is there
pub due_told : (h : HistoryShape) (code : List Node) (s : RunShape) (x : CoreState) (v : HoldersView) (st : Stand h code s x v) (o : Option EdgeNames) → IsDue v o
    → is_some (first_edge s v.holders v.holders.edges v.answers) ≡ is_some o
due_told h code s x v st o due =
    ap is_some (first_so s v (numbered h code s x v st) st.edges.out (known h code s x v st) o due) ∙ some_mapped o

nobody_out : {A : Type 0} (xs : List A) → is_any xs ≡ false → xs ≡ []
nobody_out [] is = refl
nobody_out (x ∷ xs) is = none_true (sym is)

-- where a verdict is told nobody is out
pub home : (s : RunShape) (v : HoldersView) → is_some (verdict_told s v.holders v.answers) ≡ true → s.out ≡ []
home s v is = by (is_any s.out) refl is
  where
    by : (b : Bool) → is_any s.out ≡ b → is_some (elim (b || (is_some (next_owed s v.holders v.answers) || goes_on s)) [ true ↦ None | false ↦ Some (verdict_of s.configuration) ]) ≡ true → s.out ≡ []
    by true any is = none_true is
    by false any is = nobody_out s.out any
