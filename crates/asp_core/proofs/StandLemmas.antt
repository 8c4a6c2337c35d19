-- One entry more: activities and edges stand for the run of the longer history.
use Rattle.std.proofs.Common.{◌≡◌, ◌∙◌, ◌≤◌, ◌*◌, ◌-◌, ◌++◌, ℕ, true, false, List, is_some, length, refl, sym, ap, subst}
use Rattle.asp_model.specs.Configuration.{Configuration}
use Rattle.asp_model.specs.History.{Committed, Delivered, DeliveryShape, EntryShape, HistoryShape, Lent, with_entry}
use Rattle.asp_model.specs.Names.{Name}
use Rattle.asp_model.specs.Step.{name_at}
use Rattle.def_journals.specs.Edges.{EdgeShape, HoldersShape, after_events}
use Rattle.def_journals.specs.Journals.{RunShape, grant_of, granted}
use Rattle.def_journals.specs.Passing.{entry_events, holders_of}
use Rattle.law_journals.specs.EdgesKept.{IsKnownEdge, sends_in}
use Rattle.law_journals.proofs.BoundLemmas.{edges_are_bounded}
use Rattle.law_journals.proofs.KnownLemmas.{edges_are_known}
use Rattle.law_steps.specs.Linked.{Each}
use Rattle.law_journals.specs.Entered.{with_lease}
use Rattle.law_journals.specs.Numbered.{AreNumbered}
use Rattle.law_journals.specs.Runs.{AreHoldersOf}
use Rattle.law_journals.proofs.GrowingLemmas.{holders_go_on}
use Rattle.law_journals.proofs.RunLemmas.{holders_are_of_runs}
use Rattle.code_table.specs.declared.code.Node.{Node}
use Rattle.future_update.specs.Holders.{HoldersView, IsTurned, is_out}
use Rattle.law_core.specs.Commits.{returned}
use Rattle.core_state.specs.declared.state.CoreState.{CoreState}
use Rattle.core_state.specs.Cores.{IsCore}
use Rattle.core_thaws.specs.Holders.{SameHolders}
use Rattle.core_thaws.proofs.HolderLemmas.{are_same, same_events}
use Rattle.asp_core.specs.Runs.{AreToldOut, Stand, as_met}
use Rattle.asp_core.proofs.OutLemmas.{back_told, lent_told, met_told, names_met, names_more}

module _ (h : HistoryShape) (code : List Node) (s : RunShape) where
  module _ (x : CoreState) (v : HoldersView) (st : Stand h code s x v) where
    pub numbered : AreNumbered s
    numbered = st.core.numbered

    pub known : Each (IsKnownEdge s.configuration) v.holders.edges
    known = subst (Each (IsKnownEdge s.configuration)) (sym st.edges.holders.edges) (edges_are_known h s st.core.first.sound st.core.run)

    -- the edges know the homes of its futures, and which are filled
    pub holders_are : AreHoldersOf s.configuration v.holders
    holders_are = are_same v.holders (holders_of h) st.edges.holders s.configuration (holders_are_of_runs h s st.core.first.sound st.core.run)

    -- no more edges than futures times ordered pairs of activities
    pub bounded : length v.holders.edges ≤ sends_in s.configuration.activities * (length s.configuration.activities * (length s.configuration.activities - 1))
    bounded =
        subst (λ (es : List EdgeShape). length es ≤ sends_in s.configuration.activities * (length s.configuration.activities * (length s.configuration.activities - 1)))
        (sym st.edges.holders.edges) (edges_are_bounded h s st.core.first.sound st.core.run)

    pub goes_on : (w : HoldersView) (e : EntryShape) (t : RunShape) (y : CoreState) → IsCore (with_entry h e) code y t
        → w.holders ≡ after_events (entry_events e s) v.holders → length w.answers ≡ length w.holders.edges
        → names_met w.activities ≡ t.names → AreToldOut t w.activities → Stand (with_entry h e) code t y w
    goes_on w e t y core holders answers names told = record {
      core = core;
      edges = record {
        holders = subst (λ (q : HoldersShape). SameHolders q (holders_of (with_entry h e))) (sym holders)
            (subst (SameHolders (after_events (entry_events e s) v.holders)) (sym (holders_go_on h e s st.core.run)) (same_events (entry_events e s) v.holders (holders_of h) st.edges.holders));
        answers = answers;
        names = names;
        out = told;
      };
    }

    -- one is lent
    pub lends : (w : HoldersView) (y : CoreState) (k : ℕ) → IsCore (with_entry h (Lent k)) code y (with_lease s k)
        → IsTurned k true v.activities w.activities → w.holders ≡ v.holders → w.answers ≡ v.answers
        → Stand (with_entry h (Lent k)) code (with_lease s k) y w
    lends w y k core turned holders answers =
        goes_on w (Lent k) (with_lease s k) y core holders
        (ap length answers ∙ st.edges.answers ∙ ap (λ (q : HoldersShape). length q.edges) (sym holders))
        (turned.names ∙ st.edges.names)
        (lent_told s v.activities w.activities k (granted s) (s.left - granted s) numbered.apart st.edges.names st.edges.out turned)

    -- one is back, with those whom it made
    pub comes_back : (u w : HoldersView) (y : CoreState) (k r rest : ℕ) (d : Configuration) (ms : List Name)
        → IsCore (with_entry h (Committed k r)) code y (returned s k rest d ms)
        → u.holders ≡ after_events (entry_events (Committed k r) s) v.holders → length u.answers ≡ length u.holders.edges
        → u.activities ≡ v.activities ++ as_met ms
        → IsTurned k false u.activities w.activities → w.holders ≡ u.holders → w.answers ≡ u.answers
        → Stand (with_entry h (Committed k r)) code (returned s k rest d ms) y w
    comes_back u w y k r rest d ms core told even met turned holders answers =
        let t = returned s k rest d ms in
        let apart = core.numbered.apart in
        let names : names_met u.activities ≡ s.names ++ ms = ap names_met met ∙ names_more v.activities s.names ms st.edges.names in
        let more : RunShape = record s { names = s.names ++ ms } in
        goes_on w (Committed k r) t y core (holders ∙ told)
        (ap length answers ∙ even ∙ ap (λ (q : HoldersShape). length q.edges) (sym holders))
        (turned.names ∙ names)
        (back_told more t u.activities w.activities k apart names
        (subst (AreToldOut more) (sym met) (met_told s v.activities ms apart st.edges.names st.edges.out st.core.populated.named_out))
        turned refl refl)

    -- a value was delivered
    pub delivers : (w : HoldersView) (y : CoreState) (d : DeliveryShape) (t : RunShape) → IsCore (with_entry h (Delivered d)) code y t
        → t.names ≡ s.names → t.out ≡ s.out
        → w.holders ≡ after_events (entry_events (Delivered d) s) v.holders → length w.answers ≡ length w.holders.edges
        → w.activities ≡ v.activities → Stand (with_entry h (Delivered d)) code t y w
    delivers w y d t core names out holders answers same =
        goes_on w (Delivered d) t y core holders answers (ap names_met same ∙ st.edges.names ∙ sym names)
        (λ k n here. ap (is_out n) same ∙ st.edges.out k n (ap (λ ns. name_at ns k) (sym names) ∙ here) ∙ ap (λ xs. is_some (grant_of k xs)) (sym out))
