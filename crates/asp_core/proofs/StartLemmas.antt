-- A core that begins.
use Rattle.std.proofs.Common.{◌≡◌, ◌∙◌, ◌∷◌, [], ℕ, false, List, None, length, sym, ap, subst}
use Rattle.asp_model.specs.Names.{main_name}
use Rattle.asp_model.specs.Term.{Tree, locations}
use Rattle.asp_model.specs.History.{program_history}
use Rattle.def_journals.specs.Edges.{HoldersShape, no_holders}
use Rattle.def_journals.specs.Journals.{begun}
use Rattle.law_chases.proofs.FutureLemmas.{no_some}
use Rattle.code_table.specs.declared.code.Node.{Node}
use Rattle.future_update.specs.Holders.{HoldersView, is_out}
use Rattle.core_state.specs.declared.state.CoreState.{CoreState}
use Rattle.core_state.specs.Cores.{IsCore, program_of}
use Rattle.core_thaws.specs.Holders.{SameHolders}
use Rattle.core_thaws.proofs.HolderLemmas.{same_holders}
use Rattle.asp_core.specs.declared.cores.Core.{Core}
use Rattle.asp_core.specs.Cores.{IsRun, code_of, history_of}
use Rattle.asp_core.specs.Runs.{Stand}
use Rattle.asp_core.proofs.OutLemmas.{names_met, none_out}

pub stand_begun : (program : Tree) (budget : ℕ) (code : List Node) (x : CoreState) (v : HoldersView) → IsCore (program_history program budget []) code x (begun program budget)
    → v.holders ≡ no_holders → v.answers ≡ [] → v.activities ≡ (main_name, false) ∷ [] → Stand (program_history program budget []) code (begun program budget) x v
stand_begun program budget code x v core holders answers met = record {
  core = core;
  edges = record {
    holders = subst (SameHolders v.holders) holders (same_holders v.holders);
    answers = ap length answers ∙ ap (λ (q : HoldersShape). length q.edges) (sym holders);
    names = ap names_met met;
    out = λ k n named. ap (is_out n) met ∙ none_out (main_name ∷ []) n;
  };
}

module _ {P : Type 0} (x : Core P) (none : x.first.shape ≡ None) (program : Tree) (same : program_of (code_of x) ≡ program) (fresh : x.spent ≡ false)
    (st : Stand (program_history (program_of (code_of x)) x.budget []) (code_of x) (begun (program_of (code_of x)) x.budget) x.state x.edges.holders) (bare : locations (program_of (code_of x)) ≡ []) where
  pub history_so : history_of x ≡ program_history (program_of (code_of x)) x.budget []
  history_so = λ i. record { program = program_of (code_of x); first = none i; budget = x.budget; entries = st.core.entries i }

  pub history_begins : history_of x ≡ program_history program x.budget []
  history_begins = history_so ∙ ap (λ p. program_history p x.budget []) same

  pub run_begins : IsRun x (begun program x.budget)
  run_begins =
      subst (λ p. IsRun x (begun p x.budget)) same
      (record { fresh = fresh; bare = bare; labels = λ m k r st out. no_some st; stand = subst (λ h. Stand h (code_of x) (begun (program_of (code_of x)) x.budget) x.state x.edges.holders) (sym history_so) st })
