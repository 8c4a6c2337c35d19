-- A core that goes on from a configuration.
use Rattle.std.proofs.Common.{◌≡◌, ◌∙◌, ◌∷◌, [], false, List, None, Option, Some, ℕ, length, map, refl, sym, ap, subst}
use Rattle.std.specs.Arc.{arc_value}
use Rattle.std.specs.Global.{Box}
use Rattle.asp_model.specs.Configuration.{Configuration}
use Rattle.asp_model.specs.History.{FirstShape}
use Rattle.asp_model.specs.Names.{Name}
use Rattle.asp_model.specs.Term.{locations}
use Rattle.def_journals.specs.Edges.{EdgeShape, home_of, homes_in}
use Rattle.def_journals.specs.Journals.{first_in, run_from}
use Rattle.law_chases.proofs.FutureLemmas.{no_some, some_is}
use Rattle.law_journals.proofs.RunLemmas.{first_holders_are}
use Rattle.code_table.specs.declared.code.Node.{Node}
use Rattle.step_activity.specs.declared.actor.Actor.{Actor}
use Rattle.future_update.specs.Holders.{is_out}
use Rattle.update_policy.specs.declared.plan.Plan.{Plan}
use Rattle.update_policy.specs.declared.strategy.Policies.{Policies}
use Rattle.core_edges.specs.declared.edges.Edges.{Edges}
use Rattle.core_edges.specs.Answers.{Answering, AreAsked, Counting}
use Rattle.core_edges.specs.Strategies.{strategy_in}
use Rattle.core_state.specs.Cores.{IsCore, program_of}
use Rattle.core_thaws.specs.Telling.{AreApart, AreHomesOf, BeginWith, all_met}
use Rattle.core_thaws.specs.Thawed.{AreThawed, MayGoOn, resumed_history}
use Rattle.core_thaws.proofs.SeatLemmas.{apart_entries}
use Rattle.asp_core.specs.declared.cores.Core.{Core}
use Rattle.asp_core.specs.declared.freezing.Frozen.{Frozen}
use Rattle.asp_core.specs.Cores.{IsRun, code_of, history_of}
use Rattle.asp_core.specs.Frozen.{AreFrozenIn}
use Rattle.asp_core.specs.Plans.{AreByPlan}
use Rattle.asp_core.specs.Runs.{Stand}
use Rattle.asp_core.specs.declared.first.First.{First}
use Rattle.asp_core.specs.Thawing.{BeginsIn, MayBegin}
use Rattle.asp_core.proofs.OutLemmas.{names_met, none_out}

-- What was frozen is what a run goes on with

all_thawed : (code : List Node) (c : Configuration) (es : List (Name × Box Actor)) → AreFrozenIn code c es → AreThawed code c es
all_thawed code c [] all = tt
all_thawed code c (e ∷ es) all = (
  record { activity = all.0.activity; there = all.0.there; stands = all.0.stands; logged = all.0.logged; coded = all.0.coded },
  all_thawed code c es all.1,
)

pub may_go_on : (x : Frozen) (f : FirstShape) (budget : ℕ) → MayBegin x f budget → MayGoOn (arc_value x.code) f budget x.activities.items x.futures
may_go_on x f budget may = record {
  first = may.first;
  whole = may.whole;
  small = may.small;
  names = may.stands.names;
  stand = all_thawed (arc_value x.code) f.configuration x.activities.items may.stands.activities;
  futures = may.stands.futures;
  values = may.stands.values;
}

pub are_homes : (x : Frozen) (f : FirstShape) (budget : ℕ) → MayBegin x f budget → AreHomesOf f.configuration x.homes.items x.futures
are_homes x f budget may = record { sound = may.whole.sound; homes = may.stands.homes; values = may.stands.futures }

pub apart_frozen : (x : Frozen) (f : FirstShape) (budget : ℕ) → MayBegin x f budget → AreApart x.activities.items
apart_frozen x f budget may = apart_entries (arc_value x.code) f budget x.activities.items x.futures (may_go_on x f budget may)

-- The core

names_all : (es : List (Name × Box Actor)) → names_met (all_met es) ≡ map (λ (e : Name × Box Actor). e.0) es
names_all [] = refl
names_all (e ∷ es) = λ i. e.0 ∷ names_all es i

met_as : (es : List (Name × Box Actor)) → all_met es ≡ map (λ (n : Name). (n, false)) (map (λ (e : Name × Box Actor). e.0) es)
met_as [] = refl
met_as (e ∷ es) = λ i. (e.0, false) ∷ met_as es i

module _ {P : Type 0} (x : Core P) (f : FirstShape) (code : List Node) (old : Edges P) (es : List (Name × Box Actor)) (begins : x.first.shape ≡ Some f) (same : code_of x ≡ code) (fresh : x.spent ≡ false)
    (core : IsCore (resumed_history (program_of code) f x.budget) code x.state (run_from f x.budget)) (begun : BeginWith f.configuration es old x.edges)
    (names : map (λ (e : Name × Box Actor). e.0) es ≡ f.names) (bare : locations (program_of code) ≡ []) where
  pub history_thawed : history_of x ≡ resumed_history (program_of code) f x.budget
  history_thawed = λ i. record { program = program_of (same i); first = begins i; budget = x.budget; entries = core.entries i }

  stands : Stand (resumed_history (program_of code) f x.budget) code (run_from f x.budget) x.state x.edges.holders
  stands = record {
    core = core;
    edges = record {
      holders = begun.holders;
      answers = ap length begun.answers ∙ ap length (sym begun.holders.edges);
      names = ap names_met begun.activities ∙ names_all es ∙ names;
      out = λ k n named. ap (is_out n) (begun.activities ∙ met_as es) ∙ none_out (map (λ (e : Name × Box Actor). e.0) es) n;
    };
  }

  pub run_thawed : IsRun x (run_from f x.budget)
  run_thawed = record {
    fresh = fresh;
    bare = ap (λ k. locations (program_of k)) same ∙ bare;
    stand = subst (λ k. Stand (history_of x) k (run_from f x.budget) x.state x.edges.holders) (sym same)
        (subst (λ h. Stand h code (run_from f x.budget) x.state x.edges.holders) (sym history_thawed) stands);
    labels = λ m k r st out.
        let own : home_of r.future (homes_in f.configuration) ≡ None = sym (ap (λ (o : Option FirstShape). home_of r.future (homes_in (first_in (record (history_of x) { first = o })).configuration)) begins) ∙ out in
        no_some (sym own ∙ (first_holders_are f.configuration core.whole.sound).requests m k r st);
  }

-- edges that know no edge have answers by any plan
pub by_plan_thawed : {P : Type 0} (answers : Answering P) (counts : Counting P) (plan : Plan) (policies : Policies P) (x : Edges P) → x.holders.holders.edges ≡ [] → x.holders.answers ≡ [] → x.plan ≡ plan → x.policies ≡ policies
    → AreByPlan answers counts plan policies x
by_plan_thawed answers counts plan policies x edges none same kept = record {
  same = same;
  asked = subst (λ (xs : List EdgeShape). AreAsked answers counts (strategy_in x) xs x.holders.answers policies x.policies) (sym edges)
      (subst (λ cs. AreAsked answers counts (strategy_in x) [] cs policies x.policies) (sym none) kept);
}

-- the configuration where it begins is one
pub one_first : (x : Frozen) (first : First) (budget : ℕ) (f : FirstShape) → BeginsIn x first budget → first.shape ≡ Some f → MayBegin x f budget
one_first x first budget f r is = subst (λ q. MayBegin x q budget) (some_is (sym r.1 ∙ is)) r.2
