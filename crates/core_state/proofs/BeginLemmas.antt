-- The core of a start.
use Rattle.std.proofs.Common.{◌+◌, ◌≡◌, ◌≢◌, ◌<◌, ◌≤◌, ◌^◌, ◌∷◌, [], ℕ, zero, suc, List, Option, Some, None, slice_get, refl, sym, ap, subst, ◌∙◌, arith}
use Rattle.asp_model.specs.Configuration.{Activity, begun as activity_begun, start}
use Rattle.asp_model.specs.Names.{Name, main_name}
use Rattle.asp_model.specs.Step.{name_at}
use Rattle.asp_model.specs.Store.{Object}
use Rattle.asp_model.specs.Term.{Tree, locations}
use Rattle.def_journals.specs.Journals.{begun}
use Rattle.law_steps.specs.Closed.{IsClosed}
use Rattle.law_chases.proofs.FutureLemmas.{no_some, some_is}
use Rattle.step_reads.specs.Values.{AreClosedValues}
use Rattle.code_table.specs.declared.code.Node.{Node}
use Rattle.future_table.specs.Values.{AreOfCode, values_of}
use Rattle.asp_model.specs.declared.name.FutureName.{FutureName}
use Rattle.asp_model.specs.History.{program_history}
use Rattle.law_journals.proofs.NumberLemmas.{histories_are_numbered, start_is_first}
use Rattle.law_paths.proofs.WholeLemmas.{start_is_whole}
use Rattle.code_table.specs.declared.cells.Parcel.{Parcel}
use Rattle.core_ranks.specs.Ranks.{IsRanked, Rests}
use Rattle.request_queue.specs.declared.request.Request.{Request}
use Rattle.core_seats.specs.declared.seats.Seats.{Seats}
use Rattle.core_seats.specs.Seats.{AreSeats, In, IsFound, names_in, seats_in}
use Rattle.core_state.specs.Journal.{entries_in, room}
use Rattle.step_activity.specs.declared.actor.Actor.{Actor}
use Rattle.step_activity.specs.Actors.{IsClosedFor, Stands, code_of, log_in}
use Rattle.law_core.specs.Ranked.{rank_of}
use Rattle.law_core.specs.Runs.{rank_of_number}
use Rattle.core_state.specs.declared.state.CoreState.{CoreState}
use Rattle.core_state.specs.Cores.{IsCore, IsSeated, count_in}

-- the activity that main begins as
abbrev pub first_of : Tree → Activity
first_of program = activity_begun program (Object [] [] ∷ [])

no_values : (code : List Node) (xs : List (FutureName × Parcel)) → values_of xs ≡ [] → AreOfCode code xs
no_values code [] h = tt
no_values code (x ∷ xs) h = absurd (no_more h)
  where
    is_none : {A : Type 0} → List A → Option ℕ
    is_none [] = None
    is_none (y ∷ ys) = Some 0

    no_more : values_of (x ∷ xs) ≡ [] → ⊥
    no_more h = no_some (sym (ap is_none h))

closed_first : (program : Tree) → locations program ≡ [] → IsClosed (start program)
closed_first program bare = (start_is_whole program bare).closed

pub first_closed : (program : Tree) (a : Actor) → locations program ≡ [] → Stands a (first_of program) [] → IsClosedFor a
first_closed program a bare stands = record {
  activity = first_of program;
  received = [];
  stands = stands;
  closed = (closed_first program bare).activities main_name (first_of program) refl;
  arguments = (closed_first program bare).arguments main_name;
}

pub no_values_closed : (program : Tree) (xs : List (FutureName × Parcel)) → locations program ≡ [] → values_of xs ≡ [] → AreClosedValues (values_of xs)
no_values_closed program xs bare none = subst AreClosedValues (sym none) (closed_first program bare).values

pub nobody_named : (seats : Seats Actor Request) (n : Name) → names_in seats ≡ [] → IsFound (names_in seats) n None
nobody_named seats n none k e = no_some (sym (ap (λ ns. slice_get ns k) none) ∙ e)

module _ (code : List Node) (x : CoreState) (program : Tree) (budget : ℕ) (a : Actor) where
  pub begins : locations program ≡ [] → budget < 2 ^ 64 → entries_in x.journal ≡ [] → AreSeats x.seats → names_in x.seats ≡ main_name ∷ [] → seats_in x.seats ≡ In a ∷ []
      → values_of x.futures ≡ [] → x.left ≡ budget → x.bursts ≡ 0 → 1 ≤ room x.journal
      → Stands a (first_of program) [] → code_of a ≡ code → log_in a ≡ []
      → IsRanked x.ranks 0 (rank_of [] [] main_name (first_of program)) → ((k : ℕ) → k ≢ 0 → IsRanked x.ranks k Rests)
      → IsCore (program_history program budget []) code x (begun program budget)
  begins bare small entries kept names seats values left bursts some stands coded logged here others = record {
    first = start_is_first program;
    whole = start_is_whole program bare;
    numbered = histories_are_numbered (program_history program budget []) (begun program budget) (start_is_first program) refl;
    small = subst (λ b. b < 2 ^ 64) (sym no_more_spent) small;
    run = refl;
    entries = entries;
    populated = record {
      kept = kept;
      names = names;
      seats = seated;
      named_out = λ k none. refl;
      futures = values;
      values = no_values code x.futures values;
    };
    ranks = ranked;
    left = left;
    bursts = bursts;
    room = subst (λ seats. count_in seats ≤ room x.journal) (sym seats) some;
  }
    where
      -- nothing is spent where a program begins
      no_more_spent : 0 + budget ≡ budget
      no_more_spent = omega arith

      seated : (k : ℕ) (n : Name) → name_at (main_name ∷ []) k ≡ Some n → IsSeated (program_history program budget []) code (begun program budget) k n (slice_get (seats_in x.seats) k)
      seated zero n named = subst (λ z. IsSeated (program_history program budget []) code (begun program budget) zero n (slice_get z zero)) (sym seats)
          (subst (λ m. IsSeated (program_history program budget []) code (begun program budget) zero m (Some (In a))) (some_is named)
          (record { free = refl; activity = first_of program; there = refl; stands = stands; logged = logged; coded = coded }))
      seated (suc k) n named = no_some named

      ranked : (k : ℕ) → IsRanked x.ranks k (rank_of_number (begun program budget) k)
      ranked zero = here
      ranked (suc k) = others (suc k) (λ e. omega (arith, e))
