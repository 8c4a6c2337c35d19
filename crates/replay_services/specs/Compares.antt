-- What services can tell of two replays.
use Rattle.std.specs.Prelude.{◌≡◌, ◌⊎◌, Bool, true, false}
use Rattle.std.specs.Ordering.{is_lt}
use Rattle.asp_model.specs.Names.{Name, name_cmp}
use Rattle.asp_model.specs.Term.{Tree}
use Rattle.asp_model.specs.Step.{ListsShape}
use Rattle.asp_model.specs.Status.{VerdictShape, Budget, IsStuck}
use Rattle.asp_model.specs.Replay.{CountsShape, replay}
use Rattle.asp_model.specs.Outcome.{outcome_of}
use Rattle.asp_model.specs.Shapes.{outcome_shape, services_shape}
use Rattle.def_paths.specs.Outcomes.{whole_outcome_of}
use Rattle.law_services.specs.Correct.{unlogged}
use Rattle.law_services.specs.Services.{AreServedAlike, IsServedAlike}
use Rattle.law_services.specs.Told.{AreServicesOf}
use Rattle.replay_services.specs.declared.compares.Comparison.{Comparison}
use Rattle.replay_services.specs.declared.compares.Comparison.TheVariants as comparison
use Rattle.replay_services.specs.declared.replays.ServicesRun.{ServicesRun}

-- what is kept is that of the replay
pub record IsServicesRun (r : ServicesRun) (program : Tree) (lists : ListsShape) (counts : CountsShape) : Type 0 where
  pub outcome : outcome_shape r.outcome ≡ outcome_of (replay program lists counts)
  pub services : AreServicesOf program lists counts (services_shape r.services)

abbrev pub is_budget : VerdictShape → Bool
is_budget Budget = true
is_budget v = false

-- both are stuck
abbrev pub AreStuck : Tree → ListsShape → CountsShape → ListsShape → CountsShape → Type 0
AreStuck program lists counts others other_counts =
    IsStuck (replay program lists counts) × IsStuck (replay program others other_counts)

-- no service can tell, and the outcomes with every state are equal but for the logs
pub record AreSame (program : Tree) (lists : ListsShape) (counts : CountsShape)
    (others : ListsShape) (other_counts : CountsShape) : Type 0 where
  pub stuck : AreStuck program lists counts others other_counts
  pub served : AreServedAlike program lists counts others other_counts
  pub shown : unlogged (whole_outcome_of (replay program lists counts))
      ≡ unlogged (whole_outcome_of (replay program others other_counts))

-- this is the least-named activity of which a service can tell, or that polled
pub record DifferAt (program : Tree) (lists : ListsShape) (counts : CountsShape)
    (others : ListsShape) (other_counts : CountsShape) (n : Name) : Type 0 where
  pub stuck : AreStuck program lists counts others other_counts
  pub told : IsServedAlike program lists counts others other_counts n → ⊥
  pub least : (m : Name) → is_lt (name_cmp m n) ≡ true → IsServedAlike program lists counts others other_counts m

abbrev pub Tells : Comparison → Tree → ListsShape → CountsShape → ListsShape → CountsShape → Type 0
Tells comparison.Same program lists counts others other_counts = AreSame program lists counts others other_counts
Tells (comparison.Differ n) program lists counts others other_counts =
    DifferAt program lists counts others other_counts n.now
-- one of the two can go on
Tells comparison.Unended program lists counts others other_counts =
    (IsStuck (replay program lists counts) → ⊥) ⊎ (IsStuck (replay program others other_counts) → ⊥)
