-- What edges are told of the configuration in which a run goes on.
use Rattle.std.specs.Prelude.{◌≡◌, ◌&&◌, ℕ, Bool, false, List, [], Some, is_some, map, slice_get}
use Rattle.std.specs.FinMap.{find}
use Rattle.std.specs.Global.{Box}
use Rattle.asp_model.specs.Chase.{Values}
use Rattle.asp_model.specs.Configuration.{Configuration}
use Rattle.asp_model.specs.Names.{FutureShape, Name, future_cmp}
use Rattle.asp_model.specs.declared.name.FutureName.{FutureName}
use Rattle.def_journals.specs.Edges.{HoldersShape, first_holders, has_filled, home_of, homes_in}
use Rattle.law_steps.specs.Sound.{IsSound}
use Rattle.law_frozen.specs.Frozen.{in_order}
use Rattle.code_table.specs.declared.cells.Parcel.{Parcel}
use Rattle.future_table.specs.Values.{values_of}
use Rattle.future_update.specs.Holders.{home_shape}
use Rattle.step_activity.specs.declared.actor.Actor.{Actor}
use Rattle.core_edges.specs.declared.edges.Edges.{Edges}
use Rattle.core_thaws.specs.Holders.{SameHolders}

-- all come to be met, in
abbrev pub all_met : List (Name × Box Actor) → List (Name × Bool)
all_met = map (λ e. (e.0, false))

-- no two have one name
abbrev pub AreApart : List (Name × Box Actor) → Type 0
AreApart es = (i k : ℕ) (x y : Name × Box Actor) → slice_get es i ≡ Some x → slice_get es k ≡ Some y
    → x.0 ≡ y.0 → i ≡ k

-- these homes are known, and of their futures those are filled that have a value; no future has gone anywhere
pub record AreTold (hs : List (FutureShape × Name)) (values : Values) (x : HoldersShape) : Type 0 where
  pub homes : x.homes ≡ hs
  pub edges : x.edges ≡ []
  pub filled : (f : FutureShape)
      → has_filled f x.filled ≡ (is_some (home_of f hs) && is_some (find future_cmp f values))
  pub received : x.received ≡ []
  pub delivered : x.delivered ≡ []

-- only homes and filled futures have changed
pub record KeepsRest {P : Type 0} (old new : Edges P) : Type 0 where
  pub answers : new.holders.answers ≡ old.holders.answers
  pub activities : new.holders.activities ≡ old.holders.activities
  pub plan : new.plan ≡ old.plan
  pub strategies : new.strategies ≡ old.strategies
  pub policies : new.policies ≡ old.policies

-- the homes of a configuration, in the order of futures, and its values
pub record AreHomesOf (c : Configuration) (hs : List (FutureName × Name)) (filled : List (FutureName × Parcel))
    : Type 0 where
  pub sound : IsSound c
  pub homes : map home_shape hs ≡ in_order future_cmp (homes_in c)
  pub values : values_of filled ≡ c.futures

abbrev pub AreHomesSomewhere : List (FutureName × Name) → List (FutureName × Parcel) → Type 0
AreHomesSomewhere hs filled = (c : Configuration) × AreHomesOf c hs filled

-- edges that knew nothing know what a run that goes on begins with
pub record BeginWith {P : Type 0} (c : Configuration) (es : List (Name × Box Actor)) (old new : Edges P) : Type 0 where
  pub holders : SameHolders new.holders.holders (first_holders c)
  pub answers : new.holders.answers ≡ []
  pub activities : new.holders.activities ≡ all_met es
  pub plan : new.plan ≡ old.plan
  pub strategies : new.strategies ≡ old.strategies
  pub policies : new.policies ≡ old.policies
