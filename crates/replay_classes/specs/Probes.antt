-- What activities send next.
use Rattle.std.specs.Prelude.{◌≡◌, ◌<◌, ◌≤◌, ℕ, Bool, List, Some}
use Rattle.asp_model.specs.Names.{Name, Text}
use Rattle.asp_model.specs.Configuration.{Configuration}
use Rattle.asp_model.specs.Intent.{Effect, Acts}
use Rattle.asp_model.specs.Step.{intent_in}
use Rattle.asp_model.specs.Term.{Tree}
use Rattle.def_journals.specs.Journals.{number_of}
use Rattle.law_classes.specs.Runs.{entry_of}
use Rattle.class_search.specs.declared.ends.Sending.{Sending}
use Rattle.replay_population.specs.declared.population.Population.{Population}
use Rattle.replay_population.specs.Reached.{IsReachedPopulation}
use Rattle.replay_parts.specs.Roster.{Leads}
use Rattle.replay_classes.specs.Looks.{AreSenders, Sends}
use Rattle.replay_classes.specs.Sendings.{IsAmong}

-- the activity of this number sends next
pub record CanSend (p : Population) (number : ℕ) : Type 0 where
  pub who : Name
  pub has : number_of who p.roster ≡ Some number
  pub program : Tree
  pub at : Configuration
  pub reached : IsReachedPopulation p program at
  pub effect : Effect
  pub acts : intent_in at who ≡ Acts effect
  pub sends : Sends effect

-- all that are told do
abbrev pub CanSendAll : Population → List Bool → Type 0
CanSendAll p bs = (program : Tree) × (c : Configuration) × IsReachedPopulation p program c × AreSenders p.roster c bs

-- whoever acts sends, and what it sends is among these
abbrev pub HasNexts : (Text → ℕ) → Configuration → List Sending → Type 0
HasNexts K c ss = (n : Name) (e : Effect) → intent_in c n ≡ Acts e → IsAmong ss (entry_of K c n e)

-- those below a number have sent, and the others intend what they intended before
pub record IsProbed (K : Text → ℕ) (old : Population) (program : Tree) (c : Configuration) (count : ℕ)
    (new : Population) (ss : List Sending) : Type 0 where
  pub at : Configuration
  pub reached : IsReachedPopulation new program at
  pub leads : Leads old.roster new.roster
  pub done : (n : Name) (k : ℕ) (e : Effect) → number_of n old.roster ≡ Some k → k < count
      → intent_in c n ≡ Acts e → IsAmong ss (entry_of K c n e)
  pub left : (n : Name) (k : ℕ) (e : Effect) → number_of n old.roster ≡ Some k → count ≤ k
      → intent_in c n ≡ Acts e → intent_in at n ≡ Acts e
