-- Ranks by numbers, where one is lent.
use Rattle.std.specs.Prelude.{◌≡◌, ◌≢◌, ◌==◌, ◌&&◌, ℕ, Bool, true, false, nat_lt, Option, Some, None, is_none}
use Rattle.std.proofs.Common.{refl, sym, ap, ◌∙◌, arith}
use Rattle.std.proofs.lemmas.Bool.{eqb-true, false_from_ne_true}
use Rattle.asp_model.specs.Names.{Name}
use Rattle.asp_model.specs.Status.{is_running, status_of}
use Rattle.asp_model.specs.Step.{name_at}
use Rattle.def_journals.specs.Journals.{RunShape, grant_of, granted}
use Rattle.def_journals.specs.Owed.{need_to}
use Rattle.law_journals.specs.Entered.{with_lease}
use Rattle.core_ranks.specs.Ranks.{goes}
use Rattle.law_core.specs.Runs.{LendsKeepRanks, RanksTellReady, may_go, rank_named, rank_unless_out}
use Rattle.law_core.proofs.RankLemmas.{ranks_tell}

between : (a b c : Bool) → ((a && b) && c) ≡ ((a && c) && b)
between true true c = both c
  where
    both : (c : Bool) → c ≡ (c && true)
    both true = refl
    both false = refl
between true false c = none c
  where
    none : (c : Bool) → false ≡ (c && false)
    none true = refl
    none false = refl
between false b c = refl

ready_named : (s : RunShape) (k : ℕ) (n : Name) (o : Option ℕ)
    → ((is_none o && is_running (status_of s.configuration n) && nat_lt 0 s.left) && is_none (need_to s.configuration n)) ≡ (goes (rank_unless_out s n o) && nat_lt 0 s.left)
ready_named s k n None =
    between (is_running (status_of s.configuration n)) (nat_lt 0 s.left) (is_none (need_to s.configuration n))
    ∙ ap (λ b. b && nat_lt 0 s.left) (sym (ranks_tell s.configuration n).going)
ready_named s k n (Some grant) = refl

ready_by : (s : RunShape) (k : ℕ) (o : Option Name) → may_go s k o ≡ (goes (rank_named s k o) && nat_lt 0 s.left)
ready_by s k None = refl
ready_by s k (Some n) = ready_named s k n (grant_of k s.out)

pub ranks_tell_ready : RanksTellReady
ranks_tell_ready s k = ready_by s k (name_at s.names k)

number_itself : (k : ℕ) → (k == k) ≡ true
number_itself k = grind arith

numbers_apart : (j k : ℕ) → j ≢ k → (j == k) ≡ false
numbers_apart j k apart = false_from_ne_true (j == k) (λ e. apart (eqb-true j k e))

out_now : (s : RunShape) (k : ℕ) (o : Option Name) → rank_named (with_lease s k) k o ≡ rank_named (with_lease s k) k None
out_now s k None = refl
out_now s k (Some n) = ap (λ b. rank_unless_out (with_lease s k) n (elim b [ true ↦ Some (granted s) | false ↦ grant_of k s.out ])) (number_itself k)

same_then : (s : RunShape) (k j : ℕ) (o : Option Name) → j ≢ k → rank_named (with_lease s k) j o ≡ rank_named s j o
same_then s k j None apart = refl
same_then s k j (Some n) apart = ap (λ b. rank_unless_out s n (elim b [ true ↦ Some (granted s) | false ↦ grant_of j s.out ])) (numbers_apart j k apart)

pub lends_keep_ranks : LendsKeepRanks
lends_keep_ranks s k = (out_now s k (name_at s.names k), λ j apart. same_then s k j (name_at s.names j) apart)
