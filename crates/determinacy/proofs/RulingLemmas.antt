-- Where no log is open, each is narrow; else the first that is open has the least name.
use Rattle.std.specs.Prelude.{◌≡◌, Bool, true, false, cond, T, List, [], ◌∷◌, Option, Some, None, map}
use Rattle.std.proofs.Common.{refl, sym, ap, subst, ◌∙◌}
use Rattle.std.specs.FinMap.{find, is_sorted}
use Rattle.std.specs.Ordering.{is_lt}
use Rattle.asp_model.specs.Configuration.{ReceptionShape, or_none}
use Rattle.asp_model.specs.Names.{Name, name_cmp, same_name}
use Rattle.asp_model.specs.Outcome.{ActivityReportShape}
use Rattle.law_chases.proofs.FutureLemmas.{no_some, none_true, some_is}
use Rattle.law_steps.proofs.EntryLemmas.{first_of_both, second_of_both}
use Rattle.law_steps.proofs.NameLemmas.{name_itself}
use Rattle.law_steps.specs.Joins.{is_narrow}
use Rattle.asp_model.specs.Replay.{log_in}
use Rattle.determinacy.specs.Rulings.{RulingShape, Determinate, Open, NotEnded, IsLeastOpen, first_open}
use Rattle.determinacy.proofs.OrderLemmas.{found_above, later, none_before}

abbrev logs : List ActivityReportShape → List (Name × List ReceptionShape)
logs activities = map (λ a. (a.name, a.senders)) activities

-- a log is looked at, and then those behind it
abbrev opened : Bool → ActivityReportShape → List ActivityReportShape → Option Name
opened b a activities = elim b [ true ↦ first_open activities | false ↦ Some a.name ]

pub none_open : (activities : List ActivityReportShape) → first_open activities ≡ None → (m : Name) → is_narrow (or_none (find name_cmp m (logs activities))) ≡ true
none_open [] h m = refl
none_open (a ∷ activities) h m = elim (is_narrow a.senders) as (λ b. is_narrow a.senders ≡ b → opened b a activities ≡ None → is_narrow (or_none (cond (same_name m a.name) (Some a.senders) (find name_cmp m (logs activities)))) ≡ true) [
  | true ↦ λ narrow rest. elim (same_name m a.name) as (λ b. is_narrow (or_none (cond b (Some a.senders) (find name_cmp m (logs activities)))) ≡ true) [ true ↦ narrow | false ↦ none_open activities rest m ]
  | false ↦ λ wide rest. no_some (sym rest)
] refl h

-- in the order of names the first that is open is the least
pub first_least : (activities : List ActivityReportShape) (n : Name) → T (is_sorted name_cmp (logs activities)) → first_open activities ≡ Some n → IsLeastOpen (logs activities) n
first_least [] n h e = no_some e
first_least (a ∷ activities) n h e = elim (is_narrow a.senders) as (λ b. is_narrow a.senders ≡ b → opened b a activities ≡ Some n → IsLeastOpen (logs (a ∷ activities)) n) [
  | true ↦ λ narrow rest. on narrow (first_least activities n (second_of_both _ _ h) rest)
  | false ↦ λ wide is. subst (IsLeastOpen (logs (a ∷ activities))) (some_is is) (record {
    wide = ap (λ b. is_narrow (or_none (cond b (Some a.senders) (find name_cmp a.name (logs activities))))) (name_itself a.name) ∙ wide;
    least = λ m lt. ap (λ o. is_narrow (or_none o)) (none_before m (a.name, a.senders) (logs activities) (first_of_both _ _ h) lt);
  })
] refl e
  where
    at : (m : Name) (b : Bool) → same_name m a.name ≡ b → log_in (logs (a ∷ activities)) m ≡ or_none (cond b (Some a.senders) (find name_cmp m (logs activities)))
    at m b e = ap (λ b. or_none (cond b (Some a.senders) (find name_cmp m (logs activities)))) e

    is_above : (o : Option (List ReceptionShape)) → find name_cmp n (logs activities) ≡ o → is_narrow (or_none o) ≡ false → is_lt (name_cmp a.name n) ≡ true
    is_above None is wide = none_true (sym wide)
    is_above (Some xs) is wide = found_above a.name n (logs activities) xs (first_of_both _ _ h) is

    on : is_narrow a.senders ≡ true → IsLeastOpen (logs activities) n → IsLeastOpen (logs (a ∷ activities)) n
    on narrow l = record {
      wide = ap is_narrow (at n false (later a.name n (is_above (find name_cmp n (logs activities)) refl l.wide))) ∙ l.wide;
      least = λ m lt. elim (same_name m a.name) as (λ b. same_name m a.name ≡ b → is_narrow (log_in (logs (a ∷ activities)) m) ≡ true) [
        | true ↦ λ same. ap is_narrow (at m true same) ∙ narrow
        | false ↦ λ other. ap is_narrow (at m false other) ∙ l.least m lt
      ] refl;
    }

-- whom a ruling names
abbrev named_in : RulingShape → Option Name
named_in Determinate = None
named_in (Open n) = Some n
named_in NotEnded = None

-- a ruling that names nobody, and one that names somebody
pub not_named : {A : Type 0} (n : Name) → Determinate ≡ Open n → A
not_named n e = no_some (ap named_in e)

pub one_name : (n m : Name) → Open n ≡ Open m → Some n ≡ Some m
one_name n m e = ap named_in e
