-- What is where after an effect.
use Rattle.std.specs.Prelude.{◌≡◌, List, [], ◌∷◌, ◌++◌, Option, Some, None, is_some}
use Rattle.std.proofs.Common.{refl, sym, ap, ◌∙◌, ⊎_elim}
use Rattle.std.specs.FinMap.{find, put}
use Rattle.asp_model.specs.Names.{Name, name_cmp}
use Rattle.asp_model.specs.Configuration.{RequestShape, Activity, Configuration, or_none, requests_of}
use Rattle.asp_model.specs.Intent.{Effect}
use Rattle.asp_model.specs.Step.{put_some, with_last}
use Rattle.law_schedules.specs.Effects.{NobodyReceives, TargetsReceive, OthersReceiveNone, AbsentReceivedNone, MadeReceivedNone, OwnIsThere, MadeIsThere, OthersAreKept}
use Rattle.law_steps.proofs.NameLemmas.{name_total, name_same, name_case}
use Rattle.law_chases.proofs.FutureLemmas.{true_false}
use Rattle.law_chases.proofs.MapLemmas as Maps
use Rattle.law_steps.proofs.FactLemmas.{acts_facts}
use Rattle.law_steps.proofs.SoundLemmas.{Took, made_new, own_by}
use Rattle.law_steps.proofs.TidyLemmas.{empty_where_absent}
use Rattle.law_steps.proofs.ReachedLemmas.{reached_right, reached_sound}
use Rattle.law_steps.proofs.LinkedLemmas.{targets_are_there}
use Rattle.law_steps.proofs.FrameLemmas.{effects_are_new}

-- the requests of m where this was sent
abbrev received_by : Configuration → Name → Option (Name × RequestShape) → List RequestShape
received_by c m o = or_none (find name_cmp m (with_last o c.received))

pub nobody_receives : NobodyReceives
nobody_receives c n m e is = ap (received_by c m) is

pub targets_receive : TargetsReceive
targets_receive c n m e r is =
    ap (received_by c m) is ∙ ap or_none (Maps.find_same name_cmp name_total name_same m (requests_of c m ++ r ∷ []) c.received)

pub others_receive_none : OthersReceiveNone
others_receive_none c n m to e r is apart =
    ap (received_by c m) is ∙ ap or_none (Maps.find_other name_cmp name_total name_same m to (requests_of c to ++ r ∷ []) c.received apart)

pub absent_received_none : AbsentReceivedNone
absent_received_none program c m reached none = empty_where_absent c (reached_right program c reached).tidy m none

pub made_received_none : MadeReceivedNone
made_received_none program c n m b e reached intends made = by_sent e.sent refl
  where
    absent : find name_cmp m c.activities ≡ None
    absent = (effects_are_new program c n e reached intends).made (m, b) made

    by_sent : (o : Option (Name × RequestShape)) → e.sent ≡ o → received_by c m e.sent ≡ []
    by_sent None is = nobody_receives c n m e is ∙ absent_received_none program c m reached absent
    by_sent (Some x) is =
        let there = targets_are_there program c n e x reached intends is in
        others_receive_none c n m x.0 e x.1 is (λ p. true_false (is_some (find name_cmp x.0 c.activities)) there (ap (λ k. is_some (find name_cmp k c.activities)) (sym p) ∙ ap is_some absent))
        ∙ absent_received_none program c m reached absent

pub own_is_there : OwnIsThere
own_is_there program c n e reached intends =
    let facts = acts_facts c n e intends in
    let t : Took c n e = record { sound = reached_sound program c reached; there = facts.0; facts = facts.1 } in
    own_by n e.made e.own c.activities t.there (made_new c n e t)

-- what stands at m where this was made
abbrev standing_by : Configuration → Name → Effect → Name → Option (Name × Activity) → Option Activity
standing_by c n e m o = find name_cmp m (put_some name_cmp o (put name_cmp n e.own c.activities))

pub made_is_there : MadeIsThere
made_is_there c n m b e is =
    ap (standing_by c n e m) is ∙ Maps.find_same name_cmp name_total name_same m b (put name_cmp n e.own c.activities)

pub others_are_kept : OthersAreKept
others_are_kept c n m e apart not = by_made e.made refl
  where
    own : find name_cmp m (put name_cmp n e.own c.activities) ≡ find name_cmp m c.activities
    own = Maps.find_other name_cmp name_total name_same m n e.own c.activities apart

    by_made : (o : Option (Name × Activity)) → e.made ≡ o → standing_by c n e m e.made ≡ find name_cmp m c.activities
    by_made None is = ap (standing_by c n e m) is ∙ own
    by_made (Some z) is = ⊎_elim
        (λ p. absurd (not z.1 (is ∙ ap (λ k. Some (k, z.1)) (sym p))))
        (λ q. ap (standing_by c n e m) is ∙ Maps.find_other name_cmp name_total name_same m z.0 z.1 (put name_cmp n e.own c.activities) q ∙ own)
        (name_case m z.0)
