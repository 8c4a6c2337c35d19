-- The three laws, and runs of steps that follow whatever moves lead to.
use Rattle.std.specs.Prelude.{◌≡◌, [], ◌∷◌, Some, None}
use Rattle.std.proofs.Common.{refl, subst}
use Rattle.asp_model.specs.Names.{Name}
use Rattle.asp_model.specs.Configuration.{Configuration}
use Rattle.asp_model.specs.Step.{step}
use Rattle.law_steps.specs.Reached.{Steps, Edges, Needs}
use Rattle.law_steps.proofs.StepLemmas.{listed_is_free}
use Rattle.law_steps.proofs.DiamondLemmas.{listed_commute}
use Rattle.law_steps.proofs.WholeLemmas.{right_of}
use Rattle.def_paths.specs.Agree.{Agrees}
use Rattle.law_paths.specs.Whole.{IsWhole}
use Rattle.law_paths.specs.Laws.{DeliveriesAgree, StepsAgree, StepsCommute, AgreementIsEquivalence, StatusesAgree, IsFollowed, MovesAreFollowed}
use Rattle.law_paths.proofs.FitLemmas.{whole_fit}
use Rattle.law_paths.proofs.FirstLemmas.{first_law}
use Rattle.law_paths.proofs.SecondLemmas as Second
use Rattle.law_paths.proofs.EquivalenceLemmas.{agrees_itself, agrees_back, agrees_then}
use Rattle.law_paths.proofs.WholeLemmas.{moves_keep_whole}

pub deliveries_agree : DeliveriesAgree
deliveries_agree c d f to w = first_law c d f to (whole_fit c w)

pub steps_agree : StepsAgree
steps_agree lists c d c' n wc wd g is = Second.second_law c d c' lists n (whole_fit c wc) (whole_fit d wd) g is

pub steps_commute : StepsCommute
steps_commute lists c d e n m w apart h k = listed_commute lists c d e n m (right_of c w.sound).sound apart h k

pub agreement_is_equivalence : AgreementIsEquivalence
agreement_is_equivalence = (agrees_itself, agrees_back, agrees_then)

pub statuses_agree : StatusesAgree
statuses_agree c d wc wd g n = Second.statuses_agree c d (whole_fit c wc) (whole_fit d wd) g n

before : (n : Name) (d e c' : Configuration) → step None d n ≡ Some e → IsFollowed e c' → IsFollowed d c'
before n d e c' is f = record { names = n ∷ f.names; end = f.end; run = (e, is, f.run); agrees = f.agrees; whole = f.whole; end_whole = f.end_whole }

pub moves_are_followed : MovesAreFollowed
moves_are_followed [] c c' d wc wd g r = record { names = []; end = d; run = refl; agrees = subst (λ z. Agrees z d) r g; whole = subst IsWhole r wc; end_whole = wd }
moves_are_followed (Steps lists n ∷ moves) c c' d wc wd g r =
    let free = listed_is_free lists c n r.0 r.1 in
    let x = steps_agree None c d r.0 n wc wd g free in
    before n d x.0 c' x.1 (moves_are_followed moves r.0 c' x.0 (moves_keep_whole (Steps None n) c r.0 wc free) (moves_keep_whole (Steps None n) d x.0 wd x.1) x.2 r.2)
moves_are_followed (Edges f to ∷ moves) c c' d wc wd g r = moves_are_followed moves r.0 c' d (moves_keep_whole (Edges f to) c r.0 wc r.1) wd (agrees_then r.0 c d ((deliveries_agree c r.0 f to wc).0 r.1) g) r.2
moves_are_followed (Needs f to place ∷ moves) c c' d wc wd g r = moves_are_followed moves r.0 c' d (moves_keep_whole (Needs f to place) c r.0 wc r.1) wd (agrees_then r.0 c d ((deliveries_agree c r.0 f to wc).1 place r.1) g) r.2
