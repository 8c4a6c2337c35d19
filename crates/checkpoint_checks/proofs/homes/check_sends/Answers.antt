use Rattle.std.proofs.Common.{◌≡◌, ℕ, ◌+◌, suc, Bool, true, ap, sym, subst, ◌∙◌, add-one, arith}
use Rattle.std.proofs.lemmas.Bool.{and_from}
use Rattle.std.proofs.lemmas.Result.{err_from_is_err_and}
use Rattle.std.specs.Option.{is_some}
use Rattle.asp_model.specs.Names.{FutureShape, Name}
use Rattle.checkpoint_checks.specs.Maps.{home_in}
use Rattle.checkpoint_checks.specs.Names.{all_to}
use Rattle.checkpoint_checks.proofs.SameLemmas.{fails_to}
use Rattle.checkpoint_checks.proofs.homes.check_sends.Goals as goal

abbrev at : Name → ℕ → FutureShape
at n i = record { by = n; index = i }

pub loop-number-preserved : goal.loop-number-preserved
loop-number-preserved c =
    let look = home_in c.args.homes.now in
    let name = c.args.activity.now.name in
    let p : ℕ → Bool = λ k. is_some (look (at name (suc k))) in
    let i = c.loop-number.number in
    let is : at c.in_ok-by.by (i + 1) ≡ at name (suc i) = λ j. at (c.in_ok-by.ensures.name j) (add-one i j) in
    subst (λ j. all_to p j ≡ true) (sym (add-one i))
    (and_from (all_to p i) (p i) c.loop-number.invariant (ap (λ g. is_some (look g)) (sym is) ∙ c.in_ok-check_housed.ensures.housed))

pub returns-in_err-check_housed : goal.returns-in_err-check_housed
returns-in_err-check_housed c =
    let q = err_from_is_err_and c.from_residual-in_err-check_housed.result c.from_residual-in_err-check_housed.ensures.1 in
    let look = home_in c.args.homes.now in
    let name = c.args.activity.now.name in
    let p : ℕ → Bool = λ k. is_some (look (at name (suc k))) in
    let i = c.loop-number.number in
    let is : at c.in_ok-by.by (i + 1) ≡ at name (suc i) = λ j. at (c.in_ok-by.ensures.name j) (add-one i j) in
    rw (q.1, q.2)
    (record { housed = λ u. fails_to p c.args.activity.now.sends i (omega arith) (ap (λ g. is_some (look g)) (sym is) ∙ c.in_err-check_housed.ensures.housed u) })
