use Rattle.std.proofs.Common.{◌≡◌, ℕ, suc, Bool, true, ap, sym, subst, ◌∙◌, add-one, arith}
use Rattle.std.proofs.lemmas.Bool.{and_from}
use Rattle.std.proofs.lemmas.Result.{err_from_is_err_and}
use Rattle.asp_model.specs.Names.{created_name}
use Rattle.checkpoint_checks.specs.Maps.{activity_in}
use Rattle.checkpoint_checks.specs.Names.{all_to, is_named}
use Rattle.checkpoint_checks.proofs.SameLemmas.{fails_to}
use Rattle.checkpoint_checks.proofs.names.check_creations.Goals as goal

pub loop-number-preserved : goal.loop-number-preserved
loop-number-preserved c =
    let look = activity_in c.args.names.now in
    let name = c.args.activity.now.name in
    let p : ℕ → Bool = λ k. is_named look (created_name name (suc k)) in
    let i = c.loop-number.number in
    let is = c.in_ok-name.ensures.name ∙ ap (created_name name) (add-one i) in
    subst (λ j. all_to p j ≡ true) (sym (add-one i))
    (and_from (all_to p i) (p i) c.loop-number.invariant (ap (is_named look) (sym is) ∙ c.in_ok-check_there.ensures.there))

pub returns-in_err-check_there : goal.returns-in_err-check_there
returns-in_err-check_there c =
    let q = err_from_is_err_and c.from_residual-in_err-check_there.result c.from_residual-in_err-check_there.ensures.1 in
    let look = activity_in c.args.names.now in
    let name = c.args.activity.now.name in
    let p : ℕ → Bool = λ k. is_named look (created_name name (suc k)) in
    let i = c.loop-number.number in
    let is = c.in_ok-name.ensures.name ∙ ap (created_name name) (add-one i) in
    rw (q.1, q.2)
    (record { named = λ u. fails_to p c.args.activity.now.creations i (omega arith) (ap (is_named look) (sym is) ∙ c.in_err-check_there.ensures.there u) })
