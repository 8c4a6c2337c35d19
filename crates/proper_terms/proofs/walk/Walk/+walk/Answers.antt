use Rattle.std.proofs.Common.{ℕ, Option, arith, subst, sym}
use Rattle.proper_terms.specs.Tests.{Leaves}
use Rattle.proper_terms.specs.Walks.{bound_in}
use Rattle.proper_terms.proofs.StepLemmas.{enough, few}
use Rattle.proper_terms.proofs.walk.Walk.+walk.Goals as goal

pub visit_steps-returns-then-terms-lt2-clause-left : goal.visit_steps-returns-then-terms-lt2-clause-left
visit_steps-returns-then-terms-lt2-clause-left t c = λ u. few c.args.self.now.size (bound_in c.args.self.now) c.args.terms.now c.args.self.now.holes (omega arith)

pub visit_steps-returns-clause-left : goal.visit_steps-returns-clause-left
visit_steps-returns-clause-left t c =
    subst (λ (o : Option ℕ). Leaves o c.visit_all.new.self.holes c.visit_all.result)
    (sym (enough c.args.self.now.size (bound_in c.args.self.now) c.args.terms.now c.args.self.now.holes (omega arith)))
    c.visit_all.ensures.left
