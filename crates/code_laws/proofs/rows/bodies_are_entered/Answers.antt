use Rattle.code_laws.proofs.BodyLemmas.{Entered, entered, calls}
use Rattle.code_laws.proofs.rows.bodies_are_entered.Goals as goal

pub returns : goal.returns
returns c = record { law = λ ps m cs i ks s h size arity. let e : Entered ps m cs i ks = entered ps m cs i ks h size arity in (e.runs, calls ps m cs i ks s h size arity) }
