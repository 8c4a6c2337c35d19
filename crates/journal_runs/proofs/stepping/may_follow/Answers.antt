use Rattle.std.proofs.Common.{◌≡◌, ◌∙◌, Bool, true, false, refl, rules, sym, subst, inl, inr}
use Rattle.std.specs.Prelude.{not}
use Rattle.asp_model.specs.Configuration.{Configuration}
use Rattle.asp_model.specs.Names.{Name}
use Rattle.journal_runs.specs.declared.stepping.Next.TheVariants as next
use Rattle.journal_runs.specs.Stepping.{IsNext, MayFollow}
use Rattle.journal_runs.proofs.stepping.may_follow.Goals as goal

follows_not : (c : Configuration) (n : Name) (more : Bool) → IsNext c n next.Communicates → MayFollow c n more (not more)
follows_not c n true h = inr (refl, h.0)
follows_not c n false h = (h.1, λ m. absurd cc)

pub returns-in-Rests : goal.returns-in-Rests
returns-in-Rests c = record { may = λ k n h. inl (subst (IsNext k n) c.in-Rests.is h) }

pub returns-in-Communicates : goal.returns-in-Communicates
returns-in-Communicates c = record { may = λ k n h. follows_not k n c.args.more (subst (IsNext k n) c.in-Communicates.is h) }

pub returns-in-Contracts : goal.returns-in-Contracts
returns-in-Contracts c = record { may = λ k n h. let x = subst (IsNext k n) c.in-Contracts.is h in (x.1, λ m. inl x.0) }

pub returns-in-Needs : goal.returns-in-Needs
returns-in-Needs c = record { may = λ k n h. let x = subst (IsNext k n) c.in-Needs.is h in (x.1, λ m. inr x.0) }
