use Rattle.std.proofs.Common.{◌≡◌, rules, false, List}
use Rattle.asp_model.specs.Term.{Tree}
use Rattle.asp_model.specs.Configuration.{ServiceShape}
use Rattle.code_table.specs.declared.code.Node.{Node}
use Rattle.step_machine.specs.declared.frames.Site.{Site}
use Rattle.step_machine.specs.declared.frames.Site.TheVariants as site
use Rattle.step_machine.specs.Sites.{IsSite, is_found}
use Rattle.step_machine.specs.Standing.{Standing, View, view_of}
use Rattle.step_machine.proofs.machine.Machine.reach_down.Goals as goal

other_stands : (k : List Node) (t : Tree) (vs : List ServiceShape) (v : View) (s : Site) → is_found s ≡ false → IsSite k t vs v s → Standing k v t vs
other_stands k t vs v site.Other e h = h
other_stands k t vs v (site.Redex n number from done) e h = absurd (search (rules, e))
other_stands k t vs v (site.Nested number from done r) e h = absurd (search (rules, e))

pub returns-then-has_found : goal.returns-then-has_found
returns-then-has_found c = record { site = λ t vs h. c.in_ok-site.ensures.site t vs (c.loop-self.invariant t vs h) c.in-Node.is }

pub loop-self-preserved : goal.loop-self-preserved
loop-self-preserved c =
    λ t vs h.
    other_stands c.args.nodes.now t vs (view_of c.approach.new.self) c.in_ok-site.site (search (rules, c.has_found.ensures.found, c.if-has_found.false)) (c.in_ok-site.ensures.site t vs (c.loop-self.invariant t vs h) c.in-Node.is)
