use Rattle.std.proofs.Common.{List, subst, sym}
use Rattle.std.specs.Arc.{arc_value}
use Rattle.std.specs.Global.{Box}
use Rattle.asp_model.specs.Names.{Name}
use Rattle.asp_model.specs.declared.name.FutureName.{FutureName}
use Rattle.step_activity.specs.declared.actor.Actor.{Actor}
use Rattle.core_state.specs.Cores.{program_of}
use Rattle.core_thaws.specs.Telling.{AreApart, AreHomesOf, BeginWith}
use Rattle.asp_core.proofs.ThawLemmas.{apart_frozen, are_homes, may_go_on}
use Rattle.asp_core.proofs.thawing.resume.Goals as goal

pub tell-requires-clause-apart : goal.tell-requires-clause-apart
tell-requires-clause-apart g c = let r = c.requires.first in subst AreApart (sym c.deref.ensures.value) (apart_frozen c.args.frozen r.0 c.args.budget r.1)

pub tell-requires-clause-homes : goal.tell-requires-clause-homes
tell-requires-clause-homes g c =
    let r = c.requires.first in
    let told = subst (λ (hs : List (FutureName × Name)). AreHomesOf r.0.configuration hs c.args.frozen.futures) (sym c.deref-2.ensures.value) (are_homes c.args.frozen r.0 c.args.budget r.1) in
    (r.0.configuration, told)

pub thawed-requires : goal.thawed-requires
thawed-requires g c = let r = c.requires.first in record { may = (arc_value c.args.frozen.code, r.0, may_go_on c.args.frozen r.0 c.args.budget r.1) }

pub returns-in-Ok-thawed-clause-core : goal.returns-in-Ok-thawed-clause-core
returns-in-Ok-thawed-clause-core g c = λ f may.
    c.in-Ok-thawed.ensures.core (arc_value c.args.frozen.code) (program_of (arc_value c.args.frozen.code)) f (may_go_on c.args.frozen f c.args.budget may)

pub returns-in-Ok-thawed-clause-begin : goal.returns-in-Ok-thawed-clause-begin
returns-in-Ok-thawed-clause-begin g c = λ f may.
    let homes = subst (λ (hs : List (FutureName × Name)). AreHomesOf f.configuration hs c.args.frozen.futures) (sym c.deref-2.ensures.value) (are_homes c.args.frozen f c.args.budget may) in
    subst (λ (es : List (Name × Box Actor)). BeginWith f.configuration es c.args.edges.now c.tell.new.edges) c.deref.ensures.value (c.in-Ok.ensures.begin f.configuration homes)
