use Rattle.std.proofs.Common.{◌∙◌, List, [], Option, ap, map, option_map, sym, unwrap_or}
use Rattle.std.specs.Borrow.{Bor}
use Rattle.std.proofs.lemmas.Result.{IfOk-weaker}
use Rattle.clap.specs.Walk.{Text}
use Rattle.clap.specs.Matches.{found_of}
use Rattle.clap.proofs.WalkLemmas.{raw_values-rows}
use Rattle.outcomes_words.specs.Shapes.{texts_behind}
use Rattle.outcomes_words.proofs.command.texts_of.Goals as goal

abbrev texts_in : Option (Bor (List (Bor Text))) → Option (List Text)
texts_in = option_map (λ s. map (λ v. v.now) s.now)

abbrev texts_or : Option (List Text) → List Text
texts_or o = unwrap_or o []

pub returns-in-Some : goal.returns-in-Some
returns-in-Some c =
    let all = sym (c.get_strs.ensures ∙ raw_values-rows (found_of c.args.matches.now) c.args.id.now) ∙ ap texts_in c.in-Some.is in
    IfOk-weaker c.from_slice.result _ _ (λ v h. ap texts_behind h ∙ sym (ap texts_or all)) c.from_slice.ensures.items

pub returns-in-None : goal.returns-in-None
returns-in-None c =
    let all = sym (c.get_strs.ensures ∙ raw_values-rows (found_of c.args.matches.now) c.args.id.now) ∙ ap texts_in c.in-None.is in
    ap texts_behind c.new.ensures.items ∙ sym (ap texts_or all)
