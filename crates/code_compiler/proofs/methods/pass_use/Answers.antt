use Rattle.std.proofs.Common.{◌≡◌, ◌++◌, ℕ, List, OnOk, sym, ap, subst, ◌∙◌}
use Rattle.std.proofs.lemmas.List.{append-nil}
use Rattle.code_table.specs.declared.code.Capture.{Capture}
use Rattle.code_compiler.proofs.ScopeLemmas.{used_at, used_past}
use Rattle.code_compiler.proofs.methods.pass_use.Goals as goal

pub returns-in-Some : goal.returns-in-Some
returns-in-Some c =
    let look = c.in-Some.ensures.lookup.3 in
    let k : Capture = c.in-Some.capture.now in
    record {
      uses = subst (λ (us : List ℕ). OnOk c.push_use.result (c.push_use.new.uses.items ≡ c.args.uses.now.items ++ us)) (used_at c.args.captured.now c.args.slot k look.0 (look.1 k)) c.push_use.ensures.uses;
    }

pub returns-in-None : goal.returns-in-None
returns-in-None c = record {
  uses = sym (ap (λ (us : List ℕ). c.args.uses.now.items ++ us) (used_past c.args.captured.now c.args.slot c.in-None.ensures.lookup.3) ∙ append-nil c.args.uses.now.items);
}
