use Rattle.std.proofs.Common.{◌≡◌, ◌<◌, ◌≤◌, List, length, get_or, sym, subst, ◌∙◌}
use Rattle.code_table.specs.declared.code.Node.{Node}
use Rattle.code_table.specs.Sound.{IsSound}
use Rattle.code_table.proofs.TableLemmas.{class_past, lent_class, lent_sound, lent_starts, lent_below}
use Rattle.code_table.proofs.table.Code.class.Goals as goal

pub returns-in-Some-clause-class : goal.returns-in-Some-clause-class
returns-in-Some-clause-class c =
    let ns : List Node = c.args.self.now in
    let i = c.args.number in
    let n : Node = c.in-Some.node.now in
    let look = c.in-Some.ensures.lookup.3 in
    let are : c.deref.result.now ≡ ns = c.deref.ensures.value ∙ c.self.view_is in
    lent_class ns i n c.class_in.result (subst (λ (l : List Node). i < length l) are look.0) (subst (λ (l : List Node). n ≡ get_or l i n) are (look.1 n)) c.class_in.ensures.class

pub returns-in-Some-clause-sound : goal.returns-in-Some-clause-sound
returns-in-Some-clause-sound c =
    let ns : List Node = c.args.self.now in
    let i = c.args.number in
    let n : Node = c.in-Some.node.now in
    let look = c.in-Some.ensures.lookup.3 in
    let are : c.deref.result.now ≡ ns = c.deref.ensures.value ∙ c.self.view_is in
    lent_sound ns i n c.class_in.result (subst IsSound c.self.view_is c.self.invariant) (subst (λ (l : List Node). i < length l) are look.0) (subst (λ (l : List Node). n ≡ get_or l i n) are (look.1 n)) c.class_in.ensures.class

pub returns-in-Some-clause-starts : goal.returns-in-Some-clause-starts
returns-in-Some-clause-starts c =
    let ns : List Node = c.args.self.now in
    let i = c.args.number in
    let n : Node = c.in-Some.node.now in
    let look = c.in-Some.ensures.lookup.3 in
    let are : c.deref.result.now ≡ ns = c.deref.ensures.value ∙ c.self.view_is in
    lent_starts ns i n c.class_in.result (subst IsSound c.self.view_is c.self.invariant) (subst (λ (l : List Node). i < length l) are look.0) (subst (λ (l : List Node). n ≡ get_or l i n) are (look.1 n)) c.class_in.ensures.class

pub returns-in-Some-clause-below : goal.returns-in-Some-clause-below
returns-in-Some-clause-below c =
    let ns : List Node = c.args.self.now in
    let i = c.args.number in
    let n : Node = c.in-Some.node.now in
    let look = c.in-Some.ensures.lookup.3 in
    let are : c.deref.result.now ≡ ns = c.deref.ensures.value ∙ c.self.view_is in
    lent_below ns i n c.class_in.result (subst IsSound c.self.view_is c.self.invariant) (subst (λ (l : List Node). i < length l) are look.0) (subst (λ (l : List Node). n ≡ get_or l i n) are (look.1 n)) c.class_in.ensures.class

pub returns-in-None-clause-class : goal.returns-in-None-clause-class
returns-in-None-clause-class c =
    let ns : List Node = c.args.self.now in
    let i = c.args.number in
    let are : c.deref.result.now ≡ ns = c.deref.ensures.value ∙ c.self.view_is in
    sym (class_past ns i (subst (λ (l : List Node). length l ≤ i) are c.in-None.ensures.lookup.3))
