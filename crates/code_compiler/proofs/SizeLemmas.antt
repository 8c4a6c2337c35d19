-- Parts of terms are less deep than the terms.
use Rattle.std.proofs.Common.{◌≡◌, ℕ, ◌<◌, ◌≤◌, List, length, get_or, sym, subst, arith}
use denote.Param.Weighed.{most, at_most}
use Rattle.std.specs.Global.{Box, Vec}
use Rattle.asp_model.specs.declared.word.Label.{Label}
use Rattle.asp_model.specs.declared.term.Mark.{Mark}
use Rattle.asp_model.specs.declared.term.Method.{Method}
use Rattle.asp_model.specs.declared.term.Term.{Term}
use Rattle.asp_model.specs.declared.term.Term.TheVariants.{Make, Call, Steps, Group}
use Rattle.asp_model.specs.declared.term.Term.TheFolds.{the_lemmas}
use Rattle.asp_model.specs.declared.term.Term.TheShapes.{weighed-Term-Make-0-at-2}
use Rattle.asp_model.proofs.term.Term.TheLaws.{the_size}
use Rattle.asp_model.proofs.term.Method.TheLaws.{the_size as method_size}

abbrev pub field_size : Label × Term → ℕ
field_size f = weighed-Term-Make-0-at-2.weight Term the_size f

pub body_size : (m : Method) → the_size m.body < method_size m
body_size m = grind (arith, the_lemmas)

steps_here : (ts : Vec Term) (k : Mark) → most the_size ts.items < the_size (Steps ts k)
steps_here ts k = grind (arith, the_lemmas)

group_here : (ts : Vec Term) (k : Mark) → most the_size ts.items < the_size (Group ts k)
group_here ts k = grind (arith, the_lemmas)

call_here : (a : Box Term) (l : Label) (ts : Vec Term) (k : Mark) → most the_size ts.items < the_size (Call a l ts k)
call_here a l ts k = grind (arith, the_lemmas)

fields_here : (fs : Vec (Label × Term)) (ms : Vec Method) (k : Mark) → most field_size fs.items < the_size (Make fs ms k)
fields_here fs ms k = grind (arith, the_lemmas)

methods_here : (fs : Vec (Label × Term)) (ms : Vec Method) (k : Mark) → most method_size ms.items < the_size (Make fs ms k)
methods_here fs ms k = grind (arith, the_lemmas)

lies : {A : Type 0} (size : A → ℕ) (xs ys : List A) (t u : Term) → xs ≡ ys → t ≡ u → most size ys < the_size u → most size xs < the_size t
lies size xs ys t u e is h = subst (λ l. most size l < the_size t) (sym e) (subst (λ v. most size ys < the_size v) (sym is) h)

pub steps_size : (t : Term) (xs : List Term) (ts : Vec Term) (k : Mark) → xs ≡ ts.items → t ≡ Steps ts k → most the_size xs < the_size t
steps_size t xs ts k e is = lies the_size xs ts.items t (Steps ts k) e is (steps_here ts k)

pub group_size : (t : Term) (xs : List Term) (ts : Vec Term) (k : Mark) → xs ≡ ts.items → t ≡ Group ts k → most the_size xs < the_size t
group_size t xs ts k e is = lies the_size xs ts.items t (Group ts k) e is (group_here ts k)

pub call_size : (t : Term) (xs : List Term) (a : Box Term) (l : Label) (ts : Vec Term) (k : Mark) → xs ≡ ts.items → t ≡ Call a l ts k → most the_size xs < the_size t
call_size t xs a l ts k e is = lies the_size xs ts.items t (Call a l ts k) e is (call_here a l ts k)

pub fields_size : (t : Term) (xs : List (Label × Term)) (fs : Vec (Label × Term)) (ms : Vec Method) (k : Mark) → xs ≡ fs.items → t ≡ Make fs ms k → most field_size xs < the_size t
fields_size t xs fs ms k e is = lies field_size xs fs.items t (Make fs ms k) e is (fields_here fs ms k)

pub methods_size : (t : Term) (xs : List Method) (fs : Vec (Label × Term)) (ms : Vec Method) (k : Mark) → xs ≡ ms.items → t ≡ Make fs ms k → most method_size xs < the_size t
methods_size t xs fs ms k e is = lies method_size xs ms.items t (Make fs ms k) e is (methods_here fs ms k)

-- one of several is no deeper than the deepest

pub term_size_at : (xs : List Term) (i : ℕ) (x : Term) → i < length xs → x ≡ get_or xs i x → the_size x ≤ most the_size xs
term_size_at xs i x h e = subst (λ y. the_size y ≤ most the_size xs) (sym e) (at_most the_size xs i x h)

pub method_size_at : (xs : List Method) (i : ℕ) (x : Method) → i < length xs → x ≡ get_or xs i x → method_size x ≤ most method_size xs
method_size_at xs i x h e = subst (λ y. method_size y ≤ most method_size xs) (sym e) (at_most method_size xs i x h)

field_within : (f : Label × Term) → the_size f.1 ≤ field_size f
field_within f = omega arith

pub field_size_at : (xs : List (Label × Term)) (i : ℕ) (x : Label × Term) → i < length xs → x ≡ get_or xs i x → the_size x.1 ≤ most field_size xs
field_size_at xs i x h e =
    let le : field_size x ≤ most field_size xs = subst (λ (y : Label × Term). field_size y ≤ most field_size xs) (sym e) (at_most field_size xs i x h) in
    let here : the_size x.1 ≤ field_size x = field_within x in
    omega (arith, le, here)
