-- Contexts and services that are held, over a table that grows.
use Rattle.std.proofs.Common.{◌≡◌, ℕ, ◌≤◌, List, [], ◌∷◌, ◌++◌, None, Some, length, map, reverse, sym, ap, subst, ◌∙◌, arith}
use Rattle.std.proofs.lemmas.List.{reverse-append}
use Rattle.std.specs.Option.{option_map}
use Rattle.asp_model.specs.declared.term.Term.{Term}
use Rattle.asp_model.specs.Shapes.{future_shape, tree_of}
use Rattle.code_table.specs.Cells.{held_future}
use Rattle.checkpoint_parts.specs.Shapes.{contexts_shape, running_shape, service_shape}
use Rattle.checkpoint_parts.specs.declared.parts.ServiceText.{ServiceText}
use Rattle.checkpoint_makes.specs.declared.terms.MadeTerm.{MadeTerm}
use Rattle.asp_model.specs.Configuration.{ServiceShape}
use Rattle.asp_model.specs.Split.{Context, Redex}
use Rattle.asp_model.specs.Term.{Tree, loc}
use Rattle.code_compiler.specs.Compiled.{Grows}
use Rattle.code_table.specs.declared.code.Node.{Node}
use Rattle.frozen_code.specs.Held.{HoldsContext, HoldsRedex}
use Rattle.frozen_code.specs.Restoring.{HoldAll, HoldServices, HoldsInnermost, HoldsService}
use Rattle.frozen_code.specs.declared.held.Held.{Held}
use Rattle.frozen_code.specs.declared.machines.Innermost.{Innermost}
use Rattle.frozen_code.specs.declared.machines.Innermost.TheVariants as innermost
use Rattle.frozen_code.specs.declared.machines.Suspended.{Suspended}
use Rattle.frozen_code.proofs.HeldLemmas.{contexts_stay, redexes_stay}
use Rattle.term_opening.specs.Holding.{IsContextTerm, IsRedexTerm, IsSomeContext, IsSomeRedex}
use Rattle.term_opening.specs.Opening.{place_in}
use Rattle.checkpoint_makes.specs.Terms.{AreContextTerms, AreHeld, AreHeldFrom, AreMadeServices, AreSomeContexts, IsHeldInside, IsInside, IsInsideBy, IsMadeService, IsMadeTerm, RunsAs, RunsBy, WaitsAs, inside, place_or}
use Rattle.checkpoint_makes.proofs.MadeLemmas.{grows_none, grows_on}

-- Contexts

pub context_stays : (ns ms : List Node) (x : Held) (c : Context) (added : List Node) → ms ≡ ns ++ added → HoldsContext ns x.node x.places.items x.done.items c → HoldsContext ms x.node x.places.items x.done.items c
context_stays ns ms x c added e h = subst (λ k. HoldsContext k x.node x.places.items x.done.items c) (sym e) (contexts_stay ns added x.node x.places.items x.done.items c h)

pub held_stay : (ns ms : List Node) (xs : List Held) (ts : List Tree) (added : List Node) → ms ≡ ns ++ added → AreHeld ns xs ts → AreHeld ms xs ts
held_stay ns ms [] [] added e h = tt
held_stay ns ms [] (t ∷ ts) added e h = absurd h
held_stay ns ms (x ∷ xs) [] added e h = absurd h
held_stay ns ms (x ∷ xs) (t ∷ ts) added e h = (λ c is. context_stays ns ms x c added e (h.0 c is), held_stay ns ms xs ts added e h.1)

pub one_more_held : (k : List Node) (xs : List Held) (ts : List Tree) (x : Held) (t : Tree) → AreHeld k xs ts
    → ((c : Context) → IsContextTerm c t → HoldsContext k x.node x.places.items x.done.items c) → AreHeld k (xs ++ x ∷ []) (ts ++ t ∷ [])
one_more_held k [] [] x t h is = (is, tt)
one_more_held k [] (u ∷ ts) x t h is = absurd h
one_more_held k (y ∷ xs) [] x t h is = absurd h
one_more_held k (y ∷ xs) (u ∷ ts) x t h is = (h.0, one_more_held k xs ts x t h.1 is)

pub none_held : (ns : List Node) (xs : List Held) → xs ≡ [] → AreHeldFrom ns ns xs []
none_held ns xs e = record { grows = grows_none ns; held = subst (λ ys. AreHeld ns ys []) (sym e) tt }

pub held_more : (ns ms ks : List Node) (xs : List Held) (ts : List Tree) (x : Held) (t : Tree) → AreHeldFrom ns ms xs ts → Grows ms ks
    → ((c : Context) → IsContextTerm c t → HoldsContext ks x.node x.places.items x.done.items c) → AreHeldFrom ns ks (xs ++ x ∷ []) (ts ++ t ∷ [])
held_more ns ms ks xs ts x t from g is = record { grows = grows_on ns ms ks from.grows g; held = one_more_held ks xs ts x t (held_stay ms ks xs ts g.added g.grown from.held) is }

-- a term among them is opened as some context
pub some_at : (cs : List Context) (ts : List Tree) (t : Tree) (us : List Tree) → AreContextTerms cs (ts ++ (t ∷ us)) → IsSomeContext t
some_at [] [] t us h = absurd h
some_at [] (u ∷ ts) t us h = absurd h
some_at (c ∷ cs) [] t us h = (c, h.0)
some_at (c ∷ cs) (u ∷ ts) t us h = some_at cs ts t us h.1

pub all_held : (k : List Node) (xs : List Held) (ts : List Tree) (cs : List Context) → AreHeld k xs ts → AreContextTerms cs ts → HoldAll k xs cs
all_held k [] [] [] h is = tt
all_held k [] [] (c ∷ cs) h is = absurd is
all_held k [] (t ∷ ts) cs h is = absurd h
all_held k (x ∷ xs) [] cs h is = absurd h
all_held k (x ∷ xs) (t ∷ ts) [] h is = absurd is
all_held k (x ∷ xs) (t ∷ ts) (c ∷ cs) h is = (h.0 c is.0, all_held k xs ts cs h.1 is.1)

hold_last : (k : List Node) (xs : List Held) (cs : List Context) (x : Held) (c : Context) → HoldAll k xs cs → HoldsContext k x.node x.places.items x.done.items c → HoldAll k (xs ++ x ∷ []) (cs ++ c ∷ [])
hold_last k [] [] x c h is = (is, tt)
hold_last k [] (d ∷ cs) x c h is = absurd h
hold_last k (y ∷ xs) [] x c h is = absurd h
hold_last k (y ∷ xs) (d ∷ cs) x c h is = (h.0, hold_last k xs cs x c h.1 is)

pub all_turned : (k : List Node) (xs : List Held) (cs : List Context) → HoldAll k xs cs → HoldAll k (reverse xs) (reverse cs)
all_turned k [] [] h = tt
all_turned k [] (c ∷ cs) h = absurd h
all_turned k (x ∷ xs) [] h = absurd h
all_turned k (x ∷ xs) (c ∷ cs) h =
    subst (λ ys. HoldAll k ys (reverse (c ∷ cs))) (sym (reverse-append (x ∷ []) xs))
    (subst (λ ds. HoldAll k (reverse xs ++ x ∷ []) ds) (sym (reverse-append (c ∷ []) cs)) (hold_last k (reverse xs) (reverse cs) x c (all_turned k xs cs h.1) h.0))

pub hold_stay : (ns ms : List Node) (xs : List Held) (cs : List Context) (added : List Node) → ms ≡ ns ++ added → HoldAll ns xs cs → HoldAll ms xs cs
hold_stay ns ms [] [] added e h = tt
hold_stay ns ms [] (c ∷ cs) added e h = absurd h
hold_stay ns ms (x ∷ xs) [] added e h = absurd h
hold_stay ns ms (x ∷ xs) (c ∷ cs) added e h = (context_stays ns ms x c added e h.0, hold_stay ns ms xs cs added e h.1)

-- What stands innermost

pub inner_stays : (ns ms : List Node) (x : Innermost) (t : Tree) (added : List Node) → ms ≡ ns ++ added → HoldsInnermost ns x t → HoldsInnermost ms x t
inner_stays ns ms (innermost.At p) t added e h = h
inner_stays ns ms (innermost.Redex x) t added e h =
    (h.0, subst (λ k. HoldsRedex k x.node x.places.items x.done.items h.0) (sym e) (redexes_stay ns added x.node x.places.items x.done.items h.0 h.1), h.2)

-- Services

pub service_stays : (ns ms : List Node) (x : Suspended) (v : ServiceShape) (added : List Node) → ms ≡ ns ++ added → HoldsService ns x v → HoldsService ms x v
service_stays ns ms x v added e h = record { contexts = hold_stay ns ms x.contexts.items (reverse v.contexts) added e h.contexts; future = h.future }

pub services_stay : (ns ms : List Node) (xs : List Suspended) (vs : List ServiceShape) (added : List Node) → ms ≡ ns ++ added → HoldServices ns xs vs → HoldServices ms xs vs
services_stay ns ms [] [] added e h = tt
services_stay ns ms [] (v ∷ vs) added e h = absurd h
services_stay ns ms (x ∷ xs) [] added e h = absurd h
services_stay ns ms (x ∷ xs) (v ∷ vs) added e h = (service_stays ns ms x v added e h.0, services_stay ns ms xs vs added e h.1)

service_last : (k : List Node) (xs : List Suspended) (vs : List ServiceShape) (x : Suspended) (v : ServiceShape) → HoldServices k xs vs → HoldsService k x v → HoldServices k (xs ++ x ∷ []) (vs ++ v ∷ [])
service_last k [] [] x v h is = (is, tt)
service_last k [] (w ∷ vs) x v h is = absurd h
service_last k (y ∷ xs) [] x v h is = absurd h
service_last k (y ∷ xs) (w ∷ vs) x v h is = (h.0, service_last k xs vs x v h.1 is)

pub no_service : (ns : List Node) (xs : List Suspended) → xs ≡ [] → AreMadeServices ns ns xs []
no_service ns xs e = record { grows = grows_none ns; holds = subst (λ ys. HoldServices ns ys []) (sym e) tt }

pub one_more_service : (ns ms ks : List Node) (xs : List Suspended) (x : Suspended) (vs : List ServiceShape) (v : ServiceShape) → AreMadeServices ns ms xs vs → IsMadeService ms ks x v → AreMadeServices ns ks (xs ++ x ∷ []) (vs ++ v ∷ [])
one_more_service ns ms ks xs x vs v from one = record {
  grows = grows_on ns ms ks from.grows one.grows;
  holds = service_last ks xs vs x v (services_stay ms ks xs vs one.grows.added one.grows.grown from.holds) one.holds;
}

-- Terms

pub some_terms : (xs : List Term) → RunsAs (map tree_of xs) → 1 ≤ length xs
some_terms [] h = absurd h
some_terms (x ∷ xs) h = omega arith

pub some_wait : (xs : List Term) → WaitsAs (map tree_of xs) → 1 ≤ length xs
some_wait [] h = absurd h
some_wait (x ∷ xs) h = omega arith

pub term_made : (ns ms ks : List Node) (terms : List Term) (first : Term) (rest : List Term) (inner : Innermost) (xs ys : List Held) (made : MadeTerm) → terms ≡ first ∷ rest → RunsAs (map tree_of terms)
    → IsHeldInside ns ms inner (tree_of first) → AreHeldFrom ms ks xs (map tree_of rest) → ys ≡ reverse xs → made.innermost ≡ inner → made.contexts.items ≡ ys
    → IsMadeTerm ns ks made (running_shape (map tree_of terms))
term_made ns ms ks terms first rest inner xs ys made all runs at held turned is are =
    let by : RunsBy (tree_of first) (map tree_of rest) = subst (λ ts. RunsAs (map tree_of ts)) all runs in
    let round : HoldAll ks (reverse xs) (reverse by.contexts) = all_turned ks xs by.contexts (all_held ks xs (map tree_of rest) by.contexts held.held by.round) in
    subst (λ ts. IsMadeTerm ns ks made (running_shape (map tree_of ts))) (sym all) (record {
      grows = grows_on ns ms ks at.grows held.grows;
      holds = record {
        contexts = by.contexts;
        inner = inside (tree_of first);
        round = subst (λ zs. HoldAll ks zs (reverse by.contexts)) (sym turned ∙ sym are) round;
        innermost = subst (λ i. HoldsInnermost ks i (inside (tree_of first))) (sym is) (inner_stays ms ks inner (inside (tree_of first)) held.grows.added held.grows.grown at.held);
        term = by.term;
      };
    })

pub inner_asked : (terms : List Term) (first : Term) (rest : List Term) → terms ≡ first ∷ rest → RunsAs (map tree_of terms) → IsInside (tree_of first)
inner_asked terms first rest all runs = let by : RunsBy (tree_of first) (map tree_of rest) = subst (λ ts. RunsAs (map tree_of ts)) all runs in by.inner

pub contexts_asked : (terms : List Term) (first : Term) (rest : List Term) → terms ≡ first ∷ rest → RunsAs (map tree_of terms) → AreSomeContexts (map tree_of rest)
contexts_asked terms first rest all runs = let by : RunsBy (tree_of first) (map tree_of rest) = subst (λ ts. RunsAs (map tree_of ts)) all runs in (by.contexts, by.round)

pub waiting_asked : (terms : List Term) (first : Term) (rest : List Term) → terms ≡ first ∷ rest → WaitsAs (map tree_of terms) → AreSomeContexts (map tree_of rest)
waiting_asked terms first rest all waits = (contexts_shape (map tree_of (first ∷ rest)), subst (λ ts. WaitsAs (map tree_of ts)) all waits)

pub service_made : (ns ms : List Node) (service : ServiceText) (first : Term) (rest : List Term) (xs : List Held) (made : Suspended) → service.terms.items ≡ first ∷ rest → WaitsAs (map tree_of service.terms.items)
    → AreHeldFrom ns ms xs (map tree_of rest) → made.contexts.items ≡ reverse xs → option_map held_future made.future ≡ option_map future_shape service.future → IsMadeService ns ms made (service_shape service)
service_made ns ms service first rest xs made all waits held are future =
    let cs : List Context = contexts_shape (map tree_of service.terms.items) in
    let here : AreContextTerms cs (map tree_of rest) = subst (λ ts. AreContextTerms (contexts_shape (map tree_of ts)) (map tree_of rest)) (sym all) (subst (λ ts. WaitsAs (map tree_of ts)) all waits) in
    record {
      grows = held.grows;
      holds = record {
        contexts = subst (λ zs. HoldAll ms zs (reverse cs)) (sym are) (all_turned ms xs cs (all_held ms xs (map tree_of rest) cs held.held here));
        future = future;
      };
    }

-- What stands innermost is a place, or a redex

pub at_place : (ns : List Node) (t : Tree) (n p : ℕ) → place_in t ≡ Some n → p ≡ n → IsHeldInside ns ns (innermost.At p) t
at_place ns t n p e same = record { grows = grows_none ns; held = ap (λ o. place_or o t) e ∙ ap loc (sym same) }

pub redex_asked : (t : Tree) → place_in t ≡ None → IsInside t → IsSomeRedex t
redex_asked t e is = subst (λ o. IsInsideBy o t) e is

pub at_redex : (ns ms : List Node) (t : Tree) (x : Held) → (e : place_in t ≡ None) → (is : IsInside t) → Grows ns ms
    → ((r : Redex) → IsRedexTerm r t → HoldsRedex ms x.node x.places.items x.done.items r) → IsHeldInside ns ms (innermost.Redex x) t
at_redex ns ms t x e is g holds =
    let r : IsSomeRedex t = redex_asked t e is in
    record { grows = g; held = (r.0, holds r.0 r.1, ap (λ o. place_or o t) e ∙ sym r.1.term) }

-- Lists in other words

pub held_as : (ns ms : List Node) (xs ys : List Held) (ts us : List Tree) → ys ≡ xs → us ≡ ts → AreHeldFrom ns ms xs ts → AreHeldFrom ns ms ys us
held_as ns ms xs ys ts us e q h = subst (λ zs. AreHeldFrom ns ms zs us) (sym e) (subst (AreHeldFrom ns ms xs) (sym q) h)

pub services_as : (ns ms : List Node) (xs ys : List Suspended) (vs ws : List ServiceShape) → ys ≡ xs → ws ≡ vs → AreMadeServices ns ms xs vs → AreMadeServices ns ms ys ws
services_as ns ms xs ys vs ws e q h = subst (λ zs. AreMadeServices ns ms zs ws) (sym e) (subst (AreMadeServices ns ms xs) (sym q) h)
