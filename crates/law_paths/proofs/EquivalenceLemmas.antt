-- Agreement is an equivalence.
use Rattle.std.specs.Prelude.{ℕ, List, [], ◌∷◌, Option, Some, None}
use Rattle.std.proofs.Common.{refl, sym, ◌∙◌}
use Rattle.asp_model.specs.Names.{FutureShape}
use Rattle.asp_model.specs.Chase.{Chase, chase}
use Rattle.asp_model.specs.Configuration.{RequestShape, Activity, Configuration}
use Rattle.def_paths.specs.Places.{Side, AreReadAlike}
use Rattle.def_paths.specs.Agree.{Pairs, no_pair, pair, MayBoth, neither, both, ActivitiesAgree, ParcelsAgree, RequestsAgree, Agrees}

pub alike_itself : (a : Side) (xs : List ℕ) → AreReadAlike a a xs xs
alike_itself a xs = record { finds = λ k ns. refl; shares = λ k l ns ms. (λ e. e, λ e. e) }

pub alike_back : (a b : Side) (xs ys : List ℕ) → AreReadAlike a b xs ys → AreReadAlike b a ys xs
alike_back a b xs ys r = record { finds = λ k ns. sym (r.finds k ns); shares = λ k l ns ms. ((r.shares k l ns ms).1, (r.shares k l ns ms).0) }

pub alike_then : (a b c : Side) (xs ys zs : List ℕ) → AreReadAlike a b xs ys → AreReadAlike b c ys zs → AreReadAlike a c xs zs
alike_then a b c xs ys zs r s = record {
  finds = λ k ns. r.finds k ns ∙ s.finds k ns;
  shares = λ k l ns ms. (λ e. (s.shares k l ns ms).0 ((r.shares k l ns ms).0 e), λ e. (r.shares k l ns ms).1 ((s.shares k l ns ms).1 e));
}

module _ {A : Type 0} (R : A → A → Type 0) where
  pub may_itself : ((x : A) → R x x) → (o : Option A) → MayBoth R o o
  may_itself to None = neither
  may_itself to (Some x) = both (to x)

  may_back : ((x y : A) → R x y → R y x) → (o p : Option A) → MayBoth R o p → MayBoth R p o
  may_back to _ _ neither = neither
  may_back to _ _ (both r) = both (to _ _ r)

  pairs_itself : ((x : A) → R x x) → (xs : List A) → Pairs R xs xs
  pairs_itself to [] = no_pair
  pairs_itself to (x ∷ xs) = pair (to x) (pairs_itself to xs)

may_flip : {A : Type 0} (R S : A → A → Type 0) → ((x y : A) → R x y → S y x) → (o p : Option A) → MayBoth R o p → MayBoth S p o
may_flip R S to _ _ neither = neither
may_flip R S to _ _ (both r) = both (to _ _ r)

may_then : {A : Type 0} (R S T : A → A → Type 0) → ((x y z : A) → R x y → S y z → T x z) → (o p q : Option A) → MayBoth R o p → MayBoth S p q → MayBoth T o q
may_then R S T to _ _ _ neither neither = neither
may_then R S T to _ _ _ (both r) (both s) = both (to _ _ _ r s)

pairs_flip : {A : Type 0} (R S : A → A → Type 0) → ((x y : A) → R x y → S y x) → (xs ys : List A) → Pairs R xs ys → Pairs S ys xs
pairs_flip R S to _ _ no_pair = no_pair
pairs_flip R S to _ _ (pair r rs) = pair (to _ _ r) (pairs_flip R S to _ _ rs)

pairs_join : {A : Type 0} (R S T : A → A → Type 0) → ((x y z : A) → R x y → S y z → T x z) → (xs ys zs : List A) → Pairs R xs ys → Pairs S ys zs → Pairs T xs zs
pairs_join R S T to _ _ _ no_pair no_pair = no_pair
pairs_join R S T to _ _ _ (pair r rs) (pair s ss) = pair (to _ _ _ r s) (pairs_join R S T to _ _ _ rs ss)

-- Activities, requests and configurations

pub activity_itself : (k : FutureShape → Chase) (a : Activity) → ActivitiesAgree k k a a
activity_itself k a = record { term = refl; services = refl; reading = alike_itself _ _; present = refl; sends = refl; creations = refl; reductions = refl; lines = refl; served = refl }

activity_back : (k l : FutureShape → Chase) (a b : Activity) → ActivitiesAgree k l a b → ActivitiesAgree l k b a
activity_back k l a b x = record { term = sym x.term; services = sym x.services; reading = alike_back _ _ _ _ x.reading; present = sym x.present; sends = sym x.sends; creations = sym x.creations; reductions = sym x.reductions; lines = sym x.lines; served = sym x.served }

activity_then : (k l m : FutureShape → Chase) (a b c : Activity) → ActivitiesAgree k l a b → ActivitiesAgree l m b c → ActivitiesAgree k m a c
activity_then k l m a b c x y = record { term = x.term ∙ y.term; services = x.services ∙ y.services; reading = alike_then _ _ _ _ _ _ x.reading y.reading; present = x.present ∙ y.present; sends = x.sends ∙ y.sends; creations = x.creations ∙ y.creations; reductions = x.reductions ∙ y.reductions; lines = x.lines ∙ y.lines; served = x.served ∙ y.served }

request_itself : (k : FutureShape → Chase) (r : RequestShape) → RequestsAgree k k r r
request_itself k r = record { label = refl; sender = refl; future = refl; arguments = alike_itself _ _ }

request_back : (k l : FutureShape → Chase) (r s : RequestShape) → RequestsAgree k l r s → RequestsAgree l k s r
request_back k l r s x = record { label = sym x.label; sender = sym x.sender; future = sym x.future; arguments = alike_back _ _ _ _ x.arguments }

request_then : (k l m : FutureShape → Chase) (r s t : RequestShape) → RequestsAgree k l r s → RequestsAgree l m s t → RequestsAgree k m r t
request_then k l m r s t x y = record { label = x.label ∙ y.label; sender = x.sender ∙ y.sender; future = x.future ∙ y.future; arguments = alike_then _ _ _ _ _ _ x.arguments y.arguments }

pub agrees_itself : (c : Configuration) → Agrees c c
agrees_itself c = let k = chase c.futures in record {
  activities = λ n. may_itself (ActivitiesAgree k k) (activity_itself k) _;
  requests = λ n. pairs_itself (RequestsAgree k k) (request_itself k) _;
  logs = λ n. refl;
  values = λ f. may_itself (ParcelsAgree k k) (λ p. alike_itself _ _) _;
}

pub agrees_back : (c d : Configuration) → Agrees c d → Agrees d c
agrees_back c d g = let k = chase c.futures in let l = chase d.futures in record {
  activities = λ n. may_flip (ActivitiesAgree k l) (ActivitiesAgree l k) (activity_back k l) _ _ (g.activities n);
  requests = λ n. pairs_flip (RequestsAgree k l) (RequestsAgree l k) (request_back k l) _ _ (g.requests n);
  logs = λ n. sym (g.logs n);
  values = λ f. may_flip (ParcelsAgree k l) (ParcelsAgree l k) (λ p q x. alike_back _ _ _ _ x) _ _ (g.values f);
}

pub agrees_then : (c d e : Configuration) → Agrees c d → Agrees d e → Agrees c e
agrees_then c d e g h = let k = chase c.futures in let l = chase d.futures in let m = chase e.futures in record {
  activities = λ n. may_then (ActivitiesAgree k l) (ActivitiesAgree l m) (ActivitiesAgree k m) (activity_then k l m) _ _ _ (g.activities n) (h.activities n);
  requests = λ n. pairs_join (RequestsAgree k l) (RequestsAgree l m) (RequestsAgree k m) (request_then k l m) _ _ _ (g.requests n) (h.requests n);
  logs = λ n. g.logs n ∙ h.logs n;
  values = λ f. may_then (ParcelsAgree k l) (ParcelsAgree l m) (ParcelsAgree k m) (λ p q r x y. alike_then _ _ _ _ _ _ x y) _ _ _ (g.values f) (h.values f);
}
