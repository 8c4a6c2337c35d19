-- The laws of splitting.
use Rattle.std.proofs.Common.{◌≡◌, inl, inr, ◌<◌, ◌+◌, ◌-◌, ℕ, zero, suc, false, List, [], ◌∷◌, ◌++◌, length, refl, sym, ap, subst, ◌∙◌, append_assoc, length-append, add-zero, arith}
use Rattle.std.proofs.lemmas.List.{append-nil}
use Rattle.std.proofs.lemmas.Bool.{false≢true}
use Rattle.asp_model.specs.Term.{Head, Loc, Call, Group, Tree, Trees, node, none, more, loc, locs_then, child_count}
use Rattle.asp_model.specs.Split.{Context, Redex, Split, Stands, Splits, split, split_below, plugged, plug, reduced_count}
use Rattle.code_laws.specs.Splitting.{redex_node, is_loc, IsRedex, IsContext, AreContexts, HasBareLocations, HaveBareLocations}

-- Places

pub locs_snoc : (ns : List ℕ) (n : ℕ) (ts : Trees) → locs_then (ns ++ n ∷ []) ts ≡ locs_then ns (more (loc n) ts)
locs_snoc [] n ts = refl
locs_snoc (m ∷ ns) n ts = ap (more (loc m)) (locs_snoc ns n ts)

pub plug_snoc : (cs : List Context) (c : Context) (t : Tree) → plug (cs ++ c ∷ []) t ≡ plugged c (plug cs t)
plug_snoc [] c t = refl
plug_snoc (d ∷ cs) c t = plug_snoc cs c (plugged d t)

abbrev went_on : Head → List ℕ → Trees → ℕ → Split → Split
went_on h places ts n (Stands p) = split_below h n (places ++ p ∷ []) ts
went_on h places ts n (Splits cs r) = Splits (cs ++ record { head = h; before = places; behind = ts } ∷ []) r

split_at : (h : Head) (n : ℕ) (places : List ℕ) (t : Tree) (ts : Trees) (cs : List Context) (r : Redex) → split t ≡ Splits cs r
    → split_below h (suc n) places (more t ts) ≡ Splits (cs ++ record { head = h; before = places; behind = ts } ∷ []) r
split_at h n places t ts cs r e = ap (went_on h places ts n) e

split_none : (h : Head) (places : List ℕ) (ts : Trees) → split_below h 0 places ts ≡ Splits [] (record { head = h; places = places; behind = ts })
split_none h places none = refl
split_none h places (more t ts) = refl

split_node : (h : Head) (ts : Trees) → is_loc h ≡ false → split (node h ts) ≡ split_below h (reduced_count h ts) [] ts
split_node (Loc n) ts e = absurd (false≢true (sym e))
split_node h ts e = refl

-- Counts

child_count_at : (ns : List ℕ) (t u : Tree) (ts : Trees) → child_count (locs_then ns (more t ts)) ≡ child_count (locs_then ns (more u ts))
child_count_at [] t u ts = refl
child_count_at (n ∷ ns) t u ts = ap suc (child_count_at ns t u ts)

-- whichever term stands in the hole
count_at : (h : Head) (ns : List ℕ) (t u : Tree) (ts : Trees) → reduced_count h (locs_then ns (more t ts)) ≡ reduced_count h (locs_then ns (more u ts))
count_at (Call l) ns t u ts = child_count_at ns t u ts
count_at Group ns t u ts = child_count_at ns t u ts
count_at h ns t u ts = refl

no_loc : (h : Head) (ts : Trees) (n : ℕ) → n < reduced_count h ts → is_loc h ≡ false
no_loc (Loc m) ts n h = absurd (omega arith)
no_loc g ts n h = refl

-- One way

split_over : (h : Head) (places ns : List ℕ) (k n : ℕ) (ts : Trees) → n ≡ length ns + k → split_below h n places (locs_then ns ts) ≡ split_below h k (places ++ ns) ts
split_over h places [] k n ts e =
    let same : n ≡ k = omega (arith, e) in
    ap (λ (m : ℕ). split_below h m places ts) same ∙ ap (λ (l : List ℕ). split_below h k l ts) (sym (append-nil places))
split_over h places (m ∷ ns) k zero ts e = absurd (omega (arith, e))
split_over h places (m ∷ ns) k (suc n) ts e =
    split_over h (places ++ m ∷ []) ns k n ts (omega (arith, e)) ∙ ap (λ (l : List ℕ). split_below h k l ts) (append_assoc places (m ∷ []) ns)

split_redex : (r : Redex) → IsRedex r → split (redex_node r) ≡ Splits [] r
split_redex r (e, inl count) =
    split_node r.head (locs_then r.places r.behind) e
    ∙ split_over r.head [] r.places 0 (reduced_count r.head (locs_then r.places r.behind)) r.behind (count ∙ sym (add-zero (length r.places))) ∙ split_none r.head r.places r.behind
split_redex r (e, inr ends) =
    let count : ℕ = reduced_count r.head (locs_then r.places r.behind) in
    let k : ℕ = count - length r.places in
    let all : count ≡ length r.places + k = omega (arith, ends.1) in
    split_node r.head (locs_then r.places r.behind) e ∙ split_over r.head [] r.places k count r.behind all
    ∙ ap (split_below r.head k r.places) ends.0 ∙ ap (λ (ts : Trees). Splits [] (record { head = r.head; places = r.places; behind = ts })) (sym ends.0)

split_context : (c : Context) (t : Tree) (cs : List Context) (r : Redex) → IsContext c → split t ≡ Splits cs r → split (plugged c t) ≡ Splits (cs ++ c ∷ []) r
split_context c t cs r h e =
    let ts : Trees = locs_then c.before (more t c.behind) in
    let count : ℕ = reduced_count c.head ts in
    let below : length c.before < count = subst (λ (n : ℕ). length c.before < n) (count_at c.head c.before (loc 0) t c.behind) h in
    let k : ℕ = count - suc (length c.before) in
    let all : count ≡ length c.before + suc k = omega (arith, below) in
    split_node c.head ts (no_loc c.head ts (length c.before) below) ∙ split_over c.head [] c.before (suc k) count (more t c.behind) all ∙ split_at c.head k c.before t c.behind cs r e

split_plug : (cs ds : List Context) (t : Tree) (r : Redex) → AreContexts cs → split t ≡ Splits ds r → split (plug cs t) ≡ Splits (ds ++ cs) r
split_plug [] ds t r h e = e ∙ ap (λ (l : List Context). Splits l r) (sym (append-nil ds))
split_plug (c ∷ cs) ds t r h e = split_plug cs (ds ++ c ∷ []) (plugged c t) r h.1 (split_context c t ds r h.0 e) ∙ ap (λ (l : List Context). Splits l r) (append_assoc ds (c ∷ []) cs)

pub splits_one_way : (cs : List Context) (r : Redex) → AreContexts cs → IsRedex r → split (plug cs (redex_node r)) ≡ Splits cs r
splits_one_way cs r h e = split_plug cs [] (redex_node r) r h (split_redex r e)

-- Plugging back

abbrev whole : Split → Tree
whole (Stands p) = loc p
whole (Splits cs r) = plug cs (redex_node r)

whole_step : (h : Head) (n : ℕ) (places : List ℕ) (t : Tree) (ts : Trees) (x : Split) → whole x ≡ t
    → ((p : ℕ) → whole (split_below h n (places ++ p ∷ []) ts) ≡ node h (locs_then (places ++ p ∷ []) ts)) → whole (went_on h places ts n x) ≡ node h (locs_then places (more t ts))
whole_step h n places t ts (Stands p) e again = again p ∙ ap (node h) (locs_snoc places p ts) ∙ ap (λ (u : Tree). node h (locs_then places (more u ts))) e
whole_step h n places t ts (Splits cs r) e again =
    let c : Context = record { head = h; before = places; behind = ts } in
    plug_snoc cs c (redex_node r) ∙ ap (plugged c) e

mutual
  whole_tree : (t : Tree) → HasBareLocations t → whole (split t) ≡ t
  whole_tree (node (Loc n) ts) h = ap (node (Loc n)) (sym h)
  whole_tree (node g ts) h = whole_below g (reduced_count g ts) [] ts h

  whole_below : (h : Head) (n : ℕ) (places : List ℕ) (ts : Trees) → HaveBareLocations ts → whole (split_below h n places ts) ≡ node h (locs_then places ts)
  whole_below h n places none e = refl
  whole_below h zero places (more t ts) e = refl
  whole_below h (suc n) places (more t ts) e = whole_step h n places t ts (split t) (whole_tree t e.0) (λ p. whole_below h n (places ++ p ∷ []) ts e.1)

pub splits_plug_back : (t : Tree) (cs : List Context) (r : Redex) → HasBareLocations t → split t ≡ Splits cs r → plug cs (redex_node r) ≡ t
splits_plug_back t cs r h e = sym (ap whole e) ∙ whole_tree t h

-- Redexes

abbrev IsGood : Split → Type 0
IsGood (Stands p) = Unit {0}
IsGood (Splits cs r) = AreContexts cs × IsRedex r

contexts_snoc : (cs : List Context) (c : Context) → AreContexts cs → IsContext c → AreContexts (cs ++ c ∷ [])
contexts_snoc [] c h e = (e, tt)
contexts_snoc (d ∷ cs) c h e = (h.0, contexts_snoc cs c h.1 e)

good_step : (h : Head) (n : ℕ) (places : List ℕ) (t : Tree) (ts : Trees) (x : Split) → reduced_count h (locs_then places (more t ts)) ≡ length places + suc n → IsGood x
    → ((p : ℕ) → IsGood (split_below h n (places ++ p ∷ []) ts)) → IsGood (went_on h places ts n x)
good_step h n places t ts (Stands p) count e again = again p
good_step h n places t ts (Splits cs r) count e again =
    let below : length places < reduced_count h (locs_then places (more (loc 0) ts)) = omega (arith, count, count_at h places t (loc 0) ts) in
    (contexts_snoc cs (record { head = h; before = places; behind = ts }) e.0 below, e.1)

next_count : (h : Head) (n : ℕ) (places : List ℕ) (t : Tree) (ts : Trees) (p : ℕ) → reduced_count h (locs_then places (more t ts)) ≡ length places + suc n → reduced_count h (locs_then (places ++ p ∷ []) ts) ≡ length (places ++ p ∷ []) + n
next_count h n places t ts p e =
    let more_places : length (places ++ p ∷ []) ≡ length places + 1 = length-append places (p ∷ []) in
    let end : length places + suc n ≡ length (places ++ p ∷ []) + n = omega (arith, more_places) in
    ap (reduced_count h) (locs_snoc places p ts) ∙ count_at h places (loc p) t ts ∙ e ∙ end

mutual
  good_tree : (t : Tree) → IsGood (split t)
  good_tree (node (Loc n) ts) = tt
  good_tree (node g ts) = good_below g (reduced_count g ts) [] ts refl (omega arith)

  good_below : (h : Head) (n : ℕ) (places : List ℕ) (ts : Trees) → is_loc h ≡ false → reduced_count h (locs_then places ts) ≡ length places + n → IsGood (split_below h n places ts)
  good_below h n places none e count = (tt, (e, inr (refl, omega (arith, count))))
  good_below h zero places (more t ts) e count = (tt, (e, inl (count ∙ add-zero (length places))))
  good_below h (suc n) places (more t ts) e count = good_step h n places t ts (split t) count (good_tree t) (λ p. good_below h n (places ++ p ∷ []) ts e (next_count h n places t ts p count))

pub splits_are_redexes : (t : Tree) (cs : List Context) (r : Redex) → split t ≡ Splits cs r → AreContexts cs × IsRedex r
splits_are_redexes t cs r e = subst IsGood e (good_tree t)
