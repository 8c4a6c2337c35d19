-- Lists read item by item.
use Rattle.std.proofs.Common.{◌≡◌, ℕ, zero, suc, ◌+◌, ◌-◌, ◌^◌, ◌<◌, ◌≤◌, List, [], ◌∷◌, ◌++◌, map, Option, Some, None, refl, ap, sym, ◌∙◌, arith, append_assoc, subst}
use Rattle.std.proofs.lemmas.List.{append-nil, map-append}
use Rattle.checkpoint_text.specs.Items.{Items}
use Rattle.checkpoint_text.specs.Reading.{Reader, chosen, told, times, list_of, number_to}
use Rattle.checkpoint_items.specs.declared.error.ReadError.{ReadError}
use Rattle.checkpoint_items.specs.declared.error.ReadError.TheVariants as errors
use Rattle.checkpoint_items.specs.Answers.{Refuses}

-- behind others that were read before
abbrev pub front : {X : Type 0} → List X → Option (List X × Items) → Option (List X × Items)
front xs None = None
front xs (Some r) = Some (xs ++ r.0, r.1)

-- of so many from the start on, those up to this one are read, and the others stand here
abbrev pub AreRead : {X Y : Type 0} → Reader X → (Y → X) → ℕ → Items → ℕ → List Y → Items → Type 0
AreRead p f n start i ys here = times p n start ≡ front (map f ys) (times p (n - i) here)

nothing_before : {X : Type 0} (o : Option (List X × Items)) → o ≡ front [] o
nothing_before None = refl
nothing_before (Some r) = refl

pub none_read : {X Y : Type 0} (p : Reader X) (f : Y → X) (n : ℕ) (start : Items) → AreRead p f n start 0 [] start
none_read p f n start =
    let all : n ≡ n - 0 = omega arith in
    nothing_before (times p n start) ∙ ap (λ (k : ℕ). front [] (times p k start)) all

one_before : {X : Type 0} (xs : List X) (x : X) (o : Option (List X × Items)) → front xs (told (λ ys. x ∷ ys) o) ≡ front (xs ++ x ∷ []) o
one_before xs x None = refl
one_before xs x (Some r) = ap (λ ys. Some (ys, r.1)) (sym (append_assoc xs (x ∷ []) r.0))

-- at one of them
next_of : {X Y : Type 0} (p : Reader X) (f : Y → X) (n : ℕ) (start : Items) (i : ℕ) (ys : List Y) (here : Items) → i < n → AreRead p f n start i ys here
    → times p n start ≡ front (map f ys) (chosen (p here) (λ x us. told (λ xs. x ∷ xs) (times p (n - (i + 1)) us)))
next_of p f n start i ys here h e =
    let one : n - i ≡ suc (n - (i + 1)) = omega arith in
    e ∙ ap (λ (k : ℕ). front (map f ys) (times p k here)) one

pub one_read : {X Y : Type 0} (p : Reader X) (f : Y → X) (n : ℕ) (start : Items) (i : ℕ) (ys : List Y) (here : Items) (y : Y) (behind : Items)
    → i < n → AreRead p f n start i ys here → p here ≡ Some (f y, behind) → AreRead p f n start (i + 1) (ys ++ y ∷ []) behind
one_read {X = X} p f n start i ys here y behind h e d =
    let rest = times p (n - (i + 1)) in
    next_of p f n start i ys here h e
    ∙ ap (λ (o : Option (X × Items)). front (map f ys) (chosen o (λ x us. told (λ xs. x ∷ xs) (rest us)))) d
    ∙ one_before (map f ys) (f y) (rest behind)
    ∙ ap (λ (xs : List X). front xs (rest behind)) (sym (map-append f ys (y ∷ [])))

-- a reader that finds nothing where another finds nothing refuses what that refuses
pub refused_by : {X Z : Type 0} (g : Option X → Option Z) → g None ≡ None → (o : Option X) (e : ReadError) → Refuses o e → Refuses (g o) e
refused_by g n o errors.Malformed h = ap g h ∙ n
refused_by g n o errors.OtherProgram h = h
refused_by g n o errors.NotText h = h
refused_by g n o errors.Memory h = h

abbrev refuses_same : {Z : Type 0} → ReadError → Option Z → Type 0
refuses_same e o = Refuses o e

-- what refuses one refuses what is equal
pub moved : {Z : Type 0} (a b : Option Z) (e : ReadError) → a ≡ b → Refuses b e → Refuses a e
moved a b e s h = subst (refuses_same e) (sym s) h

pub one_refused : {X Y : Type 0} (p : Reader X) (f : Y → X) (ws : Items) (n : ℕ) (start : Items) (i : ℕ) (ys : List Y) (here : Items) (e : ReadError)
    → number_to (2 ^ 64) ws ≡ Some (n, start) → i < n → AreRead p f n start i ys here → Refuses (p here) e → Refuses (list_of p ws) e
one_refused {X = X} p f ws n start i ys here e c h r d =
    let rest = times p (n - (i + 1)) in
    moved (list_of p ws) _ e
    (ap (λ (o : Option (ℕ × Items)). chosen o (times p)) c ∙ next_of p f n start i ys here h r)
    (refused_by (λ (o : Option (X × Items)). front (map f ys) (chosen o (λ x us. told (λ xs. x ∷ xs) (rest us)))) refl (p here) e d)

pub all_read : {X Y : Type 0} (p : Reader X) (f : Y → X) (ws : Items) (n : ℕ) (start : Items) (i : ℕ) (ys : List Y) (here : Items)
    → number_to (2 ^ 64) ws ≡ Some (n, start) → n ≤ i → AreRead p f n start i ys here → list_of p ws ≡ Some (map f ys, here)
all_read {X = X} p f ws n start i ys here c h r =
    let over : n - i ≡ 0 = omega arith in
    ap (λ (o : Option (ℕ × Items)). chosen o (times p)) c ∙ r
    ∙ ap (λ (k : ℕ). front (map f ys) (times p k here)) over
    ∙ ap (λ (xs : List X). Some (xs, here)) (append-nil (map f ys))

same_map : {X : Type 0} (xs : List X) → map (λ x. x) xs ≡ xs
same_map [] = refl
same_map (x ∷ xs) = ap (λ ys. x ∷ ys) (same_map xs)

-- the same where the items are kept as they are
pub all_kept : {X : Type 0} (p : Reader X) (ws : Items) (n : ℕ) (start : Items) (i : ℕ) (ys : List X) (here : Items)
    → number_to (2 ^ 64) ws ≡ Some (n, start) → n ≤ i → AreRead p (λ x. x) n start i ys here → list_of p ws ≡ Some (ys, here)
all_kept {X = X} p ws n start i ys here c h r = all_read p (λ x. x) ws n start i ys here c h r ∙ ap (λ (xs : List X). Some (xs, here)) (same_map ys)
