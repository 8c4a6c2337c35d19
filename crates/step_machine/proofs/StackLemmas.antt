-- Frames, environments and operands that grow and are cut.
use Rattle.std.proofs.Common.{◌≡◌, ℕ, ◌+◌, ◌-◌, ◌≤◌, List, [], ◌∷◌, ◌++◌, length, take, drop, refl, sym, ap, subst, ◌∙◌, arith, length-drop, length-append}
use Rattle.std.proofs.lemmas.List.{take_all, take-take, take-append-le, drop-append-le, length-take-le}
use Rattle.std.proofs.Math.Seq.{drop-append_seam, drop-length, take-append_seam}
use Rattle.asp_model.specs.Split.{Context}
use Rattle.code_table.specs.declared.code.Node.{Node}
use Rattle.step_machine.specs.declared.frames.Frame.{Frame}
use Rattle.step_machine.specs.declared.frames.Form.{Form}
use Rattle.step_machine.specs.declared.frames.Form.TheVariants as form
use Rattle.step_machine.specs.Items.{Item, Waits, Suspends}
use Rattle.step_machine.specs.Stacks.{IsWaiting, IsItem, IsWithin, IsStack, last, but_last, top}

-- Operands

pub last_none : (ks : List ℕ) → last 0 ks ≡ []
last_none ks = let minus : length ks - 0 ≡ length ks = omega arith in ap (λ (n : ℕ). drop n ks) minus ∙ drop-length ks

pub but_last_none : (ks : List ℕ) → but_last 0 ks ≡ ks
but_last_none ks = take_all (length ks - 0) ks (omega arith)

pub last_size : (n : ℕ) (ks : List ℕ) → n ≤ length ks → length (last n ks) ≡ n
last_size n ks h = length-drop (length ks - n) ks ∙ omega (arith, h)

pub but_last_size : (n : ℕ) (ks : List ℕ) → length (but_last n ks) ≡ length ks - n
but_last_size n ks = length-take-le (length ks - n) ks (omega arith)

-- one more is the last
pub last_more : (n : ℕ) (ks : List ℕ) (k : ℕ) → n ≤ length ks → last (n + 1) (ks ++ k ∷ []) ≡ last n ks ++ k ∷ []
last_more n ks k h =
    let longer : length (ks ++ k ∷ []) ≡ length ks + 1 = length-append ks (k ∷ []) in
    let at : length (ks ++ k ∷ []) - (n + 1) ≡ length ks - n = omega (arith, longer) in
    let low : length ks - n ≤ length ks = omega arith in
    ap (λ (i : ℕ). drop i (ks ++ k ∷ [])) at ∙ drop-append-le (length ks - n) ks (k ∷ []) low

pub but_last_more : (n : ℕ) (ks : List ℕ) (k : ℕ) → n ≤ length ks → but_last (n + 1) (ks ++ k ∷ []) ≡ but_last n ks
but_last_more n ks k h =
    let longer : length (ks ++ k ∷ []) ≡ length ks + 1 = length-append ks (k ∷ []) in
    let at : length (ks ++ k ∷ []) - (n + 1) ≡ length ks - n = omega (arith, longer) in
    let low : length ks - n ≤ length ks = omega arith in
    ap (λ (i : ℕ). take i (ks ++ k ∷ [])) at ∙ take-append-le (length ks - n) ks (k ∷ []) low

pub last_seam : (ops ks : List ℕ) → last (length ks) (ops ++ ks) ≡ ks
last_seam ops ks =
    let longer : length (ops ++ ks) ≡ length ops + length ks = length-append ops ks in
    let at : length (ops ++ ks) - length ks ≡ length ops = omega (arith, longer) in
    ap (λ (n : ℕ). drop n (ops ++ ks)) at ∙ drop-append_seam ops ks

pub but_last_seam : (ops ks : List ℕ) → but_last (length ks) (ops ++ ks) ≡ ops
but_last_seam ops ks =
    let longer : length (ops ++ ks) ≡ length ops + length ks = length-append ops ks in
    let at : length (ops ++ ks) - length ks ≡ length ops = omega (arith, longer) in
    ap (λ (n : ℕ). take n (ops ++ ks)) at ∙ take-append_seam ops ks

-- Stacks

-- a stack does not look behind the environment of its innermost frame
pub stack_grows : (k : List Node) (fs : List Frame) (env operands added : List ℕ) (xs : List Item) → IsStack k fs env operands xs → IsStack k fs (env ++ added) operands xs
stack_grows k [] env operands added [] h = h
stack_grows k [] env operands added (x ∷ xs) h = absurd h
stack_grows k (f ∷ fs) env operands added [] h = absurd h
stack_grows k (f ∷ fs) env operands added (x ∷ xs) h =
    let w : IsWithin f env operands = h.0 in
    let high : f.height ≤ length env = w.high in
    let same : take f.height env ≡ take f.height (env ++ added) = sym (take-append-le f.height env added high) in
    let higher : f.height ≤ length (env ++ added) = simp length-append (omega (arith, high)) in (
      record { low = w.low; high = higher; done = w.done },
      subst (λ (l : List ℕ). IsItem k (drop f.base l) (last f.done operands) f.form f.node f.from x) same h.1,
      subst (λ (l : List ℕ). IsStack k fs l (but_last f.done operands) xs) same h.2,
    )

-- the environment may be cut there
pub stack_cut : (k : List Node) (fs : List Frame) (env operands : List ℕ) (xs : List Item) → IsStack k fs env operands xs → IsStack k fs (take (top fs) env) operands xs
stack_cut k [] env operands [] h = h
stack_cut k [] env operands (x ∷ xs) h = absurd h
stack_cut k (f ∷ fs) env operands [] h = absurd h
stack_cut k (f ∷ fs) env operands (x ∷ xs) h =
    let w : IsWithin f env operands = h.0 in
    let high : f.height ≤ length env = w.high in
    let same : take f.height env ≡ take f.height (take f.height env) = sym (take-take f.height f.height env (omega arith)) in
    let size : length (take f.height env) ≡ f.height = length-take-le f.height env high in (
      record { low = w.low; high = omega (arith, size); done = w.done },
      subst (λ (l : List ℕ). IsItem k (drop f.base l) (last f.done operands) f.form f.node f.from x) same h.1,
      subst (λ (l : List ℕ). IsStack k fs l (but_last f.done operands) xs) same h.2,
    )

-- the innermost frame, where it waits for a term
pub record Popped (k : List Node) (f : Frame) (fs : List Frame) (env operands : List ℕ) (items : List Item) : Type 0 where
  pub context : Context
  pub others : List Item
  pub are : items ≡ Waits context ∷ others
  pub within : IsWithin f env operands
  pub waiting : IsWaiting k (drop f.base (take f.height env)) (last f.done operands) f.node f.from context
  pub below : IsStack k fs (take f.height env) (but_last f.done operands) others

pub popped : (k : List Node) (f : Frame) (fs : List Frame) (env operands : List ℕ) (xs : List Item) → f.form ≡ form.Terms → IsStack k (f ∷ fs) env operands xs → Popped k f fs env operands xs
popped k f fs env operands [] e h = absurd h
popped k f fs env operands (Suspends g ∷ xs) e h =
    absurd (subst (λ (x : Form). IsItem k (drop f.base (take f.height env)) (last f.done operands) x f.node f.from (Suspends g)) e h.1)
popped k f fs env operands (Waits c ∷ xs) e h = record {
  context = c;
  others = xs;
  are = refl;
  within = h.0;
  waiting = subst (λ (x : Form). IsItem k (drop f.base (take f.height env)) (last f.done operands) x f.node f.from (Waits c)) e h.1;
  below = h.2;
}
