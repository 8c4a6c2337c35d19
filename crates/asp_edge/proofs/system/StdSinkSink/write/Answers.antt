use Rattle.std.proofs.Common.{◌≡◌, ℕ, ◌+◌, ◌-◌, List, ◌++◌, Option, None, Some, length, take, drop, subst, sym, ap, ◌∙◌, append_assoc, rules}
use Rattle.std.proofs.Math.Seq.{take-add}
use Rattle.std.proofs.lemmas.List.{take_all, take_rest}
use Rattle.std.specs.Io.KnownBytes as known
use Rattle.asp_edge.specs.Told.{SinkTells}
use Rattle.asp_edge.specs.Causes.{Appends, Took}
use Rattle.asp_edge.specs.System.{stream_of, stream_told}
use Rattle.asp_edge.proofs.system.StdSinkSink.write.Goals as goal

-- a part that is taken, and then a front part of what is left
front_more : (piece : List ℕ) (m n : ℕ) → take m piece ++ take n (take (length piece - m) (drop m piece)) ≡ take (m + n) piece
front_more piece m n = ap (λ l. take m piece ++ take n l) (take_rest piece m) ∙ sym (take-add m n piece)

-- a writer that tells its bytes has the more
appends_then : (a b c : Option (List ℕ)) (x y : List ℕ) → Appends a b x → known.Appends b c y → Appends a c (x ++ y)
appends_then None b c x y p q = tt
appends_then (Some xs) None c x y p q = absurd cc
appends_then (Some xs) (Some ys) None x y p q = absurd q
appends_then (Some xs) (Some ys) (Some zs) x y p q =
    let e : ys ≡ xs ++ x = cc in
    ap Some (q ∙ ap (λ (l : List ℕ). l ++ y) e ∙ append_assoc xs x y)

took_more : (before middle now : SinkTells) (piece : List ℕ) (m n : ℕ) → Took before middle (take m piece)
    → now.taken ≡ middle.taken ++ take n (take (length piece - m) (drop m piece))
    → known.Appends middle.bytes now.bytes (take n (take (length piece - m) (drop m piece))) → Took before now (take (m + n) piece)
took_more before middle now piece m n took taken told =
    let rest : List ℕ = take n (take (length piece - m) (drop m piece)) in
    record {
      taken = taken ∙ ap (λ (l : List ℕ). l ++ rest) took.taken ∙ append_assoc before.taken (take m piece) rest ∙ ap (λ (l : List ℕ). before.taken ++ l) (front_more piece m n);
      told = subst (Appends before.bytes now.bytes) (front_more piece m n) (appends_then before.bytes middle.bytes now.bytes (take m piece) rest took.told told);
    }

pub loop-done-preserved : goal.loop-done-preserved
loop-done-preserved g c = record {
  within = search rules;
  faults = search rules;
  took = took_more _ (stream_told (g.W.Write.contents (stream_of c.loop-done.self)) c.loop-done.self) _ c.args.piece.now c.loop-done.done c.take_some-count.result
      c.loop-done.invariant.took c.take_some-count.ensures.taken c.take_some-count.ensures.appended;
}

pub returns-then-count-eq0-clause-front : goal.returns-then-count-eq0-clause-front
returns-then-count-eq0-clause-front g c = (
  c.loop-done.done + c.take_some-count.result,
  took_more _ (stream_told (g.W.Write.contents (stream_of c.loop-done.self)) c.loop-done.self) _ c.args.piece.now c.loop-done.done c.take_some-count.result
      c.loop-done.invariant.took c.take_some-count.ensures.taken c.take_some-count.ensures.appended,
)

pub returns-clause-all : goal.returns-clause-all
returns-clause-all g c = subst (Took _ _) (take_all c.loop-done.done c.args.piece.now c.loop-done-test.false) c.loop-done.invariant.took
