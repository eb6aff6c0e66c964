-- The prover does not join what was written before with what a write took: the lemmas on it are handed to it.
use Rattle.std.proofs.Common.{◌≡◌, ◌∙◌, ℕ, ◌+◌, ◌-◌, ◌≤◌, List, length, take, drop, sym, ap, subst, arith}
use Rattle.std.proofs.lemmas.List.{length-drop, take_rest}
use Rattle.std.specs.Io.KnownBytes.{Appends}
use Rattle.std.proofs.KnownBytes.{Appends-kept}
use Rattle.output.proofs.Beginnings.{bytes_more, first_bytes}
use Rattle.output.proofs.bytes.write_bytes.Goals as goal
use Rattle.output.proofs.bytes.write_bytes.Goals.{in-Ok, in-Err+else-ne}

-- So many bytes behind these are within the text.
more_within : (text : List ℕ) (n more now : ℕ) → n ≤ length text → more ≤ length (take (length text - n) (drop n text))
    → now ≡ n + more
    → now ≤ length text
more_within text n more now within bound is =
    let size = ap length (take_rest text n) ∙ length-drop n text in omega (arith, within, bound, is, size)

pub returns-in-Ok-eq0-clause-begun : goal.returns-in-Ok-eq0-clause-begun
returns-in-Ok-eq0-clause-begun g c =
    let contents = g.W.Write.contents in
    let text = c.args.bytes.now in
    let more = c.in-Ok-eq0.field-0 in
    let old = contents c.args.out.now in
    let new = contents c.write.new.self in
    first_bytes text (c.loop.written + more) old new
    (bytes_more text c.loop.written more old (contents c.loop.out) new c.loop.invariant.appended
    c.in-Ok-eq0.ensures.bytes)

pub returns-then-ne-clause-begun : goal.returns-then-ne-clause-begun
returns-then-ne-clause-begun g c =
    let contents = g.W.Write.contents in
    let old = contents c.args.out.now in
    let new = contents c.write.new.self in
    let before = take c.loop.written c.args.bytes.now in
    first_bytes c.args.bytes.now c.loop.written old new
    (Appends-kept old (contents c.loop.out) new before c.loop.invariant.appended c.in-Err.ensures.bytes)

pub loop-preserved : goal.loop-preserved
loop-preserved g c =
    let contents = g.W.Write.contents in
    let text = c.args.bytes.now in
    let n = c.loop.written in
    let old = contents c.args.out.now in
    let mid = contents c.loop.out in
    let new = contents c.write.new.self in
    let before = c.loop.invariant in elim c.match-write.branch [
      | in-Ok w ↦ record {
        within = more_within text n w.in-Ok.count c.match-write.written before.within w.in-Ok.ensures.bound
            w.written-is;
        appended = subst (λ n. Appends old new (take n text)) (sym w.written-is)
            (bytes_more text n w.in-Ok.count old mid new before.appended w.in-Ok.ensures.bytes);
      }
      | in-Err+else-ne w ↦ record {
        within = subst (λ n. n ≤ length text) (sym w.written-is) before.within;
        appended = subst (λ n. Appends old new (take n text)) (sym w.written-is)
            (Appends-kept old mid new (take n text) before.appended w.in-Err.ensures.bytes);
      }
    ]

pub returns-clause-begun : goal.returns-clause-begun
returns-clause-begun g c = first_bytes c.args.bytes.now c.loop.written (g.W.Write.contents c.args.out.now)
    (g.W.Write.contents c.loop.out) c.loop.invariant.appended
