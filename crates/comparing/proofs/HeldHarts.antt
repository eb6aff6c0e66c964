-- What is held of the harts of a capture is what it decodes to.
use Rattle.std.proofs.Common.{◌≡◌, ◌∙◌, ◌≤◌, ◌<◌, ◌+◌, ℕ, zero, suc, Bool, false, List, [], ◌∷◌, Option, Some, ap, arith, get_or}
use Rattle.std.proofs.Common.{length, refl, slice_get}
use Rattle.std.proofs.lemmas.Option.{slice_get-get_or}
use Rattle.captures.specs.Decoded.{IsDecoded, IsDecodedOf}
use Rattle.captures.specs.declared.outcome.CaptureFault.{CaptureFault}
use Rattle.comparing.specs.Compared.{AreGot, AreGotOf, got_by, gots_by, of_harts}
use Rattle.comparing.specs.Counts.{AreCounted, AreCounts, count_of}
use Rattle.comparing.specs.declared.hart_count.HartCount.{HartCount}
use Rattle.message.specs.declared.range.HartRange.{HartRange}
use Rattle.message.specs.declared.message.Message.{Message}
use Rattle.retire.specs.declared.event.Event.{Event}
use Rattle.rvclass.specs.Words.{Words}
use Rattle.comparing.specs.steps.Held.{count_in, got_at}

-- Where the counts of these harts are the same, so is what there is of them.
same_gots : (count other : ℕ → HartCount) (hart harts : ℕ) (lists : List (List Event)) (closed : List Bool)
    → hart + length lists ≤ harts → ((h : ℕ) → h < harts → count h ≡ other h)
    → gots_by count hart lists closed ≡ gots_by other hart lists closed
same_gots count other hart harts [] closed few same = refl
same_gots count other hart harts (list ∷ lists) [] few same = refl
same_gots count other hart harts (list ∷ lists) (flag ∷ closed) few same =
    let here = same hart (omega (arith, few)) in
    let rest = same_gots count other (hart + 1) harts lists closed (omega (arith, few)) same in
    ap (λ own. got_by own list flag ∷ gots_by count (hart + 1) lists closed) here
    ∙ ap (λ rest. got_by (other hart) list flag ∷ rest) rest

-- The counts that are held are those of the messages.
counts_same : (harts : ℕ) (messages : List Message) (counts : List HartCount) → AreCounts harts messages counts
    → (h : ℕ) → h < harts → count_in counts h ≡ count_of messages h
counts_same harts messages counts are h few =
    let many = are.many in
    are.each h (count_in counts h)
    (slice_get-get_or counts h (record { taken = 0; bytes = 0 }) (omega (arith, many, few)))

-- What is held of each hart is what the bytes of the capture decode to.
pub held : (words : Words) (harts : ℕ) (bytes : List ℕ) (lists : List (List Event)) (closed : List Bool)
    (counts : List HartCount) (stop : Option (ℕ × CaptureFault)) → IsDecoded words harts bytes lists closed stop
    → AreCounted bytes (length lists) stop counts
    → AreGot words harts bytes (gots_by (count_in counts) 0 lists closed) stop
held words harts bytes lists closed counts stop decoded counted = record {
  lists = lists;
  closed = closed;
  decoded = decoded;
  header = counted.header;
  messages = counted.messages;
  end = counted.end;
  front = counted.front;
  each = same_gots (count_in counts) _ 0 (length lists) lists closed (omega arith)
      (counts_same (length lists) _ counts counted.are);
}

-- What is held of each of some harts is what the bytes of the capture decode to.
pub held_of : (range : HartRange) (words : Words) (harts : ℕ) (bytes : List ℕ) (lists : List (List Event))
    (closed : List Bool) (counts : List HartCount) (stop : Option (ℕ × CaptureFault))
    → IsDecodedOf range words harts bytes lists closed stop → AreCounted bytes (length lists) stop counts
    → AreGotOf range words harts bytes (of_harts range (gots_by (count_in counts) 0 lists closed)) stop
held_of range words harts bytes lists closed counts stop decoded counted = record {
  lists = lists;
  closed = closed;
  decoded = decoded;
  header = counted.header;
  messages = counted.messages;
  end = counted.end;
  front = counted.front;
  each = ap (of_harts range) (same_gots (count_in counts) _ 0 (length lists) lists closed (omega arith)
      (counts_same (length lists) _ counts counted.are));
}

-- What is held of a hart.
got_there : (count : ℕ → HartCount) (hart i : ℕ) (lists : List (List Event)) (closed : List Bool)
    → length closed ≡ length lists → i < length lists
    → slice_get (gots_by count hart lists closed) i
    ≡ Some (got_by (count (hart + i)) (get_or lists i []) (get_or closed i false))
got_there count hart i [] closed same within = absurd (omega (arith, within))
got_there count hart i (list ∷ lists) [] same within = absurd (omega (arith, same))
got_there count hart zero (list ∷ lists) (flag ∷ closed) same within =
    let here : hart ≡ hart + 0 = omega arith in ap (λ h. Some (got_by (count h) list flag)) here
got_there count hart (suc i) (list ∷ lists) (flag ∷ closed) same within =
    let there : hart + 1 + i ≡ hart + suc i = omega arith in
    got_there count (hart + 1) i lists closed (omega (arith, same)) (omega (arith, within))
    ∙ ap (λ h. Some (got_by (count h) (get_or lists i []) (get_or closed i false))) there

pub got_here : (counts : List HartCount) (i : ℕ) (lists : List (List Event)) (closed : List Bool)
    → length closed ≡ length lists → i < length lists
    → slice_get (gots_by (count_in counts) 0 lists closed) i ≡ Some (got_at counts lists closed i)
got_here counts i lists closed same within =
    let here : 0 + i ≡ i = omega arith in
    got_there (count_in counts) 0 i lists closed same within
    ∙ ap (λ h. Some (got_by (count_in counts h) (get_or lists i []) (get_or closed i false))) here
