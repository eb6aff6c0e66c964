-- What comes first of what is left, by what is held.
use Rattle.std.proofs.Common.{◌≡◌, ◌≢◌, ◌<◌, ◌≤◌, ◌+◌, ◌%◌, ◌^◌, ◌∙◌, ℕ, Bool, true, false, List, Option, Some, None, Ok, Err}
use Rattle.std.proofs.Common.{drop, length, take, sym, ap, ap₂, subst, arith}
use Rattle.std.proofs.lemmas.List.{drop-drop, length-append, length-drop}
use Rattle.frames.proofs.FrameLemmas.{complete}
use Rattle.frames.specs.Frame.{frame_in, frame_size, is_complete}
use Rattle.frames.specs.declared.span.Span.{Span}
use Rattle.frames.specs.declared.span.Span.TheVariants as span
use Rattle.message.specs.declared.message.Message.{Message}
use Rattle.live.specs.Following.{Audited, Left, Reads}
use Rattle.live.specs.Holding.{Holding}
use Rattle.live.specs.Received.{bytes_to_next, first_span, is_taken}
use Rattle.live.specs.ReceivedLeft.{FailsFor, Follows, FollowsOn, IsLeft, IsNextSpan, ReceivedHeld, Receives, most_sought, rule_of}
use Rattle.live.specs.ReceivedLeft.{size_of, sought_to}
use Rattle.live.specs.declared.fault.ReceivedFault.{ReceivedFault}
use Rattle.live.specs.declared.fault.ReceivedFault.TheVariants as received
use Rattle.live.specs.steps.Receiving.{IsDecided, IsPassed}
use Rattle.live.proofs.ReceivedBuffer.{held_length, left_none, left_passed, left_some}
use Rattle.live.proofs.ReceivedBytes.{complete_more, frame_more}
use Rattle.live.proofs.ReceivedRuns.{first_run, first_taken, payload_size}
use Rattle.live.proofs.ReceivedSteps.{AreAmong, among_from, among_more, fails_on, follows_among, follows_on}

module _ (all : Audited) (front : ℕ) (own mid new : ReceivedHeld) (rest : List ℕ) (known : mid.harts ≡ own.harts)
    (offset : mid.offset ≡ own.offset) where
  -- A message is taken.
  pub next_taken : (file : Option (List ℕ)) (found : Span) → true ≡ is_taken (rule_of own.harts all front) false rest
      → IsLeft mid file rest → is_complete mid.bytes ≡ true → own.offset + length rest < 2 ^ 64
      → found ≡ span.Frame mid.offset (frame_in mid.bytes) → new.bytes ≡ drop (frame_size mid.bytes) mid.bytes
      → new.ended ≡ mid.ended → new.harts ≡ mid.harts
      → (mid.offset + length mid.bytes < 2 ^ 64 → new.offset ≡ mid.offset + frame_size mid.bytes)
      → IsNextSpan all front own rest (Ok (Some found)) new file
  next_taken None found taken left whole fits is bytes ended same later = absurd left
  next_taken (Some xs) found taken left whole fits is bytes ended same later =
      let held = mid.bytes in
      let c = complete held whole in
      let within = c.fits in
      let every = ap length left.1 in
      let parts = length-append held xs in
      let frame = ap frame_in left.1 ∙ frame_more held xs whole in
      let size = ap (λ s. size_of (Some s)) is ∙ payload_size held whole in
      let moved = later (omega (arith, fits, every, parts, offset)) in (
        ap Some (is ∙ ap₂ span.Frame offset (sym frame))
            ∙ sym (first_taken (rule_of own.harts all front) own.offset rest
            (ap is_complete left.1 ∙ complete_more held xs whole) (sym taken)),
        subst (λ n. IsLeft new (Some xs) (drop n rest)) (sym size)
            (left_passed mid new (Some xs) rest (frame_size held) left within bytes ended),
        omega (arith, moved, size, offset),
        same ∙ known,
      )

  -- Nothing is left.
  pub next_none : (file : Option (List ℕ)) → IsLeft mid file rest → length mid.bytes ≡ 0 → mid.ended ≡ true
      → IsNextSpan all front own rest (Ok None) mid file
  next_none file left none ended = (
    sym (ap (first_span (rule_of own.harts all front) own.offset) (left_none mid file rest left none ended)),
    left,
    omega (arith, offset),
    known,
  )

  -- A run is passed over.
  pub next_run : (file now : Option (List ℕ)) (count : ℕ) → false ≡ is_taken (rule_of own.harts all front) false rest
      → IsLeft mid file rest → 1 ≤ length mid.bytes
      → count ≡ bytes_to_next (rule_of mid.harts all front) (drop 1 rest) + 1
      → IsLeft new now (drop count rest) → new.offset ≡ mid.offset + count → new.harts ≡ mid.harts
      → IsNextSpan all front own rest (Ok (Some (span.Bytes own.offset count))) new now
  next_run file now count none left some counted after moved same = (
    ap (λ n. Some (span.Bytes own.offset n))
        (counted ∙ ap (λ r. bytes_to_next (rule_of r all front) (drop 1 rest) + 1) known)
        ∙ sym (first_run (rule_of own.harts all front) own.offset rest (left_some mid file rest left some) (sym none)),
    after,
    omega (arith, moved, offset),
    same ∙ known,
  )

-- SENT was read on while something comes first, or could not be.
module _ (all : Audited) (came : List Message) (front first : ℕ) (own new : ReceivedHeld) (rest : List ℕ) where
  pub follows_far : (held : Holding) (left : Left) → Follows all came front first rest (most_sought own.harts) held left
      → Follows all came front first rest (sought_to own new) held left
  follows_far held left follows =
      follows_among all came front first rest (most_sought own.harts) rest (sought_to own new)
      (among_more rest (most_sought own.harts) (sought_to own new) (omega arith)) held left follows

  -- SENT was read on before a run is passed over, and then for that.
  module _ (mid : ReceivedHeld) (known : mid.harts ≡ own.harts) (offset : mid.offset ≡ own.offset) (window : Holding)
      (after : Left) (before : Follows all came front first rest (most_sought own.harts) window after) where
    wide : Follows all came front first rest (sought_to own new) window after
    wide = follows_far window after before

    pub read_far : ℕ
    read_far = wide.read

    pub reads_far : Reads all read_far came front window after
    unfolding read_far
    reads_far = wide.reads

    among_run : (count : ℕ) → new.offset ≡ mid.offset + count
        → AreAmong rest (count + most_sought mid.harts) rest (sought_to own new)
    among_run count moved =
        among_more rest (count + most_sought mid.harts) (sought_to own new) (omega (arith, moved, offset, known))

    pub run_follows : (count : ℕ) → new.offset ≡ mid.offset + count → (held : Holding) (left : Left)
        → Follows all came front read_far rest (count + most_sought mid.harts) held left
        → Follows all came front first rest (sought_to own new) held left
    unfolding read_far
    run_follows count moved held left follows =
        follows_on all front first wide.read wide.more rest (count + most_sought mid.harts) rest (sought_to own new) wide.sought
        (among_run count moved) came held left follows

    pub run_fails : (count : ℕ) (why : ReceivedFault) (file : Option (List ℕ)) (held : Holding) (left : Left)
        → IsPassed all came front read_far count mid rest (Err why) new file held left
        → FollowsOn {X = Unit {0}} all came front first rest (sought_to own new) (Err why) held left
    unfolding read_far
    run_fails count (received.File why) file held left lacks = tt
    run_fails count (received.Sent why) file held left lacks =
        fails_on all front first wide.read wide.more rest (lacks.0 + most_sought mid.harts) rest (sought_to own new) wide.sought
        (among_run lacks.0 lacks.3) why left lacks.5

  -- Nothing was passed over.
  pub next_fails : (is : List ℕ → Bool) (why : ReceivedFault) (file : Option (List ℕ)) (held : Holding) (left : Left)
      → IsDecided all came front first is rest (most_sought own.harts) (Err why) new file held left
      → FollowsOn {X = Unit {0}} all came front first rest (sought_to own new) (Err why) held left
  next_fails is (received.File why) file held left lacks = tt
  next_fails is (received.Sent why) file held left lacks =
      fails_on all front first first (omega arith) rest (most_sought own.harts) rest (sought_to own new)
      (λ k from below. absurd (omega (arith, from, below)))
      (among_more rest (most_sought own.harts) (sought_to own new) (omega arith)) why left lacks.1

  pub next_lacks : (is : List ℕ → Bool) (most : ℕ) (why : ReceivedFault) (file : Option (List ℕ)) (held : Holding)
      (left : Left) → new.offset ≡ own.offset → new.harts ≡ own.harts
      → IsDecided all came front first is rest most (Err why) new file held left
      → IsNextSpan all front own rest (Err why) new file
  next_lacks is most (received.File why) file held left moved known lacks = lacks
  next_lacks is most (received.Sent why) file held left moved known lacks =
      (0, omega arith, lacks.0, omega (arith, moved), known)

  -- Some of a run was.
  pub run_lacks : (mid : ReceivedHeld) → mid.harts ≡ own.harts → mid.offset ≡ own.offset → (read : ℕ) (why : ReceivedFault)
      (file now : Option (List ℕ)) (held : Holding) (left : Left) → IsLeft mid now rest → 1 ≤ length mid.bytes
      → false ≡ is_taken (rule_of own.harts all front) false rest
      → IsPassed all came front read (bytes_to_next (rule_of mid.harts all front) (drop 1 rest) + 1) mid rest (Err why) new file
      held left
      → IsNextSpan all front own rest (Err why) new file
  run_lacks mid known offset read (received.File why) file now held left rests some none lacks = lacks
  run_lacks mid known offset read (received.Sent why) file now held left rests some none lacks =
      let moved = lacks.3 in
      let most = lacks.1 in
      let run =
      ap (λ r. bytes_to_next (rule_of r all front) (drop 1 rest) + 1) known
      ∙ sym (ap size_of
      (first_run (rule_of own.harts all front) own.offset rest (left_some mid now rest rests some) (sym none))) in
      (lacks.0, omega (arith, most, run), lacks.2, omega (arith, moved, offset), lacks.4 ∙ known)

-- One byte more is passed over, and SENT is read on there.
module _ (all : Audited) (came : List Message) (front first : ℕ) (rest : List ℕ) (count harts : ℕ) where
  pub follows_next : (held : Holding) (left : Left) → Follows all came front first rest (count + most_sought harts) held left
      → Follows all came front first rest (count + 1 + most_sought harts) held left
  follows_next held left follows =
      follows_among all came front first rest (count + most_sought harts) rest (count + 1 + most_sought harts)
      (among_more rest (count + most_sought harts) (count + 1 + most_sought harts) (omega arith)) held left follows

  module _ (window : Holding) (after : Left)
      (before : Follows all came front first rest (count + 1 + most_sought harts) window after) (other : ℕ)
      (same : other ≡ harts) where
    among_next : AreAmong (drop (count + 1) rest) (most_sought other) rest (count + 1 + most_sought harts)
    among_next =
        among_from rest (count + 1) (most_sought other) (count + 1 + most_sought harts) (omega (arith, same))

    pub follows_there : (held : Holding) (left : Left)
        → Follows all came front before.read (drop (count + 1) rest) (most_sought other) held left
        → Follows all came front first rest (count + 1 + most_sought harts) held left
    follows_there held left follows =
        follows_on all front first before.read before.more (drop (count + 1) rest) (most_sought other) rest
        (count + 1 + most_sought harts) before.sought among_next came held left follows

    pub fails_there : (own new : ReceivedHeld) (total : ℕ) (is : List ℕ → Bool) (why : ReceivedFault)
        (file : Option (List ℕ)) (held : Holding) (left : Left) → own.harts ≡ harts → count + 1 ≤ total
        → new.offset ≡ own.offset + (count + 1) → new.harts ≡ own.harts
        → IsDecided all came front before.read is (drop (count + 1) rest) (most_sought other) (Err why) new file held left
        → IsPassed all came front first total own rest (Err why) new file held left
    fails_there own new total is (received.File why) file held left known within moved kept lacks = lacks
    fails_there own new total is (received.Sent why) file held left known within moved kept lacks = (
      count + 1,
      within,
      lacks.0,
      moved,
      kept,
      subst (λ h. FailsFor all front first rest (count + 1 + most_sought h) why left) (sym known)
          (fails_on all front first before.read before.more (drop (count + 1) rest) (most_sought other) rest
          (count + 1 + most_sought harts) before.sought among_next why left lacks.1),
    )

-- One byte more of a run is passed over.
pub record Stepped (own passed : ReceivedHeld) (file : Option (List ℕ)) (rest : List ℕ) (count : ℕ) : Type 0 where
  pub left : IsLeft passed file (drop (count + 1) rest)
  pub wraps : (count + 1) % 2 ^ 64 ≡ count + 1
  pub offset : passed.offset ≡ own.offset + (count + 1)
  pub within : count + 1 ≤ length rest

pub stepped : (own now passed : ReceivedHeld) (file : Option (List ℕ)) (rest : List ℕ) (count : ℕ)
    → IsLeft now file (drop count rest) → now.offset ≡ own.offset + count → own.offset + length rest < 2 ^ 64
    → 1 ≤ length now.bytes → passed.bytes ≡ drop 1 now.bytes → passed.ended ≡ now.ended
    → (now.offset + 1 < 2 ^ 64 → passed.offset ≡ now.offset + 1) → Stepped own passed file rest count
stepped own now passed file rest count left at fits some bytes ended moved =
    let more = left_some now file (drop count rest) left some in
    let long = length-drop count rest in
    let next = left_passed now passed file (drop count rest) 1 left some bytes ended in
    let off = moved (omega (arith, at, fits, more, long)) in
    record {
      left = subst (λ l. IsLeft passed file l) (drop-drop 1 count rest) next;
      wraps = omega (arith, fits, more, long);
      offset = omega (arith, off, at);
      within = omega (arith, more, long);
    }

-- Whether some bytes of the buffer are held.
pub held_none : (bytes : List ℕ) (start end : ℕ) → end ≤ length bytes → start ≡ end
    → length (drop start (take end bytes)) ≡ 0
held_none bytes start end fits same = let long = held_length bytes start end fits in omega (arith, long, same)

pub held_some : (bytes : List ℕ) (start end : ℕ) → start ≤ end → end ≤ length bytes → start ≢ end
    → 1 ≤ length (drop start (take end bytes))
held_some bytes start end within fits apart =
    let long = held_length bytes start end fits in omega (arith, long, within, apart)

-- The same is known, and no more may be held.
pub receives_on : (harts : ℕ) (own new : ReceivedHeld) → Receives harts own → new.harts ≡ own.harts → new.most ≡ own.most
    → length new.bytes ≤ new.most → Receives harts new
receives_on harts own new receives known most few =
    record { known = known ∙ receives.known; most = most ∙ receives.most; held = few }
