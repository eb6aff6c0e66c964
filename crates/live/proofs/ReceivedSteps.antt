-- What was found of bytes that are held, handed on.
use Rattle.std.proofs.Common.{◌≡◌, ◌≢◌, ◌⊎◌, inl, inr, ◌<◌, ◌≤◌, ◌+◌, ◌-◌, ◌++◌, ◌∙◌, ℕ, Bool, true, false, List, Result, Ok, Err, IfErr, IfOk}
use Rattle.std.proofs.Common.{Option, Some, None, drop, length, take, refl, sym, ap, subst, arith}
use Rattle.std.proofs.lemmas.Bool.{cases_lt}
use Rattle.std.proofs.lemmas.List.{drop-append-le, drop-drop, length-drop, take_rest}
use Rattle.frames.proofs.FrameLemmas.{complete}
use Rattle.frames.specs.Frame.{is_complete, message_in}
use Rattle.message.specs.declared.message.Message.{Message}
use Rattle.live.specs.Following.{Audited, Left, Reads}
use Rattle.live.specs.Holding.{Holding}
use Rattle.live.specs.ReceivedLeft.{AllSought, FailsFor, Follows, IsLeft, IsWantedBy, ReceivedHeld}
use Rattle.live.specs.declared.fault.LookFault.{LookFault}
use Rattle.live.specs.declared.fault.ReceivedFault.{ReceivedFault}
use Rattle.live.specs.declared.fault.ReceivedFault.TheVariants as received
use Rattle.live.specs.declared.received_seen.Pause.{Pause}
use Rattle.live.specs.declared.received_seen.Pause.TheVariants as pause
use Rattle.live.specs.steps.Receiving.{IsDecided, IsFew, IsSure, ReadsSome, Settles}
use Rattle.live.proofs.ReceivedBytes.{complete_more, frame_more, framed, some_framed}

-- The messages that begin one of the first so many bytes begin one of these, too.
abbrev pub AreAmong : List ℕ → ℕ → List ℕ → ℕ → Type 0
AreAmong bytes most others limit = (at : ℕ) → at < most → (message : Message) → Some message ≡ message_in (drop at bytes)
    → (other : ℕ) × (other < limit) × (Some message ≡ message_in (drop other others))

pub among_more : (bytes : List ℕ) (most limit : ℕ) → most ≤ limit → AreAmong bytes most bytes limit
among_more bytes most limit more at less message is = (at, omega (arith, less, more), is)

-- Those that begin bytes from a place on.
pub among_from : (bytes : List ℕ) (at most limit : ℕ) → at + most ≤ limit → AreAmong (drop at bytes) most bytes limit
among_from bytes at most limit within k less message is =
    (at + k, omega (arith, less, within), is ∙ ap message_in (drop-drop k at bytes))

pub among_rest : (bytes : List ℕ) (at most limit : ℕ) → at + most ≤ limit
    → AreAmong (take (length bytes - at) (drop at bytes)) most bytes limit
among_rest bytes at most limit within =
    subst (λ l. AreAmong l most bytes limit) (sym (take_rest bytes at)) (among_from bytes at most limit within)

-- Those that begin bytes, whatever follows them.
pub among_held : (bytes more : List ℕ) (most : ℕ) → AreAmong bytes most (bytes ++ more) most
among_held bytes more most at less message is =
    let there = some_framed (drop at bytes) message is in
    let c = complete (drop at bytes) there.0 in
    let fits = c.fits in
    let left = length-drop at bytes in (
      at,
      less,
      ap Some (there.1 ∙ sym (frame_more (drop at bytes) more there.0))
          ∙ sym (framed (drop at bytes ++ more) (complete_more (drop at bytes) more there.0))
          ∙ ap message_in (sym (drop-append-le at bytes more (omega (arith, fits, left)))),
    )

pub among_left : (own : ReceivedHeld) (file : Option (List ℕ)) (rest : List ℕ) (most : ℕ) → IsLeft own file rest
    → AreAmong own.bytes most rest most
among_left own None rest most left = absurd left
among_left own (Some xs) rest most left =
    subst (λ l. AreAmong own.bytes most l most) (sym left.1) (among_held own.bytes xs most)

module _ (all : Audited) (front : ℕ) where
  -- What was sought among bytes was sought among these.
  among_sought : (first read : ℕ) (bytes : List ℕ) (most : ℕ) (others : List ℕ) (limit : ℕ)
      → AreAmong bytes most others limit → AllSought all front first read bytes most
      → AllSought all front first read others limit
  among_sought first read bytes most others limit are sought k from below =
      let one = sought k from below in go one.0 one.1 (message_in (drop one.0 bytes)) refl one.2
    where
      go : (at : ℕ) → at < most → (own : Option Message) → own ≡ message_in (drop at bytes) → IsWantedBy all front k own
          → (other : ℕ) × (other < limit) × IsWantedBy all front k (message_in (drop other others))
      go at less None is wanted = absurd wanted
      go at less (Some message) is wanted =
          let other = are at less message is in
          (other.0, other.1, subst (IsWantedBy all front k) other.2 wanted)

  -- Up to one place, and then from there.
  sought_on : (first mid read : ℕ) (bytes : List ℕ) (most : ℕ) → AllSought all front first mid bytes most
      → AllSought all front mid read bytes most → AllSought all front first read bytes most
  sought_on first mid read bytes most before after k from below = go (cases_lt k mid)
    where
      go : (k < mid) ⊎ (mid ≤ k) → (at : ℕ) × (at < most) × IsWantedBy all front k (message_in (drop at bytes))
      go (inl less) = before k from less
      go (inr past) = after k past below

  -- More messages were looked up, from where some were among these bytes.
  module _ (first mid : ℕ) (later : first ≤ mid) (bytes : List ℕ) (most : ℕ) (others : List ℕ) (limit : ℕ)
      (before : AllSought all front first mid others limit) (are : AreAmong bytes most others limit) where
    pub follows_on : (came : List Message) (own : Holding) (left : Left) → Follows all came front mid bytes most own left
        → Follows all came front first others limit own left
    follows_on came own left follows = record {
      read = follows.read;
      reads = follows.reads;
      more = let more = follows.more in omega (arith, later, more);
      sought =
          sought_on first mid follows.read others limit before
          (among_sought mid follows.read bytes most others limit are follows.sought);
    }

    pub fails_on : (why : LookFault) (left : Left) → FailsFor all front mid bytes most why left
        → FailsFor all front first others limit why left
    fails_on why left fails = record {
      read = fails.read;
      more = let more = fails.more in omega (arith, later, more);
      within = fails.within;
      sought =
          sought_on first mid (fails.read + 1) others limit before
          (among_sought mid (fails.read + 1) bytes most others limit are fails.sought);
      fault = fails.fault;
      remains = fails.remains;
    }

-- No message was looked up.
pub follows_none : (all : Audited) (came : List Message) (front first : ℕ) (bytes : List ℕ) (most : ℕ) (own : Holding)
    (left : Left) → Reads all first came front own left → Follows all came front first bytes most own left
follows_none all came front first bytes most own left reads = record {
  read = first;
  reads = reads;
  more = omega arith;
  sought = λ k from below. absurd (omega (arith, from, below));
}

-- What is found says more, where some messages were looked up before.
pub settles_on : {X : Type 0} (all : Audited) (came : List Message) (front first mid : ℕ) (bytes : List ℕ) (most : ℕ)
    (others : List ℕ) (limit : ℕ) → first ≤ mid → AllSought all front first mid others limit
    → AreAmong bytes most others limit → (Is Js : X → Type 0) (result : Result X Pause) (own : Holding) (left : Left)
    → ((x : X) → Is x → Js x) → Settles all came front mid bytes most Is result own left
    → Settles all came front first others limit Js result own left
settles_on all came front first mid bytes most others limit later before are Is Js (Ok x) own left says settled =
    (says x settled.0, follows_on all front first mid later bytes most others limit before are came own left settled.1)
settles_on all came front first mid bytes most others limit later before are Is Js (Err pause.Bytes) own left says settled =
    follows_on all front first mid later bytes most others limit before are came own left settled
settles_on all came front first mid bytes most others limit later before are Is Js (Err (pause.Sent why)) own left says settled =
    fails_on all front first mid later bytes most others limit before are why left settled

-- The same, where none was looked up before.
pub settles_among : {X : Type 0} (all : Audited) (came : List Message) (front first : ℕ) (bytes : List ℕ) (most : ℕ)
    (others : List ℕ) (limit : ℕ) → AreAmong bytes most others limit → (Is Js : X → Type 0) (result : Result X Pause)
    (own : Holding) (left : Left) → ((x : X) → Is x → Js x) → Settles all came front first bytes most Is result own left
    → Settles all came front first others limit Js result own left
settles_among all came front first bytes most others limit are Is Js result own left says settled =
    settles_on all came front first first bytes most others limit (omega arith)
    (λ k from below. absurd (omega (arith, from, below))) are Is Js result own left says settled

pub follows_among : (all : Audited) (came : List Message) (front first : ℕ) (bytes : List ℕ) (most : ℕ) (others : List ℕ)
    (limit : ℕ) → AreAmong bytes most others limit → (own : Holding) (left : Left)
    → Follows all came front first bytes most own left → Follows all came front first others limit own left
follows_among all came front first bytes most others limit are own left follows =
    follows_on all front first first (omega arith) bytes most others limit
    (λ k from below. absurd (omega (arith, from, below))) are came own left follows

-- Why it is not known stays.
pub paused : {X Y : Type 0} (all : Audited) (came : List Message) (front first mid : ℕ) (bytes : List ℕ) (most : ℕ)
    (others : List ℕ) (limit : ℕ) → first ≤ mid → AllSought all front first mid others limit
    → AreAmong bytes most others limit → (Is : X → Type 0) (Js : Y → Type 0) (why : Pause) (own : Holding) (left : Left)
    → Settles all came front mid bytes most Is (Err why) own left
    → Settles all came front first others limit Js (Err why) own left
paused all came front first mid bytes most others limit later before are Is Js pause.Bytes own left settled =
    follows_on all front first mid later bytes most others limit before are came own left settled
paused all came front first mid bytes most others limit later before are Is Js (pause.Sent why) own left settled =
    fails_on all front first mid later bytes most others limit before are why left settled

pub pauses_among : {X Y : Type 0} (all : Audited) (came : List Message) (front first : ℕ) (bytes : List ℕ) (most : ℕ)
    (others : List ℕ) (limit : ℕ) → AreAmong bytes most others limit → (Is : X → Type 0) (Js : Y → Type 0) (why : Pause)
    (own : Holding) (left : Left) → Settles all came front first bytes most Is (Err why) own left
    → Settles all came front first others limit Js (Err why) own left
pauses_among all came front first bytes most others limit are Is Js why own left settled =
    paused all came front first first bytes most others limit (omega arith)
    (λ k from below. absurd (omega (arith, from, below))) are Is Js why own left settled

-- More bytes are looked at than are held.
pub held_back : {X : Type 0} (all : Audited) (came : List Message) (front first : ℕ) (bytes : List ℕ) (most : ℕ)
    (Is : X → Type 0) (own : Holding) (left : Left) (why : Pause) → why ≡ pause.Bytes
    → Follows all came front first bytes most own left → Settles all came front first bytes most Is (Err why) own left
held_back all came front first bytes most Is own left why is follows =
    subst (λ w. Settles all came front first bytes most Is (Err w) own left) (sym is) follows

-- What needs nothing of SENT is found, or not.
pub settles_said : {X : Type 0} (all : Audited) (came : List Message) (front first : ℕ) (bytes : List ℕ) (most : ℕ)
    (Is Js : X → Type 0) (result : Result X Pause) (own : Holding) (left : Left) (ended : Bool) (count few : ℕ)
    → ((x : X) → Is x → Js x) → IfOk result Is → IfErr result (λ why. (why ≡ pause.Bytes) × IsFew ended count few why)
    → Follows all came front first bytes most own left → Settles all came front first bytes most Js result own left
settles_said all came front first bytes most Is Js (Ok x) own left ended count few says found none follows =
    (says x found, follows)
settles_said all came front first bytes most Is Js (Err why) own left ended count few says found none follows =
    held_back all came front first bytes most Js own left why none.0 follows

-- Fewer bytes than before are few, too.
pub few_more : (ended : Bool) (some most all limit : ℕ) (why : Pause) → (some < most → all < limit)
    → IsFew ended some most why → IsFew ended all limit why
few_more ended some most all limit pause.Bytes more few = (few.0, more few.1)
few_more ended some most all limit (pause.Sent why) more few = tt

pub few_never : (ended : Bool) (all limit : ℕ) (why : Pause) → why ≢ pause.Bytes → IsFew ended all limit why
few_never ended all limit pause.Bytes never = absurd (never refl)
few_never ended all limit (pause.Sent why) never = tt

-- A complete message is among the bytes that are held.
pub sure_held : (bytes : List ℕ) (ended is : Bool) → is_complete bytes ≡ true → IsSure bytes ended is
sure_held bytes ended true whole = whole
sure_held bytes ended false whole =
    λ none. let c = complete bytes whole in let fits = c.fits in absurd (omega (arith, none, fits))

pub sure_result : (bytes : List ℕ) (ended : Bool) (result : Result Bool Pause) → is_complete bytes ≡ true
    → IfOk result (IsSure bytes ended)
sure_result bytes ended (Ok is) whole = sure_held bytes ended is whole
sure_result bytes ended (Err why) whole = tt

-- The file lacks memory.
pub decided_lacks : (all : Audited) (came : List Message) (front first : ℕ) (is : List ℕ → Bool) (rest : List ℕ) (most : ℕ)
    (why : ReceivedFault) (new next : ReceivedHeld) (file now : Option (List ℕ)) (own : Holding) (left : Left)
    → ReadsSome {X = Unit {0}} rest (Err why) new file
    → IsDecided all came front first is rest most (Err why) next now own left
decided_lacks all came front first is rest most (received.File why) new next file now own left lacks = lacks
decided_lacks all came front first is rest most (received.Sent why) new next file now own left lacks = absurd lacks
