-- RECEIVED ends.
use Rattle.std.proofs.Common.{◌≡◌, inl, inr, ℕ, ◌+◌, ◌-◌, ◌≤◌, Bool, true, false, List, [], ◌++◌, Result, Ok, Err, length, slice_get}
use Rattle.std.proofs.Common.{ap, sym, ◌∙◌, arith}
use Rattle.std.proofs.lemmas.Bool.{both_ways, false_from_ne_true}
use Rattle.live.specs.Auditing.{LiveHolding, ReadsSent, Stops}
use Rattle.live.specs.Course.{ending, moves_near, up_to_one}
use Rattle.live.specs.Following.{Audited, IsAudited, Left}
use Rattle.live.specs.Lines.{Line}
use Rattle.live.specs.Live.{State, Step, and_then, finished, gives_all_up, last_lines, moves_to, read_up_to}
use Rattle.live.specs.declared.fault.LookFault.{LookFault}
use Rattle.live.specs.steps.Advancing.{NoneBefore, ReadsNext, reaching}
use Rattle.live.specs.steps.Searching.{is_one}
use Rattle.std.proofs.lemmas.List.{append_assoc}
use Rattle.live.proofs.Following.{fails_sooner}
use Rattle.live.proofs.Judging.{within_harts}
use Rattle.live.proofs.ReadingOn.{past_end, up_to_end}
use Rattle.live.proofs.Standings.{numbered_is}
use Rattle.live.proofs.Steps.{moves_joined, then_then}
use Rattle.live.proofs.Widening.{one_is}

-- No message of SENT is of a hart that is not known.
pub none_known : (all : Audited) → IsAudited all → (read number : ℕ) → NoneBefore all read all.harts number
none_known all right read number k less =
    false_from_ne_true (is_one all.harts number (slice_get all.sent k)) (λ is.
    let one = one_is all.harts number (slice_get all.sent k) is in
    let known = within_harts all.harts [] all.sent right.in_turn k one.0 one.1 in
    let same = (numbered_is all.harts number one.0 one.2).0 in
    omega (arith, known, same))

-- So SENT is read to its end where such a one is looked for.
pub reads_all : (all : Audited) → IsAudited all → (number : ℕ) → read_up_to all.sent all.harts number ≡ length all.sent
reads_all all right number = up_to_end all all.harts number (none_known all right (length all.sent) number)

pub asks_all : (all : Audited) → IsAudited all → (number : ℕ) → up_to_one all.sent all.harts number ≡ length all.sent + 1
asks_all all right number = past_end all all.harts number (none_known all right (length all.sent) number)

-- One message more is read, or SENT has ended.
pub reads_sent : (all : Audited) → IsAudited all → (read : ℕ) (Told : List Line → Type 0) (state : State)
    (result : Result Bool LookFault) (own : LiveHolding) (left : Left)
    → ReadsNext all read Told state all.harts 0 result own left → ReadsSent all read Told state result own left
reads_sent all right read Told state (Ok false) own left next = (next.0, next.2)
reads_sent all right read Told state (Ok true) own left (inl end) = end
reads_sent all right read Told state (Ok true) own left (inr found) =
    absurd (both_ways _ (none_known all right (read + 1) 0 read (omega arith)) found.0)
reads_sent all right read Told state (Err why) own left next = next

-- What is left, where so many messages were read before, and the front went on near to that.
pub ends_on : (all : Audited) (state : State) (read : ℕ) → read ≤ length all.sent
    → finished all.harts all.window all.sent state
    ≡ and_then (moves_near all read state) (λ next. finished all.harts all.window all.sent next)
ends_on all state read within =
    ap (λ step. and_then (and_then step gives) last)
    (moves_joined all.window all.sent (read - all.window) (length all.sent) state (omega (arith, within)) (omega (arith, within)))
    ∙ ap (λ step. and_then step last) (then_then near on gives)
    ∙ then_then near (λ next. and_then (on next) gives) last
  where
    near : Step
    near = moves_near all read state

    on : State → Step
    on next = moves_to all.window all.sent (length all.sent) next

    gives : State → Step
    gives next = gives_all_up all.window all.sent next

    last : State → Step
    last next = record { state = next; lines = last_lines all.harts next }

-- SENT could not be read to its end.
pub ends_stopped : (all : Audited) → IsAudited all → (read : ℕ) → read ≤ length all.sent → (Told : List Line → Type 0)
    (state : State) (why : LookFault) (left : Left) → Stops all Told read (reaching all state all.harts 0 read) why left
    → Stops all Told read (ending all state) why left
ends_stopped all right read within Told state why left stops =
    let to = asks_all all right 0 in
    let near = moves_near all (read_up_to all.sent all.harts 0) state in
    let last = (finished all.harts all.window all.sent near.state).lines in record {
      fails = fails_sooner all read _ (length all.sent + 1) why left (omega (arith, to, within)) stops.fails;
      rest = stops.rest ++ last;
      parts =
          sym (append_assoc ((ending all state).told stops.fails.asked) stops.rest last)
          ∙ ap (λ l. l ++ last) stops.parts
          ∙ sym (ap (λ (step : Step). step.lines)
          (ends_on all state (read_up_to all.sent all.harts 0)
          (let own = reads_all all right 0 in omega (arith, own))));
      told = stops.told;
    }
