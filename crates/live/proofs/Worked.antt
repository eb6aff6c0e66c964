-- What a live audit writes of some pairs: each row was found by hand.
use Rattle.std.proofs.Common.{◌≡◌, ℕ, ◌+◌, ◌/◌, ◌%◌, ◌^◌, List, [], ◌∷◌, ◌++◌, Some, None, drop, map, take, refl}
use Rattle.std.specs.List.{range_with_len}
use Rattle.payload.specs.declared.by.By.TheVariants as by
use Rattle.message.specs.declared.message.Message.{Message}
use Rattle.auditing.specs.declared.finding.Finding.TheVariants as finding
use Rattle.live.specs.Lines.{Line, Decided, TooLate, Missing}
use Rattle.live.specs.Written.{written}
use Rattle.live.specs.declared.arrived.Arrived.{Arrived}

-- A message of a hart with this number.
abbrev one : ℕ → ℕ → Message
one hart number = record { hart = hart; number = number; payload = 1 ∷ [] }

-- The same with another payload.
abbrev changed : ℕ → ℕ → Message
changed hart number = record { hart = hart; number = number; payload = 2 ∷ [] }

-- Messages of hart 0 with these numbers.
abbrev numbered : List ℕ → List Message
numbered numbers = map (λ number. one 0 number) numbers

-- So many messages of hart 0.
abbrev sent : ℕ → List Message
sent count = numbered (range_with_len 0 count)

-- So many messages of two harts in turn.
abbrev alternating : ℕ → List Message
alternating count = map (λ place. one (place % 2) (place / 2)) (range_with_len 0 count)

-- The message at this place of RECEIVED.
abbrev at : ℕ → ℕ → ℕ → Arrived
at place hart number = record { place = place; message = one hart number }

-- The numbers of a hart from one to another are lost.
abbrev lost : ℕ → ℕ → ℕ → Line
lost hart first last = Missing hart (record { first = first; last = last })

-- A message comes a window late: it is found late.
a_window_late : written 1 3 by.Bytes (sent 8) (numbered (0 ∷ 1 ∷ 3 ∷ 4 ∷ 5 ∷ 2 ∷ 6 ∷ 7 ∷ []))
    ≡ Decided (at 2 0 3) (finding.InOrder 1) None ∷ Decided (at 5 0 2) (finding.Late 3) None ∷ []
a_window_late = refl

-- One message later it is too late: its number was given up before.
one_more_late : written 1 3 by.Bytes (sent 8) (numbered (0 ∷ 1 ∷ 3 ∷ 4 ∷ 5 ∷ 6 ∷ 2 ∷ 7 ∷ []))
    ≡ Decided (at 2 0 3) (finding.InOrder 1) None ∷ lost 0 2 2 ∷ TooLate (at 6 0 2) ∷ []
one_more_late = refl

-- A bit of a number is set: the message is decided when the next of its hart is taken.
a_bit_set : written 1 3 by.Bytes (sent 8) (numbered (0 ∷ 1 ∷ 2 ∷ (3 + 2 ^ 40) ∷ 4 ∷ 5 ∷ 6 ∷ 7 ∷ []))
    ≡ Decided (at 3 0 1099511627779) finding.Stranger None ∷ Decided (at 4 0 4) (finding.InOrder 1) None ∷ lost 0 3 3 ∷ []
a_bit_set = refl

-- Of two harts in turn 30 messages are lost after the first 4.
an_outage : written 2 3 by.Bytes (alternating 44) (take 4 (alternating 44) ++ drop 34 (alternating 44))
    ≡ lost 0 2 2 ∷ lost 1 2 2 ∷ lost 0 3 3 ∷ lost 1 3 3 ∷ lost 0 4 5 ∷ lost 1 4 5 ∷ lost 0 6 9 ∷ lost 1 6 9
    ∷ Decided (at 4 0 17) (finding.InOrder 15) None ∷ Decided (at 5 1 17) (finding.InOrder 15) None
    ∷ lost 0 10 16 ∷ lost 1 10 16 ∷ []
an_outage = refl

-- Two harts come in another order than in SENT, and each of them in its own: nothing is written.
two_harts_mixed : written 2 2 by.Bytes (alternating 8)
    (one 0 0 ∷ one 0 1 ∷ one 1 0 ∷ one 1 1 ∷ one 0 2 ∷ one 1 2 ∷ one 0 3 ∷ one 1 3 ∷ []) ≡ []
two_harts_mixed = refl

-- A hart stops for ever: its numbers are lost as they are given up, and at the end.
a_hart_stops : written 2 1 by.Bytes (alternating 8) (one 0 0 ∷ one 1 0 ∷ one 0 1 ∷ one 0 2 ∷ one 0 3 ∷ [])
    ≡ lost 1 1 1 ∷ lost 1 2 2 ∷ lost 1 3 3 ∷ []
a_hart_stops = refl

-- Nothing comes: all is lost at the end.
nothing_comes : written 1 3 by.Bytes (sent 5) [] ≡ lost 0 0 0 ∷ lost 0 1 1 ∷ lost 0 2 3 ∷ lost 0 4 4 ∷ []
nothing_comes = refl

-- What was not sent waits for RECEIVED's end, and is a stranger there.
never_sent : written 1 3 by.Bytes (sent 2) (numbered (0 ∷ 1 ∷ 9 ∷ [])) ≡ Decided (at 2 0 9) finding.Stranger None ∷ []
never_sent = refl

-- A changed message after the front leaves the front where it is: number 0 is still in view, and repeated. What was
-- changed comes after that, and is in order.
changed_after_the_front : written 1 1 by.Bytes (sent 5)
    (one 0 0 ∷ one 0 1 ∷ changed 0 2 ∷ one 0 0 ∷ one 0 2 ∷ one 0 3 ∷ one 0 4 ∷ [])
    ≡ Decided (record { place = 2; message = changed 0 2 }) finding.Changed (Some (1 ∷ [])) ∷ Decided (at 3 0 0) finding.Repeat None ∷ []
changed_after_the_front = refl

-- A hart that is not below the count: the message does not wait.
an_unknown_hart : written 1 3 by.Bytes (sent 3) (one 0 0 ∷ one 1 0 ∷ one 0 2 ∷ [])
    ≡ Decided (at 1 1 0) finding.Stranger None ∷ Decided (at 2 0 2) (finding.InOrder 1) None ∷ lost 0 1 1 ∷ []
an_unknown_hart = refl

-- The front meets a message that waits: before the next of its hart is taken, and before the number below is given up.
met_by_the_front : written 2 2 by.Bytes (alternating 6) (one 0 0 ∷ one 1 1 ∷ one 0 1 ∷ one 0 2 ∷ one 1 2 ∷ [])
    ≡ Decided (at 1 1 1) (finding.InOrder 1) None ∷ lost 1 0 0 ∷ []
met_by_the_front = refl

-- A bit is stuck for two messages: their numbers are beyond and near each other, as after an outage. So SENT is read to its
-- end, and the front is a window before that.
a_bit_stuck : written 1 3 by.Bytes (sent 20) (numbered (0 ∷ 1 ∷ (2 + 2 ^ 40) ∷ (3 + 2 ^ 40) ∷ 4 ∷ []))
    ≡ lost 0 2 2 ∷ lost 0 3 3 ∷ lost 0 4 5 ∷ lost 0 6 9
    ∷ Decided (at 2 0 (2 + 2 ^ 40)) finding.Stranger None ∷ Decided (at 3 0 (3 + 2 ^ 40)) finding.Stranger None
    ∷ TooLate (at 4 0 4) ∷ lost 0 10 17 ∷ lost 0 18 19 ∷ []
a_bit_stuck = refl
