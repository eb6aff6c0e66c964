-- What is found of a schedule, from what is read of its file.
use Rattle.std.specs.Prelude.{◌<◌, ◌≤◌, ◌+◌, if◌then◌else◌, length, take}
use Rattle.std.proofs.Common.{◌≡◌, ◌⊎◌, ◌∙◌, inl, inr, refl, ℕ, sym, ap, List, Some, Result, Ok, Err}
use Rattle.std.proofs.lemmas.Bool.{lt-ltb, le-ltb}
use Rattle.std.specs.Result.{result_map_both}
use Rattle.funnel.specs.declared.turn.Turn.{Turn}
use Rattle.funnel.specs.Schedule.{schedule_of}
use Rattle.funnel.specs.declared.schedule_fault.ScheduleFault.{ScheduleFault}
use Rattle.funnel.specs.declared.schedule_fault.ScheduleFault.TheVariants as schedule
use Rattle.command_inputs.specs.Faults.{Path}
use Rattle.command_inputs.specs.Found.{IsRead}
use Rattle.command_inputs.proofs.FromStart.{decided, sized}
use Rattle.log_streams.specs.Known.{Content, MayBegin}
use Rattle.command_inputs.specs.declared.fault.Fault.TheVariants as fault
use Rattle.log_commands.specs.Faults.{Fault, schedule_fault}
use Rattle.log_commands.specs.declared.reason.LogReason.{LogReason}
use Rattle.log_commands.specs.declared.reason.LogReason.TheVariants.{LargeSchedule}
use Rattle.log_commands.specs.Replaying.{IsSchedule, most_schedule_bytes, schedule_in}

-- A schedule that is not read has no turns.
pub schedule_unread : (content : Content) (harts : ℕ) (path : Path) (why : Fault)
    → (why ≡ fault.Memory) ⊎ IsRead content path (Err why) → (why ≡ fault.Memory) ⊎ IsSchedule content harts path
    (Err why)
schedule_unread content harts path why (inl denied) = inl denied
schedule_unread content harts path why (inr read) = inr (record { bytes = Err why; read = read; made = refl })

-- What the first bytes of a schedule spell, one more than it may have, is what all spell.
schedule_from_start : (harts : ℕ) (text : List ℕ)
    → schedule_in harts (take (most_schedule_bytes + 1) text) ≡ schedule_in harts text
schedule_from_start harts =
    sized (schedule_in harts) (Err (fault.Own LargeSchedule)) most_schedule_bytes
    (λ bytes is. ap (λ large. if large then Err (fault.Own LargeSchedule) else
    result_map_both (λ turns. turns) schedule_fault (schedule_of harts bytes)) is)

module _ (content : Content) (harts : ℕ) (path : Path) (bytes : List ℕ)
    (begun : MayBegin (Some (most_schedule_bytes + 1)) (content path.now) bytes) where
  -- What is made of the first bytes of a schedule is made of it.
  pub schedule_of_first : (found : Result (List Turn) Fault) → found ≡ schedule_in harts bytes
      → IsSchedule content harts path found
  schedule_of_first found is =
      let (text, held, same) =
      decided (schedule_in harts) (most_schedule_bytes + 1) (schedule_from_start harts) (content path.now) bytes begun
      in
      record { bytes = Ok text; read = held; made = is ∙ same }

  -- A schedule that is too large has no turns.
  pub schedule_large : most_schedule_bytes < length bytes
      → IsSchedule content harts path (Err (fault.Own LargeSchedule))
  schedule_large large = schedule_of_first (Err (fault.Own LargeSchedule))
      (sym (ap (λ large. if large then Err (fault.Own LargeSchedule) else
      result_map_both (λ turns. turns) schedule_fault (schedule_of harts bytes))
      (lt-ltb most_schedule_bytes (length bytes) large)))

  module _ (small : length bytes ≤ most_schedule_bytes) where
    -- What a text of a schedule's size spells is decided by its words.
    spelt : (found : Result (List Turn) ScheduleFault) → found ≡ schedule_of harts bytes
        → IsSchedule content harts path (result_map_both (λ turns. turns) schedule_fault found)
    spelt found is = schedule_of_first (result_map_both (λ turns. turns) schedule_fault found)
        (ap (result_map_both (λ turns. turns) schedule_fault) is
        ∙ sym (ap (λ large. if large then Err (fault.Own LargeSchedule) else
        result_map_both (λ turns. turns) schedule_fault (schedule_of harts bytes))
        (le-ltb most_schedule_bytes (length bytes) small)))

    -- A text with a fault has no turns.
    pub schedule_refused : (why : ScheduleFault)
        → (why ≡ schedule.Memory) ⊎ (schedule_of harts bytes ≡ Err why)
        → (schedule_fault why ≡ fault.Memory) ⊎ IsSchedule content harts path (Err (schedule_fault why))
    schedule_refused why (inl denied) = inl (ap schedule_fault denied)
    schedule_refused why (inr is) = inr (spelt (Err why) (sym is))

    -- The turns that a text spells are those of the schedule.
    pub schedule_read : (turns : List Turn) → schedule_of harts bytes ≡ Ok turns
        → IsSchedule content harts path (Ok turns)
    schedule_read turns is = spelt (Ok turns) (sym is)
