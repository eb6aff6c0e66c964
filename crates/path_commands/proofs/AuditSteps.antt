-- What `audit` prints, from what each of its steps found.
use Rattle.std.proofs.Common.{◌≡◌, ◌⊎◌, inl, inr, ℕ, List, Option, Result, Ok, Err, refl}
use Rattle.std.specs.Prelude.{⊤}
use Rattle.message.specs.declared.range.HartRange.{HartRange}
use Rattle.command_inputs.specs.declared.words.Audit.{Audit}
use Rattle.auditing.specs.Sent.{harts_of}
use Rattle.command_inputs.proofs.Beginnings.{cut_leads}
use Rattle.command_inputs.proofs.Runs.{ends_silently, leads_on}
use Rattle.command_inputs.specs.Begun.{IsCutOf}
use Rattle.log_streams.specs.Known.{Content}
use Rattle.command_inputs.specs.Printed.{PrintsUnlessDenied}
use Rattle.path_commands.specs.Faults.{Fault, Printed}
use Rattle.command_inputs.specs.declared.fault.Fault.TheVariants as fault
use Rattle.command_inputs.specs.declared.status.Status.{Status}
use Rattle.path_commands.specs.Audited.{AuditsBy, CanAuditHarts, IsReceivedOf, IsSentOf}
use Rattle.path_commands.specs.Sides.{Sent}

-- Where this is not found, neither is that.
pub unread : (why : Fault) (Lacks Fails : Type 0) → (Lacks → Fails) → (why ≡ fault.Memory) ⊎ Lacks
    → (why ≡ fault.Memory) ⊎ Fails
unread why Lacks Fails leads (inl memory) = inl memory
unread why Lacks Fails leads (inr lacks) = inr (leads lacks)

module _ (Writes : Sent → List ℕ → Printed → Type 0) (content : Content) (asked : Audit)
    (harts : HartRange) where
  -- SENT is not read, or refused, or an allocation failed.
  pub not_sent : (why : Fault) (ended : Result Status Fault) (old : Option (List ℕ)) → ended ≡ Err why
      → (why ≡ fault.Memory) ⊎ IsSentOf content asked (Err why)
      → PrintsUnlessDenied (AuditsBy Writes content asked harts) (CanAuditHarts content asked harts) ended old old
  not_sent why ended old is lacked =
      ends_silently (AuditsBy Writes content asked harts) (CanAuditHarts content asked harts)
      (IsSentOf content asked (Err why)) why ended old is lacked (λ none. (Err why, none, refl))

  module _ (sent : Sent) (is : IsSentOf content asked (Ok sent)) where
    abbrev Came : Result (List ℕ) Fault → Type 0
    Came = IsReceivedOf content asked harts (harts_of sent.header sent.messages)

    -- SENT has none of the harts that are asked for, or RECEIVED is not read, or an allocation failed.
    pub not_received : (why : Fault) (ended : Result Status Fault) (old : Option (List ℕ)) → ended ≡ Err why
        → (why ≡ fault.Memory) ⊎ Came (Err why)
        → PrintsUnlessDenied (AuditsBy Writes content asked harts) (CanAuditHarts content asked harts) ended old old
    not_received why ended old failed lacked =
        ends_silently (AuditsBy Writes content asked harts) (CanAuditHarts content asked harts) (Came (Err why)) why
        ended old failed lacked (λ none. (Ok sent, is, (Err why, none, refl)))

    module _ (received : List ℕ) (came : Came (Ok received)) where
      leads : (printed : Printed) → Writes sent received printed → AuditsBy Writes content asked harts printed
      leads printed writes = (Ok sent, is, (Ok received, came, writes))

      -- What is printed of both is what `audit` prints.
      pub both_printed : (ended : Result Status Fault) (old new : Option (List ℕ))
          → PrintsUnlessDenied (Writes sent received) ⊤ ended old new
          → PrintsUnlessDenied (AuditsBy Writes content asked harts)
          (CanAuditHarts content asked harts) ended old new
      both_printed ended old new printed =
          leads_on (Writes sent received) (AuditsBy Writes content asked harts) ⊤
          (CanAuditHarts content asked harts)
          ended old new leads (λ _. (sent, is, (received, came, tt))) printed

      -- And so is a cut of it.
      pub both_cut : (old new : Option (List ℕ)) → IsCutOf (Writes sent received) old new
          → IsCutOf (AuditsBy Writes content asked harts) old new
      both_cut old new cut =
          cut_leads (Writes sent received) (AuditsBy Writes content asked harts) old new leads cut
