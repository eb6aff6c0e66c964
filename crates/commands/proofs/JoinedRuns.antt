-- Runs of a subcommand, with its reasons to stop among those of all subcommands.
use Rattle.std.proofs.Common.{◌≡◌, ◌∙◌, inl, inr, refl, ℕ, sym, subst, ap, List, Option, Some, None, Result, Ok, Err}
use Rattle.std.specs.Prelude.{IfSome, option_map}
use Rattle.std.specs.Io.KnownBytes.{Keeps}
use Rattle.command_inputs.specs.Begun.{IsCutOf}
use Rattle.command_inputs.specs.Faults.{map_own}
use Rattle.command_inputs.specs.Printed.{Printed as AnyPrinted, PrintsUnlessDenied}
use Rattle.command_inputs.specs.declared.fault.Fault.{Fault as AnyFault}
use Rattle.command_inputs.specs.declared.status.Status.{Status}
use Rattle.commands.specs.Faults.{Fault}
use Rattle.commands.specs.Joined.{PrintsJoined, joined_end, joined_printed}
use Rattle.commands.specs.declared.reason.CommandReason.{CommandReason}

module _ {W : Type 0} (to : W → CommandReason) (Prints : AnyPrinted W → Type 0) where
  -- What a subcommand printed, it printed with its reason among those of all.
  end_printed : (CanWrite : Type 0) (ended : Result Status (AnyFault W)) (old new : Option (List ℕ))
      → PrintsUnlessDenied Prints CanWrite ended old new
      → PrintsUnlessDenied (PrintsJoined to Prints) CanWrite (joined_end to ended) old new
  end_printed CanWrite (Ok status) old new is = record {
    text = is.text;
    prints = record { own = record { text = is.text; ended = Ok status }; prints = is.prints; is = refl };
    appended = is.appended;
  }
  end_printed CanWrite (Err why) old new (inl (inl memory)) = inl (inl (ap (map_own to) memory))
  end_printed CanWrite (Err why) old new (inl (inr (output, can))) = inl (inr (ap (map_own to) output, can))
  end_printed CanWrite (Err why) old new (inr is) = inr (record {
    text = is.text;
    prints = record { own = record { text = is.text; ended = Err why }; prints = is.prints; is = refl };
    appended = is.appended;
  })

  -- And so it is of an end that is the same but for the reason.
  pub joined_prints : (CanWrite : Type 0) (ended : Result Status (AnyFault W)) (joined : Result Status Fault)
      (old new : Option (List ℕ)) → joined ≡ joined_end to ended → PrintsUnlessDenied Prints CanWrite ended old new
      → PrintsUnlessDenied (PrintsJoined to Prints) CanWrite joined old new
  joined_prints CanWrite ended joined old new is printed =
      subst (λ end. PrintsUnlessDenied (PrintsJoined to Prints) CanWrite end old new) (sym is)
      (end_printed CanWrite ended old new printed)

  -- What a subcommand began to print, it began to print with its reason among those of all.
  pub joined_cut : (old new : Option (List ℕ)) → IsCutOf Prints old new → IsCutOf (PrintsJoined to Prints) old new
  joined_cut old new (inl kept) = inl kept
  joined_cut old new (inr begins) = inr (record {
    printed = joined_printed to begins.printed;
    prints = record { own = begins.printed; prints = begins.prints; is = refl };
    begun = begins.begun;
  })

-- A fault that is found without the files ends the run, with its reason among those of all.
pub joined_early : {W : Type 0} (to : W → CommandReason) (early : Option (AnyFault W))
    (ended : Result Status (AnyFault W)) (joined : Result Status Fault) → joined ≡ joined_end to ended
    → IfSome early (λ why. ended ≡ Err why) → IfSome (option_map (map_own to) early) (λ why. joined ≡ Err why)
joined_early to None ended joined is early = tt
joined_early to (Some why) ended joined is early = is ∙ ap (joined_end to) early

-- What is as it was keeps its bytes.
keeps_itself : (bytes : Option (List ℕ)) → Keeps bytes bytes
keeps_itself None = tt
keeps_itself (Some bytes) = refl

-- And so does an output that is as it was.
pub keeps_same : {O : Type 0} (contents : O → Option (List ℕ)) (old new : O) → new ≡ old
    → Keeps (contents old) (contents new)
keeps_same contents old new same =
    subst (λ new. Keeps (contents old) (contents new)) (sym same) (keeps_itself (contents old))
