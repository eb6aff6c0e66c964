-- A run that is over, and what it leaves.
use Rattle.std.proofs.Common.{◌≡◌, ℕ, zero, suc, Bool, false, List, [], refl, subst}
use Rattle.retire.specs.declared.event.Event.{Event}
use Rattle.rvclass.specs.Words.{Words}
use Rattle.payload.specs.declared.mode.Mode.{Mode}
use Rattle.payload.specs.declared.packet.Packet.{Packet}
use Rattle.decoder.specs.Describes.{Describes}
use Rattle.decoder.specs.Resuming.{PassesOver}
use Rattle.decoder.specs.declared.decoding.Decoder.{Decoder}
use Rattle.losses.specs.Runs.{opened, trace_after}
use Rattle.losses.specs.steps.DecoderSteps.{Resumes}
use Rattle.losses.specs.steps.FollowingRuns.{FollowsRun}
use Rattle.losses.proofs.RunLemmas.{describes_none, describes_nothing}
use Rattle.losses.proofs.StateLaws.{state_laws}
use Rattle.salvaging.specs.Leaving.{kept}

-- Where no packet gives the stretch of a run, it has no event.
pub none_kept : (words : Words) (reads : Mode) (missing : ℕ) (packets : List Packet) (events : List Event)
    → Describes words (trace_after missing reads packets) events → kept missing packets ≡ [] → events ≡ []
none_kept words reads zero packets events d none =
    describes_none words events (subst (λ l. Describes words l events) none d)
none_kept words reads (suc missing) packets events d none =
    describes_none words events (subst (λ l. Describes words (opened reads l) events) none d)

-- Behind a run that is over a decoder that resumed follows a run without a packet.
pub follows_anew : (words : Words) (mode reads : Mode) (missing : ℕ) (packets : List Packet) (closed : Bool)
    (events : List Event) (old new : Decoder) → FollowsRun words mode reads missing packets closed events old
    → Resumes mode old new → (lost : ℕ) → FollowsRun words mode reads (suc lost) [] closed [] new
follows_anew words mode reads missing packets closed events old new f resumes lost =
    let passes : closed ≡ false → PassesOver reads new =
    λ stays. subst (λ m. PassesOver m new) f.right (resumes.passes_over f.announced f.has_mode (f.stays_open stays)) in
    record {
      described = describes_nothing words;
      stands = λ stays. (passes stays, refl);
      stays_open = λ stays. state_laws.passing reads new (passes stays);
      announced = f.announced;
      has_mode = resumes.mode_kept f.announced f.has_mode;
      right = f.right;
    }
