-- What came of harts whose workers are settled.
use Rattle.std.proofs.Common.{◌≡◌, ◌∙◌, inl, inr, ℕ, true, false, List, Option, Some, None, length, slice_get, sym}
use Rattle.std.proofs.Common.{subst}
use Rattle.std.specs.Prelude.{Contains, IsSomeAnd}
use Rattle.legalpath.specs.ProgramLog.{ProgramLog}
use Rattle.message.specs.OfHart.{of_hart}
use Rattle.message.specs.declared.message.Message.{Message}
use Rattle.bench.specs.Beginnings.{AreCarried}
use Rattle.bench.specs.Collected.{Collected}
use Rattle.bench.specs.Got.{got_after, got_of, kept}
use Rattle.bench.specs.Stopping.{IfHandedBack}
use Rattle.bench.specs.Working.{CarryFirst}
use Rattle.bench.specs.declared.config.Config.{Config}
use Rattle.bench.specs.declared.outcome.HartOutcome.{HartOutcome}
use Rattle.bench.specs.declared.stop.Stop.{Stop}
use Rattle.bench.specs.declared.stop.Stop.TheVariants as stop
use Rattle.bench.specs.steps.Gathering.{AreGathered, IsGathered}
use Rattle.bench.specs.steps.Taking.{CameUnlessRefused, IsTakenOf}
use Rattle.bench.proofs.ReplayEnds.{Finishes, differ}

module _ (config : Config) (logs : List ProgramLog) (started : List ℕ) (taken : List Message)
    (collected : Collected) (gathered : AreGathered config logs started taken collected)
    (carried : (hart : ℕ) (log : ProgramLog) → slice_get logs hart ≡ Some log → Contains started hart
    → CarryFirst config.period config.mode log (of_hart hart taken)) where
  -- What was gathered was taken, where what was taken of each hart whose worker was started carries the first payloads
  -- of its log.
  pub gathered_taken : CameUnlessRefused config.period config.mode logs taken collected
  gathered_taken = record { own = gathered.own; each = λ hart log at. of_one hart log at (gathered.each hart log at) }
    where
      of_one : (hart : ℕ) (log : ProgramLog) → slice_get logs hart ≡ Some log
          → IsGathered config log started (of_hart hart taken) hart collected
          → IsTakenOf config.period config.mode log (length (of_hart hart taken)) hart collected
      of_one hart log at (inl runs) = runs.1 (carried hart log at runs.0)
      of_one hart log at (inr cut) = inr cut

  -- What was taken of each hart that is not refused carries the first payloads of its log: its worker was started.
  pub are_carried : {A : Type 0} (harts : List (HartOutcome A)) → Finishes collected harts
      → AreCarried config logs taken harts
  are_carried harts ends = λ hart log came known at going.
      of_one hart log came known at going (gathered.each hart log known)
    where
      of_one : (hart : ℕ) (log : ProgramLog) (came : HartOutcome _) → slice_get logs hart ≡ Some log
          → slice_get harts hart ≡ Some came → came.refused ≡ false
          → IsGathered config log started (of_hart hart taken) hart collected
          → CarryFirst config.period config.mode log (of_hart hart taken)
      of_one hart log came known at going (inl runs) = carried hart log known runs.0
      of_one hart log came known at going (inr cut) =
          let got = kept collected.keep (got_after config.period config.mode log cut.count) in
          let held = subst (λ some. IsSomeAnd some (λ one. (got_of one ≡ got) × (one.refused ≡ true))) at
          (ends.came hart got true cut.came) in
          absurd (differ (sym held.1 ∙ going))

-- What follows of the hart of which a payload was handed back, by what is known of it.
pub handed_back_as : (P Q : ℕ → Type 0) (why : Option Stop) → ((hart : ℕ) → P hart → Q hart) → IfHandedBack P why
    → IfHandedBack Q why
handed_back_as P Q None holds has = tt
handed_back_as P Q (Some (stop.HandedBack hart)) holds has = holds hart has
handed_back_as P Q (Some (stop.Memory hart)) holds has = tt
handed_back_as P Q (Some (stop.Ended hart)) holds has = tt
