-- What is judged by itself, where a synchronisation is looked for.
use Rattle.std.proofs.Common.{◌≡◌, ℕ, true, false, List, [], ◌∷◌, Option, Some, None, refl, sym, ap, subst, ◌∙◌}
use Rattle.std.specs.Prelude.{Result, Ok, Err, IfOk}
use Rattle.std.specs.declared.alloc.AllocError.{AllocError}
use Rattle.rvclass.specs.Words.{Words}
use Rattle.payload.specs.Reading.{reading}
use Rattle.payload.specs.declared.mode.Mode.{Mode}
use Rattle.payload.specs.declared.packet.Packet.{Packet}
use Rattle.payload.specs.declared.packet.Packet.TheVariants as packet
use Rattle.decoder.specs.Describes.{Describes}
use Rattle.decoder.specs.Resuming.{IsSync}
use Rattle.losses.specs.Runs.{longer, run_of, trace_of_run}
use Rattle.salvaging.specs.declared.reason.Reason.{Reason}
use Rattle.salvaging.specs.declared.reason.Reason.TheVariants as reason
use Rattle.salvaging.specs.declared.trail.Trail.{Trail}
use Rattle.salvaging.specs.steps.Ending.{BeginsBy, JudgedAlone}
use Rattle.salvaging.specs.Tallies.{is_sync}
use Rattle.salvaging.specs.steps.UnderWay.{Judged}
use Rattle.salvaging.proofs.EntriesOfLog.{same_packet}

pub judged_alone : {A : Type 0} (words : Words) (mode : Mode) (payload : List ℕ) (following : Option ℕ) (new : Trail A)
    (result : Result (Option Reason) AllocError)
    → IfOk result (λ judged. Judged words mode mode (run_of 1 []) 0 payload following judged new)
    → IfOk result (JudgedAlone words mode payload following)
judged_alone words mode payload following new (Ok None) (packet, good, under_way) = (packet, good)
judged_alone words mode payload following new (Ok (Some why)) (bad, under_way) = bad
judged_alone words mode payload following new (Err refused) judged = tt

-- A packet is a synchronisation where the test says so.
sync_of_test : (p : Packet) → is_sync p ≡ true → IsSync p
sync_of_test (packet.Sync taken priv address) test = tt
sync_of_test (packet.Support support) test = cc
sync_of_test (packet.Trap taken priv cause interrupt handler address tval) test = cc
sync_of_test (packet.Address taken delta report) test = cc
sync_of_test (packet.Map taken) test = cc

test_of_sync : (p : Packet) → IsSync p → is_sync p ≡ true
test_of_sync (packet.Sync taken priv address) sync = refl
test_of_sync (packet.Support support) sync = absurd sync
test_of_sync (packet.Trap taken priv cause interrupt handler address tval) sync = absurd sync
test_of_sync (packet.Address taken delta report) sync = absurd sync
test_of_sync (packet.Map taken) sync = absurd sync

module _ (words : Words) (mode : Mode) (payload : List ℕ) where
  pub begins_none : (p : Packet) → reading payload ≡ Ok p → is_sync p ≡ false → ¬ BeginsBy words mode payload
  begins_none p read test (q, sync, good) =
      let same = same_packet payload q p good.read read in
      let never : true ≡ false = sym (test_of_sync q sync) ∙ ap is_sync same ∙ test in
      cc

  pub begins_good : (p : Packet) → reading payload ≡ Ok p → is_sync p ≡ true
      → JudgedAlone words mode payload None None → BeginsBy words mode payload
  begins_good p read test (q, good) =
      let same = same_packet payload p q read good.read in
      (q, subst IsSync same (sync_of_test p test), good)

  pub not_begun : (why : Reason) → JudgedAlone words mode payload None (Some why) → ¬ BeginsBy words mode payload
  not_begun (reason.Packet why) bad (q, sync, good) = let read = good.read in cc
  not_begun (reason.Decode why) bad (q, sync, good) =
      let same = same_packet payload q bad.packet good.read bad.read in
      bad.not_described good.described.0 (subst (λ p. Describes words
      (trace_of_run mode (longer (run_of 1 []) (p ∷ []))) good.described.0) same good.described.1)
  not_begun (reason.Closing next) (closes, follows) begins = cc
