-- What is known of what was collected is put together by cases on whether it was, which no tactic does.
use Rattle.std.proofs.Common.{ℕ, ◌≡◌, ◌∙◌, List, Ok, Err, length, subst}
use Rattle.std.specs.Prelude.{IfErr, IfOk, OnOk, Result}
use Rattle.std.specs.declared.alloc.Global.{Global}
use Rattle.std.specs.declared.vec.Vec.{Vec}
use Rattle.message.specs.Range.{selected}
use Rattle.rvclass.specs.Fetch.{words_of}
use Rattle.rvclass.specs.Image.{Image}
use Rattle.losses.specs.Collected.{AreCollected}
use Rattle.losses.specs.Collects.{GivesFault, GivesPieces}
use Rattle.losses.specs.DescribedParts.{AreDescribed}
use Rattle.losses.specs.Losses.{AreOfLogs}
use Rattle.losses.specs.Stops.{AreAcceptedLossy, CollectingStopsBy}
use Rattle.losses.specs.declared.fault.LossyFault.{LossyFault}
use Rattle.losses.specs.declared.fault.LossyFault.TheVariants.{Memory}
use Rattle.losses.specs.declared.part.HartPieces.{HartPieces}
use Rattle.message.specs.Accepted.{newcomers}
use Rattle.message.specs.declared.message.Message.{Message}
use Rattle.payload.specs.declared.mode.Mode.{Mode}
use Rattle.frames.specs.Search.{mode_of}
use Rattle.capture_commands.proofs.lossy_decoding.collect_own.Goals as goal

abbrev Found : Type 0
Found = Result (Vec (HartPieces Global) Global) LossyFault

gives : (program : Image) (harts : ℕ) (mode : Mode) (messages : List Message) (found : Found)
    → IfOk found (λ pieces. length pieces.items ≡ harts)
    → OnOk found (AreAcceptedLossy (newcomers harts) messages)
    → IfOk found (λ pieces. AreDescribed (words_of program) mode messages pieces.items)
    → ((period : ℕ) (own : ℕ → Mode) (logs : List _) → AreOfLogs program period mode own logs messages
    → length logs ≡ harts → IfOk found (λ pieces. AreCollected program period own logs messages pieces.items))
    → IfOk found (λ pieces. GivesPieces program harts mode messages pieces.items)
gives program harts mode messages (Ok pieces) count taken described parts = record {
  count = count;
  taken = taken;
  described = described;
  parts = parts;
}
gives program harts mode messages (Err why) count taken described parts = tt

stops_by : (program : Image) (harts : ℕ) (mode : Mode) (messages : List Message) (found : Found)
    → IfErr found (λ fault. CollectingStopsBy (words_of program) mode harts messages fault)
    → ((period : ℕ) (own : ℕ → Mode) (logs : List _) → AreOfLogs program period mode own logs messages
    → length logs ≡ harts → IfErr found (λ fault. fault ≡ Memory))
    → IfErr found (λ fault. GivesFault program harts mode messages fault)
stops_by program harts mode messages (Ok pieces) stops memory = tt
stops_by program harts mode messages (Err why) stops memory = record { stops = stops; memory = memory }

pub returns-clause-found : goal.returns-clause-found
returns-clause-found g c =
    let program = c.args.input.now.program.now in
    let header = c.args.whole.header in
    let found = c.collect_watched.result in
    let known = c.collect_watched.ensures in
    let given = gives program c.harts_counted.result c.mode_of.result c.as_slice.result.now found known.count
    known.accepted known.described known.parts in
    subst (λ harts. IfOk found (λ pieces. GivesPieces program harts (mode_of header)
    (selected c.args.input.now.only c.args.whole.messages.items) pieces.items)) c.harts_counted.ensures
    (subst (λ mode. IfOk found (λ pieces. GivesPieces program c.harts_counted.result mode
    (selected c.args.input.now.only c.args.whole.messages.items) pieces.items)) c.mode_of.ensures
    (subst (λ all. IfOk found (λ pieces. GivesPieces program c.harts_counted.result c.mode_of.result all
    pieces.items)) (c.as_slice.ensures.value ∙ c.select_messages-messages.ensures) given))

pub returns-clause-fault : goal.returns-clause-fault
returns-clause-fault g c =
    let program = c.args.input.now.program.now in
    let header = c.args.whole.header in
    let found = c.collect_watched.result in
    let known = c.collect_watched.ensures in
    let given = stops_by program c.harts_counted.result c.mode_of.result c.as_slice.result.now found known.stops
    known.memory in
    subst (λ harts. IfErr found (λ fault. GivesFault program harts (mode_of header)
    (selected c.args.input.now.only c.args.whole.messages.items) fault)) c.harts_counted.ensures
    (subst (λ mode. IfErr found (λ fault. GivesFault program c.harts_counted.result mode
    (selected c.args.input.now.only c.args.whole.messages.items) fault)) c.mode_of.ensures
    (subst (λ all. IfErr found (λ fault. GivesFault program c.harts_counted.result c.mode_of.result all fault))
    (c.as_slice.ensures.value ∙ c.select_messages-messages.ensures) given))
