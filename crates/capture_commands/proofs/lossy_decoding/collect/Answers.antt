-- What was collected is what is found: the steps are handed on, in order, which no tactic does.
use Rattle.std.proofs.Common.{◌≡◌, ◌⊎◌, ap, inl, inr, refl, ℕ, List, Option, Ok, Err}
use Rattle.captures.specs.Whole.{IsWhole}
use Rattle.command_inputs.specs.declared.fault.Fault.TheVariants as fault
use Rattle.message.specs.Range.{selected}
use Rattle.message.specs.declared.range.HartRange.{HartRange}
use Rattle.losses.specs.Collects.{GivesFault}
use Rattle.losses.specs.declared.fault.LossyFault.{LossyFault}
use Rattle.losses.specs.declared.fault.LossyFault.TheVariants as lossy
use Rattle.message.specs.declared.header.Header.{Header}
use Rattle.message.specs.declared.message.Message.{Message}
use Rattle.rvclass.specs.Image.{Image}
use Rattle.capture_commands.specs.Faults.{Fault, lossy_fault}
use Rattle.capture_commands.specs.Pieces.{ArePiecesOf, harts_counted}
use Rattle.frames.specs.Search.{mode_of}
use Rattle.capture_commands.specs.Placed.{placed_fault}
use Rattle.capture_commands.proofs.lossy_decoding.collect.Goals as goal

pub returns-in-Err-clause-fault : goal.returns-in-Err-clause-fault
returns-in-Err-clause-fault g c = record {
  whole = Err c.in-Err.fault;
  read = c.in-Err.ensures.fault;
  collected = ap (λ (why : Fault). Err why) c.reading_fault.ensures.value;
}

pub returns-in-Ok-collect_own-clause-found : goal.returns-in-Ok-collect_own-clause-found
returns-in-Ok-collect_own-clause-found g c = record {
  whole = Ok (c.in-Ok.whole.header, c.in-Ok.whole.messages.items);
  read = c.in-Ok.ensures.read;
  collected = c.in-Ok-collect_own.ensures.found;
}

-- The fault names the place of a message among all, or an allocation failed.
faulted : (harts : ℕ) (only : HartRange) (program : Image) (bytes : List ℕ) (header : Option Header)
    (messages : List Message) (own : LossyFault) (why : Fault) → IsWhole bytes header messages
    → GivesFault program (harts_counted harts header) (mode_of header) (selected only messages) own
    → (why ≡ fault.Memory) ⊎ (why ≡ lossy_fault (placed_fault only messages own))
    → ArePiecesOf harts only program bytes (Err why)
faulted harts only program bytes header messages own why whole gives (inl memory) = record {
  whole = Ok (header, messages);
  read = whole;
  collected = (lossy.Memory, memory, record { stops = tt; memory = λ period own logs are count. refl });
}
faulted harts only program bytes header messages own why whole gives (inr placed) = record {
  whole = Ok (header, messages);
  read = whole;
  collected = (own, placed, gives);
}

pub returns-in-Err-collect_own-clause-fault : goal.returns-in-Err-collect_own-clause-fault
returns-in-Err-collect_own-clause-fault g c =
    let header = c.in-Ok.whole.header in
    let messages = c.in-Ok.whole.messages.items in
    faulted c.args.harts c.args.input.now.only c.args.input.now.program.now c.args.input.now.bytes.now header messages c.in-Err-collect_own.fault
    c.fault_among.result c.in-Ok.ensures.read c.in-Err-collect_own.ensures.fault
    (c.fault_among.ensures.value header messages c.in-Ok.ensures.read)
