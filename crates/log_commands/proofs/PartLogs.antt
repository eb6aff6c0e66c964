-- What is found of a part before any file is read.
use Rattle.std.proofs.Common.{◌≡◌, ◌∙◌, ℕ, List, Option, Some, None, Result, Ok, Err, ap, length, refl}
use Rattle.std.proofs.Common.{subst, sym}
use Rattle.std.specs.Prelude.{IfSome}
use Rattle.command_inputs.specs.FurtherPieces.{base_number}
use Rattle.command_inputs.specs.Found.{base_at}
use Rattle.command_inputs.specs.Order.{logs_fault}
use Rattle.command_inputs.specs.declared.fault.Fault.TheVariants as fault
use Rattle.command_inputs.specs.declared.status.Status.{Status}
use Rattle.log_streams.specs.Known.{Content}
use Rattle.legalpath.specs.ProgramLog.{ProgramLog}
use Rattle.command_inputs.specs.declared.words.Encode.{Encode}
use Rattle.log_commands.specs.Encoding.{AreLogsOf, ArePartLogs, CanEncode, Encodes, encode_fault}
use Rattle.log_commands.specs.Faults.{Fault, Printed}
use Rattle.log_commands.specs.Parts.{asked_part, most_logs, part_fault}
use Rattle.log_commands.specs.steps.Parts.{CanEncodeUpTo, EncodesUpTo, limit_at, limit_of}

-- The fault that ends the search for the limit is found before any file is read.
refused_early : (part : Result (Unit {0}) Fault) (base : Option ℕ) (most : Result ℕ Fault) (logs : ℕ) (why : Fault)
    → limit_at part base most ≡ Err why → part_fault part base most logs ≡ Some why
refused_early (Err other) base most logs why is = cc
refused_early (Ok part) None most logs why is = cc
refused_early (Ok part) (Some base) (Ok more) logs why is = cc
refused_early (Ok part) (Some base) (Err other) logs why is = cc

-- Where the limit is found, the count of logs is looked at.
counted_early : (part : Result (Unit {0}) Fault) (base : Option ℕ) (found : Result ℕ Fault) (logs most : ℕ)
    → limit_at part base found ≡ Ok most → part_fault part base found logs ≡ logs_fault most base logs
counted_early (Err other) base found logs most is = cc
counted_early (Ok part) None found logs most is = refl
counted_early (Ok part) (Some base) (Ok more) logs most is = cc
counted_early (Ok part) (Some base) (Err other) logs most is = cc

-- The limit is that of the part.
pub limit_there : (part : Result (Unit {0}) Fault) (base : Option ℕ) (found : Result ℕ Fault) (most : ℕ)
    → limit_at part base found ≡ Ok most → found ≡ Ok most
limit_there (Err other) base found most is = cc
limit_there (Ok part) None found most is = cc
limit_there (Ok part) (Some base) found most is = is

-- Where the limit is found, no more harts are counted than a capture of the version has.
pub part_there : (part : Result (Unit {0}) Fault) (base : Option ℕ) (found : Result ℕ Fault) (most : ℕ)
    → limit_at part base found ≡ Ok most → part ≡ Ok tt
part_there (Err other) base found most is = cc
part_there (Ok part) base found most is = refl

-- A fault that ends one search ends another.
same_end : {A B : Type 0} (one other : Fault) → ◌≡◌ {A = Result A Fault} (Err one) (Err other)
    → ◌≡◌ {A = Result B Fault} (Err other) (Err one)
same_end one other is =
    let same : one ≡ other = cc is in ap Err (sym same)

module _ (content : Content) (asked : Encode) where
  no_logs : (part : Result (Unit {0}) Fault) (base : Option ℕ) (found : Result ℕ Fault) (why : Fault)
      → asked_part asked.version asked.first asked.of ≡ part → base_number asked.program ≡ base
      → most_logs asked.version asked.first asked.of ≡ found → limit_at part base found ≡ Err why
      → ArePartLogs content asked (Err why)
  no_logs (Err other) base found why parted based is stops = (Err other, sym parted, same_end other why stops)
  no_logs (Ok part) None found why parted based is stops =
      (Ok part, sym parted, (Err fault.Base, sym (ap base_at based), same_end fault.Base why stops))
  no_logs (Ok part) (Some base) found why parted based is stops =
      (Ok part, sym parted, (Ok base, sym (ap base_at based), (Err why, sym (is ∙ stops), refl)))

  all_logs : (part : Result (Unit {0}) Fault) (base : Option ℕ) (found : Result ℕ Fault) (most : ℕ)
      (logs : Result (List ProgramLog) Fault)
      → asked_part asked.version asked.first asked.of ≡ part → base_number asked.program ≡ base
      → most_logs asked.version asked.first asked.of ≡ found → limit_at part base found ≡ Ok most
      → AreLogsOf content asked most logs → ArePartLogs content asked logs
  all_logs (Err other) base found most logs parted based is leads are = cc
  all_logs (Ok part) None found most logs parted based is leads are = cc
  all_logs (Ok part) (Some base) found most logs parted based is leads are =
      (Ok part, sym parted, (Ok base, sym (ap base_at based), (Ok most, sym (is ∙ leads), are)))

  module _ (why : Fault) (stops : limit_of asked ≡ Err why) where
    -- Without a limit there are no logs of the part.
    pub logs_lacking : ArePartLogs content asked (Err why)
    logs_lacking =
        no_logs (asked_part asked.version asked.first asked.of) (base_number asked.program)
        (most_logs asked.version asked.first asked.of) why refl refl refl stops

    -- That is found before any file is read, and the run ends at it.
    pub early_stops : IfSome (encode_fault asked) (λ fault. ◌≡◌ {A = Result Status Fault} (Err why) (Err fault))
    early_stops =
        subst (λ seen. IfSome seen (λ fault. ◌≡◌ {A = Result Status Fault} (Err why) (Err fault)))
        (sym (refused_early (asked_part asked.version asked.first asked.of)
        (base_number asked.program) (most_logs asked.version asked.first asked.of) (length asked.logs.items) why
        stops)) refl

  module _ (most : ℕ) (leads : limit_of asked ≡ Ok most) where
    logs_of_part : (logs : Result (List ProgramLog) Fault) → AreLogsOf content asked most logs
        → ArePartLogs content asked logs
    logs_of_part logs are =
        all_logs (asked_part asked.version asked.first asked.of) (base_number asked.program)
        (most_logs asked.version asked.first asked.of) most logs refl refl refl leads are

    -- What is printed of so many logs at most is what is printed of the part.
    pub printed_leads : (printed : Printed) → EncodesUpTo content asked most printed → Encodes content asked printed
    printed_leads printed is = (is.0, logs_of_part is.0 is.1, is.2)

    -- It can be written then.
    pub can_leads : CanEncodeUpTo content asked most → CanEncode content asked
    can_leads can = (can.0, logs_of_part (Ok can.0) can.1, can.2)

    -- The count of logs is looked at before any file is read.
    pub early_leads : encode_fault asked
        ≡ logs_fault most (base_number asked.program) (length asked.logs.items)
    early_leads =
        counted_early (asked_part asked.version asked.first asked.of) (base_number asked.program)
        (most_logs asked.version asked.first asked.of) (length asked.logs.items) most leads
