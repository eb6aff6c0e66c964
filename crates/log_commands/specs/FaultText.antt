-- The texts of the reasons that only subcommands that read logs have.
use Rattle.std.specs.Prelude.{ℕ, ◌++◌, List, codes}
use Rattle.std.specs.Fmt.{decimal}
use Rattle.bench.specs.SetupText.{setup_text}
use Rattle.funnel.specs.FaultText.{schedule_fault_text}
use Rattle.log_commands.specs.declared.reason.LogReason.{LogReason}
use Rattle.log_commands.specs.declared.reason.LogReason.TheVariants.{FirstAlone, FirstHart, LargeSchedule, ManyHarts, Mix}
use Rattle.log_commands.specs.declared.reason.LogReason.TheVariants.{Product, Schedule, Stray, Unsent}
use Rattle.log_commands.specs.declared.reason.Stray.{Stray as AnyStray}
use Rattle.log_commands.specs.declared.reason.Stray.TheVariants as stray

-- What is said of an option that does not go with what is made.
abbrev pub stray_text : AnyStray → List ℕ
stray_text stray.Hart = codes "--hart goes with log alone"
stray_text stray.Events = codes "--events goes with log alone"
stray_text stray.Harts = codes "--harts goes with capture alone"
stray_text stray.Messages = codes "--messages goes with capture alone"
stray_text stray.Period = codes "--period goes with capture alone"
stray_text stray.Full = codes "--full goes with capture alone"
stray_text stray.VersionOne = codes "--v1 goes with capture alone"
stray_text stray.Burst = codes "--burst goes with capture alone"

-- A reason of a subcommand that reads or makes logs, as a line of text.
abbrev pub log_reason_text : LogReason → List ℕ
log_reason_text (Schedule why) = codes "schedule: " ++ schedule_fault_text why
log_reason_text LargeSchedule = codes "schedule: larger than 134217728 bytes"
log_reason_text (Unsent why) = setup_text why
log_reason_text FirstAlone = codes "--first needs --of"
log_reason_text (ManyHarts most) = codes "more than " ++ (decimal most ++ codes " harts")
log_reason_text (FirstHart harts) = codes "first hart is not below " ++ decimal harts
log_reason_text Product = codes "what is made is not one of image, log, capture"
log_reason_text Mix = codes "mix is not one of mixed, branches, jumps, traps, longest, straight"
log_reason_text (Stray option) = stray_text option
