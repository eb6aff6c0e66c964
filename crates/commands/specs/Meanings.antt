-- What each subcommand means.
use Rattle.command_inputs.specs.declared.words.Asked.{Asked}
use Rattle.command_inputs.specs.declared.words.Asked.TheVariants.{Audit, Bench, Capture, Check, Decode, Dump, Encode}
use Rattle.command_inputs.specs.declared.words.Asked.TheVariants.{Compare, Generate, Listing, Measure, Replay, Salvage}
use Rattle.log_commands.specs.Benching.{bench_meaning}
use Rattle.log_commands.specs.Checking.{check_meaning}
use Rattle.log_commands.specs.Encoding.{encode_meaning}
use Rattle.log_commands.specs.Generating.{generate_meaning}
use Rattle.log_commands.specs.Measuring.{measure_meaning}
use Rattle.log_commands.specs.Replaying.{replay_meaning}
use Rattle.capture_commands.specs.Decoded.{decode_meaning}
use Rattle.capture_commands.specs.Dumping.{dump_meaning}
use Rattle.capture_commands.specs.Listed.{list_meaning}
use Rattle.capture_commands.specs.Salvaging.{salvage_meaning}
use Rattle.capture_commands.specs.Comparing.{compare_meaning}
use Rattle.path_commands.specs.Audited.{audit_meaning}
use Rattle.path_commands.specs.Capturing.{capture_meaning}
use Rattle.commands.specs.Faults.{Meaning}
use Rattle.commands.specs.Joined.{joined}
use Rattle.commands.specs.declared.reason.CommandReason.TheVariants as reason

-- What the subcommand means that is asked for, with what is asked of it.
abbrev pub meaning_of : Asked → Meaning
meaning_of (Check asked) = joined reason.Log (check_meaning asked)
meaning_of (Encode asked) = joined reason.Log (encode_meaning asked)
meaning_of (Dump asked) = joined reason.Capture (dump_meaning asked)
meaning_of (Decode asked) = joined reason.Capture (decode_meaning asked)
meaning_of (Replay asked) = joined reason.Log (replay_meaning asked)
meaning_of (Bench asked) = joined reason.Log (bench_meaning asked)
meaning_of (Audit asked) = joined reason.Path (audit_meaning asked)
meaning_of (Measure asked) = joined reason.Log (measure_meaning asked)
meaning_of (Listing asked) = joined reason.Capture (list_meaning asked)
meaning_of (Salvage asked) = joined reason.Capture (salvage_meaning asked)
meaning_of (Capture asked) = joined reason.Line (capture_meaning asked)
meaning_of (Compare asked) = joined reason.Capture (compare_meaning asked)
meaning_of (Generate asked) = joined reason.Log (generate_meaning asked)
