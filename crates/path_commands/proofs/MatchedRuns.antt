-- What an audit prints of messages that carry no numbers, from what each of its steps found.
use Rattle.std.proofs.Common.{◌≡◌, ◌⊎◌, inl, inr, ℕ, List, [], Option, Result, Ok, Err}
use Rattle.std.proofs.Common.{refl, sym, subst}
use Rattle.std.proofs.KnownBytes.{Appends-nil}
use Rattle.std.specs.Prelude.{⊤, IfErr, IfOk}
use Rattle.output.specs.Begun.{AppendsBeginning}
use Rattle.auditing.specs.Matches.{Flags}
use Rattle.message.specs.Range.{selected}
use Rattle.message.specs.declared.range.HartRange.{HartRange}
use Rattle.frames.specs.Counted.{messages_in}
use Rattle.command_inputs.specs.declared.words.Audit.{Audit}
use Rattle.auditing.specs.Sent.{harts_of}
use Rattle.auditing.specs.Aligned.{AreAligned}
use Rattle.command_inputs.proofs.Runs.{prints}
use Rattle.command_inputs.specs.Begun.{IsCutOf}
use Rattle.command_inputs.specs.Printed.{PrintsUnlessDenied}
use Rattle.command_inputs.specs.Faults.{Path}
use Rattle.command_inputs.specs.Finding.{After}
use Rattle.command_inputs.specs.Found.{IsRead}
use Rattle.command_inputs.specs.declared.fault.Fault.TheVariants as fault
use Rattle.command_inputs.specs.declared.status.Status.{Status}
use Rattle.log_streams.specs.Known.{Content}
use Rattle.path_commands.specs.Faults.{Fault}
use Rattle.path_commands.specs.Rows.{report_of}
use Rattle.path_commands.specs.Sides.{IsFoundSent, Sent, by_packets}
use Rattle.path_commands.specs.ReceivedCapture.{IsReadByPayloads, ReceivedCapture}
use Rattle.path_commands.specs.Unnumbered.{WritesAligned, end_of_unnumbered, unnumbered_audit}
use Rattle.path_commands.specs.declared.reason.PathReason.{PathReason}
use Rattle.path_commands.specs.steps.Matching.{EndsUnnumbered}

-- What holds of a value holds of it in other words.
pub ok_in_words : {T E : Type 0} (P Q : T → Type 0) → ((x : T) → P x → Q x) → (r : Result T E) → IfOk r P → IfOk r Q
ok_in_words P Q leads (Ok x) holds = leads x holds
ok_in_words P Q leads (Err e) holds = tt

pub err_in_words : {T E : Type 0} (P Q : E → Type 0) → ((e : E) → P e → Q e) → (r : Result T E) → IfErr r P → IfErr r Q
err_in_words P Q leads (Ok x) holds = tt
err_in_words P Q leads (Err e) holds = leads e holds

-- Nothing was appended: a beginning of any text.
pub none_begun : (text : List ℕ) (old : Option (List ℕ)) → AppendsBeginning text old old
none_begun text old = record { text = []; rest = text; parted = refl; appended = Appends-nil old }

module _ (asked : Audit) (harts : HartRange) (sent : Sent) (bytes : List ℕ) (came : ReceivedCapture)
    (is_came : IsReadByPayloads (by_packets asked.packets) sent.messages bytes came) (all : List Flags)
    (aligned : AreAligned (by_packets asked.packets) (harts_of sent.header sent.messages) (selected harts sent.messages)
    (selected harts (messages_in came.spans)) all)
  where
    abbrev text : List ℕ
    text = unnumbered_audit (report_of asked.format asked harts) sent.header came all

    -- What was written, or the failure, is what is printed.
    pub matched_printed : (ended : Result Status Fault) (old new : Option (List ℕ))
        → EndsUnnumbered asked harts sent.header came all ended old new
        → PrintsUnlessDenied (WritesAligned asked.format asked harts sent bytes) ⊤ ended old new
    matched_printed ended old new (inl memory) =
        subst (λ e. PrintsUnlessDenied (WritesAligned asked.format asked harts sent bytes) ⊤ e old new) (sym memory)
        (inl (inl refl))
    matched_printed ended old new (inr (inl output)) =
        subst (λ e. PrintsUnlessDenied (WritesAligned asked.format asked harts sent bytes) ⊤ e old new) (sym output)
        (inl (inr (refl, tt)))
    matched_printed ended old new (inr (inr rest)) =
        prints (WritesAligned asked.format asked harts sent bytes) ⊤ ended old new (record {
          text = text;
          prints = record { came = came; is_came = is_came; all = all; aligned = aligned; text = refl; ended = rest.1 };
          appended = rest.0;
        })

    -- A beginning of it is a cut.
    pub matched_cut : (old new : Option (List ℕ)) → AppendsBeginning text old new
        → IsCutOf (WritesAligned asked.format asked harts sent bytes) old new
    matched_cut old new begun = inr (record {
      printed = record { text = text; ended = end_of_unnumbered asked.received harts sent.header came all };
      prints = record { came = came; is_came = is_came; all = all; aligned = aligned; text = refl; ended = refl };
      begun = begun;
    })

-- SENT is not read, or an allocation failed.
pub after_first : (content : Content) (path : Path) (why : Fault) → (why ≡ fault.Memory) ⊎ IsRead content path (Err why)
    → (why ≡ fault.Memory) ⊎ After (IsRead content path) (IsFoundSent path) (Err why)
after_first content path why (inl memory) = inl memory
after_first content path why (inr read) = inr (Err why, read, refl)

-- SENT is refused, or an allocation failed.
pub after_second : (content : Content) (path : Path) (why : Fault) (bytes : List ℕ)
    → IsRead {W = PathReason} content path (Ok bytes) → (why ≡ fault.Memory) ⊎ IsFoundSent path bytes (Err why)
    → (why ≡ fault.Memory) ⊎ After (IsRead content path) (IsFoundSent path) (Err why)
after_second content path why bytes read (inl memory) = inl memory
after_second content path why bytes read (inr found) = inr (Ok bytes, read, found)
