-- What `audit` prints while messages come, from what it wrote.
use Rattle.std.proofs.Common.{◌≡◌, inl, inr, refl, sym, subst, ℕ, List, [], Option, Result, Ok, Err, ◌++◌}
use Rattle.std.specs.Prelude.{◌≢◌, ◌⊎◌, ⊤}
use Rattle.std.specs.Io.KnownBytes.{Appends, Keeps}
use Rattle.std.proofs.KnownBytes.{Appends-kept, Appends-nil, Appends-trans, Keeps-refl}
use Rattle.output.specs.Begun.{AppendsBeginning}
use Rattle.output.proofs.Beginnings.{whole_begun}
use Rattle.log_streams.specs.Known.{Absent, Content, IsOpened, Known, MayLack, Present, Unknown}
use Rattle.log_streams.specs.declared.fault.FileFault.{FileFault}
use Rattle.log_streams.specs.declared.fault.FileFault.TheVariants as file
use Rattle.command_inputs.proofs.Runs.{prints}
use Rattle.command_inputs.specs.Faults.{Path, file_fault}
use Rattle.command_inputs.specs.Printed.{Printed as AnyPrinted, silent}
use Rattle.command_inputs.specs.declared.fault.Fault.TheVariants as fault
use Rattle.command_inputs.specs.declared.status.Status.{Status}
use Rattle.command_inputs.specs.declared.words.Audit.{Audit}
use Rattle.path_commands.specs.Faults.{Fault, Printed}
use Rattle.path_commands.specs.Followed.{Follows, FollowsBoth}
use Rattle.path_commands.specs.steps.Following.{AppendsSome, HasFollowed, IsStream}

-- Nothing was appended.
pub some_none : (old : Option (List ℕ)) → AppendsSome old old
some_none old = ([], Appends-nil old)

-- Some text was appended, and then some more.
pub some_more : (old mid new : Option (List ℕ)) → AppendsSome old mid → AppendsSome mid new → AppendsSome old new
some_more old mid new first then =
    (first.0 ++ then.0, Appends-trans old mid new first.0 then.0 first.1 then.1)

-- Some text was appended, and then nothing more.
pub some_kept : (old mid new : Option (List ℕ)) → AppendsSome old mid → Keeps mid new → AppendsSome old new
some_kept old mid new first kept = (first.0, Appends-kept old mid new first.0 first.1 kept)

-- A beginning of a text was appended.
pub some_begun : (text : List ℕ) (old new : Option (List ℕ)) → AppendsBeginning text old new → AppendsSome old new
some_begun text old new begun = (begun.text, begun.appended)

-- A file that is opened is there.
pub some_file : (known : Known) (given : List ℕ) (left : Option (List ℕ)) → IsOpened known given left → known ≢ Absent
some_file Absent given left opened = λ is. opened
some_file Unknown given left opened = λ is. cc
some_file (Present bytes) given left opened = λ is. cc

never_memory : file.CannotRead ≡ file.Memory → ⊥
never_memory is = cc

-- A file is not opened: there may be none, or allocation failed.
pub not_opened : (known : Known) (path : Path) (why : FileFault) → (why ≡ file.Memory) ⊎ MayLack known
    → IsStream {U = Unit {0}} known path (Err (file_fault path why))
not_opened known path file.Memory lacked = inl refl
not_opened known path file.CannotRead (inl is) = absurd (never_memory is)
not_opened known path file.CannotRead (inr lack) = inr (refl, lack)

-- What is printed where SENT is not opened.
no_sent : (asked : Audit) (sent received : Known) → MayLack sent
    → FollowsBoth asked sent received (silent (fault.Unreadable asked.sent))
no_sent asked Absent received lack = refl
no_sent asked Unknown Absent lack = tt
no_sent asked Unknown Unknown lack = tt
no_sent asked Unknown (Present others) lack = tt
no_sent asked (Present bytes) received lack = absurd lack

-- What is printed where SENT is opened, and RECEIVED is not.
no_received : (asked : Audit) (sent received : Known) → sent ≢ Absent → MayLack received
    → FollowsBoth asked sent received (silent (fault.Unreadable asked.received))
no_received asked Absent received opened lack = absurd (opened refl)
no_received asked Unknown Absent opened lack = tt
no_received asked Unknown Unknown opened lack = tt
no_received asked Unknown (Present others) opened lack = tt
no_received asked (Present bytes) Absent opened lack = refl
no_received asked (Present bytes) Unknown opened lack = tt
no_received asked (Present bytes) (Present others) opened lack = absurd lack

-- What is printed where both are opened.
both_opened : (asked : Audit) (sent received : Known) → sent ≢ Absent → received ≢ Absent → (printed : Printed)
    → FollowsBoth asked sent received printed
both_opened asked Absent received opened also printed = absurd (opened refl)
both_opened asked Unknown Absent opened also printed = tt
both_opened asked Unknown Unknown opened also printed = tt
both_opened asked Unknown (Present others) opened also printed = tt
both_opened asked (Present bytes) Absent opened also printed = absurd (also refl)
both_opened asked (Present bytes) Unknown opened also printed = tt
both_opened asked (Present bytes) (Present others) opened also printed = tt

module _ (content : Content) (asked : Audit) (old : Option (List ℕ)) where
  -- Nothing was written at a fault.
  ends_at : (why : Fault) → Follows content asked (silent why) → HasFollowed content asked (Err why) old old
  ends_at why follows = record {
    printed = inr (record { text = []; prints = follows; appended = Appends-nil old });
    cut = inl (Keeps-refl old);
  }

  out_of_memory : HasFollowed content asked (Err fault.Memory) old old
  out_of_memory = record { printed = inl (inl refl); cut = inl (Keeps-refl old) }

  -- SENT is not opened.
  pub sent_lacked : (why : Fault) → IsStream {U = Unit {0}} (content asked.sent.now) asked.sent (Err why)
      → HasFollowed content asked (Err why) old old
  sent_lacked why (inl memory) = subst (λ why. HasFollowed content asked (Err why) old old) (sym memory) out_of_memory
  sent_lacked why (inr (is, lack)) =
      subst (λ why. HasFollowed content asked (Err why) old old) (sym is)
      (ends_at (fault.Unreadable asked.sent) (no_sent asked (content asked.sent.now) (content asked.received.now) lack))

  -- RECEIVED is not opened.
  pub received_lacked : (why : Fault) → content asked.sent.now ≢ Absent
      → IsStream {U = Unit {0}} (content asked.received.now) asked.received (Err why)
      → HasFollowed content asked (Err why) old old
  received_lacked why opened (inl memory) =
      subst (λ why. HasFollowed content asked (Err why) old old) (sym memory) out_of_memory
  received_lacked why opened (inr (is, lack)) =
      subst (λ why. HasFollowed content asked (Err why) old old) (sym is)
      (ends_at (fault.Unreadable asked.received)
      (no_received asked (content asked.sent.now) (content asked.received.now) opened lack))

  -- Both are opened.
  pub followed : (ended : Result Status Fault) (new : Option (List ℕ)) → content asked.sent.now ≢ Absent
      → content asked.received.now ≢ Absent → AppendsSome old new → HasFollowed content asked ended old new
  followed ended new opened also some =
      let follows =
      both_opened asked (content asked.sent.now) (content asked.received.now) opened also
      (record { text = some.0; ended = ended }) in record {
        printed = prints (Follows content asked) ⊤ ended old new
            (record { text = some.0; prints = follows; appended = some.1 });
        cut = inr (record {
          printed = record { text = some.0; ended = ended };
          prints = follows;
          begun = whole_begun some.0 old new some.1;
        });
      }
