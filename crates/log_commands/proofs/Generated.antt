-- What `generate` prints, from what each of its steps found.
use Rattle.std.proofs.Common.{◌≡◌, ◌≤◌, ap, inr, refl, subst, sym, ℕ, List, Option, Some, None, Result, Ok, Err, unwrap_or}
use Rattle.std.specs.Io.KnownBytes.{Appends, Keeps}
use Rattle.std.specs.Result.{result_map_both}
use Rattle.output.proofs.Beginnings.{begun_kept}
use Rattle.output.specs.Begun.{AppendsBeginning}
use Rattle.retire.specs.LogText.{log_text}
use Rattle.rvclass.specs.Image.{Image}
use Rattle.rvclass.specs.Program.{program_of}
use Rattle.rvclass.specs.declared.fault.ProgramFault.{ProgramFault}
use Rattle.stimulus.specs.ImageBytes.{image_bytes}
use Rattle.stimulus.specs.Mixed.{mixed_capture}
use Rattle.stimulus.specs.Written.{BeginsLog, WritesLog, log_of}
use Rattle.stimulus.specs.declared.logging.Log.{Log}
use Rattle.stimulus.specs.declared.mix.Mix.{Mix}
use Rattle.command_inputs.proofs.Beginnings.{printed_begun}
use Rattle.command_inputs.proofs.Runs.{appends-keeps, ends_silently}
use Rattle.command_inputs.specs.Begun.{IsCutOf}
use Rattle.command_inputs.specs.Found.{program_at}
use Rattle.command_inputs.specs.Limits.{IsUpToIfGiven}
use Rattle.command_inputs.specs.Printed.{IsPrinted, PrintsUnlessDenied}
use Rattle.command_inputs.specs.declared.fault.Fault.TheVariants as fault
use Rattle.command_inputs.specs.declared.status.Status.{Status}
use Rattle.command_inputs.specs.declared.status.Status.TheVariants.{Whole}
use Rattle.command_inputs.specs.declared.words.Generate.{Generate}
use Rattle.command_inputs.specs.declared.words.Product.{Product}
use Rattle.command_inputs.specs.declared.words.Product.TheVariants as product
use Rattle.log_commands.specs.Faults.{Fault}
use Rattle.log_commands.specs.Generating.{CanGenerate, Generates, IsDrawn, IsReady, MakesFront, WritesFront, WritesRows}
use Rattle.log_commands.specs.Generating.{capture_of, log_asked}

-- A number that is given, or else a small one, is at most what a given one is at most.
pub at_most : (most default : ℕ) (given : Option ℕ) → IsUpToIfGiven most given → default ≤ most
    → unwrap_or given default ≤ most
at_most most default None few small = small
at_most most default (Some count) few small = few.1

module _ (asked : Generate) where
  -- The run ends at the fault that there is before anything is made.
  pub refused : (why : Fault) (ended : Result Status Fault) (old : Option (List ℕ)) → IsReady asked (Err why)
      → ended ≡ Err why → PrintsUnlessDenied (Generates asked) (CanGenerate asked) ended old old
  refused why ended old found is =
      ends_silently (Generates asked) (CanGenerate asked) (IsReady asked (Err why)) why ended old is (inr found)
      (λ found. (Err why, found, refl))

  -- The image makes no program.
  pub undrawn : (mix : Mix) (base : ℕ) (why : ProgramFault) (bytes : List ℕ) (ended : Result Status Fault)
      (old : Option (List ℕ)) → IsReady asked (Ok (mix, base)) → bytes ≡ image_bytes mix asked.seed
      → Err why ≡ program_of base bytes → ended ≡ Err (fault.Image why)
      → PrintsUnlessDenied (Generates asked) (CanGenerate asked) ended old old
  undrawn mix base why bytes ended old found is none ends =
      let drawn : IsDrawn asked (mix, base) (Err (fault.Image why)) =
      subst (λ bytes. ◌≡◌ {A = Result Image Fault} (Err (fault.Image why)) (program_at base (Ok bytes))) is
      (ap (result_map_both (λ (program : Image). program) fault.Image) none) in
      ends_silently (Generates asked) (CanGenerate asked) (IsDrawn asked (mix, base) (Err (fault.Image why)))
      (fault.Image why) ended old ends (inr drawn)
      (λ drawn. (Ok (mix, base), found, (Err (fault.Image why), drawn, refl)))

  module _ (program : Image) where
    -- A prefix of the image was written.
    pub image_cut : (its : Product) (mix : Mix) (bytes : List ℕ) (old new : Option (List ℕ)) → its ≡ product.Image
        → bytes ≡ image_bytes mix asked.seed → AppendsBeginning bytes old new
        → IsCutOf (MakesFront its asked mix program) old new
    image_cut its mix bytes old new is same begun =
        subst (λ its. IsCutOf (MakesFront its asked mix program) old new) (sym is)
        (inr (printed_begun (MakesFront product.Image asked mix program) (image_bytes mix asked.seed) (Ok Whole) old new
        refl (subst (λ bytes. AppendsBeginning bytes old new) same begun)))

    -- The text of the log was written, and then nothing more.
    pub rows_printed : (mix : Mix) (log : Log) (old mid new : Option (List ℕ)) → log ≡ log_asked asked mix
        → WritesLog program log old mid → Keeps mid new → IsPrinted (WritesRows asked mix program) (Ok Whole) old new
    rows_printed mix log old mid new same writes kept =
        let text = log_text (log_of program (log_asked asked mix)) in record {
          text = text;
          prints = refl;
          appended = appends-keeps old mid new text
              (subst (λ log. Appends old mid (log_text (log_of program log))) same writes.text) kept;
        }

    -- A prefix of it was written, and then nothing more.
    pub rows_cut : (mix : Mix) (log : Log) (old mid new : Option (List ℕ)) → log ≡ log_asked asked mix
        → BeginsLog program log old mid → Keeps mid new → IsCutOf (WritesRows asked mix program) old new
    rows_cut mix log old mid new same begins kept =
        let text = log_text (log_of program (log_asked asked mix)) in
        inr (printed_begun (WritesRows asked mix program) text (Ok Whole) old new refl
        (begun_kept text old mid new (subst (λ log. BeginsLog program log old mid) same begins) kept))

    -- A prefix of the capture was written, and then nothing more.
    pub mixed_cut : (mix : Mix) (old mid new : Option (List ℕ))
        → AppendsBeginning (mixed_capture program (capture_of asked mix)) old mid → Keeps mid new
        → IsCutOf (WritesFront asked mix program) old new
    mixed_cut mix old mid new begun kept =
        let bytes = mixed_capture program (capture_of asked mix) in
        inr (printed_begun (WritesFront asked mix program) bytes (Ok Whole) old new refl
        (begun_kept bytes old mid new begun kept))

-- What keeps nothing more is as it is.
pub keeps_itself : (bytes : Option (List ℕ)) → Keeps bytes bytes
keeps_itself None = tt
keeps_itself (Some bytes) = refl
