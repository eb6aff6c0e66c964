-- What is printed of lines, from what was written of them.
use Rattle.std.proofs.Common.{◌≡◌, ◌∙◌, ap, inr, refl, subst, sym, ℕ, List, [], Option, Result, Ok, Err}
use Rattle.std.specs.Prelude.{⊤, IfErr, IfOk, OnOk}
use Rattle.std.proofs.KnownBytes.{Appends-nil}
use Rattle.std.specs.Io.KnownBytes.{Appends, Keeps}
use Rattle.output.proofs.Beginnings.{whole_begun}
use Rattle.output.specs.Begun.{AppendsBeginning}
use Rattle.captures.specs.declared.line_fault.LinesFault.{LinesFault}
use Rattle.captures.specs.declared.line_fault.LinesFault.TheVariants as lines
use Rattle.command_inputs.specs.Begun.{IsCutOf}
use Rattle.command_inputs.specs.Faults.{Path}
use Rattle.command_inputs.specs.Printed.{IsPrinted, PrintsUnlessDenied, silent}
use Rattle.command_inputs.specs.declared.fault.Fault.TheVariants as fault
use Rattle.command_inputs.specs.declared.status.Status.{Status}
use Rattle.command_inputs.specs.declared.status.Status.TheVariants.{Whole}
use Rattle.command_inputs.proofs.Beginnings.{printed_begun}
use Rattle.command_inputs.proofs.Runs.{appends-keeps, output_failed}
use Rattle.path_commands.specs.Capturing.{printed_of}
use Rattle.path_commands.specs.LineFaults.{Fault, Printed, lines_fault}

-- What is printed is this.
abbrev pub Is : Path → Result (List ℕ) LinesFault → Printed → Type 0
Is path capture printed = printed ≡ printed_of path capture

-- An output is as it was, and so are its bytes.
same_bytes : {O : Type 0} (contents : O → Option (List ℕ)) (old new : O) → new ≡ old
    → Appends (contents old) (contents new) []
same_bytes contents old new same =
    subst (λ new. Appends (contents old) (contents new) []) (sym same) (Appends-nil (contents old))

same_fault : {U : Type 0} (x y : LinesFault) → ◌≡◌ {A = Result U LinesFault} (Err x) (Err y) → x ≡ y
same_fault x y is = cc

never_both : {U : Type 0} (done : U) (why : LinesFault) → ◌≡◌ {A = Result U LinesFault} (Ok done) (Err why) → ⊥
never_both done why is = cc

module _ {O U : Type 0} (contents : O → Option (List ℕ)) (path : Path) (old new : O) (written : Result U LinesFault)
  where
    -- No capture was written for this reason: the output failed, or a line has a fault, and then nothing was written.
    module _ (why : LinesFault) (ended : Result Status Fault) (is : written ≡ Err why)
        (ends : ended ≡ Err (lines_fault path why)) where
      output_is : IfErr written (λ fault. fault ≡ lines.Write) → ended ≡ Err fault.Output
      output_is output =
          let why_is : why ≡ lines.Write = subst (λ w. IfErr w (λ fault. fault ≡ lines.Write)) is output in
          ends ∙ ap (λ why. Err (lines_fault path why)) why_is

      pub fault_printed : (capture : Result (List ℕ) LinesFault)
          → IfOk capture (λ _. IfErr written (λ fault. fault ≡ lines.Write))
          → IfErr capture (λ fault. written ≡ Err fault) → IfErr capture (λ _. new ≡ old)
          → PrintsUnlessDenied (Is path capture) ⊤ ended (contents old) (contents new)
      fault_printed (Ok bytes) output line same =
          output_failed (Is path (Ok bytes)) ⊤ ended (contents old) (contents new) (output_is output) tt
      fault_printed (Err found) output line same =
          let why_is : why ≡ found = same_fault why found (sym is ∙ line) in
          subst (λ e. PrintsUnlessDenied (Is path (Err found)) ⊤ e (contents old) (contents new)) (sym ends)
          (inr (record {
            text = [];
            prints = ap (λ why. silent (lines_fault path why)) why_is;
            appended = same_bytes contents old new same;
          }))

    pub fault_cut : (capture : Result (List ℕ) LinesFault)
        → IfOk capture (λ bytes. AppendsBeginning bytes (contents old) (contents new)) → IfErr capture (λ _. new ≡ old)
        → IsCutOf (Is path capture) (contents old) (contents new)
    fault_cut (Ok bytes) begun same =
        inr (printed_begun (Is path (Ok bytes)) bytes (Ok Whole) (contents old) (contents new) refl begun)
    fault_cut (Err found) begun same =
        inr (printed_begun (Is path (Err found)) [] (Err (lines_fault path found)) (contents old) (contents new) refl
        (whole_begun [] (contents old) (contents new) (same_bytes contents old new same)))

    -- The capture was written, and then nothing more.
    module _ (end : O) (done : U) (is : written ≡ Ok done) (kept : Keeps (contents new) (contents end)) where
      all_of : (bytes : List ℕ) → OnOk written (Appends (contents old) (contents new) bytes)
          → Appends (contents old) (contents end) bytes
      all_of bytes wrote =
          appends-keeps (contents old) (contents new) (contents end) bytes
          (subst (λ w. OnOk w (Appends (contents old) (contents new) bytes)) is wrote) kept

      pub all_printed : (capture : Result (List ℕ) LinesFault)
          → IfOk capture (λ bytes. OnOk written (Appends (contents old) (contents new) bytes))
          → IfErr capture (λ fault. written ≡ Err fault)
          → IsPrinted (Is path capture) (Ok Whole) (contents old) (contents end)
      all_printed (Ok bytes) wrote line = record { text = bytes; prints = refl; appended = all_of bytes wrote }
      all_printed (Err found) wrote line = absurd (never_both done found (sym is ∙ line))

      pub all_cut : (capture : Result (List ℕ) LinesFault)
          → IfOk capture (λ bytes. OnOk written (Appends (contents old) (contents new) bytes))
          → IfErr capture (λ fault. written ≡ Err fault) → IsCutOf (Is path capture) (contents old) (contents end)
      all_cut (Ok bytes) wrote line =
          inr (printed_begun (Is path (Ok bytes)) bytes (Ok Whole) (contents old) (contents end) refl
          (whole_begun bytes (contents old) (contents end) (all_of bytes wrote)))
      all_cut (Err found) wrote line = absurd (never_both done found (sym is ∙ line))
