-- What `capture` prints, from what each of its steps found.
use Rattle.std.proofs.Common.{◌≡◌, ◌∙◌, ◌⊎◌, ap, inl, inr, refl, subst, sym, ℕ, List, Bool, true, false, Option, Some, None}
use Rattle.std.proofs.Common.{Result, Ok, Err}
use Rattle.std.specs.Io.KnownBytes.{Keeps}
use Rattle.std.specs.Prelude.{⊤, IfSome, if◌then◌else◌}
use Rattle.captures.specs.declared.line_settings.Settings.{Settings}
use Rattle.log_streams.specs.Known.{Content}
use Rattle.message.specs.Version.{most_harts}
use Rattle.command_inputs.specs.declared.words.Capture.{Capture}
use Rattle.command_inputs.proofs.Beginnings.{cut_leads}
use Rattle.command_inputs.proofs.Runs.{ends_silently, leads_on}
use Rattle.command_inputs.specs.Begun.{BeginsPrinted, IsCutOf}
use Rattle.command_inputs.specs.Found.{IsRead}
use Rattle.command_inputs.specs.Kind.{is_streamed}
use Rattle.command_inputs.specs.Printed.{PrintsUnlessDenied}
use Rattle.command_inputs.specs.declared.fault.Fault.TheVariants as fault
use Rattle.command_inputs.specs.declared.status.Status.{Status}
use Rattle.path_commands.specs.Capturing.{AreSettings, CanCapture, CanRead, Captures, WritesCapture, WritesLines, are_many}
use Rattle.path_commands.specs.Capturing.{asked_fault, asked_settings, many_harts, skips_alone}
use Rattle.path_commands.specs.LineFaults.{Fault, Printed}
use Rattle.path_commands.specs.declared.line_reason.LineReason.{LineReason}
use Rattle.path_commands.specs.declared.line_reason.LineReason.TheVariants.{SkipAlone}

same_fault : {A : Type 0} (x y : Fault) → ◌≡◌ {A = Result A Fault} (Err x) (Err y) → x ≡ y
same_fault x y is = cc

never_both : {A : Type 0} (value : A) (why : Fault) → ◌≡◌ {A = Result A Fault} (Ok value) (Err why) → ⊥
never_both value why is = cc

module _ (first second : Fault) (settings : Settings) (ended : Result Status Fault) where
  early_err : (many alone : Bool) (why : Fault)
      → ◌≡◌ {A = Result Settings Fault} (Err why)
      (if many then Err first else if alone then Err second else Ok settings) → ended ≡ Err why
      → IfSome (if many then Some first else if alone then Some second else None) (λ fault. ended ≡ Err fault)
  early_err true alone why found is = is ∙ ap Err (same_fault why first found)
  early_err false true why found is = is ∙ ap Err (same_fault why second found)
  early_err false false why found is = tt

  early_ok : (many alone : Bool) (other : Settings)
      → ◌≡◌ {A = Result Settings Fault} (Ok other)
      (if many then Err first else if alone then Err second else Ok settings)
      → IfSome (if many then Some first else if alone then Some second else None) (λ fault. ended ≡ Err fault)
  early_ok true alone other found = absurd (never_both other first found)
  early_ok false true other found = absurd (never_both other second found)
  early_ok false false other found = tt

module _ (asked : Capture) where
  -- The run ends at the fault of what is asked, where there is one.
  pub early_ends : (why : Fault) (ended : Result Status Fault) → AreSettings asked (Err why) → ended ≡ Err why
      → IfSome (asked_fault asked) (λ fault. ended ≡ Err fault)
  early_ends why ended found is =
      early_err (many_harts asked) (fault.Own SkipAlone) (asked_settings asked) ended
      (are_many (most_harts asked.version) asked.harts) (skips_alone asked) why found is

  -- There is none where it is found what the capture is to be.
  pub early_none : (settings : Settings) (ended : Result Status Fault) → AreSettings asked (Ok settings)
      → IfSome (asked_fault asked) (λ fault. ended ≡ Err fault)
  early_none settings ended found =
      early_ok (many_harts asked) (fault.Own SkipAlone) (asked_settings asked) ended
      (are_many (most_harts asked.version) asked.harts) (skips_alone asked) settings found

module _ (content : Content) (asked : Capture) where
  -- What is asked for is refused.
  pub asked_refused : (why : Fault) (ended : Result Status Fault) (old : Option (List ℕ))
      → AreSettings asked (Err why) → ended ≡ Err why
      → PrintsUnlessDenied (Captures content asked) (CanCapture content asked) ended old old
  asked_refused why ended old found is =
      ends_silently (Captures content asked) (CanCapture content asked) (AreSettings asked (Err why)) why ended old is
      (inr found) (λ found. (Err why, found, refl))

  -- Where allocation fails while lines are written as they come, nothing or a prefix was written.
  pub begun_streamed : (old new : Option (List ℕ)) → is_streamed asked ≡ true → IsCutOf (Captures content asked) old new
      → Keeps old new ⊎ ((is_streamed asked ≡ true) × BeginsPrinted (Captures content asked) old new)
  begun_streamed old new is (inl kept) = inl kept
  begun_streamed old new is (inr begun) = inr (is, begun)

  module _ (settings : Settings) (found : AreSettings asked (Ok settings)) (streamed : Bool)
      (is : is_streamed asked ≡ streamed) where
    leads : (printed : Printed) → WritesLines streamed content asked settings printed → Captures content asked printed
    leads printed writes =
        (Ok settings, found, subst (λ way. WritesLines way content asked settings printed) (sym is) writes)

    -- What is printed of the lines is what `capture` prints.
    pub lines_printed : (ended : Result Status Fault) (old new : Option (List ℕ))
        → PrintsUnlessDenied (WritesLines streamed content asked settings) (CanRead content asked) ended old new
        → PrintsUnlessDenied (Captures content asked) (CanCapture content asked) ended old new
    lines_printed ended old new printed =
        leads_on (WritesLines streamed content asked settings) (Captures content asked) (CanRead content asked)
        (CanCapture content asked) ended old new leads (λ can. (settings, found, can)) printed

    -- And so is a cut of it.
    pub lines_cut : (old new : Option (List ℕ)) → IsCutOf (WritesLines streamed content asked settings) old new
        → IsCutOf (Captures content asked) old new
    lines_cut old new cut =
        cut_leads (WritesLines streamed content asked settings) (Captures content asked) old new leads cut

  module _ (settings : Settings) where
    -- The lines are not read, or an allocation failed.
    pub lines_lacked : (why : Fault) (ended : Result Status Fault) (old : Option (List ℕ))
        → (why ≡ fault.Memory) ⊎ IsRead content asked.lines (Err why) → ended ≡ Err why
        → PrintsUnlessDenied (WritesLines false content asked settings) (CanRead content asked) ended old old
    lines_lacked why ended old lacked is =
        ends_silently (WritesLines false content asked settings) (CanRead content asked)
        (IsRead content asked.lines (Err why)) why ended old is lacked (λ none. (Err why, none, refl))

    module _ (text : List ℕ) (read : IsRead {W = LineReason} content asked.lines (Ok text)) where
      reads : (printed : Printed) → WritesCapture asked.lines settings text printed
          → WritesLines false content asked settings printed
      reads printed writes = (Ok text, read, writes)

      -- The lines are read, and their capture is written.
      pub text_printed : (ended : Result Status Fault) (old new : Option (List ℕ))
          → PrintsUnlessDenied (WritesCapture asked.lines settings text) ⊤ ended old new
          → PrintsUnlessDenied (WritesLines false content asked settings) (CanRead content asked) ended old new
      text_printed ended old new printed =
          leads_on (WritesCapture asked.lines settings text) (WritesLines false content asked settings) ⊤
          (CanRead content asked) ended old new reads (λ _. (text, read, tt)) printed

      pub text_cut : (old new : Option (List ℕ)) → IsCutOf (WritesCapture asked.lines settings text) old new
          → IsCutOf (WritesLines false content asked settings) old new
      text_cut old new cut =
          cut_leads (WritesCapture asked.lines settings text) (WritesLines false content asked settings) old new reads cut
