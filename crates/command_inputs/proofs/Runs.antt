-- What a run prints, from what it wrote.
use Rattle.std.proofs.Common.{◌≡◌, ◌⊎◌, inl, inr, refl, ℕ, sym, subst, ◌∙◌, List, [], Option, Some, None, Result}
use Rattle.std.proofs.Common.{Ok, Err}
use Rattle.std.proofs.KnownBytes.{Appends-nil}
use Rattle.std.specs.Prelude.{IfErr, IfOk, OnOk}
use Rattle.std.specs.Io.KnownBytes.{Appends, Keeps}
use Rattle.command_inputs.specs.Printed.{IsPrinted, Printed, PrintsUnlessDenied, silent}
use Rattle.command_inputs.specs.declared.fault.Fault.{Fault}
use Rattle.command_inputs.specs.declared.fault.Fault.TheVariants as fault
use Rattle.command_inputs.specs.declared.status.Status.{Status}

-- Bytes were appended, and then nothing more.
pub appends-keeps : (old mid new : Option (List ℕ)) (bytes : List ℕ) → Appends old mid bytes → Keeps mid new
    → Appends old new bytes
appends-keeps None mid new bytes first then = tt
appends-keeps (Some xs) None new bytes first then = elim first [ ]
appends-keeps (Some xs) (Some ys) None bytes first then = elim then [ ]
appends-keeps (Some xs) (Some ys) (Some zs) bytes first then = then ∙ first

-- A fault that is found before anything is written ends the run, unless allocation failed.
pub ends_silently : {W : Type 0} (Prints : Printed W → Type 0) (CanWrite Finds : Type 0) (why : Fault W)
    (ended : Result Status (Fault W)) (old : Option (List ℕ)) → ended ≡ Err why → (why ≡ fault.Memory) ⊎ Finds
    → (Finds → Prints (silent why)) → PrintsUnlessDenied Prints CanWrite ended old old
ends_silently Prints CanWrite Finds why ended old is (inl denied) prints =
    subst (λ r. PrintsUnlessDenied Prints CanWrite r old old) (sym is) (inl (inl denied))
ends_silently Prints CanWrite Finds why ended old is (inr finds) prints =
    subst (λ r. PrintsUnlessDenied Prints CanWrite r old old) (sym is)
    (inr (record { text = []; prints = prints finds; appended = Appends-nil old }))

-- The output failed once the run could write.
pub output_failed : {W : Type 0} (Prints : Printed W → Type 0) (CanWrite : Type 0) (ended : Result Status (Fault W))
    (old new : Option (List ℕ)) → ended ≡ Err fault.Output → CanWrite
    → PrintsUnlessDenied Prints CanWrite ended old new
output_failed Prints CanWrite ended old new is can =
    subst (λ r. PrintsUnlessDenied Prints CanWrite r old new) (sym is) (inl (inr (refl, can)))

-- A text was written and the run ended so, unless the output failed.
pub written : {W : Type 0} (Prints : Printed W → Type 0) (CanWrite : Type 0) (text : List ℕ) (status : Status)
    (ended : Result Status (Fault W))
    (old new : Option (List ℕ)) → Prints (record { text = text; ended = Ok status }) → CanWrite
    → IfErr ended (λ why. why ≡ fault.Output) → IfOk ended (λ done. done ≡ status) → OnOk ended (Appends old new text)
    → PrintsUnlessDenied Prints CanWrite ended old new
written Prints CanWrite text status (Ok done) old new prints can failed same appended = record {
  text = text;
  prints = subst (λ done. Prints (record { text = text; ended = Ok done })) (sym same) prints;
  appended = appended;
}
written Prints CanWrite text status (Err why) old new prints can failed same appended = inl (inr (failed, can))

-- What is printed holds, whether allocation failed or not.
pub prints : {W : Type 0} (Prints : Printed W → Type 0) (CanWrite : Type 0) (ended : Result Status (Fault W))
    (old new : Option (List ℕ))
    → IsPrinted Prints ended old new → PrintsUnlessDenied Prints CanWrite ended old new
prints Prints CanWrite (Ok status) old new printed = printed
prints Prints CanWrite (Err why) old new printed = inr printed

-- What a part of a run prints is what the run prints, where it leads there.
pub leads_on : {W : Type 0} (First Prints : Printed W → Type 0) (Early CanWrite : Type 0)
    (ended : Result Status (Fault W)) (old new : Option (List ℕ)) → ((printed : Printed W) → First printed → Prints printed) → (Early → CanWrite)
    → PrintsUnlessDenied First Early ended old new → PrintsUnlessDenied Prints CanWrite ended old new
leads_on First Prints Early CanWrite (Ok status) old new leads can is = record {
  text = is.text;
  prints = leads (record { text = is.text; ended = Ok status }) is.prints;
  appended = is.appended;
}
leads_on First Prints Early CanWrite (Err why) old new leads can (inl (inl memory)) = inl (inl memory)
leads_on First Prints Early CanWrite (Err why) old new leads can (inl (inr output)) = inl (inr (output.0, can output.1))
leads_on First Prints Early CanWrite (Err why) old new leads can (inr is) = inr (record {
  text = is.text;
  prints = leads (record { text = is.text; ended = Err why }) is.prints;
  appended = is.appended;
})

-- What is printed at first, and then nothing more, is what is printed in the end.
pub goes_on : {W : Type 0} (First Prints : Printed W → Type 0) (Early CanWrite : Type 0)
    (ended : Result Status (Fault W)) (old mid new : Option (List ℕ))
    → ((printed : Printed W) → First printed → Prints printed)
    → CanWrite → PrintsUnlessDenied First Early ended old mid → Keeps mid new
    → PrintsUnlessDenied Prints CanWrite ended old new
goes_on First Prints Early CanWrite (Ok status) old mid new leads can is kept = record {
  text = is.text;
  prints = leads (record { text = is.text; ended = Ok status }) is.prints;
  appended = appends-keeps old mid new is.text is.appended kept;
}
goes_on First Prints Early CanWrite (Err why) old mid new leads can (inl (inl memory)) kept = inl (inl memory)
goes_on First Prints Early CanWrite (Err why) old mid new leads can (inl (inr output)) kept = inl (inr (output.0, can))
goes_on First Prints Early CanWrite (Err why) old mid new leads can (inr is) kept = inr (record {
  text = is.text;
  prints = leads (record { text = is.text; ended = Err why }) is.prints;
  appended = appends-keeps old mid new is.text is.appended kept;
})
