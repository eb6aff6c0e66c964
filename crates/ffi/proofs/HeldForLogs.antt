-- What a capture decodes to is compared with the legal logs of texts.
use Rattle.std.proofs.Common.{◌≡◌, ◌≢◌, ◌∙◌, ◌+◌, ℕ, Bool, List, [], ◌∷◌, Option, Ok, Err, Vec, Global, ap, arith}
use Rattle.std.proofs.Common.{inr, length, refl, sym, subst}
use Rattle.bench.specs.Got.{Got}
use Rattle.captures.specs.Decoded.{IsDecoded}
use Rattle.captures.specs.declared.outcome.CaptureFault.{CaptureFault}
use Rattle.comparing.proofs.DecodedHarts.{flags_many}
use Rattle.comparing.proofs.HeldHarts.{held}
use Rattle.comparing.proofs.LineTexts.{sourced_whole}
use Rattle.comparing.specs.Compared.{gots_by, is_compared_whole}
use Rattle.comparing.specs.Counts.{AreCounted}
use Rattle.comparing.specs.Sourced.{AreSourced}
use Rattle.comparing.specs.declared.explained.ExplainedHart.{ExplainedHart}
use Rattle.comparing.specs.declared.hart_count.HartCount.{HartCount}
use Rattle.comparing.specs.steps.Held.{count_in}
use Rattle.message.specs.Range.{every_hart}
use Rattle.receiver.specs.Received.{events_in}
use Rattle.retire.specs.declared.event.Event.{Event}
use Rattle.rvclass.specs.Fetch.{words_of}
use Rattle.rvclass.specs.Image.{Image}
use Rattle.ffi.specs.Compared.{HasAsMany, HasComparison, HoldsFor, IsCompared, closed_in, compare_end}
use Rattle.ffi.specs.Decoded.{stop_fault}
use Rattle.ffi.specs.Encoded.{IsRefusedLog}
use Rattle.ffi.specs.Images.{Judged}
use Rattle.ffi.specs.declared.fault.Fault.{Fault}
use Rattle.ffi.specs.declared.fault.Fault.TheVariants as fault
use Rattle.ffi.specs.declared.status.TheConstants.{MEMORY}
use Rattle.ffi.specs.declared.texts.Written.{Written}
use Rattle.ffi.specs.steps.Comparing.{AreCompared, Writes}
use Rattle.ffi.specs.steps.OfTexts.{AreTextsOf}
use Rattle.ffi.proofs.HartsListed.{lists_many}

-- The flags are those of what is held.
pub flags_held : (count : ℕ → HartCount) (hart : ℕ) (lists : List (List Event)) (closed : List Bool)
    → length closed ≡ length lists → closed_in (gots_by count hart lists closed) ≡ closed
flags_held count hart [] [] same = refl
flags_held count hart [] (flag ∷ closed) same = absurd (omega (arith, same))
flags_held count hart (list ∷ lists) [] same = absurd (omega (arith, same))
flags_held count hart (list ∷ lists) (flag ∷ closed) same =
    ap (λ flags. flag ∷ flags) (flags_held count (hart + 1) lists closed (omega (arith, same)))

module _ (image : Judged) (harts : ℕ) (capture : List ℕ) (program : Image) (made : image ≡ Ok program)
    (lists : List (Vec Event Global)) (closed : List Bool) (counts : List HartCount)
    (stop : Option (ℕ × CaptureFault))
    (decoded : IsDecoded (words_of program) harts capture (events_in lists) closed stop) where
  -- There is a flag for each list.
  pub flags_for : length closed ≡ length lists
  flags_for =
      flags_many every_hart (words_of program) harts capture (events_in lists) closed stop decoded
      ∙ lists_many [] lists closed

  -- What is held is what the capture decodes to.
  pub held_for : (many : ℕ) → many ≡ length lists → AreCounted capture many stop counts → (why : ℕ)
      → why ≡ stop_fault stop → why ≢ MEMORY
      → HoldsFor image harts capture program (gots_by (count_in counts) 0 (events_in lists) closed) stop
  held_for many count counted why is other = record {
    made = made;
    got = held (words_of program) harts capture (events_in lists) closed counts stop decoded
        (subst (λ n. AreCounted capture n stop counts) (count ∙ sym (lists_many [] lists closed)) counted);
    memory = λ e. other (is ∙ e);
  }

-- A log is refused.
pub log_refused : (image : Judged) (harts : ℕ) (capture bytes ends : List ℕ) (program : Image) (place : ℕ) (why : Fault)
    → image ≡ Ok program → HasAsMany image harts capture ends → IsRefusedLog program bytes ends place why
    → IsCompared image harts capture bytes ends (Err (place, why))
log_refused image harts capture bytes ends program place fault.Memory made many refused = inr (program, made, refused)
log_refused image harts capture bytes ends program place (fault.NoProgram why) made many refused = absurd refused.refused
log_refused image harts capture bytes ends program place (fault.Log why) made many refused =
    (many, (program, made, refused))
log_refused image harts capture bytes ends program place (fault.Illegal why) made many refused =
    (many, (program, made, refused))
log_refused image harts capture bytes ends program place fault.Range made many refused = absurd refused.refused
log_refused image harts capture bytes ends program place fault.Ends made many refused =
    (many, (program, made, refused))
log_refused image harts capture bytes ends program place fault.Count made many refused = absurd refused.refused
log_refused image harts capture bytes ends program place (fault.Symbols why) made many refused = absurd refused.refused
log_refused image harts capture bytes ends program place (fault.Line n why) made many refused = absurd refused.refused
log_refused image harts capture bytes ends program place (fault.NoEvent row) made many refused = absurd refused.refused
log_refused image harts capture bytes ends program place fault.State made many refused = absurd refused.refused
log_refused image harts capture bytes ends program place (fault.Payload why) made many refused = absurd refused.refused
log_refused image harts capture bytes ends program place (fault.Decode why) made many refused = absurd refused.refused

-- The report that is written is that of the comparison.
pub comparison_found : (image : Judged) (harts : ℕ) (capture bytes ends : List ℕ) (program : Image) (gots : List Got)
    (stop : Option (ℕ × CaptureFault)) → HoldsFor image harts capture program gots stop → (closed : List Bool)
    → closed_in gots ≡ closed → (said : List ExplainedHart) → AreTextsOf program bytes ends (AreCompared gots said)
    → (found : Written) → Writes (words_of program) capture said closed stop found
    → HasComparison image harts capture bytes ends found.text.items found.end
comparison_found image harts capture bytes ends program gots stop held closed flags said are found writes =
    let from = subst (λ h. AreSourced (words_of program) capture stop h writes.sourced) are.holds.each writes.from in
    record {
      program = program;
      gots = gots;
      stop = stop;
      held = held;
      logs = are.logs;
      many = are.holds.many;
      are = are.are;
      sourced = writes.sourced;
      from = from;
      written = writes.written;
      ended = writes.ended
          ∙ ap (compare_end closed stop)
          (sourced_whole (words_of program) capture 0 stop gots are.logs writes.sourced are.holds.many from)
          ∙ ap (λ c. compare_end c stop (is_compared_whole stop gots are.logs)) (sym flags);
    }
