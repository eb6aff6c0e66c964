-- The line of a message, part by part.
use Rattle.std.proofs.Common.{◌≡◌, ◌++◌, ℕ, Bool, List, Option, Result, codes, ap, subst, ◌∙◌, append_assoc}
use Rattle.std.specs.Io.KnownBytes.{Appends}
use Rattle.std.proofs.KnownBytes.{Appends-trans}
use Rattle.output.specs.Begun.{AppendsBeginning}
use Rattle.output.proofs.Beginnings.{begun_behind, begun_in_front}
use Rattle.payload.specs.Reading.{reading}
use Rattle.payload.specs.declared.fault.PackFault.{PackFault}
use Rattle.payload.specs.declared.mode.Mode.{Mode}
use Rattle.payload.specs.declared.packet.Packet.{Packet}
use Rattle.message.specs.declared.message.Message.{Message}
use Rattle.listing.specs.Lines.{text_with}
use Rattle.salvage_reports.specs.declared.hart_rows.TreatedInRows.{TreatedInRows}
use Rattle.salvage_reports.specs.Lines.{treated_line}
use Rattle.salvage_reports.specs.Words.{far_text, late_text, word_text}

module _ (shows : Bool) (symbols : Option (List ℕ)) (mode : Mode) (offset : ℕ) (message : Message) (one : TreatedInRows)
    (read : Result Packet PackFault) (same : read ≡ reading message.payload) where
  abbrev head : List ℕ
  head = text_with mode offset message read ++ codes " => "

  abbrev word : List ℕ
  word = word_text shows symbols read one.rows one.treated.treatment

  abbrev tail : List ℕ
  tail = far_text one.treated.far ++ (late_text one.treated.late ++ codes "\n")

  abbrev line : List ℕ
  line = treated_line shows symbols mode offset message one

  parted : head ++ (word ++ tail) ≡ line
  parted =
      append_assoc (text_with mode offset message read) (codes " => ") (word ++ tail)
      ∙ ap (λ read. text_with mode offset message read ++ (codes " => " ++
      (word_text shows symbols read one.rows one.treated.treatment ++ tail))) same

  -- A beginning of what is before the word was written.
  pub head_begun : (old new : Option (List ℕ)) → AppendsBeginning head old new → AppendsBeginning line old new
  head_begun old new begun =
      subst (λ l. AppendsBeginning l old new) parted (begun_in_front head (word ++ tail) old new begun)

  module _ (old first : Option (List ℕ)) (before : Appends old first head) where
    -- It was written, and a beginning of the word.
    pub word_begun : (new : Option (List ℕ)) → AppendsBeginning word first new → AppendsBeginning line old new
    word_begun new begun =
        subst (λ l. AppendsBeginning l old new) parted
        (begun_behind head (word ++ tail) old first new before (begun_in_front word tail first new begun))

    module _ (second : Option (List ℕ)) (between : Appends first second word) (new : Option (List ℕ)) where
      -- Both were written, and a beginning of what is behind.
      pub tail_begun : AppendsBeginning tail second new → AppendsBeginning line old new
      tail_begun begun =
          subst (λ l. AppendsBeginning l old new) parted
          (begun_behind head (word ++ tail) old first new before
          (begun_behind word tail first second new between begun))

      -- All was written.
      pub line_written : Appends second new tail → Appends old new line
      line_written behind =
          subst (Appends old new) parted
          (Appends-trans old first new head (word ++ tail) before
          (Appends-trans first second new word tail between behind))
