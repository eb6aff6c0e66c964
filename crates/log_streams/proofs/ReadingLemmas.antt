-- What is read of a log, piece by piece.
use Rattle.std.proofs.Common.{◌≡◌, ◌++◌, ◌∙◌, ℕ, List, [], Option, Result, Ok, Err, ap, append-nil, append_assoc, inl}
use Rattle.std.proofs.Common.{inr}
use Rattle.std.proofs.Common.{refl, subst, sym}
use Rattle.retire.specs.HasRead.{GoesOn, HasRead}
use Rattle.retire.specs.declared.event.Event.{Event}
use Rattle.retire.specs.declared.log_reader.LogReader.{LogReader}
use Rattle.log_streams.specs.declared.illegal_row.IllegalRow.{IllegalRow}
use Rattle.rvclass.specs.Image.{Image}
use Rattle.log_streams.specs.declared.stop.Stop.{Stop}
use Rattle.log_streams.specs.steps.Reading.{HasReadOn, IsFinished, IsMadeOfSource, IsWholeLog}

module _ {S : Type 0} (given : S → List ℕ) (left : S → Option (List ℕ)) (most : ℕ) (seen : List Event) where
  -- No event more.
  pub none-more : (reader : LogReader S) → HasRead given left most seen reader → HasReadOn given left most seen reader
  none-more reader read = ([], subst (λ events. HasRead given left most events reader) (sym (append-nil seen)) read)

module _ {S : Type 0} (given : S → List ℕ) (left : S → Option (List ℕ)) (most : ℕ) where
  -- The events of a piece were read after those before, where the list was empty before.
  pub piece-read : (seen before after : List Event) (reader : LogReader S) → before ≡ []
      → GoesOn given left most seen before after reader → HasRead given left most (seen ++ after) reader
  piece-read seen before after reader none on =
      subst (λ events. HasRead given left most (seen ++ events) reader)
      (sym (on.appended ∙ ap (λ events. events ++ on.piece) none)) on.read

  -- The events of a piece were read after those that were read before.
  pub read-further : (seen more before after : List Event) (reader : LogReader S) → before ≡ []
      → GoesOn given left most (seen ++ more) before after reader → HasReadOn given left most seen reader
  read-further seen more before after reader none on = (
    more ++ after,
    subst (λ events. HasRead given left most events reader) (append_assoc seen more after)
        (piece-read (seen ++ more) before after reader none on),
  )

  -- What is made of all events of a log is made of the log.
  pub finished-log : {X : Type 0} (Makes : ℕ → List Event → X → Type 0) (OfIllegal : List Event → IllegalRow → X → Type 0)
      (program : Image) (hart : ℕ) (events : List Event) (reader : LogReader S) (made : Result X Stop)
      → IsWholeLog given left most reader events → IsFinished Makes program most hart events made
      → IsMadeOfSource Makes OfIllegal program most hart given left reader made
  finished-log Makes OfIllegal program hart events reader (Ok made) whole is = (events, whole, inl is)
  finished-log Makes OfIllegal program hart events reader (Err why) whole is =
      subst (λ why. IsMadeOfSource Makes OfIllegal program most hart given left reader (Err why)) (sym is) (inl (inr refl))
