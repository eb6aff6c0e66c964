-- Where the rows of harts come from, once the messages were followed.
use Rattle.std.proofs.Common.{◌≡◌, ◌∙◌, ◌+◌, ℕ, suc, zero, Bool, true, false, List, [], ◌∷◌, Option, None, Some, ap, arith, map, refl}
use Rattle.std.proofs.Common.{slice_get, subst, sym}
use Rattle.std.proofs.lemmas.Option.{same_Some}
use Rattle.std.specs.List.{AllZip}
use Rattle.std.specs.Prelude.{◌==◌, if◌then◌else◌, IfOk, Result, Ok, Err, option_map}
use Rattle.std.specs.declared.vec.Vec.{Vec}
use Rattle.captures.specs.Whole.{BeginsWith, IsFront}
use Rattle.captures.specs.declared.outcome.CaptureFault.{CaptureFault}
use Rattle.listing.specs.Placed.{PlacedMessage, placed}
use Rattle.message.specs.declared.fault.MessageFault.{MessageFault}
use Rattle.message.specs.declared.header.Header.{Header}
use Rattle.message.specs.declared.message.Message.{Message}
use Rattle.rvclass.specs.Fetch.{words_of}
use Rattle.rvclass.specs.Words.{Words}
use Rattle.comparing.specs.Counts.{before_stop}
use Rattle.comparing.specs.Explained.{is_whole_hart}
use Rattle.comparing.specs.Sourced.{AreNumbered, AreSourced, IsSourced, StopsEarly}
use Rattle.comparing.specs.Sources.{EndsRefused, IsAmong, Settled, Step, Unsettled, first_offset, last_step, own_placed, own_stop, source_behind}
use Rattle.comparing.specs.Sources.{source_message, stop_of}
use Rattle.comparing.specs.declared.explained.ExplainedHart.{ExplainedHart}
use Rattle.comparing.specs.declared.source.SourceMessage.{SourceMessage}
use Rattle.comparing.specs.declared.sourcing.Followed.{Followed}
use Rattle.comparing.specs.declared.sourcing.SourcedHart.{SourcedHart}
use Rattle.comparing.specs.declared.sourcing.StopMessage.{StopMessage}
use Rattle.comparing.specs.declared.trail.Trail.{Trail}
use Rattle.comparing.specs.steps.Following.{Found, GoesOn, IsFollowed, behind_last, found_or, last_of, source_by}
use Rattle.comparing.specs.steps.Sourcing.{AreFollowed, AreNumberedFrom, IsRefusedUpTo, harts_of, own_stop_by, sourced_by, stop_message}
use Rattle.comparing.specs.steps.Sourcing.{stopped_in}

-- The message at which decoding stops, and why, as it is held.
abbrev held_stop : PlacedMessage × CaptureFault → SourceMessage × CaptureFault
held_stop stop = (source_message stop.0, stop.1)

own_stop-held : (hart : ℕ) (stop : Option (ℕ × CaptureFault)) (all : List PlacedMessage)
    → own_stop_by (stopped_in stop all) hart ≡ option_map held_stop (stop_of hart stop all)
own_stop-held hart None all = refl
own_stop-held hart (Some stop) all = by (slice_get all stop.0)
  where
    by : (o : Option PlacedMessage) → own_stop_by (option_map (stop_message stop.1) o) hart
        ≡ option_map held_stop (own_stop hart stop.1 o)
    by None = refl
    by (Some one) = go (one.message.hart == hart)
      where
        go : (b : Bool) → (if b then Some (source_message one, stop.1) else None)
            ≡ option_map held_stop (if b then Some (one, stop.1) else None)
        go true = refl
        go false = refl

behind-held : (last : Option Step) (stop : Option (PlacedMessage × CaptureFault))
    → behind_last (option_map last_of last) (option_map held_stop stop) ≡ source_behind last stop
behind-held None None = refl
behind-held None (Some stop) = refl
behind-held (Some step) None = refl
behind-held (Some step) (Some stop) = refl

module _ (words : Words) (bytes : List ℕ) (stop : Option (ℕ × CaptureFault)) (header : Option Header)
    (messages : List Message) (end : Option MessageFault) (front : IsFront bytes header messages end) where
  abbrev all : List PlacedMessage
  all = placed 0 (first_offset header) messages

  abbrev stopped : Option StopMessage
  stopped = stopped_in stop all

  -- Where a row comes from, by the trail that followed the messages.
  among_by : (trail : Trail)
      → IsFollowed words (own_placed trail.hart.line.hart (first_offset header) (before_stop stop messages)) trail
      → IsAmong words (first_offset header) messages stop trail.hart.line.hart trail.hart.row
      (source_by trail (own_stop_by stopped trail.hart.line.hart))
  among_by trail (Found from is settles) =
      subst (IsAmong words (first_offset header) messages stop trail.hart.line.hart trail.hart.row)
      (ap (λ found. found_or found (behind_last trail.last (own_stop_by stopped trail.hart.line.hart))) (sym is))
      (Settled settles)
  among_by trail (GoesOn steps events are none comes stands rows last) =
      Unsettled steps are comes
      (ap (λ found. found_or found (behind_last trail.last (own_stop_by stopped trail.hart.line.hart))) none
      ∙ ap (λ last. behind_last last (own_stop_by stopped trail.hart.line.hart)) last
      ∙ ap (behind_last (option_map last_of (last_step None steps))) (own_stop-held trail.hart.line.hart stop all)
      ∙ behind-held (last_step None steps) (stop_of trail.hart.line.hart stop all))

  each_sourced : (trails : List Trail)
      → ((place : ℕ) (trail : Trail) → slice_get trails place ≡ Some trail → is_whole_hart trail.hart ≡ false
      → IsFollowed words (own_placed trail.hart.line.hart (first_offset header) (before_stop stop messages)) trail)
      → AllZip (IsSourced words bytes stop) (harts_of trails) (map (sourced_by stopped) trails)
  each_sourced [] followed = tt
  each_sourced (trail ∷ trails) followed = (
    record {
      hart_is = refl;
      from = λ whole. record {
        header = header;
        messages = messages;
        end = end;
        front = front;
        among = among_by trail (followed 0 trail refl whole);
      };
    },
    each_sourced trails (λ place. followed (suc place)),
  )

  -- The harts with the messages that their rows come from.
  pub harts_sourced : (harts : List ExplainedHart) (trails : List Trail) (sourced : List SourcedHart)
      → harts_of trails ≡ harts → AreFollowed words (first_offset header) (before_stop stop messages) trails
      → sourced ≡ map (sourced_by stopped) trails → AreSourced words bytes stop harts sourced
  harts_sourced harts trails sourced are followed is =
      subst (λ harts. AreSourced words bytes stop harts sourced) are
      (subst (AllZip (IsSourced words bytes stop) (harts_of trails)) (sym is) (each_sourced trails followed))

  -- The same of a result.
  pub result_sourced : {A E : Type 0} (harts : List ExplainedHart) (trails : List Trail) (held : Option StopMessage)
      (result : Result (Vec SourcedHart A) E) → harts_of trails ≡ harts
      → AreFollowed words (first_offset header) (before_stop stop messages) trails → held ≡ stopped
      → IfOk result (λ sourced. sourced.items ≡ map (sourced_by held) trails)
      → IfOk result (λ sourced. AreSourced words bytes stop harts sourced.items)
  result_sourced harts trails held (Err why) are followed same is = tt
  result_sourced harts trails held (Ok sourced) are followed same is =
      harts_sourced harts trails sourced.items are followed (is ∙ ap (λ held. map (sourced_by held) trails) same)

-- Harts that have numbers in order are those of trails that do.
pub numbered_from : (first : ℕ) (trails : List Trail) → AreNumbered first (harts_of trails)
    → AreNumberedFrom first trails
numbered_from first [] numbered = λ place trail there. cc
numbered_from first (trail ∷ trails) numbered = at (numbered_from (first + 1) trails numbered.1)
  where
    at : AreNumberedFrom (first + 1) trails → AreNumberedFrom first (trail ∷ trails)
    at rest zero other there =
        ap (λ (trail : Trail). trail.hart.line.hart) (sym (same_Some trail other there)) ∙ numbered.0 ∙ omega arith
    at rest (suc place) other there = rest place other there ∙ omega arith

-- Where decoding does not go on behind the header, or without one, it stops early.
pub stops_early : (what : Followed) (bytes left : List ℕ) (header : Option Header) (trails : List Trail)
    (harts : List ExplainedHart) → BeginsWith header bytes left → harts_of trails ≡ harts
    → what.offset ≡ first_offset header → AreFollowed (words_of what.program.now) what.offset [] trails
    → AreNumberedFrom what.first trails → IsRefusedUpTo what left trails
    → StopsEarly (words_of what.program.now) bytes what.stop harts
stops_early what bytes left header trails harts begins are offset none numbered up = record {
  header = header;
  messages = up.messages;
  rest = up.rest;
  ranges = up.ranges;
  begins = subst (BeginsWith header bytes) up.begins begins;
  early = up.early;
  place = up.place;
  hart = up.hart;
  here = ap (λ harts. slice_get harts up.place) (sym are) ∙ up.here;
  not_whole = up.not_whole;
  refused = subst (λ offset. EndsRefused (words_of what.program.now) (own_placed up.hart.line.hart offset up.messages)
      up.hart.row) offset (up.refused none numbered);
}
