-- What a message adds to its hart's list: by lemmas on receivers, which no tactic finds.
use Rattle.std.proofs.Common.{◌≡◌, ◌≤◌, ◌-◌, ◌∙◌, ℕ, List, [], Some, None, true, drop, length, refl, sym, take, ap}
use Rattle.std.proofs.Common.{arith}
use Rattle.std.proofs.KnownBytes.{Appends-nil}
use Rattle.std.proofs.lemmas.List.{take_rest}
use Rattle.std.proofs.lemmas.Result.{err_from_is_err_and}
use Rattle.rvclass.proofs.WordsLemmas.{words_of-IsProgram}
use Rattle.rvclass.specs.Fetch.{words_of}
use Rattle.rvclass.specs.Words.{Words}
use Rattle.payload.specs.Reading.{reading}
use Rattle.message.specs.Range.{selects}
use Rattle.message.specs.declared.message.Message.{Message}
use Rattle.receiver.specs.Holds.{HasReceived}
use Rattle.listing.proofs.TakenMessages.{is_taken, no_shorter}
use Rattle.listing.specs.Entries.{effect_entry}
use Rattle.listing.specs.Listing.{names_in}
use Rattle.listing.specs.steps.Message.{IsRefused, IsTaken, Judged, Passed, effect_of, fault_entry}
use Rattle.listing.proofs.message_listing.list_message.Goals.{After-events_of-events, In-Err}
use Rattle.listing.proofs.message_listing.list_message.Goals as goal

module _ (g : _) (c : After-events_of-events g) where
  abbrev words : Words
  words = words_of c.args.input.now.program.now

  abbrev count : ℕ
  count = length c.events_of-before.result.now

  -- The message is of a hart that is listed.
  chosen : selects c.args.input.now.only c.args.message.now.hart ≡ true
  chosen = sym c.selects.ensures ∙ c.if-not-selects.false

  -- No event is gone.
  longer : count ≤ length c.events_of-events.result.now
  longer =
      let messages = c.requires.messages in
      let longer = no_shorter words (words_of-IsProgram c.args.input.now.program.now c.base.ensures.kept)
      c.requires.harts
      messages c.args.message.now c.args.receiver.now c.receive.new.self c.requires.has
      (c.in-Ok.ensures.received (λ hart. words) c.requires.harts messages refl c.requires.has) in
      let was = ap length c.events_of-before.ensures in
      let now = ap length c.events_of-events.ensures in
      omega (arith, longer, was, now)

  -- The entry shows the events behind those.
  taken : (harts : ℕ) (messages : List Message) → HasReceived (λ hart. words) harts messages c.args.receiver.now
      → IsTaken c.args.input.now harts c.args.announced c.args.at messages c.args.message.now c.receive.new.self
      (effect_entry c.args.input.now.form (names_in c.args.input.now) c.naming_mode-mode.result c.args.at.number
      c.args.at.offset c.args.message.now
      (effect_of (take (length c.events_of-events.result.now - count) (drop count c.events_of-events.result.now))
      (length c.events_of-events.result.now) (reading c.args.message.now.payload)))
  taken harts messages has =
      is_taken c.args.input.now (words_of-IsProgram c.args.input.now.program.now c.base.ensures.kept) harts messages
      c.args.message.now c.args.receiver.now c.receive.new.self has
      (c.in-Ok.ensures.received (λ hart. words) harts messages refl has) c.args.announced c.args.at
      c.naming_mode-mode.result count c.events_of-events.result.now _ c.naming_mode-mode.ensures
      (ap length c.events_of-before.ensures) c.events_of-events.ensures (take_rest c.events_of-events.result.now count)
      c.in-Ok.ensures.agrees

module _ (g : _) (c : In-Err g) where
  chosen_too : selects c.args.input.now.only c.args.message.now.hart ≡ true
  chosen_too = sym c.selects.ensures ∙ c.if-not-selects.false

  -- The message is refused, and its entry says so.
  refused : (harts : ℕ) (messages : List Message)
      → HasReceived (λ hart. words_of c.args.input.now.program.now) harts messages c.args.receiver.now
      → IsRefused c.args.input.now harts c.args.announced c.args.at messages c.args.message.now c.receive.new.self
      c.in-Err.why
      (fault_entry c.args.input.now.form c.naming_mode-mode.result c.args.at c.args.message.now c.in-Err.why)
  refused harts messages has = record {
    holds = c.in-Err.ensures.held (λ hart. words_of c.args.input.now.program.now) harts messages has;
    refused = c.in-Err.ensures.not_received (λ hart. words_of c.args.input.now.program.now) harts messages refl has;
    text = ap (λ mode. fault_entry c.args.input.now.form mode c.args.at c.args.message.now c.in-Err.why)
        c.naming_mode-mode.ensures;
  }

pub slice_bounds-added-count : goal.slice_bounds-added-count
slice_bounds-added-count g c = longer g (goal.at.slice_bounds-added-count g c).After-events_of-events

pub slice_bounds-added-start : goal.slice_bounds-added-start
slice_bounds-added-start g c = longer g (goal.at.slice_bounds-added-start g c).After-events_of-events

pub returns-in_ok-write_effect-in-Ok-clause-listed : goal.returns-in_ok-write_effect-in-Ok-clause-listed
returns-in_ok-write_effect-in-Ok-clause-listed g c = λ harts messages has.
    let after = (goal.at.returns-in_ok-write_effect-in-Ok-clause-listed g c).After-events_of-events in
    (_, Judged (chosen g after) (taken g after harts messages has), c.in_ok-write_effect-in-Ok.ensures.text)

pub returns-in_err-write_effect-in-Ok-clause-begun : goal.returns-in_err-write_effect-in-Ok-clause-begun
returns-in_err-write_effect-in-Ok-clause-begun g c = λ harts messages has.
    let after = (goal.at.returns-in_err-write_effect-in-Ok-clause-begun g c).After-events_of-events in
    let made = err_from_is_err_and c.from_residual.result c.from_residual.ensures.1 in
    rw made.1 (None, _, Judged (chosen g after) (taken g after harts messages has), c.write_effect.ensures.begun)

pub returns-in_ok-write_fault-in-Err-clause-listed : goal.returns-in_ok-write_fault-in-Err-clause-listed
returns-in_ok-write_fault-in-Err-clause-listed g c = λ harts messages has.
    let after = (goal.at.returns-in_ok-write_fault-in-Err-clause-listed g c).In-Err in
    (_, Judged (chosen_too g after) (refused g after harts messages has), c.in_ok-write_fault-in-Err.ensures.text)

pub returns-in_err-write_fault-in-Err-clause-begun : goal.returns-in_err-write_fault-in-Err-clause-begun
returns-in_err-write_fault-in-Err-clause-begun g c = λ harts messages has.
    let after = (goal.at.returns-in_err-write_fault-in-Err-clause-begun g c).In-Err in
    let made = err_from_is_err_and c.from_residual-in_err-write_fault-in-Err.result
    c.from_residual-in_err-write_fault-in-Err.ensures.1 in
    rw made.1 (
      Some c.in-Err.why,
      _,
      Judged (chosen_too g after) (refused g after harts messages has),
      c.write_fault.ensures.begun,
    )

pub returns-then-not-selects-clause-listed : goal.returns-then-not-selects-clause-listed
returns-then-not-selects-clause-listed g c = λ harts messages has. (
  [],
  Passed (sym c.selects.ensures ∙ c.if-not-selects.true) has refl refl,
  Appends-nil (g.W.Write.contents c.args.sink.now),
)
