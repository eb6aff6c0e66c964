-- How far a capture was listed.
use Rattle.std.proofs.Common.{◌≡◌, ◌⊎◌, inl, inr, ℕ, ◌+◌, ◌++◌, All, Bool, List, [], ◌∷◌, Option, Some, None, length}
use Rattle.std.proofs.Common.{true, false, refl, sym, ap, ap₂, subst, ◌∙◌, append-nil, arith}
use Rattle.std.specs.Io.KnownBytes.{Appends}
use Rattle.std.proofs.KnownBytes.{Appends-nil, Appends-trans}
use Rattle.std.proofs.lemmas.List.{length-append, length_push}
use Rattle.std.proofs.lemmas.List.Elements.{All-nil, All-push}
use Rattle.std.proofs.lemmas.Option.{same_Some}
use Rattle.output.specs.Begun.{AppendsBeginning}
use Rattle.output.proofs.Beginnings.{begun_behind}
use Rattle.message.specs.Range.{selected, selects}
use Rattle.message.specs.declared.range.HartRange.{HartRange}
use Rattle.rvclass.specs.Fetch.{words_of}
use Rattle.rvclass.specs.Words.{Words}
use Rattle.payload.specs.declared.mode.Mode.{Mode}
use Rattle.decoder.specs.declared.fault.DecodeFault.TheVariants as decoding
use Rattle.message.specs.Capture.{capture, message_bytes}
use Rattle.message.specs.Cut.{HasBadLength, IsCut, IsMessage}
use Rattle.message.specs.declared.fault.MessageFault.{MessageFault}
use Rattle.message.specs.declared.fault.MessageFault.TheVariants as message
use Rattle.message.specs.declared.message.Message.{Message}
use Rattle.receiver.proofs.HoldLemmas.{holds_decoded}
use Rattle.receiver.specs.Agreeing.{Agrees}
use Rattle.receiver.specs.Holds.{HasReceived}
use Rattle.receiver.specs.Received.{Received}
use Rattle.receiver.specs.declared.fault.ReceiveFault.{ReceiveFault}
use Rattle.receiver.specs.declared.fault.ReceiveFault.TheVariants as receiving
use Rattle.captures.proofs.Reaching.{capture_next}
use Rattle.captures.proofs.ReachingHarts.{stops_before}
use Rattle.captures.specs.Decoded.{as_capture_fault}
use Rattle.captures.specs.NoMessage.{BeginsNone}
use Rattle.captures.specs.declared.outcome.CaptureFault.{CaptureFault}
use Rattle.captures.specs.declared.outcome.CaptureFault.TheVariants as fault
use Rattle.listing.proofs.ListedMessages.{effects-next}
use Rattle.listing.proofs.PlacedMessages.{effects_counted, entries-taken, placed-passed, selected-passed}
use Rattle.listing.proofs.PlacedMessages.{selected-taken}
use Rattle.listing.specs.Begun.{BeginsPart}
use Rattle.listing.specs.Effect.{Effect, HaveEffects}
use Rattle.listing.specs.Entries.{effect_entry, incomplete_entry, placed_entries, refused_entry}
use Rattle.listing.specs.Listing.{AppendsListing, IsFaultEntry, IsRefusedEntry}
use Rattle.listing.specs.Listing.{names_in, naming_mode}
use Rattle.listing.specs.Placed.{placed_of}
use Rattle.listing.specs.declared.capture_listing.Start.{Start}
use Rattle.listing.specs.declared.entries.At.{At}
use Rattle.listing.specs.declared.form.Form.{Form}
use Rattle.listing.specs.declared.input.ListInput.{ListInput}
use Rattle.listing.specs.steps.Message.{IsJudgedOf, IsRefused, IsTaken, Judged, Passed, fault_entry}
use Rattle.listing.specs.steps.Part.{AreListedFrom, IsPartOfMessages, OfAll, OfFront}

-- So many messages stand before the bytes that are left. Those of these harts were received, with these effects. What is
-- left stands at this offset.
pub record HasTaken {S : Type 0} (input : ListInput S) (harts : ℕ) (start : Start) (bytes left : List ℕ)
    (number offset : ℕ) (received : Received) : Type 0 where
  pub messages : List Message
  pub counted : number ≡ length messages
  pub ranges : All IsMessage messages
  pub whole : bytes ≡ capture messages ++ left
  pub agree : All (Agrees start.announced) (selected input.only messages)
  pub takes : HasReceived (λ hart. words_of input.program.now) harts (selected input.only messages) received
  pub effects : List Effect
  pub have : HaveEffects (words_of input.program.now) [] (selected input.only messages) effects
  pub stands : offset ≡ start.first + length (capture messages)

-- And their entries were written.
pub record HasListed {S : Type 0} (input : ListInput S) (harts : ℕ) (start : Start) (bytes left : List ℕ)
    (number offset : ℕ) (received : Received) (old new : Option (List ℕ)) : Type 0 where
  pub taken : HasTaken input harts start bytes left number offset received
  pub text : Appends old new (placed_entries input.form (names_in input) (naming_mode start.announced)
      (placed_of input.only 0 start.first taken.messages) taken.effects)

-- The refused message behind the bytes that decode has its entry.
fault_entry_is : (form : Form) (mode : Mode) (at : At) (m : Message) (next left : List ℕ) (why : ReceiveFault)
    → IsMessage m → left ≡ message_bytes m ++ next
    → IsFaultEntry form mode at.number at.offset left (as_capture_fault why) (fault_entry form mode at m why)
fault_entry_is form mode at m next left why is here = by_fault why
  where
    entry : IsRefusedEntry form mode at.number at.offset left (refused_entry form mode at.number at.offset m)
    entry = record { message = m; behind = next; ranges = is; begins = here; text_is = refl }

    by_fault : (why : ReceiveFault)
        → IsFaultEntry form mode at.number at.offset left (as_capture_fault why) (fault_entry form mode at m why)
    by_fault (receiving.Demux d) = entry
    by_fault receiving.Mode = entry
    by_fault (receiving.Decode decoding.Memory) = refl
    by_fault (receiving.Decode d) = entry

module _ {S : Type 0} (input : ListInput S) (harts : ℕ) (start : Start) (bytes : List ℕ) where
  abbrev words : Words
  words = words_of input.program.now

  abbrev only : HartRange
  only = input.only

  abbrev announced : Option Mode
  announced = start.announced

  abbrev first : ℕ
  first = start.first

  abbrev Takes : List ℕ → ℕ → ℕ → Received → Type 0
  Takes left number offset received = HasTaken input harts start bytes left number offset received

  abbrev Lists : List ℕ → ℕ → ℕ → Received → Option (List ℕ) → Option (List ℕ) → Type 0
  Lists left number offset received old new = HasListed input harts start bytes left number offset received old new

  abbrev entries_of : List Message → List Effect → List ℕ
  entries_of messages effects =
      placed_entries input.form (names_in input) (naming_mode announced) (placed_of only 0 first messages) effects

  abbrev AreListed : List ℕ → List Bool → Option (ℕ × CaptureFault) → List ℕ → Type 0
  AreListed bytes closed stop text = AreListedFrom input harts start bytes closed stop text

  -- At first none was.
  pub listed_none : (received : Received) (old : Option (List ℕ)) → HasReceived (λ hart. words) harts [] received
      → Lists bytes 0 first received old old
  listed_none received old has = record {
    taken = record {
      messages = [];
      counted = refl;
      ranges = All-nil IsMessage;
      whole = refl;
      agree = All-nil (Agrees announced);
      takes = has;
      effects = [];
      have = tt;
      stands = omega arith;
    };
    text = Appends-nil old;
  }

  -- What was received is listed, of the bytes that were read.
  front_listed : (left : List ℕ) (number offset : ℕ) (received : Received) (r : Takes left number offset received)
      → AreListed (capture r.messages) received.closed None (entries_of r.messages r.effects)
  front_listed left number offset received r = record {
    messages = r.messages;
    rest = [];
    ranges = r.ranges;
    whole = sym (append-nil (capture r.messages));
    accepted = r.takes.accepts.accepted;
    agree = r.agree;
    lists = received.lists;
    decoded = holds_decoded (λ hart. words) harts (selected only r.messages) received r.takes.holds;
    stops = refl;
    effects = r.effects;
    have = r.have;
    last = [];
    last_entry = refl;
    entries = sym (append-nil (entries_of r.messages r.effects));
  }

  -- All of them were listed, where the bytes end.
  pub listed_all : (left : List ℕ) (number offset : ℕ) (received : Received) (old new : Option (List ℕ))
      → Lists left number offset received old new → left ≡ []
      → AppendsListing (AreListed bytes) received.closed None old new
  listed_all left number offset received old new r ended =
      let so_far = r.taken in
      let all : bytes ≡ capture so_far.messages =
      so_far.whole ∙ ap (λ rest. capture so_far.messages ++ rest) ended ∙ append-nil (capture so_far.messages) in
      record {
        text = entries_of so_far.messages so_far.effects;
        listed = subst (λ bytes. AreListed bytes received.closed None (entries_of so_far.messages so_far.effects))
            (sym all) (front_listed left number offset received so_far);
        appended = r.text;
      }

  -- The fault of messages says why none stands there.
  none_by : (left : List ℕ) (why : MessageFault) → (why ≡ message.Short) ⊎ (why ≡ message.BadLength)
      → (why ≡ message.Short → IsCut left) → (why ≡ message.BadLength → HasBadLength left) → BeginsNone left why
  none_by left why (inl short) cut bad = subst (BeginsNone left) (sym short) (cut short)
  none_by left why (inr long) cut bad = subst (BeginsNone left) (sym long) (bad long)

  module _ (left : List ℕ) (number offset : ℕ) (received : Received) (old mid : Option (List ℕ))
      (r : Lists left number offset received old mid) where
    abbrev so_far : Takes left number offset received
    so_far = r.taken

    -- Where the next message stands.
    abbrev at : At
    at = record { number = number; offset = offset }

    abbrev entries : List ℕ
    entries = entries_of so_far.messages so_far.effects

    module _ (new : Option (List ℕ)) (why : MessageFault)
        (either : (why ≡ message.Short) ⊎ (why ≡ message.BadLength)) (cut : why ≡ message.Short → IsCut left)
        (bad : why ≡ message.BadLength → HasBadLength left) where
      -- No message stands behind them.
      cut_listed : AreListed bytes received.closed (Some (number, fault.Message why))
          (entries ++ incomplete_entry input.form number offset)
      cut_listed = record {
        messages = so_far.messages;
        rest = left;
        ranges = so_far.ranges;
        whole = so_far.whole;
        accepted = so_far.takes.accepts.accepted;
        agree = so_far.agree;
        lists = received.lists;
        decoded = holds_decoded (λ hart. words) harts (selected only so_far.messages) received so_far.takes.holds;
        stops = (so_far.counted, none_by left why either cut bad);
        effects = so_far.effects;
        have = so_far.have;
        last = incomplete_entry input.form number offset;
        last_entry = ap₂ (incomplete_entry input.form) so_far.counted so_far.stands;
        entries = refl;
      }

      -- The offset was written behind the entries.
      pub cut_written : Appends mid new (incomplete_entry input.form number offset)
          → AppendsListing (AreListed bytes) received.closed (Some (number, fault.Message why)) old new
      cut_written written = record {
        text = entries ++ incomplete_entry input.form number offset;
        listed = cut_listed;
        appended = Appends-trans old mid new entries (incomplete_entry input.form number offset) r.text written;
      }

      -- A beginning of it was.
      pub cut_begun : AppendsBeginning (incomplete_entry input.form number offset) mid new
          → BeginsPart (IsPartOfMessages input harts start bytes) old new
      cut_begun begun = record {
        text = entries ++ incomplete_entry input.form number offset;
        part = OfAll received.closed (Some (number, fault.Message why)) cut_listed;
        begun = begun_behind entries (incomplete_entry input.form number offset) old mid new r.text begun;
      }

    module _ (next : List ℕ) (after : Received) (m : Message) (is : IsMessage m) (here : left ≡ message_bytes m ++ next)
      where
        -- The messages of these harts before it.
        abbrev before : List Message
        before = selected only so_far.messages

        -- It stands behind the others.
        counted_more : number + 1 ≡ length (so_far.messages ++ m ∷ [])
        counted_more = ap (λ n. n + 1) so_far.counted ∙ sym (length_push so_far.messages m)

        whole_more : bytes ≡ capture (so_far.messages ++ m ∷ []) ++ next
        whole_more =
            so_far.whole ∙ ap (λ rest. capture so_far.messages ++ rest) here
            ∙ sym (capture_next so_far.messages m next)

        stands_more : offset + length (message_bytes m) ≡ first + length (capture (so_far.messages ++ m ∷ []))
        stands_more =
            let stands = so_far.stands in
            let size = ap length (capture_next so_far.messages m []) in
            let front = length-append (capture (so_far.messages ++ m ∷ [])) [] in
            let behind = length-append (capture so_far.messages) (message_bytes m ++ []) in
            let last = length-append (message_bytes m) [] in
            omega (arith, stands, size, front, behind, last)

        -- One more message of these harts is received.
        unfoldable taken_more : (entry : List ℕ) → selects only m.hart ≡ true
            → IsTaken input harts announced at before m after entry
            → Takes next (number + 1) (offset + length (message_bytes m)) after
        taken_more entry chosen taken =
            let same = sym (selected-taken only so_far.messages m chosen) in
            record {
              messages = so_far.messages ++ m ∷ [];
              counted = counted_more;
              ranges = All-push IsMessage so_far.messages m so_far.ranges is;
              whole = whole_more;
              agree = subst (All (Agrees announced)) same
                  (All-push (Agrees announced) before m so_far.agree taken.agrees);
              takes = subst (λ messages. HasReceived (λ hart. words) harts messages after) same taken.receives;
              effects = so_far.effects ++ taken.effect ∷ [];
              have = subst
                  (λ messages. HaveEffects words [] messages (so_far.effects ++ taken.effect ∷ [])) same
                  (effects-next words [] before so_far.effects m taken.effect so_far.have taken.has);
              stands = stands_more;
            }

        -- One more message of another hart is passed over.
        unfoldable passed_more : selects only m.hart ≡ false → HasReceived (λ hart. words) harts before after
            → Takes next (number + 1) (offset + length (message_bytes m)) after
        passed_more passed has =
            let same = sym (selected-passed only so_far.messages m passed) in
            record {
              messages = so_far.messages ++ m ∷ [];
              counted = counted_more;
              ranges = All-push IsMessage so_far.messages m so_far.ranges is;
              whole = whole_more;
              agree = subst (All (Agrees announced)) same so_far.agree;
              takes = subst (λ messages. HasReceived (λ hart. words) harts messages after) same has;
              effects = so_far.effects;
              have = subst (λ messages. HaveEffects words [] messages so_far.effects) same so_far.have;
              stands = stands_more;
            }

        -- Its entry stands behind the others.
        entry_behind : (entry : List ℕ) → selects only m.hart ≡ true
            → (taken : IsTaken input harts announced at before m after entry)
            → entries_of (so_far.messages ++ m ∷ []) (so_far.effects ++ taken.effect ∷ []) ≡ entries ++ entry
        entry_behind entry chosen taken =
            let mode = naming_mode announced in
            let here : number ≡ 0 + length so_far.messages = so_far.counted ∙ omega arith in
            entries-taken input.form (names_in input) mode only first so_far.messages so_far.effects m taken.effect
            chosen
            (effects_counted words [] before so_far.effects so_far.have)
            ∙ ap (λ l. entries ++ l) (sym (taken.text
            ∙ ap₂ (λ number offset. effect_entry input.form (names_in input) mode number offset m taken.effect) here
            so_far.stands))

        -- A message that is passed over has none.
        entries_stay : selects only m.hart ≡ false → entries_of (so_far.messages ++ m ∷ []) so_far.effects ≡ entries
        entries_stay passed =
            ap (λ l. placed_entries input.form (names_in input) (naming_mode announced) l so_far.effects)
            (placed-passed only 0 first so_far.messages m passed)

        -- And then it is written.
        listed_more : (entry : List ℕ) (new : Option (List ℕ)) → selects only m.hart ≡ true
            → IsTaken input harts announced at before m after entry
            → Appends mid new entry
            → Lists next (number + 1) (offset + length (message_bytes m)) after old new
        unfolding taken_more
        listed_more entry new chosen taken written = record {
          taken = taken_more entry chosen taken;
          text = subst (Appends old new) (sym (entry_behind entry chosen taken))
              (Appends-trans old mid new entries entry r.text written);
        }

        passed_listed : (new : Option (List ℕ)) → selects only m.hart ≡ false
            → HasReceived (λ hart. words) harts before after → Appends mid new []
            → Lists next (number + 1) (offset + length (message_bytes m)) after old new
        unfolding passed_more
        passed_listed new passed has written = record {
          taken = passed_more passed has;
          text = subst (Appends old new) (append-nil entries ∙ sym (entries_stay passed))
              (Appends-trans old mid new entries [] r.text written);
        }

        -- The message behind them is refused, and has its entry.
        refused_listed : (why : ReceiveFault) (entry : List ℕ) → selects only m.hart ≡ true
            → IsRefused input harts announced at before m after why entry
            → AreListed bytes after.closed (Some (number, as_capture_fault why)) (entries ++ entry)
        refused_listed why entry chosen refused = record {
          messages = so_far.messages;
          rest = left;
          ranges = so_far.ranges;
          whole = so_far.whole;
          accepted = so_far.takes.accepts.accepted;
          agree = so_far.agree;
          lists = after.lists;
          decoded = holds_decoded (λ hart. words) harts before after refused.holds;
          stops = stops_before only words harts announced so_far.messages left next number m why (as_capture_fault why)
              so_far.counted is here chosen refused.refused refl;
          effects = so_far.effects;
          have = so_far.have;
          last = entry;
          last_entry = subst (λ l. IsFaultEntry input.form (naming_mode announced) (length so_far.messages)
              (first + length (capture so_far.messages)) left (as_capture_fault why) l) (sym refused.text)
              (subst (λ n. IsFaultEntry input.form (naming_mode announced) n
              (first + length (capture so_far.messages)) left (as_capture_fault why)
              (fault_entry input.form (naming_mode announced) at m why)) so_far.counted
              (subst (λ n. IsFaultEntry input.form (naming_mode announced) number n left (as_capture_fault why)
              (fault_entry input.form (naming_mode announced) at m why)) so_far.stands
              (fault_entry_is input.form (naming_mode announced) at m next left why is here)));
          entries = refl;
        }

        -- Its entry was written behind the others.
        refused_written : (why : ReceiveFault) (stop : CaptureFault) (entry : List ℕ) (new : Option (List ℕ))
            → selects only m.hart ≡ true → IsRefused input harts announced at before m after why entry
            → stop ≡ as_capture_fault why
            → Appends mid new entry
            → AppendsListing (AreListed bytes) after.closed (Some (number, stop)) old new
        refused_written why stop entry new chosen refused is_stop written =
            subst (λ stop. AppendsListing (AreListed bytes) after.closed (Some (number, stop)) old new) (sym is_stop)
            (record {
              text = entries ++ entry;
              listed = refused_listed why entry chosen refused;
              appended = Appends-trans old mid new entries entry r.text written;
            })

        -- A beginning of the entry of the message behind them was written.
        pub next_begun : (why : Option ReceiveFault) (entry : List ℕ) (new : Option (List ℕ))
            → IsJudgedOf input harts announced at before m after why entry
            → AppendsBeginning entry mid new
            → BeginsPart (IsPartOfMessages input harts start bytes) old new
        unfolding taken_more passed_more
        next_begun None entry new (Judged chosen taken) begun =
            let more = taken_more entry chosen taken in
            record {
              text = entries ++ entry;
              part = OfFront (capture more.messages) next after.closed more.whole
                  (subst (AreListed (capture more.messages) after.closed None) (entry_behind entry chosen taken)
                  (front_listed next (number + 1) (offset + length (message_bytes m)) after more));
              begun = begun_behind entries entry old mid new r.text begun;
            }
        next_begun None entry new (Passed passed has none nothing) begun =
            let more = passed_more passed has in
            record {
              text = entries ++ entry;
              part = OfFront (capture more.messages) next after.closed more.whole
                  (subst (AreListed (capture more.messages) after.closed None)
                  (entries_stay passed ∙ sym (append-nil entries) ∙ ap (λ l. entries ++ l) (sym nothing))
                  (front_listed next (number + 1) (offset + length (message_bytes m)) after more));
              begun = begun_behind entries entry old mid new r.text begun;
            }
        next_begun (Some why) entry new (Judged chosen refused) begun = record {
          text = entries ++ entry;
          part = OfAll after.closed (Some (number, as_capture_fault why)) (refused_listed why entry chosen refused);
          begun = begun_behind entries entry old mid new r.text begun;
        }
        next_begun (Some why) entry new (Passed passed has none nothing) begun = cc

        -- The message was received or passed over, if no fault was found,
        pub judged_more : (found : Option ReceiveFault) (entry : List ℕ) (new : Option (List ℕ)) → found ≡ None
            → IsJudgedOf input harts announced at before m after found entry
            → Appends mid new entry
            → Lists next (number + 1) (offset + length (message_bytes m)) after old new
        judged_more None entry new none (Judged chosen taken) written = listed_more entry new chosen taken written
        judged_more None entry new none (Passed passed has never nothing) written =
            passed_listed new passed has (subst (Appends mid new) nothing written)
        judged_more (Some why) entry new none judged written = cc

        -- and else it was refused.
        pub judged_refused : (found : Option ReceiveFault) (why : ReceiveFault) (stop : CaptureFault) (entry : List ℕ)
            (new : Option (List ℕ)) → found ≡ Some why
            → IsJudgedOf input harts announced at before m after found entry
            → stop ≡ as_capture_fault why
            → Appends mid new entry
            → AppendsListing (AreListed bytes) after.closed (Some (number, stop)) old new
        judged_refused None why stop entry new some judged is_stop written = cc
        judged_refused (Some other) why stop entry new some (Judged chosen refused) is_stop written =
            refused_written why stop entry new chosen
            (subst (λ why. IsRefused input harts announced at before m after why entry) (same_Some other why some)
            refused) is_stop written
        judged_refused (Some other) why stop entry new some (Passed passed has none nothing) is_stop written = cc
