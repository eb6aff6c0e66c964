-- Payloads are fed one after the other.
use Rattle.std.proofs.Common.{◌≡◌, ℕ, ◌+◌, ◌-◌, ◌<◌, ◌≤◌, List, ◌∷◌, [], ◌++◌, Option, Ok, Err, drop, length}
use Rattle.std.proofs.Common.{map, slice_index_or, take, refl, sym, ap, subst, ◌∙◌, arith, append_assoc}
use Rattle.std.proofs.lemmas.List.{append-nil, length-append, length-drop, take-append-drop, take_all, take_more}
use Rattle.std.proofs.lemmas.Option.{slice_get-get_or}
use Rattle.decoder.specs.declared.state.DecoderState.{DecoderState}
use Rattle.retire.specs.declared.event.Event.{Event}
use Rattle.ffi.proofs.WrittenInTurn.{behind_front, front_more}
use Rattle.ffi.specs.DecoderKept.{IsOfState}
use Rattle.ffi.specs.Encoded.{last_end, text_at, text_between}
use Rattle.ffi.specs.Events.{numbers_of_event}
use Rattle.ffi.specs.FedAll.{AreFed, EndsFeeds, IsNotTaken, Stops, TakesAll, TakesIfAny}
use Rattle.ffi.specs.Images.{Judged}
use Rattle.ffi.specs.declared.decoder_state.DecoderNumbers.{DecoderNumbers}
use Rattle.ffi.specs.declared.events.EventNumbers.{EventNumbers}
use Rattle.ffi.specs.steps.FeedingAll.{IsNextFed}

module _ (image : Judged) (bytes : List ℕ) where
  -- One payload more is taken.
  takes_more : (from : ℕ) (front : List ℕ) (end : ℕ) (before middle after : DecoderNumbers) (events more : List Event)
      → TakesAll image bytes from front before middle events
      → TakesIfAny image (text_between bytes (last_end from front) end) middle after more
      → TakesAll image bytes from (front ++ end ∷ []) before after (events ++ more)
  takes_more from [] end before middle after events more taken one = (
    after,
    more,
    [],
    subst (λ n. TakesIfAny image (text_between bytes from end) n after more) taken.0 one,
    (refl, refl),
    ap (λ es. es ++ more) taken.1 ∙ sym (append-nil more),
  )
  takes_more from (first ∷ front) end before middle after events more taken one = (
    taken.0,
    taken.1,
    taken.2 ++ more,
    taken.3,
    takes_more first front end taken.0 middle after taken.2 more taken.4 one,
    ap (λ es. es ++ more) taken.5 ∙ append_assoc taken.1 taken.2 more,
  )

  -- The first payloads were taken, and the decoder has this state and its numbers.
  pub record AreFedTo (ends : List ℕ) (before numbers : DecoderNumbers) (kept : DecoderState) (place count : ℕ)
      (old now : List EventNumbers) : Type 0 where
    pub fed : AreFed image bytes ends before numbers place count old now
    pub are : IsOfState numbers kept

  module _ (ends : List ℕ) (before : DecoderNumbers) (old : List EventNumbers) where
    -- None was taken.
    pub fed_none : (kept : DecoderState) → IsOfState before kept → AreFedTo ends before before kept 0 0 old old
    fed_none kept is = record {
      fed = record {
        events = [];
        taken_all = (refl, refl);
        counted = refl;
        fit = omega arith;
        written = refl;
      };
      are = is;
    }

    module _ (numbers after : DecoderNumbers) (kept next : DecoderState) (place count : ℕ)
        (now part tail whole : List EventNumbers) (payload : Option (List ℕ)) (lent : part ≡ drop count now)
        (back : whole ≡ take count now ++ tail) (within : place < length ends)
        (is : payload ≡ text_at bytes ends place) (so_far : AreFedTo ends before numbers kept place count old now) where
      abbrev end : ℕ
      end = slice_index_or ends place 0

      fed : AreFed image bytes ends before numbers place count old now
      fed = so_far.fed

      rest : length part ≡ length old - count
      rest =
          ap length lent
          ∙ ap length (behind_front numbers_of_event old fed.events count now (sym fed.counted) fed.written)
          ∙ length-drop count old

      -- One payload more was taken.
      pub fed_more : (more : ℕ) → IsNextFed image payload (Ok more) numbers after kept next part tail
          → AreFedTo ends before after next (place + 1) (count + more) old whole
      fed_more more step =
          let events = step.0 in
          let counted = step.3 in
          let fit = step.4 in
          let fits = fed.fit in
          let left = rest in
          let one : take (place + 1) ends ≡ take place ends ++ end ∷ [] = take_more ends place 0 within in
          record {
            fed = record {
              events = fed.events ++ events;
              taken_all = subst (λ front. TakesAll image bytes 0 front before after (fed.events ++ events))
                  (sym one) (takes_more 0 (take place ends) end before numbers after fed.events events fed.taken_all
                  (subst (λ p. TakesIfAny image p numbers after events) is step.1));
              counted = ap (λ n. n + more) fed.counted
                  ∙ ap (λ n. length fed.events + n) counted
                  ∙ sym (length-append fed.events events);
              fit = omega (arith, fit, left, fits);
              written = back
                  ∙ subst (λ n. take count now ++ tail
                  ≡ map numbers_of_event (fed.events ++ events) ++ drop (count + n) old) (sym counted)
                  (front_more numbers_of_event old fed.events events count now tail (sym fed.counted) fed.written
                  (step.5
                  ∙ ap (λ ns. map numbers_of_event events ++ drop more ns) lent
                  ∙ ap (λ n. map numbers_of_event events ++ drop n (drop count now)) counted));
            };
            are = step.2;
          }

      -- The next one was not.
      pub stopped : (status : ℕ) → IsNextFed image payload (Err status) numbers after kept next part tail
          → AreFed image bytes ends before after place count old whole
          × EndsFeeds image bytes ends place after (length old - count) status
      stopped status step =
          let same = step.1 in
          let unchanged : whole ≡ now =
          back ∙ ap (λ ns. take count now ++ ns) (step.3 ∙ lent) ∙ take-append-drop count now in (
            subst (λ ns. AreFed image bytes ends before after place count old ns) (sym unchanged)
                (subst (λ n. AreFed image bytes ends before n place count old now) (sym same) fed),
            Stops payload (record {
              end = end;
              at = slice_get-get_or ends place 0 within;
              is = is;
            }) (subst (λ n. IsNotTaken image payload n (length old - count) status) (sym same)
                (subst (λ r. IsNotTaken image payload numbers r status) rest step.0)),
          )

    -- All were taken.
    pub fed_all : (numbers : DecoderNumbers) (kept : DecoderState) (place count : ℕ) (now : List EventNumbers)
        → length ends ≤ place → AreFedTo ends before numbers kept place count old now
        → AreFed image bytes ends before numbers (length ends) count old now
    fed_all numbers kept place count now past so_far =
        let fed = so_far.fed in
        let whole = take_all place ends past in
        let every = take_all (length ends) ends (omega arith) in
        record {
          events = fed.events;
          taken_all = subst (λ front. TakesAll image bytes 0 front before numbers fed.events)
              (whole ∙ sym every) fed.taken_all;
          counted = fed.counted;
          fit = fed.fit;
          written = fed.written;
        }
