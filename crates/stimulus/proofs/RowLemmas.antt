-- The rows of a hart's events, one after another.
use Rattle.std.proofs.Common.{◌≡◌, ◌<◌, ◌≤◌, ◌+◌, ◌-◌, ◌∙◌, ℕ, All, List, [], ◌∷◌, ◌++◌, Option, None, arith, length}
use Rattle.std.proofs.Common.{append-nil, append_assoc, ap, refl, subst, sym}
use Rattle.std.proofs.KnownBytes.{Appends-nil, Appends-trans}
use Rattle.std.proofs.lemmas.Grind.{flat_map-append}
use Rattle.std.proofs.lemmas.List.{length-append}
use Rattle.retire.specs.Is64Bit.{Is64Bit}
use Rattle.std.specs.Io.KnownBytes.{Appends}
use Rattle.std.specs.List.{flat_map}
use Rattle.output.specs.Begun.{AppendsBeginning}
use Rattle.output.proofs.Beginnings.{begun_behind, begun_in_front}
use Rattle.retire.proofs.WriteLemmas.{all_written, held_begun}
use Rattle.retire.specs.LogText.{event_line, line_of_fields, log_text}
use Rattle.retire.specs.Log.{header, most_long_rows}
use Rattle.retire.specs.Split.{Split}
use Rattle.retire.specs.declared.event.Event.{Event}
use Rattle.rvclass.specs.Fetch.{words_of}
use Rattle.rvclass.specs.Image.{Image, IsImage}
use Rattle.rvclass.specs.Words.{Words}
use Rattle.legalpath.specs.Legal.{Legal}
use Rattle.stimulus.proofs.WalkLemmas.{walked_front}
use Rattle.stimulus.specs.Walk.{extent_of, first_walk, walked}
use Rattle.stimulus.specs.Walked.{HasWalked, Walks}
use Rattle.stimulus.specs.Written.{BeginsLog, WritesLog, log_of}
use Rattle.stimulus.specs.declared.hart.Hart.{Hart}
use Rattle.stimulus.specs.declared.logging.Log.{Log}
use Rattle.stimulus.specs.declared.walk.Extent.{Extent}
use Rattle.stimulus.specs.declared.walk.Walk.{Walk}
use Rattle.stimulus.specs.steps.Rows.{AddsRows, BeginsRows, rows}

-- A hart has given so many events, and their rows are written or held.
pub record Reached (words : Words) (start : Walk) (count : ℕ) (hart : Hart) (before held : List ℕ)
    (old new : Option (List ℕ)) : Type 0 where
  pub seen : List Event
  pub walked_on : HasWalked words start seen hart
  pub counted : length seen ≡ count
  pub text : Split old new held (before ++ flat_map event_line seen)

module _ (words : Words) (start : Walk) where
  -- At first there is no event.
  pub reached_none : (hart : Hart) (before : List ℕ) (old : Option (List ℕ)) → HasWalked words start [] hart
      → Reached words start 0 hart before before old old
  reached_none hart before old walked = record {
    seen = [];
    walked_on = walked;
    counted = refl;
    text = ([], Appends-nil old, sym (append-nil before));
  }

  -- What a hart has given are the first events of its walk.
  first_events : (count : ℕ) (hart : Hart) (seen : List Event) → HasWalked words start seen hart
      → length seen ≡ count → seen ≡ (walked words start count).0
  first_events count hart seen has counted =
      ap (λ (w : List Event × Walk). w.0) has.walked
      ∙ ap (λ n. (walked words start n).0) (sym has.counted ∙ counted)

  -- A beginning of the rows of the first events is one of those of more.
  begun_of_more : (count most : ℕ) (before : List ℕ) (old new : Option (List ℕ)) → count ≤ most
      → AppendsBeginning (before ++ rows words start count) old new → BeginsRows words start most before old new
  begun_of_more count most before old new few begun =
      go (walked_front words start count (most - count) most (omega (arith, few)))
    where
      go : (rest : List Event) × ((walked words start most).0 ≡ (walked words start count).0 ++ rest)
          → BeginsRows words start most before old new
      go (rest, is) =
          let longer : before ++ rows words start most
          ≡ (before ++ rows words start count) ++ flat_map event_line rest =
          ap (λ events. before ++ flat_map event_line events) is
          ∙ ap (λ l. before ++ l) (flat_map-append event_line (walked words start count).0 rest)
          ∙ sym (append_assoc before (rows words start count) (flat_map event_line rest)) in
          subst (λ text. AppendsBeginning text old new) (sym longer)
          (begun_in_front (before ++ rows words start count) (flat_map event_line rest) old new begun)

  module _ (count : ℕ) (hart : Hart) (before held : List ℕ) (old mid : Option (List ℕ))
      (r : Reached words start count hart before held old mid) where
    -- The rows so far.
    pub reached_rows : AddsRows words start count before held old mid
    reached_rows =
        let is = first_events count hart r.seen r.walked_on r.counted in record {
          legal = subst (Legal words) is r.walked_on.legal;
          counted = subst (λ events. length events ≡ count) is r.counted;
          numbers = subst (All Is64Bit) is r.walked_on.numbers;
          text = subst (λ events. Split old mid held (before ++ flat_map event_line events)) is r.text;
        }

    pub reached_begun : (most : ℕ) → count ≤ most → BeginsRows words start most before old mid
    reached_begun most few =
        let all = reached_rows in
        begun_of_more count most before old mid few
        (record { text = all.text.0; rest = held; parted = sym all.text.2; appended = all.text.1 })

    -- The hart always gives one event more.
    pub reached_on : {P : Type 0} (hart' : Hart) → count < most_long_rows → Walks words start r.seen None hart' → P
    reached_on hart' room walks =
        let never : ⊥ = omega (arith, walks.1, r.counted, room) in absurd never

    module _ (event : Event) (hart' : Hart) (walks : HasWalked words start (r.seen ++ event ∷ []) hart') where
      abbrev seen' : List Event
      seen' = r.seen ++ event ∷ []

      counted' : length seen' ≡ count + 1
      counted' = omega (arith, length-append r.seen (event ∷ []), r.counted)

      abbrev line : List ℕ
      line = flat_map event_line (event ∷ [])

      whole : r.text.0 ++ (held ++ line) ≡ before ++ flat_map event_line seen'
      whole =
          sym (append_assoc r.text.0 held line) ∙ ap (λ l. l ++ line) r.text.2
          ∙ append_assoc before (flat_map event_line r.seen) line
          ∙ ap (λ l. before ++ l) (sym (flat_map-append event_line r.seen (event ∷ [])))

      -- One row more is written or held.
      pub reached_more : (held' : List ℕ) (new : Option (List ℕ)) → Split mid new held' (held ++ line)
          → Reached words start (count + 1) hart' before held' old new
      reached_more held' new (written, got, is) = record {
        seen = seen';
        walked_on = walks;
        counted = counted';
        text = (
          r.text.0 ++ written,
          Appends-trans old mid new r.text.0 written r.text.1 got,
          append_assoc r.text.0 written held' ∙ ap (λ l. r.text.0 ++ l) is ∙ whole,
        );
      }

      -- Or a beginning of it.
      pub more_begun : (most : ℕ) (new : Option (List ℕ)) → count + 1 ≤ most
          → AppendsBeginning (held ++ line) mid new → BeginsRows words start most before old new
      more_begun most new few begun =
          begun_of_more (count + 1) most before old new few
          (subst (λ events. AppendsBeginning (before ++ flat_map event_line events) old new)
          (first_events (count + 1) hart' seen' walks counted')
          (subst (λ text. AppendsBeginning text old new) whole
          (begun_behind r.text.0 (held ++ line) old mid new r.text.1 begun)))

module _ (program : Image) (asked : Log) where
  abbrev words : Words
  words = words_of program

  -- The walk of the hart that is asked for.
  abbrev start_of : Extent → Walk
  start_of extent = first_walk extent asked.mix asked.seed asked.hart

  -- A beginning of the rows after the header is one of the log.
  pub log_begun : (extent : Extent) (before : List ℕ) (old new : Option (List ℕ)) → extent ≡ extent_of program
      → before ≡ line_of_fields header → BeginsRows words (start_of extent) asked.events before old new
      → BeginsLog program asked old new
  log_begun extent before old new is line begun =
      subst (λ e. AppendsBeginning (line_of_fields header ++ rows words (start_of e) asked.events) old new) is
      (subst (λ l. AppendsBeginning (l ++ rows words (start_of extent) asked.events) old new) line begun)

  -- Nothing is a beginning of a log.
  pub nothing_begun : (old : Option (List ℕ)) → BeginsLog program asked old old
  nothing_begun old =
      record { text = []; rest = log_text (log_of program asked); parted = refl; appended = Appends-nil old }

  module _ (extent : Extent) (before held : List ℕ) (old mid : Option (List ℕ)) (is : extent ≡ extent_of program)
      (line : before ≡ line_of_fields header)
      (adds : AddsRows words (start_of extent) asked.events before held old mid) where
    all : AddsRows words (start_of (extent_of program)) asked.events (line_of_fields header) held old mid
    all =
        subst (λ e. AddsRows words (start_of e) asked.events (line_of_fields header) held old mid) is
        (subst (λ l. AddsRows words (start_of extent) asked.events l held old mid) line adds)

    -- What is held is written too: all of the log is.
    pub log_written : IsImage program → (new : Option (List ℕ)) → Appends mid new held → WritesLog program asked old new
    log_written image new more = record {
      legal = record {
        legal = all.legal;
        short = let counted = all.counted in omega (arith, counted);
        numbers = all.numbers;
        image = image;
      };
      counted = all.counted;
      text = all_written (log_text (log_of program asked)) old mid new held all.text more;
    }

    -- Or a beginning of it.
    pub end_begun : (new : Option (List ℕ)) → AppendsBeginning held mid new → BeginsLog program asked old new
    end_begun new begun = held_begun (log_text (log_of program asked)) old mid new held all.text begun
