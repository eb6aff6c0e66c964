-- The packets that a source gives stand in the list of its log's packets, one behind another.
use Rattle.std.proofs.Common.{◌≡◌, ℕ, ◌+◌, ◌-◌, ◌≤◌, Bool, true, false, List, [], ◌∷◌, ◌++◌, Option, Some, None, length}
use Rattle.std.proofs.Common.{take, drop, refl, sym, subst, ◌∙◌, ap, inl, inr, append_assoc, arith, length-append}
use Rattle.std.proofs.lemmas.List.{take-append-drop, append-nil, length-drop, take_all}
use Rattle.std.proofs.lemmas.List.Elements.{All-cons, All-head, All-nil}
use Rattle.std.proofs.lemmas.Option.{slice_get_read}
use Rattle.std.proofs.Math.Seq.{get_or-append_seam, take-add}
use Rattle.std.specs.Prelude.{All, IfSome}
use Rattle.std.specs.List.{last_or, slice_get}
use Rattle.std.specs.Option.{option_to_list}
use Rattle.retire.specs.Is64Bit.{Is64Bit}
use Rattle.retire.specs.declared.event.Event.{Event}
use Rattle.rvclass.proofs.WordsLemmas.{words_stand}
use Rattle.rvclass.specs.Fetch.{words_of}
use Rattle.rvclass.specs.Image.{Image}
use Rattle.rvclass.specs.Words.{Words}
use Rattle.legalpath.specs.Legal.{Legal}
use Rattle.legalpath.specs.ProgramLog.{ProgramLog}
use Rattle.payload.specs.Profile.{InProfile}
use Rattle.payload.specs.declared.mode.Mode.{Mode}
use Rattle.payload.specs.declared.packet.Packet.{Packet}
use Rattle.payload.specs.declared.packet.Packet.TheVariants as packet
use Rattle.payload.specs.declared.packet.Support.{Support}
use Rattle.payload.specs.declared.packet.Support.TheVariants.{Open}
use Rattle.encoder.specs.Packets.{reports, closing_packet, packets}
use Rattle.encoder.specs.PacketsSoFar.{is_known, decided, packets_so_far}
use Rattle.encoder.specs.Piece.{pieces}
use Rattle.encoder.specs.SourceAt.{SourceAt}
use Rattle.encoder.specs.steps.SourceFields.{number_at, stands_at, AreTakenAtStage, IsSource}
use Rattle.encoder.specs.Spot.{Spot, first_event, spots, spots_of}
use Rattle.encoder.specs.EncoderStands.{count_all, reported_after_pieces, since_cut, EncoderStands}
use Rattle.encoder.specs.steps.Stepping.{given, last_given, ends_by, given_at_end}
use Rattle.encoder.specs.declared.encoder.Encoder.{Encoder}
use Rattle.encoder.specs.declared.rule.Rule.TheVariants as by
use Rattle.encoder.specs.declared.source.Stage.{Stage}
use Rattle.encoder.proofs.SpotLemmas.{before_last, spots-append, pieces-append, reports-append}
use Rattle.encoder.proofs.PacketsReached.{spot_after, spots-snoc, reaches, reaches_cut}
use Rattle.encoder.proofs.LogsByLastEvent.{by_last, decided_is, rule_known}
use Rattle.encoder.proofs.ProfileLemmas.{IsEven, packets_in_profile, profile_behind}
use Rattle.encoder.proofs.PacketsAtEnd.{ends_any}
use Rattle.encoder.proofs.SeveralEvents.{legal_part}

module _ (words : Words) (period : ℕ) (mode : Mode) where
  front_reports : (ss ts : List Spot) → reports mode 0 (pieces words period [] (ss ++ ts))
      ≡ reports mode 0 (pieces words period [] ss) ++ reports mode (reported_after_pieces 0 (pieces words period [] ss))
      (pieces words period (since_cut words period [] ss) ts)
  front_reports ss ts =
      ap (reports mode 0) (pieces-append words period [] ss ts)
      ∙ reports-append mode 0 (pieces words period [] ss) (pieces words period (since_cut words period [] ss) ts)

  -- The packets of a log so far are the first of them, whatever follows.
  abbrev Begins : List Event → List Event → Type 0
  Begins front rest =
      (more : List Packet)
      × (packets words period mode (front ++ rest) ≡ packets_so_far words period mode front ++ more)

  begins_by : (front rest : List Event) (ss ts : List Spot) → spots_of (front ++ rest) ≡ ss ++ ts
      → reports mode 0 (pieces words period [] (decided words (spots_of front)))
      ≡ reports mode 0 (pieces words period [] ss)
      → Begins front rest
  begins_by front rest ss ts all same =
      let first = reports mode 0 (pieces words period [] ss) in
      let other =
      reports mode (reported_after_pieces 0 (pieces words period [] ss))
      (pieces words period (since_cut words period [] ss) ts) in
      let end = closing_packet words period (front ++ rest) ∷ [] in (
        other ++ end,
        ap (λ x. packet.Support (Open mode) ∷ x ++ end) (ap (λ x. reports mode 0 (pieces words period [] x)) all
            ∙ front_reports ss ts)
            ∙ ap (λ x. packet.Support (Open mode) ∷ x) (append_assoc first other end)
            ∙ ap (λ x. packet.Support (Open mode) ∷ x ++ (other ++ end)) (sym same),
      )

  module _ (front : List Event) (held : Event) (rest : List Event) where
    abbrev ss : List Spot
    ss = spots 0 None None front (Some held)

    abbrev here : Spot
    here = spot_after front held None

    abbrev there : Spot
    there = spot_after front held (first_event rest None)

    abbrev behind : List Spot
    behind = spots (count_all 0 (front ++ held ∷ [])) (before_last None None (front ++ held ∷ []))
        (last_or None (front ++ held ∷ [])) rest None

    all : spots_of ((front ++ held ∷ []) ++ rest) ≡ (ss ++ there ∷ []) ++ behind
    all = spots-append 0 None None (front ++ held ∷ []) rest None
        ∙ ap (λ x. x ++ behind) (spots-snoc front held (first_event rest None))

    begins_behind : Begins (front ++ held ∷ []) rest
    begins_behind = go (is_known words here) refl
      where
        go : (k : Bool) → is_known words here ≡ k → Begins (front ++ held ∷ []) rest
        go true k =
            let base = reaches words period mode ss in
            let mine =
            reaches_cut words period mode ss here _ _ _ by.Handler base (rule_known words period here k) refl in
            let full =
            reaches_cut words period mode ss there _ _ _ by.Handler base (rule_known words period there k) refl in
            begins_by (front ++ held ∷ []) rest (ss ++ there ∷ []) behind all
            (ap (λ x. reports mode 0 (pieces words period [] x)) (decided_is words period front held true k)
            ∙ mine.given ∙ sym full.given)
        go false k =
            begins_by (front ++ held ∷ []) rest ss (there ∷ behind) (all ∙ append_assoc ss (there ∷ []) behind)
            (ap (λ x. reports mode 0 (pieces words period [] x)) (decided_is words period front held false k
            ∙ append-nil ss))

  so_far_begins : (front rest : List Event) → Begins front rest
  so_far_begins front rest = elim (by_last front) [
    | inl is ↦ subst (λ l. Begins l rest) (sym is) (begins_by [] rest [] (spots_of rest) refl refl)
    | inr r ↦ subst (λ l. Begins l rest) (sym r.2) (begins_behind r.0 r.1 rest)
  ]

  so_far_begins-take : (taken : ℕ) (log : List Event)
      → (more : List Packet)
      × (packets words period mode log ≡ packets_so_far words period mode (take taken log) ++ more)
  so_far_begins-take taken log =
      subst (λ l. (more : List Packet)
      × (packets words period mode l ≡ packets_so_far words period mode (take taken log) ++ more))
      (take-append-drop taken log) (so_far_begins (take taken log) (drop taken log))

-- A packet stands behind the packets before it.
seam : (all front : List Packet) (p : Packet) (rest : List Packet) (number : ℕ) → all ≡ front ++ p ∷ rest
    → number ≡ length front → Some p ≡ slice_get all number
seam all front p rest number is n =
    let found : slice_get (front ++ p ∷ rest) (length front) ≡ Some p =
    slice_get_read (front ++ p ∷ rest) _ (length front) p refl (omega (arith, length-append front (p ∷ rest)))
    (sym (get_or-append_seam front p rest p)) in
    sym found ∙ ap (λ l. slice_get l (length front)) (sym is) ∙ ap (slice_get all) (sym n)

behind_seam : (all front : List Packet) (p : Packet) (rest : List Packet) → all ≡ front ++ p ∷ rest
    → length all ≡ length front + 1 + length rest
behind_seam all front p rest is = ap length is ∙ (let l = length-append front (p ∷ rest) in omega (arith, l))

-- An encoder that took the first events of a log takes more of them. It gives this packet, which is of the profile, or
-- it gives none and takes all.
pub record Ran (image : Image) (events : List Event) (e : Encoder) (taken : ℕ) (e' : Encoder) (taken' : ℕ)
    (given : Option Packet) : Type 0 where
  pub within : taken' ≤ length events
  pub stands : EncoderStands (words_of image) (e.between + 1) e.mode (take taken' events) e'
  pub more : packets_so_far (words_of image) (e.between + 1) e.mode (take taken' events)
      ≡ packets_so_far (words_of image) (e.between + 1) e.mode (take taken events) ++ option_to_list given
  pub all : given ≡ None → taken' ≡ length events
  pub profile : IfSome given InProfile

-- A call says this of the events that it takes behind any log that the encoder stands for.
abbrev pub SaysOf : Image → List Event → Encoder → ℕ → Encoder → Option Packet → Type 0
SaysOf image rest e count e' given =
    (period : ℕ) (mode : Mode) (front : List Event) → EncoderStands (words_of image) period mode front e
    → Legal (words_of image) (front ++ take count rest)
    → EncoderStands (words_of image) period mode (front ++ take count rest) e'
    × (packets_so_far (words_of image) period mode (front ++ take count rest)
    ≡ packets_so_far (words_of image) period mode front ++ option_to_list given)
    × IfSome given InProfile

-- `Ran` follows from what a call says of the events that are left.
pub ran_by : (image program : Image) (events log rest : List Event) (e : Encoder) (taken count : ℕ) (e' : Encoder)
    (given : Option Packet) → image ≡ program → events ≡ log → rest ≡ drop taken events → Legal (words_of program) log
    → EncoderStands (words_of program) (e.between + 1) e.mode (take taken log) e → taken ≤ length log
    → count ≤ length rest → (given ≡ None → count ≡ length rest) → SaysOf image rest e count e' given
    → Ran program log e taken e' (taken + count) given
ran_by image program events log rest e taken count e' given same events_same rest_is legal stands within few all says =
    let behind : rest ≡ drop taken log = rest_is ∙ ap (drop taken) events_same in
    let said : SaysOf program (drop taken log) e count e' given =
    subst (λ l. SaysOf program l e count e' given) behind
    (subst (λ (p : Image). SaysOf p rest e count e' given) same says) in
    let left : length rest ≡ length log - taken = ap length behind ∙ length-drop taken log in
    let joined = take-add taken count log in
    let now = said (e.between + 1) e.mode (take taken log) stands
    (subst (Legal (words_of program)) joined (legal_part (words_of program) [] log (taken + count) legal)) in record {
      within = omega (arith, within, few, left);
      stands = subst (λ l. EncoderStands (words_of program) (e.between + 1) e.mode l e') (sym joined) now.0;
      more = ap (packets_so_far (words_of program) (e.between + 1) e.mode) joined ∙ now.1;
      all = λ none. (let is = all none in omega (arith, within, left, is));
      profile = now.2;
    }

-- The source stands where its encoder does.
pub source_on : (log : ProgramLog) (e e' : Encoder) (stage : Stage) (taken taken' : ℕ) (given : Option Packet)
    → Ran log.program log.events e taken e' taken' given → AreTakenAtStage stage taken' (length log.events)
    → IsSource log e' stage taken'
source_on log e e' stage taken taken' given ran within =
    let words = words_of log.program in
    let front = take taken' log.events in record {
      within = within;
      stands = subst (λ period. EncoderStands words period e'.mode front e') (sym ran.stands.between)
          (subst (λ mode. EncoderStands words (e.between + 1) mode front e') (sym ran.stands.in_mode) ran.stands);
    }

module _ (image : Image) (log : List Event) (e : Encoder) (taken : ℕ) (e' : Encoder) (taken' : ℕ)
    (legal : Legal (words_of image) log) where
  abbrev words : Words
  words = words_of image

  abbrev period : ℕ
  period = e.between + 1

  abbrev mode : Mode
  mode = e.mode

  abbrev before : List Packet
  before = packets_so_far words period mode (take taken log)

  abbrev full : List Packet
  full = packets words period mode log

  even : IsEven words
  even addr word is = (words_stand image addr word is).even

  -- The packet that was given is one more than those before it.
  pub counted_running : (p : Packet) → Ran image log e taken e' taken' (Some p)
      → length before + 1 ≡ length (packets_so_far words period mode (take taken' log))
  counted_running p ran = sym (ap length ran.more ∙ length-append before (p ∷ []))

  pub given_running : (p : Packet) → Ran image log e taken e' taken' (Some p) → Some p ≡ slice_get full (length before)
  given_running p ran =
      let begins = so_far_begins-take words period mode taken' log in
      seam full before p begins.0 (length before) (begins.1 ∙ ap (λ l. l ++ begins.0) ran.more
      ∙ append_assoc before (p ∷ []) begins.0) refl

  -- Where all events were taken, the packets that are left complete the log's packets.
  at_end : Ran image log e taken e' taken' None → full ≡ before ++ given_at_end e' e'.held
  at_end ran =
      let whole : take taken' log ≡ log = take_all taken' log (omega (arith, ran.all refl)) in
      ends_any words period mode log e' (subst (λ l. EncoderStands words period mode l e') whole ran.stands)
      ∙ ap (λ l. packets_so_far words period mode l ++ given_at_end e' e'.held) (sym whole)
      ∙ ap (λ l. l ++ given_at_end e' e'.held) (ran.more ∙ append-nil before)

  profile_at_end : Ran image log e taken e' taken' None → All InProfile (given_at_end e' e'.held)
  profile_at_end ran =
      let whole : take taken' log ≡ log = take_all taken' log (omega (arith, ran.all refl)) in
      profile_behind before (given_at_end e' e'.held) full (at_end ran)
      (packets_in_profile words even period mode log (subst (All Is64Bit) whole ran.stands.numbers) legal)

  pub end_some : (p : Packet) → Ran image log e taken e' taken' None → p ∷ [] ≡ last_given e' e'.held
      → (Some p ≡ slice_get full (length before)) × (length before + 1 ≡ length full - 1) × All InProfile (p ∷ [])
  end_some p ran is =
      let joined : full ≡ before ++ p ∷ (packet.Support (ends_by e' e'.held) ∷ []) =
      at_end ran ∙ ap (λ l. before ++ (l ++ packet.Support (ends_by e' e'.held) ∷ [])) (sym is) in
      let counted = behind_seam full before p (packet.Support (ends_by e' e'.held) ∷ []) joined in (
        seam full before p (packet.Support (ends_by e' e'.held) ∷ []) (length before) joined refl,
        omega (arith, counted),
        All-cons InProfile p [] (All-head InProfile p (packet.Support (ends_by e' e'.held) ∷ [])
            (subst (All InProfile) (ap (λ l. l ++ packet.Support (ends_by e' e'.held) ∷ []) (sym is))
            (profile_at_end ran))) (All-nil InProfile),
      )

  pub end_none : (s : Support) → Ran image log e taken e' taken' None → [] ≡ last_given e' e'.held
      → s ≡ ends_by e' e'.held → (Some (packet.Support s) ≡ slice_get full (length before))
      × (length before + 1 ≡ length full)
  end_none s ran none is =
      let joined : full ≡ before ++ packet.Support s ∷ [] =
      at_end ran ∙ ap (λ l. before ++ (l ++ packet.Support (ends_by e' e'.held) ∷ [])) (sym none)
      ∙ ap (λ x. before ++ packet.Support x ∷ []) (sym is) in
      let counted = behind_seam full before (packet.Support s) [] joined in
      (seam full before (packet.Support s) [] (length before) joined refl, omega (arith, counted))

-- The closing packet is the last.
pub given_closing : (image : Image) (period : ℕ) (mode : Mode) (log : List Event) (e : Encoder) (taken : ℕ)
    (s : Support) → EncoderStands (words_of image) period mode (take taken log) e → taken ≡ length log
    → s ≡ ends_by e e.held
    → Some (packet.Support s) ≡ slice_get (packets (words_of image) period mode log)
    (length (packets (words_of image) period mode log) - 1)
given_closing image period mode log e taken s stands whole is =
    let words = words_of image in
    let front = packets_so_far words period mode log ++ last_given e e.held in
    let done : take taken log ≡ log = take_all taken log (omega (arith, whole)) in
    let joined : packets words period mode log ≡ front ++ packet.Support s ∷ [] =
    ends_any words period mode log e (subst (λ l. EncoderStands words period mode l e) done stands)
    ∙ sym (append_assoc (packets_so_far words period mode log) (last_given e e.held)
    (packet.Support (ends_by e e.held) ∷ []))
    ∙ ap (λ x. front ++ packet.Support x ∷ []) (sym is) in
    let counted = behind_seam (packets words period mode log) front (packet.Support s) [] joined in
    seam (packets words period mode log) front (packet.Support s) [] _ joined (omega (arith, counted))

-- A source stands one payload further.
pub further : (log : ProgramLog) (e e' : Encoder) (stage : Stage) (taken number : ℕ) (old : SourceAt)
    → e'.between + 1 ≡ e.between + 1 → e'.mode ≡ e.mode
    → number + 1 ≡ number_at (e.between + 1) e.mode log stage taken
    → record { log = log; period = e.between + 1; mode = e.mode; number = number } ≡ old
    → stands_at log e' stage taken ≡ record old { number = old.number + 1 }
further log e e' stage taken number old between in_mode counted is =
    let at : ℕ → Mode → ℕ → SourceAt = λ p m n. record { log = log; period = p; mode = m; number = n } in
    ap (λ p. at p e'.mode (number_at p e'.mode log stage taken)) between
    ∙ ap (λ m. at (e.between + 1) m (number_at (e.between + 1) m log stage taken)) in_mode
    ∙ ap (at (e.between + 1) e.mode) (sym counted)
    ∙ ap (λ (s : SourceAt). record s { number = s.number + 1 }) is
