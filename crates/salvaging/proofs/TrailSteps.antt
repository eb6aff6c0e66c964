-- What is under way of a hart, from one step to the next.
use Rattle.std.proofs.Common.{◌≡◌, ◌<◌, ℕ, zero, suc, ◌+◌, ◌-◌, Bool, true, false, List, [], ◌∷◌, ◌++◌, Option}
use Rattle.std.proofs.Common.{Some}
use Rattle.std.proofs.Common.{None, drop, length, refl, sym, ap, subst, take, ◌∙◌, arith}
use Rattle.std.proofs.Math.Seq.{drop-append_seam}
use Rattle.std.proofs.lemmas.List.{append-nil, length-append, length_push, take_all}
use Rattle.std.proofs.Common.{⊎_elim}
use Rattle.std.specs.Prelude.{⊤, ◌≢◌, Result, Ok, Err, OnOk, IfErr, IfOk}
use Rattle.std.specs.declared.alloc.AllocError.{AllocError}
use Rattle.retire.specs.declared.event.Event.{Event}
use Rattle.rvclass.specs.Words.{Words}
use Rattle.payload.specs.Closing.{is_closing_packet}
use Rattle.payload.specs.Reading.{reading}
use Rattle.payload.specs.declared.mode.Mode.{Mode}
use Rattle.payload.specs.declared.packet.Packet.{Packet}
use Rattle.payload.specs.declared.packet.Packet.TheVariants as packet
use Rattle.decoder.specs.declared.decoding.Decoder.{Decoder}
use Rattle.decoder.specs.Describes.{Describes}
use Rattle.decoder.specs.declared.fault.DecodeFault.{DecodeFault}
use Rattle.decoder.specs.declared.fault.DecodeFault.TheVariants.{Memory}
use Rattle.losses.specs.Runs.{Run, from_sync, longer, mode_of_first, run_behind, run_of, trace_after}
use Rattle.losses.specs.Runs.{trace_of_run}
use Rattle.losses.specs.steps.DecoderSteps.{Feeds}
use Rattle.losses.specs.steps.FollowingRuns.{FollowsRun, IsNotDecodedInRun, Refuses}
use Rattle.losses.proofs.RunFeeding.{FedRun, feeds_first, feeds_later}
use Rattle.losses.proofs.RunLemmas.{from_sync-begun, from_sync-none}
use Rattle.salvaging.specs.Bad.{IsBad, IsGood, IsUndecoded}
use Rattle.salvaging.specs.LeftParts.{LeftPart, BadNumber, gap}
use Rattle.salvaging.proofs.PushedParts.{adds_both}
use Rattle.salvaging.specs.Leaving.{LeavesBefore, RunLeaves, kept}
use Rattle.salvaging.specs.Shares.{Spoils}
use Rattle.salvaging.specs.Treatments.{treatment_of}
use Rattle.salvaging.specs.steps.UnderWay.{AddsParts, BeginsWith, GoesOn, IsUnderWay, Judged, StaysRead, TakesBad}
use Rattle.salvaging.specs.steps.UnderWay.{TakesUsed, Took, are_lost, begun_by, early, share_by}
use Rattle.salvaging.specs.Tallies.{is_sync}
use Rattle.salvaging.specs.steps.UnderWay.{reads_behind}
use Rattle.salvaging.specs.declared.reason.Reason.{Reason}
use Rattle.salvaging.specs.declared.reason.Reason.TheVariants as reason
use Rattle.salvaging.specs.declared.trail.Trail.{Trail}
use Rattle.salvaging.specs.declared.treatment.Treatment.{Treatment}
use Rattle.salvaging.specs.declared.treatment.Treatment.TheVariants as treatment

-- A stretch that has not begun begins behind any number.
pub begins_anew : (begun : Option ℕ) (next number : ℕ) → BeginsWith begun next [] → BeginsWith begun number []
begins_anew None next number begins = refl
begins_anew (Some first) next number begins = absurd (begins.1 refl)

-- What a run leaves, and a gap behind it.
pub leaves_lost : (words : Words) (reads : Mode) (run : Run) (next lost : ℕ) (before : List LeftPart) → 0 < lost
    → RunLeaves words reads run next before → LeavesBefore words reads run next lost (before ++ gap lost)
leaves_lost words reads run next zero before some leaves = absurd (none some)
  where
    none : ¬ (0 < 0)
    none some = omega (arith, some)
leaves_lost words reads run next (suc lost) before some leaves = (before, leaves, refl)

-- With a packet more, the packets that give the stretch are one more, where it has begun.
pub kept-begun : (missing : ℕ) (ps : List Packet) (p q : Packet) (qs : List Packet) → kept missing ps ≡ q ∷ qs
    → kept missing (ps ++ p ∷ []) ≡ (q ∷ qs) ++ p ∷ []
kept-begun zero ps p q qs is = ap (λ l. l ++ p ∷ []) is
kept-begun (suc missing) ps p q qs is = from_sync-begun ps p q qs is

-- The stretch has begun where the packet is added.
pub begins_with : (missing : ℕ) (ps : List Packet) (p : Packet) (next : ℕ) (begun : Option ℕ)
    → BeginsWith begun next (kept missing ps)
    → BeginsWith (begun_by (are_lost missing) (is_sync p) next begun) (next + 1) (kept missing (ps ++ p ∷ []))
begins_with missing ps p next (Some first) (at, some) = by_kept (kept missing ps) refl some at
  where
    by_kept : (ks : List Packet) → kept missing ps ≡ ks → ¬ (kept missing ps ≡ [])
        → first + length (kept missing ps) ≡ next → BeginsWith (Some first) (next + 1) (kept missing (ps ++ p ∷ []))
    by_kept [] is some at = absurd (some is)
    by_kept (q ∷ qs) is some at =
        let more = kept-begun missing ps p q qs is in
        let count = ap length is in
        let longer = ap length more in
        let one = length_push (q ∷ qs) p in (
          omega (arith, at, count, longer, one),
          λ none. let clash : (q ∷ qs) ++ p ∷ [] ≡ [] = sym more ∙ none in cc,
        )
begins_with zero ps p next None is =
    let one : ps ++ p ∷ [] ≡ p ∷ [] = ap (λ l. l ++ p ∷ []) is in
    let count = ap length one in (
      omega (arith, count),
      λ none. let clash : p ∷ [] ≡ [] = sym one ∙ none in cc,
    )
begins_with (suc missing) ps p next None is = by_packet p (from_sync-none ps p is)
  where
    by_packet : (q : Packet) → from_sync (ps ++ p ∷ []) ≡ from_sync (q ∷ [])
        → BeginsWith (begun_by true (is_sync q) next None) (next + 1) (from_sync (ps ++ p ∷ []))
    by_packet (packet.Sync taken priv address) one =
        let count = ap length one in (
          omega (arith, count),
          λ none. let clash : packet.Sync taken priv address ∷ [] ≡ [] = sym one ∙ none in cc,
        )
    by_packet (packet.Trap taken priv cause interrupt handler address tval) one = one
    by_packet (packet.Support support) one = one
    by_packet (packet.Address taken delta report) one = one
    by_packet (packet.Map taken) one = one

-- The mode of the run from number 0 on, with a packet more.
pub reads_first : (mode reads : Mode) (missing : ℕ) (ps : List Packet) (p : Packet)
    → (missing ≡ 0 → reads ≡ mode_of_first 0 mode ps) → missing ≡ 0
    → reads_behind mode reads missing ps p ≡ mode_of_first 0 mode (ps ++ p ∷ [])
reads_first mode reads zero [] p first is = refl
reads_first mode reads zero (q ∷ qs) p first is = first refl
reads_first mode reads (suc missing) ps p first is = cc

-- A decoder that follows a run is fed one packet more of it.
pub feeds_run : (words : Words) (mode reads : Mode) (missing : ℕ) (ps : List Packet) (p : Packet) (old new : Decoder)
    (before after : List Event) (result : Result ⊤ DecodeFault) → Feeds words p old new before after result
    → Refuses words p old before result → FollowsRun words mode reads missing ps false before old
    → (missing ≡ 0 → reads ≡ mode_of_first 0 mode ps)
    → FedRun words mode (reads_behind mode reads missing ps p) missing ps p new after result
feeds_run words mode reads zero [] p old new before after result feeds refuses f first =
    feeds_first words mode p old new before after [] result feeds refuses
    (subst (λ m. FollowsRun words mode m 0 [] false before old) (first refl) f)
feeds_run words mode reads zero (q ∷ qs) p old new before after result feeds refuses f first =
    subst (λ m. FedRun words mode m 0 (q ∷ qs) p new after result) (sym (first refl))
    (feeds_first words mode p old new before after (q ∷ qs) result feeds refuses
    (subst (λ m. FollowsRun words mode m 0 (q ∷ qs) false before old) (first refl) f))
feeds_run words mode reads (suc missing) ps p old new before after result feeds refuses f first =
    feeds_later words mode p old new before after reads missing ps f result feeds refuses

-- The trace of the run with the packet is the same in either mode.
trace_either : (mode reads : Mode) (missing : ℕ) (ps : List Packet) (p : Packet)
    → trace_after missing (reads_behind mode reads missing ps p) (ps ++ p ∷ [])
    ≡ trace_after missing reads (ps ++ p ∷ [])
trace_either mode reads zero ps p = refl
trace_either mode reads (suc missing) ps p = refl

-- A packet that closes the trace too early.
pub early_some : (closing : Bool) (following : Option ℕ) (next : ℕ) → early closing following ≡ Some next
    → (closing ≡ true) × (following ≡ Some next)
early_some true following next is = (refl, is)
early_some false following next is = cc

pub early_none : (closing : Bool) (following : Option ℕ) → early closing following ≡ None → closing ≡ true
    → following ≡ None
early_none true following is closing = is
early_none false following is closing = cc

module _ {A : Type 0} (words : Words) (mode reads : Mode) (run : Run) (next : ℕ) (old : Trail A)
    (u : IsUnderWay words mode reads run next false old) (p : Packet) (payload : List ℕ) (following : Option ℕ)
    (read : reading payload ≡ Ok p) (early_is : early (is_closing_packet p) following ≡ None) (decoder : Decoder)
    (after : List Event) (result : Result ⊤ DecodeFault)
    (fed : FedRun words mode (reads_behind mode reads run.missing run.packets p) run.missing run.packets p decoder after
    result) where
  -- The packet is not decoded.
  pub undecoded : (why : DecodeFault) → result ≡ Err why → why ≢ Memory
      → IsUndecoded words reads run payload following why
  undecoded why is other =
      let refused = subst (λ r. IfErr r (λ fault. IsNotDecodedInRun words
      (reads_behind mode reads run.missing run.packets p) run.missing run.packets p fault)) is fed.refused in
      record {
        packet = p;
        read = read;
        not_early = early_none (is_closing_packet p) following early_is;
        not_opened = refused.not_opened;
        not_after_close = refused.stays_open;
        not_memory = other;
        not_described = subst (λ trace. (log : List Event) → ¬ Describes words trace log)
            (trace_either mode reads run.missing run.packets p)
            (⊎_elim (λ memory. absurd (other memory)) (λ none. none) refused.reason);
      }

  -- It is good.
  pub judged_good : (done : ⊤) → result ≡ Ok done → (new : Trail A) → new.decoder ≡ decoder → new.events.items ≡ after
      → new.looking ≡ old.looking → new.begun ≡ begun_by old.looking (is_sync p) old.next old.begun
      → new.next ≡ old.next + 1 → Judged words mode reads run next payload following None new
  judged_good done is new same_decoder same_events looking begun at =
      let behind = reads_behind mode reads run.missing run.packets p in
      let follows : FollowsRun words mode behind run.missing (run.packets ++ p ∷ []) (is_closing_packet p) after
      decoder =
      subst (λ r. OnOk r (FollowsRun words mode behind run.missing (run.packets ++ p ∷ []) (is_closing_packet p) after
      decoder)) is fed.follows in (
        p,
        record {
          read = read;
          not_early = early_none (is_closing_packet p) following early_is;
          described = (after, follows.described);
        },
        record {
          follows = subst (λ d. FollowsRun words mode behind run.missing (run.packets ++ p ∷ []) (is_closing_packet p)
              new.events.items d) (sym same_decoder)
              (subst (λ e. FollowsRun words mode behind run.missing (run.packets ++ p ∷ []) (is_closing_packet p) e
              decoder) (sym same_events) follows);
          first_reads = reads_first mode reads run.missing run.packets p u.first_reads;
          next_is = at ∙ ap (λ n. n + 1) u.next_is;
          looking = looking ∙ u.looking;
          begins = subst (λ b. BeginsWith b (next + 1) (kept run.missing (run.packets ++ p ∷ []))) (sym begun)
              (subst (λ b. BeginsWith (begun_by b (is_sync p) old.next old.begun) (next + 1)
              (kept run.missing (run.packets ++ p ∷ []))) (sym u.looking)
              (subst (λ n. BeginsWith (begun_by (are_lost run.missing) (is_sync p) n old.begun) (next + 1)
              (kept run.missing (run.packets ++ p ∷ []))) (sym u.next_is)
              (begins_with run.missing run.packets p next old.begun u.begins)));
        },
      )

-- A message whose packet is not decoded is bad, unless an allocation failed.
pub judged_bad : {A : Type 0} (words : Words) (mode reads : Mode) (run : Run) (next : ℕ) (payload : List ℕ)
    (following : Option ℕ) (fault : DecodeFault) (new : Trail A) (result : Result (Option Reason) AllocError)
    → IfOk result (λ found. (found ≡ Some (reason.Decode fault)) × (fault ≢ Memory))
    → (fault ≢ Memory → IsUndecoded words reads run payload following fault)
    → IsUnderWay words mode reads run next false new
    → IfOk result (λ judged. Judged words mode reads run next payload following judged new)
judged_bad words mode reads run next payload following fault new (Err refused) is undecoded u = tt
judged_bad words mode reads run next payload following fault new (Ok found) (is, other) undecoded u =
    subst (λ judged. Judged words mode reads run next payload following judged new) (sym is) (undecoded other, u)

module _ {A : Type 0} (words : Words) (mode reads : Mode) where
  -- Numbers are lost: the run behind them is under way at a later number.
  pub moved_on : (run : Run) (closed : Bool) (next number lost : ℕ) (gone new : Trail A) → 0 < lost
      → ((more : ℕ) → IsUnderWay words mode reads (run_of (suc more) []) next closed gone)
      → new.decoder ≡ gone.decoder → new.events.items ≡ gone.events.items → new.looking ≡ gone.looking
      → new.begun ≡ gone.begun → new.next ≡ number
      → IsUnderWay words mode reads (run_behind lost run) number closed new
  moved_on run closed next number zero gone new some u decoder events looking begun at = absurd (none some)
    where
      none : ¬ (0 < 0)
      none some = omega (arith, some)
  moved_on run closed next number (suc lost) gone new some u decoder events looking begun at =
      let v = u lost in
      record {
        follows = subst (λ d. FollowsRun words mode reads (suc lost) [] closed new.events.items d) (sym decoder)
            (subst (λ e. FollowsRun words mode reads (suc lost) [] closed e gone.decoder) (sym events) v.follows);
        first_reads = λ is. cc;
        next_is = at;
        looking = looking ∙ v.looking;
        begins = subst (λ b. BeginsWith b number []) (sym begun) (begins_anew gone.begun next number v.begins);
      }

module _ {A : Type 0} (words : Words) (mode : Mode) where
  -- What a good message does, by whether its stretch has begun.
  good_by_begun : (run : Run) (number place : ℕ) (payload : List ℕ) (following : Option ℕ) (gone judged : Trail A)
      (rest : List Event) (packet : Packet) → IsUnderWay words mode mode run number false gone
      → IsGood words mode run payload following packet
      → IsUnderWay words mode mode (longer run (packet ∷ [])) (number + 1) (is_closing_packet packet) judged
      → judged.events.items ≡ gone.events.items ++ rest → (begun : Option ℕ)
      → BeginsWith begun (number + 1) (kept run.missing (run.packets ++ packet ∷ []))
      → Took words mode run number place payload following (share_by begun rest) [] judged
  good_by_begun run number place payload following gone judged rest packet u good v is None none =
      (refl, packet, good, none, v)
  good_by_begun run number place payload following gone judged rest packet u good v is (Some first) (at, some) = (
    refl,
    packet,
    good,
    (
      some,
      gone.events.items,
      u.follows.described,
      subst (λ l. Describes words (trace_of_run mode (longer run (packet ∷ []))) l) is v.follows.described,
    ),
    v,
  )

  -- A used message is taken that is good: it adds the events behind those of before.
  pub takes_good : (run : Run) (next number place : ℕ) (payload : List ℕ) (following : Option ℕ)
      (old gone judged : Trail A) (rest : List Event) (treatment : Treatment)
      → GoesOn words mode mode run next number old gone → judged.parts ≡ gone.parts
      → Judged words mode mode (run_behind (number - next) run) number payload following None judged
      → StaysRead mode (run_behind (number - next) run) payload → judged.events.items ≡ gone.events.items ++ rest
      → treatment ≡ treatment_of (share_by judged.begun rest)
      → TakesUsed words mode run next number place payload following treatment old judged
  takes_good run next number place payload following old gone judged rest treatment went same (packet, good, u) stays is
      treated =
      let behind = run_behind (number - next) run in
      let same_parts : judged.parts.items ≡ gone.parts.items = ap (λ (v : _). v.items) same in
      let own = stays packet good.read in
      let way = subst (λ m. IsUnderWay words mode m (longer behind (packet ∷ [])) (number + 1)
      (is_closing_packet packet) judged) own u in
      record {
        share = share_by judged.begun rest;
        treated = treated;
        before = went.left;
        leaves = went.leaves;
        added = [];
        took = good_by_begun behind number place payload following gone judged rest packet went.under_way
            (subst (λ m. IsGood words m behind payload following packet) own good) way is judged.begun way.begins;
        parts = subst (AddsParts (went.left ++ []) old.parts.items) (sym same_parts)
            (subst (λ l. AddsParts l old.parts.items gone.parts.items) (sym (append-nil went.left)) went.added);
      }

  -- A used message is taken that is bad.
  pub takes_bad : (run : Run) (next number place : ℕ) (payload : List ℕ) (following : Option ℕ) (why : Reason)
      (old gone judged new : Trail A) → GoesOn words mode mode run next number old gone → judged.parts ≡ gone.parts
      → IsBad words mode (run_behind (number - next) run) payload following why
      → TakesBad words mode (run_behind (number - next) run) number place why judged new
      → TakesUsed words mode run next number place payload following (treatment.Bad why) old new
  takes_bad run next number place payload following why old gone judged new went same bad k =
      let added = k.left ++ BadNumber number place why ∷ [] in
      let same_parts : judged.parts.items ≡ gone.parts.items = ap (λ (v : _). v.items) same in
      record {
        share = Spoils why;
        treated = refl;
        before = went.left;
        leaves = went.leaves;
        added = added;
        took = (bad, k.left, k.leaves, refl, k.under_way);
        parts = adds_both went.left added old.parts.items gone.parts.items new.parts.items went.added
            (subst (λ l. AddsParts added l new.parts.items) same_parts k.parts);
      }

-- What lies behind a front, as a slice of the whole.
pub behind_front : {X : Type 0} (front rest all : List X) (count : ℕ) → all ≡ front ++ rest → count ≡ length front
    → take (length all - count) (drop count all) ≡ rest
behind_front front rest all count is long =
    let parted : drop count all ≡ rest =
    ap (λ n. drop n all) long ∙ ap (λ l. drop (length front) l) is ∙ drop-append_seam front rest in
    let whole = ap length is ∙ length-append front rest in
    ap (λ l. take (length all - count) l) parted
    ∙ take_all (length all - count) rest (omega (arith, whole, long))
