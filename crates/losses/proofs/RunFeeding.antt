-- A decoder that follows a run follows it with one packet more, whatever it is, or the packet is not decoded.
use Rattle.std.proofs.Common.{◌≡◌, ◌⊎◌, ℕ, suc, false, List, [], ◌∷◌, ◌++◌, Some, refl, sym, ap, subst, ◌∙◌}
use Rattle.std.specs.Prelude.{⊤, Result, Ok, Err, OnOk, IfErr}
use Rattle.retire.specs.declared.event.Event.{Event}
use Rattle.rvclass.specs.Words.{Words}
use Rattle.payload.specs.Closing.{is_closing_packet}
use Rattle.payload.specs.declared.mode.Mode.{Mode}
use Rattle.payload.specs.declared.packet.Packet.{Packet}
use Rattle.decoder.specs.Describes.{Describes}
use Rattle.decoder.specs.Order.{open_packet}
use Rattle.decoder.specs.Resuming.{HasMode, IsClosed, PassesOver}
use Rattle.decoder.specs.DecoderStands.{DecoderStands}
use Rattle.decoder.specs.declared.decoding.Decoder.{Decoder}
use Rattle.decoder.specs.declared.fault.DecodeFault.{DecodeFault}
use Rattle.decoder.specs.declared.fault.DecodeFault.TheVariants.{Memory, NotOpened}
use Rattle.decoder.proofs.NextPacket.{opening_of}
use Rattle.message.proofs.HartMessages.{last_is_closing-next}
use Rattle.losses.specs.Runs.{from_sync, mode_of_first, mode_or, opened}
use Rattle.losses.specs.steps.DecoderSteps.{Feeds}
use Rattle.losses.specs.steps.FollowingRuns.{FollowsRun, IsNotDecodedInRun, Refuses, StandsAfter}
use Rattle.losses.proofs.RunLemmas.{Kind, Syncs, Closes, Passed, kind_of, describes_nothing, describes_none}
use Rattle.losses.proofs.RunLemmas.{from_sync-begun, from_sync-none, open_last}
use Rattle.losses.proofs.StateLaws.{state_laws}

-- The run with the packet is followed, or the packet is not decoded.
pub record FedRun (words : Words) (mode reads : Mode) (missing : ℕ) (ps : List Packet) (p : Packet) (new : Decoder)
    (after : List Event) (result : Result ⊤ DecodeFault) : Type 0 where
  pub follows : OnOk result (FollowsRun words mode reads missing (ps ++ p ∷ []) (is_closing_packet p) after new)
  pub refused : IfErr result (λ why. IsNotDecodedInRun words reads missing ps p why)

module _ (words : Words) (mode : Mode) (p : Packet) (old new : Decoder) (before after : List Event) where
  -- A decoder that stands for packets of which the last one closes nothing is open.
  open_still : (trace : List Packet) → DecoderStands words (trace ++ p ∷ []) after new → is_closing_packet p ≡ false
      → ¬ IsClosed new
  open_still trace stands stays closed =
      let ended = (state_laws.closed words (trace ++ p ∷ []) after new stands).0 closed in
      let is = last_is_closing-next trace p in
      cc

  -- In the run from number 0 on.
  pub feeds_first : (ps : List Packet) (result : Result ⊤ DecodeFault) → Feeds words p old new before after result
      → Refuses words p old before result → FollowsRun words mode (mode_of_first 0 mode ps) 0 ps false before old
      → FedRun words mode (mode_of_first 0 mode (ps ++ p ∷ [])) 0 ps p new after result
  feeds_first ps (Err why) feeds refuses f =
      let stands : DecoderStands words ps before old = f.stands refl in
      let opens = refuses.not_opened ps stands in
      record {
        follows = tt;
        refused = record {
          not_opened = (
            λ is. let o = opens.0 (ap Err is) in ((refl, o.0), o.1),
            λ o. let is = opens.1 (o.0.1, o.1) in cc,
          );
          stays_open = λ is. f.stays_open refl (refuses.after_close.0 (ap Err is));
          reason = feeds.none ps stands;
        };
      }
  feeds_first [] (Ok done) feeds refuses f =
      let stood : DecoderStands words [] before old = f.stands refl in
      let stands : DecoderStands words (p ∷ []) after new = feeds.stands [] stood in
      let opened = opening_of p stands.described.begins in
      let empty = describes_none words before f.described in
      record {
        follows = record {
          described = stands.described;
          stands = λ stays. stands;
          stays_open = open_still [] stands;
          announced = Some opened.0;
          has_mode = feeds.announced opened.0 opened.1 (subst (λ e. DecoderStands words [] e old) empty stood);
          right = ap (mode_or mode) (sym opened.1);
        };
        refused = tt;
      }
  feeds_first (q ∷ qs) (Ok done) feeds refuses f =
      let stood : DecoderStands words (q ∷ qs) before old = f.stands refl in
      let stands : DecoderStands words ((q ∷ qs) ++ p ∷ []) after new = feeds.stands (q ∷ qs) stood in
      record {
        follows = record {
          described = stands.described;
          stands = λ stays. stands;
          stays_open = open_still (q ∷ qs) stands;
          announced = f.announced;
          has_mode = feeds.mode_kept f.announced f.has_mode (open_last words q qs p after stands.described);
          right = f.right;
        };
        refused = tt;
      }

  -- In a run behind missing messages.
  module _ (reads : Mode) (missing : ℕ) (ps : List Packet)
      (f : FollowsRun words mode reads (suc missing) ps false before old) where
    -- Its stretch has begun, with this packet or before it.
    stands_on : (trace : List Packet) (syncs : List Packet) → from_sync (ps ++ p ∷ []) ≡ syncs
        → opened reads syncs ≡ trace ++ p ∷ []
        → ((decoder : Decoder) → DecoderStands words (trace ++ p ∷ []) after decoder
        → StandsAfter words reads syncs after decoder)
        → (result : Result ⊤ DecodeFault) → Refuses words p old before result → ¬ (result ≡ Err NotOpened)
        → OnOk result (DecoderStands words (trace ++ p ∷ []) after new) → OnOk result (HasMode f.announced new)
        → IfErr result (λ why. (why ≡ Memory) ⊎ ((other : List Event) → ¬ Describes words (trace ++ p ∷ []) other))
        → FedRun words mode reads (suc missing) ps p new after result
    stands_on trace syncs starts whole stood (Err why) refuses never on has none = record {
      follows = tt;
      refused = record {
        not_opened = (λ is. absurd (never (ap Err is)), λ o. let n = o.0.0 in cc);
        stays_open = λ is. f.stays_open refl (refuses.after_close.0 (ap Err is));
        reason = subst (λ l. (why ≡ Memory) ⊎ ((other : List Event) → ¬ Describes words (opened reads l) other))
            (sym starts)
            (subst (λ l. (why ≡ Memory) ⊎ ((other : List Event) → ¬ Describes words l other)) (sym whole) none);
      };
    }
    stands_on trace syncs starts whole stood (Ok done) refuses never on has none = record {
      follows = record {
        described = subst (λ l. Describes words (opened reads l) after) (sym starts)
            (subst (λ l. Describes words l after) (sym whole) on.described);
        stands = λ stays. subst (λ l. StandsAfter words reads l after new) (sym starts) (stood new on);
        stays_open = open_still trace on;
        announced = f.announced;
        has_mode = has;
        right = f.right;
      };
      refused = tt;
    }

    module _ (result : Result ⊤ DecodeFault) (feeds : Feeds words p old new before after result)
        (refuses : Refuses words p old before result) where
      goes_on : (q : Packet) (qs : List Packet) → from_sync ps ≡ q ∷ qs
          → DecoderStands words (open_packet reads ∷ q ∷ qs) before old
          → FedRun words mode reads (suc missing) ps p new after result
      goes_on q qs is stood =
          let trace = open_packet reads ∷ q ∷ qs in
          stands_on trace ((q ∷ qs) ++ p ∷ []) (from_sync-begun ps p q qs is) refl (λ decoder stands. stands) result
          refuses (λ unopened. let o = (refuses.not_opened trace stood).0 unopened in let n = o.0 in cc)
          (feeds.stands trace stood) (kept result (feeds.stands trace stood)) (feeds.none trace stood)
        where
          kept : (result : Result ⊤ DecodeFault)
              → OnOk result (DecoderStands words ((open_packet reads ∷ q ∷ qs) ++ p ∷ []) after new)
              → OnOk result (HasMode f.announced new)
          kept (Ok done) on =
              feeds.mode_kept f.announced f.has_mode (open_last words (open_packet reads) (q ∷ qs) p after on.described)
          kept (Err why) on = tt

      not_begun : from_sync ps ≡ [] → PassesOver reads old → before ≡ [] → Kind p
          → FedRun words mode reads (suc missing) ps p new after result
      not_begun is passing empty (Syncs one syncs no_open) =
          stands_on (open_packet reads ∷ []) (p ∷ []) (from_sync-none ps p is ∙ one) refl (λ decoder stands. stands)
          result refuses (refuses.never_unopened reads passing)
          (feeds.begins reads passing syncs after (ap (λ l. l ++ after) (sym empty))) (kept result)
          (feeds.begins_none reads passing syncs)
        where
          kept : (result : Result ⊤ DecodeFault) → OnOk result (HasMode f.announced new)
          kept (Ok done) = feeds.mode_kept f.announced f.has_mode no_open
          kept (Err why) = tt
      not_begun is passing empty (Closes one closing no_open) =
          let over = feeds.closes reads passing closing in
          let none = from_sync-none ps p is ∙ one in
          let nothing : after ≡ [] = over.2 ∙ empty in
          subst (λ r. FedRun words mode reads (suc missing) ps p new after r) (sym over.0)
          (record {
            follows = record {
              described = subst (λ l. Describes words (opened reads l) after) (sym none)
                  (subst (Describes words []) (sym nothing) (describes_nothing words));
              stands = λ stays. cc;
              stays_open = λ stays. cc;
              announced = f.announced;
              has_mode = feeds.mode_kept f.announced f.has_mode no_open;
              right = f.right;
            };
            refused = tt;
          })
      not_begun is passing empty (Passed one stays no_sync) =
          let over = feeds.passed_over reads passing no_sync stays in
          let none = from_sync-none ps p is ∙ one in
          let nothing : after ≡ [] = over.2 ∙ empty in
          let on : PassesOver reads new = subst (PassesOver reads) (sym over.1) passing in
          subst (λ r. FedRun words mode reads (suc missing) ps p new after r) (sym over.0)
          (record {
            follows = record {
              described = subst (λ l. Describes words (opened reads l) after) (sym none)
                  (subst (Describes words []) (sym nothing) (describes_nothing words));
              stands = λ stays. subst (λ l. StandsAfter words reads l after new) (sym none) (on, nothing);
              stays_open = λ stays. state_laws.passing reads new on;
              announced = f.announced;
              has_mode = subst (HasMode f.announced) (sym over.1) f.has_mode;
              right = f.right;
            };
            refused = tt;
          })

      by_syncs : (syncs : List Packet) → from_sync ps ≡ syncs → StandsAfter words reads syncs before old
          → FedRun words mode reads (suc missing) ps p new after result
      by_syncs [] is stood = not_begun is stood.0 stood.1 (kind_of p)
      by_syncs (q ∷ qs) is stood = goes_on q qs is stood

      pub feeds_later : FedRun words mode reads (suc missing) ps p new after result
      feeds_later = by_syncs (from_sync ps) refl (f.stands refl)
