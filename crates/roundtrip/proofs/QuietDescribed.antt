-- What is described by a retirement that comes in a quiet stretch.
use Rattle.std.proofs.Common.{◌≡◌, ℕ, ◌+◌, ◌^◌, ◌<◌, Bool, true, false, ◌||◌, List, [], ◌∷◌, ◌++◌, Option, Some, None}
use Rattle.std.proofs.Common.{refl, sym, ap, subst, ◌∙◌, append_assoc}
use Rattle.std.proofs.Math.Bool.{or-false}
use Rattle.std.specs.Prelude.{is_none}
use Rattle.std.proofs.lemmas.Bool.{and_parts}
use Rattle.retire.specs.Events.{privilege, outcomes}
use Rattle.retire.specs.declared.event.Event.{Event}
use Rattle.retire.specs.declared.event.Event.TheVariants.{Retire, Trap}
use Rattle.rvclass.specs.Words.{Words}
use Rattle.legalpath.proofs.FollowOnLemmas.{last_or-append}
use Rattle.legalpath.specs.Backward.{is_backward}
use Rattle.legalpath.specs.Discontinuity.{is_discontinuity}
use Rattle.payload.proofs.AddressFields.{aim-delta}
use Rattle.payload.specs.AddressField.{aim, delta}
use Rattle.payload.specs.declared.mode.Mode.{Mode}
use Rattle.payload.specs.declared.packet.Packet.{Packet}
use Rattle.payload.specs.declared.packet.Packet.TheVariants as packet
use Rattle.encoder.specs.Packets.{closing}
use Rattle.encoder.specs.Piece.{Piece, is_cut, cut_or_go_on, next_piece}
use Rattle.encoder.specs.Rule.{is_handler, is_start, is_cut_off}
use Rattle.encoder.specs.Spot.{first_event}
use Rattle.encoder.specs.declared.rule.Rule.{Rule}
use Rattle.encoder.specs.declared.rule.Rule.TheVariants as by
use Rattle.decoder.specs.Fits.{FitsAddress}
use Rattle.decoder.specs.Settling.{makes_explicit, explicit_or_target, settled_by}
use Rattle.decoder.specs.Walk.{AtBranch, AtAddress, AtTarget, EndsAt, RetiresAt, IsWalk, IsWalkFrom}
use Rattle.roundtrip.proofs.QuietLemmas.{all-snoc, none_early-none, none_early-last, none_early-snoc}
use Rattle.roundtrip.proofs.RuleFacts.{AnswersOf}
use Rattle.roundtrip.proofs.RestDescribed.{RestDescribed, Quiet, GoesOn, AtCut, InStretch, explicit_before}
use Rattle.roundtrip.proofs.RestDescribed.{RestDescribedAfter, cut, quiet_walks}
use Rattle.roundtrip.proofs.RestDescribed.{not_handled}

-- A plain address packet before one that does not make it explicit has a walk to a target.
as_target : (words : Words) (before : Option Event) (taken : List Bool) (addr : ℕ) (next : Packet) (walk : List Event)
    → makes_explicit next ≡ false → IsWalkFrom words before taken (AtTarget addr) walk
    → FitsAddress words before taken addr (settled_by (Some next)) walk
as_target words before taken addr next walk explicit is =
    subst (λ end. FitsAddress words before taken addr end walk) (sym (ap explicit_or_target explicit)) is

-- And before one that does, it has a walk to its address.
as_explicit : (words : Words) (before : Option Event) (taken : List Bool) (addr : ℕ) (next : Packet)
    (walk : List Event) → makes_explicit next ≡ true → IsWalkFrom words before taken (AtAddress addr) walk
    → FitsAddress words before taken addr (settled_by (Some next)) walk
as_explicit words before taken addr next walk explicit is =
    subst (λ end. FitsAddress words before taken addr end walk) (sym (ap explicit_or_target explicit)) is

module _ (words : Words) (period : ℕ) (mode : Mode) where
  -- A retirement that is neither cut off nor the last has another behind it that is no new start.
  goes_on : (number : ℕ) (event : Event) (events : List Event)
      → (is_cut_off period number event (first_event events None) || is_none (first_event events None)) ≡ false
      → GoesOn period (number + 1) event events
  goes_on number event [] is = cc
  goes_on number event (Trap priv interrupt cause epc tval ∷ events) is = cc
  goes_on number event (Retire addr itype priv ∷ events) is = sym (or-false _) ∙ is

  -- After a target that is not cut off the next packet does not make it explicit.
  target_before : (number : ℕ) (event : Event) (rule : Rule) (events : List Event)
      → makes_explicit (packet.Support (closing rule)) ≡ false
      → is_cut_off period number event (first_event events None) ≡ false
      → explicit_before period (number + 1) (Some event) rule events ≡ false
  target_before number event rule [] closes is = closes
  target_before number event rule (Trap priv interrupt cause epc tval ∷ events) closes is = is
  target_before number event rule (Retire addr itype priv ∷ events) closes is = is

  -- After a retirement that is cut off or the last it does.
  explicit_after : (number : ℕ) (event : Event) (rule : Rule) (events : List Event)
      → makes_explicit (packet.Support (closing rule)) ≡ true
      → (is_cut_off period number event (first_event events None) || is_none (first_event events None)) ≡ true
      → explicit_before period (number + 1) (Some event) rule events ≡ true
  explicit_after number event rule [] closes is = closes
  explicit_after number event rule (Trap priv interrupt cause epc tval ∷ events) closes is = refl
  explicit_after number event rule (Retire addr itype priv ∷ events) closes is = sym (or-false _) ∙ is

  module _ (since : Event) (front : List Event) (before : Event) (number : ℕ) (before_that : Option Event)
      (reported : ℕ) (by_last : Rule) (addr itype priv : ℕ) (events : List Event) (rest : List Event → List Piece)
    where
      -- After a discontinuity it ends a walk to a target.
      walk_to_target : Quiet words since front before → reported < 2 ^ 64
          → RetiresAt (privilege since) (Retire addr itype priv) → addr < 2 ^ 64 → is_discontinuity words before ≡ true
          →
          IsWalk words since (outcomes (front ++ Retire addr itype priv ∷ []))
          (AtTarget (aim mode reported (delta mode reported addr))) (front ++ Retire addr itype priv ∷ [])
      walk_to_target quiet known here fits leaves =
          quiet_walks words since front before (Retire addr itype priv) (AtTarget _) quiet here (
            none_early-last (is_discontinuity words) since front before quiet.early quiet.ends leaves,
            sym (aim-delta mode reported addr fits),
          )

      -- Elsewhere it ends a walk to its address.
      walk_to_address : Quiet words since front before → reported < 2 ^ 64
          → RetiresAt (privilege since) (Retire addr itype priv) → addr < 2 ^ 64 → is_discontinuity words before ≡ false
          →
          IsWalk words since (outcomes (front ++ Retire addr itype priv ∷ []))
          (AtAddress (aim mode reported (delta mode reported addr))) (front ++ Retire addr itype priv ∷ [])
      walk_to_address quiet known here fits stays =
          quiet_walks words since front before (Retire addr itype priv) (AtAddress _) quiet here (
            none_early-none (is_discontinuity words) since front before quiet.early quiet.ends stays,
            sym (aim-delta mode reported addr fits),
          )

      -- A retirement that no packet reports fills the branch map, or the stretch goes on.
      unreported : Quiet words since front before → reported < 2 ^ 64
          → RetiresAt (privilege since) (Retire addr itype priv) →
          AnswersOf words period number before_that (Some before) (Retire addr itype priv) (first_event events None)
          by.MapOrNothing →
          RestDescribedAfter words period mode (Some before) (Retire addr itype priv) (number + 1) events rest →
          RestDescribed words mode (Some since) reported by_last front (Retire addr itype priv ∷ events) false
          (next_piece front (Retire addr itype priv) by.MapOrNothing rest)
      unreported quiet known here answers on = by_count (is_cut front (Retire addr itype priv) by.MapOrNothing) refl
        where
          by_count : (full : Bool) → is_cut front (Retire addr itype priv) by.MapOrNothing ≡ full
              → RestDescribed words mode (Some since) reported by_last front (Retire addr itype priv ∷ events) false
              (cut_or_go_on full (record { front = front; last = Retire addr itype priv; by = by.MapOrNothing }) rest)
          by_count true full =
              let last = Retire addr itype priv in
              let described = on (Some last) [] reported by.MapOrNothing
              (AtCut (not_handled words (Some before) addr itype priv events) known) in
              let ends : EndsAt words AtBranch since front last = (
                none_early-none (is_discontinuity words) since front
                    before quiet.early quiet.ends answers.1,
                (and_parts _ _ full).0,
              ) in
              cut words mode (Some since) reported by_last front last by.MapOrNothing events _ (rest [])
              (quiet_walks words since front before last AtBranch quiet here ends) described
          by_count false full =
              let last = Retire addr itype priv in
              let none = none_early-none (is_discontinuity words) since front before quiet.early quiet.ends answers.1 in
              let longer : Quiet words since (front ++ last ∷ []) last = record {
                before = quiet.before;
                all = all-snoc (RetiresAt (privilege since)) front last quiet.all here;
                now = here;
                forward = all-snoc (λ e. is_backward words e ≡ false) front last quiet.forward answers.3;
                early = none_early-snoc (is_discontinuity words) since front last none;
                ends = last_or-append (Some since) front (last ∷ []);
              } in
              let described = on (Some since) (front ++ last ∷ []) reported by_last
              (InStretch longer known (goes_on number last events answers.2)) in
              record {
                fit = described.fit;
                whole = described.whole
                    ∙ append_assoc front (last ∷ []) events;
                head = described.head;
              }

      -- A retirement after a retirement that is no handler and no new start is described by its rule.
      pub quiet_retirement_described : Quiet words since front before → reported < 2 ^ 64
          → RetiresAt (privilege since) (Retire addr itype priv) → addr < 2 ^ 64 →
          is_handler words before_that (Some before) (Retire addr itype priv) ≡ false
          → is_start period number (Some before) priv ≡ false →
          (rule : Rule) → AnswersOf words period number before_that (Some before) (Retire addr itype priv)
          (first_event events None) rule →
          RestDescribedAfter words period mode (Some before) (Retire addr itype priv) (number + 1) events rest →
          RestDescribed words mode (Some since) reported by_last front (Retire addr itype priv ∷ events) false
          (next_piece front (Retire addr itype priv) rule rest)
      quiet_retirement_described quiet known here fits handler start (by.Trap with) answers on = absurd answers
      quiet_retirement_described quiet known here fits handler start by.Handler answers on = cc
      quiet_retirement_described quiet known here fits handler start by.Sync answers on = cc
      quiet_retirement_described quiet known here fits handler start (by.Target true) answers on =
          let last = Retire addr itype priv in
          let described = on (Some last) [] addr (by.Target true)
          (AtCut (not_handled words (Some before) addr itype priv events) fits) in
          cut words mode (Some since) reported by_last front last (by.Target true) events _ (rest [])
          (walk_to_target quiet known here fits answers.1) described
      quiet_retirement_described quiet known here fits handler start (by.Target false) answers on =
          let last = Retire addr itype priv in
          let described = on (Some last) [] addr (by.Target false)
          (AtCut (not_handled words (Some before) addr itype priv events) fits) in
          let head = described.head ∙ target_before number last (by.Target false) events refl answers.2 in
          cut words mode (Some since) reported by_last front last (by.Target false) events _ (rest [])
          (as_target words (Some since) _ _ _ _ head (walk_to_target quiet known here fits answers.1)) described
      quiet_retirement_described quiet known here fits handler start by.Explicit answers on =
          let last = Retire addr itype priv in
          let described = on (Some last) [] addr by.Explicit
          (AtCut (not_handled words (Some before) addr itype priv events) fits) in
          let head = described.head ∙ explicit_after number last by.Explicit events refl answers.2 in
          cut words mode (Some since) reported by_last front last by.Explicit events _ (rest [])
          (as_explicit words (Some since) _ _ _ _ head (walk_to_address quiet known here fits answers.1)) described
      quiet_retirement_described quiet known here fits handler start by.Notify answers on =
          let last = Retire addr itype priv in
          let described = on (Some last) [] addr by.Notify (AtCut
          (not_handled words (Some before) addr itype priv events)
          fits) in
          cut words mode (Some since) reported by_last front last by.Notify events _ (rest [])
          (walk_to_address quiet known here fits answers.1) described
      quiet_retirement_described quiet known here fits handler start by.MapOrNothing answers on =
          unreported quiet known here answers on
