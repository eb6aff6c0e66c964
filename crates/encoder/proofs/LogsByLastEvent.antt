-- A log by its last event.
use Rattle.std.proofs.Common.{◌≡◌, ◌⊎◌, ℕ, Bool, true, false, ◌&&◌, not, cond, List, [], ◌∷◌, ◌++◌, Option, Some, None}
use Rattle.std.proofs.Common.{refl, ap, ◌∙◌, inl, inr}
use Rattle.std.proofs.lemmas.List.{append-nil}
use Rattle.std.specs.List.{last_or}
use Rattle.std.proofs.lemmas.Bool.{and_parts}
use Rattle.std.proofs.Math.Bool.{and-false}
use Rattle.retire.specs.Events.{is_retirement}
use Rattle.retire.specs.declared.event.Event.{Event}
use Rattle.retire.specs.declared.event.Event.TheVariants.{Retire, Trap}
use Rattle.rvclass.specs.Words.{Words}
use Rattle.legalpath.specs.Backward.{is_backward}
use Rattle.legalpath.specs.Discontinuity.{is_discontinuity}
use Rattle.payload.specs.declared.mode.Mode.{Mode}
use Rattle.payload.specs.declared.packet.Packet.{Packet}
use Rattle.payload.specs.declared.packet.Packet.TheVariants as packet
use Rattle.payload.specs.declared.packet.Support.TheVariants.{Open}
use Rattle.encoder.specs.Due.{due_at, due_at_last, due_of_last}
use Rattle.encoder.specs.Packets.{reports}
use Rattle.encoder.specs.PacketsSoFar.{is_known, decided, packets_so_far}
use Rattle.encoder.specs.Piece.{is_cut, pieces}
use Rattle.encoder.specs.Rule.{is_some_and, is_handler, is_start, rule}
use Rattle.encoder.specs.Spot.{Spot, spots, spots_of, count_with}
use Rattle.encoder.specs.EncoderStands.{count_all, reported_after_pieces, since_cut, undecided, reported_so_far}
use Rattle.encoder.specs.EncoderStands.{unreported}
use Rattle.encoder.specs.declared.due.Due.{Due}
use Rattle.encoder.specs.declared.rule.Rule.{Rule}
use Rattle.encoder.specs.declared.rule.Rule.TheVariants as by
use Rattle.encoder.proofs.SpotLemmas.{before_last, count_all-append, last_or-snoc, before_last-snoc, decided-snoc}
use Rattle.encoder.proofs.SpotLemmas.{undecided-snoc, since_cut-append}
use Rattle.encoder.proofs.PacketsReached.{spot_after, spots-snoc, Reaches}
use Rattle.encoder.proofs.RulesByDue.{following}

-- Every log is empty or has a last event.
pub by_last : (log : List Event) → (log ≡ []) ⊎ ((front : List Event) × (last : Event) × (log ≡ front ++ last ∷ []))
by_last [] = inl refl
by_last (event ∷ log) = elim (by_last log) [
  | inl e ↦ inr ([], event, ap (λ l. event ∷ l) e)
  | inr r ↦ inr (event ∷ r.0, r.1, ap (λ l. event ∷ l) r.2)
]

pub spot_after-following : (log : List Event) (held next : Event) (a after : Option Event)
    → spot_after (log ++ held ∷ []) next after ≡ following (spot_after log held a) next after
spot_after-following log held next a after =
    let last = spot_after (log ++ held ∷ []) next after in
    ap (λ n. record last { number = n }) (count_all-append 0 log (held ∷ []))
    ∙ ap (λ b. record last { number = count_with (count_all 0 log) held; before_that = b })
    (before_last-snoc None None log held)
    ∙ ap (λ b. record (following (spot_after log held a) next after) { before = b }) (last_or-snoc None log held)

module _ (words : Words) (period : ℕ) where
  pub decided_is : (log : List Event) (held : Event) (k : Bool) → is_known words (spot_after log held None) ≡ k
      → decided words (spots_of (log ++ held ∷ [])) ≡ spots 0 None None log (Some held)
      ++ cond k (spot_after log held None ∷ []) []
  decided_is log held k e =
      ap (decided words) (spots-snoc log held None) ∙ decided-snoc words (spots 0 None None log (Some held))
      (spot_after log held None)
      ∙ ap (λ b. spots 0 None None log (Some held) ++ cond b (spot_after log held None ∷ []) []) e

  undecided_is : (log : List Event) (held : Event) (k : Bool) → is_known words (spot_after log held None) ≡ k
      → undecided words (spots_of (log ++ held ∷ [])) ≡ cond k [] (held ∷ [])
  undecided_is log held k e =
      ap (undecided words) (spots-snoc log held None) ∙ undecided-snoc words (spots 0 None None log (Some held))
      (spot_after log held None)
      ∙ ap (λ b. cond b [] (held ∷ [])) e

  -- A handler's rule does not hang on what follows.
  pub rule_known : (s : Spot) → is_known words s ≡ true → rule words period s ≡ by.Handler
  rule_known s h =
      let k = and_parts (is_retirement s.event) (is_handler words s.before_that s.before s.event) h in
      by_tests (is_retirement s.event) (is_handler words s.before_that s.before s.event) _ _ k.0 k.1
    where
      by_tests : (x h : Bool) (r t : Rule) → x ≡ true → h ≡ true → cond x (cond h by.Handler r) t ≡ by.Handler
      by_tests true true r t e f = refl
      by_tests true false r t e f = cc
      by_tests false h r t e f = cc

  -- What follows a retirement is no handler.
  pub known-behind : (s : Spot) (next : Event) (after : Option Event) → is_retirement s.event ≡ true
      → is_known words (following s next after) ≡ false
  known-behind s next after r = by_event s.event r
    where
      by_event : (e : Event) → is_retirement e ≡ true → (is_retirement next && is_handler words s.before (Some e) next)
          ≡ false
      by_event (Retire addr itype priv) r = and-false (is_retirement next)
      by_event (Trap priv interrupt cause epc tval) r = cc

  -- Before a trap every event is a cut.
  pub cut_before_trap : (log : List Event) (held trap : Event) (front : List Event) → is_retirement trap ≡ false
      → is_cut front held (rule words period (spot_after log held (Some trap))) ≡ true
  cut_before_trap log held (Retire addr itype priv) front t = cc
  cut_before_trap log (Retire at type level) (Trap priv interrupt cause epc tval) front t =
      by_tests (is_handler words (before_last None None log) (last_or None log) (Retire at type level))
      (is_start period (count_all 0 log) (last_or None log) level)
      (is_some_and (is_discontinuity words) (last_or None log)) (is_backward words (Retire at type level))
    where
      by_tests : (h y z b : Bool) → is_cut front (Retire at type level)
          (cond h by.Handler (cond y by.Sync (cond z (by.Target true)
          (cond true by.Explicit (cond b by.Notify by.MapOrNothing))))) ≡ true
      by_tests true y z b = refl
      by_tests false true z b = refl
      by_tests false false true b = refl
      by_tests false false false b = refl
  cut_before_trap log (Trap level irq code at value) (Trap priv interrupt cause epc tval) front t =
      by_before
      (is_some_and is_retirement (last_or None log) && not (is_some_and (is_discontinuity words) (last_or None log)))
    where
      by_before : (x : Bool) → not (x && false) ≡ true
      by_before true = refl
      by_before false = refl

  pub none_before_trap : (log : List Event) (trap : Event) → is_retirement trap ≡ false
      → since_cut words period [] (spots 0 None None log (Some trap)) ≡ []
  none_before_trap log trap t = elim (by_last log) [
    | inl e ↦ ap (λ l. since_cut words period [] (spots 0 None None l (Some trap))) e
    | inr r ↦
        ap (λ l. since_cut words period [] (spots 0 None None l (Some trap))) r.2
        ∙ ap (since_cut words period []) (spots-snoc r.0 r.1 (Some trap))
        ∙ since_cut-append words period [] (spots 0 None None r.0 (Some r.1)) (spot_after r.0 r.1 (Some trap) ∷ [])
        ∙ ap (λ b. cond b [] (since_cut words period [] (spots 0 None None r.0 (Some r.1)) ++ r.1 ∷ []))
        (cut_before_trap r.0 r.1 trap (since_cut words period [] (spots 0 None None r.0 (Some r.1))) t)
  ]

module _ (words : Words) (period : ℕ) (mode : Mode) where
  -- What a log's packets so far are, what they report last and leave unreported, and what is due of its last event.
  pub record Views (log : List Event) (packets : List Packet) (reported : ℕ) (left : List Event) (due : Due) : Type 0
    where
      pub so_far : packets_so_far words period mode log ≡ packet.Support (Open mode) ∷ packets
      pub reported_is : reported_so_far words period log ≡ reported
      pub rest : unreported words period log ≡ left
      pub asked : due_of_last words period log ≡ due

  view : (log : List Event) (held : Event) (ss : List Spot) (us : List Event) (packets : List Packet) (reported : ℕ)
      (front : List Event) → decided words (spots_of (log ++ held ∷ [])) ≡ ss
      → undecided words (spots_of (log ++ held ∷ [])) ≡ us → Reaches words period mode ss packets reported front
      → Views (log ++ held ∷ []) packets reported (front ++ us) (due_at words period (spot_after log held None))
  view log held ss us packets reported front d u h = record {
    so_far = ap (λ x. packet.Support (Open mode) ∷ reports mode 0 (pieces words period [] x)) d
        ∙ ap (λ x. packet.Support (Open mode) ∷ x) h.given;
    reported_is = ap (λ x. reported_after_pieces 0 (pieces words period [] x)) d ∙ h.reported_is;
    rest = ap (λ x. since_cut words period [] x ++ undecided words (spots_of (log ++ held ∷ []))) d
        ∙ ap (λ x. x ++ undecided words (spots_of (log ++ held ∷ []))) h.open_ ∙ ap (λ x. front ++ x) u;
    asked = ap (λ x. due_at_last words period (last_or None x)) (spots-snoc log held None)
        ∙ ap (due_at_last words period) (last_or-snoc None (spots 0 None None log (Some held))
        (spot_after log held None));
  }

  pub view_open : (log : List Event) (held : Event) (packets : List Packet) (reported : ℕ) (front : List Event)
      → is_known words (spot_after log held None) ≡ false
      → Reaches words period mode (spots 0 None None log (Some held)) packets reported front
      → Views (log ++ held ∷ []) packets reported (front ++ held ∷ [])
      (due_at words period (spot_after log held None))
  view_open log held packets reported front k h =
      view log held (spots 0 None None log (Some held)) (held ∷ []) packets reported front
      (decided_is words period log held false k ∙ append-nil (spots 0 None None log (Some held)))
      (undecided_is words period log held false k) h

  pub view_known : (log : List Event) (held : Event) (packets : List Packet) (reported : ℕ)
      → is_known words (spot_after log held None) ≡ true → Reaches words period mode
      (spots 0 None None log (Some held) ++ spot_after log held None ∷ []) packets reported []
      → Views (log ++ held ∷ []) packets reported [] (due_at words period (spot_after log held None))
  view_known log held packets reported k h =
      view log held (spots 0 None None log (Some held) ++ spot_after log held None ∷ []) [] packets reported []
      (decided_is words period log held true k) (undecided_is words period log held true k) h
