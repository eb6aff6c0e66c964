-- What the code does with an event, by what the encoder holds.
use Rattle.std.proofs.Common.{◌≡◌, ℕ, ◌≤◌, Bool, true, false, ◌&&◌, not, cond, List, [], ◌∷◌, ◌++◌, length, Some, refl}
use Rattle.std.proofs.Common.{sym, ap, ◌∙◌}
use Rattle.std.specs.Prelude.{nat_lt}
use Rattle.retire.proofs.OutcomesLemmas.{outcomes-append, outcomes-branch, outcomes-other}
use Rattle.retire.specs.Events.{place, is_branch, is_taken, outcomes}
use Rattle.retire.specs.declared.event.Event.{Event}
use Rattle.rvclass.specs.Words.{Words}
use Rattle.payload.specs.declared.mode.Mode.{Mode}
use Rattle.payload.specs.declared.packet.Packet.{Packet}
use Rattle.encoder.specs.Packets.{packet_by, reported_by}
use Rattle.encoder.specs.Piece.{is_cut}
use Rattle.encoder.specs.steps.Stepping.{rule_before, rule_of_quiet, cuts_off, jumps_back_to, is_map_or_nothing}
use Rattle.encoder.specs.steps.Stepping.{is_handler_due, is_quiet, next_due, due_next, packets_by, packets_before}
use Rattle.encoder.specs.steps.Stepping.{reported_before, handler_packet, pending_with, left_after, hold, given}
use Rattle.encoder.specs.steps.Stepping.{given_with, encoder_after, after_with}
use Rattle.encoder.specs.declared.due.Due.{Due}
use Rattle.encoder.specs.declared.due.Due.TheVariants as due
use Rattle.encoder.specs.declared.encoder.Encoder.{Encoder}
use Rattle.encoder.specs.declared.rule.Rule.{Rule}
use Rattle.encoder.specs.declared.rule.Rule.TheVariants as by
use Rattle.encoder.proofs.CountLemmas.{full_by_count}

-- The event is held with its outcome, where it is no handler.
pub pending_with-outcomes : (d : Due) (front : List Event) (event : Event) → is_handler_due d ≡ false
    → pending_with d event (outcomes front) ≡ outcomes (front ++ event ∷ [])
pending_with-outcomes d front event h =
    ap (λ b. cond (not b && is_branch event) (outcomes front ++ is_taken event ∷ []) (outcomes front)) h
    ∙ by_branch (is_branch event) refl ∙ sym (outcomes-append front (event ∷ []))
  where
    append_none : (l : List Bool) → l ≡ l ++ []
    append_none [] = refl
    append_none (x ∷ l) = ap (λ k. x ∷ k) (append_none l)

    by_branch : (b : Bool) → is_branch event ≡ b → cond b (outcomes front ++ is_taken event ∷ []) (outcomes front)
        ≡ outcomes front ++ outcomes (event ∷ [])
    by_branch true e = ap (λ l. outcomes front ++ l) (sym (outcomes-branch event [] e))
    by_branch false e = append_none (outcomes front) ∙ ap (λ l. outcomes front ++ l) (sym (outcomes-other event [] e))

pub pending_with-handler : (d : Due) (event : Event) → is_handler_due d ≡ true → pending_with d event [] ≡ []
pending_with-handler d event h = ap (λ b. cond (not b && is_branch event) (is_taken event ∷ []) []) h

-- A rule whose packet is due at the event itself, and which ends a piece.
abbrev pub IsOwn : Rule → Type 0
IsOwn (by.Trap true) = ⊥
IsOwn (by.Trap false) = Unit {0}
IsOwn by.Handler = ⊥
IsOwn by.Sync = Unit {0}
IsOwn (by.Target cut_off) = Unit {0}
IsOwn by.Explicit = Unit {0}
IsOwn by.Notify = Unit {0}
IsOwn by.MapOrNothing = Unit {0}

pub rule_before-IsOwn : (words : Words) (held : Event) (d : Due) (next : Event) (d' : Due) → is_handler_due d ≡ false
    → IsOwn (rule_before words held d next d')
rule_before-IsOwn words held due.TrapOrHandler next d' h = tt
rule_before-IsOwn words held due.Trap next d' h = tt
rule_before-IsOwn words held due.Handler next d' h = cc
rule_before-IsOwn words held due.Sync next d' h = tt
rule_before-IsOwn words held due.Target next d' h = tt
rule_before-IsOwn words held due.Nothing next d' h = by_tests (cuts_off d') (jumps_back_to words held next)
  where
    by_tests : (c b : Bool) → IsOwn (rule_of_quiet c b)
    by_tests true b = tt
    by_tests false true = tt
    by_tests false false = tt

-- An event is quiet exactly where it is no cut.
pub quiet_is : (front : List Event) (held : Event) (r : Rule) → length (outcomes front) ≤ 30 → IsOwn r
    → (is_map_or_nothing r && nat_lt (length (outcomes (front ++ held ∷ []))) 31) ≡ not (is_cut front held r)
quiet_is front held (by.Trap true) few own = absurd own
quiet_is front held (by.Trap false) few own = refl
quiet_is front held by.Handler few own = absurd own
quiet_is front held by.Sync few own = refl
quiet_is front held (by.Target cut_off) few own = refl
quiet_is front held by.Explicit few own = refl
quiet_is front held by.Notify few own = refl
quiet_is front held by.MapOrNothing few own =
    twice (nat_lt (length (outcomes (front ++ held ∷ []))) 31) ∙ ap not (sym (full_by_count front held few))
  where
    twice : (x : Bool) → x ≡ not (not x)
    twice true = refl
    twice false = refl

-- Its packet is that of its piece.
pub packets_by-own : (front : List Event) (held : Event) (r : Rule) (mode : Mode) (reported : ℕ) → IsOwn r
    → packets_by r held (outcomes (front ++ held ∷ [])) mode reported ≡ packet_by mode reported front held r ∷ []
packets_by-own front held (by.Trap true) mode reported own = absurd own
packets_by-own front held (by.Trap false) mode reported own = refl
packets_by-own front held by.Handler mode reported own = absurd own
packets_by-own front held by.Sync mode reported own = refl
packets_by-own front held (by.Target cut_off) mode reported own = refl
packets_by-own front held by.Explicit mode reported own = refl
packets_by-own front held by.Notify mode reported own = refl
packets_by-own front held by.MapOrNothing mode reported own = refl

pub rule_before-handler : (words : Words) (held : Event) (d : Due) (next : Event) (d' : Due) → is_handler_due d ≡ true
    → rule_before words held d next d' ≡ by.Handler
rule_before-handler words held due.TrapOrHandler next d' h = cc
rule_before-handler words held due.Trap next d' h = cc
rule_before-handler words held due.Handler next d' h = refl
rule_before-handler words held due.Sync next d' h = cc
rule_before-handler words held due.Target next d' h = cc
rule_before-handler words held due.Nothing next d' h = cc

-- What an encoder that holds this event gives and becomes.
pub record Does (words : Words) (e : Encoder) (next : Event) (packets : List Packet) (pending : List Bool)
    (reported : ℕ) (d : Due) : Type 0 where
  pub gives : given words e next ≡ packets
  pub between : (encoder_after words e next).between ≡ e.between
  pub in_mode : (encoder_after words e next).mode ≡ e.mode
  pub left : (encoder_after words e next).left ≡ left_after e.between e.left next
  pub held : (encoder_after words e next).held ≡ Some next
  pub asked : (encoder_after words e next).due ≡ d
  pub pending_is : (encoder_after words e next).pending ≡ pending
  pub reported_is : (encoder_after words e next).reported ≡ reported

module _ (words : Words) (e : Encoder) (held next : Event) (pending : List Bool) (mode : Mode) (reported : ℕ)
    (d d' : Due) (h : e.held ≡ Some held) (a : e.due ≡ d) (p : e.pending ≡ pending) (m : e.mode ≡ mode)
    (r : e.reported ≡ reported) (n : next_due (Some held) d e.left next ≡ d') where
  pub does_quiet : (is_map_or_nothing (rule_before words held d next d') && nat_lt (length pending) 31) ≡ true
      → Does words e next [] (pending_with d' next pending) reported d'
  does_quiet q = record {
    gives = rw (h, a, n, p, q) refl;
    between = rw (h, a, n, p, q) refl;
    in_mode = rw (h, a, n, p, q) refl;
    left = rw (h, a, n, p, q) refl;
    held = rw (h, a, n, p, q) refl;
    asked = rw (h, a, n, p, q) refl;
    pending_is = rw (h, a, n, p, q) refl;
    reported_is = rw (h, a, n, p, q, r) refl;
  }

  pub does_handler : (is_map_or_nothing (rule_before words held d next d') && nat_lt (length pending) 31) ≡ false
      → is_handler_due d' ≡ true → Does words e next (handler_packet held next ∷ []) (pending_with d' next [])
      (place next) d'
  does_handler q f = record {
    gives = rw (h, a, n, p, q, f) refl;
    between = rw (h, a, n, p, q) refl;
    in_mode = rw (h, a, n, p, q) refl;
    left = rw (h, a, n, p, q) refl;
    held = rw (h, a, n, p, q) refl;
    asked = rw (h, a, n, p, q) refl;
    pending_is = rw (h, a, n, p, q) refl;
    reported_is = rw (h, a, n, p, q, f) refl;
  }

  pub does_loud : (is_map_or_nothing (rule_before words held d next d') && nat_lt (length pending) 31) ≡ false
      → is_handler_due d' ≡ false → Does words e next (packets_by (rule_before words held d next d') held pending
      mode reported) (pending_with d' next []) (reported_by (rule_before words held d next d') reported held) d'
  does_loud q f = record {
    gives = rw (h, a, n, p, q, f, m, r) refl;
    between = rw (h, a, n, p, q) refl;
    in_mode = rw (h, a, n, p, q) refl;
    left = rw (h, a, n, p, q) refl;
    held = rw (h, a, n, p, q) refl;
    asked = rw (h, a, n, p, q) refl;
    pending_is = rw (h, a, n, p, q) refl;
    reported_is = rw (h, a, n, p, q, f, r) refl;
  }

-- The two ways of the code, of which one gives nothing.
module _ (words : Words) (e : Encoder) (event : Event) (d : Due) (n : d ≡ due_next e event) where
  pub after_quiet : is_quiet words e e.held event d ≡ true
      → hold e e.pending e.reported event d ≡ encoder_after words e event
  after_quiet q =
      sym (ap (λ b. cond b (hold e e.pending e.reported event d)
      (hold e [] (reported_before words e e.held event d) event d)) q) ∙ ap (after_with words e event) n

  pub given_quiet : is_quiet words e e.held event d ≡ true → [] ≡ given words e event
  given_quiet q = sym (ap (λ b. cond b [] (packets_before words e e.held event d)) q) ∙ ap (given_with words e event) n

  pub after_loud : is_quiet words e e.held event d ≡ false
      → hold e [] (reported_before words e e.held event d) event d ≡ encoder_after words e event
  after_loud q =
      sym (ap (λ b. cond b (hold e e.pending e.reported event d)
      (hold e [] (reported_before words e e.held event d) event d)) q) ∙ ap (after_with words e event) n

  pub given_loud : is_quiet words e e.held event d ≡ false → packets_before words e e.held event d ≡ given words e event
  given_loud q = sym (ap (λ b. cond b [] (packets_before words e e.held event d)) q) ∙ ap (given_with words e event) n
