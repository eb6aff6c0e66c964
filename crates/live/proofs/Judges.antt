-- A message is looked up and taken, or it is beyond the view.
use Rattle.std.proofs.Common.{◌≡◌, ℕ, ◌+◌, ◌-◌, ◌≤◌, Bool, true, false, cond, List, [], ◌∷◌, ◌++◌, Option}
use Rattle.std.proofs.Common.{drop, length, take, refl, sym, ap, subst, ◌∙◌, arith}
use Rattle.std.proofs.lemmas.List.{length-take}
use Rattle.payload.specs.declared.by.By.{By}
use Rattle.message.specs.declared.message.Message.{Message}
use Rattle.auditing.specs.declared.finding.Finding.{Finding}
use Rattle.live.specs.Auditing.{GoesTo, LiveHolding, Stands}
use Rattle.live.specs.Compared.{changed_from, known_finding}
use Rattle.live.specs.Following.{Audited, IsAudited, Left}
use Rattle.live.specs.Holding.{Holding}
use Rattle.live.specs.Holds.{Holds, came_by, judged_by}
use Rattle.live.specs.Lines.{Line, Decided, TooLate}
use Rattle.live.specs.Live.{State, Step, after_lines, and_then, decides, finds, is_new, judged, judged_at, moves_to, passes_all}
use Rattle.live.specs.Live.{standing_now}
use Rattle.live.specs.View.{standing_of, up_to}
use Rattle.live.specs.declared.arrived.Arrived.{Arrived}
use Rattle.live.specs.declared.judged.Judged.TheVariants as judged
use Rattle.live.specs.declared.standing.Standing.{Standing}
use Rattle.live.specs.declared.standing.Standing.TheVariants as standing
use Rattle.live.specs.steps.Advancing.{IsSettled}
use Rattle.live.proofs.Steps.{moves_by}
use Rattle.live.proofs.Widening.{by_is, in_view_read, in_view_within, stands_reads, wide_changed, wide_finding}

-- What the answer says of where the message is.
late_below : (how : By) (window : ℕ) (sent came : List Message) (front : ℕ) (message : Message) (its : Standing)
    → judged.TooLate ≡ judged_by how window sent came front message its → its ≡ standing.Below
late_below how window sent came front message standing.Below is = refl
late_below how window sent came front message standing.Beyond is = cc
late_below how window sent came front message (standing.At place) is = cc

undecided_beyond : (how : By) (window : ℕ) (sent came : List Message) (front : ℕ) (message : Message) (its : Standing)
    → judged.Undecided ≡ judged_by how window sent came front message its → its ≡ standing.Beyond
undecided_beyond how window sent came front message standing.Below is = cc
undecided_beyond how window sent came front message standing.Beyond is = refl
undecided_beyond how window sent came front message (standing.At place) is = cc

pub found_at : (how : By) (window : ℕ) (sent came : List Message) (front : ℕ) (message : Message) (its : Standing) (finding : Finding)
    (ahead : ℕ) → judged.Found finding ahead ≡ judged_by how window sent came front message its
    → (place : ℕ) × (its ≡ standing.At place) × (finding ≡ known_finding how sent came message)
    × (ahead ≡ cond (is_new finding) (up_to window front place - front) 0)
found_at how window sent came front message standing.Below finding ahead is = cc
found_at how window sent came front message standing.Beyond finding ahead is = cc
found_at how window sent came front message (standing.At place) finding ahead is =
    let same : finding ≡ known_finding how sent came message = cc in
    let by : ahead ≡ cond (is_new (known_finding how sent came message)) (up_to window front place - front) 0 = cc in
    (place, refl, same, by ∙ ap (λ f. cond (is_new f) (up_to window front place - front) 0) (sym same))

-- The front goes on by as many as there are up to a new message.
ahead_moves : (window : ℕ) (sent : List Message) (to : ℕ) (state : State) (new : Bool)
    → moves_to window sent (cond new to 0) state
    ≡ passes_all window sent state (take (cond new (to - state.front) 0) (drop state.front sent))
ahead_moves window sent to state true = moves_by window sent to state
ahead_moves window sent to state false =
    moves_by window sent 0 state
    ∙ ap (λ n. passes_all window sent state (take n (drop state.front sent)))
    (let none : 0 - state.front ≡ 0 = omega arith in none)

-- The payload that SENT has of a message that is found, where it is known by what was read.
pub found_changed : (all : Audited) → IsAudited all → (read : ℕ) (state : State) (own : LiveHolding) (left : Left)
    → Stands all read state own left → (one : Arrived) (finding : Finding) (ahead : ℕ)
    → judged.Found finding ahead
    ≡ judged_by own.window.by own.window.window (take read all.sent) state.came state.front one.message
    (standing_of own.window.window (take read all.sent) state.front one.message.hart one.message.number)
    → (window : ℕ) → window ≡ own.window.window → (payload : Option (List ℕ))
    → ((place : ℕ)
    → standing_of window (take read all.sent) state.front one.message.hart one.message.number ≡ standing.At place
    → payload ≡ changed_from (take read all.sent) one.message finding)
    → payload ≡ changed_from all.sent one.message finding
found_changed all right read state own left stands one finding ahead is window same payload payload_is =
    payload_is found.0
    (ap (λ w. standing_of w (take read all.sent) state.front one.message.hart one.message.number) same ∙ found.1)
    ∙ wide_changed all right read state.came state.front own.window left stands.reads one.message found.0 found.1 finding
  where
    found : (place : ℕ)
        × (standing_of own.window.window (take read all.sent) state.front one.message.hart one.message.number
        ≡ standing.At place)
        × (finding ≡ known_finding own.window.by (take read all.sent) state.came one.message)
        × (ahead ≡ cond (is_new finding) (up_to own.window.window state.front place - state.front) 0)
    found =
        found_at own.window.by own.window.window (take read all.sent) state.came state.front one.message
        (standing_of own.window.window (take read all.sent) state.front one.message.hart one.message.number) finding ahead is

module _ (all : Audited) (right : IsAudited all) (read : ℕ) (state : State) (own : LiveHolding) (left : Left)
    (stands : Stands all read state own left) (one : Arrived) (settled : IsSettled all read state one) (new : Holding) where
  abbrev some : List Message
  some = take read all.sent

  abbrev where_is : Standing
  where_is = standing_of own.window.window some state.front one.message.hart one.message.number

  -- Where it is by what is held, it is by all of SENT.
  now_is : where_is ≡ standing_now all.window all.sent state one.message
  now_is =
      ap (λ w. standing_of w some state.front one.message.hart one.message.number) stands.reads.window ∙ settled

  -- The same with other messages that came.
  pub stands_came : (came : List Message) → Holds some came state.front new → new.window ≡ own.window.window
      → length new.harts ≡ length own.window.harts → new.by ≡ own.window.by
      → Stands all read (record state { came = came }) (record own { window = new }) left
  stands_came came holds window harts by =
      stands_reads all read state own left stands read came state.front new left (record {
        holds = holds;
        within = stands.reads.within;
        remains = stands.reads.remains;
        harts = harts ∙ stands.reads.harts;
        window = window ∙ stands.reads.window;
        by = by ∙ stands.reads.by;
      })

  module _ (holds : Holds some (came_by state.came one.message where_is) state.front new)
      (window : new.window ≡ own.window.window) (harts : length new.harts ≡ length own.window.harts)
      (by : new.by ≡ own.window.by) where
    -- It is too late.
    pub judged_late : judged.TooLate ≡ judged_by own.window.by own.window.window some state.came state.front one.message where_is
        → (Told : List Line → Type 0) → Told (TooLate one ∷ []) → (beyond : State → Arrived → Step)
        → GoesTo all read Told (judged beyond all.window all.sent state one) (record own { window = new }) left
    judged_late is Told told beyond =
        subst (λ s. GoesTo all read Told (judged_at beyond all.window all.sent state one s) (record own { window = new }) left)
        (sym below ∙ now_is) (record {
          stands = stands_came state.came (subst (λ s. Holds some (came_by state.came one.message s) state.front new) below holds)
              window harts by;
          told = told;
        })
      where
        below : where_is ≡ standing.Below
        below = late_below own.window.by own.window.window some state.came state.front one.message where_is is

    -- It is beyond.
    pub judged_undecided : judged.Undecided ≡ judged_by own.window.by own.window.window some state.came state.front one.message where_is
        → (standing_now all.window all.sent state one.message ≡ standing.Beyond)
        × Stands all read state (record own { window = new }) left
    judged_undecided is = (
      sym now_is ∙ beyond,
      stands_came state.came (subst (λ s. Holds some (came_by state.came one.message s) state.front new) beyond holds) window
          harts by,
    )
      where
        beyond : where_is ≡ standing.Beyond
        beyond = undecided_beyond own.window.by own.window.window some state.came state.front one.message where_is is

    -- It is found, and so many messages after the front.
    pub judged_found : (finding : Finding) (ahead : ℕ)
        → judged.Found finding ahead ≡ judged_by own.window.by own.window.window some state.came state.front one.message where_is
        → Stands all read (finds all.sent state one finding).state (record own { window = new }) left
        × (state.front + ahead ≤ read)
        × ((beyond : State → Arrived → Step) → judged beyond all.window all.sent state one
        ≡ and_then (finds all.sent state one finding)
        (λ next. passes_all all.window all.sent next (take ahead (drop next.front all.sent))))
    judged_found finding ahead is = (
      stands_came (state.came ++ one.message ∷ [])
          (subst (λ s. Holds some (came_by state.came one.message s) state.front new) found.1 holds) window harts by,
      within (is_new finding) found.3,
      λ beyond. ap (judged_at beyond all.window all.sent state one) (sym now_is ∙ found.1) ∙ steps,
    )
      where
        found : (place : ℕ) × (where_is ≡ standing.At place) × (finding ≡ known_finding own.window.by some state.came one.message)
            × (ahead ≡ cond (is_new finding) (up_to own.window.window state.front place - state.front) 0)
        found = found_at own.window.by own.window.window some state.came state.front one.message where_is finding ahead is

        wide : known_finding state.by all.sent state.came one.message ≡ finding
        wide =
            ap (λ h. known_finding h all.sent state.came one.message) (sym (by_is all read state own left stands))
            ∙ wide_finding all right read state.came state.front own.window left stands.reads one.message
            (in_view_read own.window.window some (length own.window.harts) stands.reads.holds.in_turn state.front
            one.message.hart one.message.number found.0 found.1)
            ∙ sym found.2

        to : ℕ
        to = up_to all.window state.front found.0

        steps : decides all.window all.sent state one found.0 (known_finding state.by all.sent state.came one.message)
            ≡ and_then (finds all.sent state one finding)
            (λ next. passes_all all.window all.sent next (take ahead (drop next.front all.sent)))
        steps =
            ap (decides all.window all.sent state one found.0) wide
            ∙ ap (after_lines (Decided one finding (changed_from all.sent one.message finding) ∷ []))
            (ahead_moves all.window all.sent to (finds all.sent state one finding).state (is_new finding)
            ∙ ap (λ n. passes_all all.window all.sent (finds all.sent state one finding).state (take n (drop state.front all.sent)))
            (ap (λ w. cond (is_new finding) (up_to w state.front found.0 - state.front) 0) (sym stands.reads.window)
            ∙ sym found.3))

        within : (new : Bool) → ahead ≡ cond new (up_to own.window.window state.front found.0 - state.front) 0
            → state.front + ahead ≤ read
        within false none =
            let front = stands.reads.holds.read in
            let taken = length-take read all.sent in
            omega (arith, none, front, taken)
        within true by =
            let place = in_view_within own.window.window some state.front one.message.hart one.message.number found.0 found.1 in
            let front = stands.reads.holds.read in
            let taken = length-take read all.sent in
            omega (arith, by, place, front, taken)
