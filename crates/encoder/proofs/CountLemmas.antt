-- How many packets a log has, how many outcomes a piece has, and how many retirements are left to the next periodic
-- sync.
use Rattle.std.proofs.Common.{◌≡◌, ◌≢◌, ℕ, ◌+◌, ◌-◌, ◌*◌, ◌/◌, ◌%◌, ◌≤◌, Bool, true, false, ◌&&◌, not, ◌==◌, cond, List}
use Rattle.std.proofs.Common.{[], ◌∷◌, ◌++◌, length, Option, Some, None, refl, sym, ap, ◌∙◌, arith, length-append}
use Rattle.std.proofs.Common.{add-one}
use Rattle.std.specs.Prelude.{nat_lt}
use Rattle.std.proofs.Math.Nat.{mul-mod_left, mul_comm, suc-mul}
use Rattle.std.proofs.lemmas.Nat.{mod-mul-add}
use Rattle.std.proofs.lemmas.Bool.Decides.{nat_tests}
use Rattle.retire.proofs.OutcomesLemmas.{outcomes-append, outcomes-branch, outcomes-other}
use Rattle.retire.specs.Events.{is_retirement, is_branch, outcomes}
use Rattle.retire.specs.declared.event.Event.{Event}
use Rattle.retire.specs.declared.event.Event.TheVariants.{Retire, Trap}
use Rattle.rvclass.specs.Words.{Words}
use Rattle.payload.specs.declared.mode.Mode.{Mode}
use Rattle.encoder.specs.Packets.{reported_by, reports, closing_packet, packets}
use Rattle.encoder.specs.Piece.{Piece, is_cut, cut_or_go_on, pieces, pieces_of}
use Rattle.encoder.specs.Rule.{rule}
use Rattle.encoder.specs.Spot.{Spot, count_with, spots, spots_of}
use Rattle.encoder.specs.EncoderStands.{AreLeft, since_cut}
use Rattle.encoder.specs.steps.Stepping.{left_after}
use Rattle.encoder.specs.declared.rule.Rule.{Rule}
use Rattle.encoder.specs.declared.rule.Rule.TheVariants as by

pub one_at_most : (e : Event) → length (outcomes (e ∷ [])) ≤ 1
one_at_most e = go (is_branch e) refl
  where
    go : (b : Bool) → is_branch e ≡ b → length (outcomes (e ∷ [])) ≤ 1
    go true h = let k = ap length (outcomes-branch e [] h) in omega arith
    go false h = let k = ap length (outcomes-other e [] h) in omega arith

pub length_outcomes-snoc : (front : List Event) (e : Event)
    → length (outcomes (front ++ e ∷ [])) ≡ length (outcomes front) + length (outcomes (e ∷ []))
length_outcomes-snoc front e =
    ap length (outcomes-append front (e ∷ [])) ∙ length-append (outcomes front) (outcomes (e ∷ []))

-- An event with the rule of a trap is no branch.
abbrev pub IsTrapRule : Event → Rule → Type 0
IsTrapRule e (by.Trap h) = is_branch e ≡ false
IsTrapRule e by.Handler = Unit {0}
IsTrapRule e by.Sync = Unit {0}
IsTrapRule e (by.Target c) = Unit {0}
IsTrapRule e by.Explicit = Unit {0}
IsTrapRule e by.Notify = Unit {0}
IsTrapRule e by.MapOrNothing = Unit {0}

by_event : (e : Event) (x : Rule) (y : Bool) → IsTrapRule e x → IsTrapRule e (cond (is_retirement e) x (by.Trap y))
by_event (Retire a t q) x y k = k
by_event (Trap q i c a v) x y k = refl

no_trap : (e : Event) (h y d x c b : Bool) → IsTrapRule e
    (cond h by.Handler (cond y by.Sync (cond d (by.Target x) (cond c by.Explicit (cond b by.Notify by.MapOrNothing)))))
no_trap e true y d x c b = tt
no_trap e false true d x c b = tt
no_trap e false false true x c b = tt
no_trap e false false false x true b = tt
no_trap e false false false x false true = tt
no_trap e false false false x false false = tt

pub trap_rule : (words : Words) (period : ℕ) (s : Spot) → IsTrapRule s.event (rule words period s)
trap_rule words period s = by_event s.event _ _ (no_trap s.event _ _ _ _ _ _)

-- A piece that is open has at most 30 outcomes.
pub room_left : (front : List Event) (e : Event) (r : Rule) → length (outcomes front) ≤ 30 → IsTrapRule e r
    → is_cut front e r ≡ false → length (outcomes (front ++ e ∷ [])) ≤ 30
room_left front e (by.Trap h) few t c = omega (arith, length_outcomes-snoc front e, ap length (outcomes-other e [] t))
room_left front e by.Handler few t c = cc
room_left front e by.Sync few t c = cc
room_left front e (by.Target x) few t c = cc
room_left front e by.Explicit few t c = cc
room_left front e by.Notify few t c = cc
room_left front e by.MapOrNothing few t c = go (is_branch e) refl c
  where
    go : (b : Bool) → is_branch e ≡ b → (b && (length (outcomes (front ++ e ∷ [])) == 31)) ≡ false
        → length (outcomes (front ++ e ∷ [])) ≤ 30
    go true br k = let ne : length (outcomes (front ++ e ∷ [])) ≢ 31 = grind (arith, nat_tests, k) in
        omega (arith, length_outcomes-snoc front e, one_at_most e)
    go false br k = omega (arith, length_outcomes-snoc front e, ap length (outcomes-other e [] br))

pub few_since_cut : (words : Words) (period : ℕ) (front : List Event) (ss : List Spot) → length (outcomes front) ≤ 30
    → length (outcomes (since_cut words period front ss)) ≤ 30
few_since_cut words period front [] few = few
few_since_cut words period front (s ∷ ss) few =
    go (is_cut front s.event (rule words period s)) refl (few_since_cut words period [] ss (omega arith))
    (λ k. few_since_cut words period (front ++ s.event ∷ []) ss k)
  where
    go : (c : Bool) → is_cut front s.event (rule words period s) ≡ c
        → length (outcomes (since_cut words period [] ss)) ≤ 30
        → (length (outcomes (front ++ s.event ∷ [])) ≤ 30 → length
        (outcomes (since_cut words period (front ++ s.event ∷ []) ss)) ≤ 30)
        → length (outcomes (since_cut words period (cond c [] (front ++ s.event ∷ [])) ss)) ≤ 30
    go true e fresh on = fresh
    go false e fresh on = on (room_left front s.event (rule words period s) few (trap_rule words period s) e)

at_31 : (n : ℕ) → n ≤ 31 → (true && (n == 31)) ≡ not (nat_lt n 31)
at_31 n h = grind (arith, nat_tests)

at_30 : (n : ℕ) → n ≤ 30 → false ≡ not (nat_lt n 31)
at_30 n h = grind (arith, nat_tests)

-- A quiet event fills the branch map exactly where its outcomes are 31.
pub full_by_count : (front : List Event) (e : Event) → length (outcomes front) ≤ 30
    → is_cut front e by.MapOrNothing ≡ not (nat_lt (length (outcomes (front ++ e ∷ []))) 31)
full_by_count front e few = go (is_branch e) refl
  where
    go : (b : Bool) → is_branch e ≡ b → (b && (length (outcomes (front ++ e ∷ [])) == 31))
        ≡ not (nat_lt (length (outcomes (front ++ e ∷ []))) 31)
    go true br = let a : length (outcomes (front ++ e ∷ [])) ≤ 31 =
        omega (arith, length_outcomes-snoc front e, one_at_most e) in at_31 (length (outcomes (front ++ e ∷ []))) a
    go false br = let a : length (outcomes (front ++ e ∷ [])) ≤ 30 =
        omega (arith, length_outcomes-snoc front e, ap length (outcomes-other e [] br)) in
        at_30 (length (outcomes (front ++ e ∷ []))) a

-- The number of the next retirement is divisible exactly where none is left.
pub left-divides : (period number left : ℕ) → AreLeft period number left → (number % period == 0) ≡ (left == 0)
left-divides period number left h = go (left == 0) refl
  where
    go : (z : Bool) → (left == 0) ≡ z → (number % period == 0) ≡ z
    go true e =
        let none : left ≡ 0 = grind (arith, nat_tests, e) in
        let w = h.whole in
        let is : number ≡ h.rounds * period = omega (arith, w) in
        let m : number % period ≡ 0 = ap (λ n. n % period) is ∙ mul-mod_left h.rounds period in
        rw m refl
    go false e =
        let some : left ≢ 0 = grind (arith, nat_tests, e) in
        let f = h.few in
        let past : number % period ≢ 0 = λ m.
        let d : period * (number / period) + number % period ≡ number = omega arith in
        let back : number ≡ (number / period) * period = omega (arith, d, m, mul_comm period (number / period)) in
        let same : left ≡ (((number / period) * period) + left) % period =
        sym (mod-mul-add (number / period) period left f) in
        let other : (((number / period) * period) + left) % period ≡ 0 =
        ap (λ n. (n + left) % period) (sym back) ∙ ap (λ n. n % period) h.whole ∙ mul-mod_left h.rounds period in
        some (same ∙ other) in
        grind (arith, nat_tests, past)

pub left-next : (period between number left : ℕ) (event : Event) → between + 1 ≡ period → AreLeft period number left
    → AreLeft period (count_with number event) (left_after between left event)
left-next period between number left (Trap priv interrupt cause epc tval) b h = h
left-next period between number left (Retire addr itype priv) b h = go (left == 0) refl
  where
    go : (z : Bool) → (left == 0) ≡ z → AreLeft period (number + 1) (cond z between (left - 1))
    go true e =
        let none : left ≡ 0 = grind (arith, nat_tests, e) in
        let w = h.whole in
        let more : (h.rounds + 1) * period ≡ h.rounds * period + period =
        ap (λ n. n * period) (add-one h.rounds) ∙ suc-mul h.rounds period in
        record { few = omega arith; rounds = h.rounds + 1; whole = omega (arith, more, w) }
    go false e =
        let some : left ≢ 0 = grind (arith, nat_tests, e) in
        let f = h.few in
        let w = h.whole in
        record { few = omega (arith, f); rounds = h.rounds; whole = omega (arith, w) }

length_spots : (n : ℕ) (b2 b : Option Event) (log : List Event) (next : Option Event)
    → length (spots n b2 b log next) ≡ length log
length_spots n b2 b [] next = refl
length_spots n b2 b (event ∷ log) next = let rest = length_spots (count_with n event) b (Some event) log next in
    omega (arith, rest)

-- Each packet of a piece is of one event at least.
few_pieces : (words : Words) (period : ℕ) (front : List Event) (ss : List Spot)
    → length (pieces words period front ss) ≤ length ss
few_pieces words period front [] = omega arith
few_pieces words period front (s ∷ ss) =
    go (is_cut front s.event (rule words period s)) (few_pieces words period [] ss)
    (few_pieces words period (front ++ s.event ∷ []) ss)
  where
    go : (c : Bool) → length (pieces words period [] ss) ≤ length ss
        → length (pieces words period (front ++ s.event ∷ []) ss) ≤ length ss
        → length (cut_or_go_on c (record { front = front; last = s.event; by = rule words period s })
        (λ since. pieces words period since ss)) ≤ length (s ∷ ss)
    go true fresh on = omega (arith, fresh)
    go false fresh on = omega (arith, on)

length_reports : (mode : Mode) (reported : ℕ) (ps : List Piece) → length (reports mode reported ps) ≡ length ps
length_reports mode reported [] = refl
length_reports mode reported (p ∷ ps) = let rest = length_reports mode (reported_by p.by reported p.last) ps in
    omega (arith, rest)

pub few_packets : (words : Words) (period : ℕ) (mode : Mode) (log : List Event)
    → length (packets words period mode log) ≤ length log + 2
few_packets words period mode log =
    let joined = length-append (reports mode 0 (pieces_of words period log)) (closing_packet words period log ∷ []) in
    let count = length_reports mode 0 (pieces_of words period log) in
    let few = few_pieces words period [] (spots_of log) in
    let events = length_spots 0 None None log None in
    omega (arith, joined, count, few, events)
