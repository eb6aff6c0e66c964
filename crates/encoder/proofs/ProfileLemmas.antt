-- Every packet of a legal log is of the profile.
use Rattle.std.proofs.Common.{◌≡◌, ℕ, ◌%◌, ◌^◌, ◌≤◌, ◌<◌, Bool, true, false, ◌==◌, cond, List, [], ◌∷◌, ◌++◌, length}
use Rattle.std.proofs.Common.{Option, Some, None, refl, subst, arith}
use Rattle.std.proofs.lemmas.Bool.Decides.{nat_tests}
use Rattle.std.proofs.lemmas.List.Elements.{All-from_recursion, All-nil, All-cons, All-append, All-head, All-tail}
use Rattle.std.specs.Prelude.{All}
use Rattle.std.specs.List.{AllByRecursion}
use Rattle.std.proofs.lemmas.Bool.{and_parts}
use Rattle.isa.specs.Address.{IsAddress}
use Rattle.isa.specs.Privilege.{IsPrivilege}
use Rattle.retire.specs.Events.{place, privilege, is_branch, is_taken, outcomes}
use Rattle.retire.specs.Is64Bit.{Is64Bit}
use Rattle.retire.specs.declared.event.Event.{Event}
use Rattle.retire.specs.declared.event.Event.TheVariants.{Retire, Trap}
use Rattle.rvclass.specs.Words.{Words, Word}
use Rattle.legalpath.specs.Legal.{FollowOn, Legal}
use Rattle.legalpath.specs.Right.{RetiresOn, Right}
use Rattle.payload.specs.AddressField.{delta}
use Rattle.payload.specs.Profile.{IsTrapValue, InProfile}
use Rattle.payload.specs.declared.mode.Mode.{Mode}
use Rattle.payload.specs.declared.mode.Mode.TheVariants.{Differential, Full}
use Rattle.payload.specs.declared.packet.Packet.{Packet}
use Rattle.payload.specs.declared.packet.Packet.TheVariants as packet
use Rattle.payload.specs.declared.packet.Support.TheVariants.{Open}
use Rattle.encoder.specs.Packets.{trap_packet, first_or, packet_by, reported_by, reports, closing_packet, packets}
use Rattle.encoder.specs.PacketsSoFar.{is_known, decided, packets_so_far}
use Rattle.encoder.specs.Piece.{is_cut, cut_or_go_on, pieces}
use Rattle.encoder.specs.Rule.{rule}
use Rattle.encoder.specs.Spot.{Spot, count_with, spots, spots_of}
use Rattle.encoder.specs.declared.rule.Rule.{Rule}
use Rattle.encoder.specs.declared.rule.Rule.TheVariants as by
use Rattle.encoder.proofs.CountLemmas.{IsTrapRule, trap_rule, room_left, one_at_most, length_outcomes-snoc}

-- Words stand at even addresses.
abbrev pub IsEven : Words → Type 0
IsEven words = (addr : ℕ) (word : Word) → words addr ≡ Some word → addr % 2 ≡ 0

delta-IsAddress : (mode : Mode) (reported address : ℕ) → IsAddress reported → IsAddress address
    → IsAddress (delta mode reported address)
delta-IsAddress Differential reported address r a = (omega arith, omega arith)
delta-IsAddress Full reported address r a = a

retires_on : (word : Option Word) (itype priv : ℕ) → RetiresOn word itype priv → (w : Word) × (word ≡ Some w)
retires_on None itype priv r = absurd r
retires_on (Some w) itype priv r = (w, refl)

module _ (words : Words) (even : IsEven words) where
  -- The event is right, and its numbers are of 64 bits.
  abbrev pub IsGood : Event → Type 0
  IsGood event = Right words event × Is64Bit event

  place-IsAddress : (event : Event) → IsGood event → IsAddress (place event)
  place-IsAddress (Retire addr itype priv) good = let w = retires_on (words addr) itype priv good.0.0 in
      (good.1, even addr w.0 w.1)
  place-IsAddress (Trap priv interrupt cause epc tval) good = (good.1.0, good.0.0)

  privilege-IsPrivilege : (event : Event) → IsGood event → IsPrivilege (privilege event)
  privilege-IsPrivilege (Retire addr itype priv) good = good.0.1
  privilege-IsPrivilege (Trap priv interrupt cause epc tval) good = good.0.1

  value_of_trap : (interrupt : Bool) (tval : ℕ) → (interrupt ≡ true → tval ≡ 0) → tval < 2 ^ 64
      → IsTrapValue interrupt tval
  value_of_trap true tval none below = none refl
  value_of_trap false tval none below = below

  trap_in_profile : (trap : Event) (taken handler : Bool) (level address : ℕ) → IsGood trap → IsPrivilege level
      → IsAddress address → InProfile (trap_packet trap taken level handler address)
  trap_in_profile (Trap priv interrupt cause epc tval) taken handler level address good p a =
      (p, good.0.2, a, value_of_trap interrupt tval good.0.3 good.1.1)
  trap_in_profile (Retire addr itype priv) taken handler level address good p a = (p, omega arith, a, omega arith)

  first_or-IsGood : (event : Event) (front : List Event) → IsGood event → AllByRecursion IsGood front
      → IsGood (first_or event front)
  first_or-IsGood event [] good all = good
  first_or-IsGood event (first ∷ front) good all = all.0

  good-snoc : (front : List Event) (event : Event) → AllByRecursion IsGood front → IsGood event
      → AllByRecursion IsGood (front ++ event ∷ [])
  good-snoc [] event all good = (good, tt)
  good-snoc (first ∷ front) event all good = (all.0, good-snoc front event all.1 good)

  full_map : (front : List Event) (event : Event) → is_cut front event by.MapOrNothing ≡ true
      → length (outcomes (front ++ event ∷ [])) ≡ 31
  full_map front event c = let n = (and_parts (is_branch event) (length (outcomes (front ++ event ∷ [])) == 31) c).1 in
      grind (arith, nat_tests, n)

  packet_in_profile : (mode : Mode) (reported : ℕ) (front : List Event) (last : Event) (r : Rule) → IsAddress reported
      → AllByRecursion IsGood front → IsGood last → length (outcomes front) ≤ 30 → is_cut front last r ≡ true
      → InProfile (packet_by mode reported front last r)
  packet_in_profile mode reported front last (by.Trap handler) a all good few c =
      trap_in_profile last false false (privilege last) (place last) good (privilege-IsPrivilege last good)
      (place-IsAddress last good)
  packet_in_profile mode reported front last by.Handler a all good few c =
      trap_in_profile (first_or last front) (is_taken last) true (privilege last) (place last)
      (first_or-IsGood last front good all) (privilege-IsPrivilege last good) (place-IsAddress last good)
  packet_in_profile mode reported front last by.Sync a all good few c =
      (privilege-IsPrivilege last good, place-IsAddress last good)
  packet_in_profile mode reported front last (by.Target cut_off) a all good few c = (
    omega (arith, length_outcomes-snoc front last, one_at_most last),
    delta-IsAddress mode reported (place last) a (place-IsAddress last good),
  )
  packet_in_profile mode reported front last by.Explicit a all good few c = (
    omega (arith, length_outcomes-snoc front last, one_at_most last),
    delta-IsAddress mode reported (place last) a (place-IsAddress last good),
  )
  packet_in_profile mode reported front last by.Notify a all good few c = (
    omega (arith, length_outcomes-snoc front last, one_at_most last),
    delta-IsAddress mode reported (place last) a (place-IsAddress last good),
  )
  packet_in_profile mode reported front last by.MapOrNothing a all good few c = full_map front last c

  reported_by-IsAddress : (r : Rule) (reported : ℕ) (last : Event) → IsAddress reported → IsGood last
      → IsAddress (reported_by r reported last)
  reported_by-IsAddress (by.Trap handler) reported last a good = place-IsAddress last good
  reported_by-IsAddress by.Handler reported last a good = place-IsAddress last good
  reported_by-IsAddress by.Sync reported last a good = place-IsAddress last good
  reported_by-IsAddress (by.Target cut_off) reported last a good = place-IsAddress last good
  reported_by-IsAddress by.Explicit reported last a good = place-IsAddress last good
  reported_by-IsAddress by.Notify reported last a good = place-IsAddress last good
  reported_by-IsAddress by.MapOrNothing reported last a good = a

  reports_in_profile : (period : ℕ) (mode : Mode) (reported : ℕ) (front : List Event) (ss : List Spot)
      → IsAddress reported → AllByRecursion IsGood front → length (outcomes front) ≤ 30
      → AllByRecursion (λ s. IsGood s.event) ss
      → AllByRecursion InProfile (reports mode reported (pieces words period front ss))
  reports_in_profile period mode reported front [] a all few good = tt
  reports_in_profile period mode reported front (s ∷ ss) a all few good =
      go (rule words period s) (trap_rule words period s) (is_cut front s.event (rule words period s)) refl
      (λ r. reports_in_profile period mode (reported_by r reported s.event) [] ss
      (reported_by-IsAddress r reported s.event a good.0) tt (omega arith) good.1)
      (λ k. reports_in_profile period mode reported (front ++ s.event ∷ []) ss a (good-snoc front s.event all good.0) k
      good.1)
    where
      go : (r : Rule) → IsTrapRule s.event r → (c : Bool) → is_cut front s.event r ≡ c
          → ((q : Rule) → AllByRecursion InProfile (reports mode (reported_by q reported s.event)
          (pieces words period [] ss))) → (length (outcomes (front ++ s.event ∷ [])) ≤ 30
          → AllByRecursion InProfile (reports mode reported (pieces words period (front ++ s.event ∷ []) ss)))
          → AllByRecursion InProfile (reports mode reported (cut_or_go_on c
          (record { front = front; last = s.event; by = r }) (λ w. pieces words period w ss)))
      go r t true e fresh on = (packet_in_profile mode reported front s.event r a all good.0 few e, fresh r)
      go r t false e fresh on = on (room_left front s.event r few t e)

  good_spots : (n : ℕ) (b2 b : Option Event) (log : List Event) (next : Option Event) → All Is64Bit log
      → FollowOn words b log → AllByRecursion (λ s. IsGood s.event) (spots n b2 b log next)
  good_spots n b2 b [] next wide follows = tt
  good_spots n b2 b (event ∷ log) next wide follows = (
    (follows.0, All-head Is64Bit event log wide),
    good_spots (count_with n event) b (Some event) log next
        (All-tail Is64Bit event log wide) follows.2,
  )

  good_decided : (ss : List Spot) → AllByRecursion (λ s. IsGood s.event) ss
      → AllByRecursion (λ s. IsGood s.event) (decided words ss)
  good_decided [] all = tt
  good_decided (s ∷ []) all = by_known (is_known words s)
    where
      by_known : (k : Bool) → AllByRecursion (λ s. IsGood s.event) (cond k (s ∷ []) [])
      by_known true = (all.0, tt)
      by_known false = tt
  good_decided (s ∷ t ∷ ss) all = (all.0, good_decided (t ∷ ss) all.1)

  all_reports : (period : ℕ) (mode : Mode) (ss : List Spot) → AllByRecursion (λ s. IsGood s.event) ss
      → All InProfile (reports mode 0 (pieces words period [] ss))
  all_reports period mode ss good =
      All-from_recursion InProfile (reports mode 0 (pieces words period [] ss))
      (reports_in_profile period mode 0 [] ss (omega arith, omega arith) tt (omega arith) good)

  pub packets_in_profile : (period : ℕ) (mode : Mode) (log : List Event) → All Is64Bit log → Legal words log
      → All InProfile (packets words period mode log)
  packets_in_profile period mode log wide legal =
      All-cons InProfile (packet.Support (Open mode)) _ tt (All-append InProfile
      (reports mode 0 (pieces words period [] (spots_of log))) (closing_packet words period log ∷ [])
      (all_reports period mode (spots_of log) (good_spots 0 None None log None wide legal))
      (All-cons InProfile (closing_packet words period log) [] tt (All-nil InProfile)))

  pub so_far_in_profile : (period : ℕ) (mode : Mode) (log : List Event) → All Is64Bit log → Legal words log
      → All InProfile (packets_so_far words period mode log)
  so_far_in_profile period mode log wide legal =
      All-cons InProfile (packet.Support (Open mode)) _ tt (all_reports period mode (decided words (spots_of log))
      (good_decided (spots_of log) (good_spots 0 None None log None wide legal)))

-- What is behind a list of packets of the profile is too.
pub profile_behind : (ps qs all : List Packet) → all ≡ ps ++ qs → All InProfile all → All InProfile qs
profile_behind ps qs all is h = go ps (subst (All InProfile) is h)
  where
    go : (ps : List Packet) → All InProfile (ps ++ qs) → All InProfile qs
    go [] h = h
    go (p ∷ ps) h = go ps (All-tail InProfile p (ps ++ qs) h)
