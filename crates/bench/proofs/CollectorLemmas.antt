-- What a collector has at first, where a hart is refused, and at its end.
use Rattle.std.proofs.Common.{◌≡◌, ◌≢◌, ◌+◌, ◌<◌, ◌≤◌, ⊎_elim, ℕ, Bool, true, false, All, List, [], ◌∷◌, ◌++◌, Some}
use Rattle.std.proofs.Common.{None, if◌then◌else◌, length, take, drop, set, get_or, replicate, slice_get, refl, sym, ap}
use Rattle.std.proofs.Common.{subst, true≢false, ◌∙◌, add-one, arith}
use Rattle.std.specs.Prelude.{IsSomeAnd}
use Rattle.std.specs.Option.{option_map}
use Rattle.std.specs.declared.vec.Vec.{Vec}
use Rattle.std.proofs.Math.ListN.{get_or-map}
use Rattle.std.proofs.Math.Seq.{drop-cons, map-set_same, take-append_seam}
use Rattle.std.proofs.lemmas.Bool.{cases_eq, ne_eqb}
use Rattle.std.proofs.lemmas.List.{drop-set, get_or-replicate, get_or-take, length_push, map-append, take-take}
use Rattle.std.proofs.lemmas.List.{length-map, length-replicate, length-set, map-set, replicate-append-replicate}
use Rattle.std.proofs.lemmas.Option.{get_or_from_slice_get, slice_get-get_or, slice_get-map, slice_get_read}
use Rattle.std.proofs.lemmas.Option.{slice_get_within, same_Some}
use Rattle.retire.specs.declared.event.Event.{Event}
use Rattle.rvclass.specs.Fetch.{words_of}
use Rattle.rvclass.specs.Words.{Words}
use Rattle.legalpath.specs.ProgramLog.{IsLegalLog, ProgramLog}
use Rattle.payload.specs.declared.mode.Mode.{Mode}
use Rattle.payload.specs.declared.packet.Packet.{Packet}
use Rattle.encoder.specs.Packets.{packets}
use Rattle.message.proofs.Elements.{All-slice_get}
use Rattle.message.specs.Harts.{newcomer}
use Rattle.receiver.proofs.HoldLemmas.{same_hart, set-other}
use Rattle.receiver.specs.Holds.{HasReceived}
use Rattle.receiver.specs.Received.{Received, events_in}
use Rattle.bench.specs.Collected.{Collected, HasCollected, HasOutcome, IsSameOf, Taken}
use Rattle.bench.specs.Got.{Got, got_of}
use Rattle.bench.specs.declared.outcome.HartOutcome.{HartOutcome}
use Rattle.bench.specs.steps.Collecting.{IsCollected, closed_in, decoded_in, nothing, taken_in, taken_of_outcome}
use Rattle.bench.proofs.CollectedLemmas.{element, held_first, set-at, taken_by}

-- A list of one value repeated, at a place.
replicate-at : {X : Type 0} (n : ℕ) (x : X) (i : ℕ) → i < n → slice_get (replicate n x) i ≡ Some x
replicate-at n x i within =
    slice_get-get_or (replicate n x) i x (omega (arith, within, length-replicate n x))
    ∙ ap Some (get_or-replicate n i x x within)

-- Where no flag is set, none is.
pub none_set : (n : ℕ) (flags : List Bool) (i : ℕ) → flags ≡ replicate n false → ¬ (slice_get flags i ≡ Some true)
none_set n flags i is = λ at.
    let known = slice_get_within flags i true at in
    let count = ap length is in
    let off = replicate-at n false i (omega (arith, known, count, length-replicate n false)) in
    true≢false (sym (same_Some false true (sym (ap (λ all. slice_get all i) is ∙ off) ∙ at)))

-- With one more behind it.
replicate-next : {X : Type 0} (n : ℕ) (x : X) → replicate n x ++ x ∷ [] ≡ replicate (n + 1) x
replicate-next n x = replicate-append-replicate n 1 x

-- One outcome more of which nothing came.
pub nothing-next : {A : Type 0} (harts new : List (HartOutcome A)) (outcome : HartOutcome A) (n : ℕ)
    → new ≡ harts ++ outcome ∷ []
    → taken_in harts ≡ replicate n nothing → outcome.packets.items ≡ []
    → taken_of_outcome outcome ≡ record nothing { packets = outcome.packets.items }
    → taken_in new ≡ replicate (n + 1) nothing
nothing-next harts new outcome n whole before none is =
    ap taken_in whole ∙ map-append taken_of_outcome harts (outcome ∷ [])
    ∙ ap (λ some. some ++ taken_of_outcome outcome ∷ []) before
    ∙ ap (λ taken. replicate n nothing ++ taken ∷ []) (is ∙ ap (λ some. record nothing { packets = some }) none)
    ∙ replicate-next n nothing

-- The list that is left, where one was taken of its end, and the one that was taken.
left-before : {X : Type 0} (all left rest : List X) (n : ℕ) → left ≡ take (length left) all → rest ≡ take n left
    → length left ≡ n + 1
    → rest ≡ take n all
left-before all left rest n is taken count =
    taken ∙ ap (take n) is ∙ take-take n (length left) all (omega (arith, count))

-- The last element.
get_or-last : {X : Type 0} (xs : List X) (x : X) → get_or (xs ++ x ∷ []) (length xs) x ≡ x
get_or-last [] x = refl
get_or-last (a ∷ xs) x = get_or-last xs x

-- An element is written where it stands in another list, and behind it both are the same.
behind-set : {X : Type 0} (xs ys : List X) (n : ℕ) (x : X) → n < length xs → n < length ys → x ≡ get_or ys n x
    → drop (n + 1) xs ≡ drop (n + 1) ys → drop n (set xs n x) ≡ drop n ys
behind-set xs ys n x of_xs of_ys is behind =
    drop-set xs n x of_xs ∙ ap (λ rest. x ∷ rest) behind
    ∙ ap (λ y. y ∷ drop (n + 1) ys) is
    ∙ ap (λ m. get_or ys n x ∷ drop m ys) (add-one n)
    ∙ sym (drop-cons ys n x of_ys)

-- Of no packets none are kept.
none_kept : (keep : Bool) → ◌≡◌ {A = List Packet} [] (if keep then [] else [])
none_kept true = refl
none_kept false = refl

-- What came is the same where its parts are.
same_got : (a b : Got) → a.packets ≡ b.packets → a.taken ≡ b.taken → a.bytes ≡ b.bytes → a.decoded ≡ b.decoded
    → a.closed ≡ b.closed → a ≡ b
same_got a b packets taken bytes decoded closed =
    ap (λ packets. got packets a.taken a.bytes a.decoded a.closed) packets
    ∙ ap (λ taken. got b.packets taken a.bytes a.decoded a.closed) taken
    ∙ ap (λ bytes. got b.packets b.taken bytes a.decoded a.closed) bytes
    ∙ ap (λ decoded. got b.packets b.taken b.bytes decoded a.closed) decoded
    ∙ ap (got b.packets b.taken b.bytes b.decoded) closed
  where
    got : List Packet → ℕ → ℕ → List Event → Bool → Got
    got packets taken bytes decoded closed =
        record { packets = packets; taken = taken; bytes = bytes; decoded = decoded; closed = closed }

-- The logs up to one more are legal where it is.
pub legal-next : (logs : List ProgramLog) (n : ℕ) (log : ProgramLog) → n < length logs → log ≡ get_or logs n log
    → IsLegalLog log
    → ((k : ℕ) (d : ProgramLog) → k < n → IsLegalLog (get_or logs k d)) → (k : ℕ) (d : ProgramLog) → k < n + 1
    → IsLegalLog (get_or logs k d)
legal-next logs n log within is legal before k d low =
    ⊎_elim (λ same. subst (λ k. IsLegalLog (get_or logs k d)) (sym same) (subst IsLegalLog (sym here) legal))
    (λ other. before k d (omega (arith, low, other))) (cases_eq k n)
  where
    here : get_or logs n d ≡ log
    here = get_or_from_slice_get logs n log d (slice_get_read logs (length logs) n log refl within is)

module _ (logs : List ProgramLog) (keep : Bool) (received : Received) (taken : List Taken) (count : ℕ)
    (begins : (programs : ℕ → Words) → HasReceived programs count [] received)
    (all_logs : count ≡ length logs) (all_taken : taken ≡ replicate (length logs) nothing)
    (legal : All IsLegalLog logs) where
  abbrev opened : Collected
  opened = record { logs = logs; keep = keep; received = received; harts = taken }

  has : HasReceived (λ hart. λ address. None) count [] received
  has = begins (λ hart. λ address. None)

  all_expected : length received.expected ≡ count
  all_expected = ap length has.accepts.expected ∙ length-replicate count newcomer

  -- A new collector has each of these of every hart.
  pub opened_collected : IsCollected opened
  opened_collected =
      let decoders = has.holds.decoders_count in
      let lists = has.holds.lists_count in
      let closed = has.holds.closed_count in
      let harts = ap length all_taken ∙ length-replicate (length logs) nothing in
      record {
        received = record {
          decoders = omega (arith, decoders, all_expected);
          lists = omega (arith, lists, all_expected);
          closed = omega (arith, closed, all_expected);
        };
        logs = omega (arith, all_logs, all_expected);
        harts = omega (arith, all_logs, all_expected, harts);
        legal = legal;
      }

  -- Nothing came of a hart.
  pub opened_begun : (period : ℕ) (mode : Mode) (hart : ℕ) (log : ProgramLog) → slice_get logs hart ≡ Some log
      → HasCollected period mode log 0 hart opened
  opened_begun period mode hart log known =
      let own = All-slice_get IsLegalLog logs hart log known legal in
      let within = slice_get_within logs hart log known in
      let ps = packets (words_of log.program) period mode log.events in
      let holds = (begins (λ hart. words_of log.program)).holds.each hart in
      let reached = held_first period mode log own 0 hart received holds (omega arith) opened_collected.received
      (omega (arith, within, all_logs, all_expected)) in
      record {
        known = known;
        few = omega arith;
        came = record {
          taken = ap (λ taken. slice_get taken hart) all_taken ∙ replicate-at (length logs) nothing hart within
              ∙ ap (λ some. Some (record { packets = some; taken = 0; bytes = 0; refused = false })) (none_kept keep);
          decoded = reached.0;
          closed = reached.1;
        };
        expected = ap (λ harts. slice_get harts hart) has.accepts.expected
            ∙ replicate-at count newcomer hart (omega (arith, within, all_logs))
            ∙ ap (λ closed. Some (record { expected = 0; closed = closed }))
            (sym (ne_eqb 0 (length ps) (λ same. omega (arith, same))));
        holds = holds;
      }

module _ {A : Type 0} (logs : List ProgramLog) (keep : Bool) (received : Received) (harts : List (HartOutcome A))
    (at hart : ℕ) (here : at ≡ hart) (outcome written : HartOutcome A) (is : outcome ≡ get_or harts at outcome) where
  abbrev whole : List (HartOutcome A) → Collected
  whole harts = record { logs = logs; keep = keep; received = received; harts = taken_in harts }

  -- What came of a hart that is refused.
  pub refused_came : (old : Collected) → whole harts ≡ old → hart < length old.logs → IsCollected (whole harts)
      → taken_of_outcome written ≡ record (taken_of_outcome outcome) { refused = true }
      → (got : Got) (refused : Bool) → HasOutcome hart got refused old
      → HasOutcome hart got true (whole (set harts at written))
  refused_came old view known all same got refused given =
      let came = subst (HasOutcome hart got refused) (sym view) given in
      let within = slice_get_within (taken_in harts) hart (taken_by got refused) came.taken in
      let inside : at < length harts = omega (arith, here, within, length-map harts taken_of_outcome) in
      let now = ap (slice_get (taken_in harts)) (sym here) ∙ slice_get-map taken_of_outcome harts at
      ∙ ap (option_map taken_of_outcome) (slice_get_read harts (length harts) at outcome refl inside is) in
      let before : taken_of_outcome outcome ≡ taken_by got refused =
      same_Some (taken_of_outcome outcome) (taken_by got refused) (sym now ∙ came.taken) in
      record {
        taken = ap (λ taken. slice_get taken hart)
            (map-set taken_of_outcome harts at written
            ∙ ap (λ i. set (taken_in harts) i (taken_of_outcome written)) here)
            ∙ set-at (taken_in harts) hart (taken_of_outcome written) within
            ∙ ap Some (same ∙ ap (λ (taken : Taken). record taken { refused = true }) before);
        decoded = came.decoded;
        closed = came.closed;
      }

  -- Of the others nothing changes.
  pub refused_others : (old : Collected) → whole harts ≡ old → (other : ℕ) → other ≢ hart
      → IsSameOf other old (whole (set harts at written))
  refused_others old view other apart = subst (λ old. IsSameOf other old (whole (set harts at written))) view (record {
    taken = ap (λ taken. slice_get taken other) (map-set taken_of_outcome harts at written)
        ∙ set-other (taken_in harts) at (taken_of_outcome written) other (λ same. apart (same ∙ here));
    received = same_hart other received received refl;
  })

-- The outcome of a hart, with its events and its flag, is what came of it.
pub finished_came : {A : Type 0} (harts : List (HartOutcome A)) (hart : ℕ) (got : Got) (refused : Bool)
    (collected : Collected)
    → taken_in harts ≡ collected.harts → decoded_in harts ≡ collected.received.lists
    → closed_in harts ≡ collected.received.closed
    → HasOutcome hart got refused collected
    → IsSomeAnd (slice_get harts hart) (λ came. (got_of came ≡ got) × (came.refused ≡ refused))
finished_came {A} harts hart got refused collected taken lists closed came =
    let one = ap (λ all. slice_get all hart) taken ∙ came.taken in
    let within = slice_get_within (taken_in harts) hart (taken_by got refused) one in
    let found = element harts hart (omega (arith, within, length-map harts taken_of_outcome)) in
    let outcome = found.0 in
    let same = same_Some (taken_of_outcome outcome) (taken_by got refused)
    (sym (slice_get-map taken_of_outcome harts hart ∙ ap (option_map taken_of_outcome) found.1) ∙ one) in
    let events : outcome.decoded.items ≡ got.decoded = same_Some outcome.decoded.items got.decoded
    (sym (slice_get-map (λ (hart : HartOutcome A). hart.decoded.items) harts hart
    ∙ ap (option_map (λ (hart : HartOutcome A). hart.decoded.items)) found.1)
    ∙ ap (λ all. slice_get all hart) lists ∙ came.decoded) in
    let flag : outcome.closed ≡ got.closed = same_Some outcome.closed got.closed
    (sym (slice_get-map (λ (hart : HartOutcome A). hart.closed) harts hart
    ∙ ap (option_map (λ (hart : HartOutcome A). hart.closed)) found.1)
    ∙ ap (λ all. slice_get all hart) closed ∙ came.closed) in
    let packets = ap (λ (t : Taken). t.packets) same in
    let number = ap (λ (t : Taken). t.taken) same in
    let bytes = ap (λ (t : Taken). t.bytes) same in
    let all = same_got (got_of outcome) got packets number bytes events flag in
    subst (λ o. IsSomeAnd o (λ came. (got_of came ≡ got) × (came.refused ≡ refused))) (sym found.1)
    (all, ap (λ (t : Taken). t.refused) same)

-- The outcomes behind those whose lists are left have their events and their flags.
pub record IsFilled {A : Type 0} (first : List (HartOutcome A)) (lists : List (Vec Event A)) (closed : List Bool)
    (harts : List (HartOutcome A)) (left : List (Vec Event A)) : Type 0 where
  pub count : length harts ≡ length first
  pub few : length left ≤ length first
  pub taken : taken_in harts ≡ taken_in first
  pub rest : left ≡ take (length left) lists
  pub decoded : drop (length left) (decoded_in harts) ≡ drop (length left) (events_in lists)
  pub flags : drop (length left) (closed_in harts) ≡ drop (length left) closed

pub filled_next : {A : Type 0} (first : List (HartOutcome A)) (lists : List (Vec Event A)) (closed : List Bool)
    (harts : List (HartOutcome A)) (left rest : List (Vec Event A))
    → (list : Vec Event A) (at : ℕ) (outcome written : HartOutcome A) → IsFilled first lists closed harts left
    → length lists ≡ length first → length closed ≡ length first → left ≡ rest ++ list ∷ [] → at ≡ length rest
    → outcome ≡ get_or harts at outcome → taken_of_outcome written ≡ taken_of_outcome outcome → written.decoded ≡ list
    → written.closed ≡ get_or closed at false
    → IsFilled first lists closed (set harts at written) rest
filled_next {A} first lists closed harts left rest list at outcome written before all_lists all_closed split here is
    same events flag = record {
      count = length-set harts at written ∙ before.count;
      few = let few = before.few in omega (arith, len, here, few);
      taken = map-set_same taken_of_outcome harts at written outcome (same ∙ ap taken_of_outcome is) ∙ before.taken;
      rest = left-before lists left rest (length rest) before.rest taken (ap length split ∙ length_push rest list);
      decoded = ap (λ n. drop n (decoded_in (set harts at written))) (sym here)
          ∙ ap (drop at)
          (map-set decoded_of harts at written ∙ ap (λ (list : Vec Event A). set (decoded_in harts) at list.items)
          events)
          ∙ behind-set (decoded_in harts) (events_in lists) at list.items
          (omega (arith, of_harts, length-map harts decoded_of))
          (omega (arith, of_lists, length-map lists items)) item
          (subst (λ n. drop n (decoded_in harts) ≡ drop n (events_in lists)) len before.decoded)
          ∙ ap (λ n. drop n (events_in lists)) here;
      flags = ap (λ n. drop n (closed_in (set harts at written))) (sym here)
          ∙ ap (drop at) (map-set closed_of harts at written ∙ ap (set (closed_in harts) at) flag)
          ∙ behind-set (closed_in harts) closed at (get_or closed at false)
          (omega (arith, of_harts, length-map harts closed_of)) of_closed
          (sym (get_or_from_slice_get closed at (get_or closed at false) (get_or closed at false)
          (slice_get-get_or closed at false of_closed)))
          (subst (λ n. drop n (closed_in harts) ≡ drop n closed) len before.flags)
          ∙ ap (λ n. drop n closed) here;
    }
  where
    decoded_of : HartOutcome A → List Event
    decoded_of hart = hart.decoded.items

    closed_of : HartOutcome A → Bool
    closed_of hart = hart.closed

    items : Vec Event A → List Event
    items list = list.items

    len : length left ≡ at + 1
    len = ap length split ∙ length_push rest list ∙ ap (λ n. n + 1) (sym here)

    of_harts : at < length harts
    of_harts = let few = before.few in let count = before.count in omega (arith, len, few, count)

    of_lists : at < length lists
    of_lists = let few = before.few in omega (arith, len, few, all_lists)

    of_closed : at < length closed
    of_closed = let few = before.few in omega (arith, len, few, all_closed)

    taken : rest ≡ take (length rest) left
    taken = sym (take-append_seam rest (list ∷ [])) ∙ ap (take (length rest)) (sym split)

    last : list ≡ get_or lists at list
    last =
        sym (get_or-last rest list) ∙ ap (λ n. get_or (rest ++ list ∷ []) n list) (sym here)
        ∙ ap (λ all. get_or all at list) (sym split ∙ before.rest)
        ∙ get_or-take (length left) lists at list (omega (arith, len))

    item : list.items ≡ get_or (events_in lists) at list.items
    item = ap (λ (list : Vec Event A). list.items) last ∙ sym (get_or-map items lists at list)
