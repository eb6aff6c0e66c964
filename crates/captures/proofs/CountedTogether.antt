-- The measures of two stretches are those of the one and of the other together.
use Rattle.std.proofs.Common.{◌≡◌, ℕ, ◌+◌, ◌<◌, Bool, List, [], ◌∷◌, ◌++◌, length, take, get_or}
use Rattle.std.proofs.Common.{sym, ap, ◌∙◌, arith, length-append}
use Rattle.std.specs.Prelude.{map, sum, max}
use Rattle.std.specs.List.{filter}
use Rattle.std.proofs.lemmas.List.{append-nil, map-append, take_more}
use Rattle.std.proofs.lemmas.List.Elements.{filter-append}
use Rattle.std.proofs.lemmas.List.Sums.{sum_by-append}
use Rattle.retire.specs.Events.{is_retirement, is_branch}
use Rattle.retire.specs.declared.event.Event.{Event}
use Rattle.payload.specs.Spelling.{payload_of}
use Rattle.payload.specs.declared.packet.Packet.{Packet}
use Rattle.captures.specs.Kinds.{is_trap, is_support, is_sync, is_trap_packet, has_address, is_map, notifies}
use Rattle.captures.specs.Kinds.{has_updiscon}
use Rattle.captures.specs.Measures.{counted, greatest, measured, together, total}
use Rattle.captures.specs.declared.measures.Measures.{Measures}

pub counted-append : {A : Type 0} (test : A → Bool) (xs ys : List A)
    → counted test (xs ++ ys) ≡ counted test xs + counted test ys
counted-append test xs ys = ap length (filter-append test xs ys) ∙ length-append (filter test xs) (filter test ys)

pub greatest-append : (xs ys : List ℕ) → greatest (xs ++ ys) ≡ max (greatest xs) (greatest ys)
greatest-append [] ys = omega arith
greatest-append (x ∷ xs) ys = let rest = greatest-append xs ys in ap (max x) rest ∙ omega arith

bytes-append : (xs ys : List (List ℕ)) → sum (map length (xs ++ ys)) ≡ sum (map length xs) + sum (map length ys)
bytes-append xs ys =
    ap sum (map-append length xs ys) ∙ sum_by-append (λ n. n) (map length xs) (map length ys)

longest-append : (xs ys : List (List ℕ))
    → greatest (map length (xs ++ ys)) ≡ max (greatest (map length xs)) (greatest (map length ys))
longest-append xs ys =
    ap greatest (map-append length xs ys) ∙ greatest-append (map length xs) (map length ys)

pub measured-append : (es fs : List Event) (ps qs : List Packet) (bs cs : List (List ℕ))
    → measured (es ++ fs) (ps ++ qs) (bs ++ cs) ≡ together (measured es ps bs) (measured fs qs cs)
measured-append es fs ps qs bs cs =
    rw (
      length-append es fs,
      counted-append is_retirement es fs,
      counted-append is_trap es fs,
      counted-append is_branch es fs,
      length-append ps qs,
      counted-append is_support ps qs,
      counted-append is_sync ps qs,
      counted-append is_trap_packet ps qs,
      counted-append has_address ps qs,
      counted-append is_map ps qs,
      counted-append notifies ps qs,
      counted-append has_updiscon ps qs,
      bytes-append bs cs,
      longest-append bs cs,
    )

-- Packets after others, with their payloads.
pub measured-packets : (es : List Event) (ps qs : List Packet)
    → measured es (ps ++ qs) (map payload_of (ps ++ qs))
    ≡ together (measured es ps (map payload_of ps)) (measured [] qs (map payload_of qs))
measured-packets es ps qs =
    ap (measured es (ps ++ qs)) (map-append payload_of ps qs)
    ∙ ap (λ l. measured l (ps ++ qs) (map payload_of ps ++ map payload_of qs)) (sym (append-nil es))
    ∙ measured-append es [] ps qs (map payload_of ps) (map payload_of qs)

-- Events after others, whatever packets are.
pub measured-events : (es fs : List Event) (ps : List Packet) (bs : List (List ℕ))
    → measured (es ++ fs) ps bs ≡ together (measured es ps bs) (measured fs [] [])
measured-events es fs ps bs =
    ap (λ l. measured (es ++ fs) l bs) (sym (append-nil ps))
    ∙ ap (measured (es ++ fs) (ps ++ [])) (sym (append-nil bs))
    ∙ measured-append es fs ps [] bs []

together-assoc : (a b c : Measures) → together a (together b c) ≡ together (together a b) c
together-assoc a b c =
    let longest : max a.longest (max b.longest c.longest) ≡ max (max a.longest b.longest) c.longest = omega arith in
    let events : a.events + (b.events + c.events) ≡ a.events + b.events + c.events = omega arith in
    let retirements : a.retirements + (b.retirements + c.retirements)
    ≡ a.retirements + b.retirements + c.retirements = omega arith in
    let traps : a.traps + (b.traps + c.traps) ≡ a.traps + b.traps + c.traps = omega arith in
    let branches : a.branches + (b.branches + c.branches) ≡ a.branches + b.branches + c.branches = omega arith in
    let packets : a.packets + (b.packets + c.packets) ≡ a.packets + b.packets + c.packets = omega arith in
    let support : a.support + (b.support + c.support) ≡ a.support + b.support + c.support = omega arith in
    let sync : a.sync + (b.sync + c.sync) ≡ a.sync + b.sync + c.sync = omega arith in
    let trap : a.trap + (b.trap + c.trap) ≡ a.trap + b.trap + c.trap = omega arith in
    let address : a.address + (b.address + c.address) ≡ a.address + b.address + c.address = omega arith in
    let map : a.map + (b.map + c.map) ≡ a.map + b.map + c.map = omega arith in
    let notify : a.notify + (b.notify + c.notify) ≡ a.notify + b.notify + c.notify = omega arith in
    let updiscon : a.updiscon + (b.updiscon + c.updiscon) ≡ a.updiscon + b.updiscon + c.updiscon = omega arith in
    let bytes : a.payload_bytes + (b.payload_bytes + c.payload_bytes)
    ≡ a.payload_bytes + b.payload_bytes + c.payload_bytes = omega arith in
    rw (
      events,
      retirements,
      traps,
      branches,
      packets,
      support,
      sync,
      trap,
      address,
      map,
      notify,
      updiscon,
      bytes,
      longest,
    )

none_first : (n : ℕ) → 0 + n ≡ n
none_first n = omega arith

none_last : (n : ℕ) → n + 0 ≡ n
none_last n = omega arith

none_first_greatest : (n : ℕ) → max 0 n ≡ n
none_first_greatest n = omega arith

none_last_greatest : (n : ℕ) → max n 0 ≡ n
none_last_greatest n = omega arith

pub together-none : (a : Measures) → together (measured [] [] []) a ≡ a
together-none a = simp (none_first, none_first_greatest)

pub together-with_none : (a : Measures) → together a (measured [] [] []) ≡ a
together-with_none a = simp (none_last, none_last_greatest)

-- One event more.
pub one_event_more : (es : List Event) (i : ℕ) (d : Event) → i < length es
    → together (measured (take i es) [] []) (measured (get_or es i d ∷ []) [] []) ≡ measured (take (i + 1) es) [] []
one_event_more es i d within =
    sym (ap (λ l. measured l [] []) (take_more es i d within)
    ∙ measured-events (take i es) (get_or es i d ∷ []) [] [])

-- One packet more after other measures.
module _ (m : Measures) where
  pub one_packet_more : (ps : List Packet) (i : ℕ) (p : Packet) → i < length ps → p ≡ get_or ps i p
      → together (together m (measured [] (take i ps) (map payload_of (take i ps))))
      (measured [] (p ∷ []) (payload_of p ∷ []))
      ≡ together m (measured [] (take (i + 1) ps) (map payload_of (take (i + 1) ps)))
  one_packet_more ps i p within is =
      let more : take (i + 1) ps ≡ take i ps ++ p ∷ [] =
      take_more ps i p within ∙ ap (λ x. take i ps ++ x ∷ []) (sym is) in
      let front = measured [] (take i ps) (map payload_of (take i ps)) in
      sym (together-assoc m front (measured [] (p ∷ []) (payload_of p ∷ [])))
      ∙ ap (together m)
      (sym (ap (λ l. measured [] l (map payload_of l)) more ∙ measured-packets [] (take i ps) (p ∷ [])))

-- One hart more.
pub total-snoc : (all : List Measures) (one : Measures) → total (all ++ one ∷ []) ≡ together (total all) one
total-snoc [] one = together-with_none one ∙ sym (together-none one)
total-snoc (first ∷ all) one =
    ap (together first) (total-snoc all one) ∙ together-assoc first (total all) one
