-- What is written of messages, a message at a time and a log at a time.
use Rattle.std.proofs.Common.{ℕ, suc, ◌+◌, ◌≡◌, refl, ◌<◌, ◌≤◌, ◌⊎◌, inl, inr, List, [], ◌∷◌, ◌++◌, Option, Some, None}
use Rattle.std.proofs.Common.{length, drop, take, take-append-drop, slice_get, sym, subst, ap, ◌∙◌, arith, append_assoc}
use Rattle.std.proofs.Common.{get_or}
use Rattle.std.proofs.KnownBytes.{Appends-trans}
use Rattle.std.proofs.lemmas.List.{append-nil, length-map, length-take-le, take_all, take_more}
use Rattle.std.proofs.lemmas.Option.{get_or_from_slice_get, slice_get_cases, slice_get_within}
use Rattle.std.specs.Io.KnownBytes.{Appends}
use Rattle.std.proofs.lemmas.List.Concat.{flat_map-append}
use Rattle.std.specs.List.{flat_map}
use Rattle.output.specs.Begun.{AppendsBeginning}
use Rattle.output.proofs.Beginnings.{begun_behind, begun_in_front}
use Rattle.rvclass.specs.Fetch.{words_of}
use Rattle.legalpath.specs.ProgramLog.{ProgramLog}
use Rattle.payload.specs.Spelling.{payload_of}
use Rattle.payload.specs.declared.mode.Mode.{Mode}
use Rattle.encoder.specs.Packets.{packets}
use Rattle.encoder.specs.Payloads.{payloads}
use Rattle.encoder.proofs.CountLemmas.{few_packets}
use Rattle.message.specs.Capture.{capture, message_bytes}
use Rattle.message.specs.declared.message.Message.{Message}
use Rattle.message.specs.Numbered.{messages_from}
use Rattle.captures.specs.Messages.{messages_of_harts}

pub capture_is : (messages : List Message) → capture messages ≡ flat_map message_bytes messages
capture_is [] = refl
capture_is (message ∷ messages) = ap (λ l. message_bytes message ++ l) (capture_is messages)

messages_from-snoc : (hart number : ℕ) (front : List (List ℕ)) (payload : List ℕ)
    → messages_from hart number (front ++ payload ∷ []) ≡ messages_from hart number front ++ record
    { hart = hart; number = number + length front; payload = payload } ∷ []
messages_from-snoc hart number [] payload = ap (λ n. messages_from hart n (payload ∷ [])) (omega arith)
messages_from-snoc hart number (first ∷ front) payload =
    let next : number + 1 + length front ≡ number + suc (length front) = omega arith in
    ap (λ l. record { hart = hart; number = number; payload = first } ∷ l)
    (messages_from-snoc hart (number + 1) front payload
    ∙ ap
    (λ n. messages_from hart (number + 1) front ++ record { hart = hart; number = n; payload = payload } ∷
    []) next)

-- A log has no more payloads than events, and the two at its ends.
pub few_payloads : (period : ℕ) (mode : Mode) (log : ProgramLog)
    → length (payloads period mode log) ≤ length log.events + 2
few_payloads period mode log =
    let words = words_of log.program in
    let mapped = length-map (packets words period mode log.events) payload_of in
    let few = few_packets words period mode log.events in
    omega (arith, mapped, few)

-- One message more, of payloads.
text-take_more : (text : Message → List ℕ) (hart i : ℕ) (items : List (List ℕ)) (payload : List ℕ)
    → slice_get items i ≡ Some payload
    → flat_map text (messages_from hart 0 (take (i + 1) items))
    ≡ flat_map text (messages_from hart 0 (take i items)) ++ text
    (record { hart = hart; number = i; payload = payload })
text-take_more text hart i items payload found =
    let within : i < length items = slice_get_within items i payload found in
    let is : get_or items i [] ≡ payload = get_or_from_slice_get items i payload [] found in
    let count : length (take i items) ≡ i = length-take-le i items (omega arith) in
    let message : Message = record { hart = hart; number = i; payload = payload } in
    let front = messages_from hart 0 (take i items) in
    ap (λ l. flat_map text (messages_from hart 0 l)) (take_more items i [] within ∙ ap (λ x. take i items ++ x ∷ []) is)
    ∙ ap (flat_map text)
    (messages_from-snoc hart 0 (take i items) payload
    ∙ ap (λ n. front ++ record { hart = hart; number = n; payload = payload } ∷ []) (omega (arith, count)))
    ∙ flat_map-append text front (message ∷ [])
    ∙ ap (λ l. flat_map text front ++ l) (append-nil (text message))

-- Messages were written, and then the next.
pub written_more : (text : Message → List ℕ) (old mid new : Option (List ℕ)) (hart i : ℕ) (items : List (List ℕ))
    (payload : List ℕ) → slice_get items i ≡ Some payload
    → Appends old mid (flat_map text (messages_from hart 0 (take i items)))
    → Appends mid new (text (record { hart = hart; number = i; payload = payload }))
    → Appends old new (flat_map text (messages_from hart 0 (take (i + 1) items)))
written_more text old mid new hart i items payload found first then =
    subst (Appends old new) (sym (text-take_more text hart i items payload found))
    (Appends-trans old mid new _ _ first then)

-- The messages of as many payloads as there are were written.
pub written_all : (text : Message → List ℕ) (old new : Option (List ℕ)) (hart i : ℕ) (items : List (List ℕ))
    → length items ≤ i
    → Appends old new (flat_map text (messages_from hart 0 (take i items)))
    → Appends old new (flat_map text (messages_from hart 0 items))
written_all text old new hart i items over =
    subst (λ l. Appends old new (flat_map text (messages_from hart 0 l))) (take_all i items over)

-- No payload is left, so all messages were written.
pub written_through : (text : Message → List ℕ) (old new : Option (List ℕ)) (hart i : ℕ) (items : List (List ℕ))
    → slice_get items i ≡ None
    → Appends old new (flat_map text (messages_from hart 0 (take i items)))
    → Appends old new (flat_map text (messages_from hart 0 items))
written_through text old new hart i items none = go (slice_get_cases items i).1
  where
    go : ((payload : List ℕ) × (i < length items) × (slice_get items i ≡ Some payload)
        × (get_or items i payload ≡ payload)) ⊎ ((length items ≤ i) × (slice_get items i ≡ None))
        → Appends old new (flat_map text (messages_from hart 0 (take i items)))
        → Appends old new (flat_map text (messages_from hart 0 items))
    go (inl some) = let found = some.2 in cc
    go (inr past) = written_all text old new hart i items past.0

messages_of_harts-snoc : (period : ℕ) (mode : Mode) (hart : ℕ) (logs : List ProgramLog) (log : ProgramLog)
    → messages_of_harts period mode hart (logs ++ log ∷ []) ≡ messages_of_harts period mode hart logs ++ messages_from
    (hart + length logs) 0 (payloads period mode log)
messages_of_harts-snoc period mode hart [] log =
    append-nil (messages_from hart 0 (payloads period mode log))
    ∙ ap (λ h. messages_from h 0 (payloads period mode log)) (omega arith)
messages_of_harts-snoc period mode hart (first ∷ logs) log =
    let next : hart + 1 + length logs ≡ hart + suc (length logs) = omega arith in
    ap (λ l. messages_from hart 0 (payloads period mode first) ++ l)
    (messages_of_harts-snoc period mode (hart + 1) logs log
    ∙ ap (λ h. messages_of_harts period mode (hart + 1) logs ++ messages_from h 0 (payloads period mode log)) next)
    ∙ sym
    (append_assoc (messages_from hart 0 (payloads period mode first)) (messages_of_harts period mode (hart + 1) logs)
    (messages_from (hart + suc (length logs)) 0 (payloads period mode log)))

-- One hart more. The first has this number, and it has that one.
pub text-take_more_harts : (text : Message → List ℕ) (period : ℕ) (mode : Mode) (first i hart : ℕ)
    (logs : List ProgramLog) (log : ProgramLog) → i < length logs → log ≡ get_or logs i log → first + i ≡ hart
    → flat_map text (messages_of_harts period mode first (take (i + 1) logs))
    ≡ flat_map text (messages_of_harts period mode first (take i logs)) ++ flat_map text
    (messages_from hart 0 (payloads period mode log))
text-take_more_harts text period mode first i hart logs log within is number =
    let count : length (take i logs) ≡ i = length-take-le i logs (omega arith) in
    ap (λ l. flat_map text (messages_of_harts period mode first l))
    (take_more logs i log within ∙ ap (λ l. take i logs ++ l ∷ []) (sym is))
    ∙ ap (flat_map text) (messages_of_harts-snoc period mode first (take i logs) log)
    ∙ flat_map-append text (messages_of_harts period mode first (take i logs))
    (messages_from (first + length (take i logs)) 0 (payloads period mode log))
    ∙ ap
    (λ h. flat_map text (messages_of_harts period mode first (take i logs)) ++ flat_map text
    (messages_from h 0 (payloads period mode log))) (omega (arith, count, number))

messages_from-append : (hart number : ℕ) (front back : List (List ℕ))
    → messages_from hart number (front ++ back)
    ≡ messages_from hart number front ++ messages_from hart (number + length front) back
messages_from-append hart number [] back = ap (λ n. messages_from hart n back) (omega arith)
messages_from-append hart number (first ∷ front) back =
    let next : number + 1 + length front ≡ number + suc (length front) = omega arith in
    ap (λ l. record { hart = hart; number = number; payload = first } ∷ l)
    (messages_from-append hart (number + 1) front back
    ∙ ap (λ n. messages_from hart (number + 1) front ++ messages_from hart n back) next)

-- Messages were written, and a beginning of the next.
pub next_begun : (text : Message → List ℕ) (old mid new : Option (List ℕ)) (hart i : ℕ) (items : List (List ℕ))
    (payload : List ℕ) → slice_get items i ≡ Some payload
    → Appends old mid (flat_map text (messages_from hart 0 (take i items)))
    → AppendsBeginning (text (record { hart = hart; number = i; payload = payload })) mid new
    → AppendsBeginning (flat_map text (messages_from hart 0 items)) old new
next_begun text old mid new hart i items payload found first begun =
    let before = flat_map text (messages_from hart 0 (take i items)) in
    let here = text (record { hart = hart; number = i; payload = payload }) in
    let front = messages_from hart 0 (take (i + 1) items) in
    let later = messages_from hart (0 + length (take (i + 1) items)) (drop (i + 1) items) in
    let all : flat_map text (messages_from hart 0 items) ≡ (before ++ here) ++ flat_map text later =
    ap (λ l. flat_map text (messages_from hart 0 l)) (sym (take-append-drop (i + 1) items))
    ∙ ap (flat_map text) (messages_from-append hart 0 (take (i + 1) items) (drop (i + 1) items))
    ∙ flat_map-append text front later
    ∙ ap (λ l. l ++ flat_map text later) (text-take_more text hart i items payload found) in
    subst (λ l. AppendsBeginning l old new) (sym all)
    (begun_in_front (before ++ here) (flat_map text later) old new (begun_behind before here old mid new first begun))

pub messages_of_harts-append : (period : ℕ) (mode : Mode) (hart : ℕ) (front back : List ProgramLog)
    → messages_of_harts period mode hart (front ++ back)
    ≡ messages_of_harts period mode hart front ++ messages_of_harts period mode (hart + length front) back
messages_of_harts-append period mode hart [] back = ap (λ h. messages_of_harts period mode h back) (omega arith)
messages_of_harts-append period mode hart (first ∷ front) back =
    let next : hart + 1 + length front ≡ hart + suc (length front) = omega arith in
    ap (λ l. messages_from hart 0 (payloads period mode first) ++ l)
    (messages_of_harts-append period mode (hart + 1) front back
    ∙ ap (λ h. messages_of_harts period mode (hart + 1) front ++ messages_of_harts period mode h back) next)
    ∙ sym
    (append_assoc (messages_from hart 0 (payloads period mode first)) (messages_of_harts period mode (hart + 1) front)
    (messages_of_harts period mode (hart + suc (length front)) back))

-- The messages of harts were written, and a beginning of those of the next.
pub next_hart_begun : (text : Message → List ℕ) (old mid new : Option (List ℕ)) (period : ℕ) (mode : Mode)
    (first i hart : ℕ) (logs : List ProgramLog) (log : ProgramLog) → i < length logs → log ≡ get_or logs i log
    → first + i ≡ hart → Appends old mid (flat_map text (messages_of_harts period mode first (take i logs)))
    → AppendsBeginning (flat_map text (messages_from hart 0 (payloads period mode log))) mid new
    → AppendsBeginning (flat_map text (messages_of_harts period mode first logs)) old new
next_hart_begun text old mid new period mode first i hart logs log within is number written begun =
    let before = flat_map text (messages_of_harts period mode first (take i logs)) in
    let here = flat_map text (messages_from hart 0 (payloads period mode log)) in
    let front = messages_of_harts period mode first (take (i + 1) logs) in
    let later = messages_of_harts period mode (first + length (take (i + 1) logs)) (drop (i + 1) logs) in
    let all : flat_map text (messages_of_harts period mode first logs) ≡ (before ++ here) ++ flat_map text later =
    ap (λ l. flat_map text (messages_of_harts period mode first l)) (sym (take-append-drop (i + 1) logs))
    ∙ ap (flat_map text) (messages_of_harts-append period mode first (take (i + 1) logs) (drop (i + 1) logs))
    ∙ flat_map-append text front later
    ∙ ap (λ l. l ++ flat_map text later) (text-take_more_harts text period mode first i hart logs log within is number)
    in
    subst (λ l. AppendsBeginning l old new) (sym all)
    (begun_in_front (before ++ here) (flat_map text later) old new (begun_behind before here old mid new written begun))
