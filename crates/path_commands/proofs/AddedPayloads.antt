-- The payloads of SENT, one message after the other.
use Rattle.std.proofs.Common.{◌≡◌, ◌∙◌, ℕ, All, Bool, List, [], ◌∷◌, ◌++◌, Option, Some, Result, Ok}
use Rattle.std.proofs.Common.{append-nil, refl, subst, sym}
use Rattle.std.proofs.lemmas.List.{append_assoc}
use Rattle.std.proofs.lemmas.List.Elements.{All-head, All-tail}
use Rattle.message.specs.Capture.{capture, message_bytes}
use Rattle.message.specs.Cut.{IsMessage}
use Rattle.message.specs.declared.fault.MessageFault.{MessageFault}
use Rattle.message.specs.declared.message.Message.{Message}
use Rattle.payload.specs.declared.by.By.{By}
use Rattle.auditing.specs.PayloadSights.{KeepsPayloads, KnownSent}

-- The payloads of some messages are kept, and the bytes of the others are left.
pub record HasAdded (framed : Bool) (how : By) (messages : List Message) (left : List ℕ) (own : KnownSent) : Type 0 where
  pub taken : List Message
  pub rest : List Message
  pub parted : messages ≡ taken ++ rest
  pub ranges : All IsMessage rest
  pub bytes : left ≡ capture rest
  pub kept : KeepsPayloads framed how taken own

pub added_none : (framed : Bool) (how : By) (messages : List Message) (left : List ℕ) (own : KnownSent)
    → All IsMessage messages → left ≡ capture messages → KeepsPayloads framed how [] own
    → HasAdded framed how messages left own
added_none framed how messages left own all is kept =
    record { taken = []; rest = messages; parted = refl; ranges = all; bytes = is; kept = kept }

-- What the bytes are read as, and what is left then.
abbrev pub Reads : List ℕ → Result (Option Message) MessageFault → List ℕ → Type 0
Reads left found next =
    (message : Message) (rest : List ℕ) → IsMessage message → left ≡ message_bytes message ++ rest
    → (found ≡ Ok (Some message)) × (next ≡ rest)

never_empty : (m : Message) (rest : List ℕ) → [] ≡ message_bytes m ++ rest → ⊥
never_empty m rest e = cc

same_message : (found : Result (Option Message) MessageFault) (m n : Message) → found ≡ Ok (Some m) → found ≡ Ok (Some n)
    → m ≡ n
same_message found m n one other = cc

module _ (framed : Bool) (how : By) (messages : List Message) (left next : List ℕ) (own : KnownSent)
    (has : HasAdded framed how messages left own) (found : Result (Option Message) MessageFault)
    (reads : Reads left found next) where
  -- One message more is added.
  pub added_more : (m : Message) (new : KnownSent) → found ≡ Ok (Some m) → left ≡ message_bytes m ++ next
      → ((sent : List Message) → KeepsPayloads framed how sent own → KeepsPayloads framed how (sent ++ m ∷ []) new)
      → HasAdded framed how messages next new
  added_more m new is begins adds = by has.rest has.parted has.ranges has.bytes
    where
      by : (rest : List Message) → messages ≡ has.taken ++ rest → All IsMessage rest → left ≡ capture rest
          → HasAdded framed how messages next new
      by [] parted all bytes = absurd (never_empty m next (sym bytes ∙ begins))
      by (n ∷ rest) parted all bytes =
          let both = reads n (capture rest) (All-head IsMessage n rest all) bytes in
          let same = same_message found n m both.0 is in
          record {
            taken = has.taken ++ m ∷ [];
            rest = rest;
            parted =
                parted ∙ sym (append_assoc has.taken (n ∷ []) rest)
                ∙ (λ i. (has.taken ++ same i ∷ []) ++ rest);
            ranges = All-tail IsMessage n rest all;
            bytes = both.1;
            kept = adds has.taken has.kept;
          }

  -- Nothing more is found: all are.
  pub added_all : ((m : Message) → found ≡ Ok (Some m) → ⊥) → KeepsPayloads framed how messages own
  added_all none = by has.rest has.parted has.ranges has.bytes
    where
      by : (rest : List Message) → messages ≡ has.taken ++ rest → All IsMessage rest → left ≡ capture rest
          → KeepsPayloads framed how messages own
      by [] parted all bytes =
          subst (λ l. KeepsPayloads framed how l own) (sym (parted ∙ append-nil has.taken)) has.kept
      by (n ∷ rest) parted all bytes =
          absurd (none n (reads n (capture rest) (All-head IsMessage n rest all) bytes).0)
