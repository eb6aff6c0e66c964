-- What is salvaged of harts whose messages are of legal logs.
use Rattle.std.proofs.Common.{◌≡◌, ◌⊎◌, inl, inr, ℕ, ◌<◌, ◌^◌, All, Bool, true, false, Contains, List, [], ◌∷◌}
use Rattle.std.proofs.Common.{◌==◌, cond, length, Some, get_or, slice_get, refl, sym, ap, subst, ◌∙◌, arith}
use Rattle.std.specs.List.{filter}
use Rattle.std.specs.Prelude.{count_by, not, ◌&&◌}
use Rattle.std.proofs.lemmas.Bool.{eq-eqb, lt-ltb}
use Rattle.std.proofs.lemmas.List.Elements.{All-contains, All-head, All-tail}
use Rattle.std.proofs.lemmas.List.Elements.{All-weaker}
use Rattle.std.proofs.lemmas.List.Sums.{sum_by-cons}
use Rattle.std.proofs.lemmas.Option.{slice_get-get_or, slice_get_within}
use Rattle.rvclass.specs.Fetch.{words_of}
use Rattle.rvclass.specs.Image.{Image}
use Rattle.legalpath.specs.ProgramLog.{ProgramLog, IsLegalLog, program_log}
use Rattle.payload.specs.declared.mode.Mode.{Mode}
use Rattle.encoder.specs.Packets.{packets}
use Rattle.encoder.specs.Payloads.{payloads}
use Rattle.message.proofs.Elements.{All-slice_get}
use Rattle.message.specs.Numbered.{messages_from}
use Rattle.message.specs.OfHart.{of_hart}
use Rattle.message.specs.declared.message.Message.{Message}
use Rattle.losses.specs.Losses.{numbers_of}
use Rattle.losses.specs.WholeStretches.{NumberCame}
use Rattle.salvaging.specs.FromLogs.{AreFromLogs}
use Rattle.salvaging.specs.LogsSalvaged.{AreLogsSalvaged, IsLogSalvaged}
use Rattle.salvaging.specs.Salvaged.{IsSalvaged, IsSalvagedHart}
use Rattle.salvaging.specs.Strangers.{has_number, is_stranger, own_messages}
use Rattle.salvaging.specs.declared.salvaged.SalvagedHart.{SalvagedHart}
use Rattle.salvaging.specs.declared.salvaged.Salvaged.{Salvaged}
use Rattle.salvaging.proofs.Members.{IsIn, all_in, came_of_contains, contains_of_in, in_of_contains}
use Rattle.salvaging.proofs.OneHart.{hart_of_log}
use Rattle.salvaging.proofs.SentMessages.{IsOfLog, of_log}

-- A filter that all pass leaves all.
pub all_pass : {X : Type 0} (test : X → Bool) (xs : List X) → All (λ x. test x ≡ true) xs → filter test xs ≡ xs
all_pass test [] all = refl
all_pass test (x ∷ xs) all =
    ap (λ passes. cond passes (x ∷ filter test xs) (filter test xs)) (All-head (λ x. test x ≡ true) x xs all)
    ∙ ap (λ l. x ∷ l) (all_pass test xs (All-tail (λ x. test x ≡ true) x xs all))

-- None is counted where none passes.
none_counted : {X : Type 0} (test : X → Bool) (xs : List X) → All (λ x. test x ≡ false) xs → count_by test xs ≡ 0
none_counted test [] none = refl
none_counted test (x ∷ xs) none =
    let here : cond (test x) 1 0 ≡ 0 =
    ap {B = ℕ} (λ passes. cond passes 1 0) (All-head (λ x. test x ≡ false) x xs none) in
    let later = none_counted test xs (All-tail (λ x. test x ≡ false) x xs none) in
    let both = sum_by-cons (λ x. cond (test x) 1 0) x xs in
    omega (arith, here, later, both)

-- A message is among those of its hart.
in_hart : (hart : ℕ) (messages : List Message) (message : Message) → message.hart ≡ hart → IsIn message messages
    → IsIn message (of_hart hart messages)
in_hart hart [] message own one = absurd one
in_hart hart (first ∷ messages) message own (inl is) =
    let passes = eq-eqb first.hart hart (sym (ap (λ (m : Message). m.hart) is) ∙ own) in
    subst (λ b. IsIn message (cond b (first ∷ of_hart hart messages) (of_hart hart messages))) (sym passes) (inl is)
in_hart hart (first ∷ messages) message own (inr one) =
    by_test (first.hart == hart) (in_hart hart messages message own one)
  where
    by_test : (passes : Bool) → IsIn message (of_hart hart messages)
        → IsIn message (cond passes (first ∷ of_hart hart messages) (of_hart hart messages))
    by_test true later = inr later
    by_test false later = later

module _ (program : Image) (period : ℕ) (handed : Mode) (own : ℕ → Mode) (logs : List ProgramLog)
    (messages : List Message) (from : AreFromLogs program period handed own logs messages) where
  legal_at : (hart : ℕ) (log : ProgramLog) → slice_get logs hart ≡ Some log → IsLegalLog log
  legal_at hart log at = All-slice_get IsLegalLog logs hart log at from.legal

  same_at : (hart : ℕ) (log : ProgramLog) → slice_get logs hart ≡ Some log → log.program ≡ program
  same_at hart log at = All-slice_get (λ (l : ProgramLog). l.program ≡ program) logs hart log at from.same

  -- Each message of a hart is of its log.
  each_at : (hart : ℕ) (log : ProgramLog) → slice_get logs hart ≡ Some log
      → All (IsOfLog hart (packets (words_of log.program) period (own hart) log.events)) (of_hart hart messages)
  each_at hart log at =
      All-weaker (Contains (messages_from hart 0 (payloads period (own hart) log)))
      (IsOfLog hart (packets (words_of log.program) period (own hart) log.events))
      (λ message sent. of_log hart period (own hart) log (legal_at hart log at) message
      (in_of_contains (messages_from hart 0 (payloads period (own hart) log)) message sent))
      (of_hart hart messages) (from.sent hart log at)

  -- Each message is of a hart that is known, and its number is one that a hart has.
  number_small : (message : Message) → IsIn message messages
      → (message.hart < length logs) × (message.number < 2 ^ 63)
  number_small message one =
      let known = All-contains (λ (m : Message). m.hart < length logs) messages message from.known
      (contains_of_in messages message one) in
      let log = get_or logs message.hart (program_log program []) in
      let at = slice_get-get_or logs message.hart (program_log program []) known in
      let here = in_hart message.hart messages message refl one in
      let of = All-contains (IsOfLog message.hart (packets (words_of log.program) period (own message.hart)
      log.events)) (of_hart message.hart messages) message (each_at message.hart log at)
      (contains_of_in (of_hart message.hart messages) message here) in
      (known, of.number)

  no_stranger : (message : Message) → IsIn message messages → is_stranger (length logs) message ≡ false
  no_stranger message one =
      let small = number_small message one in
      let known = lt-ltb message.hart (length logs) small.0 in
      let few = lt-ltb message.number (2 ^ 63) small.1 in
      ap (λ b. not (b && has_number message)) known ∙ ap not few

  none_strange : count_by (is_stranger (length logs)) messages ≡ 0
  none_strange = none_counted (is_stranger (length logs)) messages
      (All-weaker (λ m. IsIn m messages) (λ m. is_stranger (length logs) m ≡ false) no_stranger messages
      (all_in messages))

  -- All messages of a hart have a number that a hart has.
  all_own : (hart : ℕ) (log : ProgramLog) → slice_get logs hart ≡ Some log
      → own_messages hart messages ≡ of_hart hart messages
  all_own hart log at =
      let ps = packets (words_of log.program) period (own hart) log.events in
      all_pass has_number (of_hart hart messages)
      (All-weaker (IsOfLog hart ps) (λ m. has_number m ≡ true) (λ m of. lt-ltb m.number (2 ^ 63) of.number)
      (of_hart hart messages) (each_at hart log at))

  known_at : (hart : ℕ) → hart < length logs
      → (handed ≡ own hart) ⊎ (NumberCame 0 (numbers_of hart messages) ⊎ (of_hart hart messages ≡ []))
  known_at hart within = by_reason (from.mode_known hart within)
    where
      by_reason : (handed ≡ own hart) ⊎ (Contains (numbers_of hart messages) 0 ⊎ (of_hart hart messages ≡ []))
          → (handed ≡ own hart) ⊎ (NumberCame 0 (numbers_of hart messages) ⊎ (of_hart hart messages ≡ []))
      by_reason (inl is) = inl is
      by_reason (inr (inl contained)) = inr (inl (came_of_contains (numbers_of hart messages) 0 contained))
      by_reason (inr (inr none)) = inr (inr none)

  each_hart : {A : Type 0} (hart : ℕ) (log : ProgramLog) (one : SalvagedHart A) → slice_get logs hart ≡ Some log
      → IsSalvagedHart (words_of program) handed (own_messages hart messages) one
      → IsLogSalvaged (words_of program) period (own hart) log.events (numbers_of hart messages) one
  each_hart hart log one at salvaged =
      let same = same_at hart log at in
      let of_own = subst (λ ms. IsSalvagedHart (words_of program) handed ms one) (all_own hart log at) salvaged in
      let by_log = subst (λ p. IsSalvagedHart (words_of p) handed (of_hart hart messages) one) (sym same) of_own in
      subst (λ p. IsLogSalvaged (words_of p) period (own hart) log.events (numbers_of hart messages) one) same
      (hart_of_log hart period handed (own hart) log (legal_at hart log at) (of_hart hart messages)
      (each_at hart log at) (known_at hart (slice_get_within logs hart log at)) one by_log)

  pub logs_salvaged : {A : Type 0} (salvaged : Salvaged A) → IsSalvaged (words_of program) handed (length logs)
      messages salvaged
      → AreLogsSalvaged program period own logs messages salvaged
  logs_salvaged salvaged is = record {
    count = is.count;
    each = λ hart log one at here. each_hart hart log one at (is.each hart one here);
    strangers = is.strangers ∙ none_strange;
  }
