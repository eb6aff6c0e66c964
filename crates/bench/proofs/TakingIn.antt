-- A collector that takes the next message of a hart in has the messages that were taken and this one.
use Rattle.std.proofs.Common.{◌≡◌, ◌≢◌, ◌<◌, ◌+◌, ◌⊎◌, inl, inr, ℕ, true, false, List, [], ◌∷◌, ◌++◌, Some}
use Rattle.std.proofs.Common.{length, slice_get, refl, sym, ap, subst, ◌∙◌, arith}
use Rattle.std.specs.Prelude.{IfErr, OnOk, Option, None, Result, Ok, Err}
use Rattle.std.proofs.lemmas.Bool.{cases_eq}
use Rattle.std.proofs.lemmas.List.{length-map, length_push}
use Rattle.std.proofs.lemmas.Option.{same_Some, slice_get_within}
use Rattle.rvclass.specs.Fetch.{words_of}
use Rattle.legalpath.specs.ProgramLog.{ProgramLog}
use Rattle.payload.specs.Spelling.{payload_of}
use Rattle.payload.specs.declared.mode.Mode.{Mode}
use Rattle.encoder.specs.Packets.{packets}
use Rattle.encoder.specs.Payloads.{payloads}
use Rattle.message.proofs.OfHartLemmas.{of_hart-next, of_hart-other}
use Rattle.message.specs.OfHart.{of_hart}
use Rattle.message.specs.declared.message.Message.{Message}
use Rattle.bench.specs.Collected.{Collected, HasCollected, HasOutcome, IsMessageOf, IsRefusedHart, Taken}
use Rattle.bench.specs.Got.{got_after, kept}
use Rattle.bench.specs.declared.collecting.CollectFault.{CollectFault}
use Rattle.bench.specs.declared.collecting.CollectFault.TheVariants as fault
use Rattle.bench.specs.declared.stop.Stop.{Stop}
use Rattle.bench.specs.declared.stop.Stop.TheVariants as stop
use Rattle.bench.specs.steps.Taking.{CameUnlessRefused, IsCutOff, IsFrontNext, IsNext, IsTakenOf, LacksSome}
use Rattle.bench.specs.steps.Taking.{NamesRefusedHart}
use Rattle.bench.specs.TakesMessage.{TakesMessage}
use Rattle.bench.proofs.CollectedLemmas.{taken_by}
use Rattle.bench.proofs.CollectedSame.{collected_same, cut_off_same}
use Rattle.bench.proofs.RefusedHarts.{IsRefused, apart, came_not_refused, came_refused}

-- An answer is no fault.
no_fault : (result : Result (Unit {0}) CollectFault) → result ≡ Ok tt → result ≡ Err fault.Memory → ⊥
no_fault result ok memory = cc

module _ (message : Message) (result : Result (Unit {0}) CollectFault) (old new : Collected)
    (takes : TakesMessage message result old new) (period : ℕ) (mode : Mode) where
  cut_off_refused : (count : ℕ) (log : ProgramLog) → IsCutOff period mode log count message.hart old
      → IsRefusedHart message.hart old
  cut_off_refused count log cut =
      came_refused message.hart (kept old.keep (got_after period mode log cut.count)) old cut.came

  -- A hart for which an allocation failed stays as it was.
  pub cut_off_stays : (count : ℕ) (log : ProgramLog) → IsCutOff period mode log count message.hart old
      → IsCutOff period mode log (count + 1) message.hart new
  cut_off_stays count log cut =
      subst (λ (c : Collected). IsCutOff period mode log (count + 1) message.hart c)
      (sym (takes.passed_over (cut_off_refused count log cut)).1)
      (record {
        count = cut.count;
        within = omega (arith, cut.within);
        lacks = λ some. omega (arith, cut.within);
        few = cut.few;
        came = cut.came;
      })

  -- A message of a log is below all of them.
  below_all : (count : ℕ) (log : ProgramLog) → IsMessageOf period mode log count message
      → count < length (packets (words_of log.program) period mode log.events)
  below_all count log own =
      let within = slice_get_within (payloads period mode log) count message.payload own.payload in
      omega (arith, within, length-map (packets (words_of log.program) period mode log.events) payload_of)

  -- The next message of a hart came, or an allocation for it failed.
  pub own_taken : (count : ℕ) (log : ProgramLog) → IsMessageOf period mode log count message
      → IsTakenOf period mode log count message.hart old → IsTakenOf period mode log (count + 1) message.hart new
  own_taken count log own (inl has) =
      by_result result refl (takes.next period mode count log has own) (takes.only_memory period mode count log has own)
    where
      by_result : (r : Result (Unit {0}) CollectFault) → result ≡ r
          → OnOk r (HasCollected period mode log (count + 1) message.hart new)
          → IfErr r (λ why. why ≡ fault.Memory)
          → IsTakenOf period mode log (count + 1) message.hart new
      by_result (Ok unit) is more memory = inl more
      by_result (Err why) is more memory = inr (record {
        count = count;
        within = omega arith;
        lacks = λ some. omega arith;
        few = below_all count log own;
        came =
            subst (λ flag. HasOutcome message.hart (kept flag (got_after period mode log count)) true new)
            (sym takes.logs.1)
            (takes.memory (kept old.keep (got_after period mode log count)) false has.came (is ∙ ap Err memory));
      })
  own_taken count log own (inr cut) = inr (cut_off_stays count log cut)

  -- Of another hart what came stays.
  pub other_cut_off : (hart count : ℕ) (log : ProgramLog) → hart ≢ message.hart
      → IsCutOff period mode log count hart old
      → IsCutOff period mode log count hart new
  other_cut_off hart count log other cut =
      cut_off_same period mode count hart log old new (takes.others hart other) takes.logs.1 cut

  pub other_taken : (hart count : ℕ) (log : ProgramLog) → hart ≢ message.hart → IsTakenOf period mode log count hart old
      → IsTakenOf period mode log count hart new
  other_taken hart count log other (inl has) =
      inl (collected_same period mode count hart log old new (takes.others hart other) takes.logs.0 takes.logs.1 has)
  other_taken hart count log other (inr cut) = inr (other_cut_off hart count log other cut)

module _ (period : ℕ) (mode : Mode) (logs : List ProgramLog) (taken : List Message) (message : Message)
    (result : Result (Unit {0}) CollectFault) (old new : Collected) (takes : TakesMessage message result old new)
    (came : CameUnlessRefused period mode logs taken old) (next : IsNext period mode logs taken message) where
  abbrev before : ℕ
  before = length (of_hart message.hart taken)

  own_before : IsTakenOf period mode next.log before message.hart old
  own_before = came.each message.hart next.log next.known

  -- There is one message more of its hart.
  one_more : length (of_hart message.hart (taken ++ message ∷ [])) ≡ before + 1
  one_more = ap length (of_hart-next taken message) ∙ length_push (of_hart message.hart taken) message

  -- A message of a hart for which an allocation failed is no fault and changes nothing.
  passed_over : IsCutOff period mode next.log before message.hart old → (result ≡ Ok tt) × (new ≡ old)
  passed_over cut = takes.passed_over (cut_off_refused message result old new takes period mode before next.log cut)

  -- A message is refused only where an allocation failed.
  pub only_memory : IfErr result (λ why. why ≡ fault.Memory)
  only_memory = by_case own_before
    where
      by_case : IsTakenOf period mode next.log before message.hart old → IfErr result (λ why. why ≡ fault.Memory)
      by_case (inl has) = takes.only_memory period mode before next.log has next.own
      by_case (inr cut) =
          subst (λ r. IfErr r (λ why. why ≡ fault.Memory)) (sym (passed_over cut).0) tt

  -- Of each hart the messages that were taken and this one came, or an allocation for it failed.
  pub takes_more : CameUnlessRefused period mode logs (taken ++ message ∷ []) new
  takes_more = record {
    own = takes.logs.0 ∙ came.own;
    each = λ hart log at. by_hart hart log at (cases_eq hart message.hart);
  }
    where
      by_hart : (hart : ℕ) (log : ProgramLog) → slice_get logs hart ≡ Some log
          → (hart ≡ message.hart) ⊎ (hart ≡ message.hart → ⊥)
          → IsTakenOf period mode log (length (of_hart hart (taken ++ message ∷ []))) hart new
      by_hart hart log at (inl same) =
          let its : next.log ≡ log =
          same_Some next.log log (sym next.known ∙ ap (slice_get logs) (sym same) ∙ at) in
          subst (λ h. IsTakenOf period mode log (length (of_hart h (taken ++ message ∷ []))) h new) (sym same)
          (subst (λ n. IsTakenOf period mode log n message.hart new) (sym one_more)
          (subst (λ (l : ProgramLog). IsTakenOf period mode l (before + 1) message.hart new) its
          (own_taken message result old new takes period mode before next.log next.own own_before)))
      by_hart hart log at (inr other) =
          subst (λ n. IsTakenOf period mode log n hart new)
          (sym (ap length (of_hart-other hart taken message (λ same. other (sym same)))))
          (other_taken message result old new takes period mode hart (length (of_hart hart taken)) log other
          (came.each hart log at))

  -- Of a hart that is refused fewer messages came than were taken, this one among them.
  pub lacks_more : LacksSome taken old → LacksSome (taken ++ message ∷ []) new
  lacks_more lacks hart log at new_log is refused = by_hart (cases_eq hart message.hart)
    where
      known : slice_get old.logs hart ≡ Some log
      known = sym (ap (λ some. slice_get some hart) takes.logs.0) ∙ new_log

      by_result : (r : Result (Unit {0}) CollectFault) → result ≡ r
          → HasCollected period mode next.log before message.hart old
          → OnOk r (HasCollected period mode next.log (before + 1) message.hart new)
          → IfErr r (λ why. why ≡ fault.Memory) → slice_get new.harts message.hart ≡ Some at → at.taken < before + 1
      by_result (Ok unit) answer has more memory here =
          let got = kept new.keep (got_after period mode next.log (before + 1)) in
          let same = same_Some at (taken_by got false) (sym here ∙ more.came.taken) in
          absurd (apart (sym (ap (λ (some : Taken). some.refused) same) ∙ refused))
      by_result (Err why) answer has more memory here =
          let got = kept old.keep (got_after period mode next.log before) in
          let cut = takes.memory got false has.came (answer ∙ ap Err memory) in
          let same : at.taken ≡ before =
          ap (λ (some : Taken). some.taken) (same_Some at (taken_by got true) (sym here ∙ cut.taken)) in
          omega (arith, same)

      own : slice_get old.logs message.hart ≡ Some log → slice_get new.harts message.hart ≡ Some at
          → IsTakenOf period mode next.log before message.hart old → at.taken < before + 1
      own there here (inl has) =
          by_result result refl has (takes.next period mode before next.log has next.own)
          (takes.only_memory period mode before next.log has next.own) here
      own there here (inr cut) =
          let stays = ap (λ (c : Collected). slice_get c.harts message.hart)
          (passed_over cut).1 in
          let less = lacks message.hart log at there (sym stays ∙ here) refused in
          omega (arith, less)

      by_hart : (hart ≡ message.hart) ⊎ (hart ≡ message.hart → ⊥)
          → at.taken < length (of_hart hart (taken ++ message ∷ []))
      by_hart (inl same) =
          subst (λ h. at.taken < length (of_hart h (taken ++ message ∷ []))) (sym same)
          (subst (λ n. at.taken < n) (sym one_more)
          (own (ap (slice_get old.logs) (sym same) ∙ known) (ap (slice_get new.harts) (sym same) ∙ is) own_before))
      by_hart (inr other) =
          subst (λ n. at.taken < n)
          (sym (ap length (of_hart-other hart taken message (λ same. other (sym same)))))
          (lacks hart log at known (sym (takes.others hart other).taken ∙ is) refused)

  -- The hart is one of those with logs.
  has_place : message.hart < length new.logs
  has_place =
      let within = slice_get_within logs message.hart next.log next.known in
      let same = ap length (takes.logs.0 ∙ came.own) in
      omega (arith, within, same)

  -- Where an allocation failed the message's hart may be named.
  pub names_own : result ≡ Err fault.Memory → NamesRefusedHart (Some (stop.Memory message.hart)) new
  names_own memory = (has_place, by_case own_before)
    where
      by_case : IsTakenOf period mode next.log before message.hart old → IsRefusedHart message.hart new
      by_case (inl has) =
          let got = kept old.keep (got_after period mode next.log before) in
          came_refused message.hart got new (takes.memory got false has.came memory)
      by_case (inr cut) = absurd (no_fault result (passed_over cut).0 memory)

  -- Another hart is refused where it was.
  same_refused : (hart : ℕ) → hart ≢ message.hart → slice_get new.harts hart ≡ slice_get old.harts hart
  same_refused hart other = (takes.others hart other).taken

  -- What is named stays named where the message was taken in.
  pub names_same : (why : Option Stop) → result ≡ Ok tt → NamesRefusedHart why old → NamesRefusedHart why new
  names_same why ok names = by_case own_before
    where
      none_on : HasCollected period mode next.log (before + 1) message.hart new → NamesRefusedHart None old → (hart : ℕ)
          → hart < length new.logs → (hart ≡ message.hart) ⊎ (hart ≡ message.hart → ⊥) → IsRefusedHart hart new → ⊥
      none_on more none hart known (inl same) refused =
          came_not_refused message.hart (kept new.keep (got_after period mode next.log (before + 1))) new more.came
          (subst (λ h. IsRefusedHart h new) same refused)
      none_on more none hart known (inr other) refused =
          none hart (subst (λ n. hart < n) (ap length takes.logs.0) known)
          (subst IsRefused (same_refused hart other) refused)

      named_on : HasCollected period mode next.log before message.hart old → (hart : ℕ)
          → NamesRefusedHart (Some (stop.Memory hart)) old → (hart ≡ message.hart) ⊎ (hart ≡ message.hart → ⊥)
          → NamesRefusedHart (Some (stop.Memory hart)) new
      named_on has hart named (inl same) =
          absurd (came_not_refused message.hart (kept old.keep (got_after period mode next.log before)) old has.came
          (subst (λ h. IsRefusedHart h old) same named.1))
      named_on has hart named (inr other) = (
        subst (λ n. hart < n) (sym (ap length takes.logs.0)) named.0,
        subst IsRefused (sym (same_refused hart other)) named.1,
      )

      kept_on : (some : Option Stop) → HasCollected period mode next.log before message.hart old
          → HasCollected period mode next.log (before + 1) message.hart new
          → NamesRefusedHart some old → NamesRefusedHart some new
      kept_on None has more none = λ hart known refused.
          none_on more none hart known (cases_eq hart message.hart) refused
      kept_on (Some (stop.Memory hart)) has more named = named_on has hart named (cases_eq hart message.hart)
      kept_on (Some (stop.HandedBack hart)) has more named = absurd named
      kept_on (Some (stop.Ended hart)) has more named = absurd named

      by_case : IsTakenOf period mode next.log before message.hart old → NamesRefusedHart why new
      by_case (inl has) =
          kept_on why has
          (subst (λ r. OnOk r (HasCollected period mode next.log (before + 1) message.hart new)) ok
          (takes.next period mode before next.log has next.own)) names
      by_case (inr cut) =
          subst (NamesRefusedHart why) (sym (passed_over cut).1) names

-- The message in front is the next of its hart.
pub next_in_front : (period : ℕ) (mode : Mode) (logs : List ProgramLog) (taken waiting : List Message)
    (message : Message)
    → slice_get waiting 0 ≡ Some message → IsFrontNext period mode logs taken waiting
    → IsNext period mode logs taken message
next_in_front period mode logs taken [] message front next = cc
next_in_front period mode logs taken (first ∷ rest) message front next =
    subst (λ (m : Message). IsNext period mode logs taken m) (same_Some first message front) next
