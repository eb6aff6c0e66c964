-- What came of harts, by what a collector has of them at the end.
use Rattle.std.proofs.Common.{◌≡◌, ◌<◌, inl, inr, ℕ, Bool, true, false, All, List, Option, Some, None, length}
use Rattle.std.proofs.Common.{get_or, slice_get, refl, sym, ap, subst, ◌∙◌, arith}
use Rattle.std.specs.Prelude.{IsFalse, IsSomeAnd, IsTrue}
use Rattle.std.proofs.lemmas.Bool.{ne_eqb}
use Rattle.std.proofs.lemmas.Option.{slice_get-get_or, slice_get_within}
use Rattle.rvclass.specs.Fetch.{words_of}
use Rattle.legalpath.specs.ProgramLog.{IsLegalLog, ProgramLog}
use Rattle.payload.specs.declared.mode.Mode.{Mode}
use Rattle.encoder.specs.Packets.{packets}
use Rattle.message.proofs.Elements.{All-slice_get}
use Rattle.message.specs.OfHart.{of_hart}
use Rattle.message.specs.declared.message.Message.{Message}
use Rattle.bench.specs.Beginnings.{AreBeginnings, AreThoseTaken, CameOf, LackSome, LackSomeTaken, NamesRefused}
use Rattle.bench.specs.Collected.{Collected, HasOutcome, IsRefusedHart}
use Rattle.bench.specs.Got.{Got, HasGot, got_after, got_of, kept}
use Rattle.bench.specs.declared.config.Config.{Config}
use Rattle.bench.specs.declared.outcome.HartOutcome.{HartOutcome}
use Rattle.bench.specs.declared.stop.Stop.{Stop}
use Rattle.bench.specs.declared.stop.Stop.TheVariants as stop
use Rattle.bench.specs.Stopping.{NoRefusedIsClosed}
use Rattle.bench.specs.steps.Taking.{CameUnlessRefused, IsTakenOf, LacksSome, NamesRefusedHart}
use Rattle.bench.proofs.CollectedLemmas.{element, taken_by}
use Rattle.bench.proofs.RefusedHarts.{came_not_refused, came_refused}
use Rattle.bench.proofs.WholeLog.{has_got}

pub differ : true ≡ false → ⊥
differ is = cc

-- The outcome of a hart says this.
abbrev Says : {A : Type 0} → Got → Bool → HartOutcome A → Type 0
Says got refused came = (got_of came ≡ got) × (came.refused ≡ refused)

-- What a collector promises of its end.
pub record Finishes {A : Type 0} (collected : Collected) (harts : List (HartOutcome A)) : Type 0 where
  pub count : length harts ≡ length collected.logs
  pub came : (hart : ℕ) (got : Got) (refused : Bool) → HasOutcome hart got refused collected
      → IsSomeAnd (slice_get harts hart) (λ came. (got_of came ≡ got) × (came.refused ≡ refused))

-- How many packets of the log came of a hart of which so many were taken.
record CameOut {A : Type 0} (period : ℕ) (mode : Mode) (keep : Bool) (log : ProgramLog) (taken : ℕ)
    (came : HartOutcome A) : Type 0 where
  count : ℕ
  got : HasGot period mode keep log count (got_of came)
  all : CameOf came.refused taken count

module _ {A : Type 0} (config : Config) (logs : List ProgramLog) (taken : List Message) (collected : Collected)
    (harts : List (HartOutcome A)) (legal : All IsLegalLog logs) (keep : collected.keep ≡ config.keep)
    (are : CameUnlessRefused config.period config.mode logs taken collected) (ends : Finishes collected harts) where
  says : (hart : ℕ) (came : HartOutcome A) (got : Got) (refused : Bool) → slice_get harts hart ≡ Some came
      → HasOutcome hart got refused collected → Says got refused came
  says hart came got refused at of =
      subst (λ some. IsSomeAnd some (λ one. (got_of one ≡ got) × (one.refused ≡ refused))) at
      (ends.came hart got refused of)

  came_out : (hart : ℕ) (log : ProgramLog) (came : HartOutcome A) → slice_get logs hart ≡ Some log
      → slice_get harts hart ≡ Some came
      → CameOut config.period config.mode config.keep log (length (of_hart hart taken)) came
  came_out hart log came known at = by_case (are.each hart log known)
    where
      count : ℕ
      count = length (of_hart hart taken)

      keeps : (n : ℕ) → kept collected.keep (got_after config.period config.mode log n)
          ≡ kept config.keep (got_after config.period config.mode log n)
      keeps n = ap (λ flag. kept flag (got_after config.period config.mode log n)) keep

      lawful : IsLegalLog log
      lawful = All-slice_get IsLegalLog logs hart log known legal

      by_case : IsTakenOf config.period config.mode log (length (of_hart hart taken)) hart collected
          → CameOut config.period config.mode config.keep log (length (of_hart hart taken)) came
      by_case (inl has) =
          let n = length (of_hart hart taken) in
          let held = says hart came (kept collected.keep (got_after config.period config.mode log n)) false at
          has.came in
          record {
            count = n;
            got = has_got config.period config.mode n config.keep log (got_of came) lawful has.few (held.0 ∙ keeps n);
            all = subst (λ refused. CameOf refused n n) (sym held.1) refl;
          }
      by_case (inr cut) =
          let n = length (of_hart hart taken) in
          let held = says hart came (kept collected.keep (got_after config.period config.mode log cut.count)) true at
          cut.came in
          record {
            count = cut.count;
            got =
                has_got config.period config.mode cut.count config.keep log (got_of came) lawful
                (omega (arith, cut.few))
                (held.0 ∙ keeps cut.count);
            all = subst (λ refused. CameOf refused n cut.count) (sym held.1) cut.within;
          }

  as_many : length harts ≡ length logs
  as_many = ends.count ∙ ap length are.own

  pub are_beginnings : AreBeginnings config logs harts
  are_beginnings = record {
    count = as_many;
    each = λ hart log came known at. let out = came_out hart log came known at in (out.count, out.got);
  }

  pub are_those_taken : AreThoseTaken config logs taken harts
  are_those_taken = λ hart log came known at.
      let out = came_out hart log came known at in (out.count, out.got, out.all)

  -- Of a hart that is refused some is lacking.
  pub lack_some : LacksSome taken collected → LackSome taken harts
  lack_some lacks hart came at refused =
      let within = slice_get_within harts hart came at in
      let its = element logs hart (omega (arith, within, as_many)) in
      by_case its.0 (ap (λ some. slice_get some hart) are.own ∙ its.1) (are.each hart its.0 its.1)
    where
      by_case : (log : ProgramLog) → slice_get collected.logs hart ≡ Some log
          → IsTakenOf config.period config.mode log (length (of_hart hart taken)) hart collected
          → came.taken < length (of_hart hart taken)
      by_case log known (inl has) =
          let got = kept collected.keep (got_after config.period config.mode log (length (of_hart hart taken))) in
          let held = says hart came got false at has.came in
          absurd (differ (sym refused ∙ held.1))
      by_case log known (inr cut) =
          let got = kept collected.keep (got_after config.period config.mode log cut.count) in
          let held = says hart came got true at cut.came in
          let less = lacks hart log (taken_by got true) known cut.came.taken refl in
          subst (λ n. n < length (of_hart hart taken)) (sym (ap (λ (some : Got). some.taken) held.0)) less

  -- And of one that is refused, of which any was taken, by what was cut off.
  pub lack_some_taken : LackSomeTaken taken harts
  lack_some_taken = λ hart came at refused some.
      let within = slice_get_within harts hart came at in
      let its = element logs hart (omega (arith, within, as_many)) in
      by_case hart its.0 came at refused some (are.each hart its.0 its.1)
    where
      by_case : (hart : ℕ) (log : ProgramLog) (came : HartOutcome A) → slice_get harts hart ≡ Some came
          → came.refused ≡ true → 0 < length (of_hart hart taken)
          → IsTakenOf config.period config.mode log (length (of_hart hart taken)) hart collected
          → came.taken < length (of_hart hart taken)
      by_case hart log came at refused some (inl has) =
          let got = kept collected.keep (got_after config.period config.mode log (length (of_hart hart taken))) in
          absurd (differ (sym refused ∙ (says hart came got false at has.came).1))
      by_case hart log came at refused some (inr cut) =
          let held = says hart came (kept collected.keep (got_after config.period config.mode log cut.count)) true at
          cut.came in
          subst (λ n. n < length (of_hart hart taken)) (sym (ap (λ (got : Got). got.taken) held.0)) (cut.lacks some)

  -- Of a hart that is not refused all came.
  not_refused : (hart : ℕ) (log : ProgramLog) (came : HartOutcome A) → slice_get harts hart ≡ Some came
      → (IsRefusedHart hart collected → ⊥)
      → IsTakenOf config.period config.mode log (length (of_hart hart taken)) hart collected → came.refused ≡ false
  not_refused hart log came at none (inl has) =
      (says hart came (kept collected.keep (got_after config.period config.mode log (length (of_hart hart taken))))
      false at
      has.came).1
  not_refused hart log came at none (inr cut) =
      absurd (none (came_refused hart (kept collected.keep (got_after config.period config.mode log cut.count))
      collected cut.came))

  refused_open : (got : Got) (at : Option (HartOutcome A)) → got.closed ≡ false
      → IsSomeAnd at (λ one. (got_of one ≡ got) × (one.refused ≡ true))
      → IsSomeAnd at (λ one. IsTrue one.refused × IsFalse one.closed)
  refused_open got None open_yet never = never
  refused_open got (Some one) open_yet held = (held.1, ap (λ (some : Got). some.closed) held.0 ∙ open_yet)

  -- And the outcome of one that is refused says so, and that it is not closed.
  is_refused : (hart : ℕ) (log : ProgramLog) → IsRefusedHart hart collected
      → IsTakenOf config.period config.mode log (length (of_hart hart taken)) hart collected
      → IsSomeAnd (slice_get harts hart) (λ came. IsTrue came.refused × IsFalse came.closed)
  is_refused hart log refused (inl has) =
      absurd (came_not_refused hart
      (kept collected.keep (got_after config.period config.mode log (length (of_hart hart taken))))
      collected has.came refused)
  is_refused hart log refused (inr cut) =
      let got = kept collected.keep (got_after config.period config.mode log cut.count) in
      let few = cut.few in
      let all = length (packets (words_of log.program) config.period config.mode log.events) in
      refused_open got (slice_get harts hart) (ne_eqb cut.count all (λ same. omega (arith, same, few)))
      (ends.came hart got true cut.came)

  -- A hart that is refused is not closed.
  pub none_is_closed : NoRefusedIsClosed harts
  none_is_closed = λ hart d within refused.
      let its = element logs hart (omega (arith, within, as_many)) in
      by_case hart its.0 (get_or harts hart d) (slice_get-get_or harts hart d within) refused
      (are.each hart its.0 its.1)
    where
      by_case : (hart : ℕ) (log : ProgramLog) (came : HartOutcome A) → slice_get harts hart ≡ Some came
          → came.refused ≡ true → IsTakenOf config.period config.mode log (length (of_hart hart taken)) hart collected
          → came.closed ≡ false
      by_case hart log came at refused (inl has) =
          let got = kept collected.keep (got_after config.period config.mode log (length (of_hart hart taken))) in
          let held : came.refused ≡ false = (says hart came got false at has.came).1 in
          cc
      by_case hart log came at refused (inr cut) =
          let few = cut.few in
          let all = length (packets (words_of log.program) config.period config.mode log.events) in
          ap (λ (got : Got). got.closed)
          (says hart came (kept collected.keep (got_after config.period config.mode log cut.count)) true at cut.came).0
          ∙ ne_eqb cut.count all (λ same. omega (arith, same, few))

  pub names_refused : (why : Option Stop) → NamesRefusedHart why collected → NamesRefused why harts
  names_refused None none = λ hart d within.
      let its = element logs hart (omega (arith, within, as_many)) in
      not_refused hart its.0 (get_or harts hart d) (slice_get-get_or harts hart d within)
      (none hart (omega (arith, within, ends.count))) (are.each hart its.0 its.1)
  names_refused (Some (stop.Memory hart)) named =
      let its = element logs hart (subst (λ n. hart < n) (ap length are.own) named.0) in
      is_refused hart its.0 named.1 (are.each hart its.0 its.1)
  names_refused (Some (stop.HandedBack hart)) named = named
  names_refused (Some (stop.Ended hart)) named = named
