-- What is received of harts, each at its place, as a list.
use Rattle.std.proofs.Common.{◌≡◌, ◌<◌, ◌≤◌, ◌∙◌, ◌+◌, ℕ, zero, suc, Bool, true, false, List, [], ◌∷◌, Option, Some}
use Rattle.std.proofs.Common.{None, length, map, slice_get, refl, ap, ap₂, subst, arith}
use Rattle.std.specs.Prelude.{All, IsFalse, IsSomeAnd, IsTrue}
use Rattle.legalpath.specs.ProgramLog.{ProgramLog}
use Rattle.payload.specs.declared.mode.Mode.{Mode}
use Rattle.message.specs.OfHart.{of_hart}
use Rattle.message.specs.declared.message.Message.{Message}
use Rattle.bench.specs.Beginnings.{AreThoseTaken, CameOf, LackSome, NamesRefused}
use Rattle.bench.specs.Got.{HasGot, got_after, got_of, kept}
use Rattle.bench.specs.declared.config.Config.{Config}
use Rattle.bench.specs.declared.outcome.HartOutcome.{HartOutcome}
use Rattle.bench.specs.declared.stop.Stop.{Stop}
use Rattle.bench.specs.declared.stop.Stop.TheVariants as stop
use Rattle.log_commands.specs.Replaying.{AreGot, AreGotOfSome, gots_after}

-- Of each hart, the first of them this one, came the first packets of its log: as many as messages of it were taken, or
-- at most that many where an allocation for it failed.
abbrev pub AreEach : {A : Type 0} → ℕ → ℕ → Mode → List ProgramLog → List Message → List (HartOutcome A) → Type 0
AreEach {A} hart period mode logs taken harts =
    (place : ℕ) (log : ProgramLog) (came : HartOutcome A) → slice_get logs place ≡ Some log
    → slice_get harts place ≡ Some came
    → (count : ℕ) × HasGot period mode false log count (got_of came)
    × CameOf came.refused (length (of_hart (hart + place) taken)) count

-- It is so of the harts after the first.
behind : {A : Type 0} (hart period : ℕ) (mode : Mode) (log : ProgramLog) (logs : List ProgramLog) (taken : List Message)
    (came : HartOutcome A) (harts : List (HartOutcome A)) → AreEach hart period mode (log ∷ logs) taken (came ∷ harts)
    → AreEach (hart + 1) period mode logs taken harts
behind hart period mode log logs taken came harts each place l c at there =
    let (count, has, from) = each (suc place) l c at there in
    let next : hart + suc place ≡ hart + 1 + place = omega arith in
    (count, has, subst (λ h. CameOf c.refused (length (of_hart h taken)) count) next from)

-- All of it came where no allocation failed.
all_came : (refused : Bool) (taken count : ℕ) → refused ≡ false → CameOf refused taken count → count ≡ taken
all_came true taken count is from = cc
all_came false taken count is from = from

-- At most all came.
some_came : (refused : Bool) (taken count : ℕ) → CameOf refused taken count → count ≤ taken
some_came true taken count from = from
some_came false taken count from = omega (arith, from)

-- Where an allocation failed for no hart, what is received of them is what is received of all that was taken.
pub gots_after-all : {A : Type 0} (hart period : ℕ) (mode : Mode) (logs : List ProgramLog) (taken : List Message)
    (harts : List (HartOutcome A))
    → length logs ≡ length harts → All (λ (came : HartOutcome A). IsFalse came.refused) harts
    → AreEach hart period mode logs taken harts
    → map got_of harts ≡ gots_after hart period mode logs taken
gots_after-all hart period mode [] taken [] count none each = refl
gots_after-all hart period mode [] taken (came ∷ harts) count none each = absurd (omega (arith, count))
gots_after-all hart period mode (log ∷ logs) taken [] count none each = absurd (omega (arith, count))
gots_after-all hart period mode (log ∷ logs) taken (came ∷ harts) count none each =
    let (some, has, from) = each 0 log came refl refl in
    let all = all_came came.refused (length (of_hart (hart + 0) taken)) some (none 0 came (omega arith)) from in
    let here : hart + 0 ≡ hart = omega arith in
    ap₂ (λ got gots. got ∷ gots)
    (has.same ∙ ap (λ n. kept false (got_after period mode log n)) (all ∙ ap (λ h. length (of_hart h taken)) here))
    (gots_after-all (hart + 1) period mode logs taken harts (omega (arith, count))
    (λ k d within. none (suc k) d (omega (arith, within)))
    (behind hart period mode log logs taken came harts each))

-- What is received of them is what is received of some of it in any case.
pub gots_of_some : {A : Type 0} (hart period : ℕ) (mode : Mode) (logs : List ProgramLog) (taken : List Message)
    (harts : List (HartOutcome A))
    → length logs ≡ length harts → AreEach hart period mode logs taken harts
    → AreGotOfSome hart period mode logs taken (map got_of harts)
gots_of_some hart period mode [] taken [] count each = tt
gots_of_some hart period mode [] taken (came ∷ harts) count each = absurd (omega (arith, count))
gots_of_some hart period mode (log ∷ logs) taken [] count each = absurd (omega (arith, count))
gots_of_some hart period mode (log ∷ logs) taken (came ∷ harts) count each =
    let (some, has, from) = each 0 log came refl refl in
    let here : hart + 0 ≡ hart = omega arith in
    let most = some_came came.refused (length (of_hart (hart + 0) taken)) some from in (
      (some, subst (λ h. some ≤ length (of_hart h taken)) here most, has),
      gots_of_some (hart + 1) period mode logs taken harts (omega (arith, count))
          (behind hart period mode log logs taken came harts each),
    )

-- What the funnel's contract says of each hart, in the order of the harts.
pub each_taken : {A : Type 0} (config : Config) (logs : List ProgramLog) (taken : List Message)
    (harts : List (HartOutcome A))
    → config.keep ≡ false → AreThoseTaken config logs taken harts
    → AreEach 0 config.period config.mode logs taken harts
each_taken config logs taken harts none those place log came at there =
    let (count, has, from) = those place log came at there in
    let here : place ≡ 0 + place = omega arith in (
      count,
      subst (λ keep. HasGot config.period config.mode keep log count (got_of came)) none has,
      subst (λ h. CameOf came.refused (length (of_hart h taken)) count) here from,
    )

-- What is received of a hart that is named as a stop is not closed, and fewer packets than messages were taken of it.
lacks_some : {A : Type 0} (taken : ℕ) (harts : List (HartOutcome A)) (hart : ℕ)
    → IsSomeAnd (slice_get harts hart) (λ came. IsTrue came.refused × IsFalse came.closed)
    → ((came : HartOutcome A) → slice_get harts hart ≡ Some came → IsTrue came.refused → came.taken < taken)
    → IsSomeAnd (slice_get (map got_of harts) hart) (λ got. IsFalse got.closed × (got.taken < taken))
lacks_some taken [] hart some lacks = some
lacks_some taken (came ∷ harts) zero some lacks = (some.1, lacks came refl some.0)
lacks_some taken (came ∷ harts) (suc hart) some lacks = lacks_some taken harts hart some lacks

-- What is received of the harts, by the stop.
pub are_got : {A : Type 0} (config : Config) (logs : List ProgramLog) (taken : List Message)
    (harts : List (HartOutcome A)) (why : Option Stop) → config.keep ≡ false → length logs ≡ length harts
    → AreThoseTaken config logs taken harts → LackSome taken harts
    → NamesRefused why harts → AreGot config.period config.mode logs taken why (map got_of harts)
are_got config logs taken harts None keep count those lacks names =
    gots_after-all 0 config.period config.mode logs taken harts count names
    (each_taken config logs taken harts keep those)
are_got config logs taken harts (Some (stop.Memory hart)) keep count those lacks names = (
  lacks_some (length (of_hart hart taken)) harts hart names (lacks hart),
  gots_of_some 0 config.period config.mode logs taken harts count
      (each_taken config logs taken harts keep those),
)
are_got config logs taken harts (Some (stop.HandedBack hart)) keep count those lacks names = elim names [ ]
are_got config logs taken harts (Some (stop.Ended hart)) keep count those lacks names = elim names [ ]
