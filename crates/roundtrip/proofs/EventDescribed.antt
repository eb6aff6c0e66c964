-- What is described with each event of a log, in the state that it comes in.
use Rattle.std.proofs.Common.{◌≡◌, ℕ, ◌+◌, ◌^◌, ◌<◌, Bool, true, false, ◌&&◌, not, List, [], ◌∷◌, Option, Some, None}
use Rattle.std.proofs.Common.{refl, sym, ◌∙◌, arith}
use Rattle.std.proofs.lemmas.Bool.{and_parts}
use Rattle.retire.specs.Events.{is_retirement}
use Rattle.retire.specs.declared.event.Event.{Event}
use Rattle.retire.specs.declared.event.Event.TheVariants.{Retire, Trap}
use Rattle.rvclass.specs.Words.{Word, Words, IsProgram}
use Rattle.legalpath.specs.Discontinuity.{is_discontinuity}
use Rattle.legalpath.specs.Right.{RetiresOn, Right}
use Rattle.payload.specs.declared.mode.Mode.{Mode}
use Rattle.encoder.specs.Piece.{Piece, next_piece}
use Rattle.encoder.specs.Rule.{with_handler, is_handler, is_start}
use Rattle.encoder.specs.Spot.{first_event}
use Rattle.encoder.specs.declared.rule.Rule.{Rule}
use Rattle.encoder.specs.declared.rule.Rule.TheVariants as by
use Rattle.decoder.specs.Fits.{AfterInferable}
use Rattle.roundtrip.proofs.RuleFacts.{AnswersOf, same_privilege}
use Rattle.roundtrip.proofs.RestDescribed.{RestDescribed, Quiet, NotHandled, InRangeAfter, Handles, AtCut, AfterTrap}
use Rattle.roundtrip.proofs.RestDescribed.{RestDescribedAfter, cut}
use Rattle.roundtrip.proofs.RestDescribed.{not_handled}
use Rattle.roundtrip.proofs.QuietDescribed.{quiet_retirement_described}

-- A right retirement stands in range, since its word does.
pub address_in_range : (words : Words) → IsProgram words → (addr itype priv : ℕ)
    → Right words (Retire addr itype priv) → addr < 2 ^ 64
address_in_range words program addr itype priv right = by_word (words addr) refl right.0
  where
    by_word : (word : Option Word) → words addr ≡ word → RetiresOn word itype priv → addr < 2 ^ 64
    by_word None is retires = absurd retires
    by_word (Some word) is retires = let below = program.below addr word is in omega arith

-- A trap with a handler comes after a retirement that leads to one address.
inferable : (words : Words) (before : Option Event) (addr itype priv : ℕ)
    → with_handler words before (Some (Retire addr itype priv)) ≡ true → AfterInferable words before
inferable words None addr itype priv is = cc
inferable words (Some event) addr itype priv is =
    by_tests (is_retirement event) refl (is_discontinuity words event) refl is
  where
    by_tests : (retired : Bool) → is_retirement event ≡ retired → (leaves : Bool)
        → is_discontinuity words event ≡ leaves → (retired && not leaves && true) ≡ true
        → (is_retirement event ≡ true) × (is_discontinuity words event ≡ false)
    by_tests true retires true leads both = cc
    by_tests true retires false leads both = (retires, leads)
    by_tests false retires leaves leads both = cc

-- What follows a trap that is reported with its handler is the handler.
handles : (words : Words) (before : Option Event) (events : List Event)
    → with_handler words before (first_event events None) ≡ true → Handles words before events
handles words before [] is = (and_parts _ _ is).1
handles words before (Trap priv interrupt cause epc tval ∷ events) is = (and_parts _ _ is).1
handles words before (Retire addr itype priv ∷ events) is = is

-- What follows another trap is no handler.
unhandled : (words : Words) (before : Option Event) (epc priv : ℕ) (interrupt : Bool) (cause tval : ℕ)
    (events : List Event) → with_handler words before (first_event events None) ≡ false
    → NotHandled words before (Some (Trap priv interrupt cause epc tval)) events
unhandled words before epc priv interrupt cause tval [] is = tt
unhandled words before epc priv interrupt cause tval (event ∷ events) is = is

module _ (words : Words) (period : ℕ) (mode : Mode) where
  -- A trap is reported alone, or waits for its handler.
  pub trap_described : (epc priv : ℕ) (interrupt : Bool) (cause tval number : ℕ) (before : Option Event) (reported : ℕ)
      (by_last : Rule) (events : List Event) (rest : List Event → List Piece) (handler : Bool) →
      with_handler words before (first_event events None) ≡ handler →
      RestDescribedAfter words period mode before (Trap priv interrupt cause epc tval) number events rest →
      RestDescribed words mode before reported by_last [] (Trap priv interrupt cause epc tval ∷ events) true
      (next_piece [] (Trap priv interrupt cause epc tval) (by.Trap handler) rest)
  trap_described epc priv interrupt cause tval number before reported by_last events rest true is on =
      let described = on before (Trap priv interrupt cause epc tval ∷ []) reported by_last
      (AfterTrap (handles words before events is)) in
      record { fit = described.fit; whole = described.whole; head = described.head }
  trap_described epc priv interrupt cause tval number before reported by_last events rest false is on =
      let trap = Trap priv interrupt cause epc tval in
      let described = on (Some trap) [] epc (by.Trap false)
      (AtCut (unhandled words before epc priv interrupt cause tval events is) tt) in
      cut words mode before reported by_last [] trap (by.Trap false) events _ (rest []) (refl, refl) described

  module _ (addr itype priv number : ℕ) (before_that : Option Event) (reported : ℕ) (by_last : Rule)
      (events : List Event) (rest : List Event → List Piece) (fits : addr < 2 ^ 64) where
    -- A retirement in a quiet stretch.
    pub in_stretch_described : (since : Event) (front : List Event) (before : Event) (rule : Rule)
        → Quiet words since front before → reported < 2 ^ 64 →
        is_start period number (Some before) priv ≡ false →
        AnswersOf words period number before_that (Some before) (Retire addr itype priv)
        (first_event events None) rule →
        RestDescribedAfter words period mode (Some before) (Retire addr itype priv) (number + 1) events rest →
        RestDescribed words mode (Some since) reported by_last front (Retire addr itype priv ∷ events) false
        (next_piece front (Retire addr itype priv) rule rest)
    in_stretch_described since front (Trap level interrupt cause epc tval) rule quiet known start answers on =
        let retires : false ≡ true = quiet.now.0 in cc
    in_stretch_described since front (Retire at type level) rule quiet known start answers on =
        let same : priv ≡ level = same_privilege priv level _ start in
        quiet_retirement_described words period mode since front
        (Retire at type level) number before_that reported by_last
        addr itype priv events rest quiet known (refl, same ∙ quiet.now.1) fits refl start rule answers on

    -- A retirement behind a cut that is neither a handler nor a new start begins a quiet stretch.
    behind_cut_described : (before : Option Event) (rule : Rule)
        → is_handler words before_that before (Retire addr itype priv) ≡ false → InRangeAfter before reported →
        AnswersOf words period number before_that before (Retire addr itype priv) (first_event events None) rule →
        is_start period number before priv ≡ false →
        RestDescribedAfter words period mode before (Retire addr itype priv) (number + 1) events rest →
        RestDescribed words mode before reported by_last [] (Retire addr itype priv ∷ events)
        (is_start period number before priv) (next_piece [] (Retire addr itype priv) rule rest)
    behind_cut_described None rule handler known answers start on = cc
    behind_cut_described (Some (Trap level interrupt cause epc tval)) rule handler known answers start on = cc
    behind_cut_described (Some (Retire at type level)) rule handler known answers start on =
        let before = Retire at type level in
        let quiet : Quiet words before [] before = record
        { before = (refl, refl); all = tt; now = (refl, refl); forward = tt; early = tt; ends = refl } in
        let described = in_stretch_described before [] before rule quiet known start answers on in
        record { fit = described.fit; whole = described.whole; head = described.head ∙ sym start }

    -- A retirement behind a cut that is no handler.
    pub at_cut_described : (before : Option Event) (rule : Rule)
        → is_handler words before_that before (Retire addr itype priv) ≡ false → InRangeAfter before reported →
        AnswersOf words period number before_that before (Retire addr itype priv) (first_event events None) rule →
        RestDescribedAfter words period mode before (Retire addr itype priv) (number + 1) events rest →
        RestDescribed words mode before reported by_last [] (Retire addr itype priv ∷ events)
        (is_start period number before priv) (next_piece [] (Retire addr itype priv) rule rest)
    at_cut_described before (by.Trap with) handler known answers on = absurd answers
    at_cut_described before by.Handler handler known answers on = cc
    at_cut_described before by.Sync handler known answers on =
        let last = Retire addr itype priv in
        let described = on (Some last) [] addr by.Sync (AtCut (not_handled words before addr itype priv events) fits) in
        let sync = cut words mode before reported by_last [] last by.Sync events _ (rest [])
        (last, refl, (itype, refl, refl)) described in
        record { fit = sync.fit; whole = sync.whole; head = sym answers.1 }
    at_cut_described before (by.Target cut_off) handler known answers on =
        behind_cut_described before (by.Target cut_off) handler known answers answers.0 on
    at_cut_described before by.Explicit handler known answers on =
        behind_cut_described before by.Explicit handler known answers answers.0 on
    at_cut_described before by.Notify handler known answers on =
        behind_cut_described before by.Notify handler known answers answers.0 on
    at_cut_described before by.MapOrNothing handler known answers on =
        behind_cut_described before by.MapOrNothing handler known answers answers.0 on

    -- The handler of a trap is reported with it.
    pub handler_described : (epc level : ℕ) (interrupt : Bool) (cause tval : ℕ) (rule : Rule)
        → with_handler words before_that (Some (Retire addr itype priv)) ≡ true →
        AnswersOf words period number before_that (Some (Trap level interrupt cause epc tval)) (Retire addr itype priv)
        (first_event events None) rule →
        RestDescribedAfter words period mode (Some (Trap level interrupt cause epc tval)) (Retire addr itype priv)
        (number + 1)
        events rest →
        RestDescribed words mode before_that reported by_last (Trap level interrupt cause epc tval ∷ [])
        (Retire addr itype priv ∷ events) true (next_piece (Trap level interrupt cause epc tval ∷ [])
        (Retire addr itype priv) rule rest)
    handler_described epc level interrupt cause tval (by.Trap with) is answers on = absurd answers
    handler_described epc level interrupt cause tval by.Handler is answers on =
        let last = Retire addr itype priv in
        let trap = Trap level interrupt cause epc tval in
        let described = on (Some last) [] addr by.Handler (AtCut (not_handled words (Some trap) addr itype priv events)
        fits) in
        cut words mode before_that reported by_last (trap ∷ []) last by.Handler events _ (rest [])
        (inferable words before_that addr itype priv is, epc, level, last, refl, (itype, refl, refl)) described
    handler_described epc level interrupt cause tval by.Sync is answers on = cc
    handler_described epc level interrupt cause tval (by.Target cut_off) is answers on = cc
    handler_described epc level interrupt cause tval by.Explicit is answers on = cc
    handler_described epc level interrupt cause tval by.Notify is answers on = cc
    handler_described epc level interrupt cause tval by.MapOrNothing is answers on = cc
