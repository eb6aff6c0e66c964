-- A packet that is no synchronisation begins no stretch, and one that is judged begins one where it is good.
use Rattle.std.proofs.Common.{rules, ◌≡◌, true, false, sym, ap, subst, ◌∙◌}
use Rattle.std.specs.Prelude.{None, Ok}
use Rattle.rvclass.specs.Fetch.{words_of}
use Rattle.payload.specs.Reading.{reading}
use Rattle.salvaging.specs.steps.Ending.{JudgedAlone}
use Rattle.salvaging.proofs.JudgedApart.{begins_good, begins_none, not_begun}
use Rattle.salvaging.proofs.ending.begins_by.Goals as goal

pub returns-then-not-is_sync : goal.returns-then-not-is_sync
returns-then-not-is_sync g c =
    let read : reading c.args.payload.now ≡ Ok c.in-Ok.packet =
    ap reading (sym c.bytes.ensures.same) ∙ sym c.unpack.ensures.value ∙ c.in-Ok.is in
    let none : c.is_sync.result ≡ false = search rules in
    begins_none (words_of c.args.program.now) c.args.mode c.args.payload.now c.in-Ok.packet read
    (sym c.is_sync.ensures ∙ none)

pub returns-in-None : goal.returns-in-None
returns-in-None g c =
    let read : reading c.args.payload.now ≡ Ok c.in-Ok.packet =
    ap reading (sym c.bytes.ensures.same) ∙ sym c.unpack.ensures.value ∙ c.in-Ok.is in
    let some : c.is_sync.result ≡ true = search rules in
    begins_good (words_of c.args.program.now) c.args.mode c.args.payload.now c.in-Ok.packet read
    (sym c.is_sync.ensures ∙ some)
    (subst (JudgedAlone (words_of c.args.program.now) c.args.mode c.args.payload.now None) c.in-None.is
    c.in_ok-reason_alone.ensures)

pub returns-in-Some : goal.returns-in-Some
returns-in-Some g c =
    not_begun (words_of c.args.program.now) c.args.mode c.args.payload.now _
    (subst (JudgedAlone (words_of c.args.program.now) c.args.mode c.args.payload.now None) c.in-Some.is
    c.in_ok-reason_alone.ensures)
