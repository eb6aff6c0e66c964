-- A hart goes on, which is said of its numbers: no search instantiates the clauses of the decoder.
use Rattle.std.proofs.Common.{refl, sym, subst, ◌∙◌}
use Rattle.std.specs.Option.{unwrap_or}
use Rattle.decoder.specs.Resuming.{HasMode, IsClosed, PassesOver}
use Rattle.ffi.proofs.DecodersBack.{closed_numbers, mode_numbers, passes_numbers}
use Rattle.ffi.specs.Received.{BadNumber, Resumed}
use Rattle.ffi.proofs.receiving.tracebench_resume.Goals as goal

pub returns-then-said-ne-DONE : goal.returns-then-said-ne-DONE
returns-then-said-ne-DONE c =
    BadNumber (c.in-Some.state, c.in-Some.ensures.found) c.in-Some-mode_of.mode (sym c.in-Some-mode_of.ensures)
    (λ is. c.if-said-ne-DONE.true (c.number_status-said.ensures.value ∙ is)) c.number_status-said.ensures.value refl

pub returns : goal.returns
returns c =
    let numbers = c.args.hart.now.decoder in
    let state = c.in-Some.state in
    let found = c.in-Some.ensures.found in
    let after = c.numbers_of_state.result in
    let next = c.state.result in
    let again = c.numbers_of_state.ensures in
    let begun = c.from_state-decoder.ensures.whole in
    let ended = c.state.ensures.whole in
    let announced = state.announced in
    let mode = unwrap_or announced c.in-Some-mode_of.mode in
    let has = subst (HasMode announced) (sym begun) refl in
    Resumed (state, found) c.in-Some-mode_of.mode (sym c.in-Some-mode_of.ensures)
    (sym c.number_status-said.ensures.value ∙ c.if-said-ne-DONE.false) refl refl
    (record {
      announced = announced;
      had = mode_numbers numbers state found announced refl;
      has = mode_numbers after next again announced
          (subst (HasMode announced) (sym ended) (c.resume.ensures.mode_kept announced has));
      passes = passes_numbers after next again mode
          (subst (PassesOver mode) (sym ended) (c.resume.ensures.passes_over announced has
          (λ closed. c.number_status-said.ensures.not_closed c.if-said-ne-DONE.false
          (closed_numbers numbers state found (subst IsClosed begun closed)))));
      again = (next, again);
    })
