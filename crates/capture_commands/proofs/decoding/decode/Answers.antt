-- The prover tries no chain of steps by itself: what was found of the input is handed to it.
use Rattle.std.proofs.Common.{Bool, Err, List, Option, arith, inl, inr, refl, subst, sym, ℕ, ◌≡◌, ◌⊎◌}
use Rattle.std.proofs.KnownBytes.{Keeps-refl}
use Rattle.std.proofs.lemmas.Grind.{common_steps}
use Rattle.std.specs.Io.KnownBytes.{Keeps}
use Rattle.std.specs.Prelude.{false, true}
use Rattle.command_inputs.specs.FurtherPieces.{base_number}
use Rattle.command_inputs.specs.OnlyHarts.{asked_harts}
use Rattle.command_inputs.specs.Order.{base_or_only_fault}
use Rattle.command_inputs.proofs.FirstSteps.{early_ends, passes}
use Rattle.capture_commands.specs.Decoded.{CanDecodeInput, DecodesInput, IsDecodeInput}
use Rattle.capture_commands.specs.steps.Inputs.{lent_in, owned_in}
use Rattle.capture_commands.proofs.InputRuns.{in_either, input_cut, input_printed, no_input}
use Rattle.capture_commands.proofs.decoding.decode.Goals as goal

pub returns-in_err-input-clause-early : goal.returns-in_err-input-clause-early
returns-in_err-input-clause-early g c =
    let asked = c.args.asked.now in
    let why = c.in_err-input.field-0.0 in
    let is : c.from_residual.result ≡ Err why = grind (arith, common_steps) in
    early_ends (base_or_only_fault (base_number asked.program) (asked_harts asked.only))
    c.read_input.result why c.from_residual.result c.in_err-input.was is c.read_input.ensures.early

pub returns-in_err-input-clause-printed : goal.returns-in_err-input-clause-printed
returns-in_err-input-clause-printed g c =
    let asked = c.args.asked.now in
    let content = g.F.Files.content c.args.files.now in
    let why = c.in_err-input.field-0.0 in
    let is : c.from_residual.result ≡ Err why = grind (arith, common_steps) in
    no_input (IsDecodeInput content asked) (DecodesInput asked) (CanDecodeInput asked) (g.O.Write.contents c.args.out.now) why
    c.from_residual.result is c.in_err-input.ensures.lacked

pub returns-clause-early : goal.returns-clause-early
returns-clause-early g c =
    let asked = c.args.asked.now in
    passes (base_or_only_fault (base_number asked.program) (asked_harts asked.only))
    c.read_input.result c.in_ok-input.input c.decode_capture.result c.in_ok-input.was c.read_input.ensures.early

pub returns-clause-printed : goal.returns-clause-printed
returns-clause-printed g c =
    let asked = c.args.asked.now in
    let content = g.F.Files.content c.args.files.now in
    let input = c.in_ok-input.input in
    input_printed (IsDecodeInput content asked) (DecodesInput asked) (CanDecodeInput asked) (g.O.Write.contents c.args.out.now)
    (g.O.Write.contents c.decode_capture.new.out) (lent_in c.lent-lent.result) (owned_in input) c.lent-lent.ensures
    c.in_ok-input.ensures.found c.decode_capture.result c.decode_capture.ensures.printed

pub returns-clause-cut : goal.returns-clause-cut
returns-clause-cut g c =
    let asked = c.args.asked.now in
    let content = g.F.Files.content c.args.files.now in
    let input = c.in_ok-input.input in
    input_cut (IsDecodeInput content asked) (DecodesInput asked) (CanDecodeInput asked) (g.O.Write.contents c.args.out.now)
    (g.O.Write.contents c.decode_capture.new.out) (lent_in c.lent-lent.result) (owned_in input) c.lent-lent.ensures
    c.in_ok-input.ensures.found c.decode_capture.ensures.cut

pub returns-clause-untouched : goal.returns-clause-untouched
returns-clause-untouched g c =
    in_either (λ refused. absurd (c.decode_capture.ensures.never_refused refused))
    (λ both. c.decode_capture.ensures.untouched both.0 both.1)

-- What was not touched keeps its bytes.
kept : {O : Type 0} (contents : O → Option (List ℕ)) (first then : O) → then ≡ first
    → Keeps (contents first) (contents then)
kept contents first then same =
    subst (λ out. Keeps (contents first) (contents out)) (sym same) (Keeps-refl (contents first))

-- Nothing was written; or where messages may be lost, nothing or a prefix.
begun : {A B : Type 0} (lossy : Bool) → (lossy ≡ false → A) → A ⊎ B → A ⊎ ((lossy ≡ true) × B)
begun true keeps (inl is) = inl is
begun true keeps (inr begins) = inr (refl, begins)
begun false keeps either = inl (keeps refl)

pub returns-clause-begun : goal.returns-clause-begun
returns-clause-begun g c = λ memory.
    let asked = c.args.asked.now in
    let content = g.F.Files.content c.args.files.now in
    let input = c.in_ok-input.input in
    begun c.args.asked.now.lossy
    (λ whole. kept (g.O.Write.contents) c.args.out.now c.decode_capture.new.out
    (c.decode_capture.ensures.untouched whole memory))
    (input_cut (IsDecodeInput content asked) (DecodesInput asked) (CanDecodeInput asked)
    (g.O.Write.contents c.args.out.now) (g.O.Write.contents c.decode_capture.new.out) (lent_in c.lent-lent.result)
    (owned_in input) c.lent-lent.ensures c.in_ok-input.ensures.found c.decode_capture.ensures.cut)
