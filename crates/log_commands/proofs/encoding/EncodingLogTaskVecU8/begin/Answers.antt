-- The prover does not carry the number of the hart over: it is handed what that number is.
use Rattle.std.proofs.Common.{◌≡◌, ◌+◌, ℕ, [], subst}
use Rattle.std.specs.Prelude.{IfSome}
use Rattle.rvclass.specs.Fetch.{words_of}
use Rattle.captures.specs.HasEncoded.{HasEncoded}
use Rattle.log_commands.proofs.encoding.EncodingLogTaskVecU8.begin.Goals as goal

pub returns-in-Some : goal.returns-in-Some
returns-in-Some g c =
    let task = c.args.self.now in
    let words = words_of c.args.arg2.now in
    let same =
    subst (λ some. IfSome some (λ (hart : ℕ). hart ≡ task.first + c.args.place)) c.in-Some.is c.hart_at.ensures in
    subst (λ hart. HasEncoded g.C.Form.text words task.period task.mode hart [] c.new.result) same
    (c.new.ensures words)
