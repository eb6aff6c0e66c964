-- What the bytes begin with decides which dump it is: the lemmas on each case are handed over, which no tactic finds.
use Rattle.std.proofs.Common.{◌≡◌, ◌++◌, ◌∙◌, Ok, Err, ap, arith, option_map, subst, sym}
use Rattle.std.specs.Prelude.{IfSome}
use Rattle.std.proofs.lemmas.Result.{IfOk-weaker, err_from_is_err_and, on_err_weaker}
use Rattle.payload.specs.declared.mode.Mode.TheVariants.{Differential}
use Rattle.message.specs.Header.{HasBadHeader, IsCutHeader, IsHeader, IsMarked, header_bytes}
use Rattle.message.specs.steps.Filling.{AreBytes}
use Rattle.captures.proofs.Dumps.{AreBytes-behind}
use Rattle.captures.proofs.HeaderDumps.{headed_begun, headed_dumped, line_begun, messages_begun, messages_dumped}
use Rattle.captures.proofs.HeaderDumps.{none_dumped}
use Rattle.captures.proofs.HeaderFaults.{no_header}
use Rattle.captures.specs.Dump.{AppendsDump, AreMessagesDumped, BeginsDump}
use Rattle.captures.proofs.dumping.dump_harts.Goals.{After-write_header_line}
use Rattle.captures.proofs.dumping.dump_harts.Goals as goal

module _ (g : _) (c : After-write_header_line g) where
  -- The bytes are the header and the rest.
  headed : IsHeader c.in-Ok-Some.header × (c.args.capture.now ≡ header_bytes c.in-Ok-Some.header ++ c.header.new.self)
  headed =
      let is = subst (λ o. IfSome o (λ h. IsHeader h × (c.new-messages.result ≡ header_bytes h ++ c.header.new.self)))
      c.in-Ok-Some.field-0-is c.in-Ok-Some.ensures.header in
      (is.0, sym c.new-messages.ensures ∙ is.1)

  -- The rest is bytes.
  rest_bytes : AreBytes c.header.new.self
  rest_bytes =
      AreBytes-behind (header_bytes c.in-Ok-Some.header) c.header.new.self
      (subst AreBytes headed.1 (λ k. let fits = c.type_inv.capture k in omega (arith, fits)))

pub returns-in_err-write_header_line-in-Ok-Some-clause-begun :
    goal.returns-in_err-write_header_line-in-Ok-Some-clause-begun
returns-in_err-write_header_line-in-Ok-Some-clause-begun g c =
    let after = (goal.at.returns-in_err-write_header_line-in-Ok-Some-clause-begun g c).After-write_header_line in
    let is = headed g after in
    let made = err_from_is_err_and c.from_residual.result c.from_residual.ensures.1 in
    rw made.1 (line_begun (option_map (λ file. file.now) c.args.symbols) c.args.harts c.args.capture.now
    c.in-Ok-Some.header c.header.new.self is.0 is.1 _ _ (rest_bytes g after)
    c.write_header_line.ensures.begun)

pub dump_messages-requires : goal.dump_messages-requires
dump_messages-requires g c = rest_bytes g (goal.at.dump_messages-requires g c).After-write_header_line

pub returns-in_ok-write_header_line-in-Ok-Some-clause-dumped :
    goal.returns-in_ok-write_header_line-in-Ok-Some-clause-dumped
returns-in_ok-write_header_line-in-Ok-Some-clause-dumped g c =
    let is = headed g (goal.at.returns-in_ok-write_header_line-in-Ok-Some-clause-dumped g c).After-write_header_line in
    IfOk-weaker c.dump_messages.result _ _
    (λ dumped. headed_dumped (option_map (λ file. file.now) c.args.symbols) c.args.harts c.args.capture.now
    c.in-Ok-Some.header c.header.new.self is.0 is.1 _ _ _
    c.in_ok-write_header_line-in-Ok-Some.ensures.text dumped.bad dumped.fault)
    c.dump_messages.ensures.dumped

pub returns-in_ok-write_header_line-in-Ok-Some-clause-begun :
    goal.returns-in_ok-write_header_line-in-Ok-Some-clause-begun
returns-in_ok-write_header_line-in-Ok-Some-clause-begun g c =
    let is = headed g (goal.at.returns-in_ok-write_header_line-in-Ok-Some-clause-begun g c).After-write_header_line in
    on_err_weaker c.dump_messages.result
    (headed_begun (option_map (λ file. file.now) c.args.symbols) c.args.harts c.args.capture.now c.in-Ok-Some.header
    c.header.new.self is.0 is.1 _ _ _
    c.in_ok-write_header_line-in-Ok-Some.ensures.text)
    c.dump_messages.ensures.begun

pub returns-in-Ok-None-clause-dumped : goal.returns-in-Ok-None-clause-dumped
returns-in-Ok-None-clause-dumped g c =
    let none = ap Ok c.in-Ok-None.field-0-is in
    let unmarked = subst (λ bytes. ¬ IsMarked bytes) c.new-messages.ensures (c.in-Ok-None.ensures.none.0 none) in
    let same = c.in-Ok-None.ensures.stays none ∙ c.new-messages.ensures in
    IfOk-weaker c.dump_messages-in-Ok-None.result _ _
    (λ dumped all. messages_dumped (option_map (λ file. file.now) c.args.symbols) c.args.harts c.args.capture.now
    unmarked _ _ dumped.bad dumped.fault
    (subst (λ bytes. AppendsDump
    (AreMessagesDumped (option_map (λ file. file.now) c.args.symbols) c.args.harts Differential bytes) dumped.bad
    dumped.fault
    (g.W.Write.contents c.args.sink.now) (g.W.Write.contents c.dump_messages-in-Ok-None.new.sink)) same all))
    c.dump_messages-in-Ok-None.ensures.dumped

pub returns-in-Ok-None-clause-begun : goal.returns-in-Ok-None-clause-begun
returns-in-Ok-None-clause-begun g c =
    let none = ap Ok c.in-Ok-None.field-0-is in
    let unmarked = subst (λ bytes. ¬ IsMarked bytes) c.new-messages.ensures (c.in-Ok-None.ensures.none.0 none) in
    let same = c.in-Ok-None.ensures.stays none ∙ c.new-messages.ensures in
    on_err_weaker c.dump_messages-in-Ok-None.result
    (λ some. messages_begun (option_map (λ file. file.now) c.args.symbols) c.args.harts c.args.capture.now unmarked _ _
    (subst (λ bytes. BeginsDump
    (AreMessagesDumped (option_map (λ file. file.now) c.args.symbols) c.args.harts Differential bytes)
    (g.W.Write.contents c.args.sink.now) (g.W.Write.contents c.dump_messages-in-Ok-None.new.sink)) same some))
    c.dump_messages-in-Ok-None.ensures.begun

pub returns-in-Err-clause-dumped : goal.returns-in-Err-clause-dumped
returns-in-Err-clause-dumped g c =
    let same = c.new-messages.ensures in
    none_dumped (option_map (λ file. file.now) c.args.symbols) c.args.harts c.args.capture.now c.in-Err.fault
    (g.W.Write.contents c.args.sink.now)
    (no_header c.args.capture.now c.in-Err.fault c.in-Err.ensures.fault
    (λ short. subst IsCutHeader same (c.in-Err.ensures.short.0 (ap Err short)))
    (λ bad. subst HasBadHeader same (c.in-Err.ensures.bad_header.0 (ap Err bad))))
