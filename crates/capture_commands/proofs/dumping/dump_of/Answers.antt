-- The prover tries no chain of steps by itself: what each step found is handed to it, in order.
use Rattle.std.proofs.Common.{◌≡◌, refl, subst, option_map, arith, inr, ℕ, Bool, List, Option, Ok, Err}
use Rattle.std.proofs.lemmas.Grind.{common_steps}
use Rattle.output.specs.Begun.{AppendsBeginning}
use Rattle.output.proofs.Beginnings.{begun_kept, whole_begun}
use Rattle.captures.specs.Dump.{AppendsDump, BeginsDump}
use Rattle.message.specs.declared.fault.MessageFault.{MessageFault}
use Rattle.command_inputs.specs.declared.words.Dump.{Dump}
use Rattle.command_inputs.specs.Begun.{IsCutOf}
use Rattle.command_inputs.specs.Found.{IsRead}
use Rattle.log_streams.specs.Known.{Content}
use Rattle.command_inputs.specs.declared.fault.Fault.TheVariants as fault
use Rattle.command_inputs.proofs.Runs.{appends-keeps, ends_silently, output_failed, prints}
use Rattle.message.specs.declared.range.HartRange.{HartRange}
use Rattle.capture_commands.specs.Dumping.{CanDumpNamed, DumpsNamed, IsDumpAsked, end_of_dump}
use Rattle.capture_commands.specs.OnlyHarts.{HasHart}
use Rattle.capture_commands.specs.declared.reason.CaptureReason.{CaptureReason}
use Rattle.capture_commands.proofs.dumping.dump_of.Goals.{After-flush}
use Rattle.capture_commands.proofs.dumping.dump_of.Goals as goal

pub returns-in_err-bytes-clause-printed : goal.returns-in_err-bytes-clause-printed
returns-in_err-bytes-clause-printed g c =
    let out = g.O.Write.contents c.args.out.now in
    let asked = c.args.asked.now in
    let content = g.F.Files.content c.args.files.now in
    let run = DumpsNamed content asked c.args.harts (option_map (λ file. file.now) c.args.symbols) in
    let can = CanDumpNamed content asked c.args.harts in
    let why = c.in_err-bytes.field-0.0 in
    let is : c.from_residual.result ≡ Err why = grind (arith, common_steps) in
    ends_silently run can (IsRead content asked.capture (Err why)) why c.from_residual.result out is
    c.in_err-bytes.ensures.lacked (λ none. (Err why, none, refl))

pub returns-in_err-check_harts-clause-printed : goal.returns-in_err-check_harts-clause-printed
returns-in_err-check_harts-clause-printed g c =
    let out = g.O.Write.contents c.args.out.now in
    let asked = c.args.asked.now in
    let content = g.F.Files.content c.args.files.now in
    let bytes = c.in_ok-bytes.bytes.items in
    let why = c.in_err-check_harts.field-0.0 in
    let is : c.from_residual-in_err-check_harts.result ≡ Err why = grind (arith, common_steps) in
    ends_silently (DumpsNamed content asked c.args.harts (option_map (λ file. file.now) c.args.symbols)) (CanDumpNamed content asked c.args.harts)
    (HasHart c.args.harts bytes (Err why)) why c.from_residual-in_err-check_harts.result out is
    (inr (subst (λ bytes. HasHart c.args.harts bytes (Err why)) c.as_slice.ensures.value
    c.in_err-check_harts.ensures.found)) (λ none. (Ok bytes, c.in_ok-bytes.ensures.held, (Err why, none, refl)))

-- The capture was read, and a beginning of its dump was written.
dump_cut : (content : Content) (asked : Dump) (harts : HartRange) (symbols : Option (List ℕ)) (bytes : List ℕ) (bad : Bool) (stop : Option (ℕ × MessageFault))
    (text : List ℕ)
    (old new : Option (List ℕ)) → IsRead {W = CaptureReason} content asked.capture (Ok bytes)
    → HasHart harts bytes (Ok tt) → IsDumpAsked asked.search symbols harts bytes bad stop text
    → AppendsBeginning text old new → IsCutOf (DumpsNamed content asked harts symbols) old new
dump_cut content asked harts symbols bytes bad stop text old new read has dumped begun = inr (record {
  printed = record { text = text; ended = end_of_dump bad stop };
  prints = (Ok bytes, read, (Ok tt, has, record { bad = bad; stop = stop; dumped = dumped; ended = refl }));
  begun = begun;
})

module _ (g : _) (c : After-flush g) where
  -- What was dumped.
  dumped : AppendsDump (IsDumpAsked c.args.asked.now.search (option_map (λ file. file.now) c.args.symbols) c.args.harts c.in_ok-bytes.bytes.items) c.in_ok-dumped.dumped.bad c.in_ok-dumped.dumped.fault
      (g.O.Write.contents c.args.out.now) (g.O.Write.contents c.show_dump.new.out)
  dumped =
      let dumped = c.in_ok-dumped.dumped in
      subst (λ bytes. AppendsDump (IsDumpAsked c.args.asked.now.search (option_map (λ file. file.now) c.args.symbols) c.args.harts bytes) dumped.bad dumped.fault (g.O.Write.contents c.args.out.now)
      (g.O.Write.contents c.show_dump.new.out)) c.as_slice-2.ensures.value c.in_ok-dumped.ensures.dumped

  -- The capture has one of the harts.
  has : HasHart c.args.harts c.in_ok-bytes.bytes.items (Ok tt)
  has =
      subst (λ bytes. HasHart c.args.harts bytes (Ok tt)) c.as_slice.ensures.value c.in_ok-check_harts.ensures.found

  -- Whatever the flush answers, the whole dump was written.
  cut : IsCutOf (DumpsNamed (g.F.Files.content c.args.files.now) c.args.asked.now c.args.harts (option_map (λ file. file.now) c.args.symbols)) (g.O.Write.contents c.args.out.now)
      (g.O.Write.contents c.flush.new.self)
  cut =
      let old = g.O.Write.contents c.args.out.now in
      let mid = g.O.Write.contents c.show_dump.new.out in
      let new = g.O.Write.contents c.flush.new.self in
      dump_cut (g.F.Files.content c.args.files.now) c.args.asked.now c.args.harts (option_map (λ file. file.now) c.args.symbols) c.in_ok-bytes.bytes.items
      c.in_ok-dumped.dumped.bad c.in_ok-dumped.dumped.fault dumped.text old new c.in_ok-bytes.ensures.held has dumped.dumped
      (begun_kept dumped.text old mid new (whole_begun dumped.text old mid dumped.appended) c.flush.ensures.bytes)

pub returns-clause-printed : goal.returns-clause-printed
returns-clause-printed g c =
    let contents = g.O.Write.contents in
    let asked = c.args.asked.now in
    let content = g.F.Files.content c.args.files.now in
    let is = dumped g (goal.at.returns-clause-printed g c).After-flush in
    let old = contents c.args.out.now in
    let new = contents c.flush.new.self in
    prints (DumpsNamed content asked c.args.harts (option_map (λ file. file.now) c.args.symbols)) (CanDumpNamed content asked c.args.harts) c.ended.result old new (record {
      text = is.text;
      prints = (
        Ok c.in_ok-bytes.bytes.items,
        c.in_ok-bytes.ensures.held,
        (
          Ok tt,
          has g (goal.at.returns-clause-printed g c).After-flush,
          record {
            bad = c.in_ok-dumped.dumped.bad;
            stop = c.in_ok-dumped.dumped.fault;
            dumped = is.dumped;
            ended = c.ended.ensures.value;
          },
        ),
      );
      appended = appends-keeps old (contents c.show_dump.new.out) new is.text is.appended c.flush.ensures.bytes;
    })

pub returns-in_err-dumped-clause-cut : goal.returns-in_err-dumped-clause-cut
returns-in_err-dumped-clause-cut g c =
    let old = g.O.Write.contents c.args.out.now in
    let new = g.O.Write.contents c.show_dump.new.out in
    let bytes = c.in_ok-bytes.bytes.items in
    let search = c.args.asked.now.search in
    let is : BeginsDump (IsDumpAsked search (option_map (λ file. file.now) c.args.symbols) c.args.harts bytes) old new =
    subst (λ bytes. BeginsDump (IsDumpAsked search (option_map (λ file. file.now) c.args.symbols) c.args.harts bytes) old new) c.as_slice-2.ensures.value c.in_err-dumped.ensures.begun in
    dump_cut (g.F.Files.content c.args.files.now) c.args.asked.now c.args.harts (option_map (λ file. file.now) c.args.symbols) bytes is.bad is.fault is.text old new
    c.in_ok-bytes.ensures.held
    (subst (λ bytes. HasHart c.args.harts bytes (Ok tt)) c.as_slice.ensures.value c.in_ok-check_harts.ensures.found)
    is.dumped is.begun

pub returns-in_err-flush-clause-cut : goal.returns-in_err-flush-clause-cut
returns-in_err-flush-clause-cut g c = cut g (goal.at.returns-in_err-flush-clause-cut g c).After-flush

pub returns-clause-cut : goal.returns-clause-cut
returns-clause-cut g c = cut g (goal.at.returns-clause-cut g c).After-flush

pub returns-in_err-flush-clause-printed : goal.returns-in_err-flush-clause-printed
returns-in_err-flush-clause-printed g c =
    let content = g.F.Files.content c.args.files.now in
    let asked = c.args.asked.now in
    let is : c.from_residual-in_err-flush.result ≡ Err fault.Output = grind (arith, common_steps) in
    output_failed (DumpsNamed content asked c.args.harts (option_map (λ file. file.now) c.args.symbols)) (CanDumpNamed content asked c.args.harts) c.from_residual-in_err-flush.result
    (g.O.Write.contents c.args.out.now) (g.O.Write.contents c.flush.new.self) is
    (c.in_ok-bytes.bytes.items, c.in_ok-bytes.ensures.held, (tt, has g (goal.at.returns-in_err-flush-clause-printed g c).After-flush, tt))
