-- Both lines are written one after the other: by lemmas, which no tactic finds.
use Rattle.std.proofs.Common.{◌≡◌, Err, arith, refl, subst, sym}
use Rattle.std.proofs.lemmas.Grind.{common_steps}
use Rattle.std.specs.Io.KnownBytes.{Appends}
use Rattle.output.proofs.Beginnings.{begun_in_front}
use Rattle.retire.specs.Log.{header}
use Rattle.retire.specs.LogText.{line_of_fields}
use Rattle.retire.specs.declared.fault.WriteFault.TheVariants as fault
use Rattle.parallel_decode.specs.EachHart.{hart_line}
use Rattle.parallel_decode.proofs.PutLemmas.{put_behind, put_of}
use Rattle.parallel_decode.specs.Put.{IsPut}
use Rattle.parallel_decode.specs.HartsText.{head_of}
use Rattle.parallel_decode.proofs.buffers.write_head.Goals as goal

pub returns-in_err-write_text : goal.returns-in_err-write_text
returns-in_err-write_text g c =
    let old = g.O.Write.contents c.args.out.now in
    let new = g.O.Write.contents c.write_text.new.out in
    let failed : c.from_residual.result ≡ Err fault.Write = grind (arith, common_steps) in
    subst (λ ended. IsPut ended old new (head_of c.args.hart)) (sym failed)
    (begun_in_front (hart_line c.args.hart) (line_of_fields header) old new c.write_text.ensures.begun, refl)

pub returns : goal.returns
returns g c =
    let old = g.O.Write.contents c.args.out.now in
    let mid = g.O.Write.contents c.write_text.new.out in
    let new = g.O.Write.contents c.end_log_in.new.sink in
    let head : Appends old mid (hart_line c.args.hart) = grind (arith, common_steps) in
    put_behind c.end_log_in.result old mid new (hart_line c.args.hart) (line_of_fields header) head
    (subst (IsPut c.end_log_in.result mid new) c.in_ok-begin_log_in.ensures.held
    (put_of c.end_log_in.result mid new c.begin_log_in.new.room.items c.end_log_in.ensures.written
    c.end_log_in.ensures.begun c.end_log_in.ensures.fault))
