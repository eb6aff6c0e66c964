-- The pieces are judged, and what was found, or why nothing was, is reported: by the constructor for each.
use Rattle.std.proofs.Common.{subst, refl}
use Rattle.ffi.specs.Decoded.{AreHandedOut, Found, Refused}
use Rattle.ffi.proofs.decoding.tracebench_decode_all.Goals as goal

pub returns : goal.returns
returns c =
    let out = c.hand_out_texts in (
      c.judge_pieces-judged.result,
      c.judge_pieces-judged.ensures,
      Found c.in-Ok.decoded.text.items c.in-Ok.decoded.ends.items c.in-Ok.ensures
          (subst (λ bytes. AreHandedOut bytes c.in-Ok.decoded.ends.items out.result out.new.wanted c.args.buffer.now
          out.new.buffer c.args.ends.now out.new.ends) c.as_slice-text.ensures.value
          (subst (λ places. AreHandedOut c.as_slice-text.result.now places out.result out.new.wanted c.args.buffer.now
          out.new.buffer c.args.ends.now out.new.ends) c.as_slice-places.ensures.value out.ensures)),
    )

pub returns-in-Err : goal.returns-in-Err
returns-in-Err c = (
  c.judge_pieces-judged.result,
  c.judge_pieces-judged.ensures,
  Refused c.in-Err.fault c.in-Err.ensures c.status.ensures refl refl refl refl,
)
