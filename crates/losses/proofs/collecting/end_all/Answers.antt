-- What stands at each place is found by lemmas on lists, which no tactic finds.
use Rattle.std.proofs.Common.{◌<◌, length, refl, ◌∙◌, arith}
use Rattle.std.proofs.lemmas.List.{length-set}
use Rattle.std.proofs.lemmas.Option.{slice_get_read, slice_get_within}
use Rattle.losses.specs.declared.part.HartPieces.{HartPieces}
use Rattle.losses.proofs.Ending.{left_behind, ended_more}
use Rattle.losses.proofs.collecting.end_all.Goals as goal

pub loop-hart-preserved : goal.loop-hart-preserved
loop-hart-preserved g c =
    let i = c.loop-hart.hart in
    let inv = c.loop-hart.invariant in
    let traces = c.loop-hart.traces.items in
    let pieces = c.loop-hart.pieces.items in
    let test = c.loop-hart-test.true in
    let end = c.loop-hart.auto.hart-end in
    let counts = c.requires in
    let traces_count = inv.traces_count in
    let pieces_count = inv.pieces_count in
    let within : i < length pieces = omega (arith, test, pieces_count) in
    let trace = c.index_mut.result.now in
    let old = c.index_mut-in-loop-hart.result.now in
    let new : HartPieces _ = record { parts = c.end_stretch.new.parts; closed = old.closed } in
    let at_trace = inv.traces_left i trace (omega arith) (slice_get_read traces (length traces) i trace refl
    (omega (arith, within, counts, traces_count, pieces_count)) c.index_mut.ensures.value) in
    let at_old = inv.pieces_left i old (omega arith) (slice_get_read pieces (length pieces) i old refl within
    c.index_mut-in-loop-hart.ensures.value) in
    record {
      traces_count = length-set traces i c.end_stretch.new.self ∙ inv.traces_count;
      pieces_count = length-set pieces i new ∙ inv.pieces_count;
      traces_left = left_behind c.args.traces.now.items traces i c.end_stretch.new.self inv.traces_left;
      pieces_left = left_behind c.args.pieces.now.items pieces i new inv.pieces_left;
      ended = ended_more c.args.traces.now.items c.args.pieces.now.items pieces i trace old new at_trace at_old
          (record { parts = c.in_ok-end_stretch.ensures.parts; closed = refl }) inv.ended;
    }

pub returns : goal.returns
returns g c =
    let inv = c.loop-hart.invariant in
    let over = c.loop-hart-test.false in
    let pieces_count = inv.pieces_count in
    record {
      count = inv.pieces_count;
      each = λ hart trace old new at_trace at_old at_new.
          let within = slice_get_within c.args.pieces.now.items hart old at_old in
          inv.ended hart trace old new (omega (arith, within, over)) at_trace at_old at_new;
    }
