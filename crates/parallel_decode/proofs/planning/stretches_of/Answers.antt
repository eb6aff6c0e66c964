-- One hart more at a time: by lemmas on the texts of harts, which no tactic finds.
use Rattle.std.proofs.Common.{◌∙◌, ◌+◌, ◌<◌, [], ap, arith, get_or, length, refl, subst, sym, take}
use Rattle.std.proofs.lemmas.List.{take_all}
use Rattle.std.proofs.lemmas.Option.{slice_get-get_or, slice_get_read}
use Rattle.parallel_decode.specs.HartsText.{harts_text_of}
use Rattle.parallel_decode.specs.Marks.{IsMarkedLog}
use Rattle.parallel_decode.proofs.HartLemmas.{hart_more, hart_none}
use Rattle.parallel_decode.specs.steps.Planning.{IsMarkedHart}
use Rattle.parallel_decode.specs.steps.Stretches.{HaveText}
use Rattle.parallel_decode.proofs.planning.stretches_of.Goals.{then-selects_hart+in-Some+in_ok-add_hart-in-Some, then-selects_hart+in-None, else-selects_hart}
use Rattle.parallel_decode.proofs.planning.stretches_of.Goals as goal

pub loop-hart-preserved : goal.loop-hart-preserved
loop-hart-preserved c = λ words bytes logs program are.
    let places = c.args.places.now in
    let i = c.loop-hart.hart in
    let own = c.index-places-hart.result in
    let count = are.count in
    let within : i < length logs = omega (arith, c.loop-hart-test.true, count) in
    let log = get_or logs i [] in
    let own_is = slice_get_read places (length places) i own refl c.loop-hart-test.true c.index-places-hart.is in
    let have = c.loop-hart.invariant words bytes logs program are in
    elim c.if-selects_hart.branch [
      | then-selects_hart+in-Some+in_ok-add_hart-in-Some w ↦
          let on_way = w.in-Some.on_way.now in
          let at = w.in-Some.ensures.lookup in
          let on_way_is = slice_get_read c.args.marks.now (length c.args.marks.now) i on_way refl at.3.0 at.1 in
          let marked = are.each i own on_way log own_is on_way_is (slice_get-get_or logs i [] within) in
          let selected = sym c.selects_hart.ensures ∙ w.if-selects_hart.true in
          let is : IsMarkedHart words bytes places i (length w.as_slice-count.result.now) w.as_slice.result.now log = record {
            program = program;
            own = own;
            own_is = own_is;
            counted = ap length w.as_slice-count.ensures.value;
            marked = subst (λ marks. IsMarkedLog words bytes own.items marks log) (sym w.as_slice.ensures.value) marked;
          } in
          subst (λ s. HaveText words bytes places s (harts_text_of c.args.range 0 (take (i + 1) logs)))
          (sym (ap (λ v. v.items) w.stretches-is))
          (subst (HaveText words bytes places w.add_hart.new.stretches.items)
          (sym (hart_more c.args.range logs i within selected))
          (w.in_ok-add_hart-in-Some.ensures words bytes places log (harts_text_of c.args.range 0 (take i logs)) is have))
      | then-selects_hart+in-None w ↦
          let many = are.as_many in
          let past = w.in-None.ensures.lookup.3 in
          absurd (omega (arith, c.loop-hart-test.true, many, past))
      | else-selects_hart w ↦
          let passed = sym c.selects_hart.ensures ∙ w.if-selects_hart.false in
          subst (λ s. HaveText words bytes places s (harts_text_of c.args.range 0 (take (i + 1) logs)))
          (sym (ap (λ v. v.items) w.stretches-is))
          (subst (HaveText words bytes places c.loop-hart.stretches.items)
          (sym (hart_none c.args.range logs i within passed)) have)
    ]

pub returns : goal.returns
returns c = λ words bytes logs program are.
    let count = are.count in
    subst (λ l. HaveText words bytes c.args.places.now c.loop-hart.stretches.items (harts_text_of c.args.range 0 l))
    (take_all c.loop-hart.hart logs (omega (arith, c.loop-hart-test.false, count)))
    (c.loop-hart.invariant words bytes logs program are)
