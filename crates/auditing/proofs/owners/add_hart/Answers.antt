-- A message more is in the table, or all are: by lemmas, which no search finds.
use Rattle.std.proofs.Common.{◌≡◌, ◌∙◌, ◌<◌, ◌≤◌, Some, ap, sym, refl, length, slice_get, arith}
use Rattle.std.specs.Prelude.{◌==◌, ◌&&◌, option_map}
use Rattle.std.specs.Str.{bytes_eq}
use Rattle.std.proofs.lemmas.List.{length-map}
use Rattle.std.proofs.lemmas.Option.{slice_get-get_or, slice_get-map}
use Rattle.payload.specs.Same.{known_by}
use Rattle.auditing.proofs.OwnerTables.{all_numbers, numbers_more}
use Rattle.auditing.specs.Ledger.{HartLedger}
use Rattle.auditing.specs.steps.Owning.{found, owner_after}
use Rattle.auditing.proofs.owners.add_hart.Goals as goal

pub loop-number-preserved : goal.loop-number-preserved
loop-number-preserved g c = λ number payload.
    let hart = c.args.hart in
    let place = c.loop-number.number in
    let own = c.args.own.now in
    let items = c.own.inside.payloads.items in
    let one = c.index.result.now in
    let low = c.loop-number-test.true in
    let count = c.len-number-end.ensures in
    let within : place < length items = omega (arith, low, count) in
    let at : slice_get own.payloads place ≡ Some one.now =
    ap (λ (h : HartLedger). slice_get h.payloads place) (sym c.own.view_is)
    ∙ slice_get-map (λ payload. payload.now) items place
    ∙ ap (option_map (λ payload. payload.now)) (slice_get-get_or items place one within ∙ ap Some (sym c.index.ensures)) in
    let old = found c.args.table.now number payload in
    c.in_ok-add_owner.ensures number payload
    ∙ ap (owner_after ((place == number) && bytes_eq (known_by c.args.by one.now) payload) hart)
    (c.loop-number.invariant number payload)
    ∙ numbers_more c.args.by hart own.payloads place number (known_by c.args.by one.now) payload one.now old at refl

pub returns : goal.returns
returns g c = λ number payload.
    let own = c.args.own.now in
    let items = c.own.inside.payloads.items in
    let past = c.loop-number-test.false in
    let count = c.len-number-end.ensures in
    let view = ap (λ (h : HartLedger). length h.payloads) c.own.view_is in
    let many = length-map items (λ payload. payload.now) in
    let all : length own.payloads ≤ c.loop-number.number = omega (arith, past, count, view, many) in
    c.loop-number.invariant number payload
    ∙ ap (λ b. owner_after b c.args.hart (found c.args.table.now number payload))
    (all_numbers c.args.by own.payloads c.loop-number.number number payload all)
