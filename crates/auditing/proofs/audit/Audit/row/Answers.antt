-- The row is the one of the definition, by the law on what is kept.
use Rattle.std.proofs.Common.{◌≡◌, ◌<◌, ◌^◌, ◌∙◌, Some, List, ℕ, length, map, slice_get, ap, sym, arith, zero-add}
use Rattle.std.specs.List.{range_with_len}
use Rattle.std.specs.Prelude.{option_map}
use Rattle.std.proofs.lemmas.Bool.{ltb-true}
use Rattle.std.proofs.lemmas.List.{length-map}
use Rattle.std.proofs.lemmas.List.FromFn.{length-range_with_len}
use Rattle.std.proofs.lemmas.Option.{slice_get-get_or, slice_get-map, same_Some}
use Rattle.message.specs.declared.message.Message.{Message}
use Rattle.auditing.proofs.Moves.{range_at}
use Rattle.auditing.proofs.WholeTallies.{row_is}
use Rattle.auditing.proofs.KnownLemmas.{known-at, known-count, own-at}
use Rattle.auditing.specs.Audits.{Audits, capped}
use Rattle.auditing.specs.Exchanged.{moved}
use Rattle.auditing.specs.HartRows.{row_of}
use Rattle.auditing.specs.Known.{known_all}
use Rattle.auditing.specs.Ledger.{HartLedger, Ledger, known_own}
use Rattle.auditing.specs.steps.Taking.{row_in}
use Rattle.auditing.proofs.audit.Audit.row.Goals as goal

-- A row of what is kept, by the counts of the hart that are kept.
row_by : (sent received : List Message) (ledger : Ledger) (audits : Audits sent received ledger) (hart : ℕ)
    (own : HartLedger) (counts : List ℕ) → length received < 2 ^ 64 → hart < length ledger.harts
    → slice_get ledger.harts hart ≡ Some own → slice_get ledger.moves hart ≡ Some counts
    → row_in own counts ≡ row_of (known_all ledger.by sent) (known_all ledger.by received) hart
row_by sent received ledger audits hart own counts few within at found =
    let how = ledger.by in
    let ones = known_all how sent in
    let others = known_all how received in
    let harts = map (known_own how) ledger.harts in
    let many = length-map ledger.harts (known_own how) in
    let same_count = known-count how received in
    let few_known : length others < 2 ^ 64 = omega (arith, few, same_count) in
    let below : hart < length harts = omega (arith, within, many) in
    let kept : counts ≡ map (λ other. capped (moved ones others hart other)) (range_with_len 0 (length harts)) =
    same_Some _ _ (sym found ∙ ap (λ moves. slice_get moves hart) audits.known.moves
    ∙ range_at (λ one. map (λ other. capped (moved ones others one other)) (range_with_len 0 (length harts))) 0
    (length harts) hart below
    ∙ ap (λ one. Some (map (λ other. capped (moved ones others one other)) (range_with_len 0 (length harts))))
    (zero-add hart)) in
    ap (row_in own) kept
    ∙ row_is ones others hart (known_own how own) (audits.known.each hart (known_own how own)
    (known-at how ledger.harts hart own at)) few_known (length harts) audits.known.others

-- There are counts for each hart.
moves_many : (sent received : List Message) (ledger : Ledger) → Audits sent received ledger
    → length ledger.moves ≡ length ledger.harts
moves_many sent received ledger audits =
    let harts = map (known_own ledger.by) ledger.harts in
    ap length audits.known.moves
    ∙ length-map (range_with_len 0 (length harts)) _
    ∙ length-range_with_len 0 (length harts)
    ∙ length-map ledger.harts (known_own ledger.by)

pub returns-in-Some : goal.returns-in-Some
returns-in-Some g c = λ sent received audits few.
    let hart = c.args.hart in
    let own = c.index-own.result.now in
    let moves = c.self.inside.moves.items in
    let counts = c.in-Some.moved.now in
    let at = own-at _ c.args.self.now hart own c.self.view_is c.requires.known c.index-own.ensures in
    let lookup = c.in-Some.ensures.lookup in
    let inside = ltb-true hart (length c.deref.result.now) (sym lookup.0) in
    let found : slice_get moves hart ≡ Some counts =
    (λ i. slice_get (sym c.deref.ensures.value i) hart)
    ∙ slice_get-get_or c.deref.result.now hart counts inside ∙ ap Some (sym lookup.1) in
    c.row.ensures ∙ ap (row_in own) c.as_slice.ensures.value
    ∙ row_by sent received c.args.self.now audits hart own counts.items few c.requires.known at
    (ap (λ (l : Ledger). slice_get l.moves hart) (sym c.self.view_is)
    ∙ slice_get-map (λ own. own.items) moves hart ∙ ap (option_map (λ own. own.items)) found)

pub returns-in-None : goal.returns-in-None
returns-in-None g c = λ sent received audits few.
    let past = c.in-None.ensures.lookup.3 in
    let value = ap length c.deref.ensures.value in
    let many = ap (λ (l : Ledger). length l.moves) c.self.view_is in
    let seen = length-map c.self.inside.moves.items (λ own. own.items) in
    let both = moves_many sent received c.args.self.now audits in
    let known = c.requires.known in
    absurd (omega (arith, past, value, many, seen, both, known))
