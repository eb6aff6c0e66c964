-- What is left is told: by lemmas on steps, which no tactic finds.
use Rattle.std.proofs.Common.{◌≡◌, ◌+◌, ◌-◌, ◌≤◌, ◌++◌, ◌∙◌, List, ap, arith, drop, length, subst, sym, take}
use Rattle.std.proofs.lemmas.List.{append_assoc}
use Rattle.live.specs.Auditing.{GoesTo, LiveHolding, Stands}
use Rattle.live.specs.Lines.{Line}
use Rattle.live.specs.Live.{gives_all, gives_all_up, last_lines, moves_to, passes_all}
use Rattle.live.specs.steps.Giving.{AreCounted, IsGiven, open_lines, waiting_lines}
use Rattle.live.proofs.Finishing.{ahead_within, all_counted, last_told, to_end}
use Rattle.live.proofs.Steps.{goes_as}
use Rattle.live.proofs.live_audit.LiveAudit.finish.Goals as goal

pub returns : goal.returns
returns g c = λ all state left right stood.
    let Told = g.L.LiveLines.Told in
    let own : LiveHolding =
    record { window = c.self.inside.window; waiting = c.self.inside.waiting.items; runs = c.self.inside.runs.items } in
    let stands : Stands all (length all.sent) state own left =
    subst (λ o. Stands all (length all.sent) state o left) (sym c.self.view_is) stood in
    let count = c.ahead-ahead.result in
    let ahead : count ≡ length own.window.slots - own.window.near = c.ahead-ahead.ensures in
    let within : state.front + count ≤ length all.sent =
    subst (λ n. state.front + n ≤ length all.sent) (sym ahead) (ahead_within all right state own left stands) in
    let moved = moves_to all.window all.sent (length all.sent) state in
    let end : passes_all all.window all.sent state (take count (drop state.front all.sent)) ≡ moved =
    ap (λ n. passes_all all.window all.sent state (take n (drop state.front all.sent))) ahead
    ∙ to_end all right state own left stands in
    let rest : LiveHolding = record {
      window = c.self-2.inside.window;
      waiting = c.self-2.inside.waiting.items;
      runs = c.self-2.inside.runs.items;
    } in
    let First : List Line → Type 0 = λ told. Told c.args.lines.now told c.pass_all.new.lines in
    let goes : GoesTo all (length all.sent) First moved rest left =
    subst (λ o. GoesTo all (length all.sent) First moved o left) (sym c.self-2.view_is)
    (goes_as all (length all.sent) First (passes_all all.window all.sent state (take count (drop state.front all.sent)))
    moved c.pass_all.new.self left end (c.pass_all.ensures all (length all.sent) state left right stood within)) in
    let runs = c.give_all.new.runs.items in
    let given =
    subst (λ slots. IsGiven (λ told. Told c.pass_all.new.lines told c.give_all.new.lines) (gives_all moved.state slots) runs)
    c.slots.ensures
    (c.give_all.ensures.given moved.state goes.stands.runs
    (subst (AreCounted (length rest.runs)) (sym c.slots.ensures) (all_counted all right moved.state rest left goes.stands))) in
    let few : length c.deref-2.result.now ≤ 65536 =
    (let same = ap length c.deref-2.ensures.value in
    let kept = c.give_all.ensures.count in
    let counts = goes.stands.counts in
    let harts = goes.stands.few in
    omega (arith, same, kept, counts, harts)) in
    let waiting =
    subst (λ w. Told c.give_all.new.lines (waiting_lines w) c.tell_waiting.new.lines) c.deref.ensures.value
    c.tell_waiting.ensures in
    let open_runs =
    subst (λ r. Told c.tell_waiting.new.lines (open_lines r) c.tell_runs.new.lines) c.deref-2.ensures.value
    (c.tell_runs.ensures few) in
    let last =
    last_told all right moved.state rest left goes.stands (λ told. Told c.pass_all.new.lines told c.tell_runs.new.lines) runs
    c.give_all.ensures.count given.1
    (g.met.L.LiveLines.joined c.pass_all.new.lines c.give_all.new.lines c.tell_runs.new.lines
    (gives_all moved.state rest.window.slots).lines (waiting_lines rest.waiting ++ open_lines runs) given.0
    (g.met.L.LiveLines.joined c.give_all.new.lines c.tell_waiting.new.lines c.tell_runs.new.lines
    (waiting_lines rest.waiting) (open_lines runs) waiting open_runs)) in
    let gone = gives_all_up all.window all.sent moved.state in
    subst (λ l. Told c.args.lines.now l c.tell_runs.new.lines)
    (sym (append_assoc moved.lines gone.lines (last_lines all.harts gone.state)))
    (g.met.L.LiveLines.joined c.args.lines.now c.pass_all.new.lines c.tell_runs.new.lines moved.lines
    (gone.lines ++ last_lines all.harts gone.state) goes.told last)
