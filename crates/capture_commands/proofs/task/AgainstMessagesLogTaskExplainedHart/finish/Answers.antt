-- The line has the counts of what was compared, and the verdict on it; the rows are those about the first difference.
use Rattle.std.proofs.Common.{◌≡◌, ◌-◌, ◌^◌, ◌∙◌, ℕ, ap, false, get_or, length}
use Rattle.bench.specs.Verdict.{verdict}
use Rattle.bench.specs.declared.verdict.Verdict.{Verdict}
use Rattle.comparing.proofs.ComparedCounts.{below_most}
use Rattle.comparing.specs.declared.hart_count.HartCount.{HartCount}
use Rattle.comparing.specs.declared.explained.ExplainedHart.{ExplainedHart}
use Rattle.bench.specs.declared.hart_line.ComparedHart.{ComparedHart}
use Rattle.comparing.specs.declared.near.NearRows.{NearRows}
use Rattle.comparing.specs.steps.Held.{count_in}
use Rattle.capture_commands.proofs.task.AgainstMessagesLogTaskExplainedHart.finish.Goals as goal

-- A line by its parts.
abbrev line : ℕ → ℕ → HartCount → ℕ → Verdict → ComparedHart
line hart events count decoded found = record {
  hart = hart;
  events = events;
  taken = count.taken;
  bytes = count.bytes;
  decoded = decoded;
  verdict = found;
}

-- Lines of the same parts are the same.
same_line : {hart hart2 events events2 : ℕ} {count count2 : HartCount} {decoded decoded2 : ℕ} {found found2 : Verdict}
    → hart ≡ hart2 → events ≡ events2 → count ≡ count2 → decoded ≡ decoded2 → found ≡ found2
    → line hart events count decoded found ≡ line hart2 events2 count2 decoded2 found2
same_line {hart} {hart2} {events} {events2} {count} {count2} {decoded} {decoded2} {found} {found2} a b c d e =
    ap (λ hart. line hart events count decoded found) a ∙ ap (λ events. line hart2 events count decoded found) b
    ∙ ap (λ count. line hart2 events2 count decoded found) c ∙ ap (λ many. line hart2 events2 count2 many found) d
    ∙ ap (line hart2 events2 count2 decoded2) e

-- What is said of a hart, by its parts.
abbrev explained : ComparedHart → ℕ → NearRows → ExplainedHart
explained one row near = record { line = one; row = row; near = near }

same_hart : {one two : ComparedHart} {row row2 : ℕ} {near near2 : NearRows} → one ≡ two → row ≡ row2 → near ≡ near2
    → explained one row near ≡ explained two row2 near2
same_hart {one} {two} {row} {row2} {near} {near2} a b c =
    ap (λ line. explained line row near) a ∙ ap (λ n. explained two n near) b ∙ ap (explained two row2) c

pub returns : goal.returns
returns c = λ place seen keeps legal. λ log placed.
    let task = c.args.self.now in
    let has = c.in_ok-compared.ensures log seen (keeps.1 log placed) legal.short in
    let count = c.count-count.ensures ∙ ap (count_in task.counts.now) keeps.0 in
    let decoded = c.decoded-decoded.ensures log seen has ∙ below_most (length log) (2 ^ 64 - 1)
    (λ most. c.if-decoded.false (c.decoded-decoded.ensures log seen has ∙ most)) in
    let found = c.verdict.ensures log seen has legal.short
    ∙ ap (λ closed. verdict closed log seen) (c.is_closed.ensures
    ∙ ap (λ hart. get_or task.closed.now hart false) keeps.0) in
    same_hart (same_line keeps.0 (c.events.ensures log seen has) count decoded found)
    (c.row.ensures log seen has legal.short) (c.near.ensures log seen has)
