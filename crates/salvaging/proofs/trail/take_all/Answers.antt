-- That none is taken yet, and that one more is, is found by lemmas on entries.
use Rattle.std.proofs.Common.{rules, ◌≡◌, ◌++◌, [], ◌∷◌, refl, sym, ap, subst, ◌∙◌}
use Rattle.rvclass.specs.Fetch.{words_of}
use Rattle.salvaging.specs.steps.Arrivals.{arrivals_in}
use Rattle.salvaging.specs.steps.Grouping.{entries_by, entry_of}
use Rattle.salvaging.proofs.EntriesTaken.{all_taken}
use Rattle.salvaging.proofs.TakenSoFar.{TakenSo, behind, next_above, small_next, taken_next, taken_start}
use Rattle.salvaging.proofs.trail.take_all.Goals as goal

pub loop-entry-init : goal.loop-entry-init
loop-entry-init g c =
    let new = c.new-trail.ensures in (
      refl,
      taken_start g.M.Mark.kept (words_of c.args.program.now) c.args.mode c.args.came.now c.new-trail.result
          c.new-marks.result.items c.new-marks.ensures.items c.requires.own
          (new.under_way (words_of c.args.program.now) c.args.mode) new.next new.parts c.requires.rising c.requires.small,
    )

pub take-requires-clause-next : goal.take-requires-clause-next
take-requires-clause-next g c =
    next_above g.M.Mark.kept (words_of c.args.program.now) c.args.mode c.args.came.now c.loop-entry.rest.now
    c.loop-entry.trail c.loop-entry.marks.items c.loop-entry.invariant.1 (entry_of c.in-Some.entry) _ c.in-Some.ensures.first

pub take-requires-clause-small : goal.take-requires-clause-small
take-requires-clause-small g c =
    small_next c.loop-entry.rest.now (entry_of c.in-Some.entry) _ c.in-Some.ensures.first c.loop-entry.invariant.1.small

pub loop-entry-preserved : goal.loop-entry-preserved
loop-entry-preserved g c =
    let rest = c.loop-entry.rest.now in
    let mode = c.args.mode in
    let came = c.args.came.now in
    let items = c.loop-entry.marks.items in
    let kept = g.M.Mark.kept in
    let is : c.paths.result.program.now ≡ c.args.program.now =
    c.paths.ensures ∙ ap (λ (p : _). p.now) c.loop-entry.invariant.0 ∙ c.requires.lines in
    let before = subst (λ p. TakenSo kept (words_of p) mode came rest items c.loop-entry.trail) (sym is)
    c.loop-entry.invariant.1 in
    let pushed = c.push_reserved.ensures.items ∙ ap (λ l. l ++ c.of.result ∷ []) c.in_ok-reserve.ensures.items
    ∙ ap (λ x. items ++ x ∷ []) c.of.ensures in
    let next = taken_next kept (words_of c.paths.result.program.now) mode came rest c.loop-entry.trail c.take.new.self items
    c.push_reserved.new.self.items c.in_ok-one.one before (entry_of c.in-Some.entry) c.in-Some.count
    c.in-Some.ensures.first c.in_ok-one.ensures pushed in (
      c.find_after.ensures ∙ c.loop-entry.invariant.0,
      subst (λ p. TakenSo kept (words_of p) mode came (behind rest c.in-Some.count) c.push_reserved.new.self.items
          c.take.new.self) is next,
    )

pub returns-clause-taken : goal.returns-clause-taken
returns-clause-taken g c =
    let words = words_of c.args.program.now in
    let mode = c.args.mode in
    let t = c.loop-entry.invariant.1 in
    all_taken g.M.Mark.kept words mode (entries_by (arrivals_in c.args.came.now)) t.done t.shares
    (entries_by (arrivals_in c.loop-entry.rest.now)) c.loop-entry.trail c.end_run.new.self (search rules) t.taken
    (c.in_ok-end_run.ensures.ends words mode t.taken.run c.loop-entry.trail.next t.taken.closed t.taken.under_way) _ refl
    t.marks_are
