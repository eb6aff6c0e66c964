-- An entry more is taken by lemmas on entries.
use Rattle.std.proofs.Common.{◌≡◌, ◌++◌, [], ◌∷◌, refl, ap, subst, sym}
use Rattle.std.specs.Prelude.{IfOk}
use Rattle.rvclass.specs.Fetch.{words_of}
use Rattle.salvaging.specs.Shares.{Share, Doubts}
use Rattle.salvaging.specs.Treatments.{treatment_of}
use Rattle.salvaging.specs.steps.Arrivals.{arrivals_in}
use Rattle.salvaging.specs.steps.Grouping.{entries_by, entry_of}
use Rattle.salvaging.specs.steps.Trails.{TakesEntries}
use Rattle.salvaging.proofs.EntriesTaken.{doubtful_taken, used_taken}
use Rattle.salvaging.proofs.trail.Trail.take.Goals as goal

pub returns-in-Used : goal.returns-in-Used
returns-in-Used g c = λ all done shares t.
    let rest = entries_by (arrivals_in c.args.behind.now) in
    let words = words_of c.args.paths.program.now in
    let mode = c.args.mode in
    let old = c.args.self.now in
    let new = c.take_used.new.self in
    let number = c.in-Used.message.now.number in
    let payload = c.in-Used.message.now.payload in
    let shown = ap entry_of c.in-Used.is in
    let t_shown = subst (λ x. TakesEntries words mode all done shares (x ∷ rest) old) shown t in
    subst (λ x. IfOk c.take_used.result (λ treatment. (share : Share) × (treatment ≡ treatment_of share)
    × TakesEntries words mode all (done ++ x ∷ []) (shares ++ share ∷ []) rest new)) (sym shown)
    (used_taken words mode all done shares rest old new number c.in-Used.place payload c.take_used.result t_shown
    (λ run u stays. c.take_used.ensures run old.next u stays))

pub returns-in_ok-take_doubtful-in-Doubtful : goal.returns-in_ok-take_doubtful-in-Doubtful
returns-in_ok-take_doubtful-in-Doubtful g c = λ all done shares t.
    let rest = entries_by (arrivals_in c.args.behind.now) in
    let words = words_of c.args.paths.program.now in
    let mode = c.args.mode in
    let old = c.args.self.now in
    let new = c.take_doubtful.new.self in
    let shown = ap entry_of c.in-Doubtful.is in
    let t_shown = subst (λ x. TakesEntries words mode all done shares (x ∷ rest) old) shown t in (
      Doubts,
      refl,
      subst (λ x. TakesEntries words mode all (done ++ x ∷ []) (shares ++ Doubts ∷ []) rest new) (sym shown)
          (doubtful_taken words mode all done shares rest old new c.in-Doubtful.number c.in-Doubtful.first
          c.in-Doubtful.second t_shown
          (c.in_ok-take_doubtful-in-Doubtful.ensures words t_shown.run old.next t_shown.closed t_shown.under_way)),
    )
