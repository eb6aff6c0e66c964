-- The trail of one hart more is added: by lemmas on lists.
use Rattle.std.proofs.Common.{◌≡◌, ◌∙◌, ◌∷◌, ◌++◌, ◌+◌, ◌<◌, [], All, ap, arith, get_or, length, subst, sym, take}
use Rattle.std.proofs.lemmas.List.{length_push, map_push, take_more}
use Rattle.std.proofs.lemmas.List.Elements.{All-push}
use Rattle.std.proofs.lemmas.Option.{get_or_from_slice_get, same_Some, slice_get-get_or, slice_get_within}
use Rattle.rvclass.specs.Words.{Words}
use Rattle.comparing.specs.declared.trail.Trail.{Trail}
use Rattle.comparing.specs.steps.Following.{IsFollowed}
use Rattle.comparing.specs.steps.Sourcing.{harts_of}
use Rattle.comparing.proofs.sourcing.trails_of.Goals as goal

pub loop-hart-preserved : goal.loop-hart-preserved
loop-hart-preserved g c =
    let i = c.loop-hart.hart-index in
    let inv = c.loop-hart.invariant in
    let harts = c.args.harts.now in
    let trails = c.loop-hart.trails.items in
    let trail = c.new.result in
    let pushed = c.push_reserved.ensures.items in
    let room = inv.room in
    let kept = c.push_reserved.ensures.capacity in
    let test = c.loop-hart-test.true in
    let within : i < length harts = omega (arith, test) in
    let element : trail.hart ≡ get_or harts i trail.hart =
    c.new.ensures.hart ∙ same_Some _ _ (sym (slice_get-get_or harts i _ within) ∙ slice_get-get_or harts i trail.hart within) in
    record {
      count = ap length pushed ∙ length_push trails trail ∙ ap (λ n. n + 1) inv.count;
      room = omega (arith, room, kept);
      harts = ap harts_of pushed ∙ map_push (λ (trail : Trail). trail.hart) trails trail
          ∙ ap (λ l. l ++ trail.hart ∷ []) inv.harts ∙ ap (λ hart. take i harts ++ hart ∷ []) element
          ∙ sym (take_more harts i trail.hart within);
      none = subst (All (λ (trail : Trail). (words : Words) → IsFollowed words [] trail)) (sym pushed)
          (All-push (λ (trail : Trail). (words : Words) → IsFollowed words [] trail) trails trail inv.none
          c.new.ensures.none);
    }

pub returns-clause-none : goal.returns-clause-none
returns-clause-none g c = λ words offset place trail there whole.
    subst (IsFollowed words []) (get_or_from_slice_get c.loop-hart.trails.items place trail trail there)
    (c.loop-hart.invariant.none place trail (slice_get_within c.loop-hart.trails.items place trail there) words)
