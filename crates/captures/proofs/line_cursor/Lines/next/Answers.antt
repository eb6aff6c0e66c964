-- The first line and those after it are a lemma on lists.
use Rattle.std.proofs.Common.{◌<◌, ◌+◌, ◌∷◌, ◌∙◌, ap, arith, rules, sym, drop, length}
use Rattle.std.specs.Str.Lines.{lines}
use Rattle.captures.proofs.Parts.{at_end, first_line, last_line, up_to_end}
use Rattle.captures.proofs.line_cursor.Lines.next.Goals as goal

pub returns-then-feed-rest-clause-line : goal.returns-then-feed-rest-clause-line
returns-then-feed-rest-clause-line c =
    let text = c.self.inside.rest.now in
    let some : 0 < length text = search rules in
    rw (← c.self.view_is) (last_line text (omega (arith, c.first_place-feed.ensures.place, c.if-feed-rest.true)) some
    ∙ ap (λ rest. text ∷ lines rest)
    (sym (up_to_end c.first_place-feed.result text ∙ at_end c.first_place-feed.result text
    (omega (arith, c.if-feed-rest.true)))))

pub returns-clause-line : goal.returns-clause-line
returns-clause-line c =
    let text = c.self.inside.rest.now in
    let place = c.first_place-feed.result in
    rw (← c.self.view_is) (first_line text place c.first_place-feed.ensures.place
    (omega (arith, c.first_place-feed.ensures.within, c.if-feed-rest.false))
    ∙ ap (λ line. line ∷ lines (drop (place + 1) text)) (sym c.without_return.ensures)
    ∙ ap (λ rest. c.without_return.result.now ∷ lines rest) (sym (up_to_end (place + 1) text)))
