-- That settings are no header's: by a lemma on the bytes in front, since the definition speaks of all headers.
use Rattle.std.proofs.Common.{◌≡◌, ◌++◌, refl, sym, ◌∙◌, rules}
use Rattle.message.specs.Header.{HasBadHeader, header_bytes, mark}
use Rattle.message.proofs.BadHeaders.{bad_header, marked}
use Rattle.message.proofs.in_memory.Messages.header.Goals as goal

pub returns-in_default-header_of-clause-none : goal.returns-in_default-header_of-clause-none
returns-in_default-header_of-clause-none c =
    let found = c.in-Some.ensures.cases in
    let begins : c.args.self.now ≡ mark ++ c.in-Some.behind.now =
    sym c.self.view_is ∙ marked c.self.inside.rest.now c.in-Some.behind.now found.0 found.1 in
    (λ e. cc, λ unmarked. absurd (unmarked (c.in-Some.behind.now, begins)))

pub returns-in_default-header_of-clause-bad_header : goal.returns-in_default-header_of-clause-bad_header
returns-in_default-header_of-clause-bad_header c =
    let found = c.in-Some.ensures.cases in
    let begins : c.args.self.now ≡ mark ++ c.in-Some.behind.now =
    sym c.self.view_is ∙ marked c.self.inside.rest.now c.in-Some.behind.now found.0 found.1 in
    let bad : HasBadHeader c.args.self.now =
    bad_header c.args.self.now c.in-Some.behind.now _ begins (search rules) c.split_at.ensures.front
    (c.in_default-header_of.ensures.none refl) in
    (λ e. bad, λ is. refl)

pub returns-clause-bad_header : goal.returns-clause-bad_header
returns-clause-bad_header c =
    let found = c.in-Some.ensures.cases in
    let begins : c.args.self.now ≡ mark ++ c.in-Some.behind.now =
    sym c.self.view_is ∙ marked c.self.inside.rest.now c.in-Some.behind.now found.0 found.1 in
    let stands : c.args.self.now ≡ header_bytes c.in-Some-header_of.header ++ c.split_at.result.1.now = search rules in
    (λ e. cc, λ bad. absurd (bad.none _ _ c.in-Some-header_of.ensures.found.0 stands))
