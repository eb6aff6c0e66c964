-- The values are read from what was found, and said of the rows, which are one by a lemma of clap's.
use Rattle.std.proofs.Common.{◌∙◌, ap, unwrap_or, map, Bor, [], IfOk, Result, Ok, Err, Option, List, ℕ}
use Rattle.clap.proofs.WalkLemmas.{raw_values-rows}
use Rattle.clap.specs.Words.{found_of}
use Rattle.cli.proofs.asking.texts.Goals as goal

abbrev none_or : Option (List (List ℕ)) → List (List ℕ)
none_or o = unwrap_or o []

on_ok : {X E : Type 0} (r : Result X E) (P Q : X → Type 0) → ((x : X) → P x → Q x) → IfOk r P → IfOk r Q
on_ok (Ok x) P Q step has = step x has
on_ok (Err e) P Q step has = tt

pub returns-in-Some : goal.returns-in-Some
returns-in-Some c =
    let all = c.in-Some.ensures ∙ raw_values-rows (found_of c.args.given.now) c.args.id.now in
    on_ok c.from_slice.result _ _ (λ values is. ap (map (λ (value : Bor (List ℕ)). value.now)) is ∙ ap none_or all)
    c.from_slice.ensures.items

pub returns-in-None : goal.returns-in-None
returns-in-None c =
    let none = c.in-None.ensures ∙ raw_values-rows (found_of c.args.given.now) c.args.id.now in
    ap (map (λ (value : Bor (List ℕ)). value.now)) c.new.ensures.items ∙ ap none_or none
