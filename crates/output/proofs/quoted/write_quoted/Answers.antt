-- The quotes and what is between them are written one after the other: by lemmas on parts of a text.
use Rattle.std.proofs.Common.{◌≡◌, ◌++◌, List, [], ◌∷◌, Option, ℕ, ap, subst}
use Rattle.std.proofs.KnownBytes.{Appends-trans}
use Rattle.std.specs.Prelude.{OnOk}
use Rattle.std.specs.Io.KnownBytes.{Appends}
use Rattle.std.specs.List.{flat_map}
use Rattle.csv.specs.Writing.{default_writer, quote_mark, quoted}
use Rattle.output.specs.Begun.{AppendsBeginning}
use Rattle.output.proofs.Beginnings.{begun_behind, begun_between, begun_in_front}
use Rattle.output.proofs.Items.{ok_behind}
use Rattle.output.proofs.QuotedFields.{escaped_is}
use Rattle.output.specs.steps.Quoting.{escaped_byte}
use Rattle.output.proofs.quoted.write_quoted.Goals.{After-write_bytes-2}
use Rattle.output.proofs.quoted.write_quoted.Goals as goal

abbrev mark : List ℕ
mark = quote_mark ∷ []

-- The field between its quotes, in parts.
parts : (field : List ℕ) → mark ++ (flat_map escaped_byte field ++ mark) ≡ quoted default_writer field
parts field = ap (λ between. mark ++ (between ++ mark)) (escaped_is field)

parts_begun : (field : List ℕ) (old new : Option (List ℕ))
    → AppendsBeginning (mark ++ (flat_map escaped_byte field ++ mark)) old new
    → AppendsBeginning (quoted default_writer field) old new
parts_begun field old new = subst (λ text. AppendsBeginning text old new) (parts field)

pub returns-in_err-write_bytes-clause-begun : goal.returns-in_err-write_bytes-clause-begun
returns-in_err-write_bytes-clause-begun g c =
    let field = c.args.field.now in
    let old = g.W.Write.contents c.args.out.now in
    let new = g.W.Write.contents c.write_bytes.new.out in
    parts_begun field old new
    (begun_in_front mark (flat_map escaped_byte field ++ mark) old new c.write_bytes.ensures.begun)

pub returns-in_err-write_escaped-clause-begun : goal.returns-in_err-write_escaped-clause-begun
returns-in_err-write_escaped-clause-begun g c =
    let field = c.args.field.now in
    let old = g.W.Write.contents c.args.out.now in
    let mid = g.W.Write.contents c.write_bytes.new.out in
    let new = g.W.Write.contents c.write_escaped.new.out in
    parts_begun field old new
    (begun_between mark (flat_map escaped_byte field) mark old mid new c.in_ok-write_bytes.ensures.whole
    c.write_escaped.ensures.begun)

module _ (g : _) (c : After-write_bytes-2 g) where
  abbrev field : List ℕ
  field = c.args.field.now

  abbrev old : Option (List ℕ)
  old = g.W.Write.contents c.args.out.now

  abbrev mid : Option (List ℕ)
  mid = g.W.Write.contents c.write_escaped.new.out

  abbrev new : Option (List ℕ)
  new = g.W.Write.contents c.write_bytes-2.new.out

  abbrev front : List ℕ
  front = mark ++ flat_map escaped_byte field

  -- All but the last quote is written.
  first : Appends old mid front
  first =
      Appends-trans old (g.W.Write.contents c.write_bytes.new.out) mid mark (flat_map escaped_byte field)
      c.in_ok-write_bytes.ensures.whole c.in_ok-write_escaped.ensures.text

  text : OnOk c.write_bytes-2.result (Appends old new (quoted default_writer field))
  text =
      subst (λ text. OnOk c.write_bytes-2.result (Appends old new text)) (parts field)
      (ok_behind front mark old mid new c.write_bytes-2.result first c.write_bytes-2.ensures.whole)

  begun : AppendsBeginning (quoted default_writer field) old new
  begun = parts_begun field old new (begun_behind front mark old mid new first c.write_bytes-2.ensures.begun)

pub returns-clause-text : goal.returns-clause-text
returns-clause-text g c = text g (goal.at.returns-clause-text g c).After-write_bytes-2

pub returns-clause-begun : goal.returns-clause-begun
returns-clause-begun g c = begun g (goal.at.returns-clause-begun g c).After-write_bytes-2
