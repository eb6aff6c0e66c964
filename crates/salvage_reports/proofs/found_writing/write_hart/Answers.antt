-- The prover does not part a text in four: the lemmas on it are handed to it.
use Rattle.std.specs.Prelude.{option_map}
use Rattle.std.proofs.Common.{◌≡◌, ◌++◌, ◌∙◌, Global, List, ap, subst, ℕ}
use Rattle.std.specs.Io.KnownBytes.{Appends}
use Rattle.output.specs.Begun.{AppendsBeginning}
use Rattle.output.proofs.Beginnings.{begun_behind, begun_between, begun_in_front}
use Rattle.output.proofs.Items.{ok_behind}
use Rattle.salvaging.specs.PartsIn.{parts_in}
use Rattle.salvaging.specs.declared.far_number.FarNumber.{FarNumber}
use Rattle.salvaging.specs.declared.part.Part.{Part}
use Rattle.salvage_reports.specs.Layouts.{counts_text, texts_from}
use Rattle.salvage_reports.specs.ShownParts.{none_gone}
use Rattle.salvage_reports.specs.Offsets.{own_offsets}
use Rattle.salvage_reports.specs.SalvagedItems.{item_text, said_of, text_if}
use Rattle.salvage_reports.specs.declared.salvaged_items.Item.TheVariants as item
use Rattle.salvage_reports.proofs.found_writing.write_hart.Goals.{After-write_item}
use Rattle.salvage_reports.proofs.found_writing.write_hart.Goals as goal

module _ (g : _) (c : After-write_item g) where
  -- The item of the hart; the mode that the header says; the parts by their offsets; and the counts.
  abbrev head : List ℕ
  head = item_text c.args.style.layout (item.Hart c.args.hart c.args.own.now.mode c.args.own.now.closed)

  abbrev said : List ℕ
  said = text_if c.args.style.layout (said_of c.args.hart c.args.found.now.header c.args.own.now.mode)

  abbrev parts_by : List ℕ → List ℕ → List FarNumber → List (Part Global) → List ℕ
  parts_by offsets gaps far parts =
      texts_from c.args.style.layout (option_map (λ file. file.now) c.args.style.symbols) c.args.hart offsets gaps far
      none_gone (parts_in parts)

  abbrev parts : List ℕ
  parts =
      parts_by (own_offsets c.args.found.now.frames.offsets.items c.args.hart) c.args.own.now.gaps.items
      c.args.own.now.far.items c.args.own.now.parts.items

  abbrev counts : List ℕ
  counts = counts_text c.args.style.layout c.args.hart c.args.own.now

-- The lists are handed over as slices.
parts_same : (g : _) (at : After-write_item g) (offsets gaps : List ℕ) (far : List FarNumber) (all : List (Part Global))
    → offsets ≡ own_offsets at.args.found.now.frames.offsets.items at.args.hart → gaps ≡ at.args.own.now.gaps.items
    → far ≡ at.args.own.now.far.items → all ≡ at.args.own.now.parts.items
    → parts_by g at offsets gaps far all ≡ parts g at
parts_same g at offsets gaps far all o n f p = λ i. parts_by g at (o i) (n i) (f i) (p i)

pub returns-in_err-write_item-clause-begun : goal.returns-in_err-write_item-clause-begun
returns-in_err-write_item-clause-begun g c =
    let at = (goal.at.returns-in_err-write_item-clause-begun g c).After-write_item in
    begun_in_front (head g at) (said g at ++ (parts g at ++ counts g at)) (g.O.Write.contents c.args.out.now)
    (g.O.Write.contents c.write_item.new.out) c.write_item.ensures.begun

pub returns-in_err-write_if-clause-begun : goal.returns-in_err-write_if-clause-begun
returns-in_err-write_if-clause-begun g c =
    let at = (goal.at.returns-in_err-write_if-clause-begun g c).After-write_item in
    let mid = g.O.Write.contents c.write_item.new.out in
    let new = g.O.Write.contents c.write_if.new.out in
    begun_between (head g at) (said g at) (parts g at ++ counts g at) (g.O.Write.contents c.args.out.now) mid new
    c.in_ok-write_item.ensures.text
    (subst (λ one. AppendsBeginning (text_if c.args.style.layout one) mid new) c.said_of.ensures c.write_if.ensures.begun)

pub returns-in_err-write_parts-clause-begun : goal.returns-in_err-write_parts-clause-begun
returns-in_err-write_parts-clause-begun g c =
    let at = (goal.at.returns-in_err-write_parts-clause-begun g c).After-write_item in
    let first = g.O.Write.contents c.write_item.new.out in
    let second = g.O.Write.contents c.write_if.new.out in
    let new = g.O.Write.contents c.write_parts.new.out in
    begun_behind (head g at) (said g at ++ (parts g at ++ counts g at)) (g.O.Write.contents c.args.out.now) first new
    c.in_ok-write_item.ensures.text
    (begun_between (said g at) (parts g at) (counts g at) first second new
    (subst (λ one. Appends first second (text_if c.args.style.layout one)) c.said_of.ensures c.in_ok-write_if.ensures.text)
    (subst (λ text. AppendsBeginning text second new)
    (parts_same g at _ _ _ _
    (c.offsets_of-offsets.ensures ∙ ap (λ l. own_offsets l c.args.hart) c.as_slice.ensures.value)
    c.as_slice-2.ensures.value c.as_slice-3.ensures.value c.as_slice-4.ensures.value) c.write_parts.ensures.begun))

pub returns-clause-text : goal.returns-clause-text
returns-clause-text g c =
    let at = (goal.at.returns-clause-text g c).After-write_item in
    let first = g.O.Write.contents c.write_item.new.out in
    let second = g.O.Write.contents c.write_if.new.out in
    let third = g.O.Write.contents c.write_parts.new.out in
    let new = g.O.Write.contents c.write_counts.new.out in
    let ended = c.write_counts.result in
    ok_behind (head g at) (said g at ++ (parts g at ++ counts g at)) (g.O.Write.contents c.args.out.now) first new ended
    c.in_ok-write_item.ensures.text
    (ok_behind (said g at) (parts g at ++ counts g at) first second new ended
    (subst (λ one. Appends first second (text_if c.args.style.layout one)) c.said_of.ensures c.in_ok-write_if.ensures.text)
    (ok_behind (parts g at) (counts g at) second third new ended
    (subst (Appends second third) (parts_same g at _ _ _ _
    (c.offsets_of-offsets.ensures ∙ ap (λ l. own_offsets l c.args.hart) c.as_slice.ensures.value)
    c.as_slice-2.ensures.value c.as_slice-3.ensures.value c.as_slice-4.ensures.value)
    c.in_ok-write_parts.ensures.text) c.write_counts.ensures.text))

pub returns-clause-begun : goal.returns-clause-begun
returns-clause-begun g c =
    let at = (goal.at.returns-clause-begun g c).After-write_item in
    let first = g.O.Write.contents c.write_item.new.out in
    let second = g.O.Write.contents c.write_if.new.out in
    let third = g.O.Write.contents c.write_parts.new.out in
    let new = g.O.Write.contents c.write_counts.new.out in
    begun_behind (head g at) (said g at ++ (parts g at ++ counts g at)) (g.O.Write.contents c.args.out.now) first new
    c.in_ok-write_item.ensures.text
    (begun_behind (said g at) (parts g at ++ counts g at) first second new
    (subst (λ one. Appends first second (text_if c.args.style.layout one)) c.said_of.ensures c.in_ok-write_if.ensures.text)
    (begun_behind (parts g at) (counts g at) second third new
    (subst (Appends second third) (parts_same g at _ _ _ _
    (c.offsets_of-offsets.ensures ∙ ap (λ l. own_offsets l c.args.hart) c.as_slice.ensures.value)
    c.as_slice-2.ensures.value c.as_slice-3.ensures.value c.as_slice-4.ensures.value)
    c.in_ok-write_parts.ensures.text) c.write_counts.ensures.begun))
