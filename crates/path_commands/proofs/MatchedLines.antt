-- The lines of harts that carry no numbers, one after the other.
use Rattle.std.proofs.Common.{◌≡◌, ℕ, ◌+◌, ◌<◌, ◌≤◌, List, ◌∷◌, ◌++◌, Option, length, get_or, drop}
use Rattle.std.proofs.Common.{sym, ap, subst, ◌∙◌}
use Rattle.std.proofs.lemmas.List.{drop_all, drop_more}
use Rattle.std.specs.Io.KnownBytes.{Appends}
use Rattle.output.specs.Begun.{AppendsBeginning}
use Rattle.auditing.specs.Matches.{Flags}
use Rattle.output.proofs.FieldParts.{HasWritten, part_all, part_begun, part_more}
use Rattle.path_commands.specs.UnnumberedText.{texts_from}

-- The harts.
module _ (text : ℕ → Flags → List ℕ) (all : List Flags) (hart : ℕ) (old mid : Option (List ℕ))
    (has : HasWritten (texts_from text 0 all) (texts_from text hart (drop hart all)) old mid) where
  own_next : (own : Flags) → hart < length all → own ≡ get_or all hart own
      → HasWritten (texts_from text 0 all) (text hart own ++ texts_from text (hart + 1) (drop (hart + 1) all)) old mid
  own_next own within is =
      subst (λ left. HasWritten (texts_from text 0 all) (texts_from text hart left) old mid)
      (drop_more all hart own within ∙ ap (λ it. it ∷ drop (hart + 1) all) (sym is)) has

  pub own_more : (own : Flags) (new : Option (List ℕ)) → hart < length all → own ≡ get_or all hart own
      → Appends mid new (text hart own)
      → HasWritten (texts_from text 0 all) (texts_from text (hart + 1) (drop (hart + 1) all)) old new
  own_more own new within is more =
      part_more (texts_from text 0 all) (text hart own) (texts_from text (hart + 1) (drop (hart + 1) all)) old mid new
      (own_next own within is) more

  pub own_begun : (own : Flags) (new : Option (List ℕ)) → hart < length all → own ≡ get_or all hart own
      → AppendsBeginning (text hart own) mid new → AppendsBeginning (texts_from text 0 all) old new
  own_begun own new within is begun =
      part_begun (texts_from text 0 all) (text hart own) (texts_from text (hart + 1) (drop (hart + 1) all)) old mid new
      (own_next own within is) begun

  pub owns_all : length all ≤ hart → Appends old mid (texts_from text 0 all)
  owns_all past =
      part_all (texts_from text 0 all) old mid
      (subst (λ left. HasWritten (texts_from text 0 all) (texts_from text hart left) old mid) (drop_all hart all past) has)
