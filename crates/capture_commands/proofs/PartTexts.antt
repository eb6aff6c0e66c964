-- The texts of parts, one part more at a time.
use Rattle.std.proofs.Common.{◌≡◌, ℕ, ◌+◌, ◌<◌, sym, ap, ◌∙◌, subst, append-nil, List, [], ◌∷◌, ◌++◌, Option, drop}
use Rattle.std.proofs.Common.{length, get_or, take, take-append-drop, map}
use Rattle.std.proofs.KnownBytes.{Appends-trans}
use Rattle.std.proofs.lemmas.List.{drop_more, map-append, take_more}
use Rattle.std.proofs.lemmas.List.Concat.{flat_map-append}
use Rattle.std.specs.Io.KnownBytes.{Appends}
use Rattle.std.specs.List.{flat_map}
use Rattle.output.specs.Begun.{AppendsBeginning}
use Rattle.output.proofs.Beginnings.{begun_between}

module _ {P R : Type 0} (text : P → List ℕ) (f : R → P) (parts : List R) (i : ℕ) (part : R) (within : i < length parts)
    (is : part ≡ get_or parts i part) (old mid new : Option (List ℕ))
    (before : Appends old mid (flat_map text (map f (take i parts)))) where
  -- A part's text was written behind those of the parts before.
  pub part_written : Appends mid new (text (f part)) → Appends old new (flat_map text (map f (take (i + 1) parts)))
  part_written own =
      let front = map f (take i parts) in
      let more : flat_map text (map f (take (i + 1) parts)) ≡ flat_map text front ++ text (f part) =
      ap (λ l. flat_map text (map f l)) (take_more parts i part within ∙ ap (λ r. take i parts ++ r ∷ []) (sym is))
      ∙ ap (flat_map text) (map-append f (take i parts) (part ∷ []))
      ∙ flat_map-append text front (f part ∷ [])
      ∙ ap (λ l. flat_map text front ++ l) (append-nil (text (f part))) in
      subst (Appends old new) (sym more) (Appends-trans old mid new (flat_map text front) (text (f part)) before own)

  -- A beginning of a part's text was written behind those of the parts before.
  pub part_begun : AppendsBeginning (text (f part)) mid new → AppendsBeginning (flat_map text (map f parts)) old new
  part_begun begun =
      let front = map f (take i parts) in
      let rest = map f (drop (i + 1) parts) in
      let cut : parts ≡ take i parts ++ part ∷ drop (i + 1) parts =
      sym (take-append-drop i parts)
      ∙ ap (λ l. take i parts ++ l) (drop_more parts i part within ∙ ap (λ r. r ∷ drop (i + 1) parts) (sym is)) in
      let parted : flat_map text (map f parts) ≡ flat_map text front ++ (text (f part) ++ flat_map text rest) =
      ap (λ l. flat_map text (map f l)) cut
      ∙ ap (flat_map text) (map-append f (take i parts) (part ∷ drop (i + 1) parts))
      ∙ flat_map-append text front (f part ∷ rest) in
      subst (λ l. AppendsBeginning l old new) (sym parted)
      (begun_between (flat_map text front) (text (f part)) (flat_map text rest) old mid new before begun)
