-- Parts of a text that is written part by part.
use Rattle.std.proofs.Common.{◌≡◌, ◌≤◌, ◌<◌, ◌+◌, ◌-◌, ◌*◌, zero, suc, ℕ, List, [], ◌∷◌, ◌++◌, Option, None}
use Rattle.std.proofs.Common.{refl, sym, ap, subst, ◌∙◌, length, append-nil, append_assoc, take, drop, take-append-drop}
use Rattle.std.proofs.Common.{Some, IfSome, arith}
use Rattle.std.proofs.KnownBytes.{Appends-trans}
use Rattle.std.proofs.Math.Seq.{take-add, drop-nil, take-nil, take_all}
use Rattle.std.proofs.lemmas.List.{length-take, length-drop, length-append}
use Rattle.std.specs.Fmt.{WritesText}
use Rattle.std.specs.Io.KnownBytes.{Appends}
use Rattle.std.specs.List.{FoldsTo, concat}
use Rattle.output.specs.Begun.{AppendsBeginning}
use Rattle.output.specs.declared.part.Part.{Part}
use Rattle.output.specs.steps.Parts.{Takes}
use Rattle.output.proofs.Beginnings.{begun_between}

-- Two texts from a place on are the first from there on, and then the second.
drop_both : (n : ℕ) (xs ys : List ℕ) → drop n (xs ++ ys) ≡ drop n xs ++ drop (n - length xs) ys
drop_both zero xs ys = let none : 0 ≡ 0 - length xs = omega arith in ap (λ k. xs ++ drop k ys) none
drop_both (suc n) [] ys = let all : suc n ≡ suc n - 0 = omega arith in ap (λ k. drop k ys) all
drop_both (suc n) (x ∷ xs) ys =
    let same : n - length xs ≡ suc n - suc (length xs) = omega arith in
    drop_both n xs ys ∙ ap (λ k. drop n xs ++ drop k ys) same

-- The first bytes of two texts are those of the first, and then those of the second as far as there is room.
take_both : (n : ℕ) (xs ys : List ℕ) → take n (xs ++ ys) ≡ take n xs ++ take (n - length (take n xs)) ys
take_both zero xs ys = refl
take_both (suc n) [] ys = let all : suc n ≡ suc n - 0 = omega arith in ap (λ k. take k ys) all
take_both (suc n) (x ∷ xs) ys =
    let same : n - length (take n xs) ≡ suc n - suc (length (take n xs)) = omega arith in
    ap (λ l. x ∷ l) (take_both n xs ys ∙ ap (λ k. take n xs ++ take k ys) same)

-- What is taken of two texts, one after the other, is taken of both.
taken_both : (room n : ℕ) (part xs ys : List ℕ)
    → (part ++ take (room - length part) (drop n xs))
    ++ take (room - length (part ++ take (room - length part) (drop n xs))) (drop (n - length xs) ys)
    ≡ part ++ take (room - length part) (drop n (xs ++ ys))
taken_both room n part xs ys =
    let free = room - length part in
    let first = take free (drop n xs) in
    let rest = drop (n - length xs) ys in
    let left : room - length (part ++ first) ≡ free - length first = omega (arith, length-append part first) in
    append_assoc part first (take (room - length (part ++ first)) rest)
    ∙ ap (λ k. part ++ (first ++ take k rest)) left
    ∙ ap (λ l. part ++ l) (sym (take_both free (drop n xs) rest) ∙ ap (take free) (sym (drop_both n xs ys)))

abbrev Took : Part 512 → List ℕ → Part 512 → Type 0
Took w bytes v = Takes 512 w.passing w.bytes.items bytes v.passing v.bytes.items

-- Calls that each take of what they are given take of all of it together.
taken_in_calls : (w : Part 512) (parts : List (List ℕ)) (v : Part 512) → FoldsTo Took w parts v
    → Took w (concat parts) v
taken_in_calls w [] v calls = subst (Took w []) calls (record {
  passed = omega arith;
  taken = sym (ap (λ l. w.bytes.items ++ take (512 - length w.bytes.items) l) (drop-nil w.passing)
      ∙ ap (λ l. w.bytes.items ++ l) (take-nil (512 - length w.bytes.items)) ∙ append-nil w.bytes.items);
})
taken_in_calls w (x ∷ xs) v calls =
    let first = calls.1 in
    let rest = taken_in_calls calls.0 xs v calls.2 in record {
      passed = omega (arith, rest.passed, first.passed, length-append x (concat xs));
      taken = rest.taken
          ∙ (λ i. first.taken i ++ take (512 - length (first.taken i)) (drop (first.passed i) (concat xs)))
          ∙ taken_both 512 w.passing w.bytes.items x (concat xs);
    }

-- So many parts of a text were written, and this part comes next.
pub record IsNext (count : ℕ) (part : List ℕ) (old mid : Option (List ℕ)) (text : List ℕ) : Type 0 where
  pub first : Appends old mid (take (count * 512) text)
  pub next : part ≡ take 512 (drop (count * 512) text)

-- A value that was displayed to a new part left the next part of its text there.
pub next_part : (o : Option (List ℕ)) (count : ℕ) (part : List ℕ) (old mid : Option (List ℕ)) (w v : Part 512)
    → part ≡ v.bytes.items → w.passing ≡ count * 512 → w.bytes.items ≡ []
    → IfSome o (λ text. Appends old mid (take (count * 512) text)) → WritesText Took w o v
    → IfSome o (IsNext count part old mid)
next_part None count part old mid w v same passing empty first writes = tt
next_part (Some text) count part old mid w v same passing empty first writes = record {
  first = first;
  next = same ∙ (taken_in_calls w writes.parts v writes.calls).taken
      ∙ (λ i. empty i ++ take (512 - length (empty i)) (drop (passing i) (writes.whole i)));
}

module _ (count : ℕ) (part : List ℕ) (old mid new : Option (List ℕ)) (text : List ℕ)
    (n : IsNext count part old mid text) where
  -- A beginning of the next part was written.
  pub part_begun : AppendsBeginning part mid new → AppendsBeginning text old new
  part_begun begun =
      let front = take (count * 512) text in
      let behind = drop (count * 512) text in
      subst (λ whole. AppendsBeginning whole old new)
      (ap (λ l. front ++ l) (take-append-drop 512 behind) ∙ take-append-drop (count * 512) text)
      (begun_between front (take 512 behind) (drop 512 behind) old mid new n.first
      (subst (λ l. AppendsBeginning l mid new) n.next begun))

  -- The next part was written.
  pub part_written : Appends mid new part → Appends old new (take ((count + 1) * 512) text)
  part_written written =
      let more : (count + 1) * 512 ≡ count * 512 + 512 = omega arith in
      subst (Appends old new) (sym (ap (λ k. take k text) more ∙ take-add (count * 512) 512 text))
      (Appends-trans old mid new _ _ n.first (subst (Appends mid new) n.next written))

  -- A part with room left is the last.
  pub last_written : length part < 512 → Appends mid new part → Appends old new text
  last_written last written =
      let behind = drop (count * 512) text in
      let whole : length text ≤ (count + 1) * 512 =
      omega (arith, last, ap length n.next, length-take 512 behind, length-drop (count * 512) text) in
      subst (Appends old new) (take_all ((count + 1) * 512) text whole) (part_written written)
