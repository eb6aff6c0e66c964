-- Beginnings of what is written.
use Rattle.std.proofs.Common.{◌+◌, ◌-◌, length, subst, ℕ, List, [], ◌++◌, Option, sym, ap, ◌∙◌, append_assoc}
use Rattle.std.proofs.Common.{append-nil, drop, take, take-append-drop}
use Rattle.std.proofs.KnownBytes.{Appends-kept, Appends-trans}
use Rattle.std.proofs.Math.Seq.{take-add}
use Rattle.std.proofs.lemmas.List.{take_rest}
use Rattle.std.specs.Io.KnownBytes.{Appends, Keeps}
use Rattle.output.specs.Begun.{AppendsBeginning}

-- The whole of a text was written.
pub whole_begun : (text : List ℕ) (old new : Option (List ℕ)) → Appends old new text → AppendsBeginning text old new
whole_begun text old new written = record { text = text; rest = []; parted = sym (append-nil text); appended = written }

-- A beginning was written, and then nothing more.
pub begun_kept : (text : List ℕ) (old mid new : Option (List ℕ)) → AppendsBeginning text old mid → Keeps mid new
    → AppendsBeginning text old new
begun_kept text old mid new begun kept = record {
  text = begun.text;
  rest = begun.rest;
  parted = begun.parted;
  appended = Appends-kept old mid new begun.text begun.appended kept;
}

-- The first bytes of a text were written.
pub first_bytes : (text : List ℕ) (n : ℕ) (old new : Option (List ℕ)) → Appends old new (take n text)
    → AppendsBeginning text old new
first_bytes text n old new written =
    record { text = take n text; rest = drop n text; parted = sym (take-append-drop n text); appended = written }

-- The first bytes of a text were written, and then so many of the rest.
pub bytes_more : (text : List ℕ) (n more : ℕ) (old mid new : Option (List ℕ))
    → Appends old mid (take n text) → Appends mid new (take more (take (length text - n) (drop n text)))
    → Appends old new (take (n + more) text)
bytes_more text n more old mid new first then =
    subst (Appends old new) (sym (take-add n more text))
    (Appends-trans old mid new (take n text) (take more (drop n text)) first
    (subst (λ rest. Appends mid new (take more rest)) (take_rest text n) then))

-- A beginning of the front was written.
pub begun_in_front : (front back : List ℕ) (old new : Option (List ℕ)) → AppendsBeginning front old new
    → AppendsBeginning (front ++ back) old new
begun_in_front front back old new begun = record {
  text = begun.text;
  rest = begun.rest ++ back;
  parted = ap (λ l. l ++ back) begun.parted ∙ append_assoc begun.text begun.rest back;
  appended = begun.appended;
}

-- The front was written, and a beginning of what is behind it.
pub begun_behind : (front back : List ℕ) (old mid new : Option (List ℕ))
    → Appends old mid front → AppendsBeginning back mid new → AppendsBeginning (front ++ back) old new
begun_behind front back old mid new first begun = record {
  text = front ++ begun.text;
  rest = begun.rest;
  parted = ap (λ l. front ++ l) begun.parted ∙ sym (append_assoc front begun.text begun.rest);
  appended = Appends-trans old mid new front begun.text first begun.appended;
}

-- The front was written, and a beginning of a part that stands between it and a back.
pub begun_between : (front part back : List ℕ) (old mid new : Option (List ℕ))
    → Appends old mid front → AppendsBeginning part mid new → AppendsBeginning (front ++ (part ++ back)) old new
begun_between front part back old mid new first begun =
    begun_behind front (part ++ back) old mid new first (begun_in_front part back mid new begun)
