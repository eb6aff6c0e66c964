-- The offsets of each hart, one more at a time.
use Rattle.std.proofs.Common.{◌≡◌, ℕ, zero, suc, ◌≤◌, ◌++◌, ◌==◌, ◌||◌, Bool, true}
use Rattle.std.proofs.Common.{false, if◌then◌else◌, List, [], ◌∷◌, Some, length, slice_get, slice_set, refl, sym, ap}
use Rattle.std.proofs.Common.{subst, ◌∙◌, arith, append-nil, append_assoc}
use Rattle.std.proofs.Math.Bool.{or-false}
use Rattle.std.proofs.lemmas.Bool.{eqb-true, eq-eqb}
use Rattle.std.proofs.lemmas.List.{length-set}
use Rattle.std.specs.List.{list_any}
use Rattle.std.specs.declared.alloc.Global.{Global}
use Rattle.std.specs.declared.vec.Vec.{Vec}
use Rattle.frames.specs.declared.span.Span.{Span}
use Rattle.frames.specs.declared.span.Span.TheVariants.{Frame, Bytes}
use Rattle.message.specs.declared.range.HartRange.{HartRange}
use Rattle.frames.specs.Search.{chosen, is_chosen}
use Rattle.salvage_reports.specs.Frames.{AreFrames, is_run, messages_in}
use Rattle.salvage_reports.specs.Offsets.{offsets_in}
use Rattle.salvage_reports.specs.declared.frame_reading.Frames.{Frames}
use Rattle.salvage_reports.specs.steps.Reading.{AddsOffset, AddsSpan, AddsWhere}

abbrev Lists : Type 0
Lists = List (Vec ℕ Global)

-- A list with another item in place of one.
set_here : (lists : Lists) (i : ℕ) (one new : Vec ℕ Global) → slice_get lists i ≡ Some one
    → slice_get (slice_set lists i new) i ≡ Some new
set_here [] i one new at = cc
set_here (list ∷ lists) zero one new at = refl
set_here (list ∷ lists) (suc i) one new at = set_here lists i one new at

set_apart : (lists : Lists) (i j : ℕ) (new : Vec ℕ Global) → ¬ (j ≡ i)
    → slice_get (slice_set lists i new) j ≡ slice_get lists j
set_apart [] i j new apart = refl
set_apart (list ∷ lists) zero zero new apart = absurd (apart refl)
set_apart (list ∷ lists) zero (suc j) new apart = refl
set_apart (list ∷ lists) (suc i) zero new apart = refl
set_apart (list ∷ lists) (suc i) (suc j) new apart = set_apart lists i j new (λ is. apart (ap suc is))

one_item : (lists : Lists) (i : ℕ) (one other : Vec ℕ Global) → slice_get lists i ≡ Some one
    → slice_get lists i ≡ Some other → one ≡ other
one_item lists i one other at too = let both : Some one ≡ Some other = sym at ∙ too in cc

none_over : (lists : Lists) (i : ℕ) (one : Vec ℕ Global) → length lists ≤ i → ¬ (slice_get lists i ≡ Some one)
none_over [] i one over at = cc
none_over (list ∷ lists) zero one over at = omega (arith, over)
none_over (list ∷ lists) (suc i) one over at = none_over lists i one (omega (arith, over)) at

pub adds_own : (hart offset : ℕ) (lists : Lists) (list new : Vec ℕ Global) → slice_get lists hart ≡ Some list
    → new.items ≡ list.items ++ offset ∷ [] → AddsOffset hart offset lists (slice_set lists hart new)
adds_own hart offset lists list new at pushed = record {
  count = length-set lists hart new;
  own = λ before after was is.
      let same_new = one_item (slice_set lists hart new) hart after new is (set_here lists hart list new at) in
      let same_old = one_item lists hart list before at was in
      ap (λ (v : Vec ℕ Global). v.items) same_new ∙ pushed
      ∙ ap (λ (v : Vec ℕ Global). v.items ++ offset ∷ []) same_old;
  others = λ other before after apart was is.
      let kept = sym (set_apart lists hart other new apart) ∙ is in
      ap (λ (v : Vec ℕ Global). v.items) (one_item lists other after before kept was);
}

pub adds_unknown : (hart offset : ℕ) (lists : Lists) → length lists ≤ hart → AddsOffset hart offset lists lists
adds_unknown hart offset lists over = record {
  count = refl;
  own = λ before after was is. absurd (none_over lists hart before over was);
  others = λ other before after apart was is.
      ap (λ (v : Vec ℕ Global). v.items) (one_item lists other after before is was);
}

-- Some first spans are read, and these are left.
pub record ReadSo (harts : ℕ) (all left : List Span) (frames : Frames) : Type 0 where
  pub messages : messages_in all ≡ frames.messages.items ++ messages_in left
  pub count : length frames.offsets.items ≡ harts
  pub offsets : (hart : ℕ) (own : Vec ℕ Global) → slice_get frames.offsets.items hart ≡ Some own
      → offsets_in hart all ≡ own.items ++ offsets_in hart left
  pub runs : list_any is_run all ≡ (frames.runs || list_any is_run left)

-- The list of a hart before an offset was added.
module _ (hart offset : ℕ) (old new : Lists) (adds : AddsOffset hart offset old new) where
  was_there : (other : ℕ) (after : Vec ℕ Global) → slice_get new other ≡ Some after
      → (before : Vec ℕ Global) × (slice_get old other ≡ Some before)
  was_there other after at = by_length old new other adds.count at
    where
      by_length : (old new : Lists) (i : ℕ) → length new ≡ length old → slice_get new i ≡ Some after
          → (before : Vec ℕ Global) × (slice_get old i ≡ Some before)
      by_length [] [] i same at = cc
      by_length [] (n ∷ new) i same at = let never : suc (length new) ≡ 0 = same in absurd (omega (arith, never))
      by_length (o ∷ old) [] i same at = cc
      by_length (o ∷ old) (n ∷ new) zero same at = (o, refl)
      by_length (o ∷ old) (n ∷ new) (suc i) same at = by_length old new i (omega (arith, same)) at

pub read_next : (harts : ℕ) (all left : List Span) (span : Span) (old new : Frames)
    → ReadSo harts all (span ∷ left) old → AddsSpan span old new → ReadSo harts all left new
read_next harts all left (Frame offset message) old new so_far (messages, runs, adds) = record {
  messages = so_far.messages ∙ sym (append_assoc old.messages.items (message ∷ []) (messages_in left))
      ∙ ap (λ l. l ++ messages_in left) (sym messages);
  count = adds.count ∙ so_far.count;
  offsets = λ hart own at. by_hart hart own at (message.hart == hart) refl;
  runs = so_far.runs ∙ ap (λ b. b || list_any is_run left) (sym runs);
}
  where
    by_hart : (hart : ℕ) (own : Vec ℕ Global) → slice_get new.offsets.items hart ≡ Some own → (same : Bool)
        → (message.hart == hart) ≡ same → offsets_in hart all ≡ own.items ++ offsets_in hart left
    by_hart hart own at true test =
        let is = eqb-true message.hart hart test in
        let was = was_there message.hart offset old.offsets.items new.offsets.items adds hart own at in
        let added = adds.own was.0 own (subst (λ h. slice_get old.offsets.items h ≡ Some was.0) (sym is) was.1)
        (subst (λ h. slice_get new.offsets.items h ≡ Some own) (sym is) at) in
        so_far.offsets hart was.0 was.1
        ∙ ap (λ b. was.0.items ++ (if b then offset ∷ offsets_in hart left else offsets_in hart left)) test
        ∙ sym (append_assoc was.0.items (offset ∷ []) (offsets_in hart left))
        ∙ ap (λ l. l ++ offsets_in hart left) (sym added)
    by_hart hart own at false test =
        let was = was_there message.hart offset old.offsets.items new.offsets.items adds hart own at in
        let apart : ¬ (hart ≡ message.hart) =
        λ is. let never : false ≡ true = sym test ∙ eq-eqb message.hart hart (sym is) in cc in
        so_far.offsets hart was.0 was.1
        ∙ ap (λ b. was.0.items ++ (if b then offset ∷ offsets_in hart left else offsets_in hart left)) test
        ∙ ap (λ l. l ++ offsets_in hart left) (sym (adds.others hart was.0 own apart was.1 at))
read_next harts all left (Bytes offset count) old new so_far (messages, runs, offsets) = record {
  messages = so_far.messages ∙ ap (λ l. l ++ messages_in left) (sym messages);
  count = ap length offsets ∙ so_far.count;
  offsets = λ hart own at. so_far.offsets hart own (subst (λ l. slice_get l hart ≡ Some own) offsets at);
  runs = so_far.runs ∙ or_true old.runs ∙ ap (λ b. b || list_any is_run left) (sym runs);
}
  where
    or_true : (b : Bool) → (b || true) ≡ true
    or_true true = refl
    or_true false = refl

-- The same of the spans of some harts: one of another hart is passed over.
pub read_chosen : (only : HartRange) (harts : ℕ) (all left : List Span) (span : Span) (old new : Frames)
    → ReadSo harts all (chosen only (span ∷ left)) old → AddsWhere (is_chosen only span) span old new
    → ReadSo harts all (chosen only left) new
read_chosen only harts all left span old new so_far adds = by_hart (is_chosen only span) so_far adds
  where
    by_hart : (own : Bool)
        → ReadSo harts all (if own then span ∷ chosen only left else chosen only left) old → AddsWhere own span old new
        → ReadSo harts all (chosen only left) new
    by_hart true so_far adds = read_next harts all (chosen only left) span old new so_far adds
    by_hart false so_far adds = subst (ReadSo harts all (chosen only left)) (sym adds) so_far

pub read_all : (harts : ℕ) (all : List Span) (frames : Frames) → ReadSo harts all [] frames
    → AreFrames harts all frames
read_all harts all frames so_far = record {
  messages = sym (so_far.messages ∙ append-nil frames.messages.items);
  count = so_far.count;
  offsets = λ hart own at. sym (so_far.offsets hart own at ∙ append-nil own.items);
  runs = sym (so_far.runs ∙ or-false frames.runs);
}
