-- Straight lines, and walks along them.
use Rattle.std.proofs.Common.{◌≡◌, ℕ, zero, suc, ◌+◌, ◌-◌, ◌*◌, ◌<◌, ◌≤◌, ◌&&◌, ◌||◌, not, nat_le, nat_lt, Bool, true}
use Rattle.std.proofs.Common.{false, List}
use Rattle.std.proofs.Common.{[], ◌∷◌, ◌++◌, ◌⊎◌, inl, inr, get_or, slice_get, length, Option, Some, None, refl, sym}
use Rattle.std.proofs.Common.{ap, subst, ◌∙◌, arith, if◌then◌else◌, ◌==◌}
use Rattle.std.proofs.lemmas.Bool.Decides.{nat_tests}
use Rattle.std.proofs.lemmas.Option.{slice_get_read}
use Rattle.std.specs.List.{last_or}
use Rattle.retire.specs.Itype as types
use Rattle.retire.specs.declared.event.Event.{Event}
use Rattle.retire.specs.declared.event.Event.TheVariants.{Retire}
use Rattle.rvclass.specs.Words.{Word, Words, IsProgram}
use Rattle.rvclass.specs.declared.class.Class.TheVariants.{Plain, Jump, Branch, Uninferable, TrapReturn, NotRetirable}
use Rattle.legalpath.specs.Backward.{jumps_back}
use Rattle.legalpath.specs.Successor.{leads_from}
use Rattle.legalpath.specs.declared.next.Next.TheVariants.{One}
use Rattle.decoder.specs.Walk.{End, AtBranch, AtAddress, AtTarget}
use Rattle.decoder.specs.steps.Segments.{addr_of}
use Rattle.decoder.specs.steps.Leads.{may_stay_on}
use Rattle.decoder.specs.steps.StraightLines.{straight_on, unless_back, then_on, line_to, IsLine, AreSkips, passes}
use Rattle.decoder.specs.steps.StraightLines.{GoesOn, IsLonger}
use Rattle.decoder.specs.steps.Walks.{event_of, Carries}
use Rattle.decoder.specs.declared.segments.CodeSegment.{CodeSegment}
use Rattle.decoder.specs.declared.skips.Skip.{Skip}
use Rattle.decoder.specs.declared.skips.StraightRun.{StraightRun}
use Rattle.decoder.specs.declared.stepping.Here.{Here}
use Rattle.decoder.specs.steps.WalkSteps.{Stop, Last, On, advance, move_to, next_move, retire_on, stops, is_empty}
use Rattle.decoder.specs.steps.WalkSteps.{event_then, walk_within, summary, plus}
use Rattle.decoder.proofs.PassesByStep.{one_move}

-- A line that has a step goes on from where the first instruction leads.
cut_by : (at : Option ℕ) (rest : ℕ → Option ℕ) (b : ℕ) → then_on at rest ≡ Some b →
    (next : ℕ) × (at ≡ Some next) × (rest next ≡ Some b)
cut_by None rest b h = cc
cut_by (Some next) rest b h = (next, refl, h)

cut : (words : Words) (n a b : ℕ) → IsLine words (suc n) a b →
    (next : ℕ) × (straight_on a (words a) ≡ Some next) × IsLine words n next b
cut words n a b line = cut_by (straight_on a (words a)) (λ next. line_to words n next) b line

-- An instruction and then a line is a line.
longer_line : (words : Words) (n a next b : ℕ) → straight_on a (words a) ≡ Some next → IsLine words n next b →
    IsLine words (suc n) a b
longer_line words n a next b h line = ap (λ o. then_on o (λ x. line_to words n x)) h ∙ line

-- Two lines in a row are one.
pub line_join : (words : Words) (m n a b c : ℕ) → IsLine words m a b → IsLine words n b c → IsLine words (m + n) a c
line_join words zero n a b c one two =
    let same : a ≡ b = cc in
    let all : n ≡ 0 + n = omega arith in
    subst (λ k. IsLine words k a c) all (subst (λ x. IsLine words n x c) (sym same) two)
line_join words (suc m) n a b c one two =
    let parts = cut words m a b one in
    let all : suc (m + n) ≡ suc m + n = omega arith in
    subst (λ k. IsLine words k a c) all
    (longer_line words (m + n) a parts.0 c parts.1 (line_join words m n parts.0 b c parts.2 two))

forward : (back : Bool) (to next : ℕ) → unless_back back to ≡ Some next → (back ≡ false) × (to ≡ next)
forward true to next h = cc
forward false to next h = (refl, cc)

-- What an instruction that is plain or jumps forward is.
pub leads_straight : (addr itype next : ℕ) (w : Option Word) → straight_on addr w ≡ Some next →
    leads_from addr itype w ≡ One next
leads_straight addr itype next None h = cc
leads_straight addr itype next (Some (Plain, len)) h = cc
leads_straight addr itype next (Some (Jump to, len)) h = ap One (forward (nat_le to addr) to next h).1
leads_straight addr itype next (Some (Branch to, len)) h = cc
leads_straight addr itype next (Some (Uninferable, len)) h = cc
leads_straight addr itype next (Some (TrapReturn ret, len)) h = cc
leads_straight addr itype next (Some (NotRetirable, len)) h = cc

retires_straight : (addr priv next : ℕ) (left : List Bool) (w : Option Word) → straight_on addr w ≡ Some next →
    retire_on addr priv w left ≡ Some (Retire addr types.other priv, left)
retires_straight addr priv next left None h = cc
retires_straight addr priv next left (Some (Plain, len)) h = refl
retires_straight addr priv next left (Some (Jump to, len)) h = refl
retires_straight addr priv next left (Some (Branch to, len)) h = cc
retires_straight addr priv next left (Some (Uninferable, len)) h = cc
retires_straight addr priv next left (Some (TrapReturn ret, len)) h = cc
retires_straight addr priv next left (Some (NotRetirable, len)) h = cc

same_stays : (priv : ℕ) → nat_le priv priv ≡ true
same_stays priv = grind (arith, nat_tests)

pub stays_straight : (addr priv next : ℕ) (w : Option Word) → straight_on addr w ≡ Some next →
    may_stay_on w priv ≡ true
stays_straight addr priv next None h = cc
stays_straight addr priv next (Some (Plain, len)) h = same_stays priv
stays_straight addr priv next (Some (Jump to, len)) h = same_stays priv
stays_straight addr priv next (Some (Branch to, len)) h = cc
stays_straight addr priv next (Some (Uninferable, len)) h = cc
stays_straight addr priv next (Some (TrapReturn ret, len)) h = cc
stays_straight addr priv next (Some (NotRetirable, len)) h = cc

not_back : (addr next : ℕ) (w : Option Word) → straight_on addr w ≡ Some next → jumps_back addr w ≡ false
not_back addr next None h = cc
not_back addr next (Some (Plain, len)) h = refl
not_back addr next (Some (Jump to, len)) h = (forward (nat_le to addr) to next h).0
not_back addr next (Some (Branch to, len)) h = cc
not_back addr next (Some (Uninferable, len)) h = cc
not_back addr next (Some (TrapReturn ret, len)) h = cc
not_back addr next (Some (NotRetirable, len)) h = cc

above : (to addr : ℕ) → nat_le to addr ≡ false → addr < to
above to addr h = grind (arith, nat_tests)

rises_by : (addr next : ℕ) (w : Option Word) → ((word : Word) → w ≡ Some word → 2 ≤ word.1) →
    straight_on addr w ≡ Some next → addr < next
rises_by addr next None long h = cc
rises_by addr next (Some (Plain, len)) long h =
    let two : 2 ≤ len = long (Plain, len) refl in
    let is : addr + len ≡ next = cc in
    omega (arith, two, is)
rises_by addr next (Some (Jump to, len)) long h =
    let one = forward (nat_le to addr) to next h in
    let up = above to addr one.0 in
    let is : to ≡ next = one.1 in
    omega (arith, up, is)
rises_by addr next (Some (Branch to, len)) long h = cc
rises_by addr next (Some (Uninferable, len)) long h = cc
rises_by addr next (Some (TrapReturn ret, len)) long h = cc
rises_by addr next (Some (NotRetirable, len)) long h = cc

module _ (words : Words) (is_program : IsProgram words) where
  straight_rises : (addr next : ℕ) → straight_on addr (words addr) ≡ Some next → addr < next
  straight_rises addr next h = rises_by addr next (words addr) (λ w at. is_program.long addr w at) h

  line_rises : (n a b : ℕ) → IsLine words n a b → a ≤ b
  line_rises zero a b line =
      let same : a ≡ b = cc in omega (arith, same)
  line_rises (suc n) a b line =
      let parts = cut words n a b line in
      let one = straight_rises a parts.0 parts.1 in
      let more = line_rises n parts.0 b parts.2 in
      omega (arith, one, more)

-- The first instruction of a line is plain or jumps forward, where the one that it leads to does.
first_straight : (words : Words) (n a b beyond : ℕ) → IsLine words n a b → straight_on b (words b) ≡ Some beyond →
    (next : ℕ) × (straight_on a (words a) ≡ Some next)
first_straight words zero a b beyond line h =
    let same : a ≡ b = cc in (beyond, subst (λ x. straight_on x (words x) ≡ Some beyond) (sym same) h)
first_straight words (suc n) a b beyond line h = let parts = cut words n a b line in (parts.0, parts.1)

-- A walk does not end on the way.
apart : (x from to next : ℕ) (empty : Bool) → (not empty || (nat_le x from || nat_lt to x)) ≡ true → from < next →
    next ≤ to → ((next == x) && empty) ≡ false
apart x from to next true pass lo hi = grind (arith, nat_tests)
apart x from to next false pass lo hi = grind (arith, nat_tests)

not_stops : (end : End) (left : List Bool) (from to next priv : ℕ) → passes end left from to ≡ true → from < next →
    next ≤ to → stops end (Retire next types.other priv) left ≡ false
not_stops AtBranch left from to next priv pass lo hi = refl
not_stops (AtAddress x) left from to next priv pass lo hi = apart x from to next (is_empty left) pass lo hi
not_stops (AtTarget x) left from to next priv pass lo hi = refl

on_move : (event : Event) (left : List Bool) (ends back : Bool) → ends ≡ false → back ≡ false →
    (if ends then Last event else if back then Stop else On event left) ≡ On event left
on_move event left true back e b = cc
on_move event left false true e b = cc
on_move event left false false e b = refl

summary_then : (e f : Event) (o : Option (List Event)) → summary e (event_then f o) ≡ plus 1 (summary f o)
summary_then e f None = refl
summary_then e f (Some w) =
    let one : suc (length w) ≡ 1 + length w = omega arith in ap (λ n. Some (n, last_or (Some f) w)) one

plus_plus : (a b : ℕ) (s : Option (ℕ × Option Event)) → plus a (plus b s) ≡ plus (a + b) s
plus_plus a b None = refl
plus_plus a b (Some found) = let sum : a + (b + found.0) ≡ a + b + found.0 = omega arith in
    ap (λ n. Some (n, found.1)) sum

same_place : (a b : ℕ) → Some a ≡ Some b → a ≡ b
same_place a b h = cc

plus_none : (s : Option (ℕ × Option Event)) → s ≡ plus 0 s
plus_none None = refl
plus_none (Some found) = let same : found.0 ≡ 0 + found.0 = omega arith in ap (λ n. Some (n, found.1)) same

module _ (words : Words) (is_program : IsProgram words) (end : End) (left : List Bool) (priv from : ℕ) where
  goes_straight : (a next after : ℕ) → straight_on a (words a) ≡ Some next →
      straight_on next (words next) ≡ Some after → stops end (Retire next types.other priv) left ≡ false →
      On (Retire next types.other priv) left ≡ advance words (Retire a types.other priv) left end
  unfolding advance
  goes_straight a next after h h' apart =
      sym (ap (λ n. move_to words (Retire a types.other priv) left end n) (leads_straight a types.other next
      (words a) h)
      ∙ ap (λ r. next_move words end r) (retires_straight next priv after left (words next) h')
      ∙ on_move (Retire next types.other priv) left _ _ apart (not_back next after (words next) h'))

  -- Along a straight line a walk goes on to what it leads to.
  pub along : (n a b beyond : ℕ) → from ≤ a → IsLine words n a b → straight_on b (words b) ≡ Some beyond →
      passes end left from b ≡ true →
      IsLonger words left end n (Retire a types.other priv) (Retire b types.other priv)
  along zero a b beyond lo line h pass = λ ahead.
      let all : 0 + ahead ≡ ahead = omega arith in
      let here : Event = Retire a types.other priv in
      ap (λ n. summary here (walk_within words n here left end)) all
      ∙ ap (λ (x : ℕ). summary (Retire x types.other priv)
      (walk_within words ahead (Retire x types.other priv) left end)) (same_place a b line)
      ∙ plus_none _
  along (suc n) a b beyond lo line h pass = λ ahead.
      let parts = cut words n a b line in
      let next = parts.0 in
      let up = straight_rises words is_program a next parts.1 in
      let hi = line_rises words is_program n next b parts.2 in
      let beyond_next = first_straight words n next b beyond parts.2 h in
      let clear = not_stops end left from b next priv pass (omega (arith, lo, up)) hi in
      let moves = goes_straight a next beyond_next.0 parts.1 beyond_next.1 clear in
      let rest = along n next b beyond (omega (arith, lo, up)) parts.2 h pass ahead in
      let here : Event = Retire a types.other priv in
      let there : Event = Retire next types.other priv in
      let last : Event = Retire b types.other priv in
      let all : suc n + ahead ≡ suc (n + ahead) = omega arith in
      let more : 1 + n ≡ suc n = omega arith in
      ap (λ k. summary here (walk_within words k here left end)) all
      ∙ ap (summary here) (one_move words (n + ahead) here left end (On there left) moves)
      ∙ summary_then here there (walk_within words (n + ahead) there left end)
      ∙ ap (plus 1) rest
      ∙ plus_plus 1 n _
      ∙ ap (λ k. plus k (summary last (walk_within words ahead last left end))) more

-- So much is left of the steps that a walk may have once a line was gone along.
left_over : (limit done steps : ℕ) → steps ≤ limit - done → limit - done ≡ steps + (limit - (done + steps))
left_over limit done steps few = omega (arith, few)

-- A walk of at most `limit` steps that has made `done` of them has made so many more once it went along a line.
pub measure_skips : (words : Words) (end : End) (from : Event) (taken : List Bool) (limit done : ℕ) (here : Event)
    (left : List Bool) → summary from (walk_within words limit from taken end) ≡ plus done
    (summary here (walk_within words (limit - done) here left end)) → (steps : ℕ) (there : Event) →
    steps ≤ limit - done → IsLonger words left end steps here there →
    summary from (walk_within words limit from taken end) ≡ plus (done + steps)
    (summary there (walk_within words (limit - (done + steps)) there left end))
measure_skips words end from taken limit done here left inv steps there few longer =
    inv
    ∙ ap (λ n. plus done (summary here (walk_within words n here left end))) (left_over limit done steps few)
    ∙ ap (plus done) (longer (limit - (done + steps)))
    ∙ plus_plus done steps _

-- A retirement after which a line begins, and the one that the line leads to.
abbrev pub line_there : Here → StraightRun → Here
line_there here line = record {
  addr = line.to;
  itype = here.itype;
  privilege = here.privilege;
  next = One line.next;
  stays = true;
}

-- Where a walk goes on from it is kept, and it is so many steps further.
pub goes_on : (words : Words) → IsProgram words → (end : End) (left : List Bool) (here : Here) (most : ℕ)
    (line : StraightRun) →
    GoesOn words here left end most line →
    Carries words (line_there here line) ×
    IsLonger words left end line.steps (event_of here) (event_of (line_there here line))
goes_on words is_program end left here most line on = (
  (
    leads_straight line.to here.itype line.next (words line.to) on.beyond,
    stays_straight line.to here.privilege line.next (words line.to) on.beyond,
  ),
  subst (λ (itype : ℕ). IsLonger words left end line.steps (Retire here.addr itype here.privilege)
      (Retire line.to itype here.privilege)) (sym on.other)
      (along words is_program end left here.privilege here.addr line.steps here.addr line.to line.next
      (omega arith) on.straight on.beyond on.clear),
)

-- What each step of the table's making needs.
pub one_step : (words : Words) (addr next to : ℕ) → straight_on addr (words addr) ≡ Some next → to ≡ next →
    IsLine words 1 addr to
one_step words addr next to h is = longer_line words 0 addr next to h (ap Some (sym is))

-- No skips.
pub no_skips : (words : Words) (segments : List CodeSegment) → AreSkips words segments []
no_skips words segments place skip h = cc

-- A skip that was read from the list.
pub skip_read : (words : Words) (segments : List CodeSegment) (skips : List Skip) (place : ℕ) (skip : Skip) →
    AreSkips words segments skips → place < length skips → skip ≡ get_or skips place skip →
    IsLine words skip.steps (addr_of segments place) (addr_of segments skip.to)
skip_read words segments skips place skip lead within at =
    lead place skip (slice_get_read skips (length skips) place skip refl within at)

-- What is read of a list with one entry more is that entry, or read of the list.
get_pushed : (xs : List Skip) (x y : Skip) (i : ℕ) → slice_get (xs ++ x ∷ []) i ≡ Some y →
    (slice_get xs i ≡ Some y) ⊎ ((i ≡ length xs) × (x ≡ y))
get_pushed [] x y zero h = inr (refl, cc)
get_pushed [] x y (suc i) h = cc
get_pushed (z ∷ xs) x y zero h = inl h
get_pushed (z ∷ xs) x y (suc i) h = go (get_pushed xs x y i h)
  where
    go : (slice_get xs i ≡ Some y) ⊎ ((i ≡ length xs) × (x ≡ y)) →
        (slice_get xs i ≡ Some y) ⊎ ((suc i ≡ suc (length xs)) × (x ≡ y))
    go (inl same) = inl same
    go (inr (last, is)) = inr (ap suc last, is)

pub skips_pushed : (words : Words) (segments : List CodeSegment) (place : ℕ) (skips : List Skip) (skip : Skip) →
    AreSkips words segments skips → length skips ≡ place →
    IsLine words skip.steps (addr_of segments place) (addr_of segments skip.to) → AreSkips words segments
    (skips ++ skip ∷ [])
skips_pushed words segments place skips skip lead count line at one h = go (get_pushed skips skip one at h)
  where
    go : (slice_get skips at ≡ Some one) ⊎ ((at ≡ length skips) × (skip ≡ one)) →
        IsLine words one.steps (addr_of segments at) (addr_of segments one.to)
    go (inl before) = lead at one before
    go (inr (last, is)) =
        subst (λ k. IsLine words one.steps (addr_of segments k) (addr_of segments one.to)) (sym (last ∙ count))
        (subst (λ (l : Skip). IsLine words l.steps (addr_of segments place) (addr_of segments l.to)) is line)

-- The line that a skip read from the list tells of, from an address on.
pub line_read : (words : Words) (segments : List CodeSegment) (skips : List Skip) (place : ℕ) (skip : Skip)
    (addr to : ℕ) →
    AreSkips words segments skips → place < length skips → skip ≡ get_or skips place skip
    → addr_of segments place ≡ addr →
    addr_of segments skip.to ≡ to → IsLine words skip.steps addr to
line_read words segments skips place skip addr to lead within at from there =
    subst (λ a. IsLine words skip.steps a to) from
    (subst (λ b. IsLine words skip.steps (addr_of segments place) b) there
    (skip_read words segments skips place skip lead within at))
