-- That a walk is a legal log.
use Rattle.std.proofs.Common.{◌≡◌, ◌≢◌, ◌⊎◌, ◌∙◌, ◌+◌, ◌-◌, ◌*◌, ◌/◌, ◌%◌, ◌^◌, ◌<◌, ◌≤◌, ◌==◌, ◌++◌, ◌∷◌, ◌&&◌, ap, arith, refl, subst, sym}
use Rattle.std.proofs.Common.{ℕ, zero, suc, Bool, true, false, List, [], Option, Some, None, if◌then◌else◌, length, max, min}
use Rattle.std.proofs.Common.{append-nil, append_assoc, nat_lt, inl, inr}
use Rattle.std.proofs.lemmas.Bool.Decides.{nat_tests}
use Rattle.std.proofs.lemmas.Bool.{true≢false}
use Rattle.std.proofs.lemmas.List.{length-append}
use Rattle.std.proofs.lemmas.Option.{same_Some}
use Rattle.std.proofs.lemmas.List.Elements.{All-append, All-cons, All-nil}
use Rattle.std.specs.List.{AllByRecursion, last_or}
use Rattle.rand_pcg.specs.Lcg.{Lcg}
use Rattle.rand_pcg.specs.Pcg.{pcg32}
use Rattle.retire.specs.Events.{place, privilege}
use Rattle.retire.specs.Is64Bit.{Is64Bit}
use Rattle.retire.specs.Itype as types
use Rattle.retire.specs.Log.{most_long_rows}
use Rattle.retire.specs.declared.event.Event.{Event}
use Rattle.retire.specs.declared.event.Event.TheVariants.{Retire, Trap}
use Rattle.rvclass.proofs.WordsLemmas.{chosen, word_is, words_stand}
use Rattle.rvclass.specs.Bits.{moved}
use Rattle.rvclass.specs.Fetch.{is_compressed, is_longer, words_of}
use Rattle.rvclass.specs.FetchedBytes.{half_at, has_bytes, word_at}
use Rattle.rvclass.specs.Image.{Image, IsImage}
use Rattle.rvclass.specs.Memory.{Memory, base_of, lowest_of}
use Rattle.rvclass.specs.Offset.{b_offset, cb_offset, cj_offset, i_offset, j_offset}
use Rattle.rvclass.specs.Piece.{IsPiece}
use Rattle.rvclass.specs.Word16.{class16}
use Rattle.rvclass.specs.Word32.{class32}
use Rattle.rvclass.specs.Words.{Word, Words}
use Rattle.rvclass.specs.declared.class.Class.{Class}
use Rattle.rvclass.specs.declared.class.Class.TheVariants.{Plain, Jump, Branch, Uninferable, TrapReturn, NotRetirable}
use Rattle.rvclass.specs.declared.class.Return.{Return}
use Rattle.rvclass.specs.declared.class.Return.TheVariants.{Mret, Sret}
use Rattle.legalpath.proofs.FollowOnLemmas.{follow_on_join, last_or-append}
use Rattle.legalpath.specs.Allowed.{may_retire_at}
use Rattle.legalpath.specs.Right.{IsTypeOf, MayRetireAt, RetiresOn, Right}
use Rattle.legalpath.specs.Step.{LeadsToPrivilege, MayHavePrivilegeAfter, MayHavePrivilegeBehind, MayStandAfter, MayStandAt}
use Rattle.legalpath.specs.Step.{StepFrom}
use Rattle.legalpath.specs.Successor.{leads, leads_from, successor}
use Rattle.legalpath.specs.declared.next.Next.TheVariants.{One, Any}
use Rattle.stimulus.specs.Walk.{branches, branches_by, comes_at, comes_where, draws_trap, epc_by, excepts, first_walk}
use Rattle.stimulus.specs.Walk.{handles, is_taken, lands, level_of, levels, number, raised}
use Rattle.stimulus.specs.Walk.{returns_by, steps, steps_by, trap_by, traps_of, walked}
use Rattle.stimulus.specs.Walked.{HasWalked, IsLevel, MayGoOn}
use Rattle.stimulus.specs.declared.hart.Hart.{Hart}
use Rattle.stimulus.specs.declared.mix.Mix.{Mix}
use Rattle.stimulus.specs.declared.walk.Extent.{Extent}
use Rattle.stimulus.specs.declared.walk.Walk.{Walk}

-- The trap of a draw, at this address.
abbrev by_draw : ℕ → ℕ × Walk → Event × Walk
by_draw draw e = trap_by (nat_lt (draw % 256) e.1.habits.interrupts) draw e.0 e.1

-- A trap that is drawn, by its draws.
pub draws_is : (walk after : Walk) (draw epc : ℕ) (random : Lcg) → (draw, random) ≡ pcg32 walk.random
    → (epc, after) ≡ epc_by (walk.is_free && (draw / 256 % 2 == 0)) (record walk { random = random })
    → trap_by (nat_lt (draw % 256) after.habits.interrupts) draw epc after ≡ draws_trap walk
unfolding draws_trap
draws_is walk after draw epc random drawn is =
    ap (by_draw draw) is
    ∙ ap (λ (d : ℕ × Lcg). by_draw d.0 (epc_by (walk.is_free && (d.0 / 256 % 2 == 0)) (record walk { random = d.1 })))
    drawn

-- The base of an image is even.
even_lowest : (base : ℕ) (m : Memory) → base % 2 ≡ 0 → AllByRecursion IsPiece m → lowest_of base m % 2 ≡ 0
even_lowest base [] even each = even
even_lowest base (p ∷ ps) even each =
    even_least p.base (lowest_of base ps) each.0.even (even_lowest base ps even each.1)
  where
    even_least : (a b : ℕ) → a % 2 ≡ 0 → b % 2 ≡ 0 → min a b % 2 ≡ 0
    even_least a b one two = omega (arith, one, two)

pub even_base : (m : Image) → IsImage m → base_of m % 2 ≡ 0
even_base [] image = omega arith
even_base (p ∷ ps) image = even_lowest p.base ps image.each.0.even image.each.1

-- The target of an instruction is even.
abbrev IsEven : Class → Type 0
IsEven (Jump to) = to % 2 ≡ 0
IsEven (Branch to) = to % 2 ≡ 0
IsEven other = Unit {0}

even_moved : (width addr offset : ℕ) → 1 ≤ width → addr % 2 ≡ 0 → offset % 2 ≡ 0 → 2 ^ width % 2 ≡ 0
    → moved width addr offset % 2 ≡ 0
even_moved width addr offset some one two three = go (nat_lt offset (2 ^ (width - 1)))
  where
    go : (b : Bool) → ((addr + (if b then offset else offset + (2 ^ 64 - 2 ^ width))) % 2 ^ 64) % 2 ≡ 0
    go true = omega (arith, one, two)
    go false = omega (arith, one, two, three)

-- One of five classes.
even_class16 : (a b c d : Bool) (x y : ℕ) → x % 2 ≡ 0 → y % 2 ≡ 0
    → IsEven (if a then Jump x else if b then Branch y else if c then Uninferable else if d then NotRetirable else Plain)
even_class16 true b c d x y one two = one
even_class16 false true c d x y one two = two
even_class16 false false true d x y one two = tt
even_class16 false false false true x y one two = tt
even_class16 false false false false x y one two = tt

even_class32 : (a b c d e f g : Bool) (x y z : ℕ) → x % 2 ≡ 0 → y % 2 ≡ 0 → z % 2 ≡ 0
    → IsEven (if a then Jump x else if b then Jump y else if c then Uninferable else if d then Branch z else
    if e then NotRetirable else if f then TrapReturn Sret else if g then TrapReturn Mret else Plain)
even_class32 true b c d e f g x y z one two three = one
even_class32 false true c d e f g x y z one two three = two
even_class32 false false true d e f g x y z one two three = tt
even_class32 false false false true e f g x y z one two three = three
even_class32 false false false false true f g x y z one two three = tt
even_class32 false false false false false true g x y z one two three = tt
even_class32 false false false false false false true x y z one two three = tt
even_class32 false false false false false false false x y z one two three = tt

even_short : (addr w : ℕ) → addr % 2 ≡ 0 → IsEven (class16 addr w)
unfolding class16
even_short addr w even =
    even_class16 _ _ _ _ _ _ (even_moved 12 addr (cj_offset w) (omega arith) even (omega arith) (omega arith))
    (even_moved 9 addr (cb_offset w) (omega arith) even (omega arith) (omega arith))

even_long : (addr w : ℕ) → addr % 2 ≡ 0 → IsEven (class32 addr w)
unfolding class32
even_long addr w even =
    even_class32 _ _ _ _ _ _ _ _ _ _ (even_moved 21 addr (j_offset w) (omega arith) even (omega arith) (omega arith))
    (even_moved 12 0 (i_offset w) (omega arith) (omega arith) (omega arith) (omega arith))
    (even_moved 13 addr (b_offset w) (omega arith) even (omega arith) (omega arith))

even_chosen : (even two compressed longer four : Bool) (x y z : Word) → IsEven x.0 → IsEven y.0 → IsEven z.0
    → (w : Word) → chosen even two compressed longer four x y z ≡ Some w → IsEven w.0
even_chosen false two compressed longer four x y z one middle last w is = cc
even_chosen true false compressed longer four x y z one middle last w is = cc
even_chosen true true true longer four x y z one middle last w is = subst (λ (w : Word). IsEven w.0) (same_Some x w is) one
even_chosen true true false true four x y z one middle last w is = subst (λ (w : Word). IsEven w.0) (same_Some y w is) middle
even_chosen true true false false false x y z one middle last w is = cc
even_chosen true true false false true x y z one middle last w is = subst (λ (w : Word). IsEven w.0) (same_Some z w is) last

even_word : (m : Image) (addr : ℕ) (w : Word) → words_of m addr ≡ Some w → IsEven w.0
even_word m addr w is =
    let even = (words_stand m addr w is).even in
    even_chosen (addr % 2 == 0) (has_bytes m addr 2) (is_compressed (half_at m addr)) (is_longer (half_at m addr))
    (has_bytes m addr 4) (class16 addr (half_at m addr), 2) (NotRetirable, 2) (class32 addr (word_at m addr), 4)
    (even_short addr (half_at m addr) even) tt (even_long addr (word_at m addr) even) w (sym (word_is m addr) ∙ is)

-- The levels that draws say.
level_is : (greatest draw : ℕ) → IsLevel (level_of greatest draw)
unfolding level_of
level_is greatest draw = go (nat_lt greatest 3) (draw % 3 == 2) refl
  where
    go : (a b : Bool) → (draw % 3 == 2) ≡ b
        → IsLevel (if a then draw % 2 else (if b then 3 else draw % 3))
    go true b is = (omega arith, λ two. omega (arith, two))
    go false true is = (omega arith, λ two. omega (arith, two))
    go false false is =
        (omega arith, λ two. true≢false (sym (ap (λ n. n == 2) two) ∙ is))

low_level : (draw : ℕ) → level_of 1 draw ≤ 1
unfolding level_of
low_level draw = omega arith

-- The level of a trap's handler.
high_level : (b : Bool) → IsLevel (if b then 3 else 1)
high_level true = (omega arith, λ two. omega (arith, two))
high_level false = (omega arith, λ two. omega (arith, two))

above_user : (b : Bool) → 1 ≤ (if b then 3 else 1)
above_user true = omega arith
above_user false = omega arith

above : (level : ℕ) (b : Bool) → level ≤ 3 → level ≢ 3 → level ≢ 2 → level ≤ (if b then 3 else 1)
above level true few low other = few
above level false few low other = omega (arith, few, low, other)

even_far : (base far : ℕ) → base % 2 ≡ 0 → (base + far / 4 * 4) % 2 ^ 64 % 2 ≡ 0
even_far base far even = omega (arith, even)

even_half : (n : ℕ) → n / 2 * 2 % 2 ≡ 0
even_half n = omega arith

module _ (words : Words) where
  -- An event that comes in its place follows.
  follows_from : (before : Option Event) (event : Event) → MayStandAfter words before (place event)
      → MayHavePrivilegeAfter words before (privilege event) → StepFrom words before event
  follows_from None event stands levels = tt
  follows_from (Some last) event stands levels = (stands, levels)

  -- An event is a step of a log, and the walk goes on after it.
  pub record IsStep (before : Option Event) (next : Event × Walk) : Type 0 where
    pub right : Right words next.0
    pub follows : StepFrom words before next.0
    pub goes_on : MayGoOn words (Some next.0) next.1

  module _ (before : Option Event) (walk : Walk) (g : MayGoOn words before walk) where
    -- A draw changes no place.
    redrawn : (random : Lcg) → MayGoOn words before (record walk { random = random })
    redrawn random = record {
      level = g.level;
      may_level = g.may_level;
      even = g.even;
      may_stand = g.may_stand;
      free = g.free;
      base = g.base;
    }

  -- A hart lands where any place may come.
  landed : (event : Event) (walk : Walk) → IsLevel walk.privilege
      → MayHavePrivilegeBehind words event walk.privilege → ((at : ℕ) → MayStandAt (successor words event) at)
      → walk.extent.base % 2 ≡ 0 → MayGoOn words (Some event) (lands walk)
  unfolding lands
  landed event walk level may free base = record {
    level = level;
    may_level = may;
    even = even_far walk.extent.base ((pcg32 walk.random).0 % max walk.extent.size 4) base;
    may_stand = free _;
    free = λ is at. free at;
    base = base;
  }

  -- And at a level that is drawn.
  levelled : (event : Event) (walk : Walk) (greatest : ℕ)
      → ((draw : ℕ) → MayHavePrivilegeBehind words event (level_of greatest draw))
      → ((at : ℕ) → MayStandAt (successor words event) at)
      → walk.extent.base % 2 ≡ 0 → MayGoOn words (Some event) (levels greatest (lands walk))
  unfolding levels lands
  levelled event walk greatest may free base = record {
    level = level_is greatest _;
    may_level = may _;
    even = even_far walk.extent.base ((pcg32 walk.random).0 % max walk.extent.size 4) base;
    may_stand = free _;
    free = λ is at. free at;
    base = base;
  }

  -- The handler of a trap.
  module _ (interrupt : Bool) (cause epc value : ℕ) (walk : Walk) (level : IsLevel walk.privilege)
      (base : walk.extent.base % 2 ≡ 0) where
    abbrev trap : Event
    trap = Trap walk.privilege interrupt cause epc value

    handled_by : (b : Bool) → (walk.privilege == 3) ≡ b → MayGoOn words (Some trap) (raised b (lands walk))
    unfolding lands
    handled_by true is =
        let three : walk.privilege ≡ 3 = grind (arith, nat_tests) in record {
          level = level;
          may_level = (omega (arith, three), omega arith);
          even = even_far walk.extent.base ((pcg32 walk.random).0 % max walk.extent.size 4) base;
          may_stand = tt;
          free = λ is at. tt;
          base = base;
        }
    handled_by false is =
        let low : walk.privilege ≢ 3 = grind (arith, nat_tests) in
        let few = level.0 in
        let other = level.1 in
        let draw = (pcg32 (pcg32 walk.random).1).0 in record {
          level = high_level (draw % 2 == 0);
          may_level = (
            above_user (draw % 2 == 0),
            above walk.privilege (draw % 2 == 0) few low other,
          );
          even = even_far walk.extent.base ((pcg32 walk.random).0 % max walk.extent.size 4) base;
          may_stand = tt;
          free = λ is at. tt;
          base = base;
        }

    handled : MayGoOn words (Some trap) (handles walk)
    unfolding handles lands
    handled = handled_by (walk.privilege == 3) refl

  module _ (before : Option Event) (walk : Walk) (g : MayGoOn words before walk) where
    -- An exception at the place.
    excepted : (cause value : ℕ) → cause < 64 → IsStep before (excepts cause value walk)
    unfolding excepts
    excepted cause value few = record {
      right = (g.even, g.level, few, λ is. absurd (true≢false (sym is)));
      follows = follows_from before (Trap walk.privilege false cause walk.at value) g.may_stand g.may_level;
      goes_on = handled false cause walk.at value walk g.level g.base;
    }

    -- A trap that is drawn, at an address that may come.
    trapped_by : (b : Bool) (draw epc : ℕ) → epc % 2 ≡ 0 → MayStandAfter words before epc
        → IsStep before ((trap_by b draw epc walk).0, handles (trap_by b draw epc walk).1)
    unfolding number
    trapped_by true draw epc even stands = record {
      right = (even, g.level, omega arith, λ is. refl);
      follows = follows_from before (Trap walk.privilege true (draw / 1024 % 16) epc 0) stands g.may_level;
      goes_on = handled true (draw / 1024 % 16) epc 0 walk g.level g.base;
    }
    trapped_by false draw epc even stands = valued (number walk.habits.shortened walk) refl
      where
        valued : (n : ℕ × Walk) → n ≡ number walk.habits.shortened walk
            → IsStep before (Trap n.1.privilege false (draw / 1024 % 64) epc n.0, handles n.1)
        valued n is =
            subst (λ (n : ℕ × Walk). IsStep before (Trap n.1.privilege false (draw / 1024 % 64) epc n.0, handles n.1))
            (sym is) (record {
              right = (even, g.level, omega arith, λ is. absurd (true≢false (sym is)));
              follows = follows_from before (Trap walk.privilege false (draw / 1024 % 64) epc _) stands g.may_level;
              goes_on = handled false (draw / 1024 % 64) epc _ _ g.level g.base;
            })

  numbered : (before : Option Event) (walk : Walk) (most : ℕ) → MayGoOn words before walk
      → MayGoOn words before (number most walk).1
  unfolding number
  numbered before walk most g = redrawn before walk g _

  -- A trap that the program does not call for.
  at_epc : (before : Option Event) (walk : Walk) (draw : ℕ) (a b c : Bool) → MayGoOn words before walk
      → walk.is_free ≡ a → IsStep before (
        (trap_by c draw (epc_by (a && b) walk).0 (epc_by (a && b) walk).1).0,
        handles (trap_by c draw (epc_by (a && b) walk).0 (epc_by (a && b) walk).1).1,
      )
  at_epc before walk draw true true c g is =
      let any = number 63 walk in
      trapped_by before any.1 (numbered before walk 63 g) c draw (any.0 / 2 * 2) (even_half any.0) (g.free is _)
  at_epc before walk draw true false c g is = trapped_by before walk g c draw walk.at g.even g.may_stand
  at_epc before walk draw false b c g is = trapped_by before walk g c draw walk.at g.even g.may_stand

  trapped : (before : Option Event) (walk : Walk) → MayGoOn words before walk
      → IsStep before ((draws_trap walk).0, handles (draws_trap walk).1)
  unfolding draws_trap
  trapped before walk g =
      let draw = pcg32 walk.random in
      let epc = epc_by (walk.is_free && (draw.0 / 256 % 2 == 0)) (record walk { random = draw.1 }) in
      at_epc before (record walk { random = draw.1 }) draw.0 walk.is_free (draw.0 / 256 % 2 == 0)
      (nat_lt (draw.0 % 256) epc.1.habits.interrupts) (redrawn before walk g draw.1) refl

  -- What retires is a step where it leads on.
  module _ (before : Option Event) (walk : Walk) (g : MayGoOn words before walk) (class : Class) (long : ℕ)
      (is : words walk.at ≡ Some (class, long)) where
    retired : (itype : ℕ) (after : Walk) → IsTypeOf class itype → MayRetireAt class walk.privilege
        → MayGoOn words (Some (Retire walk.at itype walk.privilege)) after
        → IsStep before (Retire walk.at itype walk.privilege, after)
    retired itype after type may on = record {
      right = (subst (λ o. RetiresOn o itype walk.privilege) (sym is) (type, may), g.level);
      follows = follows_from before (Retire walk.at itype walk.privilege) g.may_stand g.may_level;
      goes_on = on;
    }

    same_level : (itype : ℕ) → LeadsToPrivilege (Some (class, long)) walk.privilege walk.privilege
        → MayHavePrivilegeBehind words (Retire walk.at itype walk.privilege) walk.privilege
    same_level itype same = subst (λ o. LeadsToPrivilege o walk.privilege walk.privilege) (sym is) same

    to_one : (itype to : ℕ) → leads walk.at itype class long ≡ One to
        → LeadsToPrivilege (Some (class, long)) walk.privilege walk.privilege → to % 2 ≡ 0
        → MayGoOn words (Some (Retire walk.at itype walk.privilege)) (record walk { at = to; is_free = false })
    to_one itype to one same even = record {
      level = g.level;
      may_level = same_level itype same;
      even = even;
      may_stand =
          subst (λ o. MayStandAt (leads_from walk.at itype o) to) (sym is) (subst (λ n. MayStandAt n to) (sym one) refl);
      free = λ never. absurd (true≢false (sym never));
      base = g.base;
    }

    to_any : (itype : ℕ) → leads walk.at itype class long ≡ Any → (at : ℕ)
        → MayStandAt (successor words (Retire walk.at itype walk.privilege)) at
    to_any itype any at =
        subst (λ o. MayStandAt (leads_from walk.at itype o) at) (sym is) (subst (λ n. MayStandAt n at) (sym any) tt)

module _ (m : Image) where
  abbrev words : Words
  words = words_of m

  -- The address after an instruction is even.
  even_behind : (at : ℕ) (class : Class) (long : ℕ) → words at ≡ Some (class, long) → (at + long) % 2 ≡ 0
  even_behind at class long is = go (words_stand m at (class, long) is).even (words_stand m at (class, long) is).long
    where
      go : at % 2 ≡ 0 → {F : Type 0} → (long ≡ 2) ⊎ ((long ≡ 4) × F) → (at + long) % 2 ≡ 0
      go even (inl two) = omega (arith, even, two)
      go even (inr four) = let four = four.0 in omega (arith, even, four)

  module _ (before : Option Event) (walk : Walk) (g : MayGoOn words before walk) where
    branched_by : (b : Bool) (to long : ℕ) → words walk.at ≡ Some (Branch to, long)
        → IsStep words before (branches_by b to (walk.at + long) walk)
    branched_by true to long is =
        retired words before walk g (Branch to) long is types.taken _ (inr refl) tt
        (to_one words before walk g (Branch to) long is types.taken to refl refl (even_word m walk.at (Branch to, long) is))
    branched_by false to long is =
        retired words before walk g (Branch to) long is types.not_taken _ (inl refl) tt
        (to_one words before walk g (Branch to) long is types.not_taken (walk.at + long) refl refl
        (even_behind walk.at (Branch to) long is))

    returned : (b : Bool) (ret : Return) (long : ℕ) → words walk.at ≡ Some (TrapReturn ret, long)
        → may_retire_at (TrapReturn ret) walk.privilege ≡ b
        → IsStep words before (returns_by b (TrapReturn ret) walk)
    returned false ret long is test = excepted words before walk g 2 0 (omega arith)
    returned true Mret long is test =
        let level : walk.privilege ≡ 3 = grind (arith, nat_tests) in
        retired words before walk g (TrapReturn Mret) long is types.trap_return _ refl level
        (levelled words (Retire walk.at types.trap_return walk.privilege) walk 3
        (λ draw. subst (λ o. LeadsToPrivilege o walk.privilege (level_of 3 draw)) (sym is) tt)
        (to_any words before walk g (TrapReturn Mret) long is types.trap_return refl) g.base)
    returned true Sret long is test =
        let level : 1 ≤ walk.privilege = grind (arith, nat_tests) in
        retired words before walk g (TrapReturn Sret) long is types.trap_return _ refl level
        (levelled words (Retire walk.at types.trap_return walk.privilege) walk 1
        (λ draw. subst (λ o. LeadsToPrivilege o walk.privilege (level_of 1 draw)) (sym is) (low_level draw))
        (to_any words before walk g (TrapReturn Sret) long is types.trap_return refl) g.base)

  branched : (before : Option Event) (walk : Walk) → MayGoOn words before walk → (to long : ℕ)
      → words walk.at ≡ Some (Branch to, long) → IsStep words before (branches words to (walk.at + long) walk)
  unfolding branches
  branched before walk g to long is =
      let draw = pcg32 walk.random in
      branched_by before (record walk { random = draw.1 }) (redrawn words before walk g draw.1)
      (is_taken words to (walk.at + long) walk.at draw.0) to long is

  module _ (before : Option Event) (walk : Walk) (g : MayGoOn words before walk) where
    -- What comes at an instruction is a step.
    comes : (class : Class) (long : ℕ) → words walk.at ≡ Some (class, long)
        → IsStep words before (comes_at words class (walk.at + long) walk)
    comes Plain long is =
        retired words before walk g Plain long is types.other _ refl tt
        (to_one words before walk g Plain long is types.other (walk.at + long) refl refl
        (even_behind walk.at Plain long is))
    comes (Jump to) long is =
        retired words before walk g (Jump to) long is types.other _ refl tt
        (to_one words before walk g (Jump to) long is types.other to refl refl (even_word m walk.at (Jump to, long) is))
    comes (Branch to) long is = branched before walk g to long is
    comes Uninferable long is =
        retired words before walk g Uninferable long is types.uninferable _ refl tt
        (landed words (Retire walk.at types.uninferable walk.privilege) walk g.level
        (same_level words before walk g Uninferable long is types.uninferable refl)
        (to_any words before walk g Uninferable long is types.uninferable refl) g.base)
    comes (TrapReturn ret) long is =
        returned before walk g (may_retire_at (TrapReturn ret) walk.privilege) ret long is refl
    comes NotRetirable long is = excepted words before walk g (8 + walk.privilege % 4) 0 (omega arith)

    comes_there : (word : Option Word) → words walk.at ≡ word → IsStep words before (comes_where words word walk)
    comes_there None is = excepted words before walk g 1 walk.at (omega arith)
    comes_there (Some word) is = comes word.0 word.1 is

  module _ (before : Option Event) (walk : Walk) (g : MayGoOn words before walk) where
    stepped_by : (b : Bool) → IsStep words before (steps_by words b walk)
    stepped_by true = trapped words before walk g
    stepped_by false = comes_there before walk g (words walk.at) refl

  -- Each event of a walk is a step of a log.
  pub stepped : (before : Option Event) (walk : Walk) → MayGoOn words before walk
      → IsStep words before (steps words walk)
  unfolding steps
  stepped before walk g =
      let draw = pcg32 walk.random in
      stepped_by before (record walk { random = draw.1 }) (redrawn words before walk g draw.1)
      (nat_lt (draw.0 % 65536) (traps_of walk))

-- A hart may begin anywhere.
pub first_goes_on : (words : Words) (extent : Extent) (mix : Mix) (seed hart : ℕ) → extent.base % 2 ≡ 0
    → MayGoOn words None (first_walk extent mix seed hart)
unfolding levels lands
first_goes_on its extent mix seed hart even = record {
  level = level_is 3 _;
  may_level = tt;
  even = even_far extent.base _ even;
  may_stand = tt;
  free = λ is at. tt;
  base = even;
}

-- The first events of a walk are the same, however many come after them.
module _ (words : Words) (start : Walk) where
  pub walked_none : ([], start) ≡ walked words start 0
  unfolding walked
  walked_none = refl

  abbrev on : List Event × Walk → List Event × Walk
  on before = let next = steps words before.1 in (before.0 ++ next.0 ∷ [], next.1)

  walked_suc : (count : ℕ) → on (walked words start count) ≡ walked words start (suc count)
  unfolding walked
  walked_suc count = refl

  -- One event more.
  pub walked_more : (count : ℕ) (seen : List Event) (walk after : Walk) (event : Event)
      → (seen, walk) ≡ walked words start count → (event, after) ≡ steps words walk
      → (seen ++ event ∷ [], after) ≡ walked words start (count + 1)
  walked_more count seen walk after event is next =
      let next_is : count + 1 ≡ suc count = omega arith in
      ap (λ (n : Event × Walk). (seen ++ n.0 ∷ [], n.1)) next ∙ ap on is ∙ walked_suc count
      ∙ ap (walked words start) (sym next_is)

  -- The events of a longer walk begin with those of a shorter.
  pub walked_front : (count more most : ℕ) → most ≡ more + count
      → (rest : List Event) × ((walked words start most).0 ≡ (walked words start count).0 ++ rest)
  walked_front count zero most is =
      let same : most ≡ count = omega (arith, is) in (
        [],
        ap (λ n. (walked words start n).0) same ∙ sym (append-nil (walked words start count).0),
      )
  walked_front count (suc more) most is =
      let last : most ≡ suc (more + count) = omega (arith, is) in
      let before = walked_front count more (more + count) refl in
      let event = (steps words (walked words start (more + count)).1).0 in (
        before.0 ++ event ∷ [],
        ap (λ n. (walked words start n).0) last
            ∙ sym (ap (λ (l : List Event × Walk). l.0) (walked_suc (more + count)))
            ∙ ap (λ l. l ++ event ∷ []) before.1
            ∙ append_assoc (walked words start count).0 before.0 (event ∷ []),
      )

-- A hart gives one event more.
pub walks_on : (m : Image) (start : Walk) (seen : List Event) (hart : Hart) (event : Event) (after : Walk)
    → HasWalked (words_of m) start seen hart → (event, after) ≡ steps (words_of m) hart.walk → Is64Bit event
    → hart.given < most_long_rows
    → HasWalked (words_of m) start (seen ++ event ∷ []) (record { walk = after; given = hart.given + 1 })
walks_on m start seen hart event after has next number room =
    let step : IsStep (words_of m) (last_or None seen) (event, after) =
    subst (IsStep (words_of m) (last_or None seen)) (sym next) (stepped m (last_or None seen) hart.walk has.goes_on) in
    let long : length (seen ++ event ∷ []) ≡ hart.given + 1 = omega (arith, has.counted, length-append seen (event ∷ []))
    in record {
      walked = walked_more (words_of m) start hart.given seen hart.walk after event has.walked next;
      counted = long;
      legal = follow_on_join (words_of m) None seen (event ∷ []) has.legal (step.right, step.follows, tt);
      goes_on = subst (λ last. MayGoOn (words_of m) last after) (sym (last_or-append None seen (event ∷ []))) step.goes_on;
      numbers = All-append Is64Bit seen (event ∷ []) has.numbers (All-cons Is64Bit event [] number (All-nil Is64Bit));
      short = omega (arith, long, room);
    }
