-- The order in which harts send.
use Rattle.std.specs.Prelude.{ℕ, zero, suc, ◌+◌, ◌-◌, ◌%◌, ◌==◌, max, nat_lt, not, Bool, true, false}
use Rattle.std.specs.Prelude.{List, [], ◌++◌, get_or, length, replicate, Option, Some, None}
use Rattle.std.specs.List.{filter}
use Rattle.rand_pcg.specs.Lcg.{Lcg}
use Rattle.rand_pcg.specs.Pcg.{pcg32}
use Rattle.stimulus.specs.ImageBytes.{generator}
use Rattle.stimulus.specs.declared.order.Order.{Order}
use Rattle.stimulus.specs.declared.order.Turn.{Turn}

-- How far an order is drawn.
pub record Drawn : Type 0 where
  pub random : Lcg
  -- The harts that may send, each as often as it weighs.
  pub listed : List ℕ
  -- How many turns of one hart come one after another at most.
  pub burst : ℕ
  -- Of so many bursts one ends a trace, as long as harts may end theirs.
  pub ending : ℕ
  -- How many harts may still end theirs.
  pub ends : ℕ
  -- The hart whose burst it is.
  pub hart : ℕ
  -- How many turns of its burst are left.
  pub left : ℕ

-- What an order draws on from.
abbrev pub drawn_of : {A : Type 0} → Order A → Drawn
drawn_of order = record {
  random = order.random;
  listed = order.listed.items;
  burst = order.bursts.longest;
  ending = order.bursts.ending;
  ends = order.bursts.ends;
  hart = order.hart;
  left = order.left;
}

-- The harts below a count, each as often as it weighs, which is 1 to 4, and the generator after their draws.
unfoldable pub weighed : Lcg → ℕ → List ℕ × Lcg
weighed random zero = ([], random)
weighed random (suc harts) =
    let before = weighed random harts in
    let draw = pcg32 before.1 in
    (before.0 ++ replicate (draw.0 % 4 + 1) harts, draw.1)

-- The order of so many harts, before its first turn.
unfoldable pub first_drawn : ℕ → ℕ → ℕ → ℕ → ℕ → Drawn
first_drawn seed harts burst ending ends =
    let listed = weighed (generator seed 32768) harts in record {
      random = listed.1;
      listed = listed.0;
      burst = burst;
      ending = ending;
      ends = ends;
      hart = 0;
      left = 0;
    }

-- A hart leaves the list, and the burst is over.
unfoldable pub leaves : ℕ → Drawn → Drawn
leaves hart drawn = record drawn { listed = filter (λ other. not (other == hart)) drawn.listed; left = 0 }

-- The hart whose burst is over leaves the list, if that is so, and one hart less may end its trace.
abbrev pub leaves_if : Bool → Drawn → Option ℕ × Drawn
leaves_if true drawn = (Some drawn.hart, leaves drawn.hart (record drawn { ends = drawn.ends - 1 }))
leaves_if false drawn = (None, drawn)

-- A draw says so, where a hart may end its trace.
abbrev pub leaving_by : Bool → Drawn → Option ℕ × Drawn
leaving_by false drawn = (None, drawn)
leaving_by true drawn =
    let draw = pcg32 drawn.random in
    leaves_if (draw.0 % max drawn.ending 1 == 0) (record drawn { random = draw.1 })

-- Whether the hart whose burst is over closes its trace.
unfoldable pub leaving : Drawn → Option ℕ × Drawn
leaving drawn = leaving_by (nat_lt 0 drawn.ends) drawn

-- A burst begins: a draw says which of the list sends, and another how many turns it has after the first.
unfoldable pub begins_burst : Drawn → Drawn
begins_burst drawn =
    let which = pcg32 drawn.random in
    let count = pcg32 which.1 in
    record drawn {
      random = count.1;
      hart = get_or drawn.listed (which.0 % max (length drawn.listed) 1) 0;
      left = count.0 % max drawn.burst 1;
    }

-- The burst goes on, or another begins.
abbrev pub turn_of : Bool → Drawn → Turn × Drawn
turn_of true drawn =
    (record { closing = None; hart = drawn.hart }, record drawn { left = drawn.left - 1 })
turn_of false drawn =
    let after = leaving drawn in
    let next = begins_burst after.1 in
    (record { closing = after.0; hart = next.hart }, next)

-- What comes next, and how far the order is drawn then.
unfoldable pub next_turn : Drawn → Turn × Drawn
next_turn drawn = turn_of (nat_lt 0 drawn.left) drawn
