-- What a walk keeps between two events.
use Rattle.std.specs.Prelude.{◌≡◌, ℕ, Option, Some, None}
use Rattle.rand_pcg.specs.Lcg.{increment_of}
use Rattle.rvclass.specs.Fetch.{words_of}
use Rattle.rvclass.specs.Image.{Image}
use Rattle.stimulus.specs.Mix.{habits_of}
use Rattle.stimulus.specs.Walk.{extent_of, first_walk, stream_of, walked}
use Rattle.stimulus.specs.declared.mix.Mix.{Mix}
use Rattle.stimulus.specs.declared.walk.Walk.{Walk}
use Rattle.stimulus.specs.declared.walk.WalkState.{WalkState}

-- What a walk keeps. The program, the mix and the hart's number give the rest.
abbrev pub state_of : Walk → WalkState
state_of walk =
    record { random = walk.random.state; at = walk.at; privilege = walk.privilege; is_free = walk.is_free }

-- The walk of the hart of a number, which runs this program and kept this; or before its first event, where it kept
-- nothing.
abbrev pub walk_of : Image → Mix → ℕ → ℕ → Option WalkState → Walk
walk_of program mix seed hart None = first_walk (extent_of program) mix seed hart
walk_of program mix seed hart (Some kept) = record {
  extent = extent_of program;
  habits = habits_of mix;
  random = record { state = kept.random; increment = increment_of 64 (stream_of hart) };
  at = kept.at;
  privilege = kept.privilege;
  is_free = kept.is_free;
}

-- A walk is that of a hart which runs this program and has given so many events.
abbrev pub HasGone : Image → Mix → ℕ → ℕ → ℕ → Walk → Type 0
HasGone program mix seed hart count walk =
    walk ≡ (walked (words_of program) (first_walk (extent_of program) mix seed hart) count).1
