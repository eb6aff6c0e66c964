-- The trail at the place of the message's hart follows it: by lemmas on lists.
use Rattle.std.proofs.Common.{◌≡◌, ◌-◌, ◌+◌, ◌<◌, ◌∙◌, ℕ, List, Some, ap, arith, false, length, refl, slice_get, sym}
use Rattle.std.proofs.lemmas.Option.{same_Some, slice_get_read}
use Rattle.comparing.specs.Explained.{is_whole_hart}
use Rattle.comparing.specs.declared.trail.Trail.{Trail}
use Rattle.comparing.proofs.FollowedHarts.{set_followed, set_refused}
use Rattle.comparing.proofs.sourcing.follow_message.Goals.{After-follow}
use Rattle.comparing.proofs.sourcing.follow_message.Goals as goal

module _ (g : _) (c : After-follow g) where
  abbrev trails : List Trail
  trails = c.args.trails.now.items

  abbrev place : ℕ
  place = c.from-hart.result - c.args.what.first

  within : place < length trails
  within =
      let counted = c.args.trails.now.ok.0 in
      let not_below = c.if-hart-what.false in
      let not_above = c.if-hart-what-2.false in
      let hart = c.from-hart.ensures in
      let len = c.len.ensures in omega (arith, not_below, not_above, counted, len)

  there : slice_get trails place ≡ Some c.index_mut.result.now
  there = slice_get_read trails (length trails) place c.index_mut.result.now refl within c.index_mut.ensures.value

  hart_is : c.args.what.first + place ≡ c.args.message.now.hart
  hart_is =
      let not_below = c.if-hart-what.false in let hart = c.from-hart.ensures in omega (arith, not_below, hart)

  not_whole : is_whole_hart c.index_mut.result.now.hart ≡ false
  not_whole =
      let read = slice_get_read trails (length trails) place c.index.result.now refl within c.index.ensures in
      ap (λ (trail : Trail). is_whole_hart trail.hart) (same_Some c.index_mut.result.now c.index.result.now (sym there ∙ read))
      ∙ sym c.is_whole.ensures ∙ c.if-is_whole.false

pub returns-clause-followed : goal.returns-clause-followed
returns-clause-followed g c =
    let at = (goal.at.returns-clause-followed g c).After-follow in
    set_followed c.args.what c.args.at c.args.message.now (trails g at) (place g at) c.index_mut.result.now c.follow.new.self
    (there g at) (hart_is g at) c.follow.ensures.hart c.follow.result c.follow.ensures.followed

pub returns-clause-stops : goal.returns-clause-stops
returns-clause-stops g c =
    let at = (goal.at.returns-clause-stops g c).After-follow in
    set_refused c.args.what c.args.at c.args.message.now (trails g at) (place g at) c.index_mut.result.now c.follow.new.self
    (there g at) (hart_is g at) c.follow.ensures.hart c.follow.result (not_whole g at) c.follow.ensures.stops
