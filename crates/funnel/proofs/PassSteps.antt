-- The steps at the views that ports and the outlet know.
use Rattle.std.proofs.Common.{◌≡◌, ◌+◌, ◌<◌, nat_le, ℕ, Bool, true, false, List, [], ◌∷◌, ◌++◌, length, Option}
use Rattle.std.proofs.Common.{Some, sym, refl, ap, ◌∙◌, subst, arith, length-append}
use Rattle.std.proofs.lemmas.Bool.Decides.{nat_tests}
use Rattle.atomic_table.specs.declared.badge.Badge.{Badge}
use Rattle.crossbeam_channel.specs.Claims.{IsSeatAt, Pass}
use Rattle.crossbeam_channel.specs.Fifo.{Pushes, Pops, Forks, Merges, Learns}
use Rattle.crossbeam_channel.specs.declared.flavors.array.Doing.{Doing}
use Rattle.crossbeam_channel.specs.declared.flavors.array.Key.{Key}
use Rattle.crossbeam_channel.specs.declared.flavors.array.Rows.{Rows}
use Rattle.payload.specs.Closing.{is_closing}
use Rattle.message.specs.OfHart.{of_hart}
use Rattle.message.specs.declared.message.Message.{Message}
use Rattle.funnel.specs.declared.rule.View.{View}
use Rattle.funnel.specs.declared.rule.View.TheVariants as V
use Rattle.funnel.specs.Limits.{most_messages}
use Rattle.funnel.specs.Order.{AreInOrder}
use Rattle.funnel.specs.Rule.{Kept, handed_out, next_port, after_taking_in, TookInOrder, TakesOne, Compares, SendsOn}
use Rattle.funnel.specs.Rule.{SendsLast}
use Rattle.funnel.specs.Ends.{has_closing, is_finished}
use Rattle.funnel.specs.steps.Passes.{IsPort, IsOutlet, knows, sent_of, taken_by_outlet}
use Rattle.funnel.specs.steps.Sending.{MaySend}
use Rattle.funnel.proofs.OrderLemmas.{or_false, none_closes, has_closing-next}
use Rattle.funnel.proofs.RuleSteps.{sends_on, sends_last, takes, takes_in_order, forks, merges, learns}

-- Nothing is learned.
abbrev Nothing : List Message → Type 0
Nothing queue = Unit {0}

few_sent : (sent : List Message) → is_finished sent ≡ false → length sent < most_messages
few_sent sent unfinished =
    let t = (or_false (has_closing sent) (nat_le most_messages (length sent)) unfinished).1 in grind (arith, nat_tests)

none_sent : (sent : List Message) → is_finished sent ≡ false → has_closing sent ≡ false
none_sent sent unfinished = (or_false (has_closing sent) (nat_le most_messages (length sent)) unfinished).0

pub may_send : (n pass : ℕ) (v : View) (x : Message) → IsPort x.hart v → x.number ≡ length (sent_of v)
    → is_finished (sent_of v) ≡ false → is_closing x.payload ≡ false
    → Pushes Kept n pass v x (SendsOn v x) × Learns Kept pass v Nothing
may_send n pass v x is number unfinished closing =
    let sent = sent_of v in
    let P : View → Type 0 = λ u. Pushes Kept n pass u x (SendsOn u x) in (
      subst P (sym is)
          (sends_on n pass sent x number (none_closes sent (none_sent sent unfinished)) (few_sent sent unfinished)
          closing),
      λ items views k at. tt,
    )

pub may_send_last : (n pass : ℕ) (v : View) (x : Message) → IsPort x.hart v → x.number ≡ length (sent_of v)
    → is_finished (sent_of v) ≡ false → is_closing x.payload ≡ true
    → Pushes Kept n pass v x (SendsLast v x) × Learns Kept pass v Nothing
may_send_last n pass v x is number unfinished closing =
    let sent = sent_of v in
    let P : View → Type 0 = λ u. Pushes Kept n pass u x (SendsLast u x) in (
      subst P (sym is)
          (sends_last n pass sent x number (none_closes sent (none_sent sent unfinished)) (few_sent sent unfinished)
          closing),
      λ items views k at. tt,
    )

pub may_take : (pass made : ℕ) (v : View) → IsOutlet made v
    → Pops Kept pass v (TakesOne v) × Learns Kept pass v (λ _. TookInOrder v)
may_take pass made v is =
    let P : View → Type 0 = λ u. Pops Kept pass u (TakesOne u) × Learns Kept pass u (λ _. TookInOrder u) in
    subst P (sym is.is) (
      takes pass made (taken_by_outlet v) is.settled is.list,
      takes_in_order pass made (taken_by_outlet v) is.settled is.list,
    )

pub outlet_is : (v : View) (made : ℕ) (t : List Message) (u : Option ℕ) (l : List Message) → v ≡ V.Outlet made t u l
    → IsOutlet made v × (taken_by_outlet v ≡ t)
outlet_is v made t u l e =
    let P : View → Type 0 = λ x. IsOutlet made x × (taken_by_outlet x ≡ t) in
    subst P (sym e) (record { settled = u; list = l; is = refl }, refl)

-- A port with no closing payload and not the most messages is not finished.
pub is_unfinished : (sent : List Message) → has_closing sent ≡ false → length sent < most_messages
    → is_finished sent ≡ false
is_unfinished sent none few =
    let room : nat_le most_messages (length sent) ≡ false = grind (arith, nat_tests) in
    rw (none, room) refl

-- A pass that learned nothing may send a message that came back.
pub still_may : {Q M L A : Type 0}
    (channel : Rows (Badge (Key Message)) (Doing Message View) Q M (Key Message) L A)
    (old new : Pass Message View) (message back : Message) (closing : Bool)
    → MaySend channel old message closing → IsSeatAt channel new → knows new ≡ knows old → back ≡ message
    → MaySend channel new back closing
still_may channel old new message back closing may seat same is = record {
  closing_is = may.closing_is ∙ ap (λ (m : Message). is_closing m.payload) (sym is);
  seat = seat;
  port = rw (same, is) may.port;
  number = rw (same, is) may.number;
  unfinished = rw same may.unfinished;
}

-- The outlet's view once it took a message.
pub took : (v : View) (made : ℕ) (message : Message) (w : View) → IsOutlet made v → TakesOne v message w
    → IsOutlet made w × (taken_by_outlet w ≡ taken_by_outlet v ++ message ∷ []) × TookInOrder w
took v made message w is step =
    let now = subst (λ u. TakesOne u message w) is.is step in
    let known = outlet_is w made _ _ _ now.0 in
    (known.0, known.1, now.4)

-- What the outlet's view knows to be taken is in order.
pub took_in_order : (v : View) (made : ℕ) → IsOutlet made v → TookInOrder v
    → (hart : ℕ) → AreInOrder hart (of_hart hart (taken_by_outlet v))
took_in_order v made is order = subst TookInOrder is.is order

pub may_hand_out : (pass made : ℕ) (v : View) → IsOutlet made v → Forks Kept pass v (handed_out v) (next_port v)
may_hand_out pass made v is =
    let P : View → Type 0 = λ u. Forks Kept pass u (handed_out u) (next_port u) in
    subst P (sym is.is) (forks pass made (taken_by_outlet v) is.settled is.list)

pub may_take_in : (pass made : ℕ) (v : View) (other h : ℕ) (w : View) → IsOutlet made v → IsPort h w
    → Merges Kept pass v other w (after_taking_in v w) V.Spent
may_take_in pass made v other h w is port =
    let P : View → View → Type 0 = λ u t. Merges Kept pass u other t (after_taking_in u t) V.Spent in
    let Q : View → Type 0 = λ u. P u (V.Port h (sent_of w)) in
    let R : View → Type 0 = λ t. P v t in
    subst R (sym port)
    (subst Q (sym is.is) (merges pass made (taken_by_outlet v) is.settled is.list other h (sent_of w)))

pub may_compare : (pass : ℕ) (v : View) (made : ℕ) → IsOutlet made v → Learns Kept pass v (Compares v)
may_compare pass v made is =
    let P : View → Type 0 = λ u. Learns Kept pass u (Compares u) in
    subst P (sym is.is) (learns pass made (taken_by_outlet v) is.settled is.list)

-- The outlet's view once it took in a port.
pub taken_in_is : (made : ℕ) (v : View) (h : ℕ) (w : View) → IsOutlet made v → IsPort h w
    → after_taking_in v w ≡ V.Outlet made (taken_by_outlet v) (Some h) (sent_of w)
taken_in_is made v h w is port = λ i. after_taking_in (is.is i) (port i)

-- What the outlet learns of the port that it took in.
pub compared : (u : View) (made : ℕ) (t : List Message) (h : ℕ) (s : List Message) (items : List Message)
    → u ≡ V.Outlet made t (Some h) s → Compares u items
    → (s ≡ of_hart h t ++ of_hart h items) × AreInOrder h s × (h < made)
compared u made t h s items e c = let P : View → Type 0 = λ v. Compares v items in subst P e c h refl

pub port_is : (v : View) (h : ℕ) (s : List Message) → v ≡ V.Port h s → IsPort h v × (sent_of v ≡ s)
port_is v h s e = let P : View → Type 0 = λ x. IsPort h x × (sent_of x ≡ s) in subst P (sym e) (refl, refl)

-- A port's count of what it sent, with one more.
pub count_next : (after before : List Message) (x : Message) (n : ℕ) → after ≡ before ++ x ∷ [] → n ≡ length before
    → n + 1 ≡ length after
count_next after before x n e count = let k = ap length e in omega (arith, length-append before (x ∷ []))

-- Whether a port is closed, with one more.
pub closed_next : (after before : List Message) (x : Message) (closing : Bool) → after ≡ before ++ x ∷ []
    → has_closing before ≡ false → closing ≡ is_closing x.payload → closing ≡ has_closing after
closed_next after before x closing e unfinished is = is ∙ sym (ap has_closing e ∙ has_closing-next before x unfinished)
