-- Each step keeps the rule, whatever the number of ports.
use Rattle.std.proofs.Common.{◌≡◌, ◌≢◌, ◌⊎◌, ◌+◌, ◌<◌, ◌≤◌, ℕ, zero, suc, true, false, List, [], ◌∷◌, ◌++◌, length}
use Rattle.std.proofs.Common.{set, Option, Some, None, slice_get, sym, refl, ap, ◌∙◌, subst, inl, inr, ⊎_elim}
use Rattle.std.proofs.Common.{append_assoc, arith, length-append}
use mathlib.Core.Option.{some, some-ne-none}
use lib.ListN.{get_elem?}
use mathlib.Core.Logic.{dite}
use native.Mathlib.Decide.{dec_le}
use Rattle.atomic_table.proofs.Lists.{at_set, set_else, at_longer}
use Rattle.std.proofs.lemmas.Option.{slice_get_within}
use Rattle.std.proofs.lemmas.Bool.Decides.{eqb_tells}
use Rattle.crossbeam_channel.specs.Fifo.{Pushes, Pops, Forks, Merges, Learns}
use Rattle.payload.specs.Closing.{is_closing}
use Rattle.message.specs.OfHart.{of_hart}
use Rattle.message.proofs.Elements.{slice_get-behind, slice_get-some}
use Rattle.message.proofs.OfHartLemmas.{of_hart-append, of_hart-own, of_hart-next, of_hart-other}
use Rattle.message.specs.declared.message.Message.{Message}
use Rattle.funnel.specs.declared.rule.View.{View}
use Rattle.funnel.specs.declared.rule.View.TheVariants as V
use Rattle.funnel.specs.Limits.{most_messages}
use Rattle.funnel.specs.Order.{AreInOrder}
use Rattle.funnel.specs.Rule.{MayKnow, Kept, newborn, TookInOrder, TakesOne, Compares, SendsOn, SendsLast}
use Rattle.funnel.proofs.Places.{get_elem-next, slice_get-front}
use Rattle.funnel.proofs.OrderLemmas.{NoneCloses, in_order-front, in_order-next}

abbrev All : (ℕ → View → Type 0) → List View → Type 0
All F views = (p : ℕ) (v : View) → get_elem? views p ≡ some v → F p v

all_set : (F : ℕ → View → Type 0) (views : List View) (p : ℕ) (w : View) → F p w
    → ((j : ℕ) (u : View) → j ≢ p → get_elem? views j ≡ some u → F j u) → All F (set views p w)
all_set F views p w mine others j u e =
    ⊎_elim (λ (x : (j ≡ p) × (w ≡ u)). subst (λ (y : ℕ × View). F y.0 y.1) (λ i. (sym x.0 i, x.1 i)) mine)
    (λ (x : (j ≢ p) × (get_elem? views j ≡ some u)). others j u x.0 x.1) (at_set views p j w u e)

-- A view that was taken in is no live one.
not_a_port : (views : List View) (p q h : ℕ) (s : List Message) → get_elem? views p ≡ some V.Spent
    → get_elem? views q ≡ some (V.Port h s) → p ≢ q
not_a_port views p q h s gone at same =
    let z : get_elem? views p ≡ get_elem? views q = ap (get_elem? views) same in
    let y : some V.Spent ≡ some (V.Port h s) = sym gone ∙ z ∙ at in cc

not_the_outlet : (views : List View) (p q made : ℕ) (taken : List Message) (settled : Option ℕ) (list : List Message)
    → get_elem? views p ≡ some V.Spent → get_elem? views q ≡ some (V.Outlet made taken settled list) → p ≢ q
not_the_outlet views p q made taken settled list gone at same =
    let z : get_elem? views p ≡ get_elem? views q = ap (get_elem? views) same in
    let y : some V.Spent ≡ some (V.Outlet made taken settled list) = sym gone ∙ z ∙ at in cc

-- A new channel keeps the rule with the outlet's view alone.
pub begins : Kept [] (newborn ∷ [])
begins = record {
  outlet = 0;
  seats = [];
  taken = [];
  settled = None;
  list = [];
  may_know = λ p v e. ⊎_elim (λ (t : get_elem? [] p ≡ some v). absurd (some-ne-none v (sym t)))
      (λ (t : (p ≡ 0) × (newborn ≡ v)). subst (MayKnow 0 [] [] None [] [] p) t.1 (t.0, refl, refl, refl, refl))
      (get_elem-next [] newborn v p e);
  in_order = λ h. record { numbered = λ n m e. cc; closes_last = λ n payload e c. cc };
  few = λ h. omega arith;
  strangers = λ h _. refl;
  settled_spent = λ h p e _. cc;
  settled_made = λ h e. cc;
}

-- A view that another port's send leaves as it was: what its pass may know is the same.
stays : (o : ℕ) (seats : List ℕ) (t : List Message) (settled : Option ℕ) (l : List Message) (items more : List Message)
    (p pass h : ℕ) (v : View) → slice_get seats h ≡ Some pass → p ≢ pass
    → ((j : ℕ) → j ≢ h → of_hart j (t ++ more) ≡ of_hart j (t ++ items))
    → MayKnow o seats t settled l items p v → MayKnow o seats t settled l more p v
stays o seats t settled l items more p pass h (V.Outlet m a b c) seat other same f = f
stays o seats t settled l items more p pass h (V.Port g s) seat other same f = (
  f.0,
  f.1 ∙ sym (same g (λ (e : g ≡ h). other
      (let x = f.0 in let y : slice_get seats g ≡ slice_get seats h = ap (slice_get seats) e in cc))),
)
stays o seats t settled l items more p pass h V.Spent seat other same f = tt

-- A port that knows what it sent may send the next message, unless it is finished.
pub pushes : (n pass : ℕ) (s : List Message) (x : Message) → x.number ≡ length s → NoneCloses s
    → length s < most_messages → Pushes Kept n pass (V.Port x.hart s) x (λ w. w ≡ V.Port x.hart (s ++ x ∷ []))
pushes n pass s x number none room items views _ k at =
    let h = x.hart in
    let w = V.Port h (s ++ x ∷ []) in
    let mine : (slice_get k.seats h ≡ Some pass) × (s ≡ of_hart h (k.taken ++ items)) =
    k.may_know pass (V.Port h s) at in
    let more = items ++ x ∷ [] in
    let assoc : k.taken ++ more ≡ (k.taken ++ items) ++ x ∷ [] = sym (append_assoc k.taken items (x ∷ [])) in
    let here : of_hart h (k.taken ++ more) ≡ s ++ x ∷ [] =
    ap (of_hart h) assoc ∙ of_hart-next (k.taken ++ items) x ∙ ap (λ l. l ++ x ∷ []) (sym mine.1) in
    let others : (j : ℕ) → j ≢ h → of_hart j (k.taken ++ more) ≡ of_hart j (k.taken ++ items) =
    λ j n. ap (of_hart j) assoc ∙ of_hart-other j (k.taken ++ items) x (λ e. n (sym e)) in
    let order : AreInOrder h s = subst (AreInOrder h) (sym mine.1) (k.in_order h) in
    let made : h < length k.seats = slice_get_within k.seats h pass mine.0 in
    let apart : (g p : ℕ) → k.settled ≡ Some g → slice_get k.seats g ≡ Some p → (p ≢ pass) × (g ≢ h) = λ g p t e.
    let away : p ≢ pass = not_a_port views p pass h s (k.settled_spent g p t e).0 at in (
      away,
      λ (q : g ≡ h). away
          (let z : slice_get k.seats g ≡ slice_get k.seats h = ap (slice_get k.seats) q in let m = mine.0 in cc),
    ) in (
      w,
      record {
        outlet = k.outlet;
        seats = k.seats;
        taken = k.taken;
        settled = k.settled;
        list = k.list;
        may_know = all_set (MayKnow k.outlet k.seats k.taken k.settled k.list more) views pass w (mine.0, sym here)
            (λ j u other e.
            stays k.outlet k.seats k.taken k.settled k.list items more j pass h u mine.0 other others
            (k.may_know j u e));
        in_order = λ j. ⊎_elim
            (λ (t : _ × (j ≡ h)). subst (λ i. AreInOrder i (of_hart i (k.taken ++ more))) (sym t.1)
            (subst (AreInOrder h) (sym here) (in_order-next s x order none number)))
            (λ (t : _ × (j ≢ h)). subst (AreInOrder j) (sym (others j t.1)) (k.in_order j)) (eqb_tells j h);
        few = λ j. ⊎_elim
            (λ (t : _ × (j ≡ h)). let e = ap length here in let same =
            ap (λ i. length (of_hart i (k.taken ++ more))) t.1 in
            omega (arith, length-append s (x ∷ [])))
            (λ (t : _ × (j ≢ h)). let e = ap length (others j t.1) in let f = k.few j in omega arith) (eqb_tells j h);
        strangers = λ j past. others j (λ e. absurd (omega arith)) ∙ k.strangers j past;
        settled_spent = λ g p t e. let a = apart g p t e in let old = k.settled_spent g p t e in
            (set_else views pass p w a.0 ∙ old.0, old.1 ∙ sym (others g a.1));
        settled_made = k.settled_made;
      },
      refl,
    )

pub sends_on : (n pass : ℕ) (s : List Message) (x : Message) → x.number ≡ length s → NoneCloses s
    → length s < most_messages → is_closing x.payload ≡ false
    → Pushes Kept n pass (V.Port x.hart s) x (SendsOn (V.Port x.hart s) x)
sends_on n pass s x number none room last items views r k at =
    let p = pushes n pass s x number none room items views r k at in (p.0, p.1, (p.2, last))

pub sends_last : (n pass : ℕ) (s : List Message) (x : Message) → x.number ≡ length s → NoneCloses s
    → length s < most_messages → is_closing x.payload ≡ true
    → Pushes Kept n pass (V.Port x.hart s) x (SendsLast (V.Port x.hart s) x)
sends_last n pass s x number none room last items views r k at =
    let p = pushes n pass s x number none room items views r k at in (p.0, p.1, (p.2, last))

-- A view that a take leaves as it was: what its pass may know is the same.
passed_by : (o : ℕ) (seats : List ℕ) (t u : List Message) (settled : Option ℕ) (l : List Message)
    (items more : List Message)
    (p : ℕ) (v : View) → p ≢ o → u ++ more ≡ t ++ items → MayKnow o seats t settled l items p v
    → MayKnow o seats u settled l more p v
passed_by o seats t u settled l items more p (V.Outlet m a b c) other same f = absurd (other f.0)
passed_by o seats t u settled l items more p (V.Port g s) other same f = (f.0, f.1 ∙ ap (of_hart g) (sym same))
passed_by o seats t u settled l items more p V.Spent other same f = tt

below_or : (a b : ℕ) → (a < b) ⊎ (b ≤ a)
below_or a b = dite (dec_le b a) (λ h. inr h) (λ n. inl (omega arith))

-- The outlet may take the front message, which is the next of its hart.
pub takes : (pass made : ℕ) (taken : List Message) (settled : Option ℕ) (list : List Message)
    → Pops Kept pass (V.Outlet made taken settled list) (TakesOne (V.Outlet made taken settled list))
takes pass made taken settled list x items views k at =
    let h = x.hart in
    let v = V.Outlet made taken settled list in
    let w = V.Outlet made (taken ++ x ∷ []) settled list in
    let mine = k.may_know pass v at in
    let now = taken ++ x ∷ [] in
    let same : now ++ items ≡ k.taken ++ x ∷ items =
    append_assoc taken (x ∷ []) items ∙ ap (λ l. l ++ x ∷ items) mine.2 in
    let front : of_hart h (k.taken ++ x ∷ items) ≡ of_hart h taken ++ x ∷ of_hart h items =
    of_hart-append h k.taken (x ∷ items) ∙ ap (λ l. of_hart h k.taken ++ l) (of_hart-own x items)
    ∙ ap (λ l. of_hart h l ++ x ∷ of_hart h items) (sym mine.2) in
    let order : AreInOrder h (of_hart h taken ++ x ∷ of_hart h items) = subst (AreInOrder h) front (k.in_order h) in
    let number : x.number ≡ length (of_hart h taken) =
    (order.numbered (length (of_hart h taken)) x (slice_get-behind (of_hart h taken) x (of_hart h items))).1 in
    let below : x.number < most_messages =
    let f = k.few h in let e = ap length front in
    omega (arith, length-append (of_hart h taken) (x ∷ of_hart h items)) in
    let known : h < made = ⊎_elim (λ (t : h < length k.seats). let m = mine.1 in omega arith)
    (λ (t : length k.seats ≤ h). let gone = sym front ∙ k.strangers h t in absurd
    (let e = ap length gone in omega (arith, length-append (of_hart h taken) (x ∷ of_hart h items))))
    (below_or h (length k.seats)) in
    let ordered : TookInOrder w = λ j. in_order-front j (of_hart j now) (of_hart j items)
    (subst (AreInOrder j) (ap (of_hart j) (sym same) ∙ of_hart-append j now items) (k.in_order j)) in (
      w,
      record {
        outlet = k.outlet;
        seats = k.seats;
        taken = now;
        settled = k.settled;
        list = k.list;
        may_know =
            all_set (MayKnow k.outlet k.seats now k.settled k.list items) views pass w
            (mine.0, mine.1, refl, mine.3, mine.4)
            (λ j u other e. passed_by k.outlet k.seats k.taken now k.settled k.list (x ∷ items) items j u
            (λ q. other (q ∙ sym mine.0)) same (k.may_know j u e));
        in_order = λ j. subst (AreInOrder j) (sym (ap (of_hart j) same)) (k.in_order j);
        few = λ j. let e = ap (λ l. length (of_hart j l)) same in let f = k.few j in omega arith;
        strangers = λ j past. ap (of_hart j) same ∙ k.strangers j past;
        settled_spent = λ g p t e. let old = k.settled_spent g p t e in (
          set_else views pass p w (not_the_outlet views p pass made taken settled list old.0 at) ∙ old.0,
          old.1 ∙ sym (ap (of_hart g) same),
        );
        settled_made = k.settled_made;
      },
      (refl, number, known, below, ordered),
    )

-- The outlet may learn that what it took is in order.
pub takes_in_order : (pass made : ℕ) (taken : List Message) (settled : Option ℕ) (list : List Message)
    → Learns Kept pass (V.Outlet made taken settled list) (λ _. TookInOrder (V.Outlet made taken settled list))
takes_in_order pass made taken settled list items views k at hart =
    let mine = k.may_know pass (V.Outlet made taken settled list) at in
    in_order-front hart (of_hart hart taken) (of_hart hart items)
    (subst (AreInOrder hart) (ap (λ t. of_hart hart (t ++ items)) (sym mine.2) ∙ of_hart-append hart taken items)
    (k.in_order hart))

-- A view that the hand-out of a port leaves as it was: what its pass may know is the same.
kept_by : (o : ℕ) (seats : List ℕ) (t : List Message) (settled : Option ℕ) (l : List Message) (items : List Message)
    (new p : ℕ) (v : View) → p ≢ o → MayKnow o seats t settled l items p v
    → MayKnow o (seats ++ new ∷ []) t settled l items p v
kept_by o seats t settled l items new p (V.Outlet m a b c) other f = absurd (other f.0)
kept_by o seats t settled l items new p (V.Port g s) other f = (slice_get-front seats (new ∷ []) g p f.0, f.1)
kept_by o seats t settled l items new p V.Spent other f = tt

-- The outlet may hand out the next port.
pub forks : (pass made : ℕ) (taken : List Message) (settled : Option ℕ) (list : List Message)
    → Forks Kept pass (V.Outlet made taken settled list) (V.Outlet (made + 1) taken settled list) (V.Port made [])
forks pass made taken settled list items views k at =
    let v = V.Outlet made taken settled list in
    let left = V.Outlet (made + 1) taken settled list in
    let right = V.Port made [] in
    let mine = k.may_know pass v at in
    let cut = set views pass left in
    let new = length cut in
    let seats = k.seats ++ new ∷ [] in
    let F : ℕ → View → Type 0 = MayKnow k.outlet seats k.taken k.settled k.list items in
    let count : made + 1 ≡ length seats = let m = mine.1 in omega (arith, length-append k.seats (new ∷ [])) in
    let empty : of_hart made (k.taken ++ items) ≡ [] = k.strangers made (let m = mine.1 in omega arith) in
    let old : All F cut = all_set F views pass left (mine.0, count, mine.2, mine.3, mine.4)
    (λ j u other e. kept_by k.outlet k.seats k.taken k.settled k.list items new j u
    (λ q. other (q ∙ sym mine.0)) (k.may_know j u e)) in
    record {
      outlet = k.outlet;
      seats = seats;
      taken = k.taken;
      settled = k.settled;
      list = k.list;
      may_know = λ p u e. ⊎_elim (λ (t : get_elem? cut p ≡ some u). old p u t)
          (λ (t : (p ≡ new) × (right ≡ u)). subst (F p) t.1
          (ap (slice_get seats) mine.1 ∙ slice_get-behind k.seats new [] ∙ ap Some (sym t.0), sym empty))
          (get_elem-next cut right u p e);
      in_order = k.in_order;
      few = k.few;
      strangers = λ j past. k.strangers j (omega (arith, length-append k.seats (new ∷ [])));
      settled_spent = λ g p t e. let known = slice_get-some k.seats g (k.settled_made g t) in
          let here : slice_get seats g ≡ Some known.0 = slice_get-front k.seats (new ∷ []) g known.0 known.1 in
          let q : known.0 ≡ p = cc in
          let was = k.settled_spent g p t (known.1 ∙ ap Some q) in (
            at_longer cut (right ∷ []) p V.Spent
                (set_else views pass p left (not_the_outlet views p pass made taken settled list was.0 at) ∙ was.0),
            was.1,
          );
      settled_made = λ g t. let b = k.settled_made g t in omega (arith, length-append k.seats (new ∷ []));
    }

-- A view that taking in another port leaves as it was: what its pass may know is the same.
beside : (o : ℕ) (seats : List ℕ) (t : List Message) (settled settled' : Option ℕ) (l l' : List Message)
    (items : List Message)
    (p : ℕ) (v : View) → p ≢ o → MayKnow o seats t settled l items p v → MayKnow o seats t settled' l' items p v
beside o seats t settled settled' l l' items p (V.Outlet m a b c) other f = absurd (other f.0)
beside o seats t settled settled' l l' items p (V.Port g s) other f = f
beside o seats t settled settled' l l' items p V.Spent other f = tt

pub set_there : (l : List View) (i : ℕ) (a b : View) → get_elem? l i ≡ some a → get_elem? (set l i b) i ≡ some b
set_there [] i a b e = absurd (some-ne-none a (sym e))
set_there (x ∷ xs) zero a b e = refl
set_there (x ∷ xs) (suc i) a b e = set_there xs i a b e

-- The outlet may take in a port, whose list it notes.
pub merges : (pass made : ℕ) (taken : List Message) (settled : Option ℕ) (list : List Message) (other h : ℕ)
    (s : List Message)
    → Merges Kept pass (V.Outlet made taken settled list) other (V.Port h s) (V.Outlet made taken (Some h) s) V.Spent
merges pass made taken settled list other h s items views k at two at' =
    let v = V.Outlet made taken settled list in
    let both = V.Outlet made taken (Some h) s in
    let mine = k.may_know pass v at in
    let cut = set views pass both in
    let was : get_elem? views other ≡ some (V.Port h s) = sym (set_else views pass other both two) ∙ at' in
    let theirs = k.may_know other (V.Port h s) was in
    let F : ℕ → View → Type 0 = MayKnow k.outlet k.seats k.taken (Some h) s items in
    let now : All F cut = all_set F views pass both (mine.0, mine.1, mine.2, refl, refl)
    (λ j u apart e. beside k.outlet k.seats k.taken k.settled (Some h) k.list s items j u
    (λ q. apart (q ∙ sym mine.0)) (k.may_know j u e)) in
    record {
      outlet = k.outlet;
      seats = k.seats;
      taken = k.taken;
      settled = Some h;
      list = s;
      may_know = all_set F cut other V.Spent tt (λ j u apart e. now j u e);
      in_order = k.in_order;
      few = k.few;
      strangers = k.strangers;
      settled_spent = λ g p t e. let same : h ≡ g = cc in
          let here : slice_get k.seats h ≡ Some p = ap (slice_get k.seats) same ∙ e in
          let seat = theirs.0 in
          let place : other ≡ p = cc in (
            ap (get_elem? (set cut other V.Spent)) (sym place) ∙ set_there cut other (V.Port h s) V.Spent at',
            theirs.1 ∙ ap (λ i. of_hart i (k.taken ++ items)) same,
          );
      settled_made = λ g t. let same : h ≡ g = cc in let b = slice_get_within k.seats h other theirs.0 in omega arith;
    }

-- The outlet may learn what the port that it took in sent.
pub learns : (pass made : ℕ) (taken : List Message) (settled : Option ℕ) (list : List Message)
    → Learns Kept pass (V.Outlet made taken settled list) (Compares (V.Outlet made taken settled list))
learns pass made taken settled list items views k at h is =
    let mine = k.may_know pass (V.Outlet made taken settled list) at in
    let settled_now : k.settled ≡ Some h = sym mine.3 ∙ is in
    let seat = slice_get-some k.seats h (k.settled_made h settled_now) in
    let known : k.list ≡ of_hart h (k.taken ++ items) = (k.settled_spent h seat.0 settled_now seat.1).1 in
    let whole : list ≡ of_hart h (taken ++ items) = mine.4 ∙ known ∙ ap (λ t. of_hart h (t ++ items)) (sym mine.2) in (
      whole ∙ of_hart-append h taken items,
      subst (AreInOrder h) (sym (mine.4 ∙ known)) (k.in_order h),
      (let b = k.settled_made h settled_now in let m = mine.1 in omega arith),
    )
