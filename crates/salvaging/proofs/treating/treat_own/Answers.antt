-- The hart's messages and its count are read at its number.
use Rattle.std.proofs.Common.{◌≡◌, ◌+◌, length, refl, slice_index_or, slice_set, sym, ap, subst}
use Rattle.std.specs.List.Sorted.{IsPermutation}
use Rattle.std.proofs.lemmas.Option.{slice_get_read}
use Rattle.salvaging.specs.steps.Arrivals.{AreOrdered, arrivals_in, placed_from}
use Rattle.salvaging.specs.steps.Rows.{AreRowsBack}
use Rattle.salvaging.proofs.treating.treat_own.Goals as goal

pub returns : goal.returns
returns g c =
    let sorted = c.args.sorted.now in
    let counts = c.args.counts.now.items in
    let hart = c.args.message.now.hart in
    let own = c.index-sorted-hart.result in
    let place = c.index-place.result.now in
    let came = c.as_slice.ensures.value in
    let rows = c.as_slice-2.ensures.value in
    record {
      own = own;
      own_is = slice_get_read sorted (length sorted) hart own refl c.requires.known
          (subst (λ n. own ≡ slice_index_or sorted n own) c.from-hart.ensures c.index-sorted-hart.is);
      place = place;
      place_is = slice_get_read counts (length counts) hart place refl c.requires.counted
          (subst (λ n. place ≡ slice_index_or counts n place) c.from-hart.ensures c.index-place.ensures);
      counted = ap (λ n. slice_set counts n (place + 1)) c.from-hart.ensures;
      treats = λ messages all permuted ordered back rising among here.
          c.treated_at.ensures messages all
          (subst (λ l. IsPermutation (placed_from 0 messages) (arrivals_in l)) (sym came) permuted)
          (subst (λ l. AreOrdered (arrivals_in l)) (sym came) ordered) (subst (AreRowsBack all) (sym rows) back) rising
          among here;
    }
