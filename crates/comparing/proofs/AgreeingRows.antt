-- The rows before the first difference are the same in both lists.
use Rattle.std.proofs.Common.{◌≡◌, ◌≢◌, ◌∙◌, ◌≤◌, ℕ, suc, Bool, true, false, true≢false, List, [], ◌∷◌, Some, ap}
use Rattle.std.proofs.Common.{arith, drop, length, refl, slice_get, sym, take, take-append-drop}
use Rattle.std.proofs.lemmas.List.{length-take-le}
use Rattle.std.proofs.lemmas.Option.{same_Some}
use Rattle.std.specs.Prelude.{if◌then◌else◌}
use Rattle.retire.specs.declared.event.Event.{Event}
use Rattle.bench.specs.Verdict.{count_alike, is_alike}
use Rattle.comparing.specs.Agreeing.{AgreeBefore}
use Rattle.comparing.specs.RowsAbout.{row_before}
use Rattle.comparing.proofs.AlikePieces.{alike_few, alike_within}
use Rattle.comparing.proofs.EqualLogs.{event_same, same_event}
use Rattle.comparing.proofs.RowsMoved.{row_stays}

-- The first rows, as many as are alike.
first_same : (decoded log : List Event)
    → take (count_alike decoded log) decoded ≡ take (count_alike decoded log) log
first_same [] log = refl
first_same (event ∷ decoded) [] = refl
first_same (event ∷ decoded) (row ∷ log) =
    go (count_alike decoded log) (is_alike event row) refl (first_same decoded log)
  where
    go : (n : ℕ) (alike : Bool) → is_alike event row ≡ alike → take n decoded ≡ take n log
        → take (if alike then suc n else 0) (event ∷ decoded) ≡ take (if alike then suc n else 0) (row ∷ log)
    go n true is rest =
        ap (λ one. one ∷ take n decoded) (same_event event row is) ∙ ap (λ others. row ∷ others) rest
    go n false is rest = refl

-- The rows there are not alike.
not_alike : (decoded log : List Event) (event row : Event) → slice_get decoded (count_alike decoded log) ≡ Some event
    → slice_get log (count_alike decoded log) ≡ Some row → is_alike event row ≡ false
not_alike [] log event row a b = cc
not_alike (first ∷ decoded) [] event row a b = cc
not_alike (first ∷ decoded) (other ∷ log) event row a b =
    go (count_alike decoded log) (is_alike first other) refl (not_alike decoded log event row) a b
  where
    go : (n : ℕ) (alike : Bool) → is_alike first other ≡ alike
        → (slice_get decoded n ≡ Some event → slice_get log n ≡ Some row → is_alike event row ≡ false)
        → slice_get (first ∷ decoded) (if alike then suc n else 0) ≡ Some event
        → slice_get (other ∷ log) (if alike then suc n else 0) ≡ Some row → is_alike event row ≡ false
    go n true is rest a b = rest a b
    go n false is rest a b =
        ap (λ one. is_alike one row) (sym (same_Some first event a))
        ∙ ap (is_alike first) (sym (same_Some other row b)) ∙ is

differ_there : (decoded log : List Event) (event row : Event) → slice_get decoded (count_alike decoded log) ≡ Some event
    → slice_get log (count_alike decoded log) ≡ Some row → event ≢ row
differ_there decoded log event row a b same =
    true≢false (sym (event_same event) ∙ ap (is_alike event) same ∙ not_alike decoded log event row a b)

-- A row before a place is one of the first rows.
row_in_front : (many place : ℕ) (rows : List Event) → 1 ≤ many → place ≤ length rows
    → row_before many place (take place rows) ≡ row_before many place rows
row_in_front many place rows some within =
    let short = length-take-le place rows within in
    row_stays (take place rows) (drop place rows) many place some (omega (arith, short))
    ∙ ap (row_before many place) (take-append-drop place rows)

pub agree : (decoded log : List Event) → AgreeBefore decoded log
agree decoded log =
    let k = count_alike decoded log in
    let within = alike_within decoded log in
    let few = alike_few decoded log in
    let same = first_same decoded log in record {
      decoded_has = within;
      log_has = few;
      same = same;
      each = λ many some. sym (row_in_front many k decoded some within) ∙ ap (row_before many k) same
          ∙ row_in_front many k log some few;
      differ = λ event row a b. differ_there decoded log event row a b;
    }
