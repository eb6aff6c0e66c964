-- The lines that are made of logs are those of the harts.
use Rattle.std.proofs.Math.Nat.{min-eq_left}
use Rattle.std.proofs.Common.{◌≡◌, ◌∙◌, ◌+◌, ◌<◌, ◌^◌, ℕ, suc, Bool, false, List, [], ◌∷◌, Some, Ok, ap, arith, get_or, inl, inr}
use Rattle.std.proofs.Common.{length, map, refl, slice_get, subst, sym}
use Rattle.std.proofs.lemmas.Option.{get_or_from_slice_get, same_Some, slice_get-get_or, slice_get-map, slice_get_within}
use Rattle.std.specs.List.{AllZip}
use Rattle.std.specs.Option.{option_map}
use Rattle.std.specs.declared.vec.Vec.{Vec}
use Rattle.bench.specs.Got.{Got}
use Rattle.command_inputs.proofs.StreamLemmas.{log_read_in}
use Rattle.command_inputs.specs.Faults.{Path}
use Rattle.command_inputs.specs.FoundLogs.{IsLegalLogUpTo}
use Rattle.comparing.specs.Compared.{got_by, gots_by, of_harts}
use Rattle.comparing.specs.Explained.{explained_hart, explained_harts}
use Rattle.comparing.specs.declared.hart_count.HartCount.{HartCount}
use Rattle.comparing.specs.declared.explained.ExplainedHart.{ExplainedHart}
use Rattle.log_streams.specs.Known.{Content}
use Rattle.parallel_decode.specs.Placed.{ArePlacedLogs, IsPlacedLog}
use Rattle.legalpath.specs.ProgramLog.{ProgramLog, program_log}
use Rattle.log_streams.specs.Made.{AreMade, IsMadeOf}
use Rattle.message.proofs.Elements.{slice_get-some}
use Rattle.retire.specs.declared.event.Event.{Event}
use Rattle.rvclass.specs.Image.{Image}
use Rattle.rvclass.specs.Words.{Words}
use Rattle.capture_commands.specs.declared.reason.CaptureReason.{CaptureReason}
use Rattle.comparing.specs.steps.Held.{count_in, got_at}
use Rattle.capture_commands.specs.steps.Lines.{AreLinesOfLogs}
use Rattle.comparing.proofs.DecodedHarts.{gots_many}
use Rattle.comparing.proofs.SomeHarts.{got_of, hart_there, hart_within}
use Rattle.capture_commands.specs.steps.Places.{hart_at_place, places_in}
use Rattle.message.specs.declared.range.HartRange.{HartRange}

-- This is made of the events of a log, where the messages of harts are at these places.
abbrev pub OfEvents : {A : Type 0} → Words → List ℕ → List (Vec ℕ A) → Image → List HartCount → List Bool → ℕ → ℕ
    → List Event → ExplainedHart → Type 0
OfEvents words messages places program counts closed first place events line =
    (log : List Event) → IsPlacedLog words messages (places_in places (hart_at_place first place)) log
    → line ≡ explained_hart (hart_at_place first place) (got_by (count_in counts (hart_at_place first place)) log
    (get_or closed (hart_at_place first place) false)) (program_log program events)

-- The messages of a hart are at its places.
placed_at : {A : Type 0} (words : Words) (messages : List ℕ) (places : List (Vec ℕ A)) (lists : List (List Event))
    (hart : ℕ) → ArePlacedLogs words messages places lists → hart < length lists
    → IsPlacedLog words messages (places_in places hart) (get_or lists hart [])
placed_at {A} words messages places lists hart are within =
    let count = are.count in
    let own = slice_get-some places hart (omega (arith, within, count)) in
    let same : places_in places hart ≡ own.0.items =
    get_or_from_slice_get (map (λ (own : Vec ℕ A). own.items) places) hart own.0.items []
    (slice_get-map (λ (own : Vec ℕ A). own.items) places hart ∙ ap (option_map (λ (own : Vec ℕ A). own.items)) own.1) in
    subst (λ own. IsPlacedLog words messages own (get_or lists hart [])) (sym same)
    (are.each hart own.0 (get_or lists hart []) own.1 (slice_get-get_or lists hart [] within))

module _ (rows : ℕ) (content : Content) (program : Image) where
  -- The legal log at a path, and the line of it.
  record LineAt (hart : ℕ) (got : Got) (path : Path) (line : ExplainedHart) : Type 0 where
    pub log : ProgramLog
    pub legal : IsLegalLogUpTo {W = CaptureReason} rows content program path (Ok log)
    pub is : line ≡ explained_hart hart got log

  -- The logs of harts, from this one on, and their lines.
  record LinesFrom (hart : ℕ) (gots : List Got) (paths : List Path) (lines : List ExplainedHart) : Type 0 where
    pub logs : List ProgramLog
    pub legal : AllZip (λ path log. IsLegalLogUpTo {W = CaptureReason} rows content program path (Ok log)) paths logs
    pub many : length logs ≡ length gots
    pub each : lines ≡ explained_harts hart gots logs

  lines_from : (hart : ℕ) (gots : List Got) (paths : List Path) (lines : List ExplainedHart)
      → length paths ≡ length gots → length lines ≡ length paths
      → ((i : ℕ) (got : Got) (path : Path) (line : ExplainedHart) → slice_get gots i ≡ Some got
      → slice_get paths i ≡ Some path → slice_get lines i ≡ Some line → LineAt (hart + i) got path line)
      → LinesFrom hart gots paths lines
  lines_from hart [] [] [] same many each = record { logs = []; legal = tt; many = refl; each = refl }
  lines_from hart [] [] (line ∷ lines) same many each = absurd (omega (arith, many))
  lines_from hart [] (path ∷ paths) lines same many each = absurd (omega (arith, same))
  lines_from hart (got ∷ gots) [] lines same many each = absurd (omega (arith, same))
  lines_from hart (got ∷ gots) (path ∷ paths) [] same many each = absurd (omega (arith, many))
  lines_from hart (got ∷ gots) (path ∷ paths) (line ∷ lines) same many each =
      let here = each 0 got path line refl refl refl in
      let rest = lines_from (hart + 1) gots paths lines (omega (arith, same)) (omega (arith, many))
      (λ i got path line a b c. subst (λ hart. LineAt hart got path line) (omega arith) (each (suc i) got path line a b c))
      in
      let first : hart + 0 ≡ hart = omega arith in record {
        logs = here.log ∷ rest.logs;
        legal = (here.legal, rest.legal);
        many = ap (λ n. suc n) rest.many;
        each = ap (λ one. one ∷ lines) (here.is ∙ ap (λ hart. explained_hart hart got here.log) first)
            ∙ ap (λ others. explained_hart hart got here.log ∷ others) rest.each;
      }

  module _ {A : Type 0} (words : Words) (messages : List ℕ) (places : List (Vec ℕ A)) (range : HartRange)
      (few : range.last < 2 ^ 64) (counts : List HartCount) (lists : List (List Event)) (closed : List Bool)
      (flags : length closed ≡ length lists) (placed : ArePlacedLogs words messages places lists) where
    abbrev gots : List Got
    gots = of_harts range (gots_by (count_in counts) 0 lists closed)

    abbrev Of : ℕ → List Event → ExplainedHart → Type 0
    Of = OfEvents words messages places program counts closed range.first

    line_at : (place : ℕ) (got : Got) (path : Path) (line : ExplainedHart) → slice_get gots place ≡ Some got
        → IsMadeOf Of (λ events row line. ⊥) (content path.now) program rows place (Ok line)
        → LineAt (range.first + place) got path line
    line_at place got path line there (inl made) =
        let within = slice_get_within gots place got there in
        let below = hart_within range (gots_by (count_in counts) 0 lists closed) place within in
        let hart : hart_at_place range.first place ≡ range.first + place = min-eq_left (omega (arith, below, few)) in
        let there_too = hart_there range (gots_by (count_in counts) 0 lists closed) place within in
        let many = gots_many (count_in counts) 0 lists closed flags in
        let listed : range.first + place < length lists = omega (arith, there_too, many) in
        let own = placed_at words messages places lists (range.first + place) placed listed in
        let is = same_Some (got_at counts lists closed (range.first + place)) got
        (sym (got_of range counts place lists closed flags within) ∙ there) in
        record {
          log = program_log program made.events;
          legal = record {
            events = Ok made.events;
            read = log_read_in rows content path made.events made.read;
            judged = (refl, made.legal.legal);
          };
          is = subst (λ hart. IsPlacedLog words messages (places_in places hart) (get_or lists (range.first + place) [])
              → line ≡ explained_hart hart (got_by (count_in counts hart) (get_or lists (range.first + place) [])
              (get_or closed hart false)) (program_log program made.events)) hart
              (made.makes (get_or lists (range.first + place) [])) own
              ∙ ap (λ got. explained_hart (range.first + place) got (program_log program made.events)) is;
        }
    line_at place got path line there (inr made) = elim made.makes [ ]

    -- All logs are legal, and these are the lines.
    pub lines_made : (paths : List Path) (lines : List ExplainedHart) (end : Unit {0}) → length paths ≡ length gots
        → AreMade Of (λ events row line. ⊥) content program rows paths lines (Ok end)
        → AreLinesOfLogs rows content program paths range.first gots lines
    lines_made paths lines end same are =
        let front = lines_from range.first gots paths lines same (are.all refl) (λ i got path line a b c.
        line_at i got path line a (are.each i path line b c)) in record {
          logs = front.logs;
          legal = front.legal;
          many = front.many;
          each = front.each;
        }
