-- Where the fields of the structs of C lie: how many bytes come before each, by include/tracebench.h. The prover
-- computes these places, so two fields that are exchanged, of one type too, are refused here, though by no contract.
use Rattle.std.proofs.Common.{◌≡◌, ℕ, refl, ◌+◌, List, [], ◌∷◌}
use base.Fml.{Lft, Fml, fsep}
use prog.Memory.{size}
use denote.RattleType.{RattleType}
use denote.Memory.{shared_of, lone}
use denote.Sharing.{beside, nothing}
use denote.Builtin.{u8, u16, u32, u64}
use denote.Array.{Array}
use denote.Ref.{NamedLft}
use denote.Slice.{ShrSlice}
use Rattle.ffi.specs.contracts.images.ImagePiece as ImagePiece
use Rattle.ffi.specs.contracts.numbers.PacketNumbers as PacketNumbers
use Rattle.ffi.specs.contracts.events.EventNumbers as EventNumbers
use Rattle.ffi.specs.contracts.encoder_state.EncoderNumbers as EncoderNumbers
use Rattle.ffi.specs.contracts.decoder_state.DecoderNumbers as DecoderNumbers
use Rattle.ffi.specs.contracts.receiving.HartNumbers as HartNumbers
use Rattle.ffi.specs.contracts.generating.WalkNumbers as WalkNumbers
use Rattle.ffi.specs.contracts.messages.MessageNumbers as MessageNumbers
use Rattle.ffi.specs.contracts.headers.HeaderNumbers as HeaderNumbers
use Rattle.ffi.specs.contracts.explaining_log.ExplainEnd as ExplainEnd
use Rattle.ffi.specs.contracts.encoding.LogPlace as LogPlace
use Rattle.ffi.specs.contracts.dumping.DumpEnd as DumpEnd
use Rattle.ffi.specs.contracts.decoding.HartEnd as HartEnd
use Rattle.ffi.specs.contracts.decoding.DecodeAllEnd as DecodeAllEnd
use Rattle.ffi.specs.contracts.texts.TextEnd as TextEnd
use Rattle.ffi.specs.contracts.path_numbers.HartTally as HartTally
use Rattle.ffi.specs.contracts.path_numbers.HartRowNumbers as HartRowNumbers
use Rattle.ffi.specs.contracts.path_numbers.Arrival as Arrival
use Rattle.ffi.specs.contracts.path_numbers.LostRun as LostRun
use Rattle.ffi.specs.contracts.path_numbers.ByteRun as ByteRun
use Rattle.ffi.specs.contracts.path_numbers.SentPlace as SentPlace
use Rattle.ffi.specs.contracts.path_numbers.PathEnd as PathEnd

-- A field: how many bytes come before it, its type, and what it holds.
data Placed : Type 2 where
  at : ℕ → (R : RattleType) → R.Denot → Placed

-- What a reference to fields at these places lends, where the struct begins at byte o of a block.
abbrev lying : List Placed → ℕ → ℕ → Lft → Fml
lying [] b o = nothing
lying (at k R x ∷ rest) b o = beside (shared_of R x b (o + k)) (lying rest b o)

-- What a reference to a struct lends of its fields; the other part is the struct as one cell.
abbrev of_fields : Fml → Fml
of_fields (fsep F G) = F
of_fields F = F

-- A struct of so many bytes has its fields at these places.
abbrev Lies : (R : RattleType) → ℕ → (R.Denot → List Placed) → Type 1
Lies R bytes fields = (size (lone R.mir) ≡ bytes)
    × ((d : R.Denot) (b o : ℕ) (κ : Lft) → of_fields (R.shr_at d b o κ) ≡ lying (fields d) b o κ)

piece_lies : (κs : NamedLft) → Lies (ImagePiece.the_row κs) 24 (λ d.
    at 0 u64 d.base ∷ at 8 (ShrSlice κs.mir κs.lft u8) d.bytes ∷ [])
piece_lies κs = (refl, λ d b o κ. refl)

packet_lies : Lies PacketNumbers.the_row 56 (λ d. at 0 u32 d.kind ∷ at 4 u32 d.taken ∷ at 8 u32 d.privilege ∷
    at 12 u32 d.cause ∷ at 16 u32 d.interrupt ∷ at 20 u32 d.handler ∷ at 24 u32 d.mode ∷ at 28 u32 d.report ∷
    at 32 u32 d.outcomes ∷ at 36 u32 d.map ∷ at 40 u64 d.address ∷ at 48 u64 d.tval ∷ [])
packet_lies = (refl, λ d b o κ. refl)

event_lies : Lies EventNumbers.the_row 24 (λ d. at 0 u32 d.kind ∷ at 4 u8 d.itype ∷ at 5 u8 d.privilege ∷
    at 6 u8 d.cause ∷ at 7 u8 d.interrupt ∷ at 8 u64 d.address ∷ at 16 u64 d.tval ∷ [])
event_lies = (refl, λ d b o κ. refl)

encoder_state_lies : Lies EncoderNumbers.the_row 56 (λ d. at 0 u16 d.between ∷ at 2 u16 d.left ∷ at 4 u32 d.mode ∷
    at 8 u32 d.holds ∷ at 12 u32 d.due ∷ at 16 u32 d.outcomes ∷ at 20 u32 d.map ∷ at 24 u64 d.reported ∷
    at 32 EventNumbers.the_row d.held ∷ [])
encoder_state_lies = (refl, λ d b o κ. refl)

decoder_state_lies : Lies DecoderNumbers.the_row 72 (λ d. at 0 u32 d.phase ∷ at 4 u32 d.mode ∷
    at 8 u32 d.is_announced ∷ at 12 u32 d.announced ∷ at 16 u32 d.has_last ∷ at 20 u32 d.waits ∷
    at 24 u32 d.outcomes ∷ at 28 u32 d.map ∷ at 32 u64 d.delta ∷ at 40 u64 d.reported ∷
    at 48 EventNumbers.the_row d.last ∷ [])
decoder_state_lies = (refl, λ d b o κ. refl)

hart_state_lies : Lies HartNumbers.the_row 80 (λ d. at 0 DecoderNumbers.the_row d.decoder ∷ at 72 u64 d.expected ∷ [])
hart_state_lies = (refl, λ d b o κ. refl)

walk_state_lies : Lies WalkNumbers.the_row 32 (λ d. at 0 u64 d.seed ∷ at 8 u64 d.random ∷ at 16 u64 d.at ∷
    at 24 u32 d.mix ∷ at 28 u16 d.hart ∷ at 30 u8 d.privilege ∷ at 31 u8 d.next ∷ [])
walk_state_lies = (refl, λ d b o κ. refl)

message_lies : Lies MessageNumbers.the_row 40 (λ d. at 0 u64 d.number ∷ at 8 u64 d.payload_length ∷ at 16 u16 d.hart ∷
    at 18 (Array u8 18) d.payload ∷ [])
message_lies = (refl, λ d b o κ. refl)

header_lies : Lies HeaderNumbers.the_row 8 (λ d. at 0 u32 d.mode ∷ at 4 u16 d.period ∷ at 6 u16 d.harts ∷ [])
header_lies = (refl, λ d b o κ. refl)

explain_end_lies : Lies ExplainEnd.the_row 16 (λ d. at 0 u64 d.row ∷ at 8 u32 d.fault ∷ [])
explain_end_lies = (refl, λ d b o κ. refl)

log_place_lies : Lies LogPlace.the_row 16 (λ d. at 0 u64 d.log ∷ at 8 u64 d.row ∷ [])
log_place_lies = (refl, λ d b o κ. refl)

dump_end_lies : Lies DumpEnd.the_row 16 (λ d. at 0 u64 d.place ∷ at 8 u32 d.fault ∷ at 12 u32 d.bad ∷ [])
dump_end_lies = (refl, λ d b o κ. refl)

hart_end_lies : Lies HartEnd.the_row 16 (λ d. at 0 u64 d.end ∷ at 8 u32 d.closed ∷ [])
hart_end_lies = (refl, λ d b o κ. refl)

decode_all_end_lies : Lies DecodeAllEnd.the_row 24 (λ d. at 0 u64 d.harts ∷ at 8 u64 d.place ∷ at 16 u32 d.fault ∷ [])
decode_all_end_lies = (refl, λ d b o κ. refl)

text_end_lies : Lies TextEnd.the_row 32 (λ d. at 0 u64 d.harts ∷ at 8 u64 d.unclosed ∷ at 16 u64 d.place ∷
    at 24 u32 d.fault ∷ at 28 u32 d.whole ∷ [])
text_end_lies = (refl, λ d b o κ. refl)

tally_lies : Lies HartTally.the_row 56 (λ d. at 0 u64 d.sent ∷ at 8 u64 d.came ∷ at 16 u64 d.lost ∷
    at 24 u64 d.repeated ∷ at 32 u64 d.late ∷ at 40 u64 d.changed ∷ at 48 u32 d.whole ∷ [])
tally_lies = (refl, λ d b o κ. refl)

hart_row_lies : Lies HartRowNumbers.the_row 112 (λ d. at 0 HartTally.the_row d.tally ∷ at 56 u64 d.strange ∷
    at 64 u64 d.extra ∷ at 72 u64 d.runs ∷ at 80 u64 d.longest ∷ at 88 u64 d.latest ∷ at 96 u64 d.exchanged ∷
    at 104 u64 d.exchanged_hart ∷ [])
hart_row_lies = (refl, λ d b o κ. refl)

arrival_lies : Lies Arrival.the_row 32 (λ d. at 0 u64 d.number ∷ at 8 u64 d.by ∷ at 16 u64 d.offset ∷
    at 24 u32 d.fate ∷ at 28 u16 d.hart ∷ [])
arrival_lies = (refl, λ d b o κ. refl)

lost_run_lies : Lies LostRun.the_row 24 (λ d. at 0 u64 d.first ∷ at 8 u64 d.last ∷ at 16 u64 d.hart ∷ [])
lost_run_lies = (refl, λ d b o κ. refl)

byte_run_lies : Lies ByteRun.the_row 16 (λ d. at 0 u64 d.offset ∷ at 8 u64 d.count ∷ [])
byte_run_lies = (refl, λ d b o κ. refl)

sent_place_lies : Lies SentPlace.the_row 16 (λ d. at 0 u64 d.message ∷ at 8 u64 d.expected ∷ [])
sent_place_lies = (refl, λ d b o κ. refl)

path_end_lies : Lies PathEnd.the_row 96 (λ d. at 0 u64 d.harts ∷ at 8 u64 d.messages ∷ at 16 u64 d.lost_runs ∷
    at 24 u64 d.byte_runs ∷ at 32 u64 d.bytes ∷ at 40 u64 d.strangers ∷ at 48 u64 d.first ∷
    at 56 HeaderNumbers.the_row d.sent_header ∷ at 64 HeaderNumbers.the_row d.received_header ∷
    at 72 u32 d.has_sent_header ∷ at 76 u32 d.has_received_header ∷ at 80 u32 d.header_fault ∷
    at 84 u32 d.headers_differ ∷ at 88 u32 d.has_first ∷ at 92 u32 d.whole ∷ [])
path_end_lies = (refl, λ d b o κ. refl)
