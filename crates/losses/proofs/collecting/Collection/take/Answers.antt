-- What stands at the hart's place is found by lemmas on lists, which no tactic finds.
use Rattle.std.proofs.Common.{◌≡◌, ◌++◌, List, [], ◌∷◌, ℕ, Ok, get_or, length, set, sym, refl, subst, arith, slice_get}
use Rattle.std.specs.Prelude.{Some}
use Rattle.std.proofs.lemmas.Option.{slice_get_read}
use Rattle.rvclass.specs.Fetch.{words_of}
use Rattle.message.specs.Harts.{Harts}
use Rattle.message.specs.Lossy.{accepting_lossy, harts_after_lossy}
use Rattle.losses.specs.declared.part.HartPieces.{HartPieces}
use Rattle.losses.specs.steps.FollowingRuns.{FollowsEveryHart}
use Rattle.losses.proofs.AllRuns.{every_hart_next, every_hart_fault, within_of}
use Rattle.losses.proofs.collecting.Collection.take.Goals.{After-take}
use Rattle.losses.proofs.collecting.Collection.take.Goals as goal

-- What holds at a place holds where the place and the harts are named by what is equal to them.
moved : {T U : Type 0} (P : Harts → List T → List U → Type 0) (old new : Harts) (i j : ℕ) (traces : List T)
    (pieces : List U) (trace : T) (piece : U) → new ≡ old → j ≡ i
    → P old (set traces i trace) (set pieces i piece) → P new (set traces j trace) (set pieces j piece)
moved P old new i j traces pieces trace piece same from holds =
    subst (λ hs. P hs (set traces j trace) (set pieces j piece)) (sym same)
    (subst (λ h. P old (set traces h trace) (set pieces h piece)) (sym from) holds)

pub returns-in-Err-clause-takes : goal.returns-in-Err-clause-takes
returns-in-Err-clause-takes g c = record {
  of_any = λ messages f. tt;
}

module _ (g : _) (c : After-take g) where
  value : accepting_lossy c.args.self.now.demux c.args.message.now ≡ Ok (c.in-Ok.taken.0, c.in-Ok.taken.1)
  value = sym c.in-Ok.ensures.value

  found : {X : Type 0} (xs : List X) (x : X) → length xs ≡ length c.args.self.now.demux
      → x ≡ get_or xs c.from-hart.result x → slice_get xs c.args.message.now.hart ≡ Some x
  found xs x count read =
      let from = c.from-hart.ensures in
      let few = within_of c.args.self.now.demux c.args.message.now c.in-Ok.taken.0 c.in-Ok.taken.1 value in
      subst (λ h. slice_get xs h ≡ Some x) from
      (slice_get_read xs (length xs) c.from-hart.result x refl (omega (arith, from, count, few)) read)

  at_trace : slice_get c.args.self.now.traces.items c.args.message.now.hart ≡ Some c.index_mut.result.now
  at_trace = found c.args.self.now.traces.items c.index_mut.result.now c.requires.traces c.index_mut.ensures.value

  at_pieces : slice_get c.args.self.now.pieces.items c.args.message.now.hart ≡ Some c.index_mut-pieces.result.now
  at_pieces = found c.args.self.now.pieces.items c.index_mut-pieces.result.now c.requires.pieces
      c.index_mut-pieces.ensures.value

pub returns-in-Err-take-clause-takes : goal.returns-in-Err-take-clause-takes
returns-in-Err-take-clause-takes g c =
    let call = (goal.at.returns-in-Err-take-clause-takes g c).After-take in
    let demux = c.args.self.now.demux in
    let traces = c.args.self.now.traces.items in
    let pieces = c.args.self.now.pieces.items in
    let old = c.index_mut-pieces.result.now in
    let new : HartPieces _ = record old { parts = c.take.new.parts } in
    record {
      of_any = λ messages f.
          every_hart_fault (words_of c.args.program.now) c.args.mode messages c.args.message.now demux traces pieces f
          c.index_mut.result.now c.take.new.self old new
          (at_trace g call) (at_pieces g call) c.in-Ok.taken.0 c.in-Ok.taken.1 (value g call) c.in-Err-take.fault
          c.args.place c.fault_at.result c.in-Err-take.ensures c.fault_at.ensures.fault c.fault_at.ensures.either;
    }

pub returns-clause-takes : goal.returns-clause-takes
returns-clause-takes g c =
    let call = (goal.at.returns-clause-takes g c).After-take in
    let demux = c.args.self.now.demux in
    let traces = c.args.self.now.traces.items in
    let pieces = c.args.self.now.pieces.items in
    let after = harts_after_lossy demux c.args.message.now in
    let new : HartPieces _ = record { parts = c.take.new.parts; closed = c.is_closing-pieces.result } in
    record {
      of_any = λ messages f.
          moved (FollowsEveryHart (words_of c.args.program.now) c.args.mode (messages ++ c.args.message.now ∷ [])) after
          c.accept_lossy.new.self c.args.message.now.hart c.from-hart.result traces pieces c.take.new.self
          new c.accept_lossy.ensures.state c.from-hart.ensures
          (every_hart_next (words_of c.args.program.now) c.args.mode messages c.args.message.now demux traces pieces f
          c.index_mut.result.now c.take.new.self c.index_mut-pieces.result.now new
          (at_trace g call) (at_pieces g call) c.in-Ok.taken.0 c.in-Ok.taken.1 (value g call) c.in-Ok-take.ensures
          c.is_closing-pieces.ensures);
    }
