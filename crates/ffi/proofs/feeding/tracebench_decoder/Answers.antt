-- A new decoder stands for nothing, and so do its numbers. It has no mode that was announced, and so have they.
use Rattle.std.proofs.Common.{[], None, sym, subst}
use Rattle.decoder.specs.Resuming.{HasMode}
use Rattle.ffi.proofs.DecodersBack.{mode_numbers}
use Rattle.ffi.proofs.feeding.tracebench_decoder.Goals as goal

pub returns-clause-stands : goal.returns-clause-stands
returns-clause-stands c = λ words. record {
  state = c.state.result;
  is = c.numbers_of_state.ensures;
  stands = c.state.ensures.stands words [] [] (c.new.ensures.stands words);
}

pub returns-clause-unannounced : goal.returns-clause-unannounced
returns-clause-unannounced c =
    mode_numbers c.numbers_of_state.result c.state.result c.numbers_of_state.ensures None
    (subst (HasMode None) (sym c.state.ensures.whole) c.new.ensures.unannounced)
