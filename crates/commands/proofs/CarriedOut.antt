-- What words ask for, carried out.
use Rattle.std.proofs.Common.{◌≡◌, ◌∙◌, ℕ, List, Option, sym, ap, subst}
use Rattle.cli.specs.Asking.{WordsAsk}
use Rattle.log_streams.specs.Known.{Content}
use Rattle.command_inputs.specs.Status.{code_of}
use Rattle.command_inputs.specs.declared.status.Status.{Status}
use Rattle.command_inputs.specs.declared.words.Asked.{Asked}
use Rattle.commands.specs.Words.{AreCarriedOut, IsDone}

-- What the words ask for was done, and its status is the exit status.
pub carried_out : {O E : Type 0} (contents : O → Option (List ℕ)) (err_contents : E → Option (List ℕ))
    (content : Content) (words : List (List ℕ)) (asked : Asked) (status now : Status) (code : ℕ) (out mid new : O)
    (err err_mid err_new : E)
    → WordsAsk words asked → now ≡ status → code ≡ code_of now → new ≡ mid → err_new ≡ err_mid
    → IsDone content asked status (contents out) (contents mid) err_contents err err_mid
    → AreCarriedOut content words code (contents out) (contents new) err_contents err err_new
carried_out contents err_contents content words asked status now code out mid new err err_mid err_new asks is coded
    out_is err_is done = record {
      asked = asked;
      status = status;
      asks = asks;
      coded = coded ∙ ap code_of is;
      done = subst (λ e. IsDone content asked status (contents out) (contents new) err_contents err e) (sym err_is)
          (subst (λ o. IsDone content asked status (contents out) (contents o) err_contents err err_mid) (sym out_is)
          done);
    }
