-- What is found behind a capture's start is what is found of the capture.
use Rattle.std.proofs.Common.{◌≡◌, ℕ, List, Option, subst, sym}
use Rattle.message.specs.Range.{selected}
use Rattle.message.specs.declared.range.HartRange.{HartRange}
use Rattle.message.specs.declared.fault.MessageFault.{MessageFault}
use Rattle.message.specs.declared.header.Header.{Header}
use Rattle.rvclass.specs.Image.{Image}
use Rattle.salvaging.specs.Salvages.{GivesSalvaged}
use Rattle.frames.specs.Harts.{harts_counted}
use Rattle.frames.specs.Search.{chosen, mode_of}
use Rattle.frames.specs.Start.{IsStart, spans_of}
use Rattle.salvage_reports.specs.Found.{IsFound, IsFoundBehind}
use Rattle.salvage_reports.specs.Frames.{AreFrames, messages_in}
use Rattle.salvage_reports.specs.declared.found.Found.{Found}

pub found_of_capture : (header : Option Header) (why : Option MessageFault) (harts : ℕ) (only : HartRange)
    (asked : Option ℕ) (program : Image) (bytes : List ℕ) (found : Found) → IsStart bytes header why
    → harts ≡ harts_counted asked header bytes → IsFoundBehind header why harts only program bytes found
    → IsFound only asked program bytes found
found_of_capture header why harts only asked program bytes found start count is =
    let here = sym is.header_is in
    record {
      only_is = is.only_is;
      salvaged = record {
        start =
            subst (λ h. IsStart bytes h found.fault) here
            (subst (λ w. IsStart bytes header w) (sym is.fault_is) start);
        left =
            subst (λ h. GivesSalvaged program (harts_counted asked h bytes) (mode_of h)
            (selected only (messages_in (spans_of h bytes))) found.salvaged) here
            (subst (λ n. GivesSalvaged program n (mode_of header) (selected only (messages_in (spans_of header bytes)))
            found.salvaged) count is.left);
      };
      frames =
          subst (λ h. AreFrames (harts_counted asked h bytes) (chosen only (spans_of h bytes)) found.frames) here
          (subst (λ n. AreFrames n (chosen only (spans_of header bytes)) found.frames) count is.frames);
    }
