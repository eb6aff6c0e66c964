-- What is read by lengths to its end is read so: by lemmas on captures, which no tactic finds.
use Rattle.std.proofs.Common.{◌∙◌, None, refl, sym}
use Rattle.path_commands.proofs.ByHartLemmas.{whole_front}
use Rattle.path_commands.proofs.ReadSpans.{reads_whole}
use Rattle.path_commands.proofs.reading.read_whole.Goals as goal

pub returns : goal.returns
returns c = λ sent.
    let front = c.in_ok-front.front in
    let read = c.in_ok-front.ensures in
    reads_whole c.args.by sent c.args.harts c.args.count c.args.bytes.now read.front.0
    (record {
      header = front.header;
      fault = None;
      lists = front.lists;
      runs = c.new.result;
      read = record { messages = c.len-messages.result; bytes = 0; runs = 0 };
    })
    (whole_front c.args.bytes.now front.header read.front.0 front.stop read.front.1
    (sym c.is_some.ensures ∙ c.if-is_some.false)) refl read.front.2 read.by read.count c.new.ensures.items refl refl
