-- That one part's four bytes are those of all is a lemma about parts.
use Rattle.std.proofs.Common.{arith}
use Rattle.rvclass.proofs.FoundLemmas.{at_below, at_word}
use Rattle.rvclass.proofs.among.word_near.Goals as goal

pub word_of-requires-clause-below : goal.word_of-requires-clause-below
word_of-requires-clause-below c =
    at_below c.args.parts.now c.args.addr c.args.near c.index-parts-near.result c.bytes-bytes.result.now
    (record {
      searchable = c.requires;
      inside = omega arith;
      is = c.index-parts-near.is;
      has = c.bytes-bytes.ensures;
    })

pub returns : goal.returns
returns c =
    at_word c.args.parts.now c.args.addr c.args.near c.index-parts-near.result c.bytes-bytes.result.now
    (record {
      searchable = c.requires;
      inside = omega arith;
      is = c.index-parts-near.is;
      has = c.bytes-bytes.ensures;
    })
    c.word_of.result c.word_of.ensures.word c.word_of.ensures.low
