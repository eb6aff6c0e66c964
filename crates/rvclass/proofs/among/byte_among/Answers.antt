-- Which part has the byte is a lemma about parts in order.
use Rattle.std.proofs.Common.{◌-◌, arith}
use Rattle.rvclass.proofs.PieceBytesLemmas.{search_none}
use Rattle.rvclass.proofs.FoundLemmas.{at_below, found_byte}
use Rattle.rvclass.proofs.among.byte_among.Goals as goal

pub byte_of-requires : goal.byte_of-requires
byte_of-requires c =
    let some = c.if-count-eq0.false in
    let few = c.count_up_to-count.ensures.bound in
    at_below c.args.parts.now c.args.addr (c.count_up_to-count.result - 1) c.index-parts-count.result c.bytes.result.now
    (record {
      searchable = c.requires;
      inside = omega arith;
      is = c.index-parts-count.is;
      has = c.bytes.ensures;
    })

pub returns : goal.returns
returns c =
    let some = c.if-count-eq0.false in
    let few = c.count_up_to-count.ensures.bound in
    found_byte c.args.parts.now c.args.addr c.count_up_to-count.result c.index-parts-count.result c.bytes.result.now
    (record {
      searchable = c.requires;
      inside = omega arith;
      is = c.index-parts-count.is;
      has = c.bytes.ensures;
    })
    c.count_up_to-count.ensures.count some few c.byte_of.result c.byte_of.ensures

pub returns-then-count-eq0 : goal.returns-then-count-eq0
returns-then-count-eq0 c =
    search_none c.args.parts.now c.args.addr c.count_up_to-count.result c.requires
    c.count_up_to-count.ensures.count c.if-count-eq0.true
