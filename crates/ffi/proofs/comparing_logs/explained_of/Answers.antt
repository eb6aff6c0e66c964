-- All of both are compared at once: no events came before.
use Rattle.std.proofs.Common.{◌≤◌, [], arith, inl, length}
use Rattle.comparing.specs.Compared.{HasCompared}
use Rattle.retire.specs.Log.{most_long_rows}
use Rattle.ffi.proofs.comparing_logs.explained_of.Goals as goal

pub returns : goal.returns
returns c = λ program.
    let decoded = c.args.decoded.now in
    let events = c.args.events.now in
    let short = c.requires in
    let few : length events ≤ most_long_rows = omega (arith, short) in
    let has : HasCompared decoded events c.add.new.self =
    c.add.ensures [] [] c.new-comparing.ensures (inl (omega arith), inl (omega arith)) few in
    let many = c.events.ensures decoded events has in
    let verdict = c.verdict.ensures decoded events has few in
    let row = c.row.ensures decoded events has few in
    let near = c.near.ensures decoded events has in
    λ i. record {
      line = record {
        hart = c.args.hart;
        events = many i;
        taken = c.args.count.taken;
        bytes = c.args.count.bytes;
        decoded = length decoded;
        verdict = verdict i;
      };
      row = row i;
      near = near i;
    }
