-- A beginning of the text was written: what it is of is handed over, which no tactic finds.
use Rattle.std.proofs.Common.{option_map, refl}
use Rattle.std.specs.List.{list_any}
use Rattle.std.proofs.lemmas.Result.{err_from_is_err_and}
use Rattle.frames.specs.Search.{chosen, is_damaged, search_text, stop_of}
use Rattle.frames.specs.Start.{spans_of}
use Rattle.frames.proofs.searched.search_harts.Goals as goal

pub returns-in_err-bad-clause-begun : goal.returns-in_err-bad-clause-begun
returns-in_err-bad-clause-begun g c =
    let made = err_from_is_err_and c.from_residual.result c.from_residual.ensures.1 in
    let start = c.start_of-start.result in
    rw made.1 (record {
      text = search_text (option_map (λ file. file.now) c.args.symbols) c.args.harts start.header c.args.capture.now;
      bad = list_any is_damaged (chosen c.args.harts (spans_of start.header c.args.capture.now));
      fault = stop_of start.fault;
      dumped = record {
        header = start.header;
        why = start.fault;
        start = c.start_of-start.ensures;
        stop = refl;
        flag = refl;
        lines = refl;
      };
      begun = c.write_found.ensures.begun;
    })
