-- The theorem is lemmas on lines and on passes.
use Rattle.captures.proofs.StreamedCaptures.{first_fault_streamed, lines_stream, parts_passed, passed_lines_stream}
use Rattle.captures.proofs.laws.lines_stream_the_capture.Goals as goal

pub returns-clause-capture : goal.returns-clause-capture
returns-clause-capture c = lines_stream

pub returns-clause-fault : goal.returns-clause-fault
returns-clause-fault c = first_fault_streamed

pub returns-clause-passed : goal.returns-clause-passed
returns-clause-passed c = passed_lines_stream

pub returns-clause-parts : goal.returns-clause-parts
returns-clause-parts c = parts_passed
