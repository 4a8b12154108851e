-- `note_widths` meets its contract: each way out is one law.
use Rattle.widths.proofs.CountedWidths.{noting}
use Rattle.widths.proofs.+note_widths.Goals as goal

pub returns-then-depth-eq0 : goal.returns-then-depth-eq0
returns-then-depth-eq0 t c = search noting

pub returns-in-Neither : goal.returns-in-Neither
returns-in-Neither t c = search noting

pub returns-in-Two : goal.returns-in-Two
returns-in-Two t c = search noting

pub returns-in-Call : goal.returns-in-Call
returns-in-Call t c = search noting
