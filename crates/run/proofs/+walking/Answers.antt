-- `walk` and `call`: each way out, and each turn, is one law.
use Rattle.run.proofs.WalkOfAWord.{calling, walking}
use Rattle.run.proofs.+walking.Goals as goal

pub call-returns-then-fuel-eq0 : goal.call-returns-then-fuel-eq0
call-returns-then-fuel-eq0 t c = search calling

pub call-returns-then-procedures-f : goal.call-returns-then-procedures-f
call-returns-then-procedures-f t c = search calling

pub call-returns : goal.call-returns
call-returns t c = search calling

pub walk-returns-in-Touches : goal.walk-returns-in-Touches
walk-returns-in-Touches t c = search walking

pub walk-loop-left-preserved-in-Sequence : goal.walk-loop-left-preserved-in-Sequence
walk-loop-left-preserved-in-Sequence t c = search walking

pub walk-loop-left-preserved-in-Chooses : goal.walk-loop-left-preserved-in-Chooses
walk-loop-left-preserved-in-Chooses t c = search walking

pub walk-loop-left-preserved : goal.walk-loop-left-preserved
walk-loop-left-preserved t c = search walking

pub walk-returns-in-Calls : goal.walk-returns-in-Calls
walk-returns-in-Calls t c = search walking

pub walk-returns-in-Nothing : goal.walk-returns-in-Nothing
walk-returns-in-Nothing t c = search walking

pub walk-returns : goal.walk-returns
walk-returns t c = search walking
