-- `holds` meets its contract: each step is one way out.
use Rattle.step.proofs.ConditionByStep.{testing}
use Rattle.step.proofs.+holds.Goals as goal

pub returns-then-depth-eq0 : goal.returns-then-depth-eq0
returns-then-depth-eq0 t c = search testing

pub returns-in-Greater : goal.returns-in-Greater
returns-in-Greater t c = search testing

pub returns-in-AtLeast : goal.returns-in-AtLeast
returns-in-AtLeast t c = search testing

pub returns-in-Equal : goal.returns-in-Equal
returns-in-Equal t c = search testing

pub returns-then-holds : goal.returns-then-holds
returns-then-holds t c = search testing

pub returns-else-holds : goal.returns-else-holds
returns-else-holds t c = search testing

pub returns-then-holds-2 : goal.returns-then-holds-2
returns-then-holds-2 t c = search testing

pub returns-else-holds-2 : goal.returns-else-holds-2
returns-else-holds-2 t c = search testing

pub returns-in-Negates : goal.returns-in-Negates
returns-in-Negates t c = search testing

pub returns-in-Nothing : goal.returns-in-Nothing
returns-in-Nothing t c = search testing
