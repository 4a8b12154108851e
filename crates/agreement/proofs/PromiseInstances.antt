-- The promise at two worked programs: PAIRS with 3 qubits, and with 4 the program whose shared body needs a swap. All that it asks of them holds.
use Rattle.model.specs.Limits.{most_circuit, least_workspace}
use Rattle.model.specs.Examples.{pairs, pairs_circuit, needs_swap, swap_circuit}
use Rattle.model.proofs.WorkedPrograms.{worked}
use Rattle.model.specs.Demand.{Demand3}
use Rattle.agreement.proofs.CompilePromise.{compile_promises}

pairs_promised : Demand3 pairs 3 pairs_circuit
pairs_promised = (compile_promises pairs 3 most_circuit least_workspace worked.pairs_emitted).0

swap_promised : Demand3 needs_swap 4 swap_circuit
swap_promised = (compile_promises needs_swap 4 most_circuit least_workspace worked.swap_emitted).0
