-- What the proofs of several functions use.
mod GateAction
mod RunOfGates
mod CircuitRunAnswer
