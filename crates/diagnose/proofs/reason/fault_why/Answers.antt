-- `reason::fault_why` meets its contract.
use Rattle.diagnose.specs.FaultLaws.{fault-char, fault-length, fault-prefix, fault-number}
use Rattle.diagnose.proofs.reason.fault_why.Goals as goal

pub returns-then-refusal-eq-BAD_CHAR : goal.returns-then-refusal-eq-BAD_CHAR
returns-then-refusal-eq-BAD_CHAR c = fault-char _ _ _ _ _ c.if-refusal-eq-BAD_CHAR.true _ c.identifier_run.ensures

pub returns-then-refusal-eq-BAD_LENGTH : goal.returns-then-refusal-eq-BAD_LENGTH
returns-then-refusal-eq-BAD_LENGTH c = fault-length _ _ _ _ _ c.if-refusal-eq-BAD_CHAR.false c.if-refusal-eq-BAD_LENGTH.true _ c.length_why.ensures

pub returns-then-refusal-eq-BAD_PREFIX : goal.returns-then-refusal-eq-BAD_PREFIX
returns-then-refusal-eq-BAD_PREFIX c = fault-prefix _ _ _ _ _ c.if-refusal-eq-BAD_CHAR.false c.if-refusal-eq-BAD_LENGTH.false c.if-refusal-eq-BAD_PREFIX.true _ c.prefix_why.ensures

pub returns : goal.returns
returns c = fault-number _ _ _ _ _ c.if-refusal-eq-BAD_CHAR.false c.if-refusal-eq-BAD_LENGTH.false c.if-refusal-eq-BAD_PREFIX.false _ c.saturating_sub.ensures
