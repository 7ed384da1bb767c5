-- `fault::fault_at` meets its contract.
use Rattle.read_faults.specs.FaultLaws.{fault-room}
use borrow.Author.Rules.{rules}
use Rattle.read_faults.proofs.fault_at.Goals as goal

pub overflow_add-result : goal.overflow_add-result
overflow_add-result c = let h = fault-room _ _ _ c.read_number.ensures c.requires in search rules

pub overflow_add-result-in-Err-NotADigit : goal.overflow_add-result-in-Err-NotADigit
overflow_add-result-in-Err-NotADigit c = let h = fault-room _ _ _ c.read_number.ensures c.requires in search rules

pub overflow_add-result-in-Err-TooLarge : goal.overflow_add-result-in-Err-TooLarge
overflow_add-result-in-Err-TooLarge c = let h = fault-room _ _ _ c.read_number.ensures c.requires in search rules
