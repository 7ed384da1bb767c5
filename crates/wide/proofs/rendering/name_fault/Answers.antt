-- `wide::rendering::name_fault` meets its contract.
use Prim.Native.Nat.{ℕ}
use mathlib.Core.Path.{◌≡◌, ap}
use mathlib.Core.List.{List}
use Rattle.path.specs.declared.name.Name.{Name}
use Rattle.wide.specs.Mode.{wide}
use Rattle.wide.specs.Check.{fault_in}
use Rattle.wide.specs.Render.{name_fault_in}
use Rattle.wide.proofs.rendering.name_fault.Goals as goal

-- a check of the name that an arm took is the check of the name
named : (n m : Name) (c : List ℕ) (r : ℕ) → n ≡ m → r ≡ name_fault_in wide m c → r ≡ name_fault_in wide n c
named n m c r e h = rw e h

pub returns-in-Client : goal.returns-in-Client
unfolding name_fault_in
returns-in-Client c = cc

pub returns-in-Connection : goal.returns-in-Connection
unfolding name_fault_in fault_in
returns-in-Connection c = named _ _ _ _ c.in-Connection.is (ap (λ f. f.refusal) c.validate_connection_identifier-fault.ensures)

pub returns-in-Port : goal.returns-in-Port
unfolding name_fault_in
returns-in-Port c = cc

pub returns-in-Channel : goal.returns-in-Channel
unfolding name_fault_in fault_in
returns-in-Channel c = named _ _ _ _ c.in-Channel.is (ap (λ f. f.refusal) c.validate_channel_identifier-fault.ensures)

pub returns-in-Upgrade : goal.returns-in-Upgrade
unfolding name_fault_in
returns-in-Upgrade c = cc
