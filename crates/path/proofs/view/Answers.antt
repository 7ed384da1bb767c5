-- `view` meets its contract: what an arm shows is the view of the case that the arm took.
use mathlib.Core.Path.{◌≡◌, sym, ap, ◌∙◌}
use mathlib.Core.Bool.{Bool}
use borrow.Author.Rules.{rules}
use Rattle.path.specs.declared.Path.{Path}
use Rattle.path.specs.declared.PathView.{PathView}
use Rattle.path.specs.View.{view_of}
use Rattle.path.proofs.view.Goals as goal

shows : (p q : Path) (x : Bool) (r : PathView) → p ≡ q → r ≡ view_of q x → r ≡ view_of p x
shows p q x r e f = f ∙ sym (ap (λ (z : Path). view_of z x) e)

pub returns-in-NextClientSequence : goal.returns-in-NextClientSequence
unfolding view_of
returns-in-NextClientSequence c = search (rules, shows)

pub returns-in-NextConnectionSequence : goal.returns-in-NextConnectionSequence
unfolding view_of
returns-in-NextConnectionSequence c = search (rules, shows)

pub returns-in-NextChannelSequence : goal.returns-in-NextChannelSequence
unfolding view_of
returns-in-NextChannelSequence c = search (rules, shows)

pub returns-in-ClientState : goal.returns-in-ClientState
unfolding view_of
returns-in-ClientState c = search (rules, shows)

pub returns-in-ClientConsensusState : goal.returns-in-ClientConsensusState
unfolding view_of
returns-in-ClientConsensusState c = search (rules, shows)

pub returns-in-ClientUpdateTime : goal.returns-in-ClientUpdateTime
unfolding view_of
returns-in-ClientUpdateTime c = search (rules, shows)

pub returns-in-ClientUpdateHeight : goal.returns-in-ClientUpdateHeight
unfolding view_of
returns-in-ClientUpdateHeight c = search (rules, shows)

pub returns-in-ClientConnection : goal.returns-in-ClientConnection
unfolding view_of
returns-in-ClientConnection c = search (rules, shows)

pub returns-in-Connection : goal.returns-in-Connection
unfolding view_of
returns-in-Connection c = search (rules, shows)

pub returns-in-Ports : goal.returns-in-Ports
unfolding view_of
returns-in-Ports c = search (rules, shows)

pub returns-in-ChannelEnd : goal.returns-in-ChannelEnd
unfolding view_of
returns-in-ChannelEnd c = search (rules, shows)

pub returns-in-SeqSend : goal.returns-in-SeqSend
unfolding view_of
returns-in-SeqSend c = search (rules, shows)

pub returns-in-SeqRecv : goal.returns-in-SeqRecv
unfolding view_of
returns-in-SeqRecv c = search (rules, shows)

pub returns-in-SeqAck : goal.returns-in-SeqAck
unfolding view_of
returns-in-SeqAck c = search (rules, shows)

pub returns-in-Commitment : goal.returns-in-Commitment
unfolding view_of
returns-in-Commitment c = search (rules, shows)

pub returns-in-Ack : goal.returns-in-Ack
unfolding view_of
returns-in-Ack c = search (rules, shows)

pub returns-in-Receipt : goal.returns-in-Receipt
unfolding view_of
returns-in-Receipt c = search (rules, shows)

pub returns-in-UpgradeClientState : goal.returns-in-UpgradeClientState
unfolding view_of
returns-in-UpgradeClientState c = search (rules, shows)

pub returns-in-UpgradeConsensusState : goal.returns-in-UpgradeConsensusState
unfolding view_of
returns-in-UpgradeConsensusState c = search (rules, shows)
