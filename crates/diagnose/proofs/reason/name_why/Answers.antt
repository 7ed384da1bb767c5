-- `reason::name_why` meets its contract.
use Rattle.diagnose.specs.AnswerLaws.{name-client, name-connection, name-port, name-channel, name-upgrade}
use Rattle.diagnose.proofs.reason.name_why.Goals as goal

pub returns-in-Client : goal.returns-in-Client
returns-in-Client c = name-client _ _ _ c.in-Client.is _ c.validate_client_identifier-refusal.ensures _ c.placeless.ensures c.fault_why.ensures

pub returns-in-Connection : goal.returns-in-Connection
returns-in-Connection c = name-connection _ _ _ c.in-Connection.is _ c.validate_connection_identifier-fault.ensures c.fault_why-in-Connection.ensures

pub returns-in-Port : goal.returns-in-Port
returns-in-Port c = name-port _ _ _ c.in-Port.is _ c.validate_port_identifier-refusal.ensures _ c.placeless-in-Port.ensures c.fault_why-in-Port.ensures

pub returns-in-Channel : goal.returns-in-Channel
returns-in-Channel c = name-channel _ _ _ c.in-Channel.is _ c.validate_channel_identifier-fault.ensures c.fault_why-in-Channel.ensures

pub returns-in-Upgrade : goal.returns-in-Upgrade
returns-in-Upgrade c = name-upgrade _ _ c.in-Upgrade.is
