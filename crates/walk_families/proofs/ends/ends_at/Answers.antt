-- `ends_at` meets its contract.
use Prim.Native.Nat.{◌+◌}
use mathlib.Core.Path.{sym, ◌∙◌}
use Rattle.text.specs.Bytes.{bytes}
use Rattle.walk_scan.specs.WordLaws.{word_room}
use Rattle.walk_families.specs.PieceLaws.{ends-none, ends-no-word, ends-no-channel, ends-both}
use Rattle.walk_families.proofs.ends.ends_at.Goals as goal

pub returns-in_err-port : goal.returns-in_err-port
returns-in_err-port c = rw c.from_residual.ensures (ends-none c.args.text.now c.args.at (sym c.in_err-port.was ∙ c.plain_length.ensures.1))

pub returns-then-not-is_channels : goal.returns-then-not-is_channels
returns-then-not-is_channels c = ends-no-word c.args.text.now c.args.at c.in_ok-port.port c.in_ok-port.ensures.1 c.is_channels.result c.is_channels.ensures c.if-not-is_channels.true

pub channel_length-requires : goal.channel_length-requires
channel_length-requires c =
    word_room (bytes "/channels/") c.args.text.now (c.args.at + c.in_ok-port.port) (sym c.is_channels.ensures ∙ c.if-not-is_channels.false) c.in_ok-port.ensures.0

pub returns-in_err-channel : goal.returns-in_err-channel
returns-in_err-channel c = rw c.from_residual-in_err-channel.ensures (ends-no-channel c.args.text.now c.args.at c.in_ok-port.port c.in_ok-port.ensures.1 c.is_channels.result c.is_channels.ensures c.if-not-is_channels.false (sym c.in_err-channel.was ∙ c.channel_length.ensures.1))

pub returns : goal.returns
returns c = ends-both c.args.text.now c.args.at c.in_ok-port.port c.in_ok-port.ensures.1 c.is_channels.result c.is_channels.ensures c.if-not-is_channels.false c.in_ok-channel.channel c.in_ok-channel.ensures.1 c.in_ok-channel.ensures.0
